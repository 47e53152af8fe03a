-- Threads and objects that look the same.
use Rattle.std.proofs.Common.{◌≡◌, ◌<◌, ◌+◌, ◌++◌, Bool, true, false, ℕ, zero, suc, List, [], ◌∷◌, length, get_or, map, refl, sym, ap, ◌∙◌, arith, Some, cond, inl, inr}
use Rattle.std.specs.Prelude.{slice_get, ◌&&◌, drop}
use Rattle.std.specs.List.{AllByRecursion, slice_index_or}
use Rattle.std.proofs.lemmas.Option.{same_Some}
use Rattle.ir_lemmas.proofs.CallerLemmas.{slice_get_satisfies}
use Rattle.ir_thread_bytes.specs.Basis.{Basis, IsBasis}
use Rattle.ir_thread_bytes.specs.Frozen.{end_bytes, going_bytes, frozen, is_over}
use Rattle.ir_thread_bytes.specs.Twins.{AreTwins, TellsApart, KeepsBounds}
use Rattle.ir_thread_bytes.proofs.CallerLemmas.{same_bytes_over_same}
use Rattle.ir_likeness.specs.Seen.{Same, view}
use Rattle.ir_world.specs.Sources.{Source}
use Rattle.ir_thread.specs.State.{ThreadState}
use Rattle.ir_object.specs.Empty.{empty}
use Rattle.ir_state_store.specs.declared.spot.Spot.{Spot}
use Rattle.ir_state_store.specs.Nodes.{MomentsLookSame, cell_in}
use Rattle.ir_state_store.specs.Table.{idle_beside, AreLooks, all_over, threads_at}
use Rattle.ir_state_store.proofs.Lists.{drop_begins_element}

-- the mark is no part of the bytes of a thread that is over
over_bytes_ignore_mark : (basis : Basis) (x : ThreadState) (m n : List ℕ) → is_over x ≡ true → frozen basis x m ≡ frozen basis x n
over_bytes_ignore_mark basis x m n over =
    ap (λ b. end_bytes x.ended ++ cond b (1 ∷ x.output) (0 ∷ going_bytes basis x m)) over
    ∙ sym (ap (λ b. end_bytes x.ended ++ cond b (1 ∷ x.output) (0 ∷ going_bytes basis x n)) over)

-- threads with equal bytes, one of which is over or whose sources are the same, look the same beside these
same_beside_sources : TellsApart → (basis : Basis) → IsBasis basis → (x y : ThreadState × Source) → AreTwins x.0 y.0 → KeepsBounds x.0
    → KeepsBounds y.0 → frozen basis x.0 [] ≡ frozen basis y.0 [] → (b : Bool) → is_over x.0 ≡ b → (is_over x.0 ≡ false → x.1 ≡ y.1)
    → Same {S = List ℕ} basis.code (view x.0, []) (view y.0, []) → Same {S = Source} basis.code (view x.0, x.1) (view y.0, y.1)
same_beside_sources tells basis whole x y twins bx by bytes b over sources (inr (inr done)) = inr (inr done)
same_beside_sources tells basis whole x y twins bx by bytes false over sources (inl e) =
    let views : view x.0 ≡ view y.0 = ap (λ (p : ThreadState × List ℕ). p.0) e in
    let answers : x.1 ≡ y.1 = sources over in
    inl (λ i. (views i, answers i))
same_beside_sources tells basis whole x y twins bx by bytes false over sources (inr (inl d)) = inr (inl (d.0, sources over))
same_beside_sources tells basis whole x y twins bx by bytes true over sources seen =
    let over_y : is_over y.0 ≡ true = sym (same_bytes_over_same basis x.0 y.0 [] [] bytes) ∙ over in
    let marked : frozen basis x.0 (0 ∷ []) ≡ frozen basis y.0 (1 ∷ []) =
    over_bytes_ignore_mark basis x.0 (0 ∷ []) [] over ∙ bytes ∙ over_bytes_ignore_mark basis y.0 [] (1 ∷ []) over_y in
    elim ((tells basis whole x.0 y.0 twins bx by (0 ∷ []) (1 ∷ []) refl).0 marked) [
      | inl p ↦ absurd (let h : 0 ≡ 1 = ap (λ (q : ThreadState × List ℕ). get_or q.1 0 0) p in omega (arith, h))
      | inr (inl d) ↦ absurd (let h : 0 ≡ 1 = ap (λ (q : List ℕ). get_or q 0 0) d.1 in omega (arith, h))
      | inr (inr done) ↦ inr (inr done)
    ]

-- threads that one number stands for look the same
pub same_numbers_look_same : TellsApart → (basis : Basis) (items : List (ThreadState × Source)) (looks : List ℕ) → IsBasis basis
    → AllByRecursion (λ (x : ThreadState × Source). KeepsBounds x.0) items
    → AreLooks basis items looks → (m n k : ℕ) → slice_get looks m ≡ Some k → slice_get looks n ≡ Some k → (x y : ThreadState × Source)
    → slice_get items m ≡ Some x → slice_get items n ≡ Some y → MomentsLookSame basis.code x y
same_numbers_look_same tells basis items looks whole bounded all m n k one other x y here there twins =
    let a = all m k x one here in
    let b = all n k y other there in
    let same : a.kept ≡ b.kept = same_Some a.kept b.kept (sym a.at ∙ b.at) in
    let bx : KeepsBounds x.0 = slice_get_satisfies (λ (z : ThreadState × Source). KeepsBounds z.0) items m x bounded here in
    let by : KeepsBounds y.0 = slice_get_satisfies (λ (z : ThreadState × Source). KeepsBounds z.0) items n y bounded there in
    let bytes : frozen basis x.0 [] ≡ frozen basis y.0 [] = sym a.bytes ∙ ap (λ (z : ThreadState × Source). frozen basis z.0 []) same ∙ b.bytes in
    let over : is_over x.0 ≡ is_over y.0 = same_bytes_over_same basis x.0 y.0 [] [] bytes in
    same_beside_sources tells basis whole x y twins bx by bytes (is_over x.0) refl
    (λ going. sym (a.source going) ∙ ap (λ (z : ThreadState × Source). z.1) same ∙ b.source (sym over ∙ going))
    ((tells basis whole x.0 y.0 twins bx by [] [] refl).0 bytes)

-- one thread more of which it is known whether it is over
pub all_over_threads_step : (items : List (ThreadState × Source)) (numbers : List ℕ) (i : ℕ) (b : Bool) → i < length numbers
    → b ≡ is_over (get_or items (get_or numbers i 0) idle_beside).0
    → all_over (threads_at items (drop i numbers)) ≡ all_over (threads_at items numbers)
    → (b && all_over (threads_at items (drop (i + 1) numbers))) ≡ all_over (threads_at items numbers)
all_over_threads_step items numbers i b lt is before =
    let next : i + 1 ≡ suc i = omega arith in
    ap (λ k. b && all_over (threads_at items (drop k numbers))) next
    ∙ ap (λ z. z && all_over (threads_at items (drop (suc i) numbers))) is
    ∙ sym (ap (λ l. all_over (threads_at items l)) (drop_begins_element numbers i 0 lt)) ∙ before

-- objects with the same numbers have the same words
pub same_numbers_same_words : (words : List (List ℕ)) (first second : List Spot) → length first ≡ length second
    → ((o : ℕ) → o < length first → (d e : Spot) → (get_or first o d).words ≡ (get_or second o e).words) → (o : ℕ)
    → (slice_index_or (map (cell_in words) first) o empty).words ≡ (slice_index_or (map (cell_in words) second) o empty).words
same_numbers_same_words words [] [] size each o = refl
same_numbers_same_words words [] (s ∷ second) size each o = absurd (omega (arith, size))
same_numbers_same_words words (s ∷ first) [] size each o = absurd (omega (arith, size))
same_numbers_same_words words (s ∷ first) (z ∷ second) size each zero = ap (λ n. slice_index_or words n []) (each zero (omega arith) s z)
same_numbers_same_words words (s ∷ first) (z ∷ second) size each (suc o) =
    same_numbers_same_words words first second (omega (arith, size)) (λ p lt d e. each (suc p) (omega (arith, lt)) d e) o
