-- Threads that look the same beside what answers them.
use Rattle.std.proofs.Common.{◌≡◌, ◌⊎◌, ◌<◌, ◌≤◌, ◌++◌, Bool, true, false, ℕ, List, [], ◌∷◌, length, get_or, refl, sym, ap, ◌∙◌, subst, arith, Some, None, cond, inl, inr}
use Rattle.std.specs.Prelude.{slice_get}
use Rattle.std.proofs.lemmas.List.{length-append}
use Rattle.std.proofs.lemmas.Option.{same_Some, slice_get_within, slice_get-get_or}
use Rattle.ir_lemmas.proofs.CallerLemmas.{slice_get-push_cases}
use Rattle.ir_thread_bytes.specs.Basis.{Basis, IsBasis}
use Rattle.ir_thread_bytes.specs.Frozen.{frozen, is_over}
use Rattle.ir_thread_bytes.specs.Twins.{AreTwins, TellsApart, KeepsBounds}
use Rattle.ir_thread_bytes.proofs.CallerLemmas.{over_if_shared_ask_done, same_bytes_over_same}
use Rattle.ir_likeness.specs.Seen.{view}
use Rattle.ir_world.specs.Sources.{Source}
use Rattle.ir_thread.specs.State.{ThreadState}
use Rattle.ir_state_store.specs.Hashes.{empty_hash, after_numbers, IsFoundBy, KeepsFound, PassesOver, hash_place, hashed_number_at, most_steps}
use Rattle.ir_state_store.specs.Nodes.{MomentsLookSame}
use Rattle.ir_state_store.specs.Table.{Table, LooksLike, AreLooks, AreLike, AreOnce, HaveOneLook, StandsForNode, mark_of_spot, seen_hash, whole_hash}
use Rattle.ir_state_store.proofs.Found.{each_once_push, each_found_push, all_passed_none_found}

module _ (basis : Basis) where
  over_together : (x y : ThreadState × Source) → AreLike basis x y → is_over x.0 ≡ is_over y.0
  over_together x y like = same_bytes_over_same basis x.0 y.0 [] [] like.bytes

  pub like_back : (x y : ThreadState × Source) → AreLike basis x y → AreLike basis y x
  like_back x y like = record { bytes = sym like.bytes; source = λ going. sym (like.source (sym (over_together x y like) ∙ going)) }

  pub like_along : (x y z : ThreadState × Source) → AreLike basis x y → AreLike basis y z → AreLike basis x z
  like_along x y z a b = record {
    bytes = a.bytes ∙ b.bytes;
    source = λ going. a.source (over_together y z b ∙ going) ∙ b.source going;
  }

  -- what looks like a thread of a table
  pub like_of_kept : (items : List (ThreadState × Source)) (n : ℕ) (x y : ThreadState × Source) → LooksLike basis items n x → slice_get items n ≡ Some y
      → AreLike basis y x
  like_of_kept items n x y like at =
      let same : like.kept ≡ y = same_Some like.kept y (sym like.at ∙ at) in
      subst (λ z. AreLike basis z x) same (record { bytes = like.bytes; source = like.source })

  pub looks_like_if_like_kept : (items : List (ThreadState × Source)) (n : ℕ) (x y : ThreadState × Source) → slice_get items n ≡ Some y → AreLike basis y x
      → LooksLike basis items n x
  looks_like_if_like_kept items n x y at like = record { kept = y; at = at; bytes = like.bytes; source = like.source }

  pub looks_like_along : (items : List (ThreadState × Source)) (n : ℕ) (x y : ThreadState × Source) → LooksLike basis items n x → AreLike basis x y
      → LooksLike basis items n y
  looks_like_along items n x y like also =
      looks_like_if_like_kept items n y like.kept like.at (like_along like.kept x y (like_of_kept items n x like.kept like like.at) also)

  abbrev hash_by : Bool → ThreadState × Source → ℕ
  hash_by over x = cond over (after_numbers empty_hash (frozen basis x.0 [])) (after_numbers (after_numbers empty_hash (frozen basis x.0 [])) (mark_of_spot x.1))

  hash_by_equal : (b : Bool) (x y : ThreadState × Source) → is_over y.0 ≡ b → AreLike basis x y → hash_by b x ≡ hash_by b y
  hash_by_equal true x y is like = ap (after_numbers empty_hash) like.bytes
  hash_by_equal false x y is like = λ i. after_numbers (after_numbers empty_hash (like.bytes i)) (mark_of_spot (like.source is i))

  pub seen_hash_equal_if_like : (x y : ThreadState × Source) → AreLike basis x y → seen_hash basis x ≡ seen_hash basis y
  seen_hash_equal_if_like x y like = ap (λ b. hash_by b x) (over_together x y like) ∙ hash_by_equal (is_over y.0) x y refl like

-- one thread more, beside the number that stands for it
module _ (seen seen' : List (ℕ × ℕ)) (t : Table) (x : ThreadState × Source) (k : ℕ) (is : HaveOneLook seen t) (keeps : KeepsFound seen seen')
    (found : IsFoundBy seen' (seen_hash t.basis x) k) (one : StandsForNode t x k) where
  old_less : {X : Type 0} (xs : List X) (n : ℕ) (z : X) → slice_get xs n ≡ Some z → n ≡ length xs → ⊥
  old_less xs n z e same = let l = slice_get_within xs n z e in omega (arith, l, same)

  -- both are old, or both are the new ones
  place_after : (n j : ℕ) (y : ThreadState × Source) → slice_get (t.items ++ x ∷ []) n ≡ Some y → slice_get (t.looks ++ k ∷ []) n ≡ Some j
      → ((slice_get t.items n ≡ Some y) × (slice_get t.looks n ≡ Some j)) ⊎ ((x ≡ y) × (k ≡ j))
  place_after n j y at stands = elim (slice_get-push_cases t.items x n y at) [
    | inl a ↦ elim (slice_get-push_cases t.looks k n j stands) [
      | inl b ↦ inl (a, b)
      | inr b ↦ absurd (old_less t.items n y a (b.0 ∙ is.each))
    ]
    | inr a ↦ elim (slice_get-push_cases t.looks k n j stands) [
      | inl b ↦ absurd (old_less t.looks n j b (a.0 ∙ sym is.each))
      | inr b ↦ inr (a.1, b.1)
    ]
  ]

  one_after : (m n i j : ℕ) (y z : ThreadState × Source) → slice_get (t.items ++ x ∷ []) m ≡ Some y → slice_get (t.items ++ x ∷ []) n ≡ Some z
      → slice_get (t.looks ++ k ∷ []) m ≡ Some i → slice_get (t.looks ++ k ∷ []) n ≡ Some j → AreLike t.basis y z → i ≡ j
  one_after m n i j y z aty atz ati atj like = elim (place_after m i y aty ati) [
    | inl a ↦ elim (place_after n j z atz atj) [
      | inl b ↦ is.one m n i j y z a.0 b.0 a.1 b.1 like
      | inr b ↦ one m i y a.0 a.1 (subst (AreLike t.basis y) (sym b.0) like) ∙ b.1
    ]
    | inr a ↦ elim (place_after n j z atz atj) [
      | inl b ↦ sym a.1 ∙ sym (one n j z b.0 b.1 (like_back t.basis x z (subst (λ w. AreLike t.basis w z) (sym a.0) like)))
      | inr b ↦ sym a.1 ∙ b.1
    ]
  ]

  pub one_look_after_push : HaveOneLook seen' (record t { items = t.items ++ x ∷ []; looks = t.looks ++ k ∷ [] })
  one_look_after_push = record {
    each = let a = is.each in let b = length-append t.looks (k ∷ []) in let c = length-append t.items (x ∷ []) in omega (arith, a, b, c);
    found = λ n j y at stands. elim (place_after n j y at stands) [
      | inl a ↦ keeps (seen_hash t.basis y) j (is.found n j y a.0 a.1)
      | inr a ↦ subst (λ z. IsFoundBy seen' (seen_hash t.basis z) j) a.0 (subst (IsFoundBy seen' (seen_hash t.basis x)) a.1 found)
    ];
    one = one_after;
  }

-- nothing more than places are taken
pub one_look_after_notes : (seen seen' : List (ℕ × ℕ)) (t : Table) → HaveOneLook seen t → KeepsFound seen seen' → HaveOneLook seen' t
one_look_after_notes seen seen' t is keeps = record {
  each = is.each;
  found = λ n k x at stands. keeps (seen_hash t.basis x) k (is.found n k x at stands);
  one = is.one;
}

pub once_after_notes : (whole whole' : List (ℕ × ℕ)) (t : Table) → AreOnce whole t → KeepsFound whole whole' → AreOnce whole' t
once_after_notes whole whole' t is keeps = record { found = λ n x at. keeps (whole_hash t.basis x) n (is.found n x at); once = is.once }

pub once_after_push : (whole whole' : List (ℕ × ℕ)) (t : Table) (x : ThreadState × Source) (k : ℕ) → AreOnce whole t → KeepsFound whole whole'
    → IsFoundBy whole' (whole_hash t.basis x) (length t.items) → ((n : ℕ) → slice_get t.items n ≡ Some x → ⊥)
    → AreOnce whole' (record t { items = t.items ++ x ∷ []; looks = t.looks ++ k ∷ [] })
once_after_push whole whole' t x k is keeps here new = record {
  found = each_found_push (whole_hash t.basis) whole whole' t.items x keeps is.found here;
  once = each_once_push t.items x is.once new;
}

-- the walk from the hash of what is seen of a thread ends, and nothing that it met looks like the thread
pub all_passed_none_like : (t : Table) (seen : List (ℕ × ℕ)) (x : ThreadState × Source) (hash steps : ℕ) → HaveOneLook seen t
    → AreLooks t.basis t.items t.looks → hash ≡ seen_hash t.basis x → PassesOver seen hash steps (λ m. LooksLike t.basis t.items m x)
    → (hashed_number_at seen (hash_place hash steps) ≡ None) ⊎ (most_steps ≤ steps)
    → (n : ℕ) (y : ThreadState × Source) → slice_get t.items n ≡ Some y → AreLike t.basis y x → ⊥
all_passed_none_like t seen x hash steps have looks is passed over n y at like =
    let less : n < length t.looks = (let a = slice_get_within t.items n y at in let b = have.each in omega (arith, a, b)) in
    let k = get_or t.looks n 0 in
    let stands = slice_get-get_or t.looks n 0 less in
    all_passed_none_found seen hash steps (λ m. LooksLike t.basis t.items m x) passed over k
    (subst (λ h. IsFoundBy seen h k) (sym (is ∙ sym (seen_hash_equal_if_like t.basis y x like))) (have.found n k y at stands))
    (looks_like_along t.basis t.items k y x (looks n k y stands at) like)

-- the number that stands for a thread which looks like another stands for that one too
module _ (t : Table) (seen : List (ℕ × ℕ)) (x : ThreadState × Source) (m k : ℕ) (have : HaveOneLook seen t) (looks : AreLooks t.basis t.items t.looks)
    (like : LooksLike t.basis t.items m x) (stands : slice_get t.looks m ≡ Some k) where
  kept_like : AreLike t.basis like.kept x
  kept_like = like_of_kept t.basis t.items m x like.kept like like.at

  pub look_found : IsFoundBy seen (seen_hash t.basis x) k
  look_found = subst (λ h. IsFoundBy seen h k) (seen_hash_equal_if_like t.basis like.kept x kept_like) (have.found m k like.kept like.at stands)

  pub look_is_like : LooksLike t.basis t.items k x
  look_is_like = looks_like_along t.basis t.items k like.kept x (looks m k like.kept stands like.at) kept_like

  pub look_stands_for : StandsForNode t x k
  look_stands_for n j y at also alike =
      have.one n m j k y like.kept at like.at also stands (like_along t.basis y x like.kept alike (like_back t.basis like.kept x kept_like))

-- what looks the same to two threads of one guest has the same bytes, and the same source unless they are over
pub like_if_look_same : TellsApart → (basis : Basis) → IsBasis basis → (x y : ThreadState × Source) → AreTwins x.0 y.0
    → KeepsBounds x.0 → KeepsBounds y.0 → MomentsLookSame basis.code x y → AreLike basis x y
like_if_look_same tells basis whole x y twins bx by same = elim (same twins) [
  | inl e ↦ record {
    bytes = (tells basis whole x.0 y.0 twins bx by [] [] refl).1 (inl (ap (λ (p : ThreadState × Source). (p.0, [])) e));
    source = λ going. ap (λ (p : ThreadState × Source). p.1) e;
  }
  | inr (inl d) ↦ record {
    bytes = (tells basis whole x.0 y.0 twins bx by [] [] refl).1 (inr (inl (d.0, refl)));
    source = λ going. d.1;
  }
  | inr (inr done) ↦ record {
    bytes = (tells basis whole x.0 y.0 twins bx by [] [] refl).1 (inr (inr done));
    source = λ going. absurd (let over : is_over y.0 ≡ true = over_if_shared_ask_done basis.code (view y.0) done.1 in cc (over, going));
  }
]
