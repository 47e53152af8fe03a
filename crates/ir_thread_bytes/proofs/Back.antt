-- Private memory from its changes, and threads from their bytes.
use Rattle.std.proofs.Common.{false, cond, Option, Some, None, flat_map, ◌≡◌, ◌+◌, ◌*◌, ◌/◌, ◌≤◌, ◌<◌, ◌^◌, ℕ, suc, List, [], ◌∷◌, ◌++◌}
use Rattle.std.proofs.Common.{length, map, drop, set, get_or, refl, sym, ap, ◌∙◌, arith, inl, inr}
use Rattle.std.proofs.lemmas.List.{append_assoc, length-append, drop_at, drop_more, length-drop, length-set}
use Rattle.std.proofs.lemmas.Nat.{from_le_bytes-to_le_bytes_2}
use Rattle.std.specs.Int.{w16, from_le_bytes}
use Rattle.ir_liveness.specs.Table.{kept_registers}
use Rattle.ir_mach.specs.Core.{memory_size}
use Rattle.ir_mach.specs.Pages.{pages_of}
use Rattle.ir_mach.proofs.CallerLemmas.{core_of_own_pages}
use Rattle.ir_runs.specs.declared.access.Access.{Access}
use Rattle.ir_thread.specs.Frames.{frame_of, framed_thread}
use Rattle.ir_thread.specs.State.{ThreadState}
use Rattle.ir_thread.specs.declared.end.End.{End}
use Rattle.ir_thread_bytes.specs.Basis.{Basis, IsBasis}
use Rattle.ir_thread_bytes.specs.Frozen.{page_changes, word, held_byte, end_bytes, is_over, fixed_bytes, going_bytes, frozen}
use Rattle.ir_thread_bytes.specs.Twins.{KeepsBounds}
use Rattle.ir_thread_bytes.proofs.Apart.{change_empty_or_written}
use Rattle.ir_thread_bytes.proofs.Kept.{kept_registers_count}
use Rattle.ir_thread_bytes.specs.Thawed.{changed_pages, before_changes, thawed}

-- fewer than three bytes are no change
few_bytes_no_change : (memory bytes : List ℕ) → length bytes < 3 → changed_pages memory bytes ≡ memory
few_bytes_no_change memory [] few = refl
few_bytes_no_change memory (a ∷ []) few = refl
few_bytes_no_change memory (a ∷ b ∷ []) few = refl
few_bytes_no_change memory (a ∷ b ∷ c ∷ bytes) few = absurd (omega (arith, few))

-- one change more
pub changed_of_rest : (memory bytes : List ℕ) (k place : ℕ) (whole : List ℕ) → k < length bytes / 3
    → place ≡ from_le_bytes w16 (get_or bytes (3 * k) 0 ∷ get_or bytes (3 * k + 1) 0 ∷ [])
    → length memory ≡ memory_size → changed_pages memory (drop (3 * k) bytes) ≡ whole
    → record {
      size : length (set memory place (get_or bytes (3 * k + 2) 0)) ≡ memory_size;
      same : changed_pages (set memory place (get_or bytes (3 * k + 2) 0)) (drop (3 * (k + 1)) bytes) ≡ whole;
    }
changed_of_rest memory bytes k place whole below is size before =
    let a : 3 * k < length bytes = omega (arith, below) in
    let b : 3 * k + 1 < length bytes = omega (arith, below) in
    let c : 3 * k + 2 < length bytes = omega (arith, below) in
    let three : drop (3 * k) bytes ≡ get_or bytes (3 * k) 0 ∷ get_or bytes (3 * k + 1) 0 ∷ get_or bytes (3 * k + 2) 0
    ∷ drop (3 * (k + 1)) bytes =
    drop_more bytes (3 * k) 0 a
    ∙ ap (λ l. get_or bytes (3 * k) 0 ∷ l) (drop_more bytes (3 * k + 1) 0 b
    ∙ ap (λ l. get_or bytes (3 * k + 1) 0 ∷ l) (ap (λ n. drop n bytes) (omega arith) ∙ drop_more bytes (3 * k + 2) 0 c
    ∙ ap (λ n. get_or bytes (3 * k + 2) 0 ∷ drop n bytes) (omega arith))) in
    record {
      size = length-set memory place (get_or bytes (3 * k + 2) 0) ∙ size;
      same =
          ap (λ p. changed_pages (set memory p (get_or bytes (3 * k + 2) 0)) (drop (3 * (k + 1)) bytes)) is
          ∙ sym (ap (changed_pages memory) three) ∙ before;
    }

pub last_change_is_whole : (memory bytes : List ℕ) (k : ℕ) (whole : List ℕ) → length bytes / 3 ≤ k → changed_pages memory (drop (3 * k) bytes) ≡ whole
    → memory ≡ whole
last_change_is_whole memory bytes k whole past before =
    let few : length (drop (3 * k) bytes) < 3 = omega (arith, length-drop (3 * k) bytes, past) in
    sym (few_bytes_no_change memory (drop (3 * k) bytes) few) ∙ before

-- a place's byte is written behind what is before it
set_at_prefix_length : (before rest : List ℕ) (old new : ℕ) → set (before ++ old ∷ rest) (length before) new ≡ before ++ new ∷ rest
set_at_prefix_length [] rest old new = refl
set_at_prefix_length (x ∷ before) rest old new = ap (λ l. x ∷ l) (set_at_prefix_length before rest old new)

append_of_cons_regroups : (before rest : List ℕ) (x : ℕ) → before ++ x ∷ rest ≡ (before ++ x ∷ []) ++ rest
append_of_cons_regroups before rest x = sym (append_assoc before (x ∷ []) rest)

-- the changes give the memory, from the place on before which all is as it is there
changed-changes : (before start memory : List ℕ) → length memory ≡ length start → length before + length start ≤ 2 ^ 16
    → changed_pages (before ++ start) (page_changes (length before) start memory) ≡ before ++ memory
changed-changes before [] [] same room = refl
changed-changes before [] (y ∷ memory) same room = absurd (cc same)
changed-changes before (x ∷ start) [] same room = absurd (cc same)
changed-changes before (x ∷ start) (y ∷ memory) same room =
    let place : length (before ++ y ∷ []) ≡ suc (length before) = length-append before (y ∷ []) ∙ omega arith in
    let less : length (before ++ y ∷ []) + length start ≤ 2 ^ 16 = omega (arith, place, room) in
    let next : changed_pages ((before ++ y ∷ []) ++ start) (page_changes (suc (length before)) start memory) ≡ before ++ y ∷ memory =
    ap (λ p. changed_pages ((before ++ y ∷ []) ++ start) (page_changes p start memory)) (sym place)
    ∙ changed-changes (before ++ y ∷ []) start memory (omega (arith, same)) less ∙ sym (append_of_cons_regroups before memory y) in
    elim (change_empty_or_written (length before) x y) [
      | inl p ↦
          ap (λ l. changed_pages (before ++ x ∷ start) (l ++ page_changes (suc (length before)) start memory)) p.1
          ∙ ap (λ z. changed_pages (before ++ z ∷ start) (page_changes (suc (length before)) start memory)) (sym p.0)
          ∙ ap (λ l. changed_pages l (page_changes (suc (length before)) start memory)) (append_of_cons_regroups before start y)
          ∙ next
      | inr p ↦
          ap (λ l. changed_pages (before ++ x ∷ start) (l ++ page_changes (suc (length before)) start memory)) p
          ∙ ap (λ q. changed_pages (set (before ++ x ∷ start) q y) (page_changes (suc (length before)) start memory))
          (from_le_bytes-to_le_bytes_2 (length before) (omega (arith, room)))
          ∙ ap (λ l. changed_pages l (page_changes (suc (length before)) start memory)) (set_at_prefix_length before start x y ∙ append_of_cons_regroups before start y)
          ∙ next
    ]

-- what is behind the bytes of a fixed length, the output's length, and the output
pub length-flat_words : (xs : List ℕ) → length (flat_map word xs) ≡ 4 * length xs
length-flat_words [] = refl
length-flat_words (x ∷ xs) = ap (λ n. suc (suc (suc (suc n)))) (length-flat_words xs) ∙ omega arith

pub length_of_held_bytes : (xs : List (Option Access)) → length (map held_byte xs) ≡ length xs
length_of_held_bytes [] = refl
length_of_held_bytes (x ∷ xs) = ap suc (length_of_held_bytes xs)

pub length-end_bytes : (e : Option End) → length (end_bytes e) ≡ 5
length-end_bytes None = refl
length-end_bytes (Some e) = refl

going_frozen_bytes : (basis : Basis) (s : ThreadState) (mark : List ℕ) → is_over s ≡ false
    → frozen basis s mark ≡ (end_bytes s.ended ++ 0 ∷ ((fixed_bytes basis s mark ++ word (length s.output)) ++ s.output)) ++ page_changes 0 basis.memory s.core.memory
going_frozen_bytes basis s mark goes =
    let front : List ℕ = (fixed_bytes basis s mark ++ word (length s.output)) ++ s.output in
    let rest : List ℕ = page_changes 0 basis.memory s.core.memory in
    ap (λ b. end_bytes s.ended ++ cond b (1 ∷ s.output) (0 ∷ going_bytes basis s mark)) goes
    ∙ sym (append_assoc (end_bytes s.ended) (0 ∷ front) rest)

pub length_of_append_4 : (a b c d : List ℕ) → length (((a ++ b) ++ c) ++ d) ≡ length a + length b + length c + length d
length_of_append_4 a b c d =
    let p = length-append ((a ++ b) ++ c) d in let q = length-append (a ++ b) c in let r = length-append a b in omega (arith, p, q, r)

length_of_flagged : (e a b c : List ℕ) → length (e ++ 0 ∷ ((a ++ b) ++ c)) ≡ length e + 1 + length a + length b + length c
length_of_flagged e a b c =
    let p = length-append e (0 ∷ ((a ++ b) ++ c)) in let q = length-append (a ++ b) c in let r = length-append a b in omega (arith, p, q, r)

pub length-fixed_bytes : (basis : Basis) (s : ThreadState) (mark : List ℕ) → length (fixed_bytes basis s mark) ≡ 132 + length s.held + length mark
length-fixed_bytes basis s mark =
    length_of_append_4 (word s.core.pc) (flat_map word (kept_registers basis.live s.core)) (map held_byte s.held) mark
    ∙ (let r = length-flat_words (kept_registers basis.live s.core) in let h = length_of_held_bytes s.held in
    let many = kept_registers_count basis.live s.core in omega (arith, r, h, many))

length_before_changes : (basis : Basis) (s : ThreadState) (mark : List ℕ)
    → length (end_bytes s.ended ++ 0 ∷ ((fixed_bytes basis s mark ++ word (length s.output)) ++ s.output)) ≡ before_changes s (length mark)
length_before_changes basis s mark =
    length_of_flagged (end_bytes s.ended) (fixed_bytes basis s mark) (word (length s.output)) s.output
    ∙ (let e = length-end_bytes s.ended in let f = length-fixed_bytes basis s mark in omega (arith, e, f))

pub thawed-frozen : (basis : Basis) → IsBasis basis → (s : ThreadState) → KeepsBounds s → (mark : List ℕ) → is_over s ≡ false
    → thawed basis.memory (frame_of s) (before_changes s (length mark)) (frozen basis s mark) ≡ s
thawed-frozen basis is s bounded mark goes =
    let front : List ℕ = end_bytes s.ended ++ 0 ∷ ((fixed_bytes basis s mark ++ word (length s.output)) ++ s.output) in
    let rest : List ℕ = page_changes 0 basis.memory s.core.memory in
    let size = is.size in
    let tail : drop (before_changes s (length mark)) (frozen basis s mark) ≡ rest =
    ap (drop (before_changes s (length mark))) (going_frozen_bytes basis s mark goes)
    ∙ drop_at front rest (before_changes s (length mark)) (length_before_changes basis s mark) in
    ap (λ l. framed_thread (frame_of s) (pages_of (changed_pages basis.memory l))) tail
    ∙ ap (λ l. framed_thread (frame_of s) (pages_of l))
    (changed-changes [] basis.memory s.core.memory (bounded.core.memory_length ∙ sym size) (omega (arith, size)))
    ∙ ap (λ c. record s { core = c }) (core_of_own_pages s.core bounded.core.memory_length)

pub thawed-changes : (start : List ℕ) → length start ≡ memory_size → (s : ThreadState) → length s.core.memory ≡ memory_size
    → thawed start (frame_of s) 0 (page_changes 0 start s.core.memory) ≡ s
thawed-changes start size s same =
    ap (λ l. framed_thread (frame_of s) (pages_of l)) (changed-changes [] start s.core.memory (same ∙ sym size) (omega (arith, size)))
    ∙ ap (λ c. record s { core = c }) (core_of_own_pages s.core same)
