-- The stale writes that are kept.
use Rattle.std.proofs.Common.{◌≡◌, ℕ, zero, suc, ◌+◌, ◌<◌, inl, inr, Bool, true, false, cond, Option, Some, None, List, [], ◌∷◌, ◌++◌, sym, ap, ◌∙◌, subst, refl, arith, append-nil}
use Rattle.std.specs.Prelude.{slice_get}
use Rattle.std.specs.List.{slice_index_or}
use Rattle.std.proofs.lemmas.List.{map-append}
use Rattle.std.proofs.lemmas.Option.{none-some, slice_get_within}
use Rattle.ir_lemmas.proofs.CallerLemmas.{slice_get-push_cases}
use Rattle.ir_past.specs.Past.{IsRising}
use Rattle.ir_past.specs.declared.stale_write.StaleWrite.{StaleWrite}
use Rattle.ir_stale_run.specs.declared.rest.Rest.{Rest}
use Rattle.ir_picture.specs.Shown.{is_shown}
use Rattle.ir_picture.proofs.CallerLemmas.{GoWith, slice_get_of_map}
use Rattle.ir_picture.specs.declared.placed_box.PlacedBox.{PlacedBox}
use Rattle.ir_run_picture.specs.Resting.{kept_if, first_resting, stale_of_rests}
use Rattle.ir_run_picture.specs.declared.resting.Resting.{Resting}

-- with each kept write goes the stale write of the same number
pub rests_go_with_writes : (kept : List Resting) (stale : List StaleWrite) → stale ≡ stale_of_rests kept → GoWith (λ (x : Resting). x.write) kept stale
rests_go_with_writes kept stale same k x at =
    ap (λ (xs : List StaleWrite). slice_get xs k) same ∙ slice_get_of_map (λ (z : Resting). z.write) kept k x at

-- none is kept before the first row
pub first_kept_of_no_row : (shown : List PlacedBox) (rows : List StaleWrite) (rests : List (Option Rest)) (none : List Resting) → none ≡ []
    → none ≡ first_resting shown rows rests 0
unfolding first_resting
first_kept_of_no_row shown rows rests none e = e

-- one more row
pub first_kept_step : (shown : List PlacedBox) (rows : List StaleWrite) (rests : List (Option Rest)) (n : ℕ) (x : StaleWrite) (r : Option Rest)
    (old new : List Resting) → old ≡ first_resting shown rows rests n → new ≡ old ++ kept_if shown (Some x) r → slice_get rows n ≡ Some x
    → slice_index_or rests n None ≡ r → new ≡ first_resting shown rows rests (n + 1)
unfolding first_resting
first_kept_step shown rows rests n x r old new before made at rest = made
    ∙ ap (λ (k : List Resting). k ++ kept_if shown (Some x) r) before
    ∙ ap (λ (y : Option StaleWrite). first_resting shown rows rests n ++ kept_if shown y r) (sym at)
    ∙ ap (λ (s : Option Rest). first_resting shown rows rests n ++ kept_if shown (slice_get rows n) s) (sym rest)
    ∙ (let on : suc n ≡ n + 1 = omega arith in ap (λ k. first_resting shown rows rests k) on)

-- ---- they come by rising thread and event

-- stale writes that are some of the first n rows, in their order
record AreSomeRows (rows : List StaleWrite) (n : ℕ) (ws : List StaleWrite) : Type 0 where
  among : (a : ℕ) (x : StaleWrite) → slice_get ws a ≡ Some x → (k : ℕ) × (k < n) × (slice_get rows k ≡ Some x)
  rising : IsRising ws

some_rows_suc : (rows : List StaleWrite) (n : ℕ) (ws : List StaleWrite) → AreSomeRows rows n ws → AreSomeRows rows (suc n) ws
some_rows_suc rows n ws h = record {
  among = λ a x e. let at = h.among a x e in (at.0, (let l = at.1 in omega (arith, l)), at.2);
  rising = h.rising;
}

some_rows_push : (rows : List StaleWrite) (n : ℕ) (ws : List StaleWrite) (y : StaleWrite) → IsRising rows → slice_get rows n ≡ Some y → AreSomeRows rows n ws
    → AreSomeRows rows (suc n) (ws ++ y ∷ [])
some_rows_push rows n ws y rises there h = record {
  among = λ a x e. elim (slice_get-push_cases ws y a x e) [
    | inl old ↦ (let at = h.among a x old in (at.0, (let l = at.1 in omega (arith, l)), at.2))
    | inr new ↦ (n, omega arith, there ∙ ap Some new.1)
  ];
  rising = λ a b x z less at_a at_b. elim (slice_get-push_cases ws y b z at_b) [
    | inl old ↦ elim (slice_get-push_cases ws y a x at_a) [
      | inl both ↦ h.rising a b x z less both old
      | inr new ↦ absurd (let l = slice_get_within ws b z old in let same = new.0 in omega (arith, l, same, less))
    ]
    | inr new ↦ elim (slice_get-push_cases ws y a x at_a) [
      | inl before ↦ (let at = h.among a x before in rises at.0 n x z at.1 at.2 (there ∙ ap Some new.1))
      | inr also ↦ absurd (let p = new.0 in let q = also.0 in omega (arith, p, q, less))
    ]
  ];
}

some_rows_after_choice : (shown : List PlacedBox) (rows : List StaleWrite) (n : ℕ) (ws : List StaleWrite) (x : Option StaleWrite) (r : Option Rest)
    → IsRising rows → slice_get rows n ≡ x → AreSomeRows rows n ws → AreSomeRows rows (suc n) (ws ++ stale_of_rests (kept_if shown x r))
some_rows_after_choice shown rows n ws None r rises at h = subst (AreSomeRows rows (suc n)) (sym (append-nil ws)) (some_rows_suc rows n ws h)
some_rows_after_choice shown rows n ws (Some x) None rises at h = subst (AreSomeRows rows (suc n)) (sym (append-nil ws)) (some_rows_suc rows n ws h)
some_rows_after_choice shown rows n ws (Some x) (Some r) rises at h = by (is_shown shown x)
  where
    by : (b : Bool) → AreSomeRows rows (suc n) (ws ++ stale_of_rests (cond b ((record { write = x; rest = r }) ∷ []) []))
    by true = some_rows_push rows n ws x rises at h
    by false = subst (AreSomeRows rows (suc n)) (sym (append-nil ws)) (some_rows_suc rows n ws h)

kept_are_some_rows : (shown : List PlacedBox) (rows : List StaleWrite) (rests : List (Option Rest)) (n : ℕ) → IsRising rows
    → AreSomeRows rows n (stale_of_rests (first_resting shown rows rests n))
unfolding first_resting
kept_are_some_rows shown rows rests zero rises = record {
  among = λ a x e. absurd (none-some x e);
  rising = λ a b x y less at_a at_b. absurd (none-some x at_a);
}
kept_are_some_rows shown rows rests (suc n) rises =
    subst (AreSomeRows rows (suc n)) (sym (map-append (λ (x : Resting). x.write) (first_resting shown rows rests n) (kept_if shown (slice_get rows n) (slice_index_or rests n None))))
    (some_rows_after_choice shown rows n (stale_of_rests (first_resting shown rows rests n)) (slice_get rows n) (slice_index_or rests n None) rises refl
    (kept_are_some_rows shown rows rests n rises))

pub kept_writes_are_rising : (shown : List PlacedBox) (rows : List StaleWrite) (rests : List (Option Rest)) (n : ℕ) → IsRising rows
    → IsRising (stale_of_rests (first_resting shown rows rests n))
kept_writes_are_rising shown rows rests n rises = (kept_are_some_rows shown rows rests n rises).rising
