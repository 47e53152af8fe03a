-- What is found of the rows before a walk, and after the walks.
use Rattle.std.proofs.Common.{◌≡◌, ℕ, List, length, replicate, map, refl, sym, ap, ◌∙◌, subst, inr, arith}
use Rattle.std.specs.Prelude.{Bool, true, false, Option, None}
use Rattle.std.specs.List.{slice_index_or, Contains}
use Rattle.std.proofs.lemmas.Bool.{true≢false}
use Rattle.std.proofs.lemmas.List.{get_or-replicate, get_or-map, length-map}
use Rattle.std.proofs.lemmas.Option.{slice_get_within}
use Rattle.ir_fit.specs.Fit.{FittedTrace}
use Rattle.ir_past.specs.declared.stale_write.StaleWrite.{StaleWrite}
use Rattle.ir_opened.specs.Positions.{LeavesAfter}
use Rattle.ir_stale_run.specs.Rests.{IsRestOf, AreRests}
use Rattle.ir_stale_run.specs.WhatIf.{known}
use Rattle.ir_stale_run.specs.Watch.{IsFoundAs, AreFound, is_looked_at, IsWatchBegun, AreBegun}
use Rattle.ir_stale_run.specs.declared.rest.Rest.{Rest}
use Rattle.ir_stale_run.specs.declared.found.Found.{Found}
use Rattle.ir_stale_run.specs.declared.found.Found.TheVariants.{Unknown, Known}

-- ---- before a walk

pub begun_without_rests : (f : FittedTrace) (rows : List StaleWrite) (found : List Found) → found ≡ replicate (length rows) (Known None) → AreBegun false f rows found
begun_without_rests f rows found e r x there = ap (λ (xs : List Found). slice_index_or xs r Unknown) e
    ∙ get_or-replicate (length rows) r (Known None) Unknown (slice_get_within rows r x there)

-- a row that is never left
pub never_left_is_found : (copies : Bool) (f : FittedTrace) (x : StaleWrite) (z : Found) → IsWatchBegun copies f x z
    → ((k : ℕ) → LeavesAfter f x.thread x.event k → ⊥) → IsFoundAs copies f x z
never_left_is_found false f x z begun never = subst (IsFoundAs false f x) (sym begun) (inr (never, refl))
never_left_is_found true f x Unknown begun never = absurd (never begun.1.0 begun.1.1)
never_left_is_found true f x (Known r) begun never = begun

-- a row that isn't looked at
pub unlooked_is_found : (copies : Bool) (f : FittedTrace) (x : StaleWrite) (z : Found) → IsWatchBegun copies f x z → is_looked_at copies z ≡ false
    → IsFoundAs copies f x z
unlooked_is_found copies f x Unknown begun out = absurd (true≢false out)
unlooked_is_found false f x (Known r) begun out = absurd (true≢false out)
unlooked_is_found true f x (Known r) begun out = begun

-- ---- after the walks

-- no row is unknown
pub none_unknown_is_found : (f : FittedTrace) (rows : List StaleWrite) (found : List Found) → length found ≡ length rows → AreFound false f rows found
    → (Contains found Unknown → ⊥) → AreFound true f rows found
none_unknown_is_found f rows found size are none r x there = found_known (slice_index_or found r Unknown) (are r x there)
    (λ e. none (r, (let a = slice_get_within rows r x there in omega (arith, a, size)), e))
  where
    found_known : (z : Found) → IsFoundAs false f x z → (z ≡ Unknown → ⊥) → IsFoundAs true f x z
    found_known Unknown is other = absurd (other refl)
    found_known (Known q) is other = is

-- how each rests
pub rests_of_known_found : (f : FittedTrace) (rows : List StaleWrite) (found : List Found) (rests : List (Option Rest)) → length found ≡ length rows → AreFound true f rows found
    → rests ≡ map known found → AreRests f rows rests
rests_of_known_found f rows found rests size are e = record {
  size = ap (λ (xs : List (Option Rest)). length xs) e ∙ length-map found known ∙ size;
  each = λ r x there. subst (IsRestOf f x)
      (sym (ap (λ (xs : List (Option Rest)). slice_index_or xs r None) e ∙ get_or-map known found r Unknown None (let a = slice_get_within rows r x there in omega (arith, a, size))))
      (rest_known (slice_index_or found r Unknown) x (are r x there));
}
  where
    rest_known : (z : Found) (x : StaleWrite) → IsFoundAs true f x z → IsRestOf f x (known z)
    rest_known Unknown x is = absurd (true≢false is.0)
    rest_known (Known q) x is = is
