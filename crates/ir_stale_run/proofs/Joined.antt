-- Lines that are put one after the other.
use Rattle.std.proofs.Common.{◌≡◌, ◌+◌, ℕ, suc, List, ◌++◌, refl, sym, ap, ◌∙◌, arith, append_assoc, append-nil}
use Rattle.std.specs.Prelude.{Option, Some, None, slice_get}
use Rattle.std.specs.List.{slice_index_or}
use Rattle.ir_log.specs.declared.event.Event.TheVariants.{Write}
use Rattle.ir_fit.specs.Fit.{FittedTrace, HasRun}
use Rattle.ir_past.specs.Past.{IsRow}
use Rattle.ir_past.specs.declared.stale_write.StaleWrite.{StaleWrite}
use Rattle.ir_opened.specs.Positions.{IsInside}
use Rattle.ir_opened.proofs.CallerLemmas.{recorded_is_inside}
use Rattle.ir_stale_run.specs.Lines.{line_if, first_lines, one_if, rows_kept}
use Rattle.ir_stale_run.specs.declared.rest.Rest.{Rest}

-- ---- how many

pub kept_of_no_rests : (rests : List (Option Rest)) → 0 ≡ rows_kept rests 0
unfolding rows_kept
kept_of_no_rests rests = refl

pub kept_of_one_more_rest : (rests : List (Option Rest)) (n kept one : ℕ) → kept ≡ rows_kept rests n → one ≡ one_if (slice_index_or rests n None)
    → kept + one ≡ rows_kept rests (n + 1)
unfolding rows_kept
kept_of_one_more_rest rests n kept one a b =
    let on : suc n ≡ n + 1 = omega arith in
    ap (λ k. k + one) a ∙ ap (λ k. rows_kept rests n + k) b ∙ ap (rows_kept rests) on

-- ---- lines

pub append_no_rest_lines : (f : FittedTrace) (rows : List StaleWrite) (rests : List (Option Rest)) (text first : List ℕ) → text ≡ first
    → text ≡ first ++ first_lines f rows rests 0
unfolding first_lines
append_no_rest_lines f rows rests text first e = e ∙ sym (append-nil first)

pub rest_lines_step : (f : FittedTrace) (rows : List StaleWrite) (rests : List (Option Rest)) (n : ℕ) (x : StaleWrite) (r : Option Rest) (text new first : List ℕ)
    → text ≡ first ++ first_lines f rows rests n → new ≡ text ++ line_if f (Some x) r → slice_get rows n ≡ Some x
    → r ≡ slice_index_or rests n None → new ≡ first ++ first_lines f rows rests (n + 1)
unfolding first_lines
rest_lines_step f rows rests n x r text new first before made there same =
    let on : suc n ≡ n + 1 = omega arith in
    let line : line_if f (Some x) r ≡ line_if f (slice_get rows n) (slice_index_or rests n None) = λ i. line_if f (sym there i) (same i) in
    made ∙ (λ i. before i ++ line i)
    ∙ append_assoc first (first_lines f rows rests n) (line_if f (slice_get rows n) (slice_index_or rests n None))
    ∙ ap (λ k. first ++ first_lines f rows rests k) on

-- where what wrote over a read is
pub overwriting_is_inside : (f : FittedTrace) → HasRun f → (x : StaleWrite) → IsRow f.recorded x
    → IsInside f x.overwritten_by.thread x.overwritten_by.event
overwriting_is_inside f h x row = recorded_is_inside f h x.overwritten_by.thread x.overwritten_by.event (Write x.object x.version row.readers) row.overwriter
