use Rattle.std.proofs.Common.{arith, sym, subst, ℕ, ◌+◌}
use Rattle.ir_opened.proofs.CallerLemmas.{leave_position_fits_64}
use Rattle.ir_stale_run.proofs.Leaving.{row_entries_are_placed, row_positions_are_span}
use Rattle.ir_stale_run.specs.Watch.{IsSpan}
use Rattle.ir_stale_run.proofs.spans.span_of.Goals as goal

pub behind-read-requires : goal.behind-read-requires
behind-read-requires c = (row_entries_are_placed c.args.fitted.now c.known.ensures.run c.args.stale.now c.requires).read

pub behind-write-requires : goal.behind-write-requires
behind-write-requires c = (row_entries_are_placed c.args.fitted.now c.known.ensures.run c.args.stale.now c.requires).event

pub leave_of-requires : goal.leave_of-requires
leave_of-requires c = (row_entries_are_placed c.args.fitted.now c.known.ensures.run c.args.stale.now c.requires).event

pub overflow_add-result : goal.overflow_add-result
overflow_add-result c =
    let fits = leave_position_fits_64 c.args.fitted.now c.known.ensures c.args.stale.now.thread c.args.stale.now.event c.in_ok-last.last
    (row_entries_are_placed c.args.fitted.now c.known.ensures.run c.args.stale.now c.requires).there c.in_ok-last.ensures.found.leaves in
    omega (arith, fits)

pub returns-clause-found : goal.returns-clause-found
returns-clause-found c =
    subst (λ (z : ℕ × ℕ). IsSpan c.args.fitted.now c.args.stale.now (record {
      row = c.args.row;
      object = c.args.stale.now.object;
      read = z.0;
      write = z.1;
      end = c.in_ok-last.last + 1;
    })) (λ i. (sym c.behind-read.ensures i, sym c.behind-write.ensures i))
    (row_positions_are_span c.args.fitted.now c.known.ensures c.args.stale.now c.args.row c.in_ok-last.last c.requires c.in_ok-last.ensures.found)
