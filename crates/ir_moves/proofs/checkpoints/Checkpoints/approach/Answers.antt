use Rattle.ir_cut.specs.Positions.{cut_of}
use Rattle.ir_weave.specs.Standing.{flat_in, positions}
use Rattle.ir_moves.proofs.Brought.{stands_at_own_positions}
use Rattle.ir_moves.proofs.Ways.{on_way_below_target}
use Rattle.ir_moves.proofs.checkpoints.Checkpoints.approach.Goals as goal

pub note-requires-clause-stands : goal.note-requires-clause-stands
note-requires-clause-stands g c = stands_at_own_positions c.args.fitted.now (cut_of c.in-Some.stop) c.in-Ok.there c.in-Ok.ensures.ok

pub stops-preserved : goal.stops-preserved
stops-preserved g c = record {
  checkpoints = c.note.ensures;
  stands = stands_at_own_positions c.args.fitted.now (cut_of c.in-Some.stop) c.in-Ok.there c.in-Ok.ensures.ok;
  below = on_way_below_target c.args.fitted.now (positions (flat_in c.args.fitted.now c.stops.state)) c.args.target.now c.in-Some.stop
      c.in-Ok.there c.in-Some.ensures c.in-Ok.ensures.ok;
}

pub returns-then-not-note-clause-stands : goal.returns-then-not-note-clause-stands
returns-then-not-note-clause-stands g c = stands_at_own_positions c.args.fitted.now (cut_of c.in-Some.stop) c.in-Ok.there c.in-Ok.ensures.ok
