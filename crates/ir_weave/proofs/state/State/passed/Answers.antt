use Rattle.std.proofs.Common.{subst, sym}
use Rattle.ir_weave.specs.Standing.{Standing, StandsAtCut, flat_in, positions}
use Rattle.ir_weave.proofs.Onward.{along_trace_stands_at_own}
use Rattle.ir_weave.proofs.state.State.passed.Goals as goal

pub returns-clause-stands : goal.returns-clause-stands
returns-clause-stands c =
    let s : Standing = record { threads = c.args.passed.threads.items; objects = c.args.passed.objects.items } in
    subst (λ z. StandsAtCut c.args.fitted.now (positions (flat_in c.args.fitted.now z)) z) (sym c.build.ensures)
    (record { flat = c.requires.flat; at = along_trace_stands_at_own c.args.fitted.now (flat_in c.args.fitted.now s) c.requires.along })
