use Rattle.std.proofs.Common.{◌<◌, ◌∙◌, List, length, ap, subst}
use Rattle.std.specs.Prelude.{IfSome}
use Rattle.ir_mach.specs.Core.{Core}
use Rattle.ir_thread.specs.State.{ThreadState}
use Rattle.ir_gdb.specs.Guards.{Guarded}
use Rattle.ir_gdb.proofs.InSight.{met_place_in_sight}
use Rattle.ir_gdb.proofs.remote.Remote.met_here.Goals as goal

pub returns-clause-met : goal.returns-clause-met
returns-clause-met c =
    met_place_in_sight c.args.self.now.stub c.args.cut.now c.args.thread c.pc-pc.result c.sight-sight.result c.halts-halts.result.breaks.now
    c.first_met_place.result c.halts-halts.ensures.breaks c.sight-sight.ensures
    (λ run whole. c.pc-pc.ensures.value ∙ ap (λ (m : Core). m.pc) (c.mach.ensures ∙ ap (λ (x : ThreadState). x.core) (c.visited.ensures run whole)))
    c.first_met_place.ensures.met

pub returns-clause-place : goal.returns-clause-place
returns-clause-place c = subst (λ (bs : List Guarded). IfSome c.first_met_place.result (λ place. place < length bs)) c.halts-halts.ensures.breaks
    c.first_met_place.ensures.place
