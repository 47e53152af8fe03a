use Rattle.std.proofs.Common.{◌∙◌, sym, ap}
use Rattle.ir_gdb.specs.Serving.{Serving}
use Rattle.ir_gdb.proofs.Over.{passes_hit_together, apart_passes_no_hit}
use Rattle.ir_gdb.proofs.remote.Remote.passes_hit.Goals as goal

pub returns-then-self-clause-hit : goal.returns-then-self-clause-hit
returns-then-self-clause-hit g c =
    passes_hit_together c.args.self.now.stub c.in_ok-found.found c.args.thread c.args.cut.now
    (ap (λ (x : Serving). x.stub.together) (sym c.self.view_is) ∙ c.if-self.true) c.in_ok-found.ensures.hit

pub returns-clause-hit : goal.returns-clause-hit
returns-clause-hit g c =
    apart_passes_no_hit c.args.self.now.stub c.args.thread c.args.cut.now (ap (λ (x : Serving). x.stub.together) (sym c.self.view_is) ∙ c.if-self.false)
