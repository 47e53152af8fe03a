use Rattle.std.proofs.Common.{subst}
use Rattle.std.proofs.lemmas.Result.{IfErr-weaker}
use Rattle.ir_files.specs.Writers.{writer_of}
use Rattle.ir_explore.specs.Faults.{StopsPrinting, ToldNothing, IsExplorable}
use Rattle.ir_thread.specs.State.{IsAllowed}
use Rattle.ir_explore.specs.Plan.{ExplorePlan}
use Rattle.ir_explore.proofs.Printed.{stops_told_of_bytes}
use Rattle.ir_explore.proofs.run.show_image.Goals as goal

pub returns-clause-fails : goal.returns-clause-fails
returns-clause-fails g c =
    let w = writer_of (g.O.Sink.written c.args.out.now) (g.O.Sink.written c.show.new.out) (g.O.Sink.broken c.show.new.out) in
    let guest = c.in-Ok.image in
    let is : IsExplorable c.args.bytes.now c.args.plan.now.profile guest = (
      c.in-Ok.ensures.exact,
      subst (λ (z : ExplorePlan). IsAllowed z.profile guest) c.plan.view_is (c.allows.ensures.0 c.if-not-allows.false),
    ) in
    IfErr-weaker c.show.result (λ e. StopsPrinting e guest c.args.plan.now w) (λ e. ToldNothing e c.args.bytes.now c.args.plan.now w)
    (λ e stops. stops_told_of_bytes e c.args.bytes.now c.args.plan.now guest w is stops)
    c.show.ensures.fails
