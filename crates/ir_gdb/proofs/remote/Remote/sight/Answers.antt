use Rattle.std.proofs.Common.{◌∙◌, ap}
use Rattle.ir_thread.specs.State.{ThreadState}
use Rattle.ir_fit.specs.Fit.{FittedTrace}
use Rattle.ir_gdb.specs.Serving.{Serving}
use Rattle.ir_gdb.proofs.InSight.{sight_by_parts}
use Rattle.ir_gdb.proofs.remote.Remote.sight.Goals as goal

pub returns : goal.returns
returns c =
    let guest = c.image-image.ensures.value ∙ ap (λ (f : FittedTrace). f.guest) (c.fitted.ensures.value ∙ ap (λ (x : Serving). x.stub.desk.fitted) c.self.view_is) in
    let objects = c.objects.ensures ∙ ap (λ (x : Serving). x.state.objects) c.self.view_is in
    sight_by_parts c.args.self.now c.args.cut.now c.args.thread c.image-image.result.now c.mach-mach.result.now c.objects.result.now c.new.result c.requires.there
    c.new.ensures guest objects (λ run whole. c.mach-mach.ensures ∙ ap (λ (x : ThreadState). x.core) (c.visited.ensures run whole))
