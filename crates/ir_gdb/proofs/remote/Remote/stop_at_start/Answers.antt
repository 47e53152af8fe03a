use Rattle.std.proofs.Common.{◌∙◌, sym, ap, subst}
use Rattle.std.proofs.lemmas.Result.{IfOk-weaker}
use Rattle.ir_command.specs.declared.command.Direction.TheVariants.{Backwards}
use Rattle.ir_timeline.specs.Hand.{IsCutOf}
use Rattle.ir_gdb.specs.Stub.{Stub, stub_spoken}
use Rattle.ir_gdb.proofs.Nexts.{stop_at_of_spoken}
use Rattle.ir_gdb.proofs.Previous.{downwards_of_spoken, back_to_spoken, lowest_hit_downwards, no_start_is_no_stop, start_is_lowest_down, pc_of_spoken}
use Rattle.ir_gdb.proofs.remote.Remote.stop_at_start.Goals as goal

pub pc_in-requires-clause-cut : goal.pc_in-requires-clause-cut
pc_in-requires-clause-cut g c κs within = subst (λ (x : Stub). IsCutOf x.desk.fitted c.args.cut.now) (sym c.speak.ensures) c.requires.cut

pub returns-in_default-clause-stop : goal.returns-in_default-clause-stop
returns-in_default-clause-stop g c =
    let s = c.args.self.now.stub in
    let u = c.speak.new.self.stub in
    let t = c.args.thread in
    let w = c.args.watched in
    let are = c.as_slice.ensures.value ∙ c.in_ok-points.ensures.points ∙ downwards_of_spoken s u t w c.speak.ensures in
    no_start_is_no_stop s t c.in_ok-pc.pc w c.as_slice.result.now c.args.cut.now c.lowest_start.result c.requires.thread c.requires.there c.requires.steps are
    c.lowest_start.ensures c.in_default.is (pc_of_spoken s u t c.in_ok-pc.pc c.args.cut.now c.speak.ensures c.in_ok-pc.ensures.pc)

pub decide_below-requires-clause-cut : goal.decide_below-requires-clause-cut
decide_below-requires-clause-cut g c κs within =
    let same = c.pc_in.ensures.stub ∙ ap (λ (x : Stub). stub_spoken x) c.speak.ensures in
    subst (λ (x : Stub). IsCutOf x.desk.fitted c.args.cut.now) (sym same) c.requires.cut

pub decide_below-requires-clause-comes : goal.decide_below-requires-clause-comes
decide_below-requires-clause-comes g c κs within =
    let s = c.args.self.now.stub in
    let same = c.pc_in.ensures.stub ∙ ap (λ (x : Stub). stub_spoken x) c.speak.ensures in
    back_to_spoken s c.pc_in.new.self.stub c.args.thread 0 c.args.cut.now same c.requires.comes

pub decide_below-requires-clause-lowest : goal.decide_below-requires-clause-lowest
decide_below-requires-clause-lowest g c κs within =
    let s = c.args.self.now.stub in
    let u = c.speak.new.self.stub in
    let t = c.args.thread in
    let w = c.args.watched in
    let same = c.pc_in.ensures.stub ∙ ap (λ (x : Stub). stub_spoken x) c.speak.ensures in
    let are = c.as_slice.ensures.value ∙ c.in_ok-points.ensures.points ∙ downwards_of_spoken s u t w c.speak.ensures in
    lowest_hit_downwards s c.pc_in.new.self.stub t 0 c.in-Some.number w same
    (start_is_lowest_down s t c.in_ok-pc.pc w c.as_slice.result.now c.args.cut.now c.lowest_start.result c.in-Some.number c.requires.thread c.requires.there
    c.requires.steps are c.lowest_start.ensures c.in-Some.is (pc_of_spoken s u t c.in_ok-pc.pc c.args.cut.now c.speak.ensures c.in_ok-pc.ensures.pc))

pub returns-clause-stop : goal.returns-clause-stop
returns-clause-stop g c =
    let s = c.args.self.now.stub in
    let same = c.pc_in.ensures.stub ∙ ap (λ (x : Stub). stub_spoken x) c.speak.ensures in
    IfOk-weaker c.decide_below.result _ _
    (λ stop at. stop_at_of_spoken s c.pc_in.new.self.stub Backwards c.args.thread c.args.watched 0 stop same at) c.decide_below.ensures.stop
