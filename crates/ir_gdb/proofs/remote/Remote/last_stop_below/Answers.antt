use Rattle.std.proofs.Common.{◌≡◌, ◌<◌, ◌∙◌, sym, ap, subst}
use Rattle.std.proofs.lemmas.Result.{IfOk-weaker}
use Rattle.ir_gdb.specs.Stub.{Stub, stub_spoken}
use Rattle.ir_gdb.specs.Stops.{position_of}
use Rattle.ir_gdb.proofs.Previous.{downwards_of_spoken, last_stop_of_spoken, none_stops_to_spoken, last_hit_by_points, below_if_some}
use Rattle.ir_gdb.proofs.Previous.{last_stop_if_plain, last_stop_if_no_hit, none_stops_above_last_hit}
use Rattle.ir_gdb.proofs.remote.Remote.last_stop_below.Goals as goal

pub returns-then-is_plain-clause-stop : goal.returns-then-is_plain-clause-stop
returns-then-is_plain-clause-stop g c =
    let s = c.args.self.now.stub in
    let u = c.speak.new.self.stub in
    let t = c.args.thread in
    let w = c.args.watched in
    let are = c.as_slice.ensures.value ∙ c.in_ok-points.ensures.points ∙ downwards_of_spoken s u t w c.speak.ensures in
    last_stop_if_plain s t w c.in_ok-found.found (sym c.is_plain.ensures ∙ c.if-is_plain.true)
    (last_hit_by_points s u t c.as_slice.result.now _ c.in_ok-found.found c.speak.ensures are c.in_ok-found.ensures.finds)

pub returns-in_default-clause-stop : goal.returns-in_default-clause-stop
returns-in_default-clause-stop g c =
    let s = c.args.self.now.stub in
    let u = c.speak.new.self.stub in
    let t = c.args.thread in
    let w = c.args.watched in
    let are = c.as_slice.ensures.value ∙ c.in_ok-points.ensures.points ∙ downwards_of_spoken s u t w c.speak.ensures in
    last_stop_if_no_hit s t w c.in_ok-found.found c.in_default.is
    (last_hit_by_points s u t c.as_slice.result.now _ c.in_ok-found.found c.speak.ensures are c.in_ok-found.ensures.finds)

pub last_stop_under-requires-clause-within : goal.last_stop_under-requires-clause-within
last_stop_under-requires-clause-within g c κs within =
    let t = c.args.thread in
    subst (λ (x : Stub). c.in-Some.hit.position < position_of x t) (sym c.last_hit.ensures.stub)
    (below_if_some (position_of c.speak.new.self.stub t) c.in_ok-found.found c.in-Some.hit c.in-Some.is c.in_ok-found.ensures.below)

pub last_stop_under-requires-clause-none : goal.last_stop_under-requires-clause-none
last_stop_under-requires-clause-none g c κs within =
    let s = c.args.self.now.stub in
    let u = c.speak.new.self.stub in
    let v = c.last_hit.new.self.stub in
    let t = c.args.thread in
    let w = c.args.watched in
    let same : v ≡ stub_spoken s = c.last_hit.ensures.stub ∙ ap (λ (x : Stub). stub_spoken x) c.speak.ensures in
    let are = c.as_slice.ensures.value ∙ c.in_ok-points.ensures.points ∙ downwards_of_spoken s u t w c.speak.ensures in
    none_stops_to_spoken s v t w _ same (none_stops_above_last_hit s t w c.in_ok-found.found c.in-Some.hit c.in-Some.is
    (last_hit_by_points s u t c.as_slice.result.now _ c.in_ok-found.found c.speak.ensures are c.in_ok-found.ensures.finds))

pub returns-clause-stop : goal.returns-clause-stop
returns-clause-stop g c =
    let s = c.args.self.now.stub in
    let v = c.last_hit.new.self.stub in
    let t = c.args.thread in
    let same : v ≡ stub_spoken s = c.last_hit.ensures.stub ∙ ap (λ (x : Stub). stub_spoken x) c.speak.ensures in
    IfOk-weaker c.last_stop_under.result _ _ (λ stop last. last_stop_of_spoken s v t c.args.watched stop same last) c.last_stop_under.ensures.stop
