use Rattle.std.proofs.Common.{◌≡◌, ◌∙◌, sym, ap, arith}
use Rattle.std.proofs.lemmas.Result.{IfOk-weaker}
use Rattle.ir_cut.specs.Positions.{last_of}
use Rattle.ir_gdb.specs.Stub.{Stub, stub_spoken}
use Rattle.ir_gdb.proofs.Nexts.{first_stop_if_plain, next_stop_of_spoken}
use Rattle.ir_gdb.proofs.Lasts.{next_stop_to_last_is_first}
use Rattle.ir_gdb.proofs.remote.Remote.first_stop_above.Goals as goal

pub returns-then-is_plain-clause-stop : goal.returns-then-is_plain-clause-stop
returns-then-is_plain-clause-stop g c = first_stop_if_plain c.args.self.now.stub c.speak.new.self.stub c.args.thread c.args.watched c.as_slice.result.now
    c.in_ok-found.found c.speak.ensures (c.as_slice.ensures.value ∙ c.in_ok-points.ensures.points) (sym c.is_plain.ensures ∙ c.if-is_plain.true) c.in_ok-found.ensures.finds

pub next_stop-requires-clause-within : goal.next_stop-requires-clause-within
next_stop-requires-clause-within g c κs within =
    let at = c.position.ensures.value in
    let low = c.position.ensures.within in
    let last = c.last-last.ensures in
    (omega (arith, at, low, last), omega (arith, last))

pub returns-clause-stop : goal.returns-clause-stop
returns-clause-stop g c =
    let s = c.args.self.now.stub in
    let u = c.first_hit.new.self.stub in
    let t = c.args.thread in
    let same : u ≡ stub_spoken s = c.first_hit.ensures.stub ∙ ap (λ (x : Stub). stub_spoken x) c.speak.ensures in
    let is = c.last-last.ensures ∙ ap (λ (x : Stub). last_of x.desk.fitted t) same in
    IfOk-weaker c.next_stop.result _ _
    (λ stop next. next_stop_to_last_is_first s t c.last-last.result c.args.watched stop c.requires is
    (next_stop_of_spoken s u t c.args.watched c.last-last.result stop same next)) c.next_stop.ensures.stop
