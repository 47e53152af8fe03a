use Rattle.std.proofs.Common.{◌∙◌, ◌++◌, ℕ, List, ap}
use Rattle.ir_thread.specs.declared.end.End.{End}
use Rattle.ir_fit.specs.Fit.{FittedTrace}
use Rattle.ir_gdb.specs.Serving.{Serving}
use Rattle.ir_gdb.specs.Endings.{end_of_thread, words_of_end}
use Rattle.ir_gdb.proofs.Threads.{place_ended, place_going}
use Rattle.ir_gdb.proofs.remote.Remote.put_place.Goals as goal

pub returns-then-position-last-clause-bytes : goal.returns-then-position-last-clause-bytes
returns-then-position-last-clause-bytes c =
    let put = c.put_text.ensures.bytes ∙ ap (λ (xs : List ℕ). c.args.out.now.items ++ xs) c.as_slice.ensures.value in
    let fitted = c.fitted.ensures.value ∙ ap (λ (x : Serving). x.stub.desk.fitted) c.self.view_is in
    let how = c.end_of_thread.ensures ∙ ap (λ (f : FittedTrace). end_of_thread f c.args.thread) fitted in
    let ends = c.put_end.ensures.bytes ∙ ap (λ (e : End). c.put_text.new.out.items ++ words_of_end e) how in
    place_ended c.args.self.now.stub c.args.thread c.position-position.result c.last-last.result c.position-position.ensures.value c.last-last.ensures
    c.new-text.result.items c.put_number.new.text.items c.put_number-2.new.text.items c.put_number-3.new.text.items c.new-text.ensures
    c.put_number.ensures.text c.put_number-2.ensures.text c.put_number-3.ensures.text c.args.out.now.items c.put_text.new.out.items
    c.put_end.new.out.items c.if-position-last.true put ends

pub returns-else-position-last-clause-bytes : goal.returns-else-position-last-clause-bytes
returns-else-position-last-clause-bytes c =
    let put = c.put_text.ensures.bytes ∙ ap (λ (xs : List ℕ). c.args.out.now.items ++ xs) c.as_slice.ensures.value in
    place_going c.args.self.now.stub c.args.thread c.position-position.result c.last-last.result c.position-position.ensures.value c.last-last.ensures
    c.new-text.result.items c.put_number.new.text.items c.put_number-2.new.text.items c.put_number-3.new.text.items c.new-text.ensures
    c.put_number.ensures.text c.put_number-2.ensures.text c.put_number-3.ensures.text c.args.out.now.items c.put_text.new.out.items
    c.if-position-last.false put
