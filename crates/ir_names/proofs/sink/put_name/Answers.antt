use Rattle.std.proofs.Common.{List, ℕ, subst, sym, refl}
use Rattle.ir_stream.specs.Writing.{WritesText}
use Rattle.ir_stream.proofs.CallerLemmas.{writes_or_fails_whole}
use Rattle.ir_names.specs.Naming.{tag}
use Rattle.ir_names.proofs.Written.{nothing_appended}
use Rattle.ir_names.proofs.sink.put_name.Goals as goal

pub returns-in-Some : goal.returns-in-Some
returns-in-Some g c = subst (λ (text : List ℕ). WritesText g.W.Sink.written g.W.Sink.broken c.args.sink.now c.put_tag.new.sink text c.put_tag.result)
    (sym c.in-Some.ensures) c.put_tag.ensures

pub returns-in-None : goal.returns-in-None
returns-in-None g c = writes_or_fails_whole
    (nothing_appended (g.W.Sink.written c.args.sink.now) (tag c.args.names.now c.args.reached.now) c.in-None.ensures) refl
