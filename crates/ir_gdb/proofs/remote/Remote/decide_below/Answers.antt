use Rattle.std.proofs.Common.{◌≤◌, ◌+◌, ◌∙◌, List, length, sym, subst}
use Rattle.ir_command.specs.declared.command.Direction.TheVariants.{Backwards}
use Rattle.ir_gdb.specs.declared.point.Watched.{Watched}
use Rattle.ir_gdb.specs.Stub.{most_stub_points}
use Rattle.ir_gdb.proofs.Nexts.{plain_hit_is_stop, undecided_hit_is_no_stop, decided_hit_is_stop}
use Rattle.ir_gdb.proofs.remote.Remote.decide_below.Goals as goal

pub returns-then-is_plain-clause-stop : goal.returns-then-is_plain-clause-stop
returns-then-is_plain-clause-stop g c =
    plain_hit_is_stop c.args.self.now.stub Backwards c.args.thread c.args.watched c.args.hit (sym c.is_plain.ensures ∙ c.if-is_plain.true) c.requires.lowest

pub returns-in_default-clause-stop : goal.returns-in_default-clause-stop
returns-in_default-clause-stop g c =
    let s = c.args.self.now.stub in
    let few = subst (λ (ws : List Watched). length s.breaks + length ws ≤ most_stub_points) c.watches_if.ensures.value c.watches_if.ensures.few in
    undecided_hit_is_no_stop s Backwards c.args.thread c.args.watched c.args.hit c.args.cut.now c.in_ok-place.field-0 few c.requires.there
    (sym c.is_plain.ensures ∙ c.if-is_plain.false) c.in_default.is c.requires.comes
    c.requires.lowest c.in_ok-place.ensures.met

pub returns-clause-stop : goal.returns-clause-stop
returns-clause-stop g c =
    let s = c.args.self.now.stub in
    let few = subst (λ (ws : List Watched). length s.breaks + length ws ≤ most_stub_points) c.watches_if.ensures.value c.watches_if.ensures.few in
    decided_hit_is_stop s Backwards c.args.thread c.args.watched c.args.hit c.guarded_hit.result c.args.cut.now c.in_ok-place.field-0 c.in-Some.place few
    c.requires.there (sym c.is_plain.ensures ∙ c.if-is_plain.false) c.in-Some.is c.guarded_hit.ensures c.requires.comes c.requires.lowest c.in_ok-place.ensures.met
