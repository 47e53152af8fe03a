use Rattle.std.proofs.Common.{◌≤◌, ◌+◌, ◌∙◌, ℕ, List, length, ap, sym, subst}
use Rattle.ir_command.specs.declared.command.Direction.TheVariants.{Forwards}
use Rattle.ir_command.specs.declared.hit.Hit.{Hit}
use Rattle.ir_gdb.specs.declared.point.Watched.{Watched}
use Rattle.ir_gdb.specs.Guards.{guard_offset}
use Rattle.ir_gdb.specs.Stub.{most_stub_points}
use Rattle.ir_gdb.proofs.Nexts.{plain_hit_is_stop, undecided_hit_is_no_stop, decided_hit_is_stop}
use Rattle.ir_gdb.proofs.remote.Remote.decide.Goals as goal

abbrev hit : ℕ → ℕ → Hit
hit position number = record { position = position; number = number }

pub returns-then-is_plain-clause-stop : goal.returns-then-is_plain-clause-stop
returns-then-is_plain-clause-stop g c =
    plain_hit_is_stop c.args.self.now.stub Forwards c.args.thread c.args.watched c.args.hit (sym c.is_plain.ensures ∙ c.if-is_plain.true) c.requires.lowest

pub returns-in_default-clause-stop : goal.returns-in_default-clause-stop
returns-in_default-clause-stop g c =
    let s = c.args.self.now.stub in
    let few = subst (λ (ws : List Watched). length s.breaks + length ws ≤ most_stub_points) c.watches_if.ensures.value c.watches_if.ensures.few in
    undecided_hit_is_no_stop s Forwards c.args.thread c.args.watched c.args.hit c.args.cut.now c.in_ok-place.field-0 few c.requires.there
    (sym c.is_plain.ensures ∙ c.if-is_plain.false) c.in_default.is c.requires.comes
    c.requires.lowest c.in_ok-place.ensures.met

pub returns-clause-stop : goal.returns-clause-stop
returns-clause-stop g c =
    let s = c.args.self.now.stub in
    let few = subst (λ (ws : List Watched). length s.breaks + length ws ≤ most_stub_points) c.watches_if.ensures.value c.watches_if.ensures.few in
    let length_is = ap (λ (ws : List Watched). length ws) c.watches_if.ensures.value in
    let number = c.guarded_hit.ensures ∙ ap (λ (n : ℕ). hit c.args.hit.position (n + c.in-Some.place + guard_offset)) length_is in
    decided_hit_is_stop s Forwards c.args.thread c.args.watched c.args.hit c.guarded_hit.result c.args.cut.now c.in_ok-place.field-0 c.in-Some.place few c.requires.there
    (sym c.is_plain.ensures ∙ c.if-is_plain.false) c.in-Some.is number c.requires.comes c.requires.lowest c.in_ok-place.ensures.met
