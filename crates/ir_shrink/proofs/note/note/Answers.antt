use Rattle.std.proofs.Common.{◌≡◌, ◌-◌, ◌++◌, List, sym, take, ap, ◌∙◌, subst, arith, append-nil}
use Rattle.std.specs.Prelude.{option_to_list, vec_len}
use Rattle.ir_record.specs.Recording.{turns_of_items}
use Rattle.ir_record.specs.declared.item.Item.{Item}
use Rattle.ir_shrink.specs.Items.{AreJoined, turns_of}
use Rattle.ir_shrink.proofs.Items.{no_turns_more, popped_item_turns, pushed_item_turns, first_item_joined}
use Rattle.ir_shrink.proofs.note.note.Goals as goal

pub returns-then-item-eq0-clause-turns : goal.returns-then-item-eq0-clause-turns
returns-then-item-eq0-clause-turns c = no_turns_more c.args.items.now.items c.args.item c.if-item-eq0.true

pub returns-in_ok-push_after-in-Some-clause-turns : goal.returns-in_ok-push_after-in-Some-clause-turns
returns-in_ok-push_after-in-Some-clause-turns c = popped_item_turns c.args.items.now.items c.pop.new.self.items c.push_after.new.items.items c.in-Some.last c.args.item
    (c.pop.ensures.items ∙ ap (λ o. c.pop.new.self.items ++ option_to_list o) c.in-Some.is) c.in_ok-push_after-in-Some.ensures.turns

pub returns-in_ok-push_after-in-Some-clause-joined : goal.returns-in_ok-push_after-in-Some-clause-joined
returns-in_ok-push_after-in-Some-clause-joined c = λ h. c.in_ok-push_after-in-Some.ensures.joined
    (subst AreJoined (c.pop.ensures.items ∙ ap (λ o. c.pop.new.self.items ++ option_to_list o) c.in-Some.is) h) (omega (arith, c.if-item-eq0.false))

pub returns-in_ok-push-in-None-clause-turns : goal.returns-in_ok-push-in-None-clause-turns
returns-in_ok-push-in-None-clause-turns c =
    let left = c.pop.ensures.items ∙ ap (λ o. c.pop.new.self.items ++ option_to_list o) c.in-None.is ∙ append-nil c.pop.new.self.items in
    pushed_item_turns c.pop.new.self.items c.push.new.self.items c.args.item c.in_ok-push-in-None.ensures.items
    ∙ ap (λ (z : List Item). turns_of_items z ++ turns_of c.args.item) (sym left)

pub returns-in_ok-push-in-None-clause-joined : goal.returns-in_ok-push-in-None-clause-joined
returns-in_ok-push-in-None-clause-joined c = λ h.
    let none = (rw c.in-None.is at c.pop.ensures.cases).0 in
    let few : vec_len c.args.items.now - 1 ≡ 0 = omega (arith, none) in
    first_item_joined c.pop.new.self.items c.push.new.self.items c.args.item (c.pop.ensures.rest ∙ ap (λ n. take n c.args.items.now.items) few)
    c.in_ok-push-in-None.ensures.items (omega (arith, c.if-item-eq0.false))
