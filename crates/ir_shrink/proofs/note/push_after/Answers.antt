use Rattle.std.proofs.Common.{◌≡◌, ◌++◌, List, true, false, refl, sym, ap, ◌∙◌, arith}
use Rattle.ir_record.specs.Recording.{turns_of_items}
use Rattle.ir_record.specs.Refusing.{Turn}
use Rattle.ir_shrink.proofs.Items.{joined_items_are_one, pushed_item_turns, pushed_both_joined, pushed_items_joined}
use Rattle.ir_shrink.proofs.note.push_after.Goals as goal

pub returns-then-are_alike-clause-turns : goal.returns-then-are_alike-clause-turns
returns-then-are_alike-clause-turns c =
    let same = c.are_alike.ensures.0 c.if-are_alike.true in
    pushed_item_turns c.args.items.now.items c.push.new.self.items (record c.args.last { count = c.in-Some.count }) c.in_ok-push.ensures.items
    ∙ ap (λ (z : List Turn). turns_of_items c.args.items.now.items ++ z)
    (joined_items_are_one c.args.last c.args.item c.in-Some.count same.0 same.1 c.in-Some.ensures.1)

pub returns-then-are_alike-clause-joined : goal.returns-then-are_alike-clause-joined
returns-then-are_alike-clause-joined c = λ h some. pushed_both_joined c.args.items.now.items c.push.new.self.items c.args.last
    (record c.args.last { count = c.in-Some.count }) c.in_ok-push.ensures.items refl refl (let sum = c.in-Some.ensures.1 in omega (arith, sum, some)) h

pub returns-clause-joined : goal.returns-clause-joined
returns-clause-joined c = λ h some. pushed_items_joined c.args.items.now.items c.push-2.new.self.items c.push-3.new.self.items c.args.last c.args.item
    c.in_ok-push-2.ensures.items c.in_ok-push-3.ensures.items
    (λ t r. let e : true ≡ false = sym (c.are_alike.ensures.1 (t, r)) ∙ c.if-are_alike.false in cc e) h some
