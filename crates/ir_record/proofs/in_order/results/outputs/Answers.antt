use Rattle.std.proofs.Common.{rules, ◌≡◌, ◌∷◌, ◌++◌, length, sym, ap, ◌∙◌, subst, arith, get_or}
use Rattle.std.proofs.lemmas.List.{length-map}
use Rattle.std.specs.Vec.Iter.{into_iter_items, into_iter_len}
use Rattle.ir_record.proofs.Gathering.{prefix_end_below_length, next_item_to_prefix, rest_length_one_less, map_push, map_take_step}
use Rattle.ir_record.proofs.in_order.results.outputs.Goals as goal

pub loop-world-preserved : goal.loop-world-preserved
loop-world-preserved g c =
    let at = c.loop-world in
    let x = c.in-Some.world in
    let rest = into_iter_items c.next.new.self in
    let parts : at.yielded ++ x ∷ rest ≡ c.args.worlds.items = ap (λ z. at.yielded ++ z) (sym c.in-Some.ensures.steps.0)
    ∙ at.invariant.parts in
    let place : c.len.result ≡ length at.each.items = search rules in
    let size : length c.args.worlds.items ≡ length c.args.threads.now = search rules in
    let count : length at.each.items ≡ length at.yielded = sym (length-map at.each.items (λ o. o.world))
    ∙ ap (λ z. length z) at.invariant.worlds in
    let below = prefix_end_below_length at.yielded rest c.args.worlds.items x parts in
    record {
      parts = next_item_to_prefix at.yielded (into_iter_items at.world-iterator) rest c.args.worlds.items x at.invariant.parts
          c.in-Some.ensures.steps.0;
      size = rest_length_one_less (into_iter_items at.world-iterator) rest x (into_iter_len at.world-iterator) (into_iter_len c.next.new.self)
          at.invariant.size c.in-Some.ensures.steps.0 c.in-Some.ensures.steps.1;
      worlds = map_push (λ o. o.world) at.each.items c.push.new.self.items _ at.yielded c.in_ok-push.ensures.items at.invariant.worlds;
      bytes = map_take_step (λ o. o.bytes.items) (λ z. z.output) at.each.items c.push.new.self.items
          (record { bytes = c.in_ok-bytes.bytes; world = x }) c.args.threads.now c.index-threads-len.result c.in_ok-push.ensures.items
          at.invariant.bytes
          (omega (arith, size, count, below)) (subst (λ k. c.index-threads-len.result ≡ get_or c.args.threads.now k
          c.index-threads-len.result) place c.index-threads-len.is) (c.in_ok-bytes.ensures.items ∙ c.output.ensures.value);
    }
