use Rattle.std.proofs.Common.{rules, ◌≡◌, ◌<◌, suc, ◌∷◌, ◌++◌, length, sym, ap, ◌∙◌, subst, arith}
use Rattle.std.proofs.lemmas.List.{length-map}
use Rattle.std.specs.Vec.Iter.{into_iter_items, into_iter_len}
use Rattle.ir_thread.specs.State as thread
use Rattle.ir_crew.specs.Ends.{AreCrewSeats}
use Rattle.ir_record.specs.Threads.{AreNew}
use Rattle.ir_record.proofs.Gathering.{prefix_end_below_length, next_item_to_prefix, rest_length_one_less, map_push}
use Rattle.ir_record.proofs.Manning.{new_workers_push, first_seat_and_rest, rest_one_shorter, length_push_suc}
use Rattle.ir_record.proofs.by_threads.workers.new_workers.Goals as goal

pub loop-world-preserved : goal.loop-world-preserved
loop-world-preserved g c =
    let at = c.loop-world in
    let x = c.in-Some.world in
    let rest = into_iter_items c.next.new.self in
    let parts : at.yielded ++ x ∷ rest ≡ c.args.worlds.items = ap (λ z. at.yielded ++ z) (sym c.in-Some.ensures.steps.0)
    ∙ at.invariant.parts in
    let place : c.len-in-loop-world.result ≡ length at.made.items = search rules in
    let size : length c.args.worlds.items ≡ length c.args.image.now.entries = search rules in
    let count : length at.made.items ≡ length at.yielded = sym (length-map at.made.items (λ o. o.world))
    ∙ ap (λ z. length z) at.invariant.worlds in
    let below = prefix_end_below_length at.yielded rest c.args.worlds.items x parts in
    let left = at.invariant.left in
    let some : 0 < length at.seats.items = omega (arith, place, size, count, below, left) in
    let seats = c.remove-seat.ensures.by_index.2 in
    let fewer = rest_one_shorter at.seats.items c.remove-seat.new.self.items some seats in
    let long : length c.push.new.self.items ≡ suc (length at.made.items) =
    length_push_suc at.made.items c.push.new.self.items _ c.in_ok-push.ensures.items in
    record {
      parts = next_item_to_prefix at.yielded (into_iter_items at.world-iterator) rest c.args.worlds.items x at.invariant.parts
          c.in-Some.ensures.steps.0;
      size = rest_length_one_less (into_iter_items at.world-iterator) rest x (into_iter_len at.world-iterator) (into_iter_len c.next.new.self)
          at.invariant.size c.in-Some.ensures.steps.0 c.in-Some.ensures.steps.1;
      worlds = map_push (λ o. o.world) at.made.items c.push.new.self.items _ at.yielded c.in_ok-push.ensures.items at.invariant.worlds;
      left = omega (arith, fewer, long, left);
      new = λ id h.
          let z = at.invariant.new id h in
          let q = first_seat_and_rest id (length at.made.items) at.seats.items c.remove-seat.new.self.items c.remove-seat.result some
          c.remove-seat.ensures.value seats z.0 in (
            subst (λ n. AreCrewSeats id n c.remove-seat.new.self.items) (sym long) q.1,
            subst (AreNew c.args.image.now c.args.budget c.args.profile id 0) (sym c.in_ok-push.ensures.items)
                (new_workers_push c.args.image.now c.args.budget c.args.profile id 0 (length at.made.items) at.made.items _ z.1 (omega arith) (record {
                  table = q.0.0;
                  me = q.0.1;
                  thread = c.in_ok-thread.ensures ∙ ap (λ n. thread.start_state c.args.image.now n c.args.budget c.args.profile) place;
                  log = c.in_ok-log.ensures;
                })),
          );
    }
