use Rattle.std.proofs.Common.{◌≡◌, suc, [], ◌∷◌, ◌++◌, length, map, refl, sym, ap, ◌∙◌, subst, arith, append-nil}
use Rattle.std.specs.List.{AllByRecursion}
use Rattle.std.specs.Prelude.{option_to_list}
use Rattle.std.specs.Vec.Iter.{into_iter_items, into_iter_len}
use Rattle.ir_lemmas.proofs.CallerLemmas.{all_of_push, all_splits_off_last}
use Rattle.ir_thread.specs.State.{most_output}
use Rattle.ir_trace.specs.Bounds.{IsRecordedThread}
use Rattle.ir_record.specs.Threads.{IsEmptyFor, IsOver, AreTraces}
use Rattle.ir_record.proofs.Gathering.{next_item_to_prefix, rest_length_one_less, map_push}
use Rattle.ir_record.proofs.Manning.{worker_traces_push, traces_count_workers, middle_has_property, append_one_is_map, empty_if_length_zero, length_push_suc}
use Rattle.ir_record.proofs.by_threads.results.gathered.Goals as goal

pub filled-bytes-requires : goal.filled-bytes-requires
filled-bytes-requires g c =
    let at = c.loop-worker in
    let parts : at.rooms.items ≡ c.pop.new.self.items ++ c.unwrap.result ∷ [] = c.pop.ensures.items
    ∙ ap (λ z. c.pop.new.self.items ++ option_to_list z) c.unwrap.ensures in
    let own = (all_splits_off_last (IsEmptyFor most_output) c.pop.new.self.items c.unwrap.result
    (subst (AllByRecursion (IsEmptyFor most_output)) parts at.invariant.rooms.each)).1 in
    let room = own.room in
    let most = c.output.ensures.bound in
    record { empty = own.empty; room = omega (arith, room, most) }

pub loop-worker-preserved : goal.loop-worker-preserved
loop-worker-preserved g c =
    let at = c.loop-worker in
    let x = c.in-Some.worker in
    let old = into_iter_items at.worker-iterator in
    let rest = into_iter_items c.next.new.self in
    let parts : at.yielded ++ x ∷ rest ≡ c.args.workers.items = ap (λ z. at.yielded ++ z) (sym c.in-Some.ensures.steps.0)
    ∙ at.invariant.parts in
    let less : length old ≡ suc (length rest) = ap (λ z. length z) c.in-Some.ensures.steps.0 in
    let over : IsOver c.args.profile c.args.objects x = middle_has_property (IsOver c.args.profile c.args.objects) at.yielded rest x
    (subst (AllByRecursion (IsOver c.args.profile c.args.objects)) (sym parts) c.requires.over) in
    let rooms : at.rooms.items ≡ c.pop.new.self.items ++ c.unwrap.result ∷ [] = c.pop.ensures.items
    ∙ ap (λ z. c.pop.new.self.items ++ option_to_list z) c.unwrap.ensures in
    let fewer = length_push_suc c.pop.new.self.items at.rooms.items c.unwrap.result rooms in
    let count = at.invariant.rooms.count in
    record {
      parts = next_item_to_prefix at.yielded old rest c.args.workers.items x at.invariant.parts c.in-Some.ensures.steps.0;
      size = rest_length_one_less old rest x (into_iter_len at.worker-iterator) (into_iter_len c.next.new.self) at.invariant.size
          c.in-Some.ensures.steps.0 c.in-Some.ensures.steps.1;
      seats = c.push_reserved.ensures.items ∙ append_one_is_map (λ w. w.seat) at.yielded x at.seats.items x.seat at.invariant.seats refl;
      traces = subst (AreTraces (at.yielded ++ x ∷ [])) (sym c.push_reserved-in-loop-worker.ensures.items)
          (worker_traces_push at.yielded at.traces.items x c.thread_trace.result at.invariant.traces c.thread_trace.ensures.value);
      fit = subst (AllByRecursion (IsRecordedThread c.args.profile c.args.objects)) (sym c.push_reserved-in-loop-worker.ensures.items)
          (all_of_push (IsRecordedThread c.args.profile c.args.objects) at.traces.items c.thread_trace.result at.invariant.fit
          (c.thread_trace.ensures.fits c.args.profile c.args.objects over.events_fit));
      bytes = map_push (λ o. o.bytes.items) at.each.items c.push_reserved-in-loop-worker-2.new.self.items _
          (map (λ w. w.thread.output) at.yielded) c.push_reserved-in-loop-worker-2.ensures.items at.invariant.bytes
          ∙ append_one_is_map (λ w. w.thread.output) at.yielded x (map (λ w. w.thread.output) at.yielded) c.filled-bytes.result.items
          refl (c.filled-bytes.ensures ∙ c.output.ensures.value);
      worlds = map_push (λ o. o.world) at.each.items c.push_reserved-in-loop-worker-2.new.self.items _ (map (λ w. w.world) at.yielded)
          c.push_reserved-in-loop-worker-2.ensures.items at.invariant.worlds
          ∙ append_one_is_map (λ w. w.world) at.yielded x (map (λ w. w.world) at.yielded) x.world refl refl;
      seat_room = (let a = length_push_suc at.seats.items c.push_reserved.new.self.items x.seat c.push_reserved.ensures.items in let b =
          c.push_reserved.ensures.capacity in let was = at.invariant.seat_room in omega (arith, a, b, was, less));
      trace_room = (let a = length_push_suc at.traces.items c.push_reserved-in-loop-worker.new.self.items c.thread_trace.result
          c.push_reserved-in-loop-worker.ensures.items in let b = c.push_reserved-in-loop-worker.ensures.capacity in let was =
          at.invariant.trace_room in omega (arith, a, b, was, less));
      each_room = (let a = length_push_suc at.each.items c.push_reserved-in-loop-worker-2.new.self.items _
          c.push_reserved-in-loop-worker-2.ensures.items in let b = c.push_reserved-in-loop-worker-2.ensures.capacity in let was =
          at.invariant.each_room in omega (arith, a, b, was, less));
      rooms = record {
        count = omega (arith, fewer, count, less);
        each = (all_splits_off_last (IsEmptyFor most_output) c.pop.new.self.items c.unwrap.result
            (subst (AllByRecursion (IsEmptyFor most_output)) rooms at.invariant.rooms.each)).0;
      };
    }

pub new-requires : goal.new-requires
new-requires g c =
    let at = c.loop-worker in
    let empty : into_iter_items at.worker-iterator ≡ [] =
    empty_if_length_zero (into_iter_items at.worker-iterator) (into_iter_len at.worker-iterator) at.invariant.size c.in-None.ensures.steps.0 in
    let all : at.yielded ≡ c.args.workers.items = sym (append-nil at.yielded) ∙ ap (λ z. at.yielded ++ z) (sym empty)
    ∙ at.invariant.parts in
    let count : length at.traces.items ≡ length c.args.workers.items = traces_count_workers at.yielded at.traces.items at.invariant.traces
    ∙ ap (λ z. length z) all in
    let some = c.requires.some in
    let few = c.requires.few in
    record {
      some_thread = omega (arith, count, some);
      few_threads = omega (arith, count, few);
      few_objects =
          c.requires.objects;
      budget_fits = c.requires.budget;
      threads_fit = at.invariant.fit;
    }
