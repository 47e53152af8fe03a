use Rattle.std.proofs.Common.{rules, ◌≡◌, ◌<◌, ℕ, List, map, length, sym, ap, ◌∙◌, subst, arith}
use Rattle.std.specs.List.{AllByRecursion, AllZip}
use Rattle.ir_image.specs.Guest.{Guest, object_count}
use Rattle.ir_image.proofs.CallerLemmas.{guest_threads_within}
use Rattle.ir_crew.specs.Ends.{IsCrewEnd}
use Rattle.ir_record.specs.Recording.{EachWentOn}
use Rattle.ir_record.specs.Threads.{IsSeatOf, views_of}
use Rattle.ir_record.specs.Working.{work_of_worker, IsReadyWorker, RanToEnd}
use Rattle.ir_record.specs.Worlds.{NoneFailed, IsFirstFailed, AreSameWorlds}
use Rattle.ir_record.specs.declared.by_threads.worker.Worker.{Worker}
use Rattle.ir_record.proofs.ByThreads.{recorded_of}
use Rattle.ir_record.proofs.Crewed.{NoneBroken, HaveRun, new_workers_are_ready, threads_there, room_there, worlds_there, seats_there}
use Rattle.ir_record.proofs.Crewed.{ended_there, all_over, each_there, seat_views_are_tracks, trace_of_its_worker, map_map}
use Rattle.ir_record.proofs.Manning.{traces_count_workers}
use Rattle.ir_record.proofs.by_threads.record.Given as given
use Rattle.ir_record.proofs.by_threads.record.Goals as goal

pub run_workers-requires-clause-ready : goal.run_workers-requires-clause-ready
run_workers-requires-clause-ready g c κs within =
    let id = c.in_ok-crew.crew.table.shared.table_id in
    let old = c.in_ok-workers.workers.items in
    let same : c.code.result.now ≡ c.args.image.now.code = c.code.ensures.value in
    subst (λ (z : Guest × List ℕ). (k : ℕ) (d : _) → k < length old
    → IsReadyWorker g.W.World.answers g.W.World.broken z.0 id z.1 (Rattle.std.proofs.Common.get_or old k d))
    (λ i. (sym c.in_ok-crew.ensures.key i, sym same i))
    (new_workers_are_ready g.W.World.answers g.W.World.broken c.args.image.now c.args.limits.budget c.args.limits.profile 0 id old c.args.worlds.items
    (c.in_ok-workers.ensures.new id c.in_ok-crew.ensures.seats.0) c.in_ok-workers.ensures.worlds c.requires.works)

-- the workers that were started have run to such ends
abbrev Ran : (g : given.Over) → goal.After-workers-3-1 g → (end : List (Worker g.row.W.Denot)) → Type 0
Ran g c end = HaveRun g.W.World.answers g.W.World.broken g.W.World.origin c.args.image.now c.args.limits.budget c.args.limits.profile
    c.in_ok-crew.crew.table.shared.table_id c.args.worlds.items c.in_ok-workers.workers.items end

ran : (g : given.Over) (c : goal.After-workers-3-1 g) (end : List (Worker g.row.W.Denot))
    → AllZip (RanToEnd g.W.World.answers g.W.World.broken g.W.World.origin c.in_ok-crew.crew.table.shared.key)
    c.in_ok-workers.workers.items end → Ran g c end
ran g c end pairs = record {
  new = c.in_ok-workers.ensures.new c.in_ok-crew.crew.table.shared.table_id c.in_ok-crew.ensures.seats.0;
  pairs = subst (λ z. AllZip (RanToEnd g.W.World.answers g.W.World.broken g.W.World.origin z) c.in_ok-workers.workers.items end)
      c.in_ok-crew.ensures.key pairs;
  same = c.in_ok-workers.ensures.worlds;
  each = search rules;
}

-- where a world has failed, and where none has
ran_some : (g : given.Over) (c : goal.In-Some g) → Ran g c.before.before.before.before.before c.run_workers.new.workers.items
ran_some g c = ran g c.before.before.before.before.before c.run_workers.new.workers.items c.run_workers.ensures

ran_all : (g : given.Over) (c : goal.After-len-2 g)
    → Ran g c.before.before.before.before.before.before.before c.run_workers.new.workers.items
ran_all g c = ran g c.before.before.before.before.before.before.before c.run_workers.new.workers.items c.run_workers.ensures

none_broken : (g : given.Over) (c : goal.After-len-2 g) → NoneBroken g.W.World.broken c.run_workers.new.workers.items
none_broken g c = subst (λ z. NoneFailed (map (λ w. g.W.World.broken w.world) z)) c.as_slice.ensures.value
    (c.first_failed.ensures.none (search rules))

counted : (g : given.Over) (c : goal.After-len-2 g) → c.len-2.result ≡ object_count c.args.image.now
counted g c = (let a : c.len-2.result ≡ length c.in_ok-objects.objects.items = search rules in a) ∙ c.in_ok-objects.ensures
    ∙ c.object_count.ensures.value

-- where the objects have been counted, from the end
abbrev at_count : (g : given.Over) → goal.After-drop-objects-2 g → goal.After-len-2 g
at_count g c = c.before.before.before.before.before.before.before.before

pub worlds_of-requires : goal.worlds_of-requires
worlds_of-requires g c = room_there (ran_some g c) c.in_ok-buffers.ensures (search rules) (search rules)

pub gathered-seats-requires-clause-buffers : goal.gathered-seats-requires-clause-buffers
gathered-seats-requires-clause-buffers g c = room_there (ran_all g c) c.in_ok-buffers.ensures (search rules) (search rules)

pub overflow_cast-result : goal.overflow_cast-result
overflow_cast-result g c =
    let below : c.in-Some.thread < length c.run_workers.new.workers.items =
    subst (λ z. c.in-Some.thread < length z) c.as_slice.ensures.value c.in-Some.ensures.below in
    omega (arith, below, threads_there (ran_some g c), guest_threads_within c.args.image.now c.code.ensures.within)

pub returns-in-Some-clause-failed : goal.returns-in-Some-clause-failed
returns-in-Some-clause-failed g c = (
  subst (λ z. IsFirstFailed z c.in-Some.thread) (ap (map (λ w. g.W.World.broken w.world)) c.as_slice.ensures.value
      ∙ sym (map_map g.W.World.broken (λ w. w.world) c.run_workers.new.workers.items)
      ∙ ap (map g.W.World.broken) (sym c.worlds_of.ensures)) c.in-Some.ensures.failed,
  subst (AreSameWorlds g.W.World.origin c.args.worlds.items) (sym c.worlds_of.ensures)
      (worlds_there (ran_some g c.before.before.before)),
  subst (EachWentOn g.W.World.answers g.W.World.broken c.args.image.now c.args.limits.budget c.args.limits.profile c.args.worlds.items)
      (sym c.worlds_of.ensures) (each_there (ran_some g c.before.before.before)),
)

pub gathered-seats-requires-clause-over : goal.gathered-seats-requires-clause-over
gathered-seats-requires-clause-over g c = ended_there (ran_all g c) c.len-2.result (counted g c) (none_broken g c)

pub gathered-seats-requires-clause-some : goal.gathered-seats-requires-clause-some
gathered-seats-requires-clause-some g c = omega (arith, threads_there (ran_all g c), c.code.ensures.within.some_thread)

pub gathered-seats-requires-clause-few : goal.gathered-seats-requires-clause-few
gathered-seats-requires-clause-few g c = omega (arith, threads_there (ran_all g c), c.requires.allowed.0)

pub gathered-seats-requires-clause-objects : goal.gathered-seats-requires-clause-objects
gathered-seats-requires-clause-objects g c = omega (arith, counted g c, c.requires.allowed.1)

pub joined-seat-requires-clause-seats : goal.joined-seat-requires-clause-seats
joined-seat-requires-clause-seats g c = subst (AllByRecursion (IsSeatOf c.in_ok-crew.crew.table.shared.table_id))
    (sym c.gathered-seats.ensures.seats) (seats_there (ran_all g c.before.before) (none_broken g c.before.before))

pub returns-clause-recorded : goal.returns-clause-recorded
returns-clause-recorded g c =
    let end = c.run_workers.new.workers.items in
    let all = ran_all g (at_count g c) in
    let emitted = c.gathered-seats.ensures.trace in
    let each_of = c.gathered-seats.result.2.each.items in
    recorded_of (all_over all c.code.ensures.within (none_broken g (at_count g c)))
    (subst (λ z. IsCrewEnd z c.joined-seat.result.me.0 c.close.new.objects) c.in_ok-crew.ensures.key c.close.ensures)
    (c.joined-seat.ensures.views ∙ ap views_of c.gathered-seats.ensures.seats ∙ seat_views_are_tracks g.W.World.answers end)
    c.gathered-seats.result.1 (emitted.0 ∙ counted g (at_count g c)) emitted.1 emitted.2
    (traces_count_workers end c.gathered-seats.result.1.threads emitted.3 ∙ threads_there all)
    (λ t l. trace_of_its_worker g.W.World.answers end c.gathered-seats.result.1.threads emitted.3 t (omega (arith, l, threads_there all)))
    _ (c.gathered-seats.ensures.bytes ∙ sym (map_map (λ w. w.thread.output) (work_of_worker g.W.World.answers) end))
    _ (sym (map_map g.W.World.answers (λ o. o.world) each_of) ∙ ap (map g.W.World.answers) c.gathered-seats.ensures.worlds
    ∙ map_map g.W.World.answers (λ w. w.world) end ∙ sym (map_map (λ w. w.answers) (work_of_worker g.W.World.answers) end))

pub returns-clause-works : goal.returns-clause-works
returns-clause-works g c = subst NoneFailed (sym (sym (map_map g.W.World.broken (λ o. o.world) c.gathered-seats.result.2.each.items)
    ∙ ap (map g.W.World.broken) c.gathered-seats.ensures.worlds ∙ map_map g.W.World.broken (λ w. w.world) c.run_workers.new.workers.items))
    (none_broken g (at_count g c))

pub returns-clause-origins : goal.returns-clause-origins
returns-clause-origins g c = sym (map_map g.W.World.origin (λ o. o.world) c.gathered-seats.result.2.each.items)
    ∙ ap (map g.W.World.origin) c.gathered-seats.ensures.worlds ∙ worlds_there (ran_all g (at_count g c))
