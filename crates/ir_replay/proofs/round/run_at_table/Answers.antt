use Rattle.std.proofs.Common.{rules, ◌≡◌, ◌≤◌, length, sym, ap, ◌∙◌, subst, arith}
use Rattle.std.specs.Prelude.{vec_len, vec_capacity}
use Rattle.ir_weave.specs.Standing.{Standing}
use Rattle.ir_weave.specs.Woven.{trace_in, IsClosedTable}
use Rattle.ir_replay.specs.Rounds.{backwards, round_threads, views_of}
use Rattle.ir_replay.specs.Workers.{HasWorked}
use Rattle.ir_replay.proofs.Down.{AllByNumber, length-threads_backward}
use Rattle.ir_replay.proofs.AfterRound.{StandsBelowTarget, stands_below_target, IsAssigned, workers_are_assigned, assigned_are_ready}
use Rattle.ir_replay.proofs.AfterRound.{IsAfterRound, workers_are_after_round, workers_are_of_table, round_is_between_and_goes}
use Rattle.ir_lemmas.proofs.CallerLemmas.{take_append_is_first, related_same_length}
use Rattle.ir_replay.proofs.round.run_at_table.Goals as goal

pub run_all-requires-clause-ready : goal.run_all-requires-clause-ready
run_all-requires-clause-ready g c κs within =
    let id = c.args.opened.weave.table.shared.table_id in
    let k = c.args.opened.weave.table.shared.key in
    let f = c.args.fitted.now in
    let target = c.args.target.now in
    let ws = c.assign_seats.new.workers.items in
    let start : StandsBelowTarget f target c.args.state =
    record {
      run = c.image.ensures.within;
      stands = c.requires.state;
      size = c.requires.target.0;
      consistent =
          c.requires.target.1;
      below = c.requires.below;
    } in
    let inside : StandsBelowTarget (trace_in k) target k.opened.value = stands_below_target k f target c.args.state c.requires.table c.requires.opened start in
    let of_threads : backwards (round_threads ws) ≡ k.opened.value.threads = c.assign_seats.ensures.threads ∙ c.parts-threads.ensures.threads
    ∙ ap (λ (z : Standing). z.threads) (sym c.requires.opened) in
    assigned_are_ready id k target ws (workers_are_assigned id k target ws c.args.opened.seats.items inside c.requires.seats.0 c.assign_seats.ensures.seats of_threads)

pub joined-seat-requires-clause-some : goal.joined-seat-requires-clause-some
joined-seat-requires-clause-some g c =
    let vs = c.assign_seats.new.workers.items in
    let ws = c.run_all.new.workers.items in
    let same = related_same_length (HasWorked c.args.opened.weave.table.shared.table_id c.args.opened.weave.table.shared.key c.args.target.now) vs ws
    c.run_all.ensures in
    let some = c.code.ensures.within.some_thread in
    let of = ap (λ z. length z.entries) c.image.ensures.value in
    let back = length-threads_backward vs in
    let threads = ap (λ z. length z) (c.assign_seats.ensures.threads ∙ c.parts-threads.ensures.threads) in
    let there = c.requires.state.at.threads in
    let len : vec_len c.run_all.new.workers ≡ length ws = search rules in
    omega (arith, same, some, of, back, threads, there, len)

pub joined-seat-requires-clause-room : goal.joined-seat-requires-clause-room
joined-seat-requires-clause-room g c =
    let vs = c.assign_seats.new.workers.items in
    let ws = c.run_all.new.workers.items in
    let same = related_same_length (HasWorked c.args.opened.weave.table.shared.table_id c.args.opened.weave.table.shared.key c.args.target.now) vs ws
    c.run_all.ensures in
    let back = length-threads_backward vs in
    let threads = ap (λ z. length z) c.assign_seats.ensures.threads in
    let len : vec_len c.run_all.new.workers ≡ length ws = search rules in
    let held = c.assign_seats.ensures.room in
    let own : length c.parts-threads.result.0.items ≤ vec_capacity c.parts-threads.result.0 = search rules in
    omega (arith, same, back, threads, len, held, own)

pub joined-seat-requires-clause-seats : goal.joined-seat-requires-clause-seats
joined-seat-requires-clause-seats g c =
    let id = c.args.opened.weave.table.shared.table_id in
    let k = c.args.opened.weave.table.shared.key in
    let f = c.args.fitted.now in
    let target = c.args.target.now in
    let vs = c.assign_seats.new.workers.items in
    let ws = c.run_all.new.workers.items in
    let start : StandsBelowTarget f target c.args.state =
    record {
      run = c.image.ensures.within;
      stands = c.requires.state;
      size = c.requires.target.0;
      consistent =
          c.requires.target.1;
      below = c.requires.below;
    } in
    let inside : StandsBelowTarget (trace_in k) target k.opened.value = stands_below_target k f target c.args.state c.requires.table c.requires.opened start in
    let of_threads : backwards (round_threads vs) ≡ k.opened.value.threads = c.assign_seats.ensures.threads ∙ c.parts-threads.ensures.threads
    ∙ ap (λ (z : Standing). z.threads) (sym c.requires.opened) in
    let first : AllByNumber (IsAssigned id k target) vs =
    workers_are_assigned id k target vs c.args.opened.seats.items inside c.requires.seats.0 c.assign_seats.ensures.seats of_threads in
    workers_are_of_table id k target ws (workers_are_after_round id k target vs ws first c.run_all.ensures)

pub returns-clause-between : goal.returns-clause-between
returns-clause-between g c =
    let id = c.args.opened.weave.table.shared.table_id in
    let k = c.args.opened.weave.table.shared.key in
    let f = c.args.fitted.now in
    let target = c.args.target.now in
    let vs = c.assign_seats.new.workers.items in
    let ws = c.run_all.new.workers.items in
    let start : StandsBelowTarget f target c.args.state =
    record {
      run = c.image.ensures.within;
      stands = c.requires.state;
      size = c.requires.target.0;
      consistent =
          c.requires.target.1;
      below = c.requires.below;
    } in
    let inside : StandsBelowTarget (trace_in k) target k.opened.value = stands_below_target k f target c.args.state c.requires.table c.requires.opened start in
    let all : backwards (round_threads vs) ≡ c.args.state.threads = c.assign_seats.ensures.threads ∙ c.parts-threads.ensures.threads in
    let first : AllByNumber (IsAssigned id k target) vs =
    workers_are_assigned id k target vs c.args.opened.seats.items inside c.requires.seats.0 c.assign_seats.ensures.seats
    (all ∙ ap (λ (z : Standing). z.threads) (sym c.requires.opened)) in
    let last : AllByNumber (IsAfterRound id k target) ws = workers_are_after_round id k target vs ws first c.run_all.ensures in
    let size : length ws ≡ length c.args.state.threads = related_same_length (HasWorked id k target) vs ws c.run_all.ensures ∙ sym (length-threads_backward vs)
    ∙ ap (λ z. length z) all in
    let closed : IsClosedTable k (views_of ws) c.close.new.objects =
    subst (λ v. IsClosedTable k v c.close.new.objects) c.joined-seat.ensures.views c.close.ensures in
    let len : c.parts-threads.result.1.len ≡ length c.parts-threads.result.1.items = search rules in
    let kept : length c.close.new.objects ≡ length c.parts-threads.result.1.items = search rules in
    (round_is_between_and_goes id k f target c.args.state c.build.result ws c.close.new.objects c.requires.table c.requires.opened start size last closed
    (c.build.ensures ∙ (λ i. record {
      threads = c.joined-seat.ensures.threads i;
      objects =
          take_append_is_first c.close.new.objects c.parts-threads.result.1.items c.parts-threads.result.1.len len kept i;
    }))).0

pub returns-clause-goes : goal.returns-clause-goes
returns-clause-goes g c =
    let id = c.args.opened.weave.table.shared.table_id in
    let k = c.args.opened.weave.table.shared.key in
    let f = c.args.fitted.now in
    let target = c.args.target.now in
    let vs = c.assign_seats.new.workers.items in
    let ws = c.run_all.new.workers.items in
    let start : StandsBelowTarget f target c.args.state =
    record {
      run = c.image.ensures.within;
      stands = c.requires.state;
      size = c.requires.target.0;
      consistent =
          c.requires.target.1;
      below = c.requires.below;
    } in
    let inside : StandsBelowTarget (trace_in k) target k.opened.value = stands_below_target k f target c.args.state c.requires.table c.requires.opened start in
    let all : backwards (round_threads vs) ≡ c.args.state.threads = c.assign_seats.ensures.threads ∙ c.parts-threads.ensures.threads in
    let first : AllByNumber (IsAssigned id k target) vs =
    workers_are_assigned id k target vs c.args.opened.seats.items inside c.requires.seats.0 c.assign_seats.ensures.seats
    (all ∙ ap (λ (z : Standing). z.threads) (sym c.requires.opened)) in
    let last : AllByNumber (IsAfterRound id k target) ws = workers_are_after_round id k target vs ws first c.run_all.ensures in
    let size : length ws ≡ length c.args.state.threads = related_same_length (HasWorked id k target) vs ws c.run_all.ensures ∙ sym (length-threads_backward vs)
    ∙ ap (λ z. length z) all in
    let closed : IsClosedTable k (views_of ws) c.close.new.objects =
    subst (λ v. IsClosedTable k v c.close.new.objects) c.joined-seat.ensures.views c.close.ensures in
    let len : c.parts-threads.result.1.len ≡ length c.parts-threads.result.1.items = search rules in
    let kept : length c.close.new.objects ≡ length c.parts-threads.result.1.items = search rules in
    (round_is_between_and_goes id k f target c.args.state c.build.result ws c.close.new.objects c.requires.table c.requires.opened start size last closed
    (c.build.ensures ∙ (λ i. record {
      threads = c.joined-seat.ensures.threads i;
      objects =
          take_append_is_first c.close.new.objects c.parts-threads.result.1.items c.parts-threads.result.1.len len kept i;
    }))).1
