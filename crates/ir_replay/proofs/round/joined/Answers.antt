use Rattle.std.proofs.Common.{rules, ◌≡◌, [], ◌∷◌, ◌++◌, length, refl, ap, ◌∙◌, subst, arith}
use Rattle.std.specs.List.{AllByRecursion}
use Rattle.std.specs.Prelude.{option_to_list, vec_len}
use Rattle.ir_lemmas.proofs.CallerLemmas.{all_splits_off_last}
use Rattle.ir_replay.specs.Rounds.{backwards, round_threads, IsOfTable}
use Rattle.ir_replay.proofs.Dealt.{views_of_last, joined_views_whole, joined_threads_whole, length_after_push}
use Rattle.ir_replay.proofs.round.joined.Goals as goal

pub workers-init : goal.workers-init
workers-init c =
    let id = c.args.weave.now.table.shared.table_id in
    let parts : c.args.workers.now.items ≡ c.pop.new.self.items ++ c.unwrap-first.result ∷ [] = c.pop.ensures.items
    ∙ ap (λ z. c.pop.new.self.items ++ option_to_list z) c.unwrap-first.ensures in
    let h = all_splits_off_last (IsOfTable id) c.pop.new.self.items c.unwrap-first.result
    (subst (AllByRecursion (IsOfTable id)) parts c.requires.seats) in
    let less = length_after_push c.args.workers.now.items c.pop.new.self.items c.unwrap-first.result parts in
    let len : vec_len c.args.workers.now ≡ length c.args.workers.now.items = search rules in
    let room = c.requires.room in
    let cap = c.push_reserved.ensures.capacity in
    let pushed : c.push_reserved.new.self.items ≡ [] ++ c.unwrap-first.result.thread ∷ [] = c.push_reserved.ensures.items
    ∙ ap (λ z. z ++ c.unwrap-first.result.thread ∷ []) c.requires.none in
    let one = ap (λ z. length z) pushed in
    record {
      table = h.1.table;
      slots = h.1.slots;
      views = views_of_last c.args.workers.now.items c.pop.new.self.items c.unwrap-first.result parts;
      threads = joined_threads_whole c.args.workers.now.items c.pop.new.self.items c.unwrap-first.result [] c.push_reserved.new.self.items
          (backwards (round_threads c.args.workers.now.items)) refl parts pushed;
      room = omega (arith, one, less, len, room, cap);
      seats = h.0;
    }

pub join-all-requires-clause-other : goal.join-all-requires-clause-other
join-all-requires-clause-other c =
    let id = c.args.weave.now.table.shared.table_id in
    let h = all_splits_off_last (IsOfTable id) c.pop-in-workers.new.self.items c.in-Some.worker
    (subst (AllByRecursion (IsOfTable id)) c.in-Some.ensures.items c.workers.invariant.seats) in
    (h.1.table, h.1.slots)

pub workers-preserved : goal.workers-preserved
workers-preserved c =
    let id = c.args.weave.now.table.shared.table_id in
    let i = c.workers.invariant in
    let h = all_splits_off_last (IsOfTable id) c.pop-in-workers.new.self.items c.in-Some.worker
    (subst (AllByRecursion (IsOfTable id)) c.in-Some.ensures.items i.seats) in
    let less = length_after_push c.workers.workers.items c.pop-in-workers.new.self.items c.in-Some.worker c.in-Some.ensures.items in
    let more = length_after_push c.push_reserved-in-Some.new.self.items c.workers.threads.items c.in-Some.worker.thread
    c.push_reserved-in-Some.ensures.items in
    let cap = c.push_reserved-in-Some.ensures.capacity in
    let room = i.room in
    record {
      table = c.join-all.ensures.0 ∙ i.table;
      slots = ap (λ z. z.1) c.join-all.ensures.1;
      views = joined_views_whole c.workers.workers.items c.pop-in-workers.new.self.items c.in-Some.worker c.workers.all c.join-all.result _ i.views
          c.in-Some.ensures.items c.join-all.ensures.1;
      threads = joined_threads_whole c.workers.workers.items c.pop-in-workers.new.self.items c.in-Some.worker c.workers.threads.items
          c.push_reserved-in-Some.new.self.items _ i.threads c.in-Some.ensures.items c.push_reserved-in-Some.ensures.items;
      room = omega (arith, less, more, cap, room);
      seats = h.0;
    }
