use Rattle.std.proofs.Common.{rules, ◌≡◌, ◌<◌, [], ◌∷◌, ◌++◌, length, sym, ap, ◌∙◌, subst, arith, ℕ}
use Rattle.std.specs.List.{AllByRecursion}
use Rattle.std.specs.Vec.Iter.{into_iter_items, into_iter_len}
use Rattle.ir_lemmas.proofs.CallerLemmas.{all_of_push}
use Rattle.ir_flat.specs.Flat.{thread_of}
use Rattle.ir_trace.specs.Bounds.{IsEvent, IsRecordedThread}
use Rattle.ir_record.specs.Gathered.{IsThreadTrace, AreThreadTraces}
use Rattle.ir_record.specs.Progress.{no_log, log_at}
use Rattle.ir_record.proofs.Gathering.{get_or_at_prefix_end, prefix_end_below_length, thread_traces_push, looked_up_is_thread_of, next_item_to_prefix, rest_length_one_less}
use Rattle.ir_record.proofs.in_order.logged_guest.LoggedGuest.into_trace.Goals as goal

pub loop-log-preserved : goal.loop-log-preserved
loop-log-preserved c =
    let at = c.loop-log in
    let x = c.in-Some.log in
    let rest = into_iter_items c.next.new.self in
    let objects : ℕ = length c.args.self.flat.objects in
    let parts : at.yielded ++ x ∷ rest ≡ c.args.self.logs.items = ap (λ z. at.yielded ++ z) (sym c.in-Some.ensures.steps.0)
    ∙ at.invariant.parts in
    let below : length at.yielded < length c.args.self.flat.threads = let l = prefix_end_below_length at.yielded rest c.args.self.logs.items x parts in
    omega (arith, l, c.requires.has_logs.one_each) in
    let count : length at.threads.items ≡ length at.yielded = at.invariant.traces.count in
    let place : c.len-in-loop-log.result ≡ length at.threads.items = search rules in
    let found = looked_up_is_thread_of c.args.self.flat c.threads.result.now c.len-in-loop-log.result c.index-threads-len.result
    c.threads.ensures.value (omega (arith, below, count, place)) c.index-threads-len.is in
    let emitted : IsThreadTrace (thread_of c.args.self.flat (length at.threads.items)) x c.thread_trace.result =
    subst (λ k. IsThreadTrace (thread_of c.args.self.flat k) x c.thread_trace.result) place
    (subst (λ z. IsThreadTrace z x c.thread_trace.result) found c.thread_trace.ensures.value) in
    let fits : AllByRecursion (IsEvent c.args.profile objects) x.events =
    subst (λ z. AllByRecursion (IsEvent c.args.profile objects) z.events) (get_or_at_prefix_end at.yielded rest c.args.self.logs.items x no_log parts)
    (subst (λ p. AllByRecursion (IsEvent p objects) (log_at c.args.self.logs.items (length at.yielded)).events)
    (c.requires.profile (length at.yielded) below) (c.requires.has_logs.events_fit (length at.yielded) below)) in
    record {
      parts = next_item_to_prefix at.yielded (into_iter_items at.log-iterator) rest c.args.self.logs.items x at.invariant.parts
          c.in-Some.ensures.steps.0;
      size = rest_length_one_less (into_iter_items at.log-iterator) rest x (into_iter_len at.log-iterator) (into_iter_len c.next.new.self)
          at.invariant.size c.in-Some.ensures.steps.0 c.in-Some.ensures.steps.1;
      traces = subst (λ z. AreThreadTraces c.args.self.flat (at.yielded ++ x ∷ []) z) (sym c.in_ok-push.ensures.items)
          (thread_traces_push c.args.self.flat at.yielded x at.threads.items c.thread_trace.result at.invariant.traces emitted);
      fit = subst (λ z. AllByRecursion (IsRecordedThread c.args.profile objects) z) (sym c.in_ok-push.ensures.items)
          (all_of_push (IsRecordedThread c.args.profile objects) at.threads.items c.thread_trace.result at.invariant.fit
          (c.thread_trace.ensures.fits c.args.profile objects fits));
    }
