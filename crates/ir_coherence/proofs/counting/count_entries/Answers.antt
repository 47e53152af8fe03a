use Rattle.std.proofs.Common.{◌≡◌, ◌<◌, ◌∙◌, length, get_or, vec_len, sym, ap, subst, arith}
use Rattle.std.proofs.lemmas.List.{get_or_read}
use Rattle.ir_trace.specs.Recorded.{RecordedThread, recorded_thread}
use Rattle.ir_trace.specs.Absent.{absent}
use Rattle.std.specs.List.{AllByRecursion}
use Rattle.ir_coherence.specs.Counting.{MayStand, HasRoom}
use Rattle.ir_coherence.proofs.Breaks.{counts_have_room, thread_may_stand}
use Rattle.ir_coherence.proofs.counting.count_entries.Goals as goal

pub add_log-requires-clause-objects : goal.add_log-requires-clause-objects
add_log-requires-clause-objects c =
    let r = c.args.trace.now in
    let i = c.loop-thread.thread-index in
    let threads = c.threads-thread-items.ensures.value in
    let within : i < length c.threads-thread-items.result.now = omega (arith, c.loop-thread-test.true) in
    let thread : c.thread-item.result ≡ recorded_thread r i =
    get_or_read c.threads-thread-items.result.now i c.thread-item.result within c.thread-item.is absent
    ∙ ap (λ ts. get_or ts i absent) threads in
    let events : c.events.result.now ≡ (recorded_thread r i).events = c.events.ensures.value ∙ c.log.ensures
    ∙ ap (λ (x : RecordedThread). x.events) thread in
    subst (AllByRecursion (MayStand (vec_len c.loop-thread.counts.objects))) (sym events)
    (thread_may_stand r c.threads-thread-items.ensures.within i c.loop-thread.counts (omega (arith, within, ap length threads))
    c.loop-thread.invariant)

pub add_log-requires-clause-room : goal.add_log-requires-clause-room
add_log-requires-clause-room c =
    let r = c.args.trace.now in
    let i = c.loop-thread.thread-index in
    let threads = c.threads-thread-items.ensures.value in
    let within : i < length c.threads-thread-items.result.now = omega (arith, c.loop-thread-test.true) in
    let thread : c.thread-item.result ≡ recorded_thread r i =
    get_or_read c.threads-thread-items.result.now i c.thread-item.result within c.thread-item.is absent
    ∙ ap (λ ts. get_or ts i absent) threads in
    let events : c.events.result.now ≡ (recorded_thread r i).events = c.events.ensures.value ∙ c.log.ensures
    ∙ ap (λ (x : RecordedThread). x.events) thread in
    subst (λ es. HasRoom c.loop-thread.counts (length es)) (sym events)
    (counts_have_room r c.threads-thread-items.ensures.within i c.loop-thread.counts (omega (arith, within, ap length threads))
    c.loop-thread.invariant)
