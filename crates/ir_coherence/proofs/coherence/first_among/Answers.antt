use Rattle.std.proofs.Common.{◌≡◌, ◌<◌, ◌∙◌, List, length, get_or, ap, subst, arith}
use Rattle.std.proofs.lemmas.List.{get_or_read}
use Rattle.ir_trace.specs.Recorded.{RecordedThread, recorded_thread}
use Rattle.ir_trace.specs.Absent.{absent}
use Rattle.ir_coherence.specs.Counting.{reads_of, writes_of, FirstCause}
use Rattle.ir_coherence.proofs.Breaks.{coherent_without_cause, first_break_is_first}
use Rattle.ir_coherence.proofs.coherence.first_among.Goals as goal

pub returns-in-Some-clause-breaks : goal.returns-in-Some-clause-breaks
returns-in-Some-clause-breaks c =
    let r = c.args.trace.now in
    let t = c.loop-number.number in
    let within : t < length c.threads-threads.result.now = omega (arith, c.loop-number-test.true) in
    let thread : c.index-threads-number.result ≡ recorded_thread r t =
    get_or_read c.threads-threads.result.now t c.index-threads-number.result within c.index-threads-number.is absent
    ∙ ap (λ ts. get_or ts t absent) c.threads-threads.ensures.value in
    let events : c.events.result.now ≡ (recorded_thread r t).events = c.events.ensures.value ∙ c.log.ensures
    ∙ ap (λ (x : RecordedThread). x.events) thread in
    first_break_is_first r c.args.counts.now c.requires.counts t c.in-Some.event c.in-Some.cause c.loop-number.invariant
    (subst (λ es. FirstCause (reads_of c.args.counts.now) (writes_of c.args.counts.now) es c.in-Some.event c.in-Some.cause) events
    c.in-Some.ensures.found)

pub returns-clause-coherent : goal.returns-clause-coherent
returns-clause-coherent c =
    let threads = ap (λ (ts : List RecordedThread). length ts) c.threads-threads.ensures.value in
    coherent_without_cause c.args.trace.now c.args.counts.now c.requires.counts
    (λ t l. c.loop-number.invariant t (omega (arith, threads, l, c.loop-number-test.false)))
