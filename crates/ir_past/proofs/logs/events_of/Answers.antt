use Rattle.std.proofs.Common.{◌≡◌, ◌<◌, ◌∙◌, List, length, get_or, sym, ap, subst, arith}
use Rattle.std.proofs.lemmas.List.{get_or_read}
use Rattle.ir_log.specs.declared.event.Event.{Event}
use Rattle.ir_trace.specs.Recorded.{RecordedThread, recorded_thread}
use Rattle.ir_trace.specs.Absent.{absent}
use Rattle.ir_coherence.proofs.CallerLemmas.{recorded_thread_fits}
use Rattle.ir_past.specs.Progress.{FitsSoFar}
use Rattle.ir_past.proofs.Open.{events_fit_objects}
use Rattle.ir_past.proofs.logs.events_of.Goals as goal

pub returns : goal.returns
returns c =
    let r = c.args.trace.now in
    let t = c.args.thread in
    let within : t < length c.threads-threads.result.now = omega (arith, c.requires, ap (λ (ts : List RecordedThread). length ts) c.threads-threads.ensures.value) in
    let thread : c.index-threads-thread.result ≡ recorded_thread r t =
    get_or_read c.threads-threads.result.now t c.index-threads-thread.result within c.index-threads-thread.is absent
    ∙ ap (λ (ts : List RecordedThread). get_or ts t absent) c.threads-threads.ensures.value in
    let events : c.events.result.now ≡ (recorded_thread r t).events = c.events.ensures.value ∙ c.log.ensures
    ∙ ap (λ (x : RecordedThread). x.events) thread in
    let fits = recorded_thread_fits r c.threads-threads.ensures.within t c.requires in
    record {
      events = events;
      count = ap (λ (es : List Event). length es) events;
      few = omega (arith, ap (λ (es : List Event). length es) events, fits.few_events);
      fits = subst (λ (es : List Event). FitsSoFar es r.objects) (sym events) (events_fit_objects r.profile r.objects (recorded_thread r t).events fits.events_fit);
    }
