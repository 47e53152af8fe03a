use Rattle.std.proofs.Common.{◌+◌, ◌-◌, ◌<◌, inl, inr, List, length, sym, subst, arith}
use Rattle.ir_trace.specs.Recorded.{Recorded}
use Rattle.ir_past.specs.Answers.{AreCoherent}
use Rattle.ir_opened.specs.Positions.{IsInside}
use Rattle.ir_opened.proofs.CallerLemmas.{run_trace_is_coherent, inside_below_events}
use Rattle.ir_why.specs.Chain.{IsLink}
use Rattle.ir_why.specs.declared.wait.Wait.{Wait}
use Rattle.ir_why.proofs.Within.{inside_is_of_trace}
use Rattle.ir_why.proofs.Waited.{WaitsGoOn, link_is_inside, needed_event_is_left, found_link_is_of_run, waits_for_none_in_run}
use Rattle.ir_why.proofs.Waited.{needed_event_is_inside, needed_before_leave, waits_go_on_by_wait, are_waits_if_chain_ends}
use Rattle.ir_why.proofs.waits.waits_of.Goals as goal

pub link_from-requires-clause-coherent : goal.link_from-requires-clause-coherent
link_from-requires-clause-coherent c = subst AreCoherent (sym c.trace.ensures.value) (run_trace_is_coherent c.args.fitted.now c.known.ensures.run)

pub link_from-requires-clause-thread : goal.link_from-requires-clause-thread
link_from-requires-clause-thread c = subst (λ (r : Recorded). c.loop.last.thread < length r.threads) (sym c.trace.ensures.value)
    (inside_is_of_trace c.args.fitted.now c.known.ensures.run c.loop.last.thread c.loop.last.event c.loop.invariant.inside).0

pub link_from-requires-clause-event : goal.link_from-requires-clause-event
link_from-requires-clause-event c = inside_below_events c.args.fitted.now c.known.ensures.run c.loop.last.thread c.loop.last.event
    c.loop.invariant.inside c.trace.result.now c.trace.ensures.value

pub wait_of-wait-requires-clause-waiting : goal.wait_of-wait-requires-clause-waiting
wait_of-wait-requires-clause-waiting c =
    let f = c.args.fitted.now in
    let last = c.loop.last in
    let link : IsLink f.recorded c.args.boxes.now last.thread last.event c.in-Some.link = found_link_is_of_run f c.trace.result.now c.trace.ensures.value c.args.boxes.now
    last.thread last.event c.in_ok-link.field-0 c.in-Some.link c.in-Some.is c.in_ok-link.ensures in
    (link_is_inside f c.known.ensures.run c.args.boxes.now last.thread last.event c.in-Some.link c.loop.invariant.inside link).0

pub wait_of-wait-requires-clause-needed : goal.wait_of-wait-requires-clause-needed
wait_of-wait-requires-clause-needed c =
    let f = c.args.fitted.now in
    let last = c.loop.last in
    let link : IsLink f.recorded c.args.boxes.now last.thread last.event c.in-Some.link = found_link_is_of_run f c.trace.result.now c.trace.ensures.value c.args.boxes.now
    last.thread last.event c.in_ok-link.field-0 c.in-Some.link c.in-Some.is c.in_ok-link.ensures in
    (link_is_inside f c.known.ensures.run c.args.boxes.now last.thread last.event c.in-Some.link c.loop.invariant.inside link).1

pub wait_of-wait-requires-clause-left : goal.wait_of-wait-requires-clause-left
wait_of-wait-requires-clause-left c =
    let f = c.args.fitted.now in
    let last = c.loop.last in
    let link : IsLink f.recorded c.args.boxes.now last.thread last.event c.in-Some.link = found_link_is_of_run f c.trace.result.now c.trace.ensures.value c.args.boxes.now
    last.thread last.event c.in_ok-link.field-0 c.in-Some.link c.in-Some.is c.in_ok-link.ensures in
    needed_event_is_left f c.known.ensures.run last.thread c.in-Some.link.waiting.event c.in-Some.link.needed.thread c.in-Some.link.needed.event link.needed.needed

pub last_before-last-requires-clause-inside : goal.last_before-last-requires-clause-inside
last_before-last-requires-clause-inside c =
    let f = c.args.fitted.now in
    let last = c.loop.last in
    let link : IsLink f.recorded c.args.boxes.now last.thread last.event c.in-Some.link = found_link_is_of_run f c.trace.result.now c.trace.ensures.value c.args.boxes.now
    last.thread last.event c.in_ok-link.field-0 c.in-Some.link c.in-Some.is c.in_ok-link.ensures in
    needed_event_is_inside f c.in-Some.link c.wait_of-wait.result c.wait_of-wait.ensures
    (link_is_inside f c.known.ensures.run c.args.boxes.now last.thread last.event c.in-Some.link c.loop.invariant.inside link).1

pub last_before-last-requires-clause-before : goal.last_before-last-requires-clause-before
last_before-last-requires-clause-before c = needed_before_leave c.args.fitted.now c.in-Some.link c.wait_of-wait.result c.wait_of-wait.ensures

pub returns-in_default : goal.returns-in_default
returns-in_default c =
    let f = c.args.fitted.now in
    let last = c.loop.last in
    are_waits_if_chain_ends f c.args.boxes.now c.args.most c.args.here c.loop.waits.items (c.args.most - c.loop.counter) last c.loop.invariant.goes_on
    (inr (waits_for_none_in_run f c.trace.result.now c.trace.ensures.value c.args.boxes.now last.thread last.event c.in_ok-link.field-0 c.in_default.is
    c.in_ok-link.ensures))

pub loop-preserved : goal.loop-preserved
loop-preserved c =
    let f = c.args.fitted.now in
    let last = c.loop.last in
    let l = c.in-Some.link in
    let w = c.wait_of-wait.result in
    let next = c.last_before-last.result in
    let link : IsLink f.recorded c.args.boxes.now last.thread last.event l = found_link_is_of_run f c.trace.result.now c.trace.ensures.value c.args.boxes.now
    last.thread last.event c.in_ok-link.field-0 l c.in-Some.is c.in_ok-link.ensures in
    record {
      inside = subst (λ z. IsInside f z next.event) (sym c.last_before-last.ensures.thread) c.last_before-last.ensures.last.inside;
      goes_on = subst (λ (xs : List Wait). WaitsGoOn f c.args.boxes.now c.args.most c.args.here xs (c.args.most - (c.loop.counter + 1)) next)
          (sym c.in_ok-push.ensures.items)
          (waits_go_on_by_wait f c.args.boxes.now c.args.most c.args.here c.loop.waits.items (c.args.most - c.loop.counter) (c.args.most - (c.loop.counter + 1))
          last next w c.loop.invariant.goes_on (omega (arith, c.loop-test.true)) (record { link = l; is = link; wait = c.wait_of-wait.ensures })
          c.last_before-last.ensures.thread c.last_before-last.ensures.last);
    }

pub returns : goal.returns
returns c = are_waits_if_chain_ends c.args.fitted.now c.args.boxes.now c.args.most c.args.here c.loop.waits.items (c.args.most - c.loop.counter) c.loop.last
    c.loop.invariant.goes_on (inl (omega (arith, c.loop-test.false)))
