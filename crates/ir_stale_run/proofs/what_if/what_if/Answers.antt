use Rattle.std.proofs.Common.{refl, sym, ◌∙◌, ◌<◌, arith}
use Rattle.ir_thread.specs.declared.ask.Ask.TheVariants as ask
use Rattle.ir_thread.specs.declared.ask.Reply.TheVariants.{Go}
use Rattle.ir_event_walk.specs.declared.exchange.Exchange.{Exchange}
use Rattle.ir_stale_run.proofs.Differs.{what_if_spent_fuel, what_if_differs_at_call, what_if_goes_on, what_if_none_left, no_difference_suits, remaining_calls_suit}
use Rattle.ir_stale_run.proofs.what_if.what_if.Goals as goal

none : Exchange
none = record { asked = ask.Done; reply = Go }

pub loop-call-init : goal.loop-call-init
loop-call-init c = record { same = refl; suit = c.requires }

pub returns-then-taken-left : goal.returns-then-taken-left
returns-then-taken-left c = what_if_spent_fuel c.args.code.now c.args.object c.args.fresh.now c.loop-call.hold c.loop-call.call-index c.run-taken.result.0
    c.loop-call.left c.loop-call.thread c.run-taken.new.self c.args.calls.now none _ c.loop-call.invariant.same c.loop-call-test.true
    c.run-taken.ensures.steps c.if-taken-left.true

pub returns-in-Some : goal.returns-in-Some
returns-in-Some c =
    let less : c.run-taken.result.0 < c.loop-call.left = (let w = c.run-taken.ensures.within in let n = c.if-taken-left.false in omega (arith, w, n)) in
    what_if_differs_at_call c.args.code.now c.args.object c.args.fresh.now c.loop-call.hold c.loop-call.call-index c.run-taken.result.0
    c.loop-call.left c.loop-call.thread c.run-taken.new.self c.args.calls.now _ c.run-taken.result.1 _ _ c.loop-call.invariant.same
    c.loop-call-test.true c.run-taken.ensures.steps less c.run-taken.ensures.asked (c.run-taken.ensures.stops less)
    (sym c.difference.ensures ∙ c.in-Some.is)

pub take_asked-requires-clause-suits : goal.take_asked-requires-clause-suits
take_asked-requires-clause-suits c = no_difference_suits c.loop-call.hold c.args.object c.args.fresh.now c.loop-call.call-index c.args.calls.now _
    c.run-taken.result.1 c.answer.result c.loop-call-test.true c.loop-call.invariant.suit (sym c.difference.ensures ∙ c.in_default.is) c.answer.ensures

pub loop-call-preserved : goal.loop-call-preserved
loop-call-preserved c =
    let less : c.run-taken.result.0 < c.loop-call.left = (let w = c.run-taken.ensures.within in let n = c.if-taken-left.false in omega (arith, w, n)) in
    record {
      same = what_if_goes_on c.args.code.now c.args.object c.args.fresh.now c.loop-call.hold c.hold_after-hold.result c.loop-call.call-index
          c.run-taken.result.0 c.loop-call.left c.loop-call.thread c.run-taken.new.self c.take_asked.new.self c.args.calls.now _
          c.run-taken.result.1 c.answer.result _ c.loop-call.invariant.same c.loop-call-test.true c.run-taken.ensures.steps less
          c.run-taken.ensures.asked (c.run-taken.ensures.stops less) (sym c.difference.ensures ∙ c.in_default.is) c.answer.ensures
          c.take_asked.ensures c.hold_after-hold.ensures;
      suit = remaining_calls_suit c.loop-call.call-index c.args.calls.now none c.loop-call-test.true c.loop-call.invariant.suit;
    }

pub returns : goal.returns
returns c = what_if_none_left c.args.code.now c.args.object c.args.fresh.now c.loop-call.hold c.loop-call.call-index c.loop-call.left c.loop-call.thread
    c.args.calls.now _ c.loop-call.invariant.same c.loop-call-test.false
