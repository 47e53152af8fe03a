use Rattle.std.proofs.Common.{refl, sym, subst, ◌≡◌}
use Rattle.std.specs.Prelude.{slice_get, Some}
use Rattle.ir_flat.specs.Flat.{thread_of}
use Rattle.ir_log.specs.Asked.{SuitsEvent}
use Rattle.ir_thread.specs.declared.ask.Ask.TheVariants.{Env}
use Rattle.ir_trace.specs.Recorded.{recorded_thread}
use Rattle.ir_fit.proofs.Seen.{suited_call_can_follow, unsuited_call_disagrees, call_ask_is_not_done}
use Rattle.ir_fit.proofs.follower.Follower.look_call.Goals as goal

pub returns-in-Ok-Answer : goal.returns-in-Ok-Answer
returns-in-Ok-Answer c =
    let r = c.args.self.now.trace in
    let f = c.args.self.now.flat in
    let next = subst (λ e. slice_get (recorded_thread r c.args.t).events (thread_of f c.args.t).events ≡ Some e) c.in-Ok-Answer.field-0-is
    c.in-Ok-Answer.ensures.next in
    let suits = subst (λ e. SuitsEvent (Env c.args.kind) e) c.in-Ok-Answer.field-0-is c.in-Ok-Answer.ensures.suits in (
      refl,
      record {
        below = c.requires.thread;
        asked = sym c.requires.asked;
        follows = suited_call_can_follow r f c.args.t c.in-Ok-Answer.result c.args.kind c.in-Ok-Answer.field-0-0 c.next_event.ensures.within
            c.requires.asked c.requires.steps next suits;
      },
    )

pub returns-in-Err : goal.returns-in-Err
returns-in-Err c = (
  call_ask_is_not_done _ c.args.kind c.requires.asked,
  unsuited_call_disagrees c.args.self.now.trace c.args.self.now.flat c.args.t c.args.kind
      c.requires.asked c.in-Err.ensures.disagrees,
)
