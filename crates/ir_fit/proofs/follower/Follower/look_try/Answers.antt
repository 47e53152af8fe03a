use Rattle.std.proofs.Common.{refl, sym, subst, ◌≡◌}
use Rattle.std.specs.Prelude.{slice_get, Some}
use Rattle.ir_flat.specs.Flat.{thread_of, cell_of}
use Rattle.ir_log.specs.Asked.{SuitsEvent}
use Rattle.ir_thread.specs.declared.ask.Ask.TheVariants.{Try}
use Rattle.ir_trace.specs.Recorded.{recorded_thread}
use Rattle.ir_flat.proofs.CallerLemmas.{tried_object_exists}
use Rattle.ir_fit.proofs.Seen.{refused_try_can_follow, open_try_can_follow, shut_try_is_stopped, suited_try_agrees, try_that_got_in_awaits}
use Rattle.ir_fit.proofs.Seen.{unsuited_try_disagrees, ask_of_try_is_not_done, try_not_refused_got_in, true_test_cell_open}
use Rattle.ir_fit.proofs.Seen.{false_test_cell_shut}
use Rattle.ir_fit.proofs.follower.Follower.look_try.Goals as goal

pub object-requires : goal.object-requires
object-requires c = tried_object_exists c.args.self.now.flat c.args.t c.args.object c.next_event.ensures.flat c.requires.thread c.requires.asked

pub returns-in-Err : goal.returns-in-Err
returns-in-Err c = (
  ask_of_try_is_not_done _ c.args.object c.requires.asked,
  unsuited_try_disagrees c.args.self.now.trace c.args.self.now.flat c.args.t c.args.object c.requires.asked c.in-Err.ensures.disagrees,
)

pub returns-in-Try : goal.returns-in-Try
returns-in-Try c =
    let r = c.args.self.now.trace in
    let f = c.args.self.now.flat in
    let next = subst (λ e. slice_get (recorded_thread r c.args.t).events (thread_of f c.args.t).events ≡ Some e) c.in-Try.is
    c.in-Ok.ensures.next in
    let suits = subst (λ e. SuitsEvent (Try c.args.object) e) c.in-Try.is c.in-Ok.ensures.suits in (
      refl,
      record {
        below = c.requires.thread;
        asked = sym c.requires.asked;
        follows = refused_try_can_follow r f c.args.t c.args.object c.in-Try.object c.requires.asked c.requires.steps next suits;
      },
    )

pub returns-then-is_open : goal.returns-then-is_open
returns-then-is_open c = (
  refl,
  record {
    below = c.requires.thread;
    asked = sym c.requires.asked;
    follows = open_try_can_follow c.args.self.now.trace c.args.self.now.flat c.args.t c.args.object c.in-Ok.logged c.next_event.ensures.flat
        c.requires.thread c.requires.asked c.requires.steps c.in-Ok.ensures.next c.in-Ok.ensures.suits
        (true_test_cell_open c.is_open.result c.object.result.now (cell_of c.args.self.now.flat c.args.object) c.in-Ok.logged c.object.ensures
        c.is_open.ensures c.if-is_open.true);
  },
)

pub returns-else-is_open : goal.returns-else-is_open
returns-else-is_open c =
    let in_ = try_not_refused_got_in c.args.object c.in-Ok.logged c.in-Ok.ensures.suits c.in_default.not-Try in (
      record {
        awaits = try_that_got_in_awaits c.args.self.now.trace c.args.self.now.flat c.args.t c.args.object c.in-Ok.logged c.requires.asked
            c.in-Ok.ensures.next in_;
        next = c.in-Ok.ensures.next;
      },
      suited_try_agrees c.args.self.now.trace c.args.self.now.flat c.args.t c.args.object c.in-Ok.logged c.requires.asked c.requires.steps
          c.in-Ok.ensures.next c.in-Ok.ensures.suits,
      shut_try_is_stopped c.args.self.now.trace c.args.self.now.flat c.args.t c.args.object c.in-Ok.logged c.next_event.ensures.flat
          c.requires.thread c.requires.asked c.in-Ok.ensures.next c.in-Ok.ensures.suits in_
          (false_test_cell_shut c.is_open.result c.object.result.now (cell_of c.args.self.now.flat c.args.object) c.in-Ok.logged c.object.ensures
          c.is_open.ensures c.if-is_open.false),
    )
