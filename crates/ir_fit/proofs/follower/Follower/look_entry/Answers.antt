use Rattle.std.proofs.Common.{refl, sym}
use Rattle.ir_flat.specs.Flat.{cell_of}
use Rattle.ir_flat.proofs.CallerLemmas.{entered_object_exists}
use Rattle.ir_fit.proofs.Seen.{open_entry_can_follow, shut_entry_is_stopped, suited_entry_agrees, entry_awaits_event}
use Rattle.ir_fit.proofs.Seen.{unsuited_entry_differs, entry_ask_is_not_done, true_test_cell_open, false_test_cell_shut}
use Rattle.ir_fit.proofs.follower.Follower.look_entry.Goals as goal

pub object-requires : goal.object-requires
object-requires c = entered_object_exists c.args.self.now.flat c.args.t c.args.object c.args.access c.next_event.ensures.flat c.requires.thread
    c.requires.asked

pub returns-in-Err : goal.returns-in-Err
returns-in-Err c = (
  entry_ask_is_not_done _ c.args.object c.args.access c.requires.asked,
  unsuited_entry_differs c.args.self.now.trace c.args.self.now.flat
      c.args.t c.args.object c.args.access c.requires.asked c.in-Err.ensures.disagrees,
)

pub returns-then-is_open : goal.returns-then-is_open
returns-then-is_open c = (
  refl,
  record {
    below = c.requires.thread;
    asked = sym c.requires.asked;
    follows = open_entry_can_follow c.args.self.now.trace c.args.self.now.flat c.args.t c.args.object c.args.access c.in-Ok.event
        c.next_event.ensures.flat c.requires.thread c.requires.asked c.requires.steps c.in-Ok.ensures.next c.in-Ok.ensures.suits
        (true_test_cell_open c.is_open.result c.object.result.now (cell_of c.args.self.now.flat c.args.object) c.in-Ok.event c.object.ensures
        c.is_open.ensures c.if-is_open.true);
  },
)

pub returns-else-is_open : goal.returns-else-is_open
returns-else-is_open c = (
  record {
    awaits = entry_awaits_event c.args.self.now.trace c.args.self.now.flat c.args.t c.args.object c.args.access c.requires.asked;
    next = c.in-Ok.ensures.next;
  },
  suited_entry_agrees c.args.self.now.trace c.args.self.now.flat c.args.t c.args.object c.args.access c.in-Ok.event c.requires.asked
      c.requires.steps c.in-Ok.ensures.next c.in-Ok.ensures.suits,
  shut_entry_is_stopped c.args.self.now.trace c.args.self.now.flat c.args.t c.args.object c.args.access c.in-Ok.event c.next_event.ensures.flat
      c.requires.thread c.requires.asked c.in-Ok.ensures.next c.in-Ok.ensures.suits
      (false_test_cell_shut c.is_open.result c.object.result.now (cell_of c.args.self.now.flat c.args.object) c.in-Ok.event c.object.ensures
      c.is_open.ensures c.if-is_open.false),
)
