use Rattle.std.proofs.Common.{◌+◌, ◌<◌, map, subst, sym, ◌∙◌, arith}
use Rattle.ir_thread.specs.State.{most_events}
use Rattle.ir_crew.specs.Plays.{M, history, did, try_entry}
use Rattle.ir_crew.specs.declared.deed.Deed.TheVariants.{Try}
use Rattle.ir_crew.specs.Rule.{entries, shared_of}
use Rattle.ir_crew.proofs.Steps.{look_is_allowed, try_exchange_allowed, expected_deed_is_done, alone_if_same_seat}
use Rattle.ir_crew.proofs.table.Crew.try_write.Goals as goal

pub load-seen-requires : goal.load-seen-requires
load-seen-requires c = (
  c.requires.seat.0,
  (let o = c.requires.object in let w = c.args.self.now.words in omega (arith, o, w)),
  look_is_allowed _ _ _ c.args.object c.args.seat.now.me c.requires.seat.1 c.requires.object,
)

pub overflow_add-entered : goal.overflow_add-entered
overflow_add-entered c = let s = c.load-seen.ensures.2.1.small in omega (arith, s)

pub compare_exchange-found-requires : goal.compare_exchange-found-requires
compare_exchange-found-requires c = let e = c.load-seen.ensures in (
  e.0 ∙ c.requires.seat.0,
  (let o = c.requires.object in let w = c.args.self.now.words in omega (arith, o, w)),
  try_exchange_allowed _ _ _ c.args.object c.load-seen.result c.load-seen.new.seat.me
      (alone_if_same_seat c.load-seen.new.seat.me c.args.seat.now.me e.2.0 c.requires.seat.1) c.requires.object
      (subst (λ (m : M). entries (map shared_of (history m.0)) < most_events) (sym e.2.0) c.requires.room)
      (c.can_write.ensures.0 c.if-not-can_write.false),
)

pub returns-then-not-can_write-clause-seat : goal.returns-then-not-can_write-clause-seat
returns-then-not-can_write-clause-seat c = let l = c.load-seen.ensures in (l.0, l.1)

pub returns-then-not-can_write-clause-tried : goal.returns-then-not-can_write-clause-tried
returns-then-not-can_write-clause-tried c = c.load-seen.ensures.2.0

pub returns-then-found-seen-clause-seat : goal.returns-then-found-seen-clause-seat
returns-then-found-seen-clause-seat c = let e = c.compare_exchange-found.ensures in let l = c.load-seen.ensures in (e.0 ∙ l.0, e.1 ∙ l.1)

pub returns-then-found-seen-clause-tried : goal.returns-then-found-seen-clause-tried
returns-then-found-seen-clause-tried c =
    expected_deed_is_done try_entry c.args.self.now.table.shared.table_id.slots c.args.object c.load-seen.result (c.load-seen.result + 1)
    c.compare_exchange-found.result c.load-seen.new.seat.me c.args.seat.now.me c.compare_exchange-found.new.seat.me
    c.compare_exchange-found.ensures.2 c.if-found-seen.true c.load-seen.ensures.2.0
    ∙ (λ i. (did c.args.seat.now.me.0 c.args.object (Try (sym c.version.ensures i) (sym c.left.ensures i)), c.args.seat.now.me.1))

pub returns-else-found-seen-clause-seat : goal.returns-else-found-seen-clause-seat
returns-else-found-seen-clause-seat c = let e = c.compare_exchange-found.ensures in let l = c.load-seen.ensures in (e.0 ∙ l.0, e.1 ∙ l.1)

pub returns-else-found-seen-clause-tried : goal.returns-else-found-seen-clause-tried
returns-else-found-seen-clause-tried c = c.compare_exchange-found.ensures.2.1 c.if-found-seen.false ∙ c.load-seen.ensures.2.0
