use Rattle.std.proofs.Common.{◌+◌, ◌<◌, map, subst, sym, ◌∙◌, arith}
use Rattle.ir_thread.specs.State.{most_events}
use Rattle.ir_runs.specs.declared.access.Access.TheVariants.{Writing}
use Rattle.ir_crew.specs.Plays.{M, history, did, write_entry}
use Rattle.ir_crew.specs.declared.deed.Deed.TheVariants.{Enter}
use Rattle.ir_crew.specs.Rule.{entries, shared_of}
use Rattle.ir_crew.proofs.Steps.{look_is_allowed, write_entry_is_allowed, expected_deed_is_done, alone_if_same_seat}
use Rattle.ir_crew.proofs.table.Crew.enter_write.Goals as goal

pub load-seen-requires : goal.load-seen-requires
load-seen-requires g c = (
  c.requires.seat.0,
  (let o = c.requires.object in let w = c.args.self.now.words in omega (arith, o, w)),
  look_is_allowed _ _
      _ c.args.object c.args.seat.now.me c.requires.seat.1 c.requires.object,
)

pub loop-init : goal.loop-init
loop-init g c = let e = c.load-seen.ensures in record { table = e.0; id = e.1; me = e.2.0; small = e.2.1.small }

pub overflow_add-entered : goal.overflow_add-entered
overflow_add-entered g c = let s = c.loop.invariant.small in omega (arith, s)

pub compare_exchange-found-requires : goal.compare_exchange-found-requires
compare_exchange-found-requires g c = let me = c.loop.invariant.me in (
  c.loop.invariant.table ∙ c.requires.seat.0,
  (let o = c.requires.object in let w = c.args.self.now.words in omega (arith, o, w)),
  write_entry_is_allowed _ _ _ c.args.object c.loop.seen c.loop.seat.me (alone_if_same_seat c.loop.seat.me c.args.seat.now.me me c.requires.seat.1)
      c.requires.object
      (subst (λ (m : M). entries (map shared_of (history m.0)) < most_events) (sym me) c.requires.room)
      (c.can_write.ensures.0 c.if-can_write.true),
)

pub returns-then-found-seen-clause-seat : goal.returns-then-found-seen-clause-seat
returns-then-found-seen-clause-seat g c = let e = c.compare_exchange-found.ensures in
    (e.0 ∙ c.loop.invariant.table, e.1 ∙ c.loop.invariant.id)

pub returns-then-found-seen-clause-entered : goal.returns-then-found-seen-clause-entered
returns-then-found-seen-clause-entered g c =
    expected_deed_is_done write_entry c.args.self.now.table.shared.table_id.slots c.args.object c.loop.seen (c.loop.seen + 1)
    c.compare_exchange-found.result c.loop.seat.me c.args.seat.now.me c.compare_exchange-found.new.seat.me
    c.compare_exchange-found.ensures.2 c.if-found-seen.true c.loop.invariant.me
    ∙ (λ i. (did c.args.seat.now.me.0 c.args.object (Enter Writing (sym c.version.ensures i) (sym c.left.ensures i)), c.args.seat.now.me.1))

pub loop-preserved-then-can_write : goal.loop-preserved-then-can_write
loop-preserved-then-can_write g c = let e = c.compare_exchange-found.ensures in let i = c.loop.invariant in
    record { table = e.0 ∙ i.table; id = e.1 ∙ i.id; me = e.2.1 c.if-found-seen.false ∙ i.me; small = e.2.2 }

pub load-seen-requires-else-can_write : goal.load-seen-requires-else-can_write
load-seen-requires-else-can_write g c = (
  c.loop.invariant.table ∙ c.requires.seat.0,
  (let o = c.requires.object in let w = c.args.self.now.words in omega (arith, o, w)),
  look_is_allowed _ _ _ c.args.object c.loop.seat.me (alone_if_same_seat c.loop.seat.me c.args.seat.now.me c.loop.invariant.me c.requires.seat.1)
      c.requires.object,
)

pub loop-preserved : goal.loop-preserved
loop-preserved g c = let e = c.load-seen-else-can_write.ensures in let i = c.loop.invariant in
    record { table = e.0 ∙ i.table; id = e.1 ∙ i.id; me = e.2.0 ∙ i.me; small = e.2.1.small }
