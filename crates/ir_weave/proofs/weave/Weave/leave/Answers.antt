use Rattle.std.proofs.Common.{◌∙◌, ◌+◌, ◌*◌, suc, false, sym, subst}
use Rattle.ir_thread.specs.declared.ask.Ask.TheVariants.{Leave}
use Rattle.ir_weave.specs.Ahead.{IsAsking}
use Rattle.ir_weave.specs.Woven.{M, trace_in, met_of, IsSeated}
use Rattle.ir_weave.proofs.Seats.{seated_read_leave_allowed, seated_write_leave_allowed, stepped_on_reports, left_word_in_table, view_at}
use Rattle.ir_weave.proofs.weave.Weave.leave.Goals as goal

pub fetch_add-requires : goal.fetch_add-requires
fetch_add-requires c = (
  c.requires.seat,
  left_word_in_table c.args.self.now.table.shared.key c.args.thread.now c.args.seat.now.me.0 c.args.object _ c.args.access c.requires.thread
      c.requires.asking c.args.self.now.words,
  seated_read_leave_allowed c.args.self.now.table.shared.key _ _ c.args.object c.args.thread.now c.args.seat.now.me c.requires.thread
      (subst (λ b. IsAsking (trace_in c.args.self.now.table.shared.key) c.args.thread.now (Leave c.args.object b)) c.in-Reading.is
      c.requires.asking),
)

pub version-version-requires-clause-asking : goal.version-version-requires-clause-asking
version-version-requires-clause-asking c = subst (λ b. IsAsking (trace_in c.args.self.now.table.shared.key) c.args.thread.now
    (Leave c.args.object b)) c.in-Writing.is c.requires.asking

pub store-requires : goal.store-requires
store-requires c = (
  c.version-version.ensures.seat.0 ∙ c.requires.seat,
  left_word_in_table c.args.self.now.table.shared.key c.args.thread.now c.args.seat.now.me.0 c.args.object _ c.args.access c.requires.thread
      c.requires.asking c.args.self.now.words,
  seated_write_leave_allowed c.args.self.now.table.shared.key _ _ c.args.object c.version-version.result c.args.thread.now
      c.version-version.new.seat.me
      (subst (λ (m : M). IsSeated c.args.self.now.table.shared.key m.0 c.args.thread.now) (sym c.version-version.ensures.seat.2)
      c.requires.thread)
      (subst (λ b. IsAsking (trace_in c.args.self.now.table.shared.key) c.args.thread.now (Leave c.args.object b)) c.in-Writing.is
      c.requires.asking) c.version-version.ensures.version,
)

pub returns-in-Reading-clause-left : goal.returns-in-Reading-clause-left
returns-in-Reading-clause-left c =
    (stepped_on_reports c.args.self.now.table.shared.key c.args.thread.now (Leave c.args.object c.args.access) c.args.seat.now.me
    c.fetch_add.new.seat.me c.fetch_add.result c.requires.thread c.requires.asking.asks (λ b. b) c.fetch_add.ensures.2).view

pub returns-in-Writing-clause-left : goal.returns-in-Writing-clause-left
returns-in-Writing-clause-left c =
    (stepped_on_reports c.args.self.now.table.shared.key c.args.thread.now (Leave c.args.object c.args.access) c.version-version.new.seat.me
    c.store.new.seat.me ((c.version-version.result + 1) * 4294967296)
    (subst (λ (m : M). IsSeated c.args.self.now.table.shared.key m.0 c.args.thread.now) (sym c.version-version.ensures.seat.2)
    c.requires.thread) c.requires.asking.asks (λ b. b) c.store.ensures.2).view
    ∙ (λ i. (
      view_at c.args.self.now.table.shared.key c.args.thread.now (suc c.args.thread.now.steps) false
          (met_of (c.version-version.ensures.seat.2 i).0),
      (c.version-version.ensures.seat.2 i).1,
    ))
