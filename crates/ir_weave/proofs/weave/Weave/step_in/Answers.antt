use Rattle.std.proofs.Common.{subst}
use Rattle.ir_runs.specs.declared.access.Access.TheVariants.{Reading, Writing}
use Rattle.ir_weave.specs.Ahead.{IsEntering}
use Rattle.ir_weave.specs.Woven.{trace_in}
use Rattle.ir_weave.proofs.Seats.{seated_entry_allowed, stepped_on_reports, entered_word_in_table, entering_not_alone}
use Rattle.ir_weave.proofs.weave.Weave.step_in.Goals as goal

pub fetch_add-requires : goal.fetch_add-requires
fetch_add-requires c = (
  c.requires.seat,
  entered_word_in_table c.args.self.now.table.shared.key c.args.thread.now c.args.seat.now.me.0 c.args.object _ c.args.access
      c.requires.entering.0 c.requires.granted.seated c.requires.entering.1 c.args.self.now.words,
  seated_entry_allowed c.args.self.now.table.shared.key _ _ c.args.object Reading c.requires.entering.0 c.args.thread.now c.args.seat.now.me
      c.requires.granted
      (subst (λ b. IsEntering (trace_in c.args.self.now.table.shared.key) c.args.thread.now c.args.object b c.requires.entering.0)
      c.in-Reading.is c.requires.entering.1),
)

pub fetch_add-requires-in-Writing : goal.fetch_add-requires-in-Writing
fetch_add-requires-in-Writing c = (
  c.requires.seat,
  entered_word_in_table c.args.self.now.table.shared.key c.args.thread.now c.args.seat.now.me.0 c.args.object _ c.args.access
      c.requires.entering.0 c.requires.granted.seated c.requires.entering.1 c.args.self.now.words,
  seated_entry_allowed c.args.self.now.table.shared.key _ _ c.args.object Writing c.requires.entering.0 c.args.thread.now c.args.seat.now.me
      c.requires.granted
      (subst (λ b. IsEntering (trace_in c.args.self.now.table.shared.key) c.args.thread.now c.args.object b c.requires.entering.0)
      c.in-Writing.is c.requires.entering.1),
)

pub returns-in-Reading-clause-entered : goal.returns-in-Reading-clause-entered
returns-in-Reading-clause-entered c =
    (stepped_on_reports c.args.self.now.table.shared.key c.args.thread.now c.requires.entering.1.asked c.args.seat.now.me
    c.fetch_add.new.seat.me c.fetch_add.result c.requires.granted.seated c.requires.entering.1.asking.asks
    (entering_not_alone c.args.self.now.table.shared.key c.args.thread.now c.args.object c.args.access c.requires.entering.0 c.requires.entering.1)
    c.fetch_add.ensures.2).view

pub returns-in-Writing-clause-entered : goal.returns-in-Writing-clause-entered
returns-in-Writing-clause-entered c =
    (stepped_on_reports c.args.self.now.table.shared.key c.args.thread.now c.requires.entering.1.asked c.args.seat.now.me
    c.fetch_add-in-Writing.new.seat.me c.fetch_add-in-Writing.result c.requires.granted.seated c.requires.entering.1.asking.asks
    (entering_not_alone c.args.self.now.table.shared.key c.args.thread.now c.args.object c.args.access c.requires.entering.0 c.requires.entering.1)
    c.fetch_add-in-Writing.ensures.2).view
