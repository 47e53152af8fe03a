use Rattle.std.proofs.Common.{sym, ◌∙◌}
use Rattle.ir_weave.proofs.Steps.{seated_has_step, done_thread_has_waited}
use Rattle.ir_weave.proofs.weave.Weave.try_asked.Goals as goal
use Rattle.ir_weave.proofs.weave.Weave.try_asked.Goals.{in-Done, in_default}

pub take-requires-clause-asking : goal.take-requires-clause-asking
take-requires-clause-asking c = elim c.match-matches.branch [
  | in-Done w ↦ absurd (cc (w.matches-is, c.if-matches.false))
  | in_default w ↦ record {
    asks = sym c.requires.asked;
    has = seated_has_step c.args.self.now.table.shared.key c.args.fitted.now c.args.seat.now.me.0 c.args.thread.now c.requires.table
        c.requires.thread (λ done. w.in_default.not-Done (c.requires.asked ∙ done));
  }
]

pub returns-then-matches-clause-stopped : goal.returns-then-matches-clause-stopped
returns-then-matches-clause-stopped c _ = elim c.match-matches.branch [
  | in-Done w ↦ done_thread_has_waited c.args.self.now.table.shared.key c.args.fitted.now c.args.seat.now.me c.args.thread.now c.requires.table
      c.args.self.now.opened c.requires.thread (sym c.requires.asked ∙ w.in-Done.is)
  | in_default w ↦ absurd (cc (w.matches-is, c.if-matches.true))
]

pub returns-else-take-clause-stopped : goal.returns-else-take-clause-stopped
returns-else-take-clause-stopped c _ = c.take.ensures.stopped c.if-take.false
