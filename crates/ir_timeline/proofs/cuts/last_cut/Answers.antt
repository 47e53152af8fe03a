use Rattle.std.proofs.Common.{◌≡◌, length, sym, ap, ◌∙◌, subst, arith}
use Rattle.ir_cut.specs.Positions.{IsConsistentCut, threads_of, last_cut}
use Rattle.ir_timeline.proofs.Ends.{last_positions, no_threads_no_positions, last_positions_push, length-last_positions, last_cut_is_consistent}
use Rattle.ir_timeline.proofs.cuts.last_cut.Goals as goal

pub loop-t-init : goal.loop-t-init
loop-t-init c = no_threads_no_positions c.args.fitted.now c.in_ok-positions.positions.items c.in_ok-positions.ensures.items

pub loop-t-preserved : goal.loop-t-preserved
loop-t-preserved c = last_positions_push c.args.fitted.now c.loop-t.t c.loop-t.positions.items c.push.new.self.items c.last_position.result
    c.last_position.ensures c.in_ok-push.ensures.items c.loop-t.invariant

is : (c : goal.After-new) → c.new.result ≡ last_cut c.args.fitted.now
is c = c.new.ensures ∙ c.loop-t.invariant ∙ ap (last_positions c.args.fitted.now 0)
    (omega (arith, c.loop-t-test.false, c.loop-t.auto.t-end, c.thread_count-count.ensures))

pub returns-clause-size : goal.returns-clause-size
returns-clause-size c = ap length (is c) ∙ length-last_positions c.args.fitted.now 0 (threads_of c.args.fitted.now)

pub returns-clause-consistent : goal.returns-clause-consistent
returns-clause-consistent c = subst (IsConsistentCut c.args.fitted.now) (sym (is c)) (last_cut_is_consistent c.args.fitted.now)
