use Rattle.std.proofs.Common.{sym, subst}
use Rattle.ir_record.specs.Progress.{IsQuiet}
use Rattle.ir_record.proofs.Entering.{QuietTurn, quiet_turn_by_result, on_err_fact_by_is_ok}
use Rattle.ir_record.proofs.in_order.logged_guest.LoggedGuest.go.Goals as goal

all : (c : goal.After-is_ok) → QuietTurn c.args.self.now.flat c.take.new.self c.args.self.now.logs.items c.args.t c.is_ok.result
all c = quiet_turn_by_result c.take.result c.args.self.now.flat c.take.new.self c.args.self.now.logs.items c.args.t c.is_ok.result c.is_ok.ensures.value
    c.requires.has_logs c.requires.flat c.requires.thread (subst IsQuiet (sym c.requires.asked) c.requires.quiet)
    c.take.ensures.admitted c.take.ensures.taken c.take.ensures.code c.take.ensures.threads c.take.ensures.objects c.take.ensures.refused
    c.take.ensures.unchanged

pub returns-clause-took : goal.returns-clause-took
returns-clause-took c = (all c).took

pub returns-clause-has_logs : goal.returns-clause-has_logs
returns-clause-has_logs c = (all c).has_logs

pub returns-clause-none : goal.returns-clause-none
returns-clause-none c = λ none. on_err_fact_by_is_ok c.take.result c.is_ok.result _ c.is_ok.ensures.value none c.take.ensures.unchanged
