use Rattle.ir_record.proofs.Running.{took_private_steps, has_logs_private_steps}
use Rattle.ir_record.proofs.in_order.logged_guest.LoggedGuest.run.Goals as goal

pub returns-clause-took : goal.returns-clause-took
returns-clause-took c = took_private_steps c.args.self.now.flat c.run_to_ask.new.self c.args.self.now.logs.items c.args.t
    c.run_to_ask.result.0 c.run_to_ask.ensures.flat c.requires.thread c.run_to_ask.ensures.went

pub returns-clause-has_logs : goal.returns-clause-has_logs
returns-clause-has_logs c = has_logs_private_steps c.args.self.now.flat c.run_to_ask.new.self c.args.self.now.logs.items c.args.t
    c.run_to_ask.result.0 c.run_to_ask.ensures.went c.requires.has_logs
