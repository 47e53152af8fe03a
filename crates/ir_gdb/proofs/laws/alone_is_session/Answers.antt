use Rattle.ir_gdb.proofs.Alone.{continue_as_session, continue_back_as_session, step_goes_as_session, step_back_as_session}
use Rattle.ir_gdb.proofs.laws.alone_is_session.Goals as goal

pub returns-clause-continues : goal.returns-clause-continues
returns-clause-continues c = continue_as_session

pub returns-clause-continues_back : goal.returns-clause-continues_back
returns-clause-continues_back c = continue_back_as_session

pub returns-clause-steps : goal.returns-clause-steps
returns-clause-steps c = step_goes_as_session

pub returns-clause-steps_back : goal.returns-clause-steps_back
returns-clause-steps_back c = step_back_as_session
