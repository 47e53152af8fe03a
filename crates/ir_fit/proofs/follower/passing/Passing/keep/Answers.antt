use Rattle.std.specs.Prelude.{is_ok}
use Rattle.ir_fit.specs.declared.passed_state.PassedState.{PassedState}
use Rattle.ir_fit.proofs.Passed.{copied_state_is_passed, passed_states_push}
use Rattle.ir_fit.proofs.follower.passing.Passing.keep.Goals as goal

pub returns-in-Ok : goal.returns-in-Ok
returns-in-Ok c = λ guest r along passed.
    let s : PassedState = record { threads = c.into_parts-threads.result.0; objects = c.into_parts-threads.result.1 } in
    passed_states_push guest r c.args.self.now.states.items c.push.new.self.items s (is_ok c.push.result) passed
    (copied_state_is_passed guest r c.args.flat.now c.in-Ok.copy s c.in-Ok.ensures c.into_parts-threads.ensures.threads c.into_parts-threads.ensures.objects
    c.into_parts-threads.ensures.within along) c.push.ensures.items
