use Rattle.std.proofs.Common.{refl}
use Rattle.ir_fit.specs.declared.fit_err.FitErr.TheVariants.{NoMem, Refused}
use Rattle.ir_tests.specs.Laws.{NoRefusal}
use Rattle.ir_tests.proofs.Fits.{trace_of_run_has_run}
use Rattle.ir_tests.proofs.laws.recordings_fit.Goals as goal

pub returns-clause-by_threads : goal.returns-clause-by_threads
returns-clause-by_threads c = λ guest budget profile before trace outputs answers r. (r.0, trace_of_run_has_run guest budget profile r.0 trace r.1.emitted)

pub returns-clause-in_turns : goal.returns-clause-in_turns
returns-clause-in_turns c = λ guest budget profile turns before trace outputs answers r.
    (r.0, trace_of_run_has_run guest budget profile r.0 trace r.2.emitted)

pub returns-clause-accepted : goal.returns-clause-accepted
returns-clause-accepted c = accepted
  where
    accepted : NoRefusal
    accepted guest trace NoMem has refused = refl
    accepted guest trace (Refused verdict) has refused = absurd (refused.1 has.0 has.1)
