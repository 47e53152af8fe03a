-- What holds of a trace that fits.
use Rattle.std.specs.Prelude.{length, ⊤}
use Rattle.ir_trace.specs.Recorded.{Recorded, trace_of}
use Rattle.ir_trace.specs.Bounds.{IsRecorded}
use Rattle.ir_coherence.specs.Breaking.{IsFirstBreak}
use Rattle.ir_fit.specs.declared.fit_err.FitErr.{FitErr}
use Rattle.ir_fit.specs.declared.fit_err.FitErr.TheVariants.{NoMem, Refused}
use Rattle.ir_fit.specs.declared.verdict.Verdict.{Verdict}
use Rattle.ir_fit.specs.declared.verdict.Verdict.TheVariants.{Header, Incoherent}
use Rattle.ir_fit.specs.declared.verdict.Verdict.TheVariants as verdict
use Rattle.ir_fit.specs.Fit.{FittedTrace, HasRun}

-- the verdict names the first event that breaks coherence, and its first cause
abbrev pub NamesBreak : Recorded → Verdict → Type 0
NamesBreak r (Incoherent t i c) = IsFirstBreak (length r.threads) (trace_of r) t i c
NamesBreak r (Header c) = ⊥
NamesBreak r (verdict.Threads vs) = ⊥

-- out of memory, or such a verdict
abbrev pub BreaksBy : Recorded → FitErr → Type 0
BreaksBy r NoMem = ⊤
BreaksBy r (Refused v) = NamesBreak r v

-- there is a run with the trace, and the trace is within its limits
pub record IsFitted (f : FittedTrace) : Type 0 where
  pub run : HasRun f
  pub within : IsRecorded f.recorded
