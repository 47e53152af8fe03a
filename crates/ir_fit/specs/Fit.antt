-- Whether a recorded trace is that of a run of a guest's.
use Rattle.std.specs.Prelude.{◌≡◌, ◌≢◌, ℕ, List, length, slice_get, Some, ⊤}
use Rattle.ir_image.specs.Guest.{Guest, object_count}
use Rattle.ir_flat.specs.Flat.{start_flat, tables, machine}
use Rattle.ir_runs.specs.Run.{Step, IsWhole}
use Rattle.ir_trace.specs.Recorded.{Recorded, trace_of}
use Rattle.ir_coherence.specs.Breaking.{HasCause, IsFirstBreak}
use Rattle.ir_coherence.specs.declared.cause.Cause.{Cause}
use Rattle.ir_runs.specs.Verdicts.{IsVerdict, Follows, IsMaximal, closing}
use Rattle.ir_runs.specs.declared.thread_verdict.ThreadVerdict.{ThreadVerdict}
use Rattle.ir_fit.specs.declared.header_cause.HeaderCause.{HeaderCause}
use Rattle.ir_fit.specs.declared.header_cause.HeaderCause.TheVariants.{Threads, Objects}
use Rattle.ir_fit.specs.declared.fit_err.FitErr.{FitErr}
use Rattle.ir_fit.specs.declared.fit_err.FitErr.TheVariants.{NoMem, Refused}
use Rattle.ir_fit.specs.declared.verdict.Verdict.{Verdict}
use Rattle.ir_fit.specs.declared.verdict.Verdict.TheVariants.{Header, Incoherent}
use Rattle.ir_fit.specs.declared.verdict.Verdict.TheVariants as verdict

-- as many threads and objects as the guest has
pub record HasHeader (guest : Guest) (r : Recorded) : Type 0 where
  pub threads : length r.threads ≡ length guest.entries
  pub objects : r.objects ≡ object_count guest

-- a complete run of the guest, under the trace's budget, whose trace this is
abbrev pub IsRunOf : Guest → Recorded → List Step → Type 0
IsRunOf guest r run = let f = start_flat guest r.budget r.profile in HasHeader guest r
    × IsWhole (machine f) (tables f) (length guest.entries) (trace_of r) run

-- a run of the guest that follows the trace as far as any can; of a coherent trace all such runs have the same verdicts (`one_verdict`)
abbrev pub GoesFurthest : Guest → Recorded → List Step → Type 0
GoesFurthest guest r run = let f = start_flat guest r.budget r.profile in
    Follows (closing (machine f) (trace_of r)) (machine f) (tables f) (trace_of r) run
    × IsMaximal (closing (machine f) (trace_of r)) (machine f) (tables f) (trace_of r) run

-- a verdict for each thread, read off any such run
abbrev pub AreVerdicts : Guest → Recorded → List ThreadVerdict → Type 0
AreVerdicts guest r vs = let f = start_flat guest r.budget r.profile in (length vs ≡ length guest.entries)
    × ((run : List Step) → GoesFurthest guest r run → (t : ℕ) (v : ThreadVerdict) → slice_get vs t ≡ Some v
    → IsVerdict (machine f) (tables f) (trace_of r) run t v)

-- a guest and a trace; that a run has it says `HasRun`
pub record FittedTrace : Type 0 where
  pub guest : Guest
  pub recorded : Recorded

-- there is a complete run of the guest with this trace
pub record HasRun (f : FittedTrace) : Type 0 where
  pub run : List Step
  pub whole : IsRunOf f.guest f.recorded run

-- the trace has another number of threads than the guest; or as many, and another number of objects
abbrev pub IsOther : Guest → Recorded → HeaderCause → Type 0
IsOther guest r Threads = length r.threads ≢ length guest.entries
IsOther guest r Objects = (length r.threads ≡ length guest.entries) × (r.objects ≢ object_count guest)

-- why no run of the guest has the trace: its header isn't the guest's; or an event breaks coherence, the first such; or none does, and
-- these are the verdicts on its threads: not all are the same, since no run has the trace (`fits_exactly`)
abbrev pub IsVerdictOnTrace : Guest → Recorded → Verdict → Type 0
IsVerdictOnTrace guest r (Header c) = IsOther guest r c
IsVerdictOnTrace guest r (Incoherent t i c) = HasHeader guest r × IsFirstBreak (length guest.entries) (trace_of r) t i c
IsVerdictOnTrace guest r (verdict.Threads vs) = HasHeader guest r × ((t i : ℕ) (c : Cause) → HasCause (length guest.entries) (trace_of r) t i c → ⊥)
    × AreVerdicts guest r vs.items

-- out of memory; or a refusal with its reason, and no run of the guest has the trace. A session uses the second row alone
abbrev pub IsRefused : Guest → Recorded → FitErr → Type 0
IsRefused guest r NoMem = ⊤
IsRefused guest r (Refused v) = IsVerdictOnTrace guest r v × ((run : List Step) → IsRunOf guest r run → ⊥)

-- why a header isn't the guest's
abbrev pub header_cause_number : HeaderCause → ℕ
header_cause_number Threads = 1
header_cause_number Objects = 2
