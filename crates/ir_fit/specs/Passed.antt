-- States that a run along a trace passes.
use Rattle.std.specs.Prelude.{◌≡◌, List, length}
use Rattle.std.specs.List.{All}
use Rattle.ir_image.specs.Guest.{Guest, object_count}
use Rattle.ir_flat.specs.Flat.{Flat, IsFlat, tables, machine, start_flat}
use Rattle.ir_runs.specs.Run.{Step, end}
use Rattle.ir_runs.specs.Verdicts.{Follows, closing}
use Rattle.ir_trace.specs.Recorded.{Recorded, trace_of}
use Rattle.ir_fit.specs.declared.passed_state.PassedState.{PassedState}

-- the guest after a run that follows the trace, which needn't go as far as any can
pub record IsAlong (guest : Guest) (r : Recorded) (f : Flat) : Type 0 where
  pub run : List Step
  pub follows : Follows (closing (machine (start_flat guest r.budget r.profile)) (trace_of r)) (machine (start_flat guest r.budget r.profile))
      (tables (start_flat guest r.budget r.profile)) (trace_of r) run
  pub ends : tables f ≡ end (machine (start_flat guest r.budget r.profile)) (tables (start_flat guest r.budget r.profile)) run
  pub code : f.code ≡ guest.code
  pub threads : length f.threads ≡ length guest.entries
  pub objects : length f.objects ≡ object_count guest

-- with the guest's code
abbrev pub flat_at : Guest → PassedState → Flat
flat_at guest s = record { code = guest.code; threads = s.threads.items; objects = s.objects.items }

-- the guest's threads and objects after such a run, each object's word counting who is inside
pub record IsPassed (guest : Guest) (r : Recorded) (s : PassedState) : Type 0 where
  pub flat : IsFlat (flat_at guest s)
  pub along : IsAlong guest r (flat_at guest s)

-- each is such a state
abbrev pub ArePassed : Guest → Recorded → List PassedState → Type 0
ArePassed guest r = All (IsPassed guest r)
