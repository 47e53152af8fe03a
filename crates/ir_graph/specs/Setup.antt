-- A guest that is explored, and what answers its threads.
use Rattle.std.specs.Prelude.{ℕ, List, length, map}
use Rattle.std.specs.List.{range_with_len, slice_index_or}
use Rattle.ir_image.specs.Guest.{Guest}
use Rattle.ir_runs.specs.Run.{Step}
use Rattle.ir_thread.specs.State.{most_budget}
use Rattle.ir_thread.specs.declared.profile.Profile.{Profile}
use Rattle.ir_world.specs.Sources.{Source, source, given, seed_of}
use Rattle.ir_flat.specs.Flat.{start_flat}
use Rattle.ir_likeness.specs.Seen.{IsCounted}
use Rattle.ir_state_store.specs.Nodes.{SourcedFlat}
use Rattle.ir_state_store.specs.Table.{no_source}

-- a guest, which calls its threads make, and what answers them: the number that random words start from, and the input of each thread
pub record Setup : Type 0 where
  pub guest : Guest
  pub profile : Profile
  pub random : ℕ
  pub input : List ℕ

-- what answers each of its threads at first
abbrev pub first_sources : Setup → List Source
first_sources x = map (λ t. source (seed_of x.random t) x.input) (range_with_len 0 (length x.guest.entries))

-- what answers thread t at first
abbrev pub first_source : Setup → ℕ → Source
first_source x t = slice_index_or (first_sources x) t no_source

-- where its runs begin, each thread with the highest budget
abbrev pub setup_start : Setup → SourcedFlat
setup_start x = record { flat = start_flat x.guest most_budget x.profile; sources = first_sources x }

-- a complete run of it that counts
abbrev pub IsCountedOf : Setup → ℕ → List Step → Type 0
IsCountedOf x budget steps = IsCounted x.guest budget x.profile given (first_source x) steps
