-- How a guest is explored.
use Rattle.std.specs.Prelude.{ℕ, List}
use Rattle.ir_graph.specs.Setup.{Setup}
use Rattle.ir_graph.specs.declared.bounds.Bounds.{Bounds}
use Rattle.ir_image.specs.Guest.{Guest}
use Rattle.ir_thread.specs.declared.profile.Profile.{Profile}

pub record ExplorePlan : Type 0 where
  -- how many states there may be, how many steps of a thread up to its next entry, how many seconds and how many outcomes
  pub bounds : Bounds
  -- the most switches of the thread that enters or tries
  pub switches : ℕ
  -- which system calls there are
  pub profile : Profile
  -- where random words start
  pub random : ℕ
  -- the bytes that each thread reads
  pub input : List ℕ

-- the guest that is explored so, and what answers its threads
abbrev pub setup_of : Guest → ExplorePlan → Setup
setup_of guest plan = record { guest = guest; profile = plan.profile; random = plan.random; input = plan.input }
