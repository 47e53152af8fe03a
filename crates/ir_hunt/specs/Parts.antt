-- What is tried of a hunt's seeds at a time.
use Rattle.std.specs.Prelude.{◌≡◌, ◌≤◌, ℕ, List, All, Option, None, option_map}
use Rattle.std.specs.String.{string_bytes}
use Rattle.ir_hunt.specs.Hunt.{Hunt}
use Rattle.ir_hunt.specs.Tried.{WereTried, IsTriedLast}
use Rattle.ir_hunt.specs.declared.part.Part.{Part}
use Rattle.ir_schedule.specs.declared.seeds.Seeds.{Seeds}

-- the seeds of the part were tried
abbrev pub IsTried : Hunt → Part → Type 0
IsTried hunt part = WereTried hunt part.seeds.first part.seeds.last part.left_out (option_map string_bytes part.list)

-- some of these seeds were tried, from the first on
pub record IsBegun (hunt : Hunt) (seeds : Seeds) (part : Part) : Type 0 where
  pub tried : IsTried hunt part
  pub from : part.seeds.first ≡ seeds.first
  pub within : part.seeds.last ≤ seeds.last

-- and these are all, if none is found
pub record IsPartOf (hunt : Hunt) (seeds : Seeds) (part : Part) : Type 0 where
  pub begun : IsBegun hunt seeds part
  pub all : part.list ≡ None → part.seeds.last ≡ seeds.last

-- and if none is found, these are all of them, or the time is bounded
pub record IsPartWithin (hunt : Hunt) (seeds : Seeds) (seconds : Option ℕ) (part : Part) : Type 0 where
  pub begun : IsBegun hunt seeds part
  pub ends : part.list ≡ None → IsTriedLast seeds seconds part.seeds.last

-- a worker of the hunt has tried the seeds of these parts
pub record HasTried (hunt of : Hunt) (parts : List Part) : Type 0 where
  pub same : of ≡ hunt
  pub each : All (IsTried hunt) parts
