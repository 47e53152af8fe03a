-- How a guest is recorded.
use Rattle.std.specs.Prelude.{ℕ, List, Option}
use Rattle.ir_thread.specs.declared.profile.Profile.{Profile}

pub record Plan : Type 0 where
  -- the list that spells the order, if there is one
  pub order : Option (List ℕ)
  -- the most steps of each thread
  pub budget : ℕ
  -- where random words start
  pub random : ℕ
  -- the bytes that each thread reads
  pub input : List ℕ
  -- which system calls there are
  pub profile : Profile
