-- What a hunt of an image's guest comes to.
use Rattle.std.specs.Prelude.{◌≡◌, ℕ, List, Ok}
use Rattle.ir_image.specs.Guest.{Guest, guest_at}
use Rattle.ir_trace.specs.Recorded.{Recorded}
use Rattle.ir_order.specs.Recording.{IsOfRun}
use Rattle.ir_hunt.specs.Hunt.{hunt_of}
use Rattle.ir_hunt.specs.Tried.{AreAllTried, IsLowestSeed, IsTriedLast}
use Rattle.ir_hunt.specs.declared.plan.HuntPlan.{HuntPlan}

-- none of the plan's seeds up to the one that was tried last is found: each was tried, and so many were left out
pub record IsNoneIn (image : List ℕ) (plan : HuntPlan) (last left_out : ℕ) : Type 0 where
  pub guest : Guest
  pub is : guest_at image ≡ Ok guest
  pub choices : List ℕ
  pub ends : IsTriedLast plan.seeds plan.seconds last
  pub tried : AreAllTried (hunt_of guest plan choices) plan.seeds.first last left_out

-- a seed is found, the lowest of the plan's, and the list spells the order of its run: each lower one was tried, and so many of these were left out
pub record IsFoundIn (image : List ℕ) (plan : HuntPlan) (left_out seed : ℕ) (list : List ℕ) : Type 0 where
  pub guest : Guest
  pub is : guest_at image ≡ Ok guest
  pub choices : List ℕ
  pub lowest : IsLowestSeed (hunt_of guest plan choices) plan.seeds.first plan.seeds.last seed left_out list

-- the trace of that run, and what its threads printed
pub record IsFinding (image : List ℕ) (plan : HuntPlan) (left_out seed : ℕ) (list : List ℕ) (trace : Recorded) (outputs : List (List ℕ)) : Type 0 where
  pub is : IsFoundIn image plan left_out seed list
  pub recorded : IsOfRun is.guest plan.record.budget plan.record.profile is.lowest.found.run trace outputs
