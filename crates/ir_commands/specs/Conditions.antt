-- The conditions that arguments give.
use Rattle.std.specs.Prelude.{◌≡◌, ℕ, List, false, map, Some, Ok}
use Rattle.std.specs.List.{list_all}
use Rattle.ir_image.specs.Guest.{Guest, guest_at}
use Rattle.ir_schedule.specs.Conditions.{as_condition, is_about_each}
use Rattle.ir_schedule.specs.Spelling.{condition_of}
use Rattle.ir_schedule.specs.declared.condition.Condition.{Condition}

-- these are the conditions that the texts write, each in its place
abbrev pub AreWritten : List (List ℕ) → List Condition → Type 0
AreWritten texts conditions = map (λ c. Some (as_condition c)) conditions ≡ map condition_of texts

-- one of the conditions that the texts write is about a thread, an object or a word that the image's guest doesn't have
pub record AreAboutNothing (texts : List (List ℕ)) (image : List ℕ) : Type 0 where
  pub guest : Guest
  pub is : guest_at image ≡ Ok guest
  pub conditions : List Condition
  pub written : AreWritten texts conditions
  pub about : list_all (λ c. is_about_each (as_condition c) guest) conditions ≡ false
