-- Bounds that what the passes make keeps.
use Rattle.std.specs.Prelude.{◌≡◌, ◌%◌, ◌≤◌, List, length}
use Rattle.std.specs.List.{AllByRecursion}
use Rattle.ir_image.specs.declared.form.ImageForm.{ImageForm}
use Rattle.ir_image.specs.Guest.{limits_of, Guest, memory_size, most_code_words, object_words, object_count}
use Rattle.ir_image.specs.Bounds.{IsPlace}
use Rattle.ir_asm.specs.declared.item.Item.{Item}
use Rattle.ir_asm.specs.declared.item.Item.TheVariants.{First}
use Rattle.ir_asm.specs.declared.item.Placed.{Placed}

-- no more first words than an object of the form has
abbrev pub HasFewWords : ImageForm → Item → Type 0
HasFewWords image (First object words) = length words ≤ (limits_of image).words
HasFewWords image item = Unit {0}

-- all that is placed has no more first words than an object of the form has
abbrev pub HaveFewWords : ImageForm → List Placed → Type 0
HaveFewWords image placed = AllByRecursion (λ x. HasFewWords image x.item) placed

-- the limits of a guest, but for what its numbers' types say
pub record HasLimits (g : Guest) : Type 0 where
  pub some_thread : 1 ≤ length g.entries
  pub few_threads : length g.entries ≤ (limits_of g.form).threads
  pub short_code : length g.code ≤ most_code_words
  pub short_data : length g.bytes ≤ memory_size
  pub whole_objects : length g.words % object_words g ≡ 0
  pub few_objects : object_count g ≤ (limits_of g.form).objects
  pub entries_fit : AllByRecursion (IsPlace (length g.code)) g.entries
