use Rattle.std.proofs.Common.{◌≡◌, ℕ, ◌<◌, length}
use Rattle.std.specs.Prelude.{slice_index}
use Rattle.std.specs.Slots.{slots_items}
use mathlib.Core.Option.{some}
use lib.ListN.{get_elem?}
use Rattle.ir_image.specs.Guest.{most_object_words}
use Rattle.ir_object.specs.Layout.{content_place}
use Rattle.ir_crew.proofs.opening.contents.Given as goal

abbrev pub invariant-loop-i : goal.invariant-loop-i
invariant-loop-i l = record {
  size : length l.contents ≡ most_object_words;
  read : (k : ℕ) → k < l.i → get_elem? (slots_items l.closed.words) (content_place l.o k) ≡ some (slice_index l.contents k);
}
