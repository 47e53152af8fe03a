-- What of an outcome counts, so that outcomes of different guests can be compared.
use Rattle.std.specs.Prelude.{ℕ, Bool, List, [], Option, Some, None, map, if◌then◌else◌}
use Rattle.std.specs.List.{slice_index_or}
use Rattle.ir_schedule.specs.Conditions.{EndState}
use Rattle.ir_graph.specs.Outcomes.{RunOutcome}
use Rattle.ir_image.specs.Guest.{Guest}
use Rattle.ir_explore.specs.Conditions.{seen_outcome}

-- what of an outcome counts
pub record Aspects : Type 0 where
  -- what each thread printed
  pub outputs : Bool
  -- how each thread ended, with its code
  pub ends : Bool
  -- the words of these objects, in this order; or of all
  pub objects : Option (List ℕ)

-- the words of objects that count
abbrev pub counted_words : Option (List ℕ) → List (List ℕ) → List (List ℕ)
counted_words None words = words
counted_words (Some objects) words = map (λ o. slice_index_or words o []) objects

-- what counts of what a run came to; the rest is left out
abbrev pub what_counts : Aspects → EndState → EndState
what_counts a x = record {
  ends = if a.ends then x.ends else [];
  outputs = if a.outputs then x.outputs else [];
  words = counted_words a.objects x.words;
}

-- what counts of an outcome of the guest
abbrev pub seen : Aspects → Guest → RunOutcome → EndState
seen a guest x = what_counts a (seen_outcome guest x)
