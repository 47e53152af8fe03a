-- The graph of a guest.
use Rattle.std.specs.Prelude.{◌≡◌, ◌⊎◌, ℕ, ◌<◌, ◌≤◌, Bool, true, List, length, Option, Some, None, slice_get}
use Rattle.ir_search.specs.Following.{BothWays}
use Rattle.ir_search_laws.specs.Outcomes.{Begins}
use Rattle.ir_thread.specs.declared.profile.Profile.TheVariants.{One}
use Rattle.ir_likeness.specs.Seen.{seen_start}
use Rattle.ir_state_store.specs.Nodes.{SourcedFlat}
use Rattle.ir_graph.specs.Setup.{Setup, first_source}
use Rattle.ir_graph.specs.Reached.{AllReached}
use Rattle.ir_graph.specs.Nodes.{seen_by, answered_by, Alike, seen_of, AreNodes, LeadsFrom}

-- The nodes are states of this guest, of which the first is where it comes to rest from its start, and what was noted of each of so many
-- threads and its two ways is so; a run leads to each. In the first profile no thread tries, and that is noted of all nodes.
pub record IsGraph (x : Setup) (states : List SourcedFlat) (noted : ℕ → BothWays) (threads : ℕ) : Type 0 where
  pub nodes : AreNodes states
  pub some : 0 < length states
  pub number : threads ≡ length x.guest.entries
  pub code : (s : SourcedFlat) → slice_get states 0 ≡ Some s → s.flat.code ≡ x.guest.code
  pub many : (s : SourcedFlat) → slice_get states 0 ≡ Some s → length s.flat.threads ≡ threads
  pub begins : (s : SourcedFlat) → slice_get states 0 ≡ Some s
      → Begins (seen_by x.guest.code) (answered_by x.guest.code) (Alike x.guest.code) (seen_start x.guest x.profile (first_source x)) (seen_of s)
  pub past : (t : ℕ) (refused : Bool) (v : ℕ) → threads ≤ t → noted t refused v ≡ Some None
  pub untried : x.profile ≡ One → (t v : ℕ) → noted t true v ≡ Some None
  pub asked : (t : ℕ) (refused : Bool) (v : ℕ) (next : Option ℕ) → t < threads → noted t refused v ≡ Some next
      → (v < length states) ⊎ ((x.profile ≡ One) × (refused ≡ true))
  pub within : (t : ℕ) (refused : Bool) (v w : ℕ) → t < threads → noted t refused v ≡ Some (Some w) → w < length states
  pub reached : AllReached x states
  pub leads : (t : ℕ) (refused : Bool) (v : ℕ) (next : Option ℕ) → t < threads → noted t refused v ≡ Some next
      → LeadsFrom states t refused v next
