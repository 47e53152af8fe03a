-- Which thread continues if all threads are at rest.
use Rattle.std.specs.Prelude.{◌≡◌, ⊤, ℕ, ◌-◌, List, [], ◌∷◌, length, nat_lt, if◌then◌else◌}
use Rattle.std.specs.List.{slice_index_or}
use Rattle.rand_pcg.specs.Lcg.{Lcg}
use Rattle.ir_schedule.specs.Draws.{generator_of, drawn}
use Rattle.ir_schedule.specs.Ranking.{chosen_highest, first_ranking}
use Rattle.ir_schedule.specs.Ways.{way_of}
use Rattle.ir_schedule.specs.declared.way.Way.{Way}
use Rattle.ir_schedule.specs.declared.way.Way.TheVariants as way
use Rattle.ir_schedule.specs.declared.chooser.Chooser.{Chooser}
use Rattle.ir_schedule.specs.declared.chooser.Chooser.TheVariants.{Rounds, Walk, Highest}

-- of these threads the first above this one; where there is none, t
abbrev pub first_above : ℕ → List ℕ → ℕ → ℕ
first_above last [] t = t
first_above last (u ∷ us) t = if nat_lt last u then u else first_above last us t

-- who goes in rounds: the lowest thread above the one that went last, or else the lowest
abbrev pub chosen_in_rounds : ℕ → List ℕ → ℕ
chosen_in_rounds last ready = first_above last ready (slice_index_or ready 0 0)

-- one of the threads, each with the same chance
abbrev pub chosen_at_random : Lcg → List ℕ → ℕ × Lcg
chosen_at_random g ready = (slice_index_or ready (drawn (length ready) g).0 0, (drawn (length ready) g).1)

-- which of these threads continues, which are by rising numbers, and the chooser after it
abbrev pub chosen : Chooser → List ℕ → ℕ × Chooser
chosen (Rounds last) ready = (chosen_in_rounds last ready, Rounds (chosen_in_rounds last ready))
chosen (Walk g) ready = ((chosen_at_random g ready).0, Walk (chosen_at_random g ready).1)
chosen (Highest p) ready = ((chosen_highest p ready).0, Highest (chosen_highest p ready).1)

-- in rounds, before the first choice: no thread has a higher number
abbrev pub before_rounds : Chooser
before_rounds = Rounds 255

-- the chooser of a seed that chooses so, for a guest of `threads` threads, in whose run in rounds each has as many choices
abbrev pub chooser_by : Way → ℕ → ℕ → List ℕ → Chooser
chooser_by way.Walk seed threads choices = Walk (generator_of seed)
chooser_by (way.Priorities depth) seed threads choices = Highest (first_ranking threads choices (depth - 1) (generator_of seed))
chooser_by way.Mix seed threads choices = Walk (generator_of seed)

abbrev pub chooser_of : Way → ℕ → ℕ → List ℕ → Chooser
chooser_of by seed threads choices = chooser_by (way_of by seed) seed threads choices

-- it can choose of the threads of a guest that has `threads` threads
abbrev pub CanChoose : ℕ → Chooser → Type 0
CanChoose threads (Rounds last) = ⊤
CanChoose threads (Walk g) = ⊤
CanChoose threads (Highest p) = (length p.priorities ≡ threads) × (length p.taken ≡ threads)
