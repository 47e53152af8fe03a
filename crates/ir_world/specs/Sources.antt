-- What answers a thread that is recorded: a count or a clock, a generator of random words, and the bytes of a file.
use Rattle.std.specs.Prelude.{◌≡◌, ℕ, ◌+◌, ◌%◌, ◌^◌, List, [], ◌∷◌, drop, map, Bool, true, false}
use Rattle.std.specs.List.{range_with_len, slice_index_or}
use Rattle.std.specs.Coded.{×_prop}
use Rattle.std.proofs.Props.{props}
use Rattle.rand_core.specs.Pcg32Seed.{pcg32_seed}
use Rattle.rand_pcg.specs.Lcg.{Lcg}
use Rattle.rand_pcg.specs.Pcg.{pcg32, pcg32_of_seed}
use Rattle.ir_runs.specs.declared.env_kind.EnvKind.{EnvKind}
use Rattle.ir_runs.specs.declared.env_kind.EnvKind.TheVariants.{Clock, Random, Input}
use Rattle.ir_record.specs.Worlds.{AnsweredCall}
use Rattle.ir_world.specs.declared.time.Time.{Time}
use Rattle.ir_world.specs.declared.time.Time.TheVariants.{Counted, Since}

-- whether calls for the time are counted; else a clock answers them
abbrev pub is_counted : Time → Bool
is_counted Counted = true
is_counted (Since start) = false

-- what the world of a thread is made with: whether calls for the time are counted, the seed of its random words, the file
pub record MadeWith : Type 0 where
  pub counted : Bool
  pub seed : ℕ
  pub file : List ℕ

abbrev pub made_with : Time → ℕ → List ℕ → MadeWith
made_with time seed file = record { counted = is_counted time; seed = seed; file = file }

pub record Source : Type 0 where
  -- how many calls for the time were answered
  pub ticks : ℕ
  -- the generator of the words that are still to come
  pub random : Lcg
  -- the bytes that are still to come
  pub input : List ℕ

-- before the first call: PCG32 started by a number, and all bytes of the file
abbrev pub source : ℕ → List ℕ → Source
source seed file = record { ticks = 0; random = pcg32_of_seed (pcg32_seed 16 seed); input = file }

-- what a call is answered, and what is left: the count, the next word, the next byte or 0xFFFFFFFF after the last
abbrev pub given : EnvKind → Source → ℕ × Source
given Clock s = (s.ticks, record s { ticks = s.ticks + 1 })
given Random s = ((pcg32 s.random).0, record s { random = (pcg32 s.random).1 })
given Input s = (slice_index_or s.input 0 0xFFFFFFFF, record s { input = drop 1 s.input })

-- these answers were given in turn, and t is left of s
abbrev pub Gave : Source → List AnsweredCall → Source → Type 0
Gave s [] t = t ≡ s
Gave s (answer ∷ answers) t = (answer.1 ≡ (given answer.0 s).0) × Gave (given answer.0 s).1 answers t

-- that they were given so holds in one way
pub Gave-prop : (s : Source) (answers : List AnsweredCall) (t : Source) → IsProp (Gave s answers t)
Gave-prop s [] t = hlevel props
Gave-prop s (answer ∷ answers) t = ×_prop (hlevel props) (Gave-prop (given answer.0 s).1 answers t)

-- the answers to calls for random words and input
abbrev pub untimed : List AnsweredCall → List AnsweredCall
untimed [] = []
untimed ((Clock, value) ∷ answers) = untimed answers
untimed ((Random, value) ∷ answers) = (Random, value) ∷ untimed answers
untimed ((Input, value) ∷ answers) = (Input, value) ∷ untimed answers

-- the answers that come from the sources: all where calls for the time are counted, else those that are no clock's
abbrev pub from_sources : Bool → List AnsweredCall → List AnsweredCall
from_sources true answers = answers
from_sources false answers = untimed answers

-- a world that was made so has given these answers, in turn those that come from its sources
abbrev pub IsAnsweredFrom : MadeWith → List AnsweredCall → Type 0
IsAnsweredFrom made answers = (left : Source) × Gave (source made.seed made.file) (from_sources made.counted answers) left

-- the seed of the random words of thread t
abbrev pub seed_of : ℕ → ℕ → ℕ
seed_of random t = (random + t) % 2 ^ 64

-- what the world of thread t is made with
abbrev pub origin_of : Bool → ℕ → List ℕ → ℕ → MadeWith
origin_of counted random file t = record { counted = counted; seed = seed_of random t; file = file }

-- the same of each of a number of threads
abbrev pub origins : Bool → ℕ → List ℕ → ℕ → List MadeWith
origins counted random file threads = map (origin_of counted random file) (range_with_len 0 threads)
