-- Threads beside what answers them, by their numbers.
use Rattle.std.specs.Prelude.{◌≡◌, ◌<◌, ◌&&◌, ℕ, Bool, true, false, List, [], ◌∷◌, length, map, Some, slice_get, if◌then◌else◌}
use Rattle.std.specs.List.{slice_index_or, AllByRecursion}
use Rattle.ir_image.specs.declared.form.ImageForm.{ImageForm}
use Rattle.ir_thread.specs.State.{ThreadState}
use Rattle.ir_world.specs.Sources.{Source, source}
use Rattle.ir_flat.specs.Flat.{idle}
use Rattle.ir_thread_bytes.specs.Basis.{Basis}
use Rattle.ir_thread_bytes.specs.Frozen.{frozen, is_over}
use Rattle.ir_state_store.specs.Hashes.{empty_hash, after_numbers, IsFoundBy}

-- what answers a number that is no thread's
abbrev pub no_source : Source
no_source = source 0 []

-- a thread that is none of the guest's, beside what answers it
abbrev pub idle_beside : ThreadState × Source
idle_beside = (idle, no_source)

-- Threads beside what answers them, the form of the image that they are of, what they are frozen against, and for each of them the number of one
-- that looks the same.
pub record Table : Type 0 where
  pub items : List (ThreadState × Source)
  pub form : ImageForm
  pub basis : Basis
  pub looks : List ℕ

-- threads of images of this form
abbrev pub HaveForm : ImageForm → List ThreadState → Type 0
HaveForm form threads = AllByRecursion (λ s. s.form ≡ form) threads

-- the threads of these numbers
abbrev pub threads_at : List (ThreadState × Source) → List ℕ → List ThreadState
threads_at table numbers = map (λ n. (slice_index_or table n idle_beside).0) numbers

-- what answers them
abbrev pub sources_at : List (ThreadState × Source) → List ℕ → List Source
sources_at table numbers = map (λ n. (slice_index_or table n idle_beside).1) numbers

-- the thread at place t of these numbers, beside what answers it
abbrev pub beside_at : List (ThreadState × Source) → List ℕ → ℕ → ThreadState × Source
beside_at table numbers t = (slice_index_or (threads_at table numbers) t idle, slice_index_or (sources_at table numbers) t no_source)

-- some call for the time was answered by one of these
abbrev pub HaveTicks : List Source → Type 0
HaveTicks sources = (t : ℕ) × (0 < (slice_index_or sources t no_source).ticks)

-- none was
abbrev pub HaveNoTicks : List Source → Type 0
HaveNoTicks sources = (t : ℕ) → (slice_index_or sources t no_source).ticks ≡ 0

-- whether all threads have ended and hold nothing
abbrev pub all_over : List ThreadState → Bool
all_over [] = true
all_over (s ∷ threads) = is_over s && all_over threads

-- each number is that of an element
abbrev pub AreIn : {X : Type 0} → List X → List ℕ → Type 0
AreIn table numbers = AllByRecursion (λ n. n < length table) numbers

-- each element keeps its number
abbrev pub KeepsNumbers : {X : Type 0} → List X → List X → Type 0
KeepsNumbers {X} old new = (n : ℕ) (s : X) → slice_get old n ≡ Some s → slice_get new n ≡ Some s

-- the thread of number n has the bytes of this one, and is answered by the same source, unless this one is over
pub record LooksLike (basis : Basis) (items : List (ThreadState × Source)) (n : ℕ) (x : ThreadState × Source) : Type 0 where
  pub kept : ThreadState × Source
  pub at : slice_get items n ≡ Some kept
  pub bytes : frozen basis kept.0 [] ≡ frozen basis x.0 []
  pub source : is_over x.0 ≡ false → kept.1 ≡ x.1

-- each thread looks like the one whose number stands for it
abbrev pub AreLooks : Basis → List (ThreadState × Source) → List ℕ → Type 0
AreLooks basis items looks = (n k : ℕ) (x : ThreadState × Source) → slice_get looks n ≡ Some k → slice_get items n ≡ Some x
    → LooksLike basis items k x

-- two threads look the same beside what answers them: they have the same bytes, and are answered by the same source unless they are over
pub record AreLike (basis : Basis) (x y : ThreadState × Source) : Type 0 where
  pub bytes : frozen basis x.0 [] ≡ frozen basis y.0 []
  pub source : is_over y.0 ≡ false → x.1 ≡ y.1

-- what is hashed of a source
abbrev pub mark_of_spot : Source → List ℕ
mark_of_spot source = source.ticks ∷ source.random.state ∷ length source.input ∷ []

-- the hash of what is seen of a thread beside what answers it
abbrev pub seen_hash : Basis → ThreadState × Source → ℕ
seen_hash basis x =
    if is_over x.0 then after_numbers empty_hash (frozen basis x.0 [])
    else after_numbers (after_numbers empty_hash (frozen basis x.0 [])) (mark_of_spot x.1)

-- the hash of all of it
abbrev pub whole_hash : Basis → ThreadState × Source → ℕ
whole_hash basis x = after_numbers (after_numbers (seen_hash basis x) (x.0.number ∷ x.0.steps ∷ x.0.events ∷ [])) (mark_of_spot x.1)

-- each thread beside what answers it is found by the hash of all of it, and no two numbers have equal ones
pub record AreOnce (whole : List (ℕ × ℕ)) (t : Table) : Type 0 where
  pub found : (n : ℕ) (x : ThreadState × Source) → slice_get t.items n ≡ Some x → IsFoundBy whole (whole_hash t.basis x) n
  pub once : (m n : ℕ) (x : ThreadState × Source) → slice_get t.items m ≡ Some x → slice_get t.items n ≡ Some x → m ≡ n

-- the number that stands for a thread is found by the hash of what is seen of it, and stands for all threads that look the same
pub record HaveOneLook (seen : List (ℕ × ℕ)) (t : Table) : Type 0 where
  pub each : length t.looks ≡ length t.items
  pub found : (n k : ℕ) (x : ThreadState × Source) → slice_get t.items n ≡ Some x → slice_get t.looks n ≡ Some k
      → IsFoundBy seen (seen_hash t.basis x) k
  pub one : (m n j k : ℕ) (x y : ThreadState × Source) → slice_get t.items m ≡ Some x → slice_get t.items n ≡ Some y
      → slice_get t.looks m ≡ Some j → slice_get t.looks n ≡ Some k → AreLike t.basis x y → j ≡ k

-- the threads that look like this one have this number in common
abbrev pub StandsForNode : Table → ThreadState × Source → ℕ → Type 0
StandsForNode t x k = (n j : ℕ) (y : ThreadState × Source) → slice_get t.items n ≡ Some y → slice_get t.looks n ≡ Some j → AreLike t.basis y x → j ≡ k
