-- Several objects by their numbers, beside a thread.
use Rattle.std.specs.Prelude.{◌≡◌, ◌≢◌, ◌<◌, ℕ, List, [], ◌∷◌, length, map, slice_set}
use Rattle.std.specs.List.{AllByRecursion, slice_index_or}
use Rattle.ir_object.specs.Cell.{Cell}
use Rattle.ir_world.specs.Sources.{Source}
use Rattle.ir_thread.specs.State.{ThreadState}
use Rattle.ir_object.specs.Empty.{empty}
use Rattle.ir_state_store.specs.declared.spot.Spot.{Spot}
use Rattle.ir_state_store.specs.Nodes.{SourcedFlat, cell_in}

-- the items, with these new ones in place of those of these numbers
abbrev pub with_items : {X : Type 0} → List X → List ℕ → List X → List X
with_items items [] new = items
with_items items (o ∷ numbers) [] = items
with_items items (o ∷ numbers) (x ∷ new) = with_items (slice_set items o x) numbers new

-- the number is none of these
abbrev pub IsNoneOf : ℕ → List ℕ → Type 0
IsNoneOf o numbers = AllByRecursion (λ p. p ≢ o) numbers

-- no number is twice
abbrev pub EachOnce : List ℕ → Type 0
EachOnce [] = Unit {0}
EachOnce (o ∷ numbers) = IsNoneOf o numbers × EachOnce numbers

-- another thread t beside what answers it, and other objects of these numbers
abbrev pub with_hand : SourcedFlat → ℕ → ThreadState × Source → List ℕ → List Cell → SourcedFlat
with_hand s t x numbers cells = record {
  flat = record s.flat { threads = slice_set s.flat.threads t x.0; objects = with_items s.flat.objects numbers cells };
  sources = slice_set s.sources t x.1;
}

-- these are the objects of these numbers, each once
pub record IsHandOf (objects : List Cell) (numbers : List ℕ) (cells : List Cell) : Type 0 where
  pub once : EachOnce numbers
  pub within : AllByRecursion (λ o. o < length objects) numbers
  pub own : cells ≡ map (λ o. slice_index_or objects o empty) numbers

-- numbers of which none is twice, this one first
pub record IsHand (number : ℕ) (numbers : List ℕ) : Type 0 where
  pub rest : List ℕ
  pub is : numbers ≡ number ∷ rest
  pub once : EachOnce numbers

-- lists of one length, whose elements belong together pair by pair
abbrev pub AllPairs : {X Y : Type 0} → (X → Y → Type 0) → List X → List Y → Type 0
AllPairs P [] [] = Unit {0}
AllPairs P [] (y ∷ ys) = ⊥
AllPairs P (x ∷ xs) [] = ⊥
AllPairs P (x ∷ xs) (y ∷ ys) = P x y × AllPairs P xs ys

-- the object of this number is at this spot
pub record IsAtSpot (words : List (List ℕ)) (objects : List Cell) (o : ℕ) (spot : Spot) : Type 0 where
  pub known : spot.words < length words
  pub within : o < length objects
  pub own : cell_in words spot ≡ slice_index_or objects o empty
