-- What two recordings have in common.
use Rattle.std.specs.Prelude.{◌≡◌, ◌≢◌, ℕ, zero, suc, ◌+◌, ◌<◌, ◌≤◌, ⊤, Bool, true, false, cond, eqb, List, [], ◌∷◌, length, Some}
use Rattle.std.specs.List.{slice_index_or}
use Rattle.ir_log.specs.declared.event.Event.{Event}
use Rattle.ir_log.specs.declared.event.Event.TheVariants.{Answer, Read, Write, Try}
use Rattle.ir_trace.specs.Recorded.{Recorded}
use Rattle.ir_past.specs.Past.{event_at, IsReadAt, IsWriteAt}

-- a flag is set where this holds, and nowhere else
pub record Tells (flag : Bool) (P : Type 0) : Type 0 where
  pub set : flag ≡ true → P
  pub clear : flag ≡ false → P → ⊥

-- how many of these are thread t: so many of its first events are in the part that they put together
abbrev pub part_of_thread : List ℕ → ℕ → ℕ
part_of_thread [] t = 0
part_of_thread (u ∷ us) t = cond (eqb u t) 1 0 + part_of_thread us t

-- version v of object o is the first, or its maker is among the first c u events of its thread u
abbrev pub HasMaker : Recorded → (ℕ → ℕ) → ℕ → ℕ → Type 0
HasMaker a c o zero = ⊤
HasMaker a c o (suc v) = (u j readers : ℕ) × (j < c u) × IsWriteAt a u j o v readers

-- the version that an event enters has its maker there
abbrev pub IsMade : Recorded → (ℕ → ℕ) → Event → Type 0
IsMade a c (Answer kind value) = ⊤
IsMade a c (Read object version) = HasMaker a c object version
IsMade a c (Write object version readers) = HasMaker a c object version
IsMade a c (Try object) = ⊤

-- the event of thread t after its first c t is the same in both traces, and what it enters was made by an event of the part
pub record CanJoin (a b : Recorded) (c : ℕ → ℕ) (t : ℕ) : Type 0 where
  pub event : Event
  pub first : event_at a t (c t) ≡ Some event
  pub second : event_at b t (c t) ≡ Some event
  pub made : IsMade a c event

-- these threads, the last one first, put a common part together, each by its next event
abbrev pub IsPart : Recorded → Recorded → List ℕ → Type 0
IsPart a b [] = ⊤
IsPart a b (t ∷ ts) = IsPart a b ts × CanJoin a b (part_of_thread ts) t

-- how many first events of each thread are in the greatest common part
pub record AreCommon (a b : Recorded) (c : List ℕ) : Type 0 where
  pub size : length c ≡ length a.threads
  pub order : List ℕ
  pub built : IsPart a b order
  pub counts : (t : ℕ) → slice_index_or c t 0 ≡ part_of_thread order t
  pub greatest : (longer : List ℕ) → IsPart a b longer → (t : ℕ) → part_of_thread longer t ≤ slice_index_or c t 0

-- what made version v of object o is in the part, if another thread than t made it
abbrev pub HasOthersMaker : Recorded → (ℕ → ℕ) → ℕ → ℕ → ℕ → Type 0
HasOthersMaker r c t o v = (u j w readers : ℕ) → v ≡ suc w → u ≢ t → IsWriteAt r u j o w readers → j < c u

-- the read entries of object o at version v are in the part, but those of thread t
abbrev pub HasOthersReaders : Recorded → (ℕ → ℕ) → ℕ → ℕ → ℕ → Type 0
HasOthersReaders r c t o v = (u j : ℕ) → u ≢ t → IsReadAt r u j o v → j < c u

-- all that an event of thread t needs of other threads is in the part
abbrev pub HasNeeds : Recorded → (ℕ → ℕ) → ℕ → Event → Type 0
HasNeeds r c t (Answer kind value) = ⊤
HasNeeds r c t (Read object version) = HasOthersMaker r c t object version
HasNeeds r c t (Write object version readers) = HasOthersMaker r c t object version × HasOthersReaders r c t object version
HasNeeds r c t (Try object) = ⊤

-- thread t is ready where the part ends: all that its next event needs is in it
abbrev pub IsThreadReady : Recorded → (ℕ → ℕ) → ℕ → Type 0
IsThreadReady r c t = (e : Event) → event_at r t (c t) ≡ Some e → HasNeeds r c t e
