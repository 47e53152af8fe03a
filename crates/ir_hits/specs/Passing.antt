-- What a thread passes over in one call: which words of its code are marked, so that no point hits there.
use Rattle.std.specs.Prelude.{◌≡◌, ◌⊎◌, ℕ, ◌+◌, ◌<◌, ◌≤◌, ⊤, Bool, true, false, List, slice_get, Option, Some}
use Rattle.ir_isa.specs.declared.inst.Inst.{Inst}
use Rattle.ir_isa.specs.declared.inst.Inst.TheVariants.{Store}
use Rattle.ir_isa.specs.Decoded.{instruction_of}
use Rattle.ir_mach.specs.Marks.{Marked, is_marked, AreStoresMarked}
use Rattle.ir_thread.specs.Private.{UnmarkedSteps}
use Rattle.ir_flat.specs.Flat.{Flat, thread_of}
use Rattle.ir_weave.specs.Standing.{positions}
use Rattle.ir_command.specs.declared.command.Point.{Point}
use Rattle.ir_command.specs.declared.command.Point.TheVariants.{Break, Watch, WatchObject}
use Rattle.ir_hits.specs.Hits.{Numbered, objects_start}

-- whether it is an instruction that stores
abbrev pub is_store : Option Inst → Bool
is_store (Some (Store op rs1 rs2 imm)) = true
is_store _ = false

-- whether the word is the code of one
abbrev pub stores_at : ℕ → Bool
stores_at word = is_store (instruction_of word)

-- the marks are those of before, and maybe more
abbrev pub KeepsMarks : List Bool → List Bool → Type 0
KeepsMarks old new = (pc : ℕ) → is_marked old pc ≡ true → is_marked new pc ≡ true

-- where the point is a breakpoint of thread t, it is marked
abbrev pub IsBreakMarked : List Bool → ℕ → Point → Type 0
IsBreakMarked marks t (Break u address) = u ≡ t → is_marked marks address ≡ true
IsBreakMarked marks t (Watch u address) = ⊤
IsBreakMarked marks t (WatchObject object) = ⊤

-- so are the breakpoints of thread t among the first n points
abbrev pub AreBreaksMarked : List Bool → ℕ → List Numbered → ℕ → Type 0
AreBreaksMarked marks t points n = (j : ℕ) (p : Numbered) → j < n → slice_get points j ≡ Some p → IsBreakMarked marks t p.point

-- the point watches a word of thread t's private memory
abbrev pub Watches : ℕ → Point → Type 0
Watches t (Break u address) = ⊥
Watches t (Watch u address) = (u ≡ t) × (address < objects_start)
Watches t (WatchObject object) = ⊥

-- none of the first n points does
abbrev pub NoneWatches : ℕ → List Numbered → ℕ → Type 0
NoneWatches t points n = (j : ℕ) (p : Numbered) → j < n → slice_get points j ≡ Some p → Watches t p.point → ⊥

-- where the point may hit thread t is marked: its breakpoint, and for a watched word of its private memory every store. An object's word is put,
-- and an object left, by a call, over which no thread passes
abbrev pub IsCovered : Marked → ℕ → Point → Type 0
IsCovered code t (Break u address) = u ≡ t → is_marked code.marks address ≡ true
IsCovered code t (Watch u address) = u ≡ t → address < objects_start → AreStoresMarked code.words code.marks
IsCovered code t (WatchObject object) = ⊤

abbrev pub AreCovered : Marked → ℕ → List Numbered → Type 0
AreCovered code t points = (i : ℕ) (p : Numbered) → slice_get points i ≡ Some p → IsCovered code t p.point

-- thread t has gone on by at least one step, at most to a position: by one, or by several at instructions that aren't marked
pub record HasPassed (code : Marked) (t to : ℕ) (old new : Flat) : Type 0 where
  pub count : ℕ
  pub some : 1 ≤ count
  pub taken : positions new t ≡ positions old t + count
  pub within : positions new t ≤ to
  pub how : (count ≡ 1) ⊎ UnmarkedSteps code count (thread_of old t) (thread_of new t)
