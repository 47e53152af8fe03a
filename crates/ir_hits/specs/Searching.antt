-- Windows of a thread's positions.
use Rattle.std.specs.Prelude.{◌≡◌, ℕ, zero, suc, ◌<◌, ◌≤◌, List, length, Option, Some, None}
use Rattle.ir_trace.specs.Recorded.{recorded_thread}
use Rattle.ir_runs.specs.Run.{Step}
use Rattle.ir_fit.specs.Fit.{FittedTrace}
use Rattle.ir_cut.specs.Positions.{cut_of}
use Rattle.ir_thread.specs.State.{ThreadState}
use Rattle.ir_hits.specs.declared.before.Before.{Before}
use Rattle.ir_hits.specs.Seeing.{IsLowestOf}
use Rattle.ir_mach.specs.Marks.{Marked}
use Rattle.ir_hits.specs.Hits.{Numbered, HitByNumber, NoneWithin, IsLowest}
use Rattle.ir_hits.specs.Watchable.{AreWatchable}
use Rattle.ir_hits.specs.Passing.{AreCovered}
use Rattle.ir_command.specs.declared.hit.Hit.{Hit}

-- the last positions of the guest's threads
pub record AreLast (f : FittedTrace) (last : List ℕ) : Type 0 where
  pub size : length last ≡ length f.guest.entries
  pub steps : (t : ℕ) → t < length f.guest.entries → cut_of last t ≡ (recorded_thread f.recorded t).steps

-- a search for hits of thread t up to a position, over code that is marked wherever a point may hit it
pub record IsHitSearch (f : FittedTrace) (t to : ℕ) (last : List ℕ) (code : Marked) (points : List Numbered) : Type 0 where
  pub thread : t < length f.guest.entries
  pub ends : AreLast f last
  pub within : to ≤ cut_of last t
  pub words : code.words ≡ f.guest.code
  pub covered : AreCovered code t points
  pub watchable : AreWatchable points

-- no point hits thread t anywhere
abbrev pub NeverHits : FittedTrace → List Step → List Numbered → ℕ → Type 0
NeverHits f run points t = (k n : ℕ) → HitByNumber f run points t k n → ⊥

-- the first position above p, and at most to, at which a point hits, and the lowest number of those that do; or no point hits there
abbrev pub IsNextHit : FittedTrace → List Step → List Numbered → ℕ → ℕ → ℕ → Option Hit → Type 0
IsNextHit f run points t p to (Some h) = (p < h.position) × (h.position ≤ to) × NoneWithin f run points t (suc p) h.position
    × IsLowest f run points t h.position h.number
IsNextHit f run points t p to None = NoneWithin f run points t (suc p) (suc to)

-- the first position of a window that begins with the thread at p: the next, and at the start p itself
abbrev pub window_start : ℕ → ℕ
window_start zero = zero
window_start (suc p) = suc (suc p)

-- the last position from the first on and below the second at which a point hits, and the lowest number of those that do; or no
-- point hits there
abbrev pub IsLastFrom : FittedTrace → List Step → List Numbered → ℕ → ℕ → ℕ → Option Hit → Type 0
IsLastFrom f run points t from p (Some h) = (from ≤ h.position) × (h.position < p) × NoneWithin f run points t (suc h.position) p
    × IsLowest f run points t h.position h.number
IsLastFrom f run points t from p None = NoneWithin f run points t from p

-- the position that the thread has reached: that of the hit, or to if there is none
abbrev pub reached_position : ℕ → Option Hit → ℕ
reached_position to (Some h) = h.position
reached_position to None = to

-- the points hit thread t at its start, where it is y and they noted this; or none does
abbrev pub IsStartHit : ℕ → ℕ → ThreadState → List Before → List Numbered → Option Hit → Type 0
IsStartHit t last y notes points (Some h) = (h.position ≡ 0) × IsLowestOf t last y notes points (length points) (Some h.number)
IsStartHit t last y notes points None = IsLowestOf t last y notes points (length points) None
