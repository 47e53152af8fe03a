-- For callers: windows of a thread's positions that are searched one after the other.
pub use Rattle.ir_hits.proofs.Leaves.{last_step_same_thread}
use Rattle.std.proofs.Common.{◌≡◌, ℕ, suc, zero, ◌<◌, ◌≤◌, List, length, Option, Some, None, refl, inl, inr, arith}
use Rattle.std.proofs.lemmas.Bool.{cases_lt}
use Rattle.ir_runs.specs.Run.{Step}
use Rattle.ir_trace.specs.Recorded.{recorded_thread}
use Rattle.ir_fit.specs.Fit.{FittedTrace, IsRunOf}
use Rattle.ir_hits.specs.Hits.{Numbered, HitByNumber, NoneWithin, IsFirstHit, IsLastHit}
use Rattle.ir_hits.specs.Seeing.{steps_of}
use Rattle.ir_hits.specs.Searching.{IsNextHit, IsLastFrom, window_start}
use Rattle.ir_command.specs.declared.hit.Hit.{Hit}
use Rattle.ir_hits.proofs.Hitting.{hit_step_below_steps}

-- none hits in either of two
pub no_hit_windows_join : (f : FittedTrace) (run : List Step) (points : List Numbered) (t from middle to : ℕ) → NoneWithin f run points t from middle
    → NoneWithin f run points t middle to → NoneWithin f run points t from to
no_hit_windows_join f run points t from middle to one two j n low high h = elim (cases_lt j middle) [
  | inl l ↦ one j n low l h
  | inr past ↦ two j n past high h
]

-- a window begins one position above the thread
pub window_start_is_suc : (p : ℕ) → (p ≡ 0 → ⊥) → window_start p ≡ suc p
window_start_is_suc zero some = absurd (some refl)
window_start_is_suc (suc p) some = refl

-- ---- backwards

-- the last hit of the lower, where none is in the upper
pub last_hit_extends_above : (f : FittedTrace) (run : List Step) (points : List Numbered) (t from middle to : ℕ) (found : Option Hit) → middle ≤ to
    → IsLastFrom f run points t from middle found → NoneWithin f run points t middle to → IsLastFrom f run points t from to found
last_hit_extends_above f run points t from middle to (Some h) within last above =
    (last.0, (let b = last.1 in omega (arith, b, within)), no_hit_windows_join f run points t (suc h.position) middle to last.2 above, last.3)
last_hit_extends_above f run points t from middle to None within last above = no_hit_windows_join f run points t from middle to last above

-- a hit of an upper window is the last of all
pub last_hit_in_window : (f : FittedTrace) (run : List Step) (points : List Numbered) (t from to : ℕ) (h : Hit)
    → IsLastFrom f run points t from to (Some h) → IsLastHit f run points t to (Some h)
last_hit_in_window f run points t from to h last = (last.1, last.2, last.3)

-- ---- forwards

-- the next hit of the upper, where none is in the lower
pub next_hit_extends_below : (f : FittedTrace) (run : List Step) (points : List Numbered) (t p q to : ℕ) (found : Option Hit) → p ≤ q
    → NoneWithin f run points t (suc p) (suc q) → IsNextHit f run points t q to found → IsNextHit f run points t p to found
next_hit_extends_below f run points t p q to (Some h) above none next =
    ((let low = next.0 in omega (arith, above, low)), next.1, no_hit_windows_join f run points t (suc p) (suc q) h.position none next.2, next.3)
next_hit_extends_below f run points t p q to None above none next = no_hit_windows_join f run points t (suc p) (suc q) (suc to) none next

-- the next hit up to the last position is the first
next_is_first_to_count : (f : FittedTrace) (run : List Step) (points : List Numbered) (t p to : ℕ) → steps_of f run t ≤ to → (found : Option Hit)
    → IsNextHit f run points t p to found → IsFirstHit f run points t p found
next_is_first_to_count f run points t p to all (Some h) next = (next.0, next.2, next.3)
next_is_first_to_count f run points t p to all None next = λ j n above h. elim (cases_lt j (suc to)) [
  | inl l ↦ next j n above l h
  | inr past ↦ behind j n past h
]
  where
    behind : (j n : ℕ) → suc to ≤ j → HitByNumber f run points t j n → ⊥
    behind zero n past h = omega (arith, past)
    behind (suc j) n past h = let within = hit_step_below_steps f run t j h.1.point h.4 in omega (arith, past, within, all)

pub next_is_first_to_last : (f : FittedTrace) (run : List Step) (points : List Numbered) (t p to : ℕ) → IsRunOf f.guest f.recorded run
    → t < length f.guest.entries → (recorded_thread f.recorded t).steps ≤ to → (found : Option Hit)
    → IsNextHit f run points t p to found → IsFirstHit f run points t p found
next_is_first_to_last f run points t p to whole l all found next =
    next_is_first_to_count f run points t p to (let count = whole.1.steps t l in omega (arith, all, count)) found next

-- a hit of a lower window is the first of all
pub next_hit_in_window : (f : FittedTrace) (run : List Step) (points : List Numbered) (t p to : ℕ) (h : Hit)
    → IsNextHit f run points t p to (Some h) → IsFirstHit f run points t p (Some h)
next_hit_in_window f run points t p to h next = (next.0, next.2, next.3)
