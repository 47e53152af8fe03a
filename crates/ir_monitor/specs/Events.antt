-- The lines of the events of a run, or of those of a thread.
use Rattle.std.specs.Prelude.{◌≡◌, ◌<◌, ◌≤◌, ⊤, ℕ, List, [], length, Option, Some, None}
use Rattle.ir_fit.specs.Fit.{FittedTrace}
use Rattle.ir_past.specs.declared.absent.Absent.{Absent}
use Rattle.ir_past.specs.declared.absent.Absent.TheVariants as absent
use Rattle.ir_events.specs.Events.{ArePcs}
use Rattle.ir_events.specs.Texts.{thread_text, events_text}

-- the lines of all events, or of those of a thread, whose pcs are in these lists; no pc has a name
abbrev pub lines_asked : FittedTrace → List (List ℕ) → Option ℕ → List ℕ
lines_asked f pcs None = events_text f pcs []
lines_asked f pcs (Some t) = thread_text f pcs [] t

-- there is such a thread, if one is asked about
abbrev pub IsThreadAsked : FittedTrace → Option ℕ → Type 0
IsThreadAsked f None = ⊤
IsThreadAsked f (Some t) = t < length f.guest.entries

-- what `ir events` prints of the run without a map, of all threads or of this one
pub record AreEventsSaid (asked : Option ℕ) (f : FittedTrace) (text : List ℕ) : Type 0 where
  pub thread : IsThreadAsked f asked
  pub pcs : List (List ℕ)
  pub are_pcs : ArePcs f pcs
  pub lines : text ≡ lines_asked f pcs asked

-- the guest has no such thread
abbrev pub LacksThread : Option ℕ → FittedTrace → Absent → Type 0
LacksThread None f what = ⊥
LacksThread (Some t) f what = (what ≡ absent.Thread) × (length f.guest.entries ≤ t)
