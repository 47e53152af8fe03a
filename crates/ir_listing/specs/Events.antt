-- What `ir events` writes.
use Rattle.std.specs.Prelude.{◌≡◌, ℕ, List}
use Rattle.ir_fit.specs.Fit.{FittedTrace}
use Rattle.ir_symbols.specs.Symbols.{Symbol}
use Rattle.ir_events.specs.Events.{ArePcs}
use Rattle.ir_events.specs.Texts.{events_text}

-- the lines of all events, by thread and event, each with the pc of its step in each run with the trace
pub record AreEventLines (symbols : List Symbol) (f : FittedTrace) (text : List ℕ) : Type 0 where
  pub pcs : List (List ℕ)
  pub are_pcs : ArePcs f pcs
  pub lines : text ≡ events_text f pcs symbols
