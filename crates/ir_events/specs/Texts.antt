-- The lines of all events.
use Rattle.std.specs.Prelude.{ℕ, zero, suc, List, [], ◌++◌, length, slice_index, slice_get, Option, Some, None, unwrap_or}
use Rattle.std.specs.List.{slice_index_or}
use Rattle.ir_log.specs.declared.event.Event.{Event}
use Rattle.ir_trace.specs.Recorded.{recorded_thread}
use Rattle.ir_fit.specs.Fit.{FittedTrace}
use Rattle.ir_symbols.specs.Symbols.{Symbol}
use Rattle.ir_symbols.specs.Names.{name_text}
use Rattle.ir_events.specs.declared.logged.Logged.{Logged}
use Rattle.ir_events.specs.Events.{event_entry}
use Rattle.ir_events.specs.Lines.{event_line}

-- the line of an event, with the name of its pc if it has one
abbrev pub named_line : List Symbol → Logged → List ℕ
named_line symbols l = event_line l (unwrap_or (name_text symbols l.pc) [])

-- event i of thread t of a fitted trace whose pcs are in these lists
abbrev pub logged_at : FittedTrace → List (List ℕ) → ℕ → ℕ → Event → Logged
logged_at f lists t i e = record { thread = t; number = i; step = event_entry f t i; pc = slice_index (slice_index_or lists t []) i; event = e }

-- its line, if there is such an event
abbrev pub event_line_if : FittedTrace → List (List ℕ) → List Symbol → ℕ → ℕ → Option Event → List ℕ
event_line_if f lists symbols t i (Some e) = named_line symbols (logged_at f lists t i e)
event_line_if f lists symbols t i None = []

-- the line of event i of thread t
abbrev pub line_at : FittedTrace → List (List ℕ) → List Symbol → ℕ → ℕ → List ℕ
line_at f lists symbols t i = event_line_if f lists symbols t i (slice_get (recorded_thread f.recorded t).events i)

-- the lines of the first n events of thread t
unfoldable pub first_event_lines : FittedTrace → List (List ℕ) → List Symbol → ℕ → ℕ → List ℕ
first_event_lines f lists symbols t zero = []
first_event_lines f lists symbols t (suc n) = first_event_lines f lists symbols t n ++ line_at f lists symbols t n

-- the lines of all events of thread t
abbrev pub thread_text : FittedTrace → List (List ℕ) → List Symbol → ℕ → List ℕ
thread_text f lists symbols t = first_event_lines f lists symbols t (length (recorded_thread f.recorded t).events)

-- the lines of all events of the first n threads
unfoldable pub first_threads : FittedTrace → List (List ℕ) → List Symbol → ℕ → List ℕ
first_threads f lists symbols zero = []
first_threads f lists symbols (suc n) = first_threads f lists symbols n ++ thread_text f lists symbols n

-- the lines of all events, by thread and event
abbrev pub events_text : FittedTrace → List (List ℕ) → List Symbol → List ℕ
events_text f lists symbols = first_threads f lists symbols (length f.guest.entries)
