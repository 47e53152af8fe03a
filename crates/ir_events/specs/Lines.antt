-- The line of an event.
use Rattle.std.specs.Prelude.{ℕ, List, ◌++◌, codes, decimal}
use Rattle.ir_log.specs.Logging.{label_of}
use Rattle.ir_text.specs.Texts.{hex_word, event_text}
use Rattle.ir_events.specs.declared.logged.Logged.{Logged}

-- the thread and the number of an event, its step and the pc
abbrev pub event_place_text : Logged → List ℕ
event_place_text l = codes "thread " ++ decimal l.thread ++ codes " event " ++ decimal l.number ++ codes " step " ++ decimal l.step
    ++ codes " pc " ++ hex_word l.pc

-- these, the name of the place, and what was logged
abbrev pub event_line : Logged → List ℕ → List ℕ
event_line l name = event_place_text l ++ name ++ codes " " ++ event_text (label_of l.event) ++ codes "\n"
