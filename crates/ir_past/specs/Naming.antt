-- How an event is named in an answer.
use Rattle.std.specs.Prelude.{ℕ, List, ◌++◌, codes, decimal, Option, Some, None}
use Rattle.ir_past.specs.declared.place.Place.{Place}

-- an event by its thread and its place there
abbrev pub place_text : Place → List ℕ
place_text p = codes "thread " ++ (decimal p.thread ++ (codes " event " ++ decimal p.event))

-- what made a version
abbrev pub maker_text : Option Place → List ℕ
maker_text None = codes "first words"
maker_text (Some p) = place_text p
