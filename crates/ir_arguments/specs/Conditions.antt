-- What the texts of `--until` ask for.
use Rattle.std.specs.Prelude.{◌%◌, ◌==◌, Bool, not, List, [], ◌∷◌, drop, codes, Option, Some, None, is_some, option_map, if◌then◌else◌}
use Rattle.std.specs.Str.{bytes_eq}
use Rattle.clap.specs.Words.{Text}
use Rattle.ir_schedule.specs.Spelling.{condition_of, marks}
use Rattle.ir_arguments.specs.Reading.{◌>>=◌}

-- whether a text asks for a stale write that rests on what was read, or for none, each `!` denying what is after it; nothing, if it is about
-- something else
unfoldable pub stale_named : Text → Option Bool
stale_named text = if bytes_eq (drop (marks text) text) (codes "stale") then Some (marks text % 2 == 0) else None

-- two wishes exclude each other
abbrev pub exclude : Bool → Bool → Bool
exclude before now = if before then not now else now

-- what is asked of stale writes, after what was asked before; nothing, if these exclude each other
abbrev pub asked_also : Option Bool → Option Bool → Option (Option Bool)
asked_also before None = Some before
asked_also None (Some now) = Some (Some now)
asked_also (Some before) (Some now) = if exclude before now then None else Some (Some now)

-- what texts ask of stale writes in turn
abbrev pub stale_after : Option Bool → List Text → Option (Option Bool)
stale_after before [] = Some before
stale_after before (text ∷ texts) = asked_also before (stale_named text) >>= λ now. stale_after now texts

-- what texts ask of stale writes
abbrev pub stale_wanted : List Text → Option (Option Bool)
stale_wanted texts = stale_after None texts

-- a text before others, if it is a condition
abbrev pub with_condition : Text → Option (List Text) → Option (List Text)
with_condition text rest = if is_some (condition_of text) then option_map (λ texts. text ∷ texts) rest else None

-- the texts that aren't about stale writes, if each is a condition
abbrev pub conditions_given : List Text → Option (List Text)
conditions_given [] = Some []
conditions_given (text ∷ texts) = if is_some (stale_named text) then conditions_given texts else with_condition text (conditions_given texts)
