-- What a name is of, and the names of a file.
use Rattle.std.specs.Map.{lookup}
use Rattle.std.specs.Prelude.{ℕ, ◌==◌, ◌&&◌, Bool, false, List, Option}
use Rattle.ir_names.specs.declared.thing.Thing.{Thing}
use Rattle.ir_names.specs.declared.thing.Thing.TheVariants.{Thread, Object, Word, Address}

-- whether two are the same thing
abbrev pub is_same_thing : Thing → Thing → Bool
is_same_thing (Thread a) (Thread b) = a == b
is_same_thing (Object a) (Object b) = a == b
is_same_thing (Word a j) (Word b k) = a == b && j == k
is_same_thing (Address a) (Address b) = a == b
is_same_thing a b = false

-- names, each with its thing
abbrev pub NameTable : Type 0
NameTable = List (Thing × List ℕ)

-- what a thing is called, if it has a name
abbrev pub name_among : NameTable → Thing → Option (List ℕ)
name_among names thing = lookup (is_same_thing thing) names
