-- The one encoding of a guest in bytes, field by field; a word is four bytes, the lowest first.
use Rattle.std.specs.Prelude.{ℕ, List, [], ◌∷◌, ◌++◌, length}
use Rattle.std.specs.List.{flat_map}
use Rattle.byteorder.specs.Endian.{little_bytes}
use Rattle.ir_image.specs.Guest.{image_magic, Guest, object_count}
use Rattle.ir_image.specs.declared.counts.Counts.{Counts}

-- the form of a guest, and how many it has of each
abbrev pub counts_of : Guest → Counts
counts_of g = record { form = g.form; threads = length g.entries; objects = object_count g; words = length g.code; bytes = length g.bytes }

-- the magic of the form, the number of threads, of objects, of words of code, of bytes of data
abbrev pub counts_encoding : Counts → List ℕ
counts_encoding c = image_magic c.form ++ (c.threads ∷ c.objects ∷ [] ++ little_bytes 4 c.words ++ little_bytes 4 c.bytes)

-- words, one after the other
abbrev pub words_encoding : List ℕ → List ℕ
words_encoding words = flat_map (little_bytes 4) words

-- the entries, the code, the data, the objects' first words
abbrev pub body_encoding : Guest → List ℕ
body_encoding g = words_encoding g.entries ++ words_encoding g.code ++ g.bytes ++ words_encoding g.words

-- the whole image
abbrev pub encoding : Guest → List ℕ
encoding g = counts_encoding (counts_of g) ++ body_encoding g
