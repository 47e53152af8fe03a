-- Words up to the most words of an object.
use Rattle.std.specs.Prelude.{ℕ, List}
use Rattle.ir_image.specs.Guest.{padded_to, most_object_words}

-- up to the most words of an object of any form
abbrev pub padded : List ℕ → List ℕ
padded words = padded_to most_object_words words
