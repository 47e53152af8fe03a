use Rattle.std.proofs.Common.{◌≡◌, drop, fold, map}
use Rattle.std.specs.String.{string_bytes}
use Rattle.ir_names.specs.Words.{split_word}
use Rattle.ir_names.proofs.words.add_all.Given as goal

-- the words so far, and then those that are left
abbrev pub invariant-loop-word : goal.invariant-loop-word
invariant-loop-word l = fold split_word l.split (map string_bytes (drop l.word-index l.words)) ≡ fold split_word l.fn.split (map string_bytes l.fn.words)
