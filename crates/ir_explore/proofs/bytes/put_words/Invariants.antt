use Rattle.std.proofs.Common.{◌≡◌, ◌++◌, take}
use Rattle.ir_explore.specs.Lines.{spaced_words}
use Rattle.ir_explore.proofs.bytes.put_words.Given as goal

abbrev pub invariant-loop-word : goal.invariant-loop-word
invariant-loop-word l = l.text.items ≡ l.fn.text.items ++ spaced_words (take l.word-index l.words)
