use Rattle.std.proofs.Common.{◌≡◌, drop}
use Rattle.ir_state_store.specs.Hashes.{after_numbers}
use Rattle.ir_state_store.proofs.hash.after_words.Given as goal

abbrev pub invariant-loop-word : goal.invariant-loop-word
invariant-loop-word l = after_numbers l.hash (drop l.word-index l.words) ≡ after_numbers l.fn.hash l.words
