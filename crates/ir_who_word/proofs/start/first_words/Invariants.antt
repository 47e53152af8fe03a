use Rattle.ir_who_word.proofs.Begun.{AreFirstWorded}
use Rattle.ir_who_word.proofs.start.first_words.Given as goal

abbrev pub invariant-loop-row : goal.invariant-loop-row
invariant-loop-row l = AreFirstWorded l.guide.rows.now l.row-index l.word l.words.items
