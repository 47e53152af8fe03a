use Rattle.ir_gdb.proofs.numbered.+put_words.Given as goal

abbrev pub decreases-put_words : goal.decreases-put_words
decreases-put_words l = l.count
