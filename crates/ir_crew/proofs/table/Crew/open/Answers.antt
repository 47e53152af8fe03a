use Rattle.std.proofs.Common.{sym, subst}
use Rattle.ir_crew.specs.Ends.{IsCrewLaid}
use Rattle.ir_crew.proofs.Ending.{laid_words_start_table}
use Rattle.ir_crew.proofs.Seats.{kept_at_opening}
use Rattle.ir_crew.proofs.table.Crew.open.Goals as goal

pub of_words-requires : goal.of_words-requires
of_words-requires c = kept_at_opening c.args.image.now c.as_slice.result.now c.entries.ensures.within
    (laid_words_start_table c.args.image.now c.as_slice.result.now
    (subst (IsCrewLaid c.args.image.now) (sym c.as_slice.ensures.value) c.in_ok-words.ensures))
