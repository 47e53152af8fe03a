use Rattle.ir_checkpoint.proofs.Calls.{neighbour_page_counts, taken_away_by_take_over}
use Rattle.ir_checkpoint.proofs.keeper.take_away.Goals as goal

pub take_over-requires : goal.take_over-requires
take_over-requires c =
    neighbour_page_counts c.requires.each.0 c.args.place c.args.entries.now.items c.remove-gone.new.self.items c.index_mut-newer.result.now c.remove-gone.result c.requires.each.1
    c.if-place-gt0.true c.requires.below c.remove-gone.ensures.items c.index_mut-newer.ensures.value c.remove-gone.ensures.value

pub returns-then-place-gt0 : goal.returns-then-place-gt0
returns-then-place-gt0 c =
    taken_away_by_take_over c.args.place c.args.entries.now.items c.remove-gone.new.self.items c.index_mut-newer.result.now c.remove-gone.result c.take_over.new.self
    c.if-place-gt0.true c.requires.below c.remove-gone.ensures.items c.index_mut-newer.ensures.value c.remove-gone.ensures.value c.take_over.ensures
