use Rattle.ir_symbols.proofs.OneSort.{sorts_of_symbols_equal}
use Rattle.ir_symbols.proofs.laws.one_sort.Goals as goal

pub returns : goal.returns
returns c = sorts_of_symbols_equal
