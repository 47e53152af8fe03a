use Rattle.std.proofs.Common.{ltb, rules}
use Rattle.std.proofs.lemmas.List.Sorted.{IsPartitionPoint-from_clause, IsPartitionedBy-ltb}
use Rattle.ir_symbols.specs.Symbols.{Symbol, symbol_address}
use Rattle.ir_symbols.proofs.Counts.{count_below_partition}
use Rattle.ir_symbols.proofs.table.count_below.Goals as goal

pub returns-clause-point : goal.returns-clause-point
returns-clause-point c = count_below_partition c.args.symbols.now c.args.address c.partition_point.result
    (IsPartitionPoint-from_clause (λ (s : Symbol). ltb (symbol_address s) c.args.address) c.args.symbols.now _
    c.partition_point.ensures.partitioned (IsPartitionedBy-ltb symbol_address c.args.symbols.now c.args.address c.requires)
    (λ a r q k. search rules))
