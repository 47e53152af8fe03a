use Rattle.std.proofs.Common.{◌≡◌, drop, map}
use Rattle.std.specs.List.{list_all}
use Rattle.ir_arguments.specs.Bonds.{is_obeyed, rule_by}
use Rattle.ir_arguments.specs.Values.{rows_of_matches}
use Rattle.ir_arguments.proofs.bonds.all_obeyed.Given as goal

-- each rule so far is obeyed
abbrev pub invariant-bonds : goal.invariant-bonds
invariant-bonds l = list_all (is_obeyed (rows_of_matches l.fn.matches)) (map rule_by (drop l.bond-index l.fn.bonds))
    ≡ list_all (is_obeyed (rows_of_matches l.fn.matches)) (map rule_by l.fn.bonds)
