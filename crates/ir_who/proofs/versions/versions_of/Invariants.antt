use Rattle.ir_who.proofs.Listed.{AreListed}
use Rattle.ir_who.proofs.versions.versions_of.Given as goal

abbrev pub invariant-loop-version : goal.invariant-loop-version
invariant-loop-version l = AreListed l.trace l.object l.version l.rows.items
