use Rattle.ir_gdb.proofs.ShownOnce.{hit_beyond_shown_once, none_is_shown_twice}
use Rattle.ir_gdb.proofs.laws.each_hit_is_shown_once.Goals as goal

pub returns-clause-once : goal.returns-clause-once
returns-clause-once c = hit_beyond_shown_once

pub returns-clause-never_twice : goal.returns-clause-never_twice
returns-clause-never_twice c = none_is_shown_twice
