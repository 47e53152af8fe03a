use Rattle.std.proofs.Common.{◌∙◌, rules}
use Rattle.ir_asm.proofs.Cuts.{trim_end_last_blank, trim_end_unblank_end}
use Rattle.ir_asm.proofs.text.trim_end.Goals as goal

pub loop-rest-preserved : goal.loop-rest-preserved
loop-rest-preserved c = trim_end_last_blank c.loop-rest.rest.now c.in-len1-up.len_at_least (search rules) ∙ c.loop-rest.invariant

pub returns-then-not-is_blank : goal.returns-then-not-is_blank
returns-then-not-is_blank c = trim_end_unblank_end c.loop-rest.rest.now c.in-len1-up.len_at_least (search rules) ∙ c.loop-rest.invariant
