use Rattle.std.proofs.Common.{◌∙◌}
use Rattle.ir_asm.proofs.Cuts.{split_at_first_match}
use Rattle.ir_asm.proofs.text.first_part.Goals as goal

pub returns-in-len1-up-clause-parts : goal.returns-in-len1-up-clause-parts
returns-in-len1-up-clause-parts c =
    split_at_first_match c.args.byte c.args.text.now c.split_at.result.0.now c.split_at.result.1.now
    (c.split_at.ensures.front ∙ c.length_before.ensures.before) (c.split_at.ensures.back ∙ c.length_before.ensures.after)
    c.in-len1-up.len_at_least
