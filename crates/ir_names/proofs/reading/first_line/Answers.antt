use Rattle.std.proofs.Common.{ap, ◌∙◌}
use Rattle.std.specs.Str.Lines.{strip_carriage_return}
use Rattle.ir_names.proofs.Feeds.{line_before_feed, line_without_feed}
use Rattle.ir_names.proofs.reading.first_line.Goals as goal

pub returns-in-empty-clause-lines : goal.returns-in-empty-clause-lines
returns-in-empty-clause-lines c = line_without_feed c.args.text.now c.stripped.result.now c.split_at.result.1.now c.line_len.result c.line_len.ensures.value
    c.requires c.split_at.ensures.back c.in-empty.len_below (c.stripped.ensures ∙ ap strip_carriage_return c.split_at.ensures.front)

pub returns-in-len1-up-clause-lines : goal.returns-in-len1-up-clause-lines
returns-in-len1-up-clause-lines c = line_before_feed c.args.text.now c.stripped-in-len1-up.result.now c.split_at.result.1.now c.line_len.result
    c.line_len.ensures.value c.split_at.ensures.back c.in-len1-up.len_at_least
    (c.stripped-in-len1-up.ensures ∙ ap strip_carriage_return c.split_at.ensures.front)
