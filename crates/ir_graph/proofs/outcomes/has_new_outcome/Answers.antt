use Rattle.std.proofs.Common.{sym, ◌∙◌}
use Rattle.ir_lemmas.proofs.CallerLemmas.{element_below_length}
use Rattle.ir_graph.proofs.Listing.{going_skipped, new_listed, no_node_before_has_outcome}
use Rattle.ir_graph.proofs.Over.{is_done_if_all_over, not_done_not_all_over}
use Rattle.ir_graph.proofs.outcomes.has_new_outcome.Goals as goal

pub returns-clause-new : goal.returns-clause-new
returns-clause-new c = λ over.
    let flats = c.args.flats.now.items in
    let f = element_below_length flats c.args.node c.requires.within in
    let done = is_done_if_all_over f.0.flat (sym (c.is_over.ensures f.0 f.1) ∙ over) in
    new_listed flats c.args.node c.args.listed.now f.0 c.requires.before f.1 done
    (no_node_before_has_outcome flats c.args.node c.args.listed.now f.0 c.requires.before f.1 c.requires.states done)

pub returns-clause-old : goal.returns-clause-old
returns-clause-old c = λ going.
    let f = element_below_length c.args.flats.now.items c.args.node c.requires.within in
    going_skipped c.args.flats.now.items c.args.node c.args.listed.now f.0 c.requires.before f.1
    (not_done_not_all_over f.0.flat (sym (c.is_over.ensures f.0 f.1) ∙ going))
