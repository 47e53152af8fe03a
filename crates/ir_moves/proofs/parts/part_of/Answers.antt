use Rattle.std.proofs.Common.{map, ap, ◌∙◌}
use Rattle.std.proofs.lemmas.Result.{IfOk-weaker}
use Rattle.ir_moves.proofs.Ways.{own_cut_on_way, on_way_from_own}
use Rattle.ir_moves.proofs.parts.part_of.Goals as goal

pub first_part-requires-clause-from : goal.first_part-requires-clause-from
first_part-requires-clause-from c =
    own_cut_on_way c.args.fitted.now c.args.state.now c.args.target.now c.in_ok-from.from c.requires.stands
    (c.in_ok-from.ensures ∙ ap (map (λ t. t.steps)) c.threads.ensures) c.requires.below

pub returns : goal.returns
returns c =
    IfOk-weaker c.first_part.result _ _
    (λ cut. on_way_from_own c.args.fitted.now c.args.state.now c.args.target.now c.in_ok-from.from cut
    (c.in_ok-from.ensures ∙ ap (map (λ t. t.steps)) c.threads.ensures))
    c.first_part.ensures
