use Rattle.std.proofs.Common.{◌++◌, ◌∷◌, [], ap, ◌∙◌}
use Rattle.std.specs.Prelude.{slice_get}
use Rattle.ir_lemmas.proofs.CallerLemmas.{added_element_is_last}
use Rattle.ir_graph.proofs.ahead.Ahead.note.Goals as goal

pub returns-clause-found : goal.returns-clause-found
returns-clause-found c =
    let turns = c.self.inside.turns.items in
    ap (λ l. slice_get l c.len-i.result) c.in_ok-push.ensures.items ∙ ap (slice_get (turns ++ c.args.turn ∷ [])) (c.len-i.ensures ∙ c.self.inside.turns.ok.0)
    ∙ added_element_is_last turns c.args.turn
