use Rattle.std.proofs.Common.{ap, length, map, refl, sym, true, ◌∙◌, subst}
use Rattle.std.specs.Prelude.{option_map}
use Rattle.ir_record.specs.Recording.{turns_of_items}
use Rattle.ir_record_command.specs.Plan.{Plan}
use Rattle.ir_world.specs.Sources.{made_with, origins}
use Rattle.ir_world.proofs.CallerLemmas.{answered_by_own_origin}
use Rattle.ir_shrink.specs.Stale.{IsTraceInTurns}
use Rattle.ir_shrink.proofs.Recorded.{fresh_trace_in_turns}
use Rattle.ir_shrink.proofs.judging.Judge.trace_of.Goals as goal

pub returns-in-Ok-clause-by : goal.returns-in-Ok-clause-by
returns-in-Ok-clause-by g c =
    let each = c.in-Ok.field-0-1.each.items in
    let inside : Plan = record {
      order = option_map (λ s. s.now) c.plan.inside.order;
      budget = c.plan.inside.budget;
      random = c.plan.inside.random;
      input = c.plan.inside.input.now;
      profile = c.plan.inside.profile;
    } in
    subst (λ (p : Plan). IsTraceInTurns c.args.self.now.image.now p (turns_of_items c.args.items.now) c.in-Ok.trace) c.plan.view_is
    (fresh_trace_in_turns c.args.self.now.image.now inside (turns_of_items c.args.items.now) c.args.self.now.image.now.entries
    (map (λ w. w.answers.items) c.in_ok-worlds.worlds.items) c.in-Ok.trace (map (λ o. o.bytes.items) each) (map (λ o. o.world.answers.items) each)
    refl c.in_ok-worlds.ensures.fresh c.in-Ok.ensures.recorded
    (answered_by_own_origin (λ o. made_with o.world.time o.world.seed o.world.file.now) (λ o. o.world.answers.items) (λ o. (o.world.sources, o.world.gave))
    true inside.random inside.input each (length c.args.self.now.image.now.entries)
    (c.in-Ok.ensures.origins ∙ c.in_ok-worlds.ensures.origins
    ∙ ap (λ (p : Plan). origins true p.random p.input (length c.args.self.now.image.now.entries)) (sym c.plan.view_is))))
