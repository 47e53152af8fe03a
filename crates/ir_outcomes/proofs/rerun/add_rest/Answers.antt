use Rattle.std.proofs.Common.{false, refl, sym, subst}
use Rattle.ir_record.specs.Recording.{turns_of_items}
use Rattle.ir_graph.specs.Setup.{setup_start}
use Rattle.ir_graph.proofs.CallerLemmas.{stop_after_plain_steps}
use Rattle.ir_outcomes.specs.Again.{IsAgain}
use Rattle.ir_outcomes.proofs.Again.{again_after_noted, again_without_no_ways}
use Rattle.ir_outcomes.proofs.rerun.add_rest.Goals as goal

pub returns-in-Err-clause-fails : goal.returns-in-Err-clause-fails
returns-in-Err-clause-fails c = λ setup first.
    stop_after_plain_steps setup c.args.limit c.args.thread c.in-Err.stop (setup_start setup) c.args.state.now c.run_to_rest.new.state refl first
    c.run_to_rest.ensures.goes c.in-Err.ensures.stopped

pub returns-in-Ok-push-clause-again : goal.returns-in-Ok-push-clause-again
returns-in-Ok-push-clause-again c = λ setup ways again.
    let u = c.run_to_rest.new.state in
    subst (λ z. IsAgain setup (turns_of_items z) ways u) (sym c.in-Ok-push.ensures.items)
    (again_without_no_ways setup _ ways u
    (again_after_noted setup c.args.items.now.items _ ways c.args.state.now u 0 again (c.in-Ok.ensures.alone false)))
