use Rattle.std.proofs.Common.{◌≡◌, ◌+◌, true, refl, sym, subst, arith}
use Rattle.ir_runs.specs.Run.{Can, after}
use Rattle.ir_flat.specs.Flat.{machine, tables, thread_of}
use Rattle.ir_state_store.specs.Nodes.{SourcedFlat}
use Rattle.ir_graph.specs.Plain.{MayGo, Rests, sourced_flat}
use Rattle.ir_graph.specs.Turn.{GoesAlone}
use Rattle.ir_graph.proofs.CallerLemmas.{TakesStep, goes_alone_append, goes_alone_by_entry, rest_takes_step}
use Rattle.ir_outcomes.specs.Along.{StandsAt}
use Rattle.ir_outcomes.proofs.Arriving.{step_is_there, stands_after_turn, stop_after_turn, way_is_there}
use Rattle.ir_thread.specs.State.{ask_of}
use Rattle.ir_outcomes.proofs.rerun.enter.Goals as goal

pub returns-in-Some-checked_add-clause-alone : goal.returns-in-Some-checked_add-clause-alone
returns-in-Some-checked_add-clause-alone c =
    let f = c.state.inside.flat in
    let sources = c.state.inside.sources.items in
    let g = c.take.new.self in
    let w = c.run_to_rest.new.state in
    let t = c.args.thread in
    let r = c.args.refused in
    let one = c.in_default-take.ensures in
    let answer = c.in-Some.ensures in
    let rests : Rests (ask_of f.code (thread_of f t)) =
    subst (λ (z : SourcedFlat). Rests (ask_of z.flat.code (thread_of z.flat t))) (sym c.state.view_is) c.requires.rests in
    let may : MayGo r (ask_of f.code (thread_of f t)) = subst (MayGo r) c.ask-asked.ensures.value answer.has in
    let sum = c.in-Some-checked_add.ensures.1 in
    let total : 1 + c.in-Ok.steps ≡ c.in-Some-checked_add.all = omega (arith, sum) in
    subst (λ z. GoesAlone z w t r c.in-Some-checked_add.all 1) c.state.view_is
    (subst (λ z. GoesAlone (sourced_flat f sources) w t r z 1) total
    (goes_alone_append (sourced_flat f sources) (sourced_flat g sources) w t r 1 c.in-Ok.steps 1 0
    (goes_alone_by_entry f g sources t r rests may
    (subst (λ z. Can (machine f) (tables f) (t, z)) answer.result one.admitted)
    (subst (λ z. tables g ≡ after (machine f) (tables f) (t, z)) answer.result one.taken) one.code one.threads one.objects)
    (c.in-Ok.ensures.alone r)))

pub returns-in-Some-checked_add-clause-arrives : goal.returns-in-Some-checked_add-clause-arrives
returns-in-Some-checked_add-clause-arrives c = λ setup flats noted threads size v w g stands goes.
    let f = c.state.inside.flat in
    let sources = c.state.inside.sources.items in
    let s = sourced_flat f sources in
    let u = sourced_flat c.take.new.self sources in
    let t = c.args.thread in
    let here = subst (StandsAt setup flats v) (sym c.state.view_is) stands in
    let rests : Rests (ask_of f.code (thread_of f t)) =
    subst (λ (z : SourcedFlat). Rests (ask_of z.flat.code (thread_of z.flat t))) (sym c.state.view_is) c.requires.rests in
    let one = c.in_default-take.ensures in
    let step = rest_takes_step f c.take.new.self sources t c.in-Some.answer rests one.admitted one.taken one.code one.threads one.objects in
    let may = subst (MayGo c.args.refused) c.ask-asked.ensures.value c.in-Some.ensures.has in
    subst (λ z. StandsAt setup flats z c.run_to_rest.new.state) goes.3
    (stands_after_turn setup flats noted threads v goes.0 g s here t c.args.refused goes.1 u c.run_to_rest.new.state may
    (subst (TakesStep s u t) c.in-Some.ensures.result step) c.run_to_rest.ensures.goes c.run_to_rest.ensures.others c.in-Ok.ensures.rests)

pub returns-in-Err-clause-fails : goal.returns-in-Err-clause-fails
returns-in-Err-clause-fails c = λ setup flats noted threads size v w g stands goes.
    let s = sourced_flat c.state.inside.flat c.state.inside.sources.items in
    let here = subst (StandsAt setup flats v) (sym c.state.view_is) stands in
    step_is_there setup flats noted threads v goes.0 g s here c.args.thread c.args.refused goes.1
    (subst (λ z. Can (machine s.flat) (tables s.flat) (c.args.thread, z) → ⊥) c.in-Some.ensures.result c.in-Err.ensures.refused)

pub returns-in-Err-run_to_rest-clause-fails : goal.returns-in-Err-run_to_rest-clause-fails
returns-in-Err-run_to_rest-clause-fails c = λ setup flats noted threads size v w g stands goes.
    let f = c.state.inside.flat in
    let sources = c.state.inside.sources.items in
    let s = sourced_flat f sources in
    let u = sourced_flat c.take.new.self sources in
    let t = c.args.thread in
    let here = subst (StandsAt setup flats v) (sym c.state.view_is) stands in
    let rests : Rests (ask_of f.code (thread_of f t)) =
    subst (λ (z : SourcedFlat). Rests (ask_of z.flat.code (thread_of z.flat t))) (sym c.state.view_is) c.requires.rests in
    let one = c.in_default-take.ensures in
    let step = rest_takes_step f c.take.new.self sources t c.in-Some.answer rests one.admitted one.taken one.code one.threads one.objects in
    stop_after_turn setup flats noted threads v goes.0 g s here t c.args.refused goes.1 c.args.limit c.in-Err-run_to_rest.stop u c.run_to_rest.new.state
    (subst (TakesStep s u t) c.in-Some.ensures.result step) c.run_to_rest.ensures.goes c.in-Err-run_to_rest.ensures.stopped

pub returns-in_default-clause-fails : goal.returns-in_default-clause-fails
returns-in_default-clause-fails c = λ setup flats noted threads size v w g stands goes.
    let s = sourced_flat c.state.inside.flat c.state.inside.sources.items in
    let here = subst (StandsAt setup flats v) (sym c.state.view_is) stands in
    let none = c.in_default.ensures.none refl in
    way_is_there setup flats noted threads v goes.0 g s here c.args.thread c.args.refused goes.1 none.0
    (λ may. none.1 (subst (MayGo true) (sym c.ask-asked.ensures.value) may))
