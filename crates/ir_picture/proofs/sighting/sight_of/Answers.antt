use Rattle.ir_picture.proofs.Seen.{sight_from_parts, no_sight_of_own_maker, no_maker_box_no_sight, no_seer_box_no_sight, sight_maker_is_maker, if_none_from_fact}
use Rattle.ir_picture.proofs.sighting.sight_of.Goals as goal

pub returns-in_err-maker-clause-none : goal.returns-in_err-maker-clause-none
returns-in_err-maker-clause-none c = if_none_from_fact c.from_residual.result _ (λ s sees. c.in_err-maker.ensures.none s.maker.events.thread s.maker.events.event
    (sight_maker_is_maker c.args.trace.now c.args.boxes.now c.args.here.thread c.args.here.event s sees))

pub returns-then-maker-here-clause-none : goal.returns-then-maker-here-clause-none
returns-then-maker-here-clause-none c = λ s sees. no_sight_of_own_maker c.args.trace.now c.args.boxes.now c.args.here.thread c.args.here.event c.in_ok-maker.maker s
    c.requires.coherent c.in_ok-maker.ensures.found c.if-maker-here.true sees

pub returns-in_err-box_of-clause-none : goal.returns-in_err-box_of-clause-none
returns-in_err-box_of-clause-none c = if_none_from_fact c.from_residual-in_err-box_of.result _ (λ s sees. no_maker_box_no_sight c.args.trace.now c.args.boxes.now
    c.args.here.thread c.args.here.event c.in_ok-maker.maker s c.requires.coherent c.requires.boxes c.in_ok-maker.ensures.found
    c.in_err-box_of.ensures.none sees)

pub returns-in_err-box_of-2-clause-none : goal.returns-in_err-box_of-2-clause-none
returns-in_err-box_of-2-clause-none c = if_none_from_fact c.from_residual-in_err-box_of-2.result _ (λ s sees. no_seer_box_no_sight c.args.trace.now c.args.boxes.now
    c.args.here.thread c.args.here.event s c.requires.boxes c.in_err-box_of-2.ensures.none sees)

pub returns-clause-found : goal.returns-clause-found
returns-clause-found c =
    let maker = c.in_ok-box_of.ensures.found in
    let seer = c.in_ok-box_of-2.ensures.found in
    sight_from_parts c.args.trace.now c.args.boxes.now c.args.here.thread c.args.here.event c.args.found.object c.args.found.version maker.0 seer.0
    c.in_ok-maker.maker c.in_ok-box_of.field-0 c.in_ok-box_of-2.field-0 c.requires.boxes c.requires.new c.in_ok-maker.ensures.found
    c.if-maker-here.false maker.1 maker.2 seer.1 seer.2
