use Rattle.std.proofs.Common.{◌≡◌, ◌+◌, ◌<◌, ◌≤◌, ◌∙◌, ℕ, List, ap, arith, sym, subst}
use Rattle.ir_thread.specs.State.{ask_of}
use Rattle.ir_cut.specs.Positions.{cut_of}
use Rattle.ir_weave.specs.Woven.{HasRunOn}
use Rattle.ir_weave.proofs.Steps.{has_run_on_by_private}
use Rattle.ir_weave.proofs.weave.Weave.run.Goals as goal
use Rattle.ir_weave.proofs.weave.Weave.run.Goals.{After-run}

room : (c : After-run) → c.args.thread.now.steps + c.run.result.0 ≤ cut_of c.args.target.now c.args.thread.now.number
room c = let at : c.position.result ≡ cut_of c.args.target.now c.args.thread.now.number = c.position.ensures
    ∙ ap (cut_of c.args.target.now) c.number.ensures in
    let few = c.run.ensures.within in let m = c.min.ensures in let now = c.steps.ensures.value in let below = c.requires.below in omega (arith, at, few, m, now, below)

ran : (c : After-run) → HasRunOn c.args.self.now.table.shared.key c.args.seat.now.me.0 c.args.thread.now c.run.new.self c.run.result.0
ran c = has_run_on_by_private c.args.self.now.table.shared.key c.args.fitted.now c.code.result.now c.args.seat.now.me.0
    c.args.thread.now c.run.new.self c.run.result.0 c.requires.table (c.code.ensures.value ∙ ap (λ g. g.code) c.image.ensures.value)
    c.requires.thread c.run.ensures.steps

pub returns-clause-ran : goal.returns-clause-ran
returns-clause-ran c = ran c

pub returns-clause-below : goal.returns-clause-below
returns-clause-below c = let r = ran c in let b = room c in let steps = r.steps in
    subst (λ t. c.run.new.self.steps ≤ cut_of c.args.target.now t) (sym r.number) (omega (arith, steps, b))

pub returns-clause-asked : goal.returns-clause-asked
returns-clause-asked c = c.run.ensures.asked
    ∙ ap (λ (k : List ℕ). ask_of k c.run.new.self) (c.code.ensures.value ∙ ap (λ g. g.code) c.image.ensures.value)

pub returns-clause-stops : goal.returns-clause-stops
returns-clause-stops c = λ below fewer.
    let r = ran c in
    let at : c.position.result ≡ cut_of c.args.target.now c.args.thread.now.number = c.position.ensures
    ∙ ap (cut_of c.args.target.now) c.number.ensures in
    let now = c.steps.ensures.value in
    let steps = r.steps in
    let short : c.run.new.self.steps < cut_of c.args.target.now c.args.thread.now.number =
    subst (λ t. c.run.new.self.steps < cut_of c.args.target.now t) r.number below in
    let m = c.min.ensures in
    c.run.ensures.stops (omega (arith, at, now, steps, short, m, fewer))
