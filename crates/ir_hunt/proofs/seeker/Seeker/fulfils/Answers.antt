use Rattle.std.proofs.Common.{◌≡◌, false, sym, ◌∙◌, subst, inl}
use Rattle.std.specs.List.{list_all}
use Rattle.ir_schedule.specs.Conditions.{as_condition, fulfils, end_state}
use Rattle.ir_schedule.specs.Moments.{moment_of}
use Rattle.ir_hunt.proofs.Found.{turns_are_not_empty}
use Rattle.ir_hunt.proofs.seeker.Seeker.fulfils.Goals as goal

pub returns-then-holds-clause-some : goal.returns-then-holds-clause-some
returns-then-holds-clause-some g c = turns_are_not_empty c.args.self.now.image.now c.args.self.now.plan.now.record c.in_ok-chooser.chooser
    (moment_of (λ w. w.answers.items) c.run.new.self.runner) c.entries-threads.ensures.within.some_thread c.in_ok-run.ensures.ran

pub returns-clause-some : goal.returns-clause-some
returns-clause-some g c = turns_are_not_empty c.args.self.now.image.now c.args.self.now.plan.now.record c.in_ok-chooser.chooser
    (moment_of (λ w. w.answers.items) c.run.new.self.runner) c.entries-threads.ensures.within.some_thread c.in_ok-run.ensures.ran

pub returns-clause-other : goal.returns-clause-other
returns-clause-other g c _ = inl (subst (λ p. list_all (λ x. fulfils (as_condition x) (end_state c.run.new.self.runner.flat)) p.now.conditions.now ≡ false)
    c.in_ok-run.ensures.plan (sym c.holds.ensures ∙ c.if-holds.false))
