use Rattle.std.proofs.Common.{◌≡◌, ℕ, sym, subst}
use Rattle.ir_thread.specs.State.{ask_of}
use Rattle.ir_thread.specs.Permitted.{Permits}
use Rattle.ir_thread.specs.declared.ask.Ask.{Ask}
use Rattle.ir_thread.proofs.CallerLemmas.{ask_of_permitted}
use Rattle.ir_flat.specs.Flat.{Flat, thread_of}
use Rattle.ir_flat.proofs.Keeps.{step_test_iff_can, failed_test_cannot_step, flat_after_tested_step, tables_of_tested_step}
use Rattle.ir_flat.proofs.flat.Flat.take.Goals as goal

-- what is asked, of the value that the code's parts are
asks : (p f : Flat) (t : ℕ) (q : Ask) → p ≡ f → q ≡ ask_of f.code (thread_of f t) → q ≡ ask_of p.code (thread_of p t)
asks p f t q same is = subst (λ z. q ≡ ask_of z.code (thread_of z t)) (sym same) is

permits : (p f : Flat) (t : ℕ) (q : Ask) → p ≡ f → q ≡ ask_of f.code (thread_of f t) → Permits (thread_of p t) q
permits p f t q same is = subst (Permits (thread_of p t)) (sym (asks p f t q same is)) (ask_of_permitted p.code (thread_of p t))

pub may-requires-clause-permits : goal.may-requires-clause-permits
may-requires-clause-permits c = permits c.self.inside.parts c.args.self.now c.args.t c.args.asked c.self.view_is c.requires.asked

pub step-requires-clause-permits : goal.step-requires-clause-permits
step-requires-clause-permits c = permits c.self.inside.parts c.args.self.now c.args.t c.args.asked c.self.view_is c.requires.asked

pub returns-then-not-may-clause-refused : goal.returns-then-not-may-clause-refused
returns-then-not-may-clause-refused c = failed_test_cannot_step c.self.inside.parts c.args.self.now c.args.t c.args.r c.args.asked c.may.result
    c.self.view_is c.requires.thread c.self.invariant
    (asks c.self.inside.parts c.args.self.now c.args.t c.args.asked c.self.view_is c.requires.asked) c.may.ensures c.if-not-may.true

pub invariant_of-self : goal.invariant_of-self
invariant_of-self c = flat_after_tested_step c.self.inside.parts c.args.self.now c.step.new.self c.args.t c.args.r c.args.asked c.may.result
    c.self.view_is c.requires.thread c.self.invariant
    (asks c.self.inside.parts c.args.self.now c.args.t c.args.asked c.self.view_is c.requires.asked) c.may.ensures c.if-not-may.false
    c.step.ensures

pub returns-clause-admitted : goal.returns-clause-admitted
returns-clause-admitted c = (step_test_iff_can c.self.inside.parts c.args.self.now c.args.t c.args.r c.args.asked c.may.result c.self.view_is
    c.requires.thread c.self.invariant (asks c.self.inside.parts c.args.self.now c.args.t c.args.asked c.self.view_is c.requires.asked)
    c.may.ensures).0 c.if-not-may.false

pub returns-clause-taken : goal.returns-clause-taken
returns-clause-taken c = tables_of_tested_step c.self.inside.parts c.args.self.now c.step.new.self c.args.t c.args.r c.args.asked c.may.result
    c.self.view_is c.requires.thread c.self.invariant
    (asks c.self.inside.parts c.args.self.now c.args.t c.args.asked c.self.view_is c.requires.asked) c.may.ensures c.if-not-may.false
    c.step.ensures
