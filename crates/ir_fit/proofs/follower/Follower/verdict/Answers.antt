use Rattle.std.proofs.Common.{◌≡◌, sym, ap, subst, ◌∙◌}
use Rattle.ir_flat.specs.Flat.{thread_of}
use Rattle.ir_runs.specs.declared.thread_verdict.ThreadVerdict.TheVariants.{Disagrees, Starves}
use Rattle.ir_fit.proofs.Moves.{Stands, stands_disagreeing, stands_starving}
use Rattle.ir_fit.proofs.Seen.{awaiting_is_not_done, stopped_otherwise_differs}
use Rattle.ir_fit.proofs.follower.Follower.verdict.Goals as goal

pub returns-in-Waits : goal.returns-in-Waits
returns-in-Waits c = λ guest k.
    let r = c.args.self.now.trace in
    let f = c.args.self.now.flat in
    let events : c.events.result ≡ (thread_of f c.args.t).events = c.events.ensures.value
    ∙ ap (λ x. x.events) c.thread-thread.ensures.thread in
    subst (λ e. Stands guest r f c.args.self.now.places.items k c.args.t (Starves e)) (sym events)
    (stands_starving guest r f c.args.self.now.places.items k c.args.t
    (awaiting_is_not_done _ _ c.in-Waits.ensures.0.awaits) c.in-Waits.ensures.1 c.in-Waits.ensures.2)

pub returns-in-Disagrees : goal.returns-in-Disagrees
returns-in-Disagrees c = λ guest k.
    let r = c.args.self.now.trace in
    let f = c.args.self.now.flat in
    let events : c.events-in-Disagrees.result ≡ (thread_of f c.args.t).events = c.events-in-Disagrees.ensures.value
    ∙ ap (λ x. x.events) c.thread-thread.ensures.thread in
    let steps : c.steps.result ≡ (thread_of f c.args.t).steps = c.steps.ensures.value ∙ ap (λ x. x.steps) c.thread-thread.ensures.thread in
    let seen = stopped_otherwise_differs r f c.args.t c.look.result c.look.ensures c.requires.stopped c.in-Disagrees.is in
    subst (λ e. Stands guest r f c.args.self.now.places.items k c.args.t (Disagrees e c.steps.result)) (sym events)
    (subst (λ e. Stands guest r f c.args.self.now.places.items k c.args.t (Disagrees (thread_of f c.args.t).events e)) (sym steps)
    (stands_disagreeing guest r f c.args.self.now.places.items k c.args.t seen.0 seen.1))
