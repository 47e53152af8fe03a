use Rattle.std.proofs.Common.{◌-◌, ◌∙◌, ℕ, ap, subst}
use Rattle.std.proofs.lemmas.Result.{IfOk-weaker}
use Rattle.ir_cut.specs.Positions.{EachRun, cut_of, last_of}
use Rattle.ir_gdb.specs.Stub.{Stub}
use Rattle.ir_gdb.specs.Stops.{position_of, WatchNext}
use Rattle.ir_gdb.proofs.Stopping.{zero_test_empty, watch_next_none, before_is_below_last, runs_watch_next_spoken}
use Rattle.ir_gdb.proofs.remote.Remote.watch_here.Goals as goal

pub watch_next-requires-clause-within : goal.watch_next-requires-clause-within
watch_next-requires-clause-within g c κs within =
    let u = c.speak.new.self.stub in
    let t = c.args.thread in
    let here = c.position-before.ensures.value ∙ ap (λ (x : Stub). position_of x t) c.speak.ensures in
    before_is_below_last (cut_of c.in_ok-cut.cut t) c.position-before.result (position_of c.args.self.now.stub t) (last_of u.desk.fitted t)
    c.in_ok-cut.ensures.there here c.requires.above c.position-before.ensures.within

pub returns-clause-watch : goal.returns-clause-watch
returns-clause-watch g c =
    let s = c.args.self.now.stub in
    let t = c.args.thread in
    let w = c.args.watched in
    let here = c.position-before.ensures.value ∙ ap (λ (x : Stub). position_of x t) c.speak.ensures in
    let at = c.in_ok-cut.ensures.there ∙ ap (λ (n : ℕ). n - 1) here in
    IfOk-weaker c.watch_next.result _ (λ reason. EachRun s.desk.fitted (λ run. WatchNext run s t w (position_of s t - 1) reason))
    (λ reason next. subst (λ (n : ℕ). EachRun s.desk.fitted (λ run. WatchNext run s t w n reason)) at
    (runs_watch_next_spoken s c.speak.new.self.stub t (cut_of c.in_ok-cut.cut t) w reason c.speak.ensures next)) c.watch_next.ensures.watch

pub returns-then-is_empty-clause-watch : goal.returns-then-is_empty-clause-watch
returns-then-is_empty-clause-watch g c =
    let s = c.args.self.now.stub in
    watch_next_none s c.speak.new.self.stub c.args.thread (position_of s c.args.thread - 1) c.args.watched c.watches_if.result.now c.speak.ensures
    c.watches_if.ensures.value (zero_test_empty c.watches_if.result.now c.if-is_empty.ensures)
