use Rattle.std.proofs.Common.{◌≡◌, ◌≤◌, ◌∙◌, ℕ, List, sym, ap, subst}
use Rattle.std.proofs.lemmas.Result.{IfOk-weaker}
use Rattle.ir_cut.specs.Positions.{EachRun, cut_of, last_of, thread_at}
use Rattle.ir_gdb.specs.Stub.{Stub}
use Rattle.ir_gdb.proofs.Ranging.{pc_in_cut_is_run_pc}
use Rattle.ir_gdb.proofs.remote.Remote.pc_at.Goals as goal

pub cut_on-requires-clause-within : goal.cut_on-requires-clause-within
cut_on-requires-clause-within g c =
    let t = c.args.thread in
    let at = c.in_ok-here.ensures.value ∙ ap (λ (x : Stub). x.desk.at) c.speak.ensures in
    let low = subst (λ (x : List ℕ). cut_of x t ≤ c.args.position) (sym at) c.requires.within.0 in
    let high = subst (λ (x : Stub). c.args.position ≤ last_of x.desk.fitted t) (sym c.speak.ensures) c.requires.within.1 in
    (low, high)

pub returns-clause-pc : goal.returns-clause-pc
returns-clause-pc g c =
    let s = c.args.self.now.stub in
    let t = c.args.thread in
    let p = c.args.position in
    IfOk-weaker c.pc_in.result _ (λ pc. EachRun s.desk.fitted (λ run. pc ≡ (thread_at s.desk.fitted run t p).core.pc))
    (λ pc is. pc_in_cut_is_run_pc s c.speak.new.self.stub t p pc c.in_ok-cut.cut c.speak.ensures c.in_ok-cut.ensures.there is) c.pc_in.ensures.pc
