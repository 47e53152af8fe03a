use Rattle.std.proofs.Common.{rules, ◌≡◌, ◌∙◌, true, sym, ap, subst}
use Rattle.ir_timeline.specs.Hand.{IsCutOf}
use Rattle.ir_gdb.specs.Stub.{Stub, stub_spoken}
use Rattle.ir_gdb.specs.Stops.{is_in_range}
use Rattle.ir_gdb.proofs.Ranging.{pc_in_cut_is_run_pc, stays_within_suc}
use Rattle.ir_gdb.proofs.remote.Remote.leaves.Goals as goal

pub steps-preserved : goal.steps-preserved
steps-preserved g c =
    let s = c.args.self.now.stub in
    let t = c.args.thread in
    let pc = c.in_ok-pc.pc in
    let cut = c.in_ok-at-2.at in
    let said = c.steps.invariant.stub in
    let inside : is_in_range c.args.low c.args.high pc ≡ true = search rules in
    let is = pc_in_cut_is_run_pc s c.steps.self.stub t _ pc cut said c.in_ok-at-2.ensures.there c.in_ok-pc.ensures.pc in
    record {
      stub = c.in_ok-pc.ensures.stub ∙ ap (λ (x : Stub). stub_spoken x) said;
      last = c.steps.invariant.last;
      above = search rules;
      within = search rules;
      cut = subst (λ (x : Stub). IsCutOf x.desk.fitted cut) (sym c.in_ok-pc.ensures.stub) c.in_ok-at-2.ensures.cut;
      there = c.in_ok-at-2.ensures.there;
      stays = stays_within_suc s t c.args.low c.args.high c.steps.position pc c.steps.invariant.stays is inside;
    }
