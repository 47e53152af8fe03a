use Rattle.std.proofs.Common.{◌<◌, ◌≤◌, ◌∙◌, sym, ap, subst, arith}
use Rattle.ir_cut.specs.Positions.{threads_of}
use Rattle.ir_timeline.specs.Hand.{IsCutOf}
use Rattle.ir_gdb.specs.Stub.{Stub, stub_spoken}
use Rattle.ir_gdb.proofs.Over.{none_has_hit_mover, none_has_hit_step, pc_is_pc_here, other_has_hit_if_found, no_other_has_hit}
use Rattle.ir_gdb.proofs.remote.Remote.other_has_hit.Goals as goal

pub threads-preserved-then-other-thread : goal.threads-preserved-then-other-thread
threads-preserved-then-other-thread g c = record {
  stub = c.threads.invariant.stub;
  none =
      none_has_hit_mover c.args.self.now.stub c.in_ok-pc.pc c.args.thread c.threads.other c.args.cut.now c.if-other-thread.true
      c.threads.invariant.none;
}

pub has_hit-requires-clause-cut : goal.has_hit-requires-clause-cut
has_hit-requires-clause-cut g c κs within =
    subst (λ (x : Stub). IsCutOf x.desk.fitted c.args.cut.now) (sym c.threads.invariant.stub) c.requires.cut

pub returns-then-branch-clause-hit : goal.returns-then-branch-clause-hit
returns-then-branch-clause-hit g c =
    let s = c.args.self.now.stub in
    let t = c.args.thread in
    let test = c.threads-test.true in
    let count = c.count-count.ensures.value in
    let same = ap (λ (x : Stub). threads_of x.desk.fitted) c.pc_at.ensures.stub in
    let below : c.threads.other < threads_of s.desk.fitted = omega (arith, test, count, same) in
    other_has_hit_if_found s c.threads.self.stub c.in_ok-has_hit.field-0 c.in_ok-pc.pc t c.threads.other c.args.cut.now c.threads.invariant.stub c.if-branch.true
    c.if-other-thread.false below
    (pc_is_pc_here s t c.position-position.result c.in_ok-pc.pc c.position-position.ensures.value c.in_ok-pc.ensures.pc) c.in_ok-has_hit.ensures.hit

pub threads-preserved : goal.threads-preserved
threads-preserved g c = record {
  stub = c.has_hit.ensures.stub ∙ ap (λ (x : Stub). stub_spoken x) c.threads.invariant.stub;
  none =
      none_has_hit_step c.args.self.now.stub c.threads.self.stub c.in_ok-has_hit.field-0 c.in_ok-pc.pc c.args.thread c.threads.other c.args.cut.now
      c.threads.invariant.stub c.if-branch.false c.in_ok-has_hit.ensures.hit c.threads.invariant.none;
}

pub returns-clause-hit : goal.returns-clause-hit
returns-clause-hit g c =
    let s = c.args.self.now.stub in
    let t = c.args.thread in
    let test = c.threads-test.false in
    let count = c.count-count.ensures.value in
    let same = ap (λ (x : Stub). threads_of x.desk.fitted) c.pc_at.ensures.stub in
    let all : threads_of s.desk.fitted ≤ c.threads.other = omega (arith, test, count, same) in
    no_other_has_hit s c.in_ok-pc.pc t c.threads.other c.args.cut.now all
    (pc_is_pc_here s t c.position-position.result c.in_ok-pc.pc c.position-position.ensures.value c.in_ok-pc.ensures.pc) c.threads.invariant.none
