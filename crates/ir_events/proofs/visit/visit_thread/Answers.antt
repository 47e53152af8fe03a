use Rattle.std.proofs.Common.{◌≡◌, ap, ◌∙◌}
use Rattle.std.specs.List.{slice_index_or}
use Rattle.ir_mach.specs.Core.{Core}
use Rattle.ir_thread.specs.State as thread
use Rattle.ir_flat.specs.Flat.{idle}
use Rattle.ir_weave.specs.Standing.{flat_in, positions}
use Rattle.ir_events.proofs.Listed.{position_le_next_event, listed_pcs_unchanged, listed_at_next_event, length_push_plus_one}
use Rattle.ir_events.proofs.Passes.{further_transitive}
use Rattle.ir_events.proofs.visit.visit_thread.Goals as goal

pub returns-then-not-is_there-clause-listed : goal.returns-then-not-is_there-clause-listed
returns-then-not-is_there-clause-listed c =
    let f = c.args.fitted.now in
    let t = c.args.t in
    listed_pcs_unchanged f t (positions (flat_in f c.loop-i.state) t) (positions (flat_in f c.go_to-here.result.0) t) c.loop-i.list
    c.requires.ends.run c.requires.thread c.loop-i.invariant.listed
    (λ _. position_le_next_event f t c.loop-i.i (positions (flat_in f c.go_to-here.result.0) t) c.entries-entries.result.now c.loop-i.list
    c.entries-entries.ensures c.loop-i.invariant.size c.go_to-here.ensures.within)

pub loop-i-preserved : goal.loop-i-preserved
loop-i-preserved c =
    let f = c.args.fitted.now in
    let t = c.args.t in
    let new = c.go_to-here.result.0 in
    let own : c.thread_of.result.now ≡ slice_index_or new.threads t idle = c.thread_of.ensures in
    let pc : c.pc.result ≡ (slice_index_or new.threads t idle).core.pc =
    c.pc.ensures.value ∙ ap (λ (m : Core). m.pc) c.mach.ensures ∙ ap (λ (x : thread.ThreadState). x.core.pc) own in
    record {
      way = c.go_to-here.ensures.way;
      further = further_transitive f t c.args.state c.loop-i.state new c.loop-i.invariant.further c.go_to-here.ensures.further;
      size = length_push_plus_one c.loop-i.i c.pc.result c.loop-i.list c.add.new.self c.in_ok-add.ensures c.loop-i.invariant.size;
      listed = listed_at_next_event f t c.loop-i.i (positions (flat_in f c.loop-i.state) t) c.pc.result c.entries-entries.result.now c.loop-i.list
          c.add.new.self new c.requires.ends.run c.requires.thread c.loop-i.invariant.listed c.entries-entries.ensures
          c.loop-i.invariant.size c.loop-i-test.true c.go_to-here.ensures.way.stands
          (c.go_to-here.ensures.there c.if-not-is_there.false) pc c.in_ok-add.ensures;
    }
