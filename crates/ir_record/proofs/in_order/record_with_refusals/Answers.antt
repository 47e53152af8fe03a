use Rattle.std.proofs.Common.{rules, ◌≡◌, length, map, sym, ap, ◌∙◌, subst, arith}
use Rattle.std.proofs.lemmas.List.{length-map}
use Rattle.ir_record.specs.Progress.{IsReadyToRecord}
use Rattle.ir_record.specs.Recorders.{progress_of}
use Rattle.ir_record.specs.Recording.{turns_of_items}
use Rattle.ir_record.specs.Worlds.{NoneFailed}
use Rattle.ir_record.proofs.Ended.{start_is_ready, RecordingOver, over_if_no_step, new_is_start_progress, threads_there, objects_there, profiles_there, ended_there, recorded_there, map_of_composition}
use Rattle.ir_record.proofs.in_order.record_with_refusals.Given as given
use Rattle.ir_record.proofs.Stopped.{recording_stopped}
use Rattle.ir_record.proofs.in_order.record_with_refusals.Goals as goal

pub record-requires-clause-ready : goal.record-requires-clause-ready
record-requires-clause-ready g c =
    let size : length c.args.worlds.items ≡ length c.args.image.now.entries = search rules in
    subst (λ a. IsReadyToRecord a (map g.W.World.broken c.args.worlds.items))
    (sym (new_is_start_progress c.args.image.now c.args.budget c.args.profile (map g.W.World.answers c.args.worlds.items)
    c.in_ok-start.ensures.flat c.in_ok-start.ensures.logs))
    (start_is_ready c.args.image.now c.args.budget c.args.profile (map g.W.World.answers c.args.worlds.items)
    (map g.W.World.broken c.args.worlds.items) (length-map c.args.worlds.items g.W.World.answers ∙ size) c.requires.works)

-- once no world has failed, the recording is at its end
over : (g : given.Over) (c : goal.In_ok-outputs g) → RecordingOver c.args.image.now c.args.budget c.args.profile (turns_of_items c.args.order.now)
    (map g.W.World.answers c.args.worlds.items) (progress_of g.W.World.answers c.record.new.self)
over g c = over_if_no_step c.in_ok-start.ensures.flat c.in_ok-start.ensures.logs c.in_default.ensures.took c.in_default.ensures.over

pub into_trace-requires-clause-some : goal.into_trace-requires-clause-some
into_trace-requires-clause-some g c = omega (arith, threads_there (over g c), c.in_ok-start.ensures.guest.some_thread)

pub into_trace-requires-clause-few_threads : goal.into_trace-requires-clause-few_threads
into_trace-requires-clause-few_threads g c = omega (arith, threads_there (over g c), c.requires.allowed.0)

pub into_trace-requires-clause-few_objects : goal.into_trace-requires-clause-few_objects
into_trace-requires-clause-few_objects g c = omega (arith, objects_there (over g c), c.requires.allowed.1)

pub into_trace-requires-clause-ended : goal.into_trace-requires-clause-ended
into_trace-requires-clause-ended g c = λ t l. ended_there (over g c) t

pub into_trace-requires-clause-profile : goal.into_trace-requires-clause-profile
into_trace-requires-clause-profile g c = profiles_there (over g c)

pub returns-clause-recorded : goal.returns-clause-recorded
returns-clause-recorded g c =
    recorded_there (over g c.before.before.before.before.before) (map g.W.World.broken c.record.new.self.worlds.items)
    c.in_default.ensures.stays.ready c.in_ok-trace.trace c.in_ok-trace.ensures.objects c.in_ok-trace.ensures.limit
    c.in_ok-trace.ensures.profile c.in_ok-trace.ensures.threads
    _ (c.in_ok-outputs.ensures.bytes ∙ ap (map (λ x. x.output)) c.threads-3.ensures.value)
    _ (map_of_composition g.W.World.answers (λ o. o.world) c.in_ok-outputs.outputs.each.items c.record.new.self.worlds.items
    c.in_ok-outputs.ensures.worlds)

pub returns-clause-works : goal.returns-clause-works
returns-clause-works g c = subst NoneFailed (sym (map_of_composition g.W.World.broken (λ o. o.world) c.in_ok-outputs.outputs.each.items
    c.record.new.self.worlds.items c.in_ok-outputs.ensures.worlds)) c.in_default.ensures.stays.ready.works

pub returns-clause-origins : goal.returns-clause-origins
returns-clause-origins g c = map_of_composition g.W.World.origin (λ o. o.world) c.in_ok-outputs.outputs.each.items c.record.new.self.worlds.items
    c.in_ok-outputs.ensures.worlds ∙ c.record.ensures.stays.same_worlds

pub returns-in-Err-clause-failed : goal.returns-in-Err-clause-failed
returns-in-Err-clause-failed g c = (
  c.in-Err.ensures.stays.failed,
  c.record.ensures.stays.same_worlds,
  recording_stopped c.in_ok-start.ensures.flat c.in_ok-start.ensures.logs c.in-Err.ensures.stopped,
)
