use Rattle.std.proofs.Common.{◌∙◌, ap}
use Rattle.std.proofs.Math.Seq.{map-set_same}
use Rattle.ir_record.proofs.CallerLemmas.{asked_has_not_failed, answers_set_world, none_failed_set}
use Rattle.ir_shrink.proofs.step.answer_to.Goals as goal

pub answer-requires : goal.answer-requires
answer-requires g c = asked_has_not_failed g.W.World.broken c.args.worlds.now.items c.args.t c.index_mut.result.now c.requires.works c.requires.thread
    c.index_mut.ensures.value

pub returns-in-Ok-clause-gained : goal.returns-in-Ok-clause-gained
returns-in-Ok-clause-gained g c = answers_set_world g.W.World.answers c.args.worlds.now.items c.args.t c.index_mut.result.now c.answer.new.self
    (c.args.kind, c.in-Ok.value) c.requires.thread c.index_mut.ensures.value c.in-Ok.ensures.answered

pub returns-in-Ok-clause-works : goal.returns-in-Ok-clause-works
returns-in-Ok-clause-works g c = none_failed_set g.W.World.broken c.args.worlds.now.items c.args.t c.answer.new.self c.requires.works
    c.requires.thread c.in-Ok.ensures.works

pub returns-in-Ok-clause-kept : goal.returns-in-Ok-clause-kept
returns-in-Ok-clause-kept g c = map-set_same g.W.World.origin c.args.worlds.now.items c.args.t c.answer.new.self c.index_mut.result.now
    (c.in-Ok.ensures.origin ∙ ap g.W.World.origin c.index_mut.ensures.value)

pub returns-in-Err-clause-kept : goal.returns-in-Err-clause-kept
returns-in-Err-clause-kept g c = map-set_same g.W.World.origin c.args.worlds.now.items c.args.t c.answer.new.self c.index_mut.result.now
    (c.in-Err.ensures.origin ∙ ap g.W.World.origin c.index_mut.ensures.value)
