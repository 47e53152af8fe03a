use Rattle.ir_record.proofs.Asking.{asked_has_not_failed, answers_set_world, none_failed_set, broken_is_first_failed, map_set_alike}
use Rattle.ir_record.proofs.in_order.turn.answer_to.Goals as goal

pub answer-requires : goal.answer-requires
answer-requires g c = asked_has_not_failed g.W.World.broken c.args.worlds.now.items c.args.t c.index_mut.result.now c.requires.works c.requires.thread
    c.index_mut.ensures.value

pub returns-in-Ok-clause-gained : goal.returns-in-Ok-clause-gained
returns-in-Ok-clause-gained g c = answers_set_world g.W.World.answers c.args.worlds.now.items c.args.t c.index_mut.result.now c.answer.new.self
    (c.args.kind, c.in-Ok.value) c.requires.thread c.index_mut.ensures.value c.in-Ok.ensures.answered

pub returns-in-Ok-clause-works : goal.returns-in-Ok-clause-works
returns-in-Ok-clause-works g c = none_failed_set g.W.World.broken c.args.worlds.now.items c.args.t c.answer.new.self c.requires.works
    c.requires.thread c.in-Ok.ensures.works

pub returns-in-Err-clause-failed : goal.returns-in-Err-clause-failed
returns-in-Err-clause-failed g c = broken_is_first_failed g.W.World.broken c.args.worlds.now.items c.args.t c.answer.new.self c.requires.works
    c.requires.thread c.in-Err.ensures.failed

pub returns-in-Ok-clause-kept : goal.returns-in-Ok-clause-kept
returns-in-Ok-clause-kept g c = map_set_alike g.W.World.origin c.args.worlds.now.items c.args.t c.index_mut.result.now c.answer.new.self
    c.index_mut.ensures.value c.in-Ok.ensures.origin

pub returns-in-Err-clause-kept : goal.returns-in-Err-clause-kept
returns-in-Err-clause-kept g c = map_set_alike g.W.World.origin c.args.worlds.now.items c.args.t c.index_mut.result.now c.answer.new.self
    c.index_mut.ensures.value c.in-Err.ensures.origin

pub returns-in-Err-clause-no_more : goal.returns-in-Err-clause-no_more
returns-in-Err-clause-no_more g c = map_set_alike g.W.World.answers c.args.worlds.now.items c.args.t c.index_mut.result.now c.answer.new.self
    c.index_mut.ensures.value c.in-Err.ensures.kept
