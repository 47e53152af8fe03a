use Rattle.std.proofs.Common.{◌∙◌, ap}
use Rattle.ir_weave.specs.Woven.{met_of}
use Rattle.ir_thread.specs.declared.ask.Ask.TheVariants.{Put}
use Rattle.ir_weave.proofs.Steps.{stepped_without_value, rises_is_reflexive}
use Rattle.ir_weave.proofs.weave.Weave.write.Goals as goal

pub returns-clause-stepped : goal.returns-clause-stepped
returns-clause-stepped c =
    stepped_without_value c.args.self.now.table.shared.key c.args.fitted.now c.code.result.now c.args.seat.now.me c.put.new.seat.me
    c.args.thread.now c.take_asked.new.self (Put c.args.word.object c.args.word.index c.args.value) c.requires.table
    (c.code.ensures.value ∙ ap (λ g. g.code) c.image.ensures.value) c.requires.thread c.requires.asking tt tt c.take_asked.ensures
    (met_of c.args.seat.now.me.0) (rises_is_reflexive (met_of c.args.seat.now.me.0)) c.put.ensures.put
