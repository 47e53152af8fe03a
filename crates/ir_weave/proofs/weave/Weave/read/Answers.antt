use Rattle.std.proofs.Common.{◌∙◌, ap}
use Rattle.ir_weave.proofs.Steps.{stepped_by_get}
use Rattle.ir_weave.proofs.weave.Weave.read.Goals as goal

pub returns-clause-stepped : goal.returns-clause-stepped
returns-clause-stepped c =
    stepped_by_get c.args.self.now.table.shared.key c.args.fitted.now c.code.result.now c.args.seat.now.me c.get-value.new.seat.me
    c.args.thread.now c.take_asked.new.self c.args.word.object c.args.word.index c.get-value.result c.requires.table
    (c.code.ensures.value ∙ ap (λ g. g.code) c.image.ensures.value) c.requires.thread c.requires.asking c.get-value.ensures.value
    c.take_asked.ensures c.get-value.ensures.read
