use Rattle.std.proofs.Common.{◌∙◌, ap}
use Rattle.ir_weave.proofs.Steps.{stepped_by_own_step}
use Rattle.ir_weave.proofs.weave.Weave.go.Goals as goal

pub returns : goal.returns
returns c = stepped_by_own_step c.args.self.now.table.shared.key c.args.fitted.now c.code.result.now c.args.seat.now.me c.args.thread.now
    c.take_asked.new.self c.args.asked c.requires.table (c.code.ensures.value ∙ ap (λ g. g.code) c.image.ensures.value) c.requires.thread
    c.requires.asking c.requires.own c.take_asked.ensures
