use Rattle.ir_schedule.proofs.Texts.{occurs_in_rest_same}
use Rattle.ir_schedule.proofs.text.occurs.Goals as goal

pub starts-preserved : goal.starts-preserved
starts-preserved c = occurs_in_rest_same c.args.text.now c.args.bytes.now c.starts.start c.starts_with.result c.starts-test.true
    c.starts_with.ensures.value c.if-starts_with.false c.starts.invariant
