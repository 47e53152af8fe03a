use Rattle.std.proofs.Common.{◌*◌, arith}
use Rattle.ir_explore.proofs.Joined.{short_rest_take_32}
use Rattle.ir_explore.proofs.bytes.line_of.Goals as goal

pub returns-else-bytes-first-gt-LINE_BYTES : goal.returns-else-bytes-first-gt-LINE_BYTES
returns-else-bytes-first-gt-LINE_BYTES c =
    short_rest_take_32 c.args.bytes.now (32 * c.args.number) (let a = c.if-bytes-first-gt-LINE_BYTES.false in omega (arith, a))
