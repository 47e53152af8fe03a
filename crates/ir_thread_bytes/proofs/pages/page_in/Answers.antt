use Rattle.std.proofs.Common.{◌≡◌, ◌*◌, ◌+◌, ◌-◌, take, drop, ap, arith}
use Rattle.ir_mach.specs.Pages.{page_size}
use Rattle.ir_thread_bytes.proofs.pages.page_in.Goals as goal

pub returns-clause-value : goal.returns-clause-value
returns-clause-value c =
    let count : page_size * c.args.i + page_size - page_size * c.args.i ≡ page_size = omega arith in
    ap (λ z. take z (drop (page_size * c.args.i) c.args.memory.now)) count
