use Rattle.std.proofs.Common.{sym, ap, ◌∙◌}
use Rattle.ir_thread.specs.State.{ThreadState}
use Rattle.ir_thread.proofs.PrivateRuns.{reply_to_own_number}
use Rattle.ir_thread.proofs.thread.Thread.pass_own_number.Goals as goal

pub returns : goal.returns
returns c = c.pass-2.ensures ∙ sym (reply_to_own_number c.args.code.now c.args.self.now c.pass.inside.number
    (sym (ap (λ (s : ThreadState). s.number) c.pass.view_is)) c.requires.asked c.requires.call)
