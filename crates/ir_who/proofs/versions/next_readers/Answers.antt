use Rattle.std.proofs.Common.{◌+◌, ◌^◌, ◌≤◌, suc, sym, inl, inr, arith}
use Rattle.std.proofs.lemmas.Bool.{cases_lt}
use Rattle.ir_who.proofs.Listed.{no_word_no_readers}
use Rattle.ir_who.proofs.versions.next_readers.Goals as goal

pub returns-in-None : goal.returns-in-None
returns-in-None c =
    let far : 2 ^ 32 ≤ suc c.args.version = elim (cases_lt (c.args.version + 1) (2 ^ 32)) [
      | inl less ↦ absurd (c.in-None.ensures less)
      | inr past ↦ omega (arith, past)
    ] in
    sym (no_word_no_readers c.args.trace.now c.args.object (suc c.args.version) c.requires.recorded far)
