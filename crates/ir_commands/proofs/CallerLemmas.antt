-- Lemmas for callers: what was reported stands, whatever follows.
use Rattle.std.proofs.Common.{◌≡◌, ◌++◌, List, ℕ, Option, [], subst, sym}
use Rattle.std.specs.Prelude.{OnOk, Result, Ok, Err}
use Rattle.std.proofs.KnownBytes.{Appends-nil, Appends-trans}
use Rattle.ir_commands.specs.Files.{GoesOn}

pub unchanged_goes_on : (held : Option (List ℕ)) → GoesOn held held
unchanged_goes_on held = ([], Appends-nil held)

pub goes_on_then : (first second third : Option (List ℕ)) → GoesOn first second → GoesOn second third → GoesOn first third
goes_on_then first second third a b = (a.0 ++ b.0, Appends-trans first second third a.0 b.0 a.1 b.1)

-- the same where nothing was told
pub quiet_goes_on : {T E W : Type 0} (written : W → Option (List ℕ)) (r : Result T E) (before after : W) → OnOk r (after ≡ before)
    → OnOk r (GoesOn (written before) (written after))
quiet_goes_on {W = W} written (Ok x) before after same = subst (λ (w : W). GoesOn (written before) (written w)) (sym same) (unchanged_goes_on (written before))
quiet_goes_on written (Err e) before after same = same
