use Rattle.std.proofs.Common.{inl, inr}
use Rattle.ir_commands.proofs.CallerLemmas.{goes_on_then}
use Rattle.ir_commands.proofs.hunt.shrunk_found.Goals as goal

pub returns-in-Ok : goal.returns-in-Ok
returns-in-Ok g c = inl (
  c.in-Ok.shrunk.is_minimal,
  c.shrunk_status.ensures.status,
  c.in-Ok.ensures.done,
  goes_on_then _ _ _ c.in-Ok.ensures.grows c.shrunk_status.ensures.grows,
)

pub returns-in-Err : goal.returns-in-Err
returns-in-Err g c = inr c.in-Err.ensures.stopped
