use Rattle.std.proofs.Common.{◌+◌, ◌≤◌, length, subst}
use Rattle.ir_gdb.specs.Serving.{Serving}
use Rattle.ir_gdb.specs.Stub.{most_stub_points}
use Rattle.ir_gdb.proofs.Setting.{shared_watches_are_few}
use Rattle.ir_gdb.proofs.Stopping.{serving_seen}
use Rattle.ir_gdb.proofs.remote.Remote.watches_if.Goals as goal

pub returns-clause-few : goal.returns-clause-few
returns-clause-few c =
    let s = (serving_seen c.self.view_is).stub in
    subst (λ (x : Serving). length x.stub.breaks + length c.shared.result.now ≤ most_stub_points) c.self.view_is
    (shared_watches_are_few (length s.breaks) s.watches c.shared.result.now c.shared.ensures c.self.invariant.few)
