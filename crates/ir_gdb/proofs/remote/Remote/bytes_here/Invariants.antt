use Rattle.std.proofs.Common.{◌≡◌}
use Rattle.arrayvec.specs.ArrayVec.{array_vec_len}
use Rattle.ir_cut.specs.Positions.{EachRun}
use Rattle.ir_gdb.specs.Reads.{byte_seen, bytes_there}
use Rattle.ir_gdb.proofs.remote.Remote.bytes_here.Given as goal

abbrev pub invariant-bytes : goal.invariant-bytes
invariant-bytes l = record {
  bytes : EachRun l.self.stub.desk.fitted (λ run. l.bytes.items ≡ bytes_there (byte_seen run l.self.stub) l.place l.address);
  len : array_vec_len l.bytes ≡ l.place;
}
