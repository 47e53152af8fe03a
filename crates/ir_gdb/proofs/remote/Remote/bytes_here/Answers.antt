use Rattle.std.proofs.Common.{◌≡◌, ◌<◌, ℕ, min, None, subst, arith}
use Rattle.ir_cut.specs.Positions.{EachRun}
use Rattle.ir_gdb.specs.Reads.{most_read_bytes, byte_seen}
use Rattle.ir_gdb.proofs.Seen.{bytes_end_at_unseen, bytes_end_at_last}
use Rattle.ir_gdb.proofs.remote.Remote.bytes_here.Goals as goal

pub returns-in_default : goal.returns-in_default
returns-in_default c =
    let test = c.bytes-test.true in
    let count = c.min-count.ensures in
    let below : c.bytes.place < min c.args.size most_read_bytes = omega (arith, test, count) in
    bytes_end_at_last c.args.self.now c.bytes.bytes.items c.bytes.place (min c.args.size most_read_bytes) c.args.address c.requires below
    c.in_default.ensures c.bytes.invariant.bytes c.bytes.invariant.len

pub returns-in_default-byte : goal.returns-in_default-byte
returns-in_default-byte c =
    let test = c.bytes-test.true in
    let count = c.min-count.ensures in
    let below : c.bytes.place < min c.args.size most_read_bytes = omega (arith, test, count) in
    let s = c.args.self.now in
    let none = subst (λ (a : ℕ). EachRun s.stub.desk.fitted (λ run. None ≡ byte_seen run s.stub a)) c.in-Some.ensures.1 c.in_default-byte.ensures in
    bytes_end_at_unseen s c.bytes.bytes.items c.bytes.place (min c.args.size most_read_bytes) c.args.address below c.bytes.invariant.bytes c.bytes.invariant.len none
