use Rattle.ir_bytes.proofs.CallerLemmas.{bytes_are_little_bytes}
use Rattle.ir_trace.proofs.laws.bytes_are_their_number.Goals as goal

pub returns : goal.returns
returns c = bytes_are_little_bytes
