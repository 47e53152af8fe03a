use Rattle.std.proofs.Common.{◌≡◌, length}
use Rattle.ir_hits.proofs.Seen.{AreFirstNoted}
use Rattle.ir_hits.proofs.seeing.note_all.Given as goal

abbrev pub invariant-loop-i : goal.invariant-loop-i
invariant-loop-i l = record { size : length l.notes ≡ length l.points; first : AreFirstNoted l.code l.t l.thread l.points l.notes l.i }
