use Rattle.std.proofs.Common.{◌≡◌, ◌≤◌}
use Rattle.arrayvec.specs.ArrayVec.{array_vec_len}
use Rattle.ir_text.specs.Texts.{inside_for}
use Rattle.ir_text.specs.Held.{held_by}
use Rattle.ir_text.proofs.objects.inside_for.Given as goal

abbrev pub invariant-loop-thread : goal.invariant-loop-thread
invariant-loop-thread l = record {
  inside : l.inside.items ≡ inside_for l.access (held_by l.threads l.object) l.thread;
  len : array_vec_len l.inside ≤ l.thread;
}
