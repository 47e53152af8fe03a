use Rattle.std.proofs.Common.{arith}
use Rattle.ir_coherence.specs.Counting.{count_at}
use Rattle.ir_coherence.specs.declared.entry_counts.ObjectCounts.{ObjectCounts}
use Rattle.ir_coherence.proofs.Tables.{zero_push_keeps_values}
use Rattle.ir_coherence.proofs.entry_counts.EntryCounts.new.Goals as goal

pub loop-limit-preserved : goal.loop-limit-preserved
loop-limit-preserved c =
    let one : ObjectCounts = record { reads = c.in_ok-reads.reads; writes = c.in_ok-writes.writes } in
    record {
      objects = omega (arith, c.in_ok-push.ensures.len, c.loop-limit.invariant.objects);
      reads = λ o v. rw c.in_ok-push.ensures.items
          (zero_push_keeps_values (λ (x : ObjectCounts). count_at x.reads v) c.loop-limit.objects.items one o (c.in_ok-reads.ensures v)
          (λ p. c.loop-limit.invariant.reads p v));
      writes = λ o v. rw c.in_ok-push.ensures.items
          (zero_push_keeps_values (λ (x : ObjectCounts). count_at x.writes v) c.loop-limit.objects.items one o (c.in_ok-writes.ensures v)
          (λ p. c.loop-limit.invariant.writes p v));
    }
