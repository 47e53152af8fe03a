use Rattle.std.proofs.Common.{◌≡◌, ◌++◌, length}
use Rattle.std.specs.List.{AllByRecursion}
use Rattle.std.specs.Vec.Iter.{into_iter_items, into_iter_len}
use Rattle.ir_trace.specs.Bounds.{IsRecordedThread}
use Rattle.ir_record.specs.Gathered.{AreThreadTraces}
use Rattle.ir_record.proofs.in_order.logged_guest.LoggedGuest.into_trace.Given as goal

abbrev pub invariant-loop-log : goal.invariant-loop-log
invariant-loop-log l = record {
  parts : l.yielded ++ into_iter_items l.log-iterator ≡ l.fn.self.logs.items;
  size : into_iter_len l.log-iterator ≡ length (into_iter_items l.log-iterator);
  traces : AreThreadTraces l.fn.self.flat l.yielded l.threads.items;
  fit : AllByRecursion (IsRecordedThread l.profile (length l.fn.self.flat.objects)) l.threads.items;
}
