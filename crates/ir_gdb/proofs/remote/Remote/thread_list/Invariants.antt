use Rattle.std.proofs.Common.{◌≡◌, ◌≤◌, ◌+◌, ◌*◌, ◌++◌, vec_len, vec_capacity, codes}
use Rattle.ir_gdb.specs.Texts.{first_threads_text}
use Rattle.ir_gdb.proofs.remote.Remote.thread_list.Given as goal

abbrev pub invariant-threads : goal.invariant-threads
invariant-threads l = record {
  text : l.list.items ≡ codes "<?xml version=\"1.0\"?><threads>" ++ first_threads_text l.self.stub l.thread;
  len : vec_len l.list ≤ 30 + 146 * l.thread;
  room : 2400 ≤ vec_capacity l.list;
}
