use Rattle.std.proofs.Common.{◌<◌, ◌-◌, length}
use Rattle.ir_trace.specs.Recorded.{recorded_thread}
use Rattle.ir_why.proofs.Linked.{ChainGoesOn}
use Rattle.ir_why.proofs.chain.chain_of.Given as goal

abbrev pub invariant-loop : goal.invariant-loop
invariant-loop l = record {
  thread : l.last.thread < length l.trace.threads;
  event : l.last.event < length (recorded_thread l.trace l.last.thread).events;
  chain : ChainGoesOn l.trace l.boxes l.most l.fn.here l.links.items (l.most - l.counter) l.last;
}
