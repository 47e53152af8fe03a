use Rattle.ir_why.proofs.Linked.{StartsFurthest}
use Rattle.ir_why.proofs.chain.latest.Given as goal

abbrev pub invariant-loop-place : goal.invariant-loop-place
invariant-loop-place l = StartsFurthest l.boxes l.needs l.place-index l.best l.most
