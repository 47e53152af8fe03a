use Rattle.std.proofs.Common.{◌≡◌, [], map}
use Rattle.std.specs.Prelude.{replicate}
use Rattle.ir_record.specs.Worlds.{NoneFailed}
use Rattle.ir_world.specs.Sources.{origins}
use Rattle.ir_world.specs.Sources.{made_with, is_counted}
use Rattle.ir_world.proofs.thread_worlds.worlds.Given as goal

abbrev pub invariant-loop-thread : goal.invariant-loop-thread
invariant-loop-thread g l = record {
  origins : map (λ w. made_with w.time w.seed w.file.now) l.worlds.items ≡ origins (is_counted l.time) l.random l.file l.thread;
  fresh : map (λ w. w.answers.items) l.worlds.items ≡ replicate l.thread [];
  works : NoneFailed (map (λ w. w.failed) l.worlds.items);
}
