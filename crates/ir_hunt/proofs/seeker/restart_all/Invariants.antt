use Rattle.std.proofs.Common.{◌≡◌, [], map, take, false, length}
use Rattle.std.specs.Prelude.{replicate}
use Rattle.ir_world.specs.Sources.{made_with}
use Rattle.ir_hunt.proofs.seeker.restart_all.Given as goal

abbrev pub invariant-loop-place : goal.invariant-loop-place
invariant-loop-place g l = record {
  long : length l.worlds.items ≡ length l.fn.worlds.items;
  made : map (λ w. made_with w.time w.seed w.file.now) l.worlds.items ≡ map (λ w. made_with w.time w.seed w.file.now) l.fn.worlds.items;
  answers : take l.place (map (λ w. w.answers.items) l.worlds.items) ≡ replicate l.place [];
  works : take l.place (map (λ w. w.failed) l.worlds.items) ≡ replicate l.place false;
}
