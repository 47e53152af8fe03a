use Rattle.std.proofs.Common.{◌≡◌, map}
use Rattle.std.specs.List.{range_with_len}
use Rattle.std.specs.String.{string_bytes}
use Rattle.ir_files.specs.Outputs.{output_path}
use Rattle.ir_files.proofs.output_files.output_paths.Given as goal

-- the paths of the threads so far
abbrev pub invariant-loop-thread : goal.invariant-loop-thread
invariant-loop-thread l = map string_bytes l.paths.items ≡ map (output_path l.prefix) (range_with_len 0 l.thread)
