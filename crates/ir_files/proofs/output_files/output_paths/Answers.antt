use Rattle.std.specs.String.{string_bytes}
use Rattle.ir_files.specs.Outputs.{output_path}
use Rattle.ir_files.proofs.Putting.{map_range_push}
use Rattle.ir_files.proofs.output_files.output_paths.Goals as goal

pub loop-thread-preserved : goal.loop-thread-preserved
loop-thread-preserved c = map_range_push string_bytes (output_path c.args.prefix.now) c.loop-thread.paths.items c.push.new.self.items _
    c.loop-thread.thread c.loop-thread.invariant c.in_ok-output_path.ensures c.in_ok-push.ensures.items
