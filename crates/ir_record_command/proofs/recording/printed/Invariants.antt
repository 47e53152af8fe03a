use Rattle.std.proofs.Common.{◌≡◌, ◌++◌, map}
use Rattle.std.specs.Vec.Iter.{into_iter_items}
use Rattle.ir_record_command.proofs.recording.printed.Given as goal

abbrev pub invariant-loop-output : goal.invariant-loop-output
invariant-loop-output g l = record {
  parts : l.yielded ++ into_iter_items l.output-iterator ≡ l.fn.outputs.each.items;
  printed : map (λ b. b.items) l.printed.items ≡ map (λ o. o.bytes.items) l.yielded;
}
