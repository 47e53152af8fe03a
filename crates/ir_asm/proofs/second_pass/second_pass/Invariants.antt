use Rattle.std.proofs.Common.{◌≡◌, ◌*◌, drop, length}
use Rattle.ir_image.specs.Guest.{object_words}
use Rattle.ir_asm.specs.Passes.{second_pass}
use Rattle.ir_asm.proofs.second_pass.second_pass.Given as goal

-- what is left to be put
abbrev pub invariant-loop-placed : goal.invariant-loop-placed
invariant-loop-placed l = record {
  whole_is : second_pass l.scan (drop l.placed-index l.all) l.parts ≡ second_pass l.scan l.all l.fn.parts;
  there : length l.parts.words ≡ object_words l.parts * l.scan.objects;
  form : l.parts.form ≡ l.fn.parts.form;
}
