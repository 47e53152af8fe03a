use Rattle.std.proofs.Common.{◌≡◌, ◌∙◌, sym, true, rules}
use Rattle.ir_asm.specs.Source.{source_lines}
use Rattle.ir_asm.proofs.Sound.{first_pass_is_sound, seen_guest_has_limits}
use Rattle.ir_asm.proofs.assembler.assemble_with_labels.Goals as goal

pub parts_of-requires : goal.parts_of-requires
parts_of-requires c = (first_pass_is_sound (source_lines c.as_bytes.result.now) c.new-scan.result c.first_pass.new.scan c.new-scan.ensures
    c.in_ok-line.ensures.exact).few

pub image-requires : goal.image-requires
image-requires c =
    seen_guest_has_limits c.first_pass.new.scan c.in_ok-parts.parts
    (first_pass_is_sound (source_lines c.as_bytes.result.now) c.new-scan.result c.first_pass.new.scan c.new-scan.ensures c.in_ok-line.ensures.exact)
    (let there : c.has_code.result ≡ true = search rules in sym c.has_code.ensures ∙ there) c.in_ok-parts.ensures
