use Rattle.std.proofs.Common.{List, ℕ, sym, subst}
use Rattle.std.specs.List.{AllByRecursion}
use Rattle.ir_image.specs.Bounds.{IsWord, IsByte, IsGuest}
use Rattle.ir_asm.specs.Bounds.{HasLimits}
use Rattle.ir_asm.proofs.Sound.{limits_make_guest}
use Rattle.ir_asm.proofs.assembler.image.Goals as goal

pub new-requires-2 : goal.new-requires-2
new-requires-2 c =
    let p = c.parts.inside in
    subst (λ (code : List ℕ). IsGuest (record { form = p.form; entries = p.entries.items; code = code; bytes = p.bytes.items; words = p.words.items }))
    (sym c.in_ok-code.ensures)
    (limits_make_guest _ (subst HasLimits (sym c.parts.view_is) c.requires)
    (subst (AllByRecursion IsWord) c.as_slice.ensures.value c.are_words.ensures)
    (subst (AllByRecursion IsByte) c.as_slice-2.ensures.value c.are_bytes.ensures)
    (subst (AllByRecursion IsWord) c.as_slice-3.ensures.value c.are_words-2.ensures))
