use Rattle.std.proofs.Common.{List, ℕ, map, sym, subst}
use Rattle.std.specs.List.{AllByRecursion}
use Rattle.ir_image.specs.Bounds.{IsWord, IsByte, IsGuest}
use Rattle.ir_elf.specs.Segments.{seen}
use Rattle.ir_elf.proofs.Limits.{segments_guest_has_limits, limited_guest_is_guest}
use Rattle.ir_elf.proofs.reading.image_of.Goals as goal

pub new-requires-2 : goal.new-requires-2
new-requires-2 c =
    let p = c.in_ok-form.field-0 in
    subst (λ (code : List ℕ). IsGuest (record { form = p.form; entries = p.entries.items; code = code; bytes = p.bytes.items; words = p.words.items }))
    (sym c.in_ok-code.ensures)
    (limited_guest_is_guest _ (segments_guest_has_limits (map seen c.args.segments.now) _ c.in_ok-form.ensures.short_code c.in_ok-form.ensures.short_data
    c.in_ok-form.ensures.whole c.in_ok-form.ensures.exact)
    (subst (AllByRecursion IsWord) c.as_slice.ensures.value c.are_words.ensures)
    (subst (AllByRecursion IsByte) c.as_slice-2.ensures.value c.are_bytes.ensures)
    (subst (AllByRecursion IsWord) c.as_slice-3.ensures.value c.are_words-2.ensures))
