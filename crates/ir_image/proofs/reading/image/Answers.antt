use Rattle.std.proofs.Common.{List, ℕ, ap, sym, ◌∙◌, arith}
use Rattle.ir_image.specs.declared.form.ImageForm.{ImageForm}
use Rattle.ir_image.specs.Guest.{Guest}
use Rattle.ir_image.proofs.Whole.{parts_take_encoding}
use Rattle.ir_image.proofs.reading.image.Goals as goal

abbrev with_code : (form : ImageForm) (entries bytes words code : List ℕ) → Guest
with_code form entries bytes words code = record { form = form; entries = entries; code = code; bytes = bytes; words = words }

pub new-requires-2 : goal.new-requires-2
new-requires-2 c =
    let made : List ℕ → Guest = with_code c.in_ok-counts.counts.form c.in_ok-entries.field-0.entries.items c.in_ok-entries.field-0.bytes.items
    c.in_ok-entries.field-0.words.items in
    (parts_take_encoding c.args.bytes.now c.in_ok-counts.counts c.in_ok-counts.rest.now (made c.in_ok-entries.field-0.code.items)
    (made c.in_ok-code.code)
    (λ i. omega (arith, c.type_inv.bytes i)) c.in_ok-counts.ensures.exact c.in_ok-entries.ensures (ap made (sym c.in_ok-code.ensures))).0

pub returns-clause-found : goal.returns-clause-found
returns-clause-found c =
    let made : List ℕ → Guest = with_code c.in_ok-counts.counts.form c.in_ok-entries.field-0.entries.items c.in_ok-entries.field-0.bytes.items
    c.in_ok-entries.field-0.words.items in
    parts_take_encoding c.args.bytes.now c.in_ok-counts.counts c.in_ok-counts.rest.now (made c.in_ok-entries.field-0.code.items) c.new-2.result
    (λ i. omega (arith, c.type_inv.bytes i)) c.in_ok-counts.ensures.exact c.in_ok-entries.ensures
    (ap made (sym c.in_ok-code.ensures) ∙ sym c.new-2.ensures)
