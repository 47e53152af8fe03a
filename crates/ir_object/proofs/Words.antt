-- What a step of a thread makes of the word that it finds.
use Rattle.std.proofs.Common.{◌≡◌, ℕ, ◌+◌, ◌-◌, ◌*◌, ◌/◌, ◌%◌, ◌^◌, ◌==◌, ◌<◌, false, sym, ◌∙◌, arith, inl, inr, eq-eqb}
use Rattle.std.proofs.lemmas.Bool.{cases_eq}
use Rattle.ir_runs.specs.declared.access.Access.TheVariants.{Reading, Writing}
use Rattle.ir_object.specs.Standing.{Admitted}
use Rattle.ir_object.specs.Word.{reader_unit, left_unit, version_unit, inside_limit, left_limit, reader_leaves, fields_of, entered_word, left_by}
use Rattle.ir_object.specs.declared.fields.Fields.{Fields}

-- no writer is inside
no_writer_word_is_even : (w : ℕ) → (fields_of w).writer ≡ false → w % reader_unit ≡ 0
no_writer_word_is_even w off = elim (cases_eq (w % 2) 1) [ inl is ↦ absurd (cc (sym (eq-eqb (w % 2) 1 is) ∙ off)) | inr ne ↦ omega (arith, ne) ]

-- a reader enters, with room for one more
pub reader_entry_fields : (w : ℕ) → Admitted Reading (fields_of w) → (fields_of w).inside + 1 < inside_limit
    → fields_of (w + reader_unit) ≡ entered_word Reading (fields_of w)
reader_entry_fields w free room =
    let e = no_writer_word_is_even w free in
    let version : (w + reader_unit) / version_unit ≡ w / version_unit = omega (arith, e, room) in
    let left : (w + reader_unit) / left_unit % left_limit ≡ w / left_unit % left_limit = omega (arith, e, room) in
    let inside : (w + reader_unit) / reader_unit % inside_limit ≡ w / reader_unit % inside_limit + 1 = omega (arith, e, room) in
    let writer : (w + reader_unit) % reader_unit ≡ w % 2 = omega arith in
    λ i. record { version = version i; left = left i; inside = inside i; writer = writer i == 1 }

-- a writer enters
pub writer_entry_fields : (w : ℕ) → Admitted Writing (fields_of w) → fields_of (w + 1) ≡ entered_word Writing (fields_of w)
writer_entry_fields w free =
    let e = no_writer_word_is_even w free.0 in
    let none = free.1 in
    let version : (w + 1) / version_unit ≡ w / version_unit = omega (arith, e, none) in
    let left : (w + 1) / left_unit % left_limit ≡ w / left_unit % left_limit = omega (arith, e, none) in
    let inside : (w + 1) / reader_unit % inside_limit ≡ w / reader_unit % inside_limit = omega (arith, e, none) in
    let writer : (w + 1) % reader_unit ≡ 1 = omega (arith, e) in
    λ i. record { version = version i; left = left i; inside = inside i; writer = writer i == 1 }

-- a reader who is inside leaves, with room for one more that has left; the sum doesn't pass 64 bits
pub reader_leave_fields : (w : ℕ) → 0 < (fields_of w).inside → (fields_of w).left + 1 < left_limit → (fields_of w).version < 2 ^ 31
    → fields_of ((w + reader_leaves) % 2 ^ 64) ≡ left_by Reading (fields_of w)
reader_leave_fields w inside_one room small =
    let version : (w + reader_leaves) % 2 ^ 64 / version_unit ≡ w / version_unit = omega (arith, small, room, inside_one) in
    let left : (w + reader_leaves) % 2 ^ 64 / left_unit % left_limit ≡ w / left_unit % left_limit + 1 = omega
    (arith, small, room, inside_one) in
    let inside : (w + reader_leaves) % 2 ^ 64 / reader_unit % inside_limit ≡ w / reader_unit % inside_limit - 1 = omega
    (arith, small, room, inside_one) in
    let writer : (w + reader_leaves) % 2 ^ 64 % reader_unit ≡ w % 2 = omega (arith, small) in
    λ i. record { version = version i; left = left i; inside = inside i; writer = writer i == 1 }

-- the same of any word of 64 bits
pub word_reader_leave_fields : (w : ℕ) → w < 2 ^ 64 → 0 < (fields_of w).inside → (fields_of w).left + 1 < left_limit
    → (w + reader_leaves < 2 ^ 64) × (fields_of (w + reader_leaves) ≡ left_by Reading (fields_of w))
word_reader_leave_fields w fits inside_one room =
    let below : w + reader_leaves < 2 ^ 64 = omega (arith, fits, room, inside_one) in
    let version : (w + reader_leaves) / version_unit ≡ w / version_unit = omega (arith, room, inside_one) in
    let left : (w + reader_leaves) / left_unit % left_limit ≡ w / left_unit % left_limit + 1 = omega (arith, room, inside_one) in
    let inside : (w + reader_leaves) / reader_unit % inside_limit ≡ w / reader_unit % inside_limit - 1 = omega (arith, room, inside_one) in
    let writer : (w + reader_leaves) % reader_unit ≡ w % 2 = omega arith in
    (below, λ i. record { version = version i; left = left i; inside = inside i; writer = writer i == 1 })

-- the next version alone, which a writer leaves
pub writer_leave_fields : (v : ℕ) (f : Fields) → f.version ≡ v → fields_of ((v + 1) * version_unit) ≡ left_by Writing f
writer_leave_fields v f is =
    let version : (v + 1) * version_unit / version_unit ≡ f.version + 1 = omega (arith, is) in
    let left : (v + 1) * version_unit / left_unit % left_limit ≡ 0 = omega arith in
    let inside : (v + 1) * version_unit / reader_unit % inside_limit ≡ 0 = omega arith in
    let writer : (v + 1) * version_unit % reader_unit ≡ 0 = omega arith in
    λ i. record { version = version i; left = left i; inside = inside i; writer = writer i == 1 }
