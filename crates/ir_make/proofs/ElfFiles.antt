-- What begins as an ELF file does is no image.
use Rattle.std.proofs.Common.{◌≡◌, ℕ, true, List, ◌++◌, drop, Ok, Err, refl, sym, ap, ◌∙◌, arith}
use Rattle.std.proofs.lemmas.Bool.{cond-false, false_from_ne_true}
use Rattle.std.proofs.lemmas.Bool.Decides.{Decides-eqb}
use Rattle.std.proofs.lemmas.Slice.Eq.{starts_is}
use Rattle.ir_image.specs.Guest.{Guest, form_at, counts_at, guest_at}
use Rattle.ir_image.specs.declared.image_err.ImageErr.{ImageErr}
use Rattle.ir_image.specs.declared.image_err.ImageErr.TheVariants.{Short, Magic}
use Rattle.ir_bytes.specs.Reading.{field_at}
use Rattle.ir_bytes.proofs.CallerLemmas.{number_at-little_bytes}
use Rattle.ir_make.specs.Converting.{elf_image_bytes}
use Rattle.ir_make.specs.Opening.{elf_magic, is_elf, image_bytes}

elf_magic_is_refused : (rest : List ℕ) → guest_at (elf_magic ++ rest) ≡ Err Magic
unfolding guest_at counts_at form_at field_at
elf_magic_is_refused rest = rw (number_at-little_bytes Short 4 0x464c457f rest (omega arith)) refl

refused_is_no_guest : (why : ImageErr) (guest : Guest) → Err why ≡ Ok guest → ⊥
refused_is_no_guest why guest e = cc

elf_is_no_image : (file : List ℕ) (guest : Guest) → guest_at file ≡ Ok guest → is_elf file ≡ true → ⊥
elf_is_no_image file guest is elf =
    let begins = (starts_is Decides-eqb file elf_magic (is_elf file) refl).0 elf in
    refused_is_no_guest Magic guest (sym (elf_magic_is_refused (drop 4 file)) ∙ ap guest_at (sym begins) ∙ is)

pub images_are_taken : (file : List ℕ) (guest : Guest) → guest_at file ≡ Ok guest → image_bytes file ≡ Ok file
images_are_taken file guest is =
    cond-false (is_elf file) (elf_image_bytes file) (Ok file) (false_from_ne_true (is_elf file) (elf_is_no_image file guest is))
