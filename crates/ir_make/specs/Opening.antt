-- What a file that is named as an image gives: the image that its bytes are, or the image of the guest of an ELF file.
use Rattle.std.specs.Prelude.{◌≡◌, ℕ, Bool, eqb, List, [], ◌∷◌, Result, Ok, if◌then◌else◌}
use Rattle.std.specs.List.{starts_with}
use Rattle.ir_image.specs.Guest.{Guest, guest_at}
use Rattle.ir_elf.specs.Reading.{elf_guest_at}
use Rattle.ir_elf.specs.declared.refusal.Refusal.{Refusal}
use Rattle.ir_make.specs.Converting.{elf_image_bytes}

-- what an ELF file begins with: 7F, and the letters ELF
abbrev pub elf_magic : List ℕ
elf_magic = 0x7f ∷ 0x45 ∷ 0x4c ∷ 0x46 ∷ []

abbrev pub is_elf : List ℕ → Bool
is_elf file = starts_with eqb file elf_magic

-- the bytes of the image in a file: those of an ELF file's guest, else its own; or why an ELF file has none
abbrev pub image_bytes : List ℕ → Result (List ℕ) Refusal
image_bytes file = if is_elf file then elf_image_bytes file else Ok file

-- no image begins as an ELF file does, so an image is taken as it is
abbrev pub ImagesStay : Type 0
ImagesStay = (file : List ℕ) (guest : Guest) → guest_at file ≡ Ok guest → image_bytes file ≡ Ok file

-- the bytes are read as the guest that the ELF file is
pub record AreOfGuest (file bytes : List ℕ) : Type 0 where
  pub guest : Guest
  pub is : elf_guest_at file ≡ Ok guest
  pub read : guest_at bytes ≡ Ok guest
