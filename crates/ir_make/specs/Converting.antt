-- What converting an ELF file gives: the bytes of the image of its guest, or the line that reports why it is refused, and the one that explains it.
use Rattle.std.specs.Prelude.{◌≡◌, ◌⊎◌, ℕ, List, [], ◌∷◌, ◌++◌, codes, decimal, Option, Some, None, Result, Ok, Err}
use Rattle.ir_image.specs.Guest.{Guest}
use Rattle.ir_image.specs.Encoding.{encoding}
use Rattle.ir_elf.specs.Refusal.{elf_refusal_number, refusal_words}
use Rattle.ir_elf.specs.Reading.{elf_guest_at}
use Rattle.ir_elf.specs.declared.refusal.Refusal.{Refusal}
use Rattle.ir_files.specs.Writers.{Writer, Failed}

-- the bytes of a guest, or why there is none
abbrev pub encoded : Result Guest Refusal → Result (List ℕ) Refusal
encoded (Ok guest) = Ok (encoding guest)
encoded (Err refusal) = Err refusal

-- the bytes of the image of the guest of an ELF file, or why there is none
abbrev pub elf_image_bytes : List ℕ → Result (List ℕ) Refusal
elf_image_bytes file = encoded (elf_guest_at file)

-- the line that reports a refusal
abbrev pub refusal_line : Refusal → List ℕ
refusal_line refusal = codes "elf refused " ++ (decimal (elf_refusal_number refusal) ++ 10 ∷ [])

-- the line that explains a refusal of the file of this name
abbrev pub refusal_explained : List ℕ → Refusal → List ℕ
refusal_explained name refusal = name ++ (codes ": " ++ (refusal_words refusal ++ 10 ∷ []))

-- what reports a refusal: its line, and if the file's name is given the line that explains it
abbrev pub refusal_report : Option (List ℕ) → Refusal → List ℕ
refusal_report None refusal = refusal_line refusal
refusal_report (Some name) refusal = refusal_line refusal ++ refusal_explained name refusal

-- what is left if neither the whole image nor the whole report was written. Memory ran out, and nothing was; or the writer that is
-- concerned failed, of the image or of faults, and the other is as it was
abbrev pub StopsElf : Option (List ℕ) → List ℕ → Writer → Type 0 → Writer → Type 0 → Type 0
StopsElf name file image image_same faults faults_same =
    (image_same × faults_same)
    ⊎ ((bytes : List ℕ) × (elf_image_bytes file ≡ Ok bytes) × Failed image bytes × faults_same)
    ⊎ ((refusal : Refusal) × (elf_image_bytes file ≡ Err refusal) × Failed faults (refusal_report name refusal) × image_same)
