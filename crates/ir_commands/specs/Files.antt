-- What commands read of files, by the bytes that a folder says are at their paths.
use Rattle.std.specs.Prelude.{◌≡◌, ◌⊎◌, ℕ, List, [], Option, IfSome, IsSomeAnd, MatchOption, Ok, Err, String, true, if◌then◌else◌}
use Rattle.std.specs.Io.KnownBytes.{Appends}
use Rattle.std.specs.String.{string_bytes}
use Rattle.ir_elf.specs.declared.refusal.Refusal.{Refusal}
use Rattle.ir_files.specs.declared.exit_status.ExitStatus.{ExitStatus}
use Rattle.ir_files.specs.declared.exit_status.ExitStatus.TheVariants as status
use Rattle.ir_image.specs.Guest.{Guest, guest_at}
use Rattle.ir_make.specs.Opening.{image_bytes, is_elf}
use Rattle.ir_thread.specs.State.{IsAllowed}
use Rattle.ir_thread.specs.declared.profile.Profile.{Profile}
use Rattle.ir_symbols.specs.Symbols.{Symbol}
use Rattle.ir_symbols.specs.Maps.{symbols_at, IsTableOf}
use Rattle.ir_symbols.specs.Tables.{IsSortOf}
use Rattle.ir_symbols.specs.declared.map_err.MapErr.{MapErr}
use Rattle.ir_symbols.specs.declared.map_err.MapErr.TheVariants as fault
use Rattle.ir_elf_symbols.specs.Symbols.{elf_symbols}
use Rattle.ir_files.specs.Writers.{Writer, Reports, fault_text}

-- these bytes are those of the file, where the folder says which it has
abbrev pub IsFileIn : Option (List ℕ) → List ℕ → Type 0
IsFileIn known bytes = IfSome known (λ file. bytes ≡ file)

-- these bytes are the image that the file is, or that the guest of the ELF file has
abbrev pub IsImageIn : Option (List ℕ) → List ℕ → Type 0
IsImageIn known image = IfSome known (λ file. image_bytes file ≡ Ok image)

-- the file is an ELF file that is no guest
abbrev pub IsNoGuest : List ℕ → Type 0
IsNoGuest file = (why : Refusal) × (image_bytes file ≡ Err why)

-- no guest that the profile allows is in these bytes
abbrev pub LacksGuest : List ℕ → Profile → Type 0
LacksGuest image profile = (guest : Guest) → guest_at image ≡ Ok guest → IsAllowed profile guest → ⊥

-- the guest of a file is refused: it is an ELF file that is no guest, or the image has none that the profile allows
abbrev pub RefusesGuest : Option (List ℕ) → Profile → Type 0
RefusesGuest known profile = IfSome known IsNoGuest ⊎ ((image : List ℕ) × IsImageIn known image × LacksGuest image profile)

-- the exit status where no image is had of a file: it isn't read, or it is an ELF file that is no guest
abbrev pub IsStatusOfNone : Option (List ℕ) → ExitStatus → Type 0
IsStatusOfNone known answered = (answered ≡ status.Failed) ⊎ ((answered ≡ status.Refused) × IfSome known IsNoGuest)

-- the same where an image may be named
abbrev pub IsUnread : {Z : Type 0} → (List ℕ → Option (List ℕ)) → Option (String Z) → ExitStatus → Type 0
IsUnread at image answered =
    (answered ≡ status.Failed) ⊎ ((answered ≡ status.Refused) × IsSomeAnd image (λ path. IfSome (at (string_bytes path)) IsNoGuest))

-- a line of the map is none
abbrev pub HasFaultyLine : List ℕ → Type 0
HasFaultyLine map = (number : ℕ) × (symbols_at map ≡ Err number)

-- the names of addresses that are shown: those of a map if one is named, else the symbols of the guest's own ELF file, and none of another
abbrev pub AreNames : {Z : Type 0} → (List ℕ → Option (List ℕ)) → Option (String Z) → List ℕ → List Symbol → Type 0
AreNames at map file names = MatchOption map (IsSortOf (if is_elf file then elf_symbols file else []) names)
    (λ path. (bytes : List ℕ) × IsFileIn (at (string_bytes path)) bytes × IsTableOf (symbols_at bytes) names)

-- the exit status where a map isn't taken
abbrev pub map_status : MapErr → ExitStatus
map_status (fault.Line number) = status.Refused
map_status fault.NoMem = status.Failed

-- the exit status where no names are had: memory ran out, a map isn't read, or a line of it is none
abbrev pub IsStatusOfNoNames : {Z : Type 0} → (List ℕ → Option (List ℕ)) → Option (String Z) → ExitStatus → Type 0
IsStatusOfNoNames at map answered =
    (answered ≡ status.Failed) ⊎ ((answered ≡ status.Refused) × IsSomeAnd map (λ path. IfSome (at (string_bytes path)) HasFaultyLine))

-- a line tells a fault, in words that are left open
abbrev pub TellsFault : Writer → Type 0
TellsFault faults = (words : List ℕ) × Reports faults (fault_text words)

-- that, or faults can't be written any more
abbrev pub IsTold : Writer → Type 0
IsTold faults = TellsFault faults ⊎ (faults.failed ≡ true)

-- a writer only took more: what it held before stands, and some bytes follow
abbrev pub GoesOn : Option (List ℕ) → Option (List ℕ) → Type 0
GoesOn before after = (more : List ℕ) × Appends before after more

-- a trace was read of its file, and this holds of its bytes
pub record OfTrace (known : Option (List ℕ)) (P : List ℕ → Type 0) : Type 0 where
  pub trace : List ℕ
  pub is_trace : IsFileIn known trace
  pub so : P trace

-- two traces were read of their files, and this holds of their bytes
pub record OfTraces (known_first known_second : Option (List ℕ)) (P : List ℕ → List ℕ → Type 0) : Type 0 where
  pub first : List ℕ
  pub second : List ℕ
  pub is_first : IsFileIn known_first first
  pub is_second : IsFileIn known_second second
  pub so : P first second

-- a file of an image and the names for its addresses were read, and this holds of the image's bytes and of the names
pub record OfNamedImage {Z : Type 0} (at : List ℕ → Option (List ℕ)) (path : String Z) (map : Option (String Z)) (P : List ℕ → List Symbol → Type 0)
    : Type 0 where
  pub file : List ℕ
  pub image : List ℕ
  pub names : List Symbol
  pub is_file : IsFileIn (at (string_bytes path)) file
  pub is_image : image_bytes file ≡ Ok image
  pub are_names : AreNames at map file names
  pub so : P image names

-- an image and a trace were read of their files, and this holds of their bytes
pub record OfImageAndTrace (known_image known_trace : Option (List ℕ)) (P : List ℕ → List ℕ → Type 0) : Type 0 where
  pub image : List ℕ
  pub trace : List ℕ
  pub is_image : IsImageIn known_image image
  pub is_trace : IsFileIn known_trace trace
  pub so : P image trace
