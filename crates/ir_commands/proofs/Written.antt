-- Conditions that texts write, and files that have no image or no names.
use Rattle.std.proofs.Common.{◌≡◌, ◌⊎◌, ℕ, List, [], ◌∷◌, ◌++◌, map, Option, Some, None, refl, sym, ap, ◌∙◌, subst, inl, inr}
use Rattle.std.specs.Prelude.{IfSome, String}
use Rattle.std.specs.String.{string_bytes}
use Rattle.std.proofs.lemmas.List.{map-append}
use Rattle.ir_schedule.specs.Conditions.{as_condition}
use Rattle.ir_schedule.specs.Spelling.{condition_of}
use Rattle.ir_schedule.specs.declared.condition.Condition.{Condition}
use Rattle.ir_symbols.specs.Maps.{symbols_at, IsMapFault}
use Rattle.ir_symbols.specs.declared.map_err.MapErr.{MapErr}
use Rattle.ir_symbols.specs.declared.map_err.MapErr.TheVariants as fault
use Rattle.ir_commands.specs.Conditions.{AreWritten}
use Rattle.ir_files.specs.declared.exit_status.ExitStatus.{ExitStatus}
use Rattle.ir_files.specs.declared.exit_status.ExitStatus.TheVariants as status
use Rattle.ir_symbols.specs.Symbols.{Symbol}
use Rattle.ir_commands.specs.Files.{HasFaultyLine, IsFileIn, IsNoGuest, IsStatusOfNone, IsStatusOfNoNames, OfNamedImage, map_status}
use Rattle.ir_commands.specs.Printing.{Paths}

-- a further text and its condition
pub written_more : (texts : List (List ℕ)) (conditions : List Condition) (text : List ℕ) (condition : Condition) → AreWritten texts conditions
    → condition_of text ≡ Some (as_condition condition) → AreWritten (texts ++ text ∷ []) (conditions ++ condition ∷ [])
written_more texts conditions text condition h e =
    map-append (λ c. Some (as_condition c)) conditions (condition ∷ [])
    ∙ ap (λ z. z ++ Some (as_condition condition) ∷ []) h
    ∙ ap (λ z. map condition_of texts ++ z ∷ []) (sym e)
    ∙ sym (map-append condition_of texts (text ∷ []))

faulty_where_known : (known : Option (List ℕ)) (bytes : List ℕ) → IsFileIn known bytes → HasFaultyLine bytes → IfSome known HasFaultyLine
faulty_where_known None bytes is h = tt
faulty_where_known (Some file) bytes is h = subst HasFaultyLine is h

-- the status where a map isn't taken
pub map_fault_status : {Z : Type 0} (at : List ℕ → Option (List ℕ)) (path : String Z) (bytes : List ℕ) (why : MapErr)
    → IsFileIn (at (string_bytes path)) bytes → IsMapFault why (symbols_at bytes) → IsStatusOfNoNames at (Some path) (map_status why)
map_fault_status at path bytes (fault.Line number) is faulty = inr (refl, faulty_where_known (at (string_bytes path)) bytes is (number, faulty))
map_fault_status at path bytes fault.NoMem is faulty = inl refl

no_guest_where_known : (known : Option (List ℕ)) (file : List ℕ) → IsFileIn known file → IsNoGuest file → IfSome known IsNoGuest
no_guest_where_known None file is h = tt
no_guest_where_known (Some bytes) file is h = subst IsNoGuest is h

-- the status where a file that was read has no image
pub read_file_status : (known : Option (List ℕ)) (file : List ℕ) (answered : ExitStatus) → IsFileIn known file
    → (answered ≡ status.Failed) ⊎ ((answered ≡ status.Refused) × IsNoGuest file) → IsStatusOfNone known answered
read_file_status known file answered is (inl failed) = inl failed
read_file_status known file answered is (inr h) = inr (h.0, no_guest_where_known known file is h.1)

-- what holds of the bytes of an image and of names holds where they were read
pub holds_of_named_image : {Z : Type 0} {at : Paths} {path : String Z} {file : Option (String Z)} {image : List ℕ} {names : List Symbol}
    (P : List ℕ → List Symbol → Type 0) → OfNamedImage at path file (λ bytes symbols. (bytes ≡ image) × (symbols ≡ names)) → P image names → OfNamedImage at path file P
holds_of_named_image {image = image} P read so = record {
  file = read.file;
  image = read.image;
  names = read.names;
  is_file = read.is_file;
  is_image = read.is_image;
  are_names = read.are_names;
  so = subst (λ (bytes : List ℕ). P bytes read.names) (sym read.so.0) (subst (λ (symbols : List Symbol). P image symbols) (sym read.so.1) so);
}
