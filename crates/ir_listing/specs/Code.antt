-- What `ir list` writes.
use Rattle.std.specs.Prelude.{◌≡◌, ℕ, List, [], Ok, Err, false}
use Rattle.std.specs.Io.KnownBytes.{Appends}
use Rattle.ir_image.specs.Guest.{Guest, guest_at}
use Rattle.ir_image.specs.declared.image_err.ImageErr.{ImageErr}
use Rattle.ir_symbols.specs.Symbols.{Symbol}
use Rattle.ir_list.specs.Listing.{listing_text}
use Rattle.ir_files.specs.Writers.{Writer, Reports, fault_text}
use Rattle.ir_files.specs.declared.exit_status.ExitStatus.{ExitStatus}
use Rattle.ir_files.specs.declared.exit_status.ExitStatus.TheVariants as status
use Rattle.ir_record_command.specs.Faults.{record_fault_words, of_image}

-- the listing of the guest whose image the bytes are, with these names
pub record IsCodeListing (image : List ℕ) (symbols : List Symbol) (answered : ExitStatus) (text : List ℕ) : Type 0 where
  pub guest : Guest
  pub is_guest : guest_at image ≡ Ok guest
  pub status : answered ≡ status.Done
  pub lines : text ≡ listing_text guest symbols

-- the bytes are no image; nothing is written, and their first fault is reported in its words
pub record RefusesImage (image : List ℕ) (out faults : Writer) : Type 0 where
  pub why : ImageErr
  pub because : guest_at image ≡ Err why
  pub none : Appends out.before out.after []
  pub works : out.failed ≡ false
  pub told : Reports faults (fault_text (record_fault_words (of_image why)))
