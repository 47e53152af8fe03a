-- What callers may cite of texts and outputs that are written in parts.
-- a prefix of a text after all of another, and what holds at an error
pub use Rattle.ir_files.proofs.InParts.{on_err_if_holds, if_err_handed_on}
-- outputs that are put one after another, and lists that grow by one
pub use Rattle.ir_files.proofs.Putting.{unchanged_gains_none, gains_first_step, gains_all_at_end, failed_at_next_output, maps_equal_after_push}
-- a file that was put in its place
pub use Rattle.ir_files.proofs.Given.{put_file_is_stored}
-- what threads printed that stands in files
pub use Rattle.ir_files.proofs.Standing.{taken_outputs_stand}
