-- The images of guests that are recorded.
use Rattle.std.specs.Prelude.{ℕ, length, Result, Ok, Err}
use Rattle.ir_image.specs.Guest.{Guest}
use Rattle.ir_image.specs.declared.image_err.ImageErr.{ImageErr}

-- how many threads an image has; bytes that are no image have none
abbrev pub image_thread_count : Result Guest ImageErr → ℕ
image_thread_count (Ok guest) = length guest.entries
image_thread_count (Err e) = 0
