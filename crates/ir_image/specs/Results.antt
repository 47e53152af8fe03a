-- What reading an image comes to.
use Rattle.std.specs.Prelude.{◌≡◌, Result, Ok, Err}
use Rattle.ir_image.specs.declared.image_err.ImageErr.{ImageErr}
use Rattle.ir_image.specs.declared.image_err.ImageErr.TheVariants.{Short, Magic, Count, Entry, Trailing, NoMem}

-- reading meets this fault, or memory ran out
abbrev pub FailsAsImage : {Y : Type 0} → ImageErr → Result Y ImageErr → Type 0
FailsAsImage NoMem read = Unit {0}
FailsAsImage Short read = read ≡ Err Short
FailsAsImage Magic read = read ≡ Err Magic
FailsAsImage Count read = read ≡ Err Count
FailsAsImage Entry read = read ≡ Err Entry
FailsAsImage Trailing read = read ≡ Err Trailing

-- an answer, seen by a view, is what reading gives, unless memory ran out
abbrev pub YieldsImage : {X Y : Type 0} → (X → Y) → Result X ImageErr → Result Y ImageErr → Type 0
YieldsImage view (Ok x) read = read ≡ Ok (view x)
YieldsImage view (Err e) read = FailsAsImage e read

-- ---- the fields that are tested
