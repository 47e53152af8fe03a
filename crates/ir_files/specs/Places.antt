-- When writing at one path loses the file that is read at another.
use Rattle.std.specs.Prelude.{ℕ, ◌==◌, ◌&&◌, Bool, false, List, bytes_eq}
use Rattle.ir_files.specs.declared.places.Found.{Found}
use Rattle.ir_files.specs.declared.places.Found.TheVariants.{Nothing, File, Other}

-- both are one file of one device, or one path at which nothing is
abbrev pub loses : List ℕ → Found → List ℕ → Found → Bool
loses written Nothing read found = bytes_eq written read
loses written (File device number) read (File read_device read_number) = (device == read_device) && (number == read_number)
loses written (File device number) read Nothing = false
loses written (File device number) read Other = false
loses written Other read found = false
