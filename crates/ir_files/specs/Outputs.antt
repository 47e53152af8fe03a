-- What takes the outputs of a recording, a thread's at a time.
use Rattle.std.specs.Prelude.{◌≡◌, ◌<◌, ◌&&◌, ℕ, Bool, true, false, List, [], ◌∷◌, ◌++◌, length, map, take, codes, decimal, bytes_eq, slice_get, ⊤, Option, None, Some, if◌then◌else◌}
use Rattle.std.specs.List.{enumerate_from, list_all}
use Rattle.std.specs.Option.{is_some, option_map_or}
use Rattle.ir_files.specs.Given.{KnownFile, IsAt, known_bytes}

-- the number of a thread, and what it printed
abbrev pub Printed : Type 0
Printed = ℕ × List ℕ

-- what each thread printed, with its number, from thread 0 on
abbrev pub by_thread : List (List ℕ) → List Printed
by_thread printed = enumerate_from 0 printed

-- the path of the file of thread t's output
abbrev pub output_path : List ℕ → ℕ → List ℕ
output_path prefix t = prefix ++ (codes "." ++ decimal t)

-- known outputs grow by these
abbrev pub Gains : Option (List Printed) → Option (List Printed) → List Printed → Type 0
Gains None new more = ⊤
Gains (Some xs) None more = ⊥
Gains (Some xs) (Some ys) more = ys ≡ xs ++ more

-- an output: the number of its thread, and its file, with all that it was given
abbrev pub printed_in : ℕ × KnownFile → Printed
printed_in output = (output.0, known_bytes output.1.bytes)

-- all that an output's file was given is known, and it is at the path of the output's thread, as far as it is known where files are made
abbrev pub is_put_at : List (List ℕ) → ℕ × KnownFile → Bool
is_put_at paths output = is_some output.1.bytes
    && option_map_or (λ path. option_map_or (λ p. bytes_eq p path) output.1.path true) (slice_get paths output.0) false

-- the outputs that were put in files, each at the path of its thread, if it is known what these were given; without paths none is known
abbrev pub outputs_given : {File : Type 0} → Bool → (File → ℕ × KnownFile) → Option (List (List ℕ)) → List File → Option (List Printed)
outputs_given knows known None files = None
outputs_given false known (Some paths) files = None
outputs_given true known (Some paths) files =
    if list_all (λ file. is_put_at paths (known file)) files then Some (map (λ file. printed_in (known file)) files) else None

-- what each thread printed stands in the file at the path of the thread, by what says that a file at a path has these bytes
abbrev pub StandEach : (List ℕ → List ℕ → Type 0) → List (List ℕ) → List (List ℕ) → Type 0
StandEach stored paths printed = (t : ℕ) (bytes : List ℕ) → slice_get printed t ≡ Some bytes
    → (path : List ℕ) × (slice_get paths t ≡ Some path) × stored path bytes

-- one file more than before, of this thread and at this path
abbrev pub HasLast : {File : Type 0} → (File → ℕ × KnownFile) → List File → List File → ℕ → List ℕ → Type 0
HasLast {File} known old new thread path = (file : File) × (new ≡ old ++ file ∷ []) × ((known file).0 ≡ thread) × IsAt (known file).1 path

-- the outputs that were taken whole before and after, and whether one of them was not
pub record OutputWriter : Type 0 where
  pub before : Option (List Printed)
  pub after : Option (List Printed)
  pub failed : Bool

abbrev pub output_writer_of : Option (List Printed) → Option (List Printed) → Bool → OutputWriter
output_writer_of before after failed = record { before = before; after = after; failed = failed }

-- it took what each thread printed, as that thread's
abbrev pub TookEach : OutputWriter → List (List ℕ) → Type 0
TookEach w printed = Gains w.before w.after (by_thread printed)

-- it failed at what a thread printed, and took the outputs of the threads below
pub record FailedAtOne (w : OutputWriter) (printed : List (List ℕ)) : Type 0 where
  pub thread : ℕ
  pub is_one : thread < length printed
  pub taken : Gains w.before w.after (take thread (by_thread printed))
  pub broke : w.failed ≡ true
