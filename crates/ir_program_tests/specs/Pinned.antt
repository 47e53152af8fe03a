-- A file that nothing is written over.
use Rattle.std.specs.Prelude.{ℕ, List, Option, Some, None, option_and_then, bytes_eq, if◌then◌else◌}

-- the bytes at a path, where a file may be pinned
abbrev pub pinned_bytes : {File : Type 0} → (File → List ℕ) → (File → List ℕ) → Option File → List ℕ → Option (List ℕ)
pinned_bytes place bytes pinned path = option_and_then (λ file. if bytes_eq (place file) path then Some (bytes file) else None) pinned
