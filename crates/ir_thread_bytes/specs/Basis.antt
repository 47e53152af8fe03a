-- What the threads of a guest are frozen against.
use Rattle.std.specs.Prelude.{◌≡◌, ℕ, Bool, List, length}
use Rattle.ir_liveness.specs.Table.{IsLiveTable}
use Rattle.ir_mach.specs.Core.{memory_size}

-- a code, a table of its live registers, and what private memory is at first
pub record Basis : Type 0 where
  pub code : List ℕ
  pub live : List Bool
  pub memory : List ℕ

-- exactly the live registers are marked, and the memory is whole
pub record IsBasis (basis : Basis) : Type 0 where
  pub live : IsLiveTable basis.code basis.live
  pub size : length basis.memory ≡ memory_size
