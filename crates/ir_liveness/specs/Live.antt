-- Live registers: those whose value code may still read.
use Rattle.std.specs.Prelude.{◌≡◌, ℕ, ◌%◌, true, false, List, [], ◌∷◌, ◌⊎◌}
use Rattle.ir_isa.specs.declared.inst.Inst.{Inst}
use Rattle.ir_image.specs.Guest.{fetched}
use Rattle.ir_image.specs.declared.fetched.Fetched.TheVariants.{Found}
use Rattle.ir_liveness.specs.Flow.{reads_register, writes_register, constant_of, AsksAfter, MayGoTo}

-- a point of the code: a pc, and the number of the call that a7 asks for there
pub record Point : Type 0 where
  pub pc : ℕ
  pub number : ℕ

-- The instruction at a point reads a register. Where a pc isn't that of a word, all are taken as read.
abbrev pub ReadsAt : List ℕ → Point → ℕ → Type 0
ReadsAt code p register = (p.pc % 4 ≡ 0 → ⊥) ⊎ ((inst : Inst) × (fetched code p.pc ≡ Found inst) × (reads_register inst p.number register ≡ true))

-- the code may go on from one point to the next, and the instruction there doesn't write the register
pub record Passes (code : List ℕ) (register : ℕ) (p next : Point) : Type 0 where
  pub inst : Inst
  pub at : fetched code p.pc ≡ Found inst
  pub goes : MayGoTo inst p.number p.pc next.pc
  pub asks : AsksAfter (writes_register inst p.number 17) (constant_of inst) p.number next.number
  pub keeps : writes_register inst p.number register ≡ false

-- over these points, in turn, the code may go on from a point to one where the register is read, and none before writes it
abbrev pub IsLiveAlong : List ℕ → ℕ → Point → List Point → Type 0
IsLiveAlong code register p [] = ReadsAt code p register
IsLiveAlong code register p (next ∷ path) = Passes code register p next × IsLiveAlong code register next path

-- a register is live at a point: some way of the code leads from there to where it is read, and no instruction before writes it
abbrev pub IsLiveRegister : List ℕ → Point → ℕ → Type 0
IsLiveRegister code p register = (path : List Point) × IsLiveAlong code register p path
