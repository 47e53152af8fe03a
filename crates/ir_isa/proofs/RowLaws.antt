-- A row and its functs determine each other.
use Rattle.std.proofs.Common.{◌≡◌, ℕ, true, eqb, [], ◌∷◌, Some, refl, sym, ap, ◌∙◌}
use Rattle.std.specs.Prelude.{◌&&◌}
use Rattle.std.proofs.lemmas.Bool.{and_parts, eqb-true}
use Rattle.std.proofs.lemmas.Option.{same_Some}
use Rattle.ir_isa.specs.Code.{shift_functs, reg_functs}
use Rattle.ir_isa.specs.Rows.{branch_op_of, load_op_of, store_op_of, imm_op_of, shift_op_of, reg_op_of, branch_funct, load_funct, store_funct, imm_funct}
use Rattle.ir_isa.specs.declared.inst.BranchOp.{BranchOp}
use Rattle.ir_isa.specs.declared.inst.BranchOp.TheVariants.{Beq, Bne, Blt, Bge, Bltu, Bgeu}
use Rattle.ir_isa.specs.declared.inst.LoadOp.{LoadOp}
use Rattle.ir_isa.specs.declared.inst.LoadOp.TheVariants.{Lb, Lh, Lw, Lbu, Lhu}
use Rattle.ir_isa.specs.declared.inst.StoreOp.{StoreOp}
use Rattle.ir_isa.specs.declared.inst.StoreOp.TheVariants.{Sb, Sh, Sw}
use Rattle.ir_isa.specs.declared.inst.ImmediateOp.{ImmediateOp}
use Rattle.ir_isa.specs.declared.inst.ImmediateOp.TheVariants.{Addi, Slti, Sltiu, Xori, Ori, Andi}
use Rattle.ir_isa.specs.declared.inst.ShiftOp.{ShiftOp}
use Rattle.ir_isa.specs.declared.inst.ShiftOp.TheVariants.{Slli, Srli, Srai}
use Rattle.ir_isa.specs.declared.inst.RegisterOp.{RegisterOp}
use Rattle.ir_isa.specs.declared.inst.RegisterOp.TheVariants.{Add, Sub, Sll, Slt, Sltu, Xor, Srl, Sra, Or, And, Mul, Mulh, Mulhsu, Mulhu, Div, Divu, Rem, Remu}
use Rattle.ir_lemmas.proofs.CallerLemmas.{found_passes_test}

pub branch_op_of_own_funct : (op : BranchOp) → branch_op_of (branch_funct op) ≡ Some op
branch_op_of_own_funct Beq = refl
branch_op_of_own_funct Bne = refl
branch_op_of_own_funct Blt = refl
branch_op_of_own_funct Bge = refl
branch_op_of_own_funct Bltu = refl
branch_op_of_own_funct Bgeu = refl

pub branch_funct_found : (three : ℕ) (op : BranchOp) → branch_op_of three ≡ Some op → branch_funct op ≡ three
branch_funct_found three op e = eqb-true _ _ (found_passes_test (λ op. eqb (branch_funct op) three) (Beq ∷ Bne ∷ Blt ∷ Bge ∷ Bltu ∷ Bgeu ∷ []) op e)

pub branch_funct_injective : (a b : BranchOp) → branch_funct a ≡ branch_funct b → a ≡ b
branch_funct_injective a b e = same_Some a b (sym (branch_op_of_own_funct a) ∙ ap branch_op_of e ∙ branch_op_of_own_funct b)

pub load_op_of_own_funct : (op : LoadOp) → load_op_of (load_funct op) ≡ Some op
load_op_of_own_funct Lb = refl
load_op_of_own_funct Lh = refl
load_op_of_own_funct Lw = refl
load_op_of_own_funct Lbu = refl
load_op_of_own_funct Lhu = refl

pub load_funct_of_found_op : (three : ℕ) (op : LoadOp) → load_op_of three ≡ Some op → load_funct op ≡ three
load_funct_of_found_op three op e = eqb-true _ _ (found_passes_test (λ op. eqb (load_funct op) three) (Lb ∷ Lh ∷ Lw ∷ Lbu ∷ Lhu ∷ []) op e)

pub load_funct_is_injective : (a b : LoadOp) → load_funct a ≡ load_funct b → a ≡ b
load_funct_is_injective a b e = same_Some a b (sym (load_op_of_own_funct a) ∙ ap load_op_of e ∙ load_op_of_own_funct b)

pub store_op_of_own_funct : (op : StoreOp) → store_op_of (store_funct op) ≡ Some op
store_op_of_own_funct Sb = refl
store_op_of_own_funct Sh = refl
store_op_of_own_funct Sw = refl

pub store_funct_of_found_op : (three : ℕ) (op : StoreOp) → store_op_of three ≡ Some op → store_funct op ≡ three
store_funct_of_found_op three op e = eqb-true _ _ (found_passes_test (λ op. eqb (store_funct op) three) (Sb ∷ Sh ∷ Sw ∷ []) op e)

pub store_funct_injective : (a b : StoreOp) → store_funct a ≡ store_funct b → a ≡ b
store_funct_injective a b e = same_Some a b (sym (store_op_of_own_funct a) ∙ ap store_op_of e ∙ store_op_of_own_funct b)

pub imm_op_of_own_funct : (op : ImmediateOp) → imm_op_of (imm_funct op) ≡ Some op
imm_op_of_own_funct Addi = refl
imm_op_of_own_funct Slti = refl
imm_op_of_own_funct Sltiu = refl
imm_op_of_own_funct Xori = refl
imm_op_of_own_funct Ori = refl
imm_op_of_own_funct Andi = refl

pub imm_funct_of_found_op : (three : ℕ) (op : ImmediateOp) → imm_op_of three ≡ Some op → imm_funct op ≡ three
imm_funct_of_found_op three op e = eqb-true _ _ (found_passes_test (λ op. eqb (imm_funct op) three) (Addi ∷ Slti ∷ Sltiu ∷ Xori ∷ Ori ∷ Andi ∷ []) op e)

pub imm_funct_is_injective : (a b : ImmediateOp) → imm_funct a ≡ imm_funct b → a ≡ b
imm_funct_is_injective a b e = same_Some a b (sym (imm_op_of_own_funct a) ∙ ap imm_op_of e ∙ imm_op_of_own_funct b)

pub shift_op_of_own_functs : (op : ShiftOp) → shift_op_of (shift_functs op).seven (shift_functs op).three ≡ Some op
shift_op_of_own_functs Slli = refl
shift_op_of_own_functs Srli = refl
shift_op_of_own_functs Srai = refl

pub shift_functs_found : (seven three : ℕ) (op : ShiftOp) → shift_op_of seven three ≡ Some op → ((shift_functs op).seven ≡ seven)
    × ((shift_functs op).three ≡ three)
shift_functs_found seven three op e =
    let both = and_parts _ _ (found_passes_test (λ op. (eqb (shift_functs op).seven seven) && (eqb (shift_functs op).three three))
    (Slli ∷ Srli ∷ Srai ∷ []) op e) in
    (eqb-true _ _ both.0, eqb-true _ _ both.1)

pub shift_functs_injective : (a b : ShiftOp) → (shift_functs a).seven ≡ (shift_functs b).seven → (shift_functs a).three ≡ (shift_functs b).three → a ≡ b
shift_functs_injective a b e f = same_Some a b (sym (shift_op_of_own_functs a) ∙ ap (λ (n : ℕ). shift_op_of n (shift_functs a).three) e
    ∙ ap (λ (n : ℕ). shift_op_of (shift_functs b).seven n) f ∙ shift_op_of_own_functs b)

pub reg_op_of_own_functs : (op : RegisterOp) → reg_op_of (reg_functs op).seven (reg_functs op).three ≡ Some op
reg_op_of_own_functs Add = refl
reg_op_of_own_functs Sub = refl
reg_op_of_own_functs Sll = refl
reg_op_of_own_functs Slt = refl
reg_op_of_own_functs Sltu = refl
reg_op_of_own_functs Xor = refl
reg_op_of_own_functs Srl = refl
reg_op_of_own_functs Sra = refl
reg_op_of_own_functs Or = refl
reg_op_of_own_functs And = refl
reg_op_of_own_functs Mul = refl
reg_op_of_own_functs Mulh = refl
reg_op_of_own_functs Mulhsu = refl
reg_op_of_own_functs Mulhu = refl
reg_op_of_own_functs Div = refl
reg_op_of_own_functs Divu = refl
reg_op_of_own_functs Rem = refl
reg_op_of_own_functs Remu = refl

pub reg_functs_of_found_op : (seven three : ℕ) (op : RegisterOp) → reg_op_of seven three ≡ Some op → ((reg_functs op).seven ≡ seven)
    × ((reg_functs op).three ≡ three)
reg_functs_of_found_op seven three op e =
    let both = and_parts _ _ (found_passes_test (λ op. (eqb (reg_functs op).seven seven) && (eqb (reg_functs op).three three))
    (Add ∷ Sub ∷ Sll ∷ Slt ∷ Sltu ∷ Xor ∷ Srl ∷ Sra ∷ Or ∷ And ∷ Mul ∷ Mulh ∷ Mulhsu ∷ Mulhu ∷ Div ∷ Divu ∷ Rem ∷ Remu ∷ []) op e) in
    (eqb-true _ _ both.0, eqb-true _ _ both.1)

pub reg_functs_injective : (a b : RegisterOp) → (reg_functs a).seven ≡ (reg_functs b).seven → (reg_functs a).three ≡ (reg_functs b).three → a ≡ b
reg_functs_injective a b e f = same_Some a b (sym (reg_op_of_own_functs a) ∙ ap (λ (n : ℕ). reg_op_of n (reg_functs a).three) e
    ∙ ap (λ (n : ℕ). reg_op_of (reg_functs b).seven n) f ∙ reg_op_of_own_functs b)
