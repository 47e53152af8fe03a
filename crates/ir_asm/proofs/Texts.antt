-- The operands that are left of a text.
use Rattle.std.proofs.Common.{◌≡◌, ◌+◌, ℕ, Bool, List, [], ◌∷◌, length, refl, ◌++◌, append_assoc, drop, ap, Result, Ok, Err, sym, ◌∙◌}
use Rattle.std.specs.Prelude.{map, if◌then◌else◌}
use Rattle.ir_asm.specs.declared.cause.Cause.{Cause}
use Rattle.ir_asm.specs.declared.form.Form.{Form}
use Rattle.ir_asm.specs.declared.item.Operand.{Operand}
use Rattle.ir_asm.specs.Faults.{◌>>=◌, YieldsOrFaults}
use Rattle.ir_asm.specs.declared.refusal.Refusal.{Refusal}
use Rattle.ir_asm.specs.declared.refusal.Refusal.TheVariants.{Faulty, NoMem}
use Rattle.ir_asm.specs.Forms.{kind_at}
use Rattle.ir_asm.specs.Operands.{read, read_all}
use Rattle.ir_asm.specs.Text.{split, trim}

-- the operands in a text, or none
abbrev pub texts_left : Bool → List ℕ → List (List ℕ)
texts_left more rest = if more then map trim (split 44 rest) else []

-- how much is left to be cut
abbrev pub size_left : Bool → List ℕ → ℕ
size_left more rest = if more then length rest + 1 else 0

-- operands before others
abbrev pub onto : List Operand → Result (List Operand) Cause → Result (List Operand) Cause
onto done (Ok xs) = Ok (done ++ xs)
onto done (Err e) = Err e

-- one more operand
pub onto_read_all_step : (form : Form) (place : ℕ) (done : List Operand) (x : Operand) (text : List ℕ) (texts : List (List ℕ))
    → read (kind_at form place) text ≡ Ok x → onto done (read_all form place (text ∷ texts)) ≡ onto (done ++ x ∷ [])
    (read_all form (place + 1) texts)
onto_read_all_step form place done x text texts e = rw e (by_rest (read_all form (place + 1) texts))
  where
    by_rest : (r : Result (List Operand) Cause) → onto done (r >>= λ xs. Ok (x ∷ xs)) ≡ onto (done ++ x ∷ []) r
    by_rest (Ok xs) = ap (λ (l : List Operand). Ok l) (sym (append_assoc done (x ∷ []) xs))
    by_rest (Err e) = refl

-- a fault of an operand
pub onto_faulty_operand : (form : Form) (place : ℕ) (done : List Operand) (cause : Cause) (text : List ℕ) (texts : List (List ℕ))
    → read (kind_at form place) text ≡ Err cause → onto done (read_all form place (text ∷ texts)) ≡ Err cause
onto_faulty_operand form place done cause text texts e = rw e refl

pub onto_nil : (r : Result (List Operand) Cause) → onto [] r ≡ r
onto_nil (Ok xs) = refl
onto_nil (Err e) = refl

-- an operand that is refused
pub refused_operand_refuses : {X : Type 0} (view : X → List Operand) (e : Refusal) (form : Form) (place : ℕ) (done : List Operand) (rest part : List ℕ)
    (whole : Result (List Operand) Cause) →
    split 44 rest ≡ part ∷ drop 1 (split 44 rest)
    → YieldsOrFaults {X = Operand} {Y = Operand} (λ x. x) (Err e) (read (kind_at form place) (trim part)) →
    onto done (read_all form place (map trim (split 44 rest))) ≡ whole → YieldsOrFaults view (Err e) whole
refused_operand_refuses view (Faulty cause) form place done rest part whole s g whole_is =
    sym whole_is ∙ ap (λ (l : List (List ℕ)). onto done (read_all form place (map trim l))) s
    ∙ onto_faulty_operand form place done cause (trim part) (map trim (drop 1 (split 44 rest))) g
refused_operand_refuses view NoMem form place done rest part whole s g whole_is = tt
