-- The fault of the second pass is that of the first placed statement that has one.
use Rattle.std.proofs.Common.{◌≡◌, ◌+◌, ◌<◌, ℕ, Bool, true, false, List, [], ◌∷◌, ◌++◌, Some, None, Result, Ok, Err, refl, sym, ap, ◌∙◌, arith}
use Rattle.std.specs.Prelude.{◌==◌, ◌↔◌, nat_lt, if◌then◌else◌, pos, negsuc}
use Rattle.std.specs.List.{AllByRecursion}
use Rattle.std.proofs.lemmas.Bool.{eqb-true}
use Rattle.std.proofs.lemmas.Option.{same_Some}
use Rattle.ir_image.specs.Guest.{Guest, code_start}
use Rattle.ir_asm.specs.declared.cause.Cause.{Cause}
use Rattle.ir_asm.specs.declared.cause.Cause.TheVariants.{WrongSection, BadCount}
use Rattle.ir_asm.specs.declared.item.Item.{Item}
use Rattle.ir_asm.specs.declared.item.Item.TheVariants.{Code, BranchTo, JumpTo, LoadAddress, Filled, Enlarged, Within, Entry, Count, First, Nothing}
use Rattle.ir_asm.specs.declared.item.Placed.{Placed}
use Rattle.ir_asm.specs.Faults.{◌>>=◌, fault_unless}
use Rattle.ir_asm.specs.Source.{Seen, Fault, nothing_seen, at_line, first_pass}
use Rattle.ir_asm.specs.Passes.{put_word_in, second_pass, started, with_entry_line, with_object_line, assembled_guest, assembled_lines, operand_value, text_address, distance_to}
use Rattle.ir_asm.specs.Placing.{fault_in, item_fault, IsPutAt, IsFirstFault}

-- ---- an item, whatever guest it is put into

fault_in_mapped : {A B : Type 0} (r : Result A Cause) (f : A → B) → fault_in (r >>= λ x. Ok (f x)) ≡ fault_in r
fault_in_mapped (Ok x) f = refl
fault_in_mapped (Err c) f = refl

fault_in_any_value : {A B : Type 0} (b : Bool) (c : Cause) (x : A) (y : B) → fault_in (fault_unless b c (Ok x)) ≡ fault_in (fault_unless b c (Ok y))
fault_in_any_value true c x y = refl
fault_in_any_value false c x y = refl

fault_in_test_mapped : {A B : Type 0} (r : Result A Cause) (p : A → Bool) (c : Cause) (f : A → B)
    → fault_in (r >>= λ x. fault_unless (p x) c (Ok (f x))) ≡ fault_in (r >>= λ x. fault_unless (p x) c (Ok x))
fault_in_test_mapped (Ok x) p c f = fault_in_any_value (p x) c (f x) x
fault_in_test_mapped (Err d) p c f = refl

fault_in_count_test : {A : Type 0} (b : Bool) (x : A) → fault_in (fault_unless b BadCount (Ok x)) ≡ (if b then None else Some BadCount)
fault_in_count_test true x = refl
fault_in_count_test false x = refl

fault_in_put : (s : Seen) (a : ℕ) (item : Item) (g : Guest) → fault_in (put_word_in s a item g) ≡ item_fault s a item
fault_in_put s a (Code words) g = refl
fault_in_put s a (BranchTo op rs1 rs2 label) g = fault_in_mapped (distance_to s (negsuc 4095) (pos 4094) a label) _
fault_in_put s a (JumpTo rd label) g = fault_in_mapped (distance_to s (negsuc 1048575) (pos 1048574) a label) _
fault_in_put s a (LoadAddress rd label) g = fault_in_mapped (operand_value s label) _
fault_in_put s a (Filled bytes) g = refl
fault_in_put s a Enlarged g = refl
fault_in_put s a (Within section) g = refl
fault_in_put s a (Entry label) g = fault_in_test_mapped (text_address s label) (λ n. nat_lt n (code_start + s.code)) WrongSection _
fault_in_put s a (Count n) g = refl
fault_in_put s a (First object words) g = fault_in_count_test (nat_lt object s.objects) (with_object_line g object words)
fault_in_put s a Nothing g = refl

-- ---- one after the other

no_fault_is_ok : {A : Type 0} (r : Result A Cause) → fault_in r ≡ None → (x : A) × (r ≡ Ok x)
no_fault_is_ok (Ok x) e = (x, refl)
no_fault_is_ok (Err c) e = absurd (cc e)

fault_in_is_err : {A : Type 0} (r : Result A Cause) (c : Cause) → fault_in r ≡ Some c → r ≡ Err c
fault_in_is_err (Ok x) c e = absurd (cc e)
fault_in_is_err (Err d) c e = ap (λ k. Err k) (same_Some d c e)

second_pass_first_fault : (s : Seen) (before after : List Placed) (x : Placed) (cause : Cause) (g : Guest) → AllByRecursion (IsPutAt s) before
    → item_fault s x.address x.item ≡ Some cause →
    second_pass s (before ++ x ∷ after) g ≡ Err (record { line = x.line; cause = cause })
second_pass_first_fault s [] after x cause g n f = rw (fault_in_is_err (put_word_in s x.address x.item g) cause (fault_in_put s x.address x.item g ∙ f)) refl
second_pass_first_fault s (y ∷ ys) after x cause g n f =
    let o = no_fault_is_ok (put_word_in s y.address y.item g) (fault_in_put s y.address y.item g ∙ n.0) in
    rw o.1 (second_pass_first_fault s ys after x cause o.0 n.1 f)

err_is_injective : {A : Type 0} (e f : Fault) → (let r : Result A Fault = Err e in r) ≡ Err f → e ≡ f
err_is_injective {A} e f h = ap fault h
  where
    fault : Result A Fault → Fault
    fault (Ok x) = e
    fault (Err d) = d

first_fault_past_put : (s : Seen) (x : Placed) (xs : List Placed) (fault : Fault) → IsPutAt s x → IsFirstFault s xs fault → IsFirstFault s (x ∷ xs) fault
first_fault_past_put s x xs fault p f = record {
  before = x ∷ f.before;
  statement = f.statement;
  after = f.after;
  stands = ap (λ (l : List Placed). x ∷ l) f.stands;
  earlier = (p, f.earlier);
  fails = f.fails;
  line = f.line;
}

second_pass_fault_first : (s : Seen) (xs : List Placed) (g : Guest) (fault : Fault) → second_pass s xs g ≡ Err fault → IsFirstFault s xs fault
second_pass_fault_first s [] g fault e = absurd (cc e)
second_pass_fault_first s (x ∷ xs) g fault e = by_put (put_word_in s x.address x.item g) (sym (fault_in_put s x.address x.item g)) e
    (λ h f. second_pass_fault_first s xs h fault f)
  where
    by_put : (r : Result Guest Cause) → item_fault s x.address x.item ≡ fault_in r
        → (at_line x.line r >>= λ h. second_pass s xs h) ≡ Err fault
        → ((h : Guest) → second_pass s xs h ≡ Err fault → IsFirstFault s xs fault) → IsFirstFault s (x ∷ xs) fault
    by_put (Ok h) p f again = first_fault_past_put s x xs fault p (again h f)
    by_put (Err c) p f again =
        let same : record { line = x.line; cause = c } ≡ fault = err_is_injective {A = Guest} _ fault f in
        record {
          before = [];
          statement = x;
          after = xs;
          stands = refl;
          earlier = tt;
          fails = p
              ∙ ap (λ (d : Fault). Some d.cause) same;
          line = ap (λ (d : Fault). d.line) same;
        }

-- ---- the whole

mapped_err_is_err : {A B : Type 0} (r : Result A Fault) (f : A → B) (fault : Fault) → (r >>= λ x. Ok (f x)) ≡ Err fault → r ≡ Err fault
mapped_err_is_err (Ok x) f fault e = absurd (cc e)
mapped_err_is_err (Err d) f fault e = ap (λ k. Err k) (err_is_injective _ fault e)

zero_test_of_positive : (n : ℕ) → 0 < n → (n == 0) ≡ false
zero_test_of_positive n h = by_test (n == 0) refl
  where
    by_test : (b : Bool) → (n == 0) ≡ b → (n == 0) ≡ false
    by_test true e = let none = eqb-true n 0 e in absurd (omega (arith, none, h))
    by_test false e = e

assembled_is_guest_of : (lines : List (List ℕ)) (s : Seen) → first_pass 1 lines nothing_seen ≡ Ok s → 0 < s.code → assembled_lines lines ≡ assembled_guest s
assembled_is_guest_of lines s e some = rw e (rw (zero_test_of_positive s.code some) refl)

pub assembled_fault_first : (lines : List (List ℕ)) (s : Seen) (fault : Fault) → first_pass 1 lines nothing_seen ≡ Ok s → 0 < s.code
    → (assembled_lines lines ≡ Err fault) ↔ IsFirstFault s s.placed fault
assembled_fault_first lines s fault e some =
    let whole = assembled_is_guest_of lines s e some in (
      (λ h. second_pass_fault_first s s.placed (started s) fault (mapped_err_is_err (second_pass s s.placed (started s)) with_entry_line fault (sym whole ∙ h))),
      (λ f. whole ∙ back f),
    )
  where
    back : IsFirstFault s s.placed fault → assembled_guest s ≡ Err fault
    back f =
        let there : second_pass s s.placed (started s) ≡ Err (record { line = f.statement.line; cause = fault.cause }) =
        ap (λ l. second_pass s l (started s)) f.stands
        ∙ second_pass_first_fault s f.before f.after f.statement fault.cause (started s) f.earlier f.fails in
        let whole_is : second_pass s s.placed (started s) ≡ Err fault = there
        ∙ ap (λ n. Err (record { line = n; cause = fault.cause })) f.line in
        rw whole_is refl
