-- What a writer took of an answer with names, by what is known of the plain answer.
use Rattle.std.proofs.Common.{◌≡◌, ◌-◌, ℕ, Bool, true, false, List, [], ◌++◌, length, take, refl, sym, ap, ◌∙◌, subst, append-nil}
use Rattle.std.specs.Prelude.{Option, Some, None, option_map}
use Rattle.ir_names.specs.Naming.{Reached, after_bytes, answer_start, text_with_names, tag}
use Rattle.ir_names.specs.Taken.{begun_numbers, known_plain, plain_taken, with_begun_name}
use Rattle.ir_names.specs.Things.{NameTable}
use Rattle.ir_names.proofs.Grown.{named_if_taken, nothing_taken_at_start}
use Rattle.ir_names.proofs.Codes.{same_begun}

-- a writer took a text with names, and the first bytes of a name after it, if it has failed
abbrev pub TakesNamed : NameTable → Bool → List ℕ → Bool → Option (List ℕ) → Type 0
TakesNamed names lists text failed known = (begun : ℕ)
    × (known ≡ Some (text_with_names names (answer_start lists) text ++ take begun (tag names (after_bytes (answer_start lists) text))))
    × (failed ≡ false → begun ≡ 0)

named_by_test : (names : NameTable) (r : Reached) (failed : Bool) (lists : Bool) (bytes text : List ℕ) → r.lists ≡ lists
    → bytes ≡ with_begun_name names r failed (length bytes) (text_with_names names (answer_start r.lists) text) → after_bytes (answer_start r.lists) text ≡ r
    → TakesNamed names lists text failed (Some bytes)
named_by_test names r true lists bytes text l e f = (
  length bytes - length (text_with_names names (answer_start lists) text),
  ap Some (e ∙ ap (λ (m : Bool). text_with_names names (answer_start m) text ++ take (length bytes - length (text_with_names names (answer_start m) text)) (tag names r)) l
      ∙ ap (λ (z : Reached). text_with_names names (answer_start lists) text ++ take (length bytes - length (text_with_names names (answer_start lists) text)) (tag names z))
      (sym f ∙ ap (λ (m : Bool). after_bytes (answer_start m) text) l)),
  λ g. absurd (cc g),
)
named_by_test names r false lists bytes text l e f = (
  0,
  ap Some (e ∙ ap (λ (m : Bool). text_with_names names (answer_start m) text ++ []) l),
  λ g. refl,
)

taken_by_plain : (names names' : NameTable) (lists : Bool) (r : Reached) (failed : Bool) (bytes text : List ℕ) (plain : Option (List ℕ))
    → plain_taken names' r failed (Some bytes) ≡ plain → option_map (λ p. begun_numbers names' r.lists ++ p) plain ≡ Some (begun_numbers names lists ++ text)
    → TakesNamed names lists text failed (Some bytes)
taken_by_plain names names' lists r failed bytes text None p e = absurd (cc e)
taken_by_plain names names' lists r failed bytes text (Some plain) p e =
    let numbers : begun_numbers names' r.lists ++ plain ≡ begun_numbers names lists ++ text = cc e in
    let same = same_begun names' names r.lists lists plain text numbers in
    let so = named_if_taken names' r failed bytes plain p in
    subst (λ z. TakesNamed z lists text failed (Some bytes)) same.0
    (subst (λ t. TakesNamed names' lists t failed (Some bytes)) same.2 (named_by_test names' r failed lists bytes plain same.1 so.0 so.1))

-- where a text of the plain answer is known to be taken behind the numbers of names, the writer took it with these names
pub takes_named_if_known : (names names' : NameTable) (lists : Bool) (r : Reached) (failed : Bool) (known : Option (List ℕ)) (text : List ℕ)
    → known_plain names' r failed known ≡ Some (begun_numbers names lists ++ text) → TakesNamed names lists text failed known
takes_named_if_known names names' lists r failed None text e = absurd (cc e)
takes_named_if_known names names' lists r failed (Some bytes) text e =
    taken_by_plain names names' lists r failed bytes text (plain_taken names' r failed (Some bytes)) refl e

-- at the start nothing is taken but these numbers, if nothing is known to be written
pub known_at_start : (names : NameTable) (lists failed : Bool) → known_plain names (answer_start lists) failed (Some []) ≡ Some (begun_numbers names lists)
known_at_start names lists failed =
    ap (option_map (λ plain. begun_numbers names lists ++ plain)) (nothing_taken_at_start names lists failed)
    ∙ ap Some (append-nil (begun_numbers names lists))
