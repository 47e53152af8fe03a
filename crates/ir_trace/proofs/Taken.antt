-- The magics, what is reserved and the ends, read and written.
use Rattle.std.proofs.Common.{◌≡◌, ℕ, true, false, cond, eqb, List, [], ◌∷◌, ◌++◌, Option, Some, None, Ok, refl, sym, ap, ◌∙◌, subst, lit<}
use Rattle.std.specs.Prelude.{◌&&◌, ◌||◌, Bool}
use Rattle.std.proofs.lemmas.Bool.{eqb-true, and_parts}
use Rattle.byteorder.specs.Endian.{little_bytes}
use Rattle.ir_bytes.specs.Reading.{number_at, field_at}
use Rattle.ir_bytes.proofs.CallerLemmas.{two_binds_are_ok, three_binds_are_ok, ok_is_injective, test_true_if_no_fault}
use Rattle.ir_bytes.proofs.CallerLemmas.{no_fault_if_test_true, number_is_fixed, fixed_number_no_fault, IsBytes, Takes, takes_append}
use Rattle.ir_bytes.proofs.CallerLemmas.{number_at_takes_number, number_at-little_bytes, field_at_takes_field, field_at-little_bytes}
use Rattle.ir_bytes.proofs.CallerLemmas.{takes_single_byte, field_at_of_byte}
use Rattle.ir_thread.specs.State.{end_number, end_code, end_of}
use Rattle.ir_thread.specs.Permitted.{ends_with}
use Rattle.ir_thread.specs.declared.end.End.{End}
use Rattle.ir_thread.specs.declared.end.End.TheVariants as end
use Rattle.ir_thread.specs.declared.profile.Profile.{Profile}
use Rattle.ir_thread.specs.declared.profile.Profile.TheVariants.{One, Two}
use Rattle.ir_trace.specs.declared.trace_err.TraceErr.{TraceErr}
use Rattle.ir_trace.specs.declared.trace_err.TraceErr.TheVariants.{Short, Magic, Reserved}
use Rattle.ir_trace.specs.Recorded.{trace_magic, profile_at, end_by, end_at}
use Rattle.ir_trace.specs.Bounds.{IsWord}
use Rattle.ir_trace.specs.Fields.{trace_magic_field, reserved_field, end_field, is_magic, profile_of}
use Rattle.ir_trace.specs.Encoding.{end_encoding}
use Rattle.ir_lemmas.proofs.CallerLemmas.{found_passes_test}
use Rattle.ir_thread.proofs.CallerLemmas.{end_of_number_and_code}

magic_bytes_by_tests : (n : ℕ) (one two : Bool) → eqb n 0x31545249 ≡ one → eqb n 0x32545249 ≡ two → (one || two) ≡ true
    → little_bytes 4 n ≡ trace_magic (cond one One Two)
magic_bytes_by_tests n true two p q h = ap (little_bytes 4) (eqb-true n 0x31545249 p)
magic_bytes_by_tests n false true p q h = ap (little_bytes 4) (eqb-true n 0x32545249 q)
magic_bytes_by_tests n false false p q h = absurd cc

-- the bytes of a magic are those of its profile
magic_bytes_of_profile : (n : ℕ) → is_magic n ≡ true → little_bytes 4 n ≡ trace_magic (profile_of n)
magic_bytes_of_profile n h = magic_bytes_by_tests n (eqb n 0x31545249) (eqb n 0x32545249) refl refl h

pub profile_at_takes_magic : (bytes : List ℕ) (x : Profile × List ℕ) → IsBytes bytes → profile_at bytes ≡ Ok x → Takes bytes (trace_magic x.0) x.1
unfolding profile_at
profile_at_takes_magic bytes x fits e =
    two_binds_are_ok (field_at Short trace_magic_field bytes) (λ n. Ok (profile_of n.0, n.1)) x e (λ n e0 e1.
    let t = field_at_takes_field Short trace_magic_field bytes n fits e0 in
    let own : Takes bytes (trace_magic (profile_of n.0)) n.1 = subst (λ (k : List ℕ). Takes bytes k n.1)
    (magic_bytes_of_profile n.0 (test_true_if_no_fault (is_magic n.0) Magic t.passes)) t.takes in
    subst (λ (y : Profile × List ℕ). Takes bytes (trace_magic y.0) y.1) (ok_is_injective TraceErr (profile_of n.0, n.1) x e1) own)

magic_field_of_encoding : (n : ℕ) (rest : List ℕ) → IsWord n → is_magic n ≡ true
    → field_at Short trace_magic_field (little_bytes 4 n ++ rest) ≡ Ok (n, rest)
magic_field_of_encoding n rest fits is = field_at-little_bytes Short trace_magic_field n rest fits (no_fault_if_test_true (is_magic n) Magic is)

profile_at_magic : (n : ℕ) (rest : List ℕ) → IsWord n → is_magic n ≡ true → profile_at (little_bytes 4 n ++ rest) ≡ Ok (profile_of n, rest)
unfolding profile_at
profile_at_magic n rest fits is = rw (magic_field_of_encoding n rest fits is) refl

pub profile_at_of_magic : (profile : Profile) (rest : List ℕ) → profile_at (trace_magic profile ++ rest) ≡ Ok (profile, rest)
profile_at_of_magic One rest = profile_at_magic 0x31545249 rest (lit< tt) refl
profile_at_of_magic Two rest = profile_at_magic 0x32545249 rest (lit< tt) refl

pub reserved_takes_zero : (bytes : List ℕ) (n : ℕ × List ℕ) → IsBytes bytes → field_at Short reserved_field bytes ≡ Ok n
    → Takes bytes (little_bytes 2 0) n.1
reserved_takes_zero bytes n fits e =
    let t = field_at_takes_field Short reserved_field bytes n fits e in
    subst (λ (k : ℕ). Takes bytes (little_bytes 2 k) n.1) (number_is_fixed 0 n.0 Reserved t.passes) t.takes

pub reserved_field_of_zero : (rest : List ℕ) → field_at Short reserved_field (little_bytes 2 0 ++ rest) ≡ Ok (0, rest)
reserved_field_of_zero rest = field_at-little_bytes Short reserved_field 0 rest (lit< tt) (fixed_number_no_fault 0 Reserved)

-- ---- ends

abbrev HasNumbers : ℕ → ℕ → End → Type 0
HasNumbers number code e = (end_number e ≡ number) × (end_code e ≡ code)

end_has_numbers : (number code : ℕ) (e : End) → end_of number code ≡ Some e → HasNumbers number code e
end_has_numbers number code e h =
    let test = found_passes_test (λ x. (eqb (end_number x) number) && (eqb (end_code x) code)) (ends_with code) e h in
    let both = and_parts (eqb (end_number e) number) (eqb (end_code e) code) test in
    (eqb-true _ _ both.0, eqb-true _ _ both.1)

abbrev EndNumberIsInRange : End → Type 0
EndNumberIsInRange e = end_field.fault (end_number e) ≡ None

end_number_is_in_range : (e : End) → EndNumberIsInRange e
end_number_is_in_range (end.Exit code) = refl
end_number_is_in_range end.Breakpoint = refl
end_number_is_in_range end.IllegalWord = refl
end_number_is_in_range end.TargetMisaligned = refl
end_number_is_in_range end.OutsideCode = refl
end_number_is_in_range end.BadLoad = refl
end_number_is_in_range end.BadStore = refl
end_number_is_in_range end.UnknownCall = refl
end_number_is_in_range end.NoSuchObject = refl
end_number_is_in_range end.EntryOutOfOrder = refl
end_number_is_in_range end.NotHeld = refl
end_number_is_in_range end.OutputFull = refl
end_number_is_in_range end.BudgetSpent = refl
end_number_is_in_range end.LogFull = refl

-- what reading an end takes
abbrev pub TakesEnd : List ℕ → End × List ℕ → Type 0
TakesEnd bytes x = Takes bytes (end_encoding x.0) x.1 × IsWord (end_code x.0)

end_by_takes_end : (bytes : List ℕ) (n : ℕ) (code : ℕ × List ℕ) (o : Option End) (x : End × List ℕ)
    → Takes bytes (n ∷ little_bytes 4 code.0) code.1 → IsWord code.0
    → ((e : End) → o ≡ Some e → HasNumbers n code.0 e) → end_by o code.1 ≡ Ok x → TakesEnd bytes x
unfolding end_encoding
end_by_takes_end bytes n code (Some e) x t w is h =
    let both = is e refl in
    let own : TakesEnd bytes (e, code.1) = (
      subst (λ (k : List ℕ). Takes bytes k code.1)
          (ap (λ (k : ℕ). k ∷ little_bytes 4 code.0) (sym both.0) ∙ ap (λ (k : ℕ). end_number e ∷ little_bytes 4 k) (sym both.1)) t,
      subst
          IsWord (sym both.1) w,
    ) in
    subst (TakesEnd bytes) (ok_is_injective TraceErr (e, code.1) x h) own
end_by_takes_end bytes n code None x t w is h = absurd cc

pub end_at_takes_end : (bytes : List ℕ) (x : End × List ℕ) → IsBytes bytes → end_at bytes ≡ Ok x → TakesEnd bytes x
unfolding end_at
end_at_takes_end bytes x fits e =
    three_binds_are_ok (field_at Short end_field bytes) (λ n. number_at Short 4 n.1) (λ n code. end_by (end_of n.0 code.0) code.1) x e
    (λ n code e0 e1 e2.
    let t0 = field_at_takes_field Short end_field bytes n fits e0 in
    let t1 = number_at_takes_number Short 4 n.1 code t0.takes.rest_fits e1 in
    end_by_takes_end bytes n.0 code (end_of n.0 code.0) x
    (takes_append bytes (n.0 ∷ []) n.1 (little_bytes 4 code.0) code.1 (takes_single_byte bytes n t0.takes t0.fits) t1.0) t1.1 (end_has_numbers n.0 code.0)
    e2)

pub end_at_of_encoding : (e : End) (rest : List ℕ) → IsWord (end_code e) → end_at (end_encoding e ++ rest) ≡ Ok (e, rest)
unfolding end_at end_encoding
end_at_of_encoding e rest fits =
    rw (
      field_at_of_byte Short end_field (end_number e) (little_bytes 4 (end_code e) ++ rest) refl (end_number_is_in_range e),
      number_at-little_bytes Short 4 (end_code e) rest fits,
      end_of_number_and_code e,
    ) refl
