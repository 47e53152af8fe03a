-- Marks at any word.
use Rattle.std.proofs.Common.{◌≡◌, ℕ, zero, suc, ◌+◌, ◌-◌, ◌*◌, ◌/◌, ◌%◌, ◌<◌, Bool, true, false, true≢false, List, [], ◌∷◌, length, slice_set, inl, inr, refl, sym, ap, ◌∙◌, subst, arith}
use Rattle.std.specs.Prelude.{replicate}
use Rattle.std.specs.List.{slice_index_or}
use Rattle.std.proofs.lemmas.Bool.{cases_eq}
use Rattle.ir_lemmas.proofs.CallerLemmas.{get_or_after_set, get_or_set_elsewhere}
use Rattle.ir_image.specs.Guest.{code_start}
use Rattle.ir_liveness.specs.Flow.{call_limit}
use Rattle.ir_liveness.specs.Table.{mark_place, is_marked}
use Rattle.ir_liveness.specs.Marks.{places_of_word, AreAnywhere}
use Rattle.ir_liveness.proofs.Places.{marked_point_cases, mark_of_point_place}

pub replicated_false_element : (count k : ℕ) → slice_index_or (replicate count false) k false ≡ false
replicated_false_element zero k = refl
replicated_false_element (suc count) zero = refl
replicated_false_element (suc count) (suc k) = replicated_false_element count k

none_anywhere_at_first : (count : ℕ) → AreAnywhere (replicate count false) (replicate places_of_word false)
none_anywhere_at_first count place less = (
  λ is. absurd (true≢false (sym is ∙ replicated_false_element places_of_word place)),
  λ found. absurd (true≢false (sym found.1 ∙ replicated_false_element count (found.0 * places_of_word + place))),
)

pub anywhere_after_setting : (marks anywhere : List Bool) (word place : ℕ) → AreAnywhere marks anywhere → length anywhere ≡ places_of_word
    → word * places_of_word + place < length marks → place < places_of_word
    → AreAnywhere (slice_set marks (word * places_of_word + place) true) (slice_set anywhere place true)
anywhere_after_setting marks anywhere word place are size within less other few = (to, from)
  where
    to : slice_index_or (slice_set anywhere place true) other false ≡ true
        → (w : ℕ) × (slice_index_or (slice_set marks (word * places_of_word + place) true) (w * places_of_word + other) false ≡ true)
    to is = elim (cases_eq place other) [
      | inl same ↦ (
        word,
        ap (λ (k : ℕ). slice_index_or (slice_set marks (word * places_of_word + place) true) (word * places_of_word + k) false) (sym same)
            ∙ get_or_after_set marks (word * places_of_word + place) true false within,
      )
      | inr ne ↦
          let old = (are other few).0 (sym (get_or_set_elsewhere anywhere place other true false ne) ∙ is) in (
            old.0,
            get_or_set_elsewhere marks (word * places_of_word + place) (old.0 * places_of_word + other) true false
                (λ e. ne (omega (arith, e, less, few))) ∙ old.1,
          )
    ]

    from : ((w : ℕ) × (slice_index_or (slice_set marks (word * places_of_word + place) true) (w * places_of_word + other) false ≡ true))
        → slice_index_or (slice_set anywhere place true) other false ≡ true
    from found = elim (cases_eq place other) [
      | inl same ↦ ap (λ (k : ℕ). slice_index_or (slice_set anywhere place true) k false) (sym same)
          ∙ get_or_after_set anywhere place true false (omega (arith, size, less))
      | inr ne ↦ get_or_set_elsewhere anywhere place other true false ne
          ∙ (are other few).1 (
            found.0,
            sym (get_or_set_elsewhere marks (word * places_of_word + place) (found.0 * places_of_word + other) true false
                (λ e. ne (omega (arith, e, less, few)))) ∙ found.1,
          )
    ]

pub anywhere_mark_has_word : (marks anywhere : List Bool) (number register : ℕ) → AreAnywhere marks anywhere → number < call_limit → register < 32
    → slice_index_or anywhere (number * 32 + register) false ≡ true
    → (next : ℕ) × (next % 4 ≡ 0) × (is_marked marks (record { pc = next; number = number }) register ≡ true)
anywhere_mark_has_word marks anywhere number register are low few is =
    let found = (are (number * 32 + register) (omega arith)).0 is in
    let place : mark_place (record { pc = code_start + 4 * found.0; number = number }) register ≡ found.0 * places_of_word + (number * 32 + register) = omega arith in (
      code_start + 4 * found.0,
      omega arith,
      mark_of_point_place marks (record { pc = code_start + 4 * found.0; number = number }) register (omega arith) (omega arith)
          ∙ (ap (λ (k : ℕ). slice_index_or marks k false) place ∙ found.1),
    )

pub no_mark_anywhere : (marks anywhere : List Bool) (number register : ℕ) → AreAnywhere marks anywhere → number < call_limit → register < 32
    → slice_index_or anywhere (number * 32 + register) false ≡ false
    → (next : ℕ) → next % 4 ≡ 0 → is_marked marks (record { pc = next; number = number }) register ≡ true → ⊥
no_mark_anywhere marks anywhere number register are low few unset next aligned is =
    elim (marked_point_cases marks (record { pc = next; number = number }) register is) [
      | inl odd ↦ odd aligned
      | inr so ↦
          let place : (next - code_start) / 4 * places_of_word + (number * 32 + register) ≡ mark_place (record { pc = next; number = number }) register = omega arith in
          let marked : slice_index_or marks ((next - code_start) / 4 * places_of_word + (number * 32 + register)) false ≡ true =
          ap (λ (k : ℕ). slice_index_or marks k false) place ∙ so.2 in
          true≢false (sym ((are (number * 32 + register) (omega arith)).1 ((next - code_start) / 4, marked)) ∙ unset)
    ]

pub unmarked_none_anywhere : (marks anywhere : List Bool) (count : ℕ) → marks ≡ replicate count false → anywhere ≡ replicate places_of_word false
    → (length anywhere ≡ places_of_word) × AreAnywhere marks anywhere
unmarked_none_anywhere marks anywhere count none fresh = (
  ap length fresh,
  subst (λ (z : List Bool). AreAnywhere z anywhere) (sym none)
      (subst (λ (z : List Bool). AreAnywhere (replicate count false) z) (sym fresh) (none_anywhere_at_first count)),
)

pub slice_index_or_read : (marks : List Bool) (k : ℕ) (mark : Bool) → k < length marks → mark ≡ slice_index_or marks k mark → slice_index_or marks k false ≡ mark
slice_index_or_read [] k mark less is = absurd (omega arith)
slice_index_or_read (m ∷ marks) zero mark less is = sym is
slice_index_or_read (m ∷ marks) (suc k) mark less is = slice_index_or_read marks k mark (omega arith) is
