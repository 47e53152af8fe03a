-- Threads look the same exactly where their bytes are equal.
use Rattle.std.proofs.Common.{◌≡◌, ◌<◌, ◌^◌, ℕ, Bool, true, false, List, ◌∷◌, ◌++◌, length, drop, map, flat_map, refl, sym, ap, ◌∙◌, subst, arith, cond, Option, Some, None, inl, inr, ◌&&◌}
use Rattle.std.specs.Prelude.{is_some, is_none, MatchOption, ⊤}
use Rattle.std.proofs.lemmas.List.{append_assoc, length-append}
use Rattle.ir_lemmas.proofs.CallerLemmas.{same_head, same_tail}
use Rattle.ir_image.specs.Bounds.{IsWord}
use Rattle.ir_liveness.specs.Agreement.{DifferInDead}
use Rattle.ir_liveness.specs.Table.{kept_registers}
use Rattle.ir_runs.specs.Machine as machine
use Rattle.ir_runs.specs.declared.access.Access.{Access}
use Rattle.ir_thread.specs.Permitted.{Permits, ends_with}
use Rattle.ir_thread.specs.declared.ask.Ask.TheVariants as ask
use Rattle.ir_thread.proofs.CallerLemmas.{ask_of_permitted, end_of_number_and_code}
use Rattle.ir_thread.specs.State.{end_number, end_code, end_of, ThreadState, highest, ask_of, ask_by, release_ask, shared_ask}
use Rattle.ir_thread.specs.declared.end.End.{End}
use Rattle.ir_thread.specs.declared.end.End.TheVariants as end
use Rattle.ir_likeness.specs.Seen.{Same, view}
use Rattle.ir_thread_bytes.specs.Basis.{Basis, IsBasis}
use Rattle.ir_thread_bytes.specs.Frozen.{word, held_byte, end_bytes, page_changes, is_over, fixed_bytes, going_bytes, frozen}
use Rattle.ir_thread_bytes.specs.Twins.{AreTwins, KeepsBounds, TellsApart}
use Rattle.ir_thread_bytes.proofs.Kept.{kept_registers_fit, kept_registers_count, kept_registers_agree, kept_equal_agrees}
use Rattle.ir_thread_bytes.proofs.Apart.{equal_append_parts, word_bytes_injective, flat_word_injective, flat_word_lengths, held_bytes_injective, changes_injective}
use Rattle.ir_thread_bytes.proofs.Back.{length-end_bytes, length_of_held_bytes, length-fixed_bytes}
use Rattle.ir_likeness.proofs.CallerLemmas.{shared_done_ask_done}

-- the ends that aren't exits
abbrev ends_but_exits : ℕ → List End
ends_but_exits code = drop 1 (ends_with code)

abbrev optional_end_number : Option End → ℕ
optional_end_number None = 0
optional_end_number (Some e) = end_number e

abbrev optional_end_code : Option End → ℕ
optional_end_code None = 0
optional_end_code (Some e) = end_code e

optional_end_of_parts : (e : Option End) → end_of (optional_end_number e) (optional_end_code e) ≡ e
optional_end_of_parts None = refl
optional_end_of_parts (Some e) = end_of_number_and_code e

end_bytes_are_parts : (e : Option End) → end_bytes e ≡ optional_end_number e ∷ word (optional_end_code e)
end_bytes_are_parts None = refl
end_bytes_are_parts (Some e) = refl

end_code_fits_word : (e : Option End) → MatchOption e ⊤ (λ e. IsWord (end_code e)) → optional_end_code e < 2 ^ 32
end_code_fits_word None fits = omega arith
end_code_fits_word (Some e) fits = fits

end_bytes_injective : (a b : Option End) → MatchOption a ⊤ (λ e. IsWord (end_code e)) → MatchOption b ⊤ (λ e. IsWord (end_code e))
    → end_bytes a ≡ end_bytes b → a ≡ b
end_bytes_injective a b fa fb e =
    let both : optional_end_number a ∷ word (optional_end_code a) ≡ optional_end_number b ∷ word (optional_end_code b) = sym (end_bytes_are_parts a) ∙ e ∙ end_bytes_are_parts b in
    let n : optional_end_number a ≡ optional_end_number b = same_head (optional_end_number a) (optional_end_number b) (word (optional_end_code a)) (word (optional_end_code b)) both in
    let c : optional_end_code a ≡ optional_end_code b = word_bytes_injective (optional_end_code a) (optional_end_code b) (end_code_fits_word a fa) (end_code_fits_word b fb)
    (same_tail (optional_end_number a) (optional_end_number b) (word (optional_end_code a)) (word (optional_end_code b)) both) in
    sym (optional_end_of_parts a) ∙ (λ i. end_of (n i) (c i)) ∙ optional_end_of_parts b

-- ---- who is over asks nothing

ended_holding_none_over : (e : Option End) (h : Option (ℕ × Access)) → (e ≡ None → ⊥) → h ≡ None → is_some e && is_none h ≡ true
ended_holding_none_over None h some none = absurd (some refl)
ended_holding_none_over (Some e) None some none = refl
ended_holding_none_over (Some e) (Some top) some none = absurd (cc none)

pub over_if_shared_ask_done : (code : List ℕ) (s : ThreadState) → shared_ask (ask_of code s) ≡ machine.Done → is_over s ≡ true
over_if_shared_ask_done code s h =
    let p = subst (Permits s) (shared_done_ask_done (ask_of code s) h) (ask_of_permitted code s) in
    ended_holding_none_over s.ended (highest s.held) p.0 p.1

ended_asks_done : (code : List ℕ) (s : ThreadState) (e : Option End) (h : Option (ℕ × Access)) → highest s.held ≡ h → is_some e && is_none h ≡ true
    → shared_ask (ask_by code e s) ≡ machine.Done
ended_asks_done code s None h is over = absurd (cc over)
ended_asks_done code s (Some e) None is over = ap (λ z. shared_ask (release_ask z)) is
ended_asks_done code s (Some e) (Some top) is over = absurd (cc over)

pub shared_ask_done_if_over : (code : List ℕ) (s : ThreadState) → is_over s ≡ true → shared_ask (ask_of code s) ≡ machine.Done
shared_ask_done_if_over code s over = ended_asks_done code s s.ended (highest s.held) refl over

-- ---- the bytes of a thread that goes on

append_of_four_nested : (a l o c : List ℕ) → ((a ++ l) ++ o) ++ c ≡ a ++ (l ++ (o ++ c))
append_of_four_nested a l o c = append_assoc (a ++ l) o c ∙ append_assoc a l (o ++ c)

record EqualParts (basis : Basis) (x y : ThreadState) (m n : List ℕ) : Type 0 where
  pc : x.core.pc ≡ y.core.pc
  registers : kept_registers basis.live x.core ≡ kept_registers basis.live y.core
  held : x.held ≡ y.held
  mark : m ≡ n

fixed_bytes_parts_equal : (basis : Basis) (x y : ThreadState) → AreTwins x y → KeepsBounds x → KeepsBounds y → (m n : List ℕ) → length m ≡ length n
    → fixed_bytes basis x m ≡ fixed_bytes basis y n → EqualParts basis x y m n
fixed_bytes_parts_equal basis x y twins bx by m n lm e =
    let kx : List ℕ = kept_registers basis.live x.core in
    let ky : List ℕ = kept_registers basis.live y.core in
    let count : length kx ≡ length ky = kept_registers_count basis.live x.core ∙ sym (kept_registers_count basis.live y.core) in
    let rx : length (flat_map word kx) ≡ length (flat_map word ky) = flat_word_lengths kx ky count in
    let hx : length (map held_byte x.held) ≡ length (map held_byte y.held) = length_of_held_bytes x.held ∙ twins.objects ∙ sym (length_of_held_bytes y.held) in
    let l3 : length ((word x.core.pc ++ flat_map word kx) ++ map held_byte x.held) ≡ length ((word y.core.pc ++ flat_map word ky) ++ map held_byte y.held) =
    three (word x.core.pc) (flat_map word kx) (map held_byte x.held) (word y.core.pc) (flat_map word ky) (map held_byte y.held) refl rx hx in
    let s1 = equal_append_parts ((word x.core.pc ++ flat_map word kx) ++ map held_byte x.held)
    ((word y.core.pc ++ flat_map word ky) ++ map held_byte y.held) m n l3 e in
    let l2 : length (word x.core.pc ++ flat_map word kx) ≡ length (word y.core.pc ++ flat_map word ky) =
    two (word x.core.pc) (flat_map word kx) (word y.core.pc) (flat_map word ky) refl rx in
    let s2 = equal_append_parts (word x.core.pc ++ flat_map word kx) (word y.core.pc ++ flat_map word ky)
    (map held_byte x.held) (map held_byte y.held) l2 s1.0 in
    let s3 = equal_append_parts (word x.core.pc) (word y.core.pc) (flat_map word kx) (flat_map word ky) refl s2.0 in
    record {
      pc = word_bytes_injective x.core.pc y.core.pc bx.core.pc_fits by.core.pc_fits s3.0;
      registers = flat_word_injective kx ky count (kept_registers_fit basis.live x.core bx.core)
          (kept_registers_fit basis.live y.core by.core) s3.1;
      held = held_bytes_injective x.held y.held s2.1;
      mark = s1.1;
    }
  where
    two : (a b c d : List ℕ) → length a ≡ length c → length b ≡ length d → length (a ++ b) ≡ length (c ++ d)
    two a b c d p q = let e = length-append a b in let f = length-append c d in omega (arith, e, f, p, q)

    three : (a b c d e f : List ℕ) → length a ≡ length d → length b ≡ length e → length c ≡ length f
        → length ((a ++ b) ++ c) ≡ length ((d ++ e) ++ f)
    three a b c d e f p q r = two (a ++ b) c (d ++ e) f (two a b d e p q) r

going_bytes_dead_differ : (basis : Basis) → IsBasis basis → (x y : ThreadState) → AreTwins x y → KeepsBounds x → KeepsBounds y → (m n : List ℕ) → length m ≡ length n → x.ended ≡ y.ended
    → going_bytes basis x m ≡ going_bytes basis y n → DifferInDead basis.code (view x) (view y) × (m ≡ n)
going_bytes_dead_differ basis is x y twins bx by m n lm ends e =
    let cx : List ℕ = page_changes 0 basis.memory x.core.memory in
    let cy : List ℕ = page_changes 0 basis.memory y.core.memory in
    let apart : fixed_bytes basis x m ++ (word (length x.output) ++ (x.output ++ cx)) ≡ fixed_bytes basis y n ++ (word (length y.output) ++ (y.output ++ cy)) =
    sym (append_of_four_nested (fixed_bytes basis x m) (word (length x.output)) x.output cx) ∙ e
    ∙ append_of_four_nested (fixed_bytes basis y n) (word (length y.output)) y.output cy in
    let objects = twins.objects in
    let lf : length (fixed_bytes basis x m) ≡ length (fixed_bytes basis y n) =
    length-fixed_bytes basis x m ∙ omega (arith, objects, lm) ∙ sym (length-fixed_bytes basis y n) in
    let s1 = equal_append_parts (fixed_bytes basis x m) (fixed_bytes basis y n) (word (length x.output) ++ (x.output ++ cx))
    (word (length y.output) ++ (y.output ++ cy)) lf apart in
    let p = fixed_bytes_parts_equal basis x y twins bx by m n lm s1.0 in
    let s2 = equal_append_parts (word (length x.output)) (word (length y.output)) (x.output ++ cx) (y.output ++ cy) refl s1.1 in
    let ox = bx.output in
    let oy = by.output in
    let lo = word_bytes_injective (length x.output) (length y.output) (omega (arith, ox)) (omega (arith, oy)) s2.0 in
    let s3 = equal_append_parts x.output y.output cx cy lo s2.1 in
    let memory = changes_injective 0 basis.memory x.core.memory y.core.memory (bx.core.memory_length ∙ sym is.size) (by.core.memory_length ∙ sym is.size)
    (let size = is.size in omega (arith, size)) s3.1 in (
      record {
        rest = λ i. record {
          core = y.core;
          number = twins.number i;
          held = p.held i;
          budget = 1;
          profile = twins.profile i;
          form = twins.form i;
          steps = 0;
          events = 0;
          output = s3.0 i;
          ended = ends i;
        };
        cores = kept_equal_agrees basis.code basis.live is.live x.core y.core bx.core by.core p.pc memory p.registers;
      },
      p.mark,
    )

flagged_bytes_same : (basis : Basis) → IsBasis basis → (x y : ThreadState) → AreTwins x y → KeepsBounds x → KeepsBounds y → (m n : List ℕ) → length m ≡ length n → x.ended ≡ y.ended
    → (a b : Bool) → is_over x ≡ a → is_over y ≡ b
    → cond a (1 ∷ x.output) (0 ∷ going_bytes basis x m) ≡ cond b (1 ∷ y.output) (0 ∷ going_bytes basis y n)
    → Same basis.code (view x, m) (view y, n)
flagged_bytes_same basis is x y twins bx by m n lm ends true true ox oy e =
    inr (inr (shared_ask_done_if_over basis.code (view x) ox, shared_ask_done_if_over basis.code (view y) oy, ends, same_tail 1 1 x.output y.output e))
flagged_bytes_same basis is x y twins bx by m n lm ends true false ox oy e =
    absurd (let h = same_head 1 0 x.output (going_bytes basis y n) e in omega (arith, h))
flagged_bytes_same basis is x y twins bx by m n lm ends false true ox oy e =
    absurd (let h = same_head 0 1 (going_bytes basis x m) y.output e in omega (arith, h))
flagged_bytes_same basis is x y twins bx by m n lm ends false false ox oy e =
    inr (inl (going_bytes_dead_differ basis is x y twins bx by m n lm ends
    (same_tail 0 0 (going_bytes basis x m) (going_bytes basis y n) e)))

over_bytes_are_output : (basis : Basis) (s : ThreadState) (m : List ℕ) → is_over s ≡ true
    → frozen basis s m ≡ end_bytes s.ended ++ 1 ∷ s.output
over_bytes_are_output basis s m over =
    ap (λ b. end_bytes s.ended ++ cond b (1 ∷ s.output) (0 ∷ going_bytes basis s m)) over

-- threads that differ only in dead registers have the same bytes
dead_differ_same_bytes : (basis : Basis) → IsBasis basis → (x y : ThreadState) (m n : List ℕ)
    → DifferInDead basis.code (view x) (view y) → m ≡ n → frozen basis x m ≡ frozen basis y n
dead_differ_same_bytes basis is x y m n d marks =
    let kept = kept_registers_agree basis.code basis.live is.live x.core y.core d.cores in
    λ i. end_bytes (d.rest i).ended ++ cond (is_over (d.rest i)) (1 ∷ (d.rest i).output)
    (0 ∷ ((word (d.cores.pc i) ++ flat_map word (kept i) ++ map held_byte (d.rest i).held ++ marks i) ++ word (length (d.rest i).output)
    ++ (d.rest i).output ++ page_changes 0 basis.memory (d.cores.memory i)))

pub same_bytes_iff_looks : TellsApart
same_bytes_iff_looks basis is x y twins bx by m n lm = (
  λ e.
      let s = equal_append_parts (end_bytes x.ended) (end_bytes y.ended) (cond (is_over x) (1 ∷ x.output) (0 ∷ going_bytes basis x m))
      (cond (is_over y) (1 ∷ y.output) (0 ∷ going_bytes basis y n)) (length-end_bytes x.ended ∙ sym (length-end_bytes y.ended)) e in
      flagged_bytes_same basis is x y twins bx by m n lm (end_bytes_injective x.ended y.ended bx.code by.code s.0)
      (is_over x) (is_over y) refl refl s.1,
  λ h. elim h [
    | inl e ↦ ap (λ z. frozen basis z.0 z.1) e
    | inr (inl d) ↦ dead_differ_same_bytes basis is x y m n d.0 d.1
    | inr (inr d) ↦
        over_bytes_are_output basis x m (over_if_shared_ask_done basis.code (view x) d.0) ∙ (λ i. end_bytes (d.2 i) ++ 1 ∷ d.3 i)
        ∙ sym (over_bytes_are_output basis y n (over_if_shared_ask_done basis.code (view y) d.1))
  ],
)

flagged_flags_equal : (a b : Bool) (x y v w : List ℕ) → cond a (1 ∷ x) (0 ∷ v) ≡ cond b (1 ∷ y) (0 ∷ w) → a ≡ b
flagged_flags_equal true true x y v w e = refl
flagged_flags_equal true false x y v w e = absurd (let h = same_head 1 0 x w e in omega (arith, h))
flagged_flags_equal false true x y v w e = absurd (let h = same_head 0 1 v y e in omega (arith, h))
flagged_flags_equal false false x y v w e = refl

-- threads with equal bytes are over together
pub same_bytes_over_same : (basis : Basis) (x y : ThreadState) (m n : List ℕ) → frozen basis x m ≡ frozen basis y n
    → is_over x ≡ is_over y
same_bytes_over_same basis x y m n e =
    let s = equal_append_parts (end_bytes x.ended) (end_bytes y.ended) (cond (is_over x) (1 ∷ x.output) (0 ∷ going_bytes basis x m))
    (cond (is_over y) (1 ∷ y.output) (0 ∷ going_bytes basis y n)) (length-end_bytes x.ended ∙ sym (length-end_bytes y.ended)) e in
    flagged_flags_equal (is_over x) (is_over y) x.output y.output (going_bytes basis x m) (going_bytes basis y n) s.1
