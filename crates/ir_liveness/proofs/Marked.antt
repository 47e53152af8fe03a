-- What is marked is live, and what is live is marked where marks are closed.
use Rattle.std.proofs.Common.{◌≡◌, ℕ, zero, suc, cond, ◌+◌, ◌-◌, ◌*◌, ◌/◌, ◌%◌, ◌<◌, ◌≤◌, Bool, true, false, true≢false, List, [], ◌∷◌}
use Rattle.std.proofs.Common.{length, slice_set, inl, inr, refl, sym, ◌∙◌, subst, arith, Option, Some, None}
use Rattle.std.specs.Prelude.{replicate, slice_get, nat_le}
use Rattle.std.proofs.lemmas.Bool.{cases_eq}
use Rattle.std.proofs.lemmas.Bool.Decides.{nat_tests}
use Rattle.ir_isa.specs.declared.inst.Inst.{Inst}
use Rattle.ir_image.specs.Guest.{fetched, fetched_word, code_start}
use Rattle.ir_image.specs.declared.fetched.Fetched.TheVariants.{Found}
use Rattle.ir_liveness.specs.Flow.{call_limit, writes_register, constant_of, AsksAfter}
use Rattle.ir_liveness.specs.Live.{Point, IsLiveAlong, IsLiveRegister}
use Rattle.ir_liveness.specs.Table.{mark_place, is_marked, IsLiveTable}
use Rattle.ir_liveness.specs.Marks.{places_of_word, point_at, IsMarkSeen, AreMarksLive, IsClosedAt}
use Rattle.ir_liveness.proofs.Places.{IsAt, point_is_at_place, marked_point_cases, marked_setting_cases, point_between_is_marked}
use Rattle.ir_liveness.proofs.Anywhere.{replicated_false_element}

after_call_below_limit : (written : Bool) (constant : Option ℕ) (before after : ℕ) → before < call_limit → AsksAfter written constant before after
    → after < call_limit
after_call_below_limit false constant before after low asks = omega arith
after_call_below_limit true (Some value) before after low asks = grind (arith, nat_tests)
after_call_below_limit true None before after low asks = asks

pub seen_register_is_live : (code : List ℕ) (marks : List Bool) (p : Point) (register : ℕ) (inst : Inst) → AreMarksLive code marks → fetched code p.pc ≡ Found inst
    → p.number < call_limit → register < 32 → IsMarkSeen marks inst p register → IsLiveRegister code p register
seen_register_is_live code marks p register inst live at low few (inl read) = ([], inr (inst, at, read))
seen_register_is_live code marks p register inst live at low few (inr (keeps, (next, goes, asks, is))) =
    let rest = live next register (after_call_below_limit (writes_register inst p.number 17) (constant_of inst) p.number next.number low asks) few is in
    (next ∷ rest.0, (record { inst = inst; at = at; goes = goes; asks = asks; keeps = keeps }, rest.1))

pub live_after_live_mark : (code : List ℕ) (marks : List Bool) (word place : ℕ) (inst : Inst) → place < places_of_word
    → fetched code (code_start + 4 * word) ≡ Found inst → IsMarkSeen marks inst (point_at word place) (place % 32) → AreMarksLive code marks
    → AreMarksLive code (slice_set marks (word * places_of_word + place) true)
live_after_live_mark code marks word place inst less at seen live p register low few is =
    elim (marked_setting_cases marks word place p register less low few is) [
      | inl old ↦ live p register low few old
      | inr here ↦
          let there : IsLiveRegister code (point_at word place) (place % 32) =
          seen_register_is_live code marks (point_at word place) (place % 32) inst live at (omega (arith, less)) (omega arith) seen in
          subst (λ (z : Point). IsLiveRegister code z register) (sym here.same_point)
          (subst (λ (r : ℕ). IsLiveRegister code (point_at word place) r) (sym here.same_register) there)
    ]

pub no_marks_are_live : (code : List ℕ) (count : ℕ) → AreMarksLive code (replicate count false)
no_marks_are_live code count p register low few is =
    elim (marked_point_cases (replicate count false) p register is) [
      | inl odd ↦ ([], inl odd)
      | inr so ↦ absurd (true≢false (sym so.2 ∙ replicated_false_element count (mark_place p register)))
    ]

-- ---- what is live is marked

found_word_is_in_code : (words : List ℕ) (k : ℕ) (inst : Inst) → fetched_word (slice_get words k) ≡ Found inst → k < length words
found_word_is_in_code [] k inst is = absurd (cc is)
found_word_is_in_code (w ∷ words) zero inst is = omega arith
found_word_is_in_code (w ∷ words) (suc k) inst is = let h = found_word_is_in_code words k inst is in omega (arith, h)

found_is_in_code : (inside : Bool) (words : List ℕ) (k : ℕ) (inst : Inst) → fetched_word (cond inside (slice_get words k) None) ≡ Found inst
    → (inside ≡ true) × (k < length words)
found_is_in_code true words k inst is = (refl, found_word_is_in_code words k inst is)
found_is_in_code false words k inst is = absurd (cc is)

found_pc_is_in_code : (code : List ℕ) (pc : ℕ) (inst : Inst) → fetched code pc ≡ Found inst → (code_start ≤ pc) × ((pc - code_start) / 4 < length code)
found_pc_is_in_code code pc inst is =
    let both = found_is_in_code (nat_le code_start pc) code ((pc - code_start) / 4) inst is in
    let a = both.0 in (grind (arith, nat_tests), both.1)

seen_marked_at_place : (code : List ℕ) (marks : List Bool) (p : Point) (register word place : ℕ) (inst : Inst) → IsAt p register word place
    → IsClosedAt code marks word place → fetched code p.pc ≡ Found inst → IsMarkSeen marks inst p register → is_marked marks p register ≡ true
seen_marked_at_place code marks p register word place inst here closed at seen =
    subst (λ (z : Point). is_marked marks z register ≡ true) (sym here.same_point)
    (subst (λ (r : ℕ). is_marked marks (point_at word place) r ≡ true) (sym here.same_register)
    (closed inst (subst (λ (z : Point). fetched code z.pc ≡ Found inst) here.same_point at)
    (subst (λ (r : ℕ). IsMarkSeen marks inst (point_at word place) r) here.same_register
    (subst (λ (z : Point). IsMarkSeen marks inst z register) here.same_point seen))))

seen_register_is_marked : (code : List ℕ) (marks : List Bool) (p : Point) (register : ℕ) (inst : Inst)
    → ((word place : ℕ) → (word < length code) × (place < places_of_word) → IsClosedAt code marks word place) → p.pc % 4 ≡ 0
    → p.number < call_limit → register < 32 → fetched code p.pc ≡ Found inst → IsMarkSeen marks inst p register → is_marked marks p register ≡ true
seen_register_is_marked code marks p register inst closed aligned low few at seen =
    let pc = p.pc in
    let number = p.number in
    let inside = found_pc_is_in_code code p.pc inst at in
    let above = inside.0 in
    let here : IsAt p register ((p.pc - code_start) / 4) (p.number * 32 + register) =
    point_is_at_place p register ((p.pc - code_start) / 4) (p.number * 32 + register) (omega arith) (omega arith) (omega arith) in
    seen_marked_at_place code marks p register ((p.pc - code_start) / 4) (p.number * 32 + register) inst here
    (closed ((p.pc - code_start) / 4) (p.number * 32 + register) (inside.1, omega (arith, low, few))) at seen

pub live_register_is_marked : (code : List ℕ) (marks : List Bool)
    → ((word place : ℕ) → (word < length code) × (place < places_of_word) → IsClosedAt code marks word place) → (path : List Point) (p : Point) (register : ℕ)
    → p.number < call_limit → register < 32 → IsLiveAlong code register p path → is_marked marks p register ≡ true
live_register_is_marked code marks closed [] p register low few (inl odd) = point_between_is_marked marks p register odd
live_register_is_marked code marks closed [] p register low few (inr (inst, at, read)) =
    elim (cases_eq (p.pc % 4) 0) [
      | inl aligned ↦ seen_register_is_marked code marks p register inst closed aligned low few at (inl read)
      | inr odd ↦ point_between_is_marked marks p register odd
    ]
live_register_is_marked code marks closed (next ∷ path) p register low few (step, along) =
    elim (cases_eq (p.pc % 4) 0) [
      | inl aligned ↦
          let after = after_call_below_limit (writes_register step.inst p.number 17) (constant_of step.inst) p.number next.number low step.asks in
          let is = live_register_is_marked code marks closed path next register after few along in
          seen_register_is_marked code marks p register step.inst closed aligned low few step.at (inr (step.keeps, (next, step.goes, step.asks, is)))
      | inr odd ↦ point_between_is_marked marks p register odd
    ]

pub closed_marks_are_table : (code : List ℕ) (marks : List Bool) → AreMarksLive code marks
    → ((word place : ℕ) → (word < length code) × (place < places_of_word) → IsClosedAt code marks word place) → IsLiveTable code marks
closed_marks_are_table code marks live closed p register low few = (
  live p register low few,
  λ path. live_register_is_marked code marks closed path.0 p register low few path.1,
)
