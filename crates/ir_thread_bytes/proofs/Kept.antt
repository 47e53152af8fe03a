-- What is kept of registers says as much as the live ones do.
use Rattle.std.proofs.Common.{◌≡◌, ◌+◌, ◌≤◌, ◌<◌, ◌^◌, ℕ, zero, suc, Bool, true, false, length, map, get_or, refl, sym, ap, ◌∙◌, subst, arith, cond, ◌==◌, ne_eqb, List, ◌∷◌, inl, inr}
use Rattle.std.specs.Prelude.{◌||◌}
use Rattle.std.specs.List.{range_with_len}
use Rattle.std.proofs.lemmas.Bool.{cases_eq, cases_lt}
use Rattle.std.proofs.lemmas.List.{get_or_past}
use Rattle.std.proofs.lemmas.List.FromFn.{length-map-range_with_len, get_or-map-range_with_len}
use Rattle.ir_liveness.proofs.CallerLemmas.{at_same_point, call_number_below_limit}
use Rattle.ir_liveness.specs.Agreement.{point_of, AgreeOnLive}
use Rattle.ir_liveness.specs.Live.{IsLiveRegister}
use Rattle.ir_liveness.specs.Table.{is_marked, IsLiveTable, kept_value, kept_registers}
use Rattle.ir_mach.specs.Core.{Core, register}
use Rattle.ir_mach.specs.Within.{IsCore}

-- ---- as words

chosen_value_fits : (b : Bool) (value : ℕ) → value < 2 ^ 32 → cond b value 0 < 2 ^ 32
chosen_value_fits true value fits = fits
chosen_value_fits false value fits = omega arith

kept_value_fits : (live : List Bool) (core : Core) → IsCore core → (number : ℕ) → kept_value live core number < 2 ^ 32
kept_value_fits live core ok number =
    chosen_value_fits ((number == 17) || is_marked live (point_of core) number) (register core number) (ok.registers_fit number)

pub kept_registers_count : (live : List Bool) (core : Core) → length (kept_registers live core) ≡ 32
unfolding kept_registers
kept_registers_count live core = length-map-range_with_len (kept_value live core) 0 32

pub kept_register_at : (live : List Bool) (core : Core) (number : ℕ) → number < 32
    → get_or (kept_registers live core) number 0 ≡ kept_value live core number
unfolding kept_registers
kept_register_at live core number less = get_or-map-range_with_len (kept_value live core) 0 32 number number 0 less (omega arith)

pub kept_registers_fit : (live : List Bool) (core : Core) → IsCore core → (number : ℕ) → get_or (kept_registers live core) number 0 < 2 ^ 32
kept_registers_fit live core ok number = elim (cases_lt number 32) [
  | inl less ↦ subst (λ v. v < 2 ^ 32) (sym (kept_register_at live core number less)) (kept_value_fits live core ok number)
  | inr past ↦ subst (λ v. v < 2 ^ 32)
      (sym (get_or_past (kept_registers live core) number 0 (subst (λ n. n ≤ number) (sym (kept_registers_count live core)) past)))
      (omega arith)
]

-- ---- of cores that agree on what is live

maps_equal_on_range : (f g : ℕ → ℕ) (a n : ℕ) → ((i : ℕ) → i < a + n → f i ≡ g i) → map f (range_with_len a n) ≡ map g (range_with_len a n)
maps_equal_on_range f g a zero each = refl
maps_equal_on_range f g a (suc n) each =
    λ i. each a (omega arith) i ∷ maps_equal_on_range f g (a + 1) n (λ k less. each k (omega (arith, less))) i

chosen_values_equal : (b : Bool) (v w : ℕ) → (b ≡ true → v ≡ w) → cond b v 0 ≡ cond b w 0
chosen_values_equal true v w same = same refl
chosen_values_equal false v w same = refl

either_of_test : (b : Bool) (number : ℕ) (P : Type 0) → (number ≡ 17 → P) → (b ≡ true → P) → (number == 17) || b ≡ true → P
either_of_test b number P seventeen marked is = elim (cases_eq number 17) [
  | inl e ↦ seventeen e
  | inr n ↦ marked (subst (λ t. t || b ≡ true) (ne_eqb number 17 n) is)
]

kept_value_agrees : (code : List ℕ) (live : List Bool) → IsLiveTable code live → (x y : Core) → AgreeOnLive code x y
    → (number : ℕ) → number < 32 → kept_value live x number ≡ kept_value live y number
kept_value_agrees code live table x y agree number less =
    ap (λ p. cond ((number == 17) || is_marked live p number) (register x number) 0) (at_same_point x y agree.pc agree.call)
    ∙ chosen_values_equal ((number == 17) || is_marked live (point_of y) number) (register x number) (register y number)
    (either_of_test (is_marked live (point_of y) number) number (register x number ≡ register y number)
    (λ e. subst (λ n. register x n ≡ register y n) (sym e) agree.call)
    (λ marked. agree.live number
    (subst (λ p. IsLiveRegister code p number) (sym (at_same_point x y agree.pc agree.call))
    ((table (point_of y) number (call_number_below_limit (register y 17)) less).0 marked))))

pub kept_registers_agree : (code : List ℕ) (live : List Bool) → IsLiveTable code live → (x y : Core) → AgreeOnLive code x y
    → kept_registers live x ≡ kept_registers live y
unfolding kept_registers
kept_registers_agree code live table x y agree =
    maps_equal_on_range (kept_value live x) (kept_value live y) 0 32 (λ number less. kept_value_agrees code live table x y agree number less)

value_is_kept : (b : Bool) (number value : ℕ) → b ≡ true → cond ((number == 17) || b) value 0 ≡ value
value_is_kept b number value is = by (number == 17)
  where
    by : (a : Bool) → cond (a || b) value 0 ≡ value
    by true = refl
    by false = ap (λ z. cond z value 0) is

register_past_last : (core : Core) → IsCore core → (number : ℕ) → 32 ≤ number → register core number ≡ 0
register_past_last core ok number past = get_or_past core.registers number 0 (subst (λ n. n ≤ number) (sym ok.register_count) past)

pub kept_equal_agrees : (code : List ℕ) (live : List Bool) → IsLiveTable code live → (x y : Core) → IsCore x → IsCore y
    → x.pc ≡ y.pc → x.memory ≡ y.memory → kept_registers live x ≡ kept_registers live y → AgreeOnLive code x y
kept_equal_agrees code live table x y ok fine pc memory kept =
    let each : (number : ℕ) → number < 32 → kept_value live x number ≡ kept_value live y number = λ number less.
    sym (kept_register_at live x number less) ∙ ap (λ l. get_or l number 0) kept ∙ kept_register_at live y number less in
    let call : register x 17 ≡ register y 17 = each 17 (omega arith) in
    let points = at_same_point x y pc call in
    record {
      first = record { count = ok.register_count; zero_register = ok.zero_register };
      second = record { count = fine.register_count; zero_register = fine.zero_register };
      pc = pc;
      memory = memory;
      call = call;
      live = λ number is. elim (cases_lt number 32) [
        | inl less ↦
            let marked : is_marked live (point_of x) number ≡ true =
            (table (point_of x) number (call_number_below_limit (register x 17)) less).1 is in
            let also : is_marked live (point_of y) number ≡ true = subst (λ p. is_marked live p number ≡ true) points marked in
            sym (value_is_kept (is_marked live (point_of x) number) number (register x number) marked) ∙ each number less
            ∙ value_is_kept (is_marked live (point_of y) number) number (register y number) also
        | inr past ↦ register_past_last x ok number past ∙ sym (register_past_last y fine number past)
      ];
    }
