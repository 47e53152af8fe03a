-- A common part that grows.
use Rattle.std.proofs.Common.{◌≡◌, ℕ, zero, suc, ◌+◌, ◌-◌, ◌<◌, ◌≤◌, inl, inr, Bool, true, false, cond, Some, List, [], ◌∷◌, length, get_or}
use Rattle.std.proofs.Common.{set, get_or-set_same, get_or-set_other, length-set, sym, ap, ◌∙◌, subst, arith, eq-eqb, ne_eqb}
use Rattle.std.specs.Prelude.{eqb}
use Rattle.std.proofs.lemmas.Bool.{cases_lt, cases_eq}
use Rattle.std.proofs.lemmas.Option.{slice_get_within}
use Rattle.ir_runs.proofs.CallerLemmas.{sum_below_less}
use Rattle.ir_log.specs.declared.event.Event.{Event}
use Rattle.ir_log.specs.declared.event.Event.TheVariants as variant
use Rattle.ir_trace.specs.Recorded.{Recorded, recorded_thread}
use Rattle.ir_past.specs.Past.{event_at}
use Rattle.ir_past.proofs.CallerLemmas.{event_thread_exists}
use Rattle.ir_diff.specs.Common.{part_of_thread, HasMaker, IsMade, CanJoin, IsPart, AreCommon}
use Rattle.ir_diff.specs.Progress.{counts_of_part, IsBuiltTable, left_over}

-- ---- what follows goes on to follow

maker_in_larger_part : (a : Recorded) (f c : ℕ → ℕ) → ((u : ℕ) → f u ≤ c u) → (o v : ℕ) → HasMaker a f o v → HasMaker a c o v
maker_in_larger_part a f c above o zero h = tt
maker_in_larger_part a f c above o (suc v) h = let more = above h.0 in let less = h.3 in (h.0, h.1, h.2, omega (arith, less, more), h.4)

is_made_in_larger_part : (a : Recorded) (f c : ℕ → ℕ) → ((u : ℕ) → f u ≤ c u) → (e : Event) → IsMade a f e → IsMade a c e
is_made_in_larger_part a f c above (variant.Answer kind value) h = tt
is_made_in_larger_part a f c above (variant.Read object version) h = maker_in_larger_part a f c above object version h
is_made_in_larger_part a f c above (variant.Write object version readers) h = maker_in_larger_part a f c above object version h
is_made_in_larger_part a f c above (variant.Try object) h = tt

follows_in_larger_part : (a b : Recorded) (f c : ℕ → ℕ) (t : ℕ) → ((u : ℕ) → f u ≤ c u) → f t ≡ c t → CanJoin a b f t → CanJoin a b c t
follows_in_larger_part a b f c t above same h = record {
  event = h.event;
  first = subst (λ n. event_at a t n ≡ Some h.event) same h.first;
  second = subst (λ n. event_at b t n ≡ Some h.event) same h.second;
  made = is_made_in_larger_part a f c above h.event h.made;
}

one_or_zero_le_one : (b : Bool) → cond b 1 0 ≤ 1
one_or_zero_le_one true = omega arith
one_or_zero_le_one false = omega arith

-- where no thread can follow, no part is greater
part_is_greatest : (a b : Recorded) (c : ℕ → ℕ) → ((t : ℕ) → CanJoin a b c t → ⊥) → (longer : List ℕ) → IsPart a b longer
    → (t : ℕ) → part_of_thread longer t ≤ c t
part_is_greatest a b c rests [] is t = omega arith
part_is_greatest a b c rests (u ∷ us) is t =
    let below = part_is_greatest a b c rests us is.0 in
    let here = below t in
    elim (cases_eq u t) [
      | inl same ↦ elim (cases_lt (part_of_thread us t) (c t)) [
        | inl less ↦ let one = one_or_zero_le_one (eqb u t) in omega (arith, less, one)
        | inr past ↦
            let all : part_of_thread us t ≡ c t = omega (arith, here, past) in
            let own : part_of_thread us u ≡ c u = subst (λ w. part_of_thread us w ≡ c w) (sym same) all in
            absurd (rests u (follows_in_larger_part a b (part_of_thread us) c u below own is.1))
      ]
      | inr ne ↦ let none = ap {B = ℕ} (λ (x : Bool). cond x 1 0) (ne_eqb u t ne) in omega (arith, here, none)
    ]

-- ---- a part by the counts of its threads

counts_after_followed : (c : List ℕ) (t u : ℕ) (f : ℕ → ℕ) → t < length c → ((w : ℕ) → get_or c w 0 ≡ f w)
    → get_or (set c t (get_or c t 0 + 1)) u 0 ≡ cond (eqb t u) 1 0 + f u
counts_after_followed c t u f within same = elim (cases_eq u t) [
  | inl here ↦
      let new = get_or-set_same c t (get_or c t 0 + 1) 0 within in
      let one = ap {B = ℕ} (λ (x : Bool). cond x 1 0) (eq-eqb t u (sym here)) in
      let there : get_or (set c t (get_or c t 0 + 1)) u 0 ≡ get_or (set c t (get_or c t 0 + 1)) t 0 =
      ap (λ w. get_or (set c t (get_or c t 0 + 1)) w 0) here in
      let old = same t in
      let both : f u ≡ f t = ap f here in
      omega (arith, new, one, there, old, both)
  | inr ne ↦
      let other = get_or-set_other c t u (get_or c t 0 + 1) 0 ne in
      let none = ap {B = ℕ} (λ (x : Bool). cond x 1 0) (ne_eqb t u (λ e. ne (sym e))) in
      let old = same u in
      omega (arith, other, none, old)
]

-- a thread followed
pub built_after_followed : (a b : Recorded) (c new : List ℕ) (t : ℕ) → IsBuiltTable a b c → t < length c → CanJoin a b (counts_of_part c) t
    → new ≡ set c t (counts_of_part c t + 1) → IsBuiltTable a b new
built_after_followed a b c new t h within can is = subst (IsBuiltTable a b) (sym is) (record {
  size = length-set c t (counts_of_part c t + 1) ∙ h.size;
  order = t ∷ h.order;
  built = (h.built, follows_in_larger_part a b (counts_of_part c) (part_of_thread h.order) t (λ u. let e = h.counts u in omega (arith, e)) (h.counts t) can);
  counts = λ u. counts_after_followed c t u (part_of_thread h.order) within h.counts;
})

-- fewer events are left then
pub following_leaves_fewer : (a : Recorded) (c new : List ℕ) (t : ℕ) → t < length c → length c ≡ length a.threads
    → counts_of_part c t < length (recorded_thread a t).events → new ≡ set c t (counts_of_part c t + 1) → left_over a new < left_over a c
following_leaves_fewer a c new t within size some is = subst (λ x. left_over a x < left_over a c) (sym is)
    (sum_below_less (length a.threads) t (λ u. length (recorded_thread a u).events - counts_of_part (set c t (counts_of_part c t + 1)) u)
    (λ u. length (recorded_thread a u).events - counts_of_part c u) (omega (arith, within, size))
    (let new = get_or-set_same c t (counts_of_part c t + 1) 0 within in omega (arith, new, some)) each)
  where
    each : (u : ℕ) → length (recorded_thread a u).events - counts_of_part (set c t (counts_of_part c t + 1)) u
        ≤ length (recorded_thread a u).events - counts_of_part c u
    each u = elim (cases_eq u t) [
      | inl here ↦ subst (λ w. length (recorded_thread a w).events - counts_of_part (set c t (counts_of_part c t + 1)) w
          ≤ length (recorded_thread a w).events - counts_of_part c w) (sym here)
          (let new = get_or-set_same c t (counts_of_part c t + 1) 0 within in omega (arith, new))
      | inr ne ↦ let other = get_or-set_other c t u (counts_of_part c t + 1) 0 ne in omega (arith, other)
    ]

-- ---- a pass over the threads

-- the first n threads were tried, and some followed
pub record IsPassed (a b : Recorded) (old now : List ℕ) (n : ℕ) (moved : Bool) : Type 0 where
  pub built : IsBuiltTable a b now
  pub above : left_over a now ≤ left_over a old
  pub less : moved ≡ true → left_over a now < left_over a old
  pub rests : moved ≡ false → (t : ℕ) → t < n → CanJoin a b (counts_of_part now) t → ⊥

pub passed_after_followed : (a b : Recorded) (old now new : List ℕ) (n : ℕ) (moved : Bool) → IsPassed a b old now n moved → n < length now
    → CanJoin a b (counts_of_part now) n → new ≡ set now n (counts_of_part now n + 1) → IsPassed a b old new (n + 1) true
passed_after_followed a b old now new n moved h within can is = record {
  built = built_after_followed a b now new n h.built within can is;
  above = omega (arith, fewer, up);
  less = λ e. omega (arith, fewer, up);
  rests = λ e. absurd (let bad : true ≡ false = e in cc);
}
  where
    up : left_over a now ≤ left_over a old
    up = h.above

    fewer : left_over a new < left_over a now
    fewer = following_leaves_fewer a now new n within h.built.size (slice_get_within (recorded_thread a n).events (counts_of_part now n) can.event can.first) is

pub passed_after_stayed : (a b : Recorded) (old now : List ℕ) (n : ℕ) (moved : Bool) → IsPassed a b old now n moved
    → (CanJoin a b (counts_of_part now) n → ⊥) → IsPassed a b old now (n + 1) moved
passed_after_stayed a b old now n moved h cannot = record {
  built = h.built;
  above = h.above;
  less = h.less;
  rests = λ e t l. elim (cases_eq t n) [
    | inl here ↦ subst (λ w. CanJoin a b (counts_of_part now) w → ⊥) (sym here) cannot
    | inr ne ↦ h.rests e t (omega (arith, l, ne))
  ];
}

-- a thread that isn't there can't follow
pub still_pass_follows_none : (a b : Recorded) (old now : List ℕ) (n : ℕ) (moved : Bool) → IsPassed a b old now n moved → length now ≤ n
    → moved ≡ false → (t : ℕ) → CanJoin a b (counts_of_part now) t → ⊥
still_pass_follows_none a b old now n moved h all none t can =
    let there = event_thread_exists a t (counts_of_part now t) can.event can.first in
    let size = h.built.size in
    h.rests none t (omega (arith, there, all, size)) can

-- where none can follow, this is the greatest
pub none_follow_is_common : (a b : Recorded) (c : List ℕ) → IsBuiltTable a b c → ((t : ℕ) → CanJoin a b (counts_of_part c) t → ⊥) → AreCommon a b c
none_follow_is_common a b c h rests = record {
  size = h.size;
  order = h.order;
  built = h.built;
  counts = h.counts;
  greatest = λ longer is t. part_is_greatest a b (counts_of_part c) rests longer is t;
}
