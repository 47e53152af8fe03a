-- Where hits of threads block each other, one of them is blocked by none.
use Rattle.std.proofs.Common.{◌≡◌, ◌≢◌, ◌<◌, ◌≤◌, ◌-◌, ◌⊎◌, ◌∙◌, ℕ, zero, suc, Bool, true, false, List, inl, inr, refl, sym, ap, subst, arith, eq-eqb, ne_eqb}
use Rattle.std.specs.Prelude.{◌&&◌, ◌||◌, ◌==◌, not, length}
use Rattle.std.proofs.lemmas.Bool.{cases_eq, cases_lt, le-leb, and_cases, or_parts}
use Rattle.std.proofs.lemmas.Bool.Decides.{nat_tests}
use Rattle.ir_lemmas.proofs.CallerLemmas.{conjuncts_are_true, false_if_not_is_true}
use Rattle.ir_runs.specs.Run.{Step, count, Cut, IsLeast, IsGreatest}
use Rattle.ir_runs.specs.Verdicts.{sum_below}
use Rattle.ir_runs.proofs.CallerLemmas.{sum_below_less, least_exact_at_thread, greatest_exact_at_thread}
use Rattle.ir_fit.specs.Fit.{FittedTrace, IsRunOf}
use Rattle.ir_fit.proofs.CallerLemmas.{missing_has_no_trail}
use Rattle.ir_cut.specs.Positions.{machine_of, start_of, cut_of, threads_of}
use Rattle.ir_weave.proofs.CallerLemmas.{guest_machine_is_lawful, guest_start_invariant}
use Rattle.ir_command.specs.declared.command.Direction.{Direction}
use Rattle.ir_command.specs.declared.command.Direction.TheVariants.{Forwards, Backwards}
use Rattle.ir_gdb.specs.declared.stopped.Stopped.{Stopped}
use Rattle.ir_gdb.specs.Stub.{Stub}
use Rattle.ir_gdb.specs.Stops.{position_of, is_hit}
use Rattle.ir_gdb.specs.Together.{Comes, stop_among, is_on_way, meets, passes, is_free, is_all_free, IsNotMet, NoneMet}
use Rattle.ir_gdb.specs.Laws.{Stands}
use Rattle.ir_gdb.proofs.SameCuts.{same_least_same_thread, same_greatest_thread}

-- ---- positions in a direction

-- a position isn't beyond another
abbrev pub Within : Direction → ℕ → ℕ → Type 0
Within Forwards a b = a ≤ b
Within Backwards a b = b ≤ a

within_if_on_way : (d : Direction) (a b : ℕ) → is_on_way d a b ≡ true → Within d a b
within_if_on_way Forwards a b test = grind (arith, nat_tests, test)
within_if_on_way Backwards a b test = grind (arith, nat_tests, test)

on_way_if_within : (d : Direction) (a b : ℕ) → Within d a b → is_on_way d a b ≡ true
on_way_if_within Forwards a b le = le-leb a b le
on_way_if_within Backwards a b le = le-leb b a le

within_transitive : (d : Direction) (a b c : ℕ) → Within d a b → Within d b c → Within d a c
within_transitive Forwards a b c one two = omega (arith, one, two)
within_transitive Backwards a b c one two = omega (arith, one, two)

within_antisymmetric : (d : Direction) (a b : ℕ) → Within d a b → Within d b a → a ≡ b
within_antisymmetric Forwards a b one two = omega (arith, one, two)
within_antisymmetric Backwards a b one two = omega (arith, one, two)

-- what stands between stays
moved_if_nearer_moved : (d : Direction) (here a b : ℕ) → Within d here a → Within d a b → here ≢ a → here ≢ b
moved_if_nearer_moved Forwards here a b one two moved same = moved (omega (arith, one, two, same))
moved_if_nearer_moved Backwards here a b one two moved same = moved (omega (arith, one, two, same))

-- how far a thread has gone
abbrev gone : Direction → ℕ → ℕ → ℕ
gone Forwards here there = there - here
gone Backwards here there = here - there

gone_never_falls : (d : Direction) (here a b : ℕ) → Within d a b → gone d here a ≤ gone d here b
gone_never_falls Forwards here a b le = omega (arith, le)
gone_never_falls Backwards here a b le = omega (arith, le)

gone_falls_if_nearer : (d : Direction) (here a b : ℕ) → Within d here a → Within d a b → a ≢ b → gone d here a < gone d here b
gone_falls_if_nearer Forwards here a b one two other = elim (cases_lt a b) [ inl less ↦ omega (arith, one, less) | inr from ↦ absurd (other (omega (arith, two, from))) ]
gone_falls_if_nearer Backwards here a b one two other = elim (cases_lt b a) [ inl less ↦ omega (arith, one, less) | inr from ↦ absurd (other (omega (arith, two, from))) ]

-- ---- the cut to which a thread comes

-- there is no step of a thread that there isn't
missing_thread_no_step : (f : FittedTrace) (run : List Step) → IsRunOf f.guest f.recorded run → (x : ℕ) → threads_of f ≤ x
    → count (machine_of f) (start_of f) run x ≡ 0
missing_thread_no_step f run whole x past = ap length (missing_has_no_trail f run whole x past)

pub comes_within_cut : (run : List Step) (s : Stub) (d : Direction) (u k : ℕ) (cut : List ℕ) → Comes run s d u k cut → (x : ℕ) → Within d (position_of s x) (cut_of cut x)
comes_within_cut run s Forwards u k cut comes x = comes.1.above x
comes_within_cut run s Backwards u k cut comes x = comes.1.below x

-- it goes no further than another that takes the thread as far
comes_within_other_cut : (run : List Step) (s : Stub) (d : Direction) (u k t j : ℕ) (own cut : List ℕ) → Comes run s d u k own → Comes run s d t j cut
    → Within d k (cut_of cut u) → (x : ℕ) → Within d (cut_of own x) (cut_of cut x)
comes_within_other_cut run s Forwards u k t j own cut comes goes way x = comes.1.least (cut_of cut) goes.1.cut goes.1.consistent goes.1.above way x
comes_within_other_cut run s Backwards u k t j own cut comes goes way x = comes.1.greatest (cut_of cut) goes.1.cut goes.1.consistent goes.1.below way x

comes_past_position : (run : List Step) (s : Stub) (d : Direction) (u k : ℕ) (cut : List ℕ) → Comes run s d u k cut → Within d k (cut_of cut u)
comes_past_position run s Forwards u k cut comes = comes.1.reaches
comes_past_position run s Backwards u k cut comes = comes.1.reaches

pub comes_exactly_there : (run : List Step) (s : Stub) → Stands run s → (d : Direction) (u k : ℕ) (cut : List ℕ) → Within d (position_of s u) k
    → Comes run s d u k cut → cut_of cut u ≡ k
comes_exactly_there run s stands Forwards u k cut ahead comes =
    let f = s.desk.fitted in
    let within = comes.1.cut u in
    let reaches = comes.1.reaches in
    least_exact_at_thread (machine_of f) (guest_machine_is_lawful f) (start_of f) (guest_start_invariant f) run stands.whole.1.runs
    (cut_of s.desk.at) (cut_of cut) u k stands.cut stands.consistent ahead (omega (arith, within, reaches)) comes.1
comes_exactly_there run s stands Backwards u k cut behind comes =
    let f = s.desk.fitted in
    greatest_exact_at_thread (machine_of f) (guest_machine_is_lawful f) (start_of f) (guest_start_invariant f) run stands.whole.1.runs
    (cut_of s.desk.at) (cut_of cut) u k stands.cut stands.consistent behind comes.1

-- two threads that come to one cut, at which some thread has moved, are the same
same_cut_same_thread : (run : List Step) (s : Stub) → Stands run s → (d : Direction) (t j u k : ℕ) (cut own : List ℕ) → Comes run s d t j cut
    → Comes run s d u k own → ((x : ℕ) → cut_of own x ≡ cut_of cut x) → (x : ℕ) → position_of s x ≢ cut_of cut x → t ≡ u
same_cut_same_thread run s stands Forwards t j u k cut own goes comes same x moved =
    let f = s.desk.fitted in
    let up = goes.1.above x in
    same_least_same_thread (machine_of f) (guest_machine_is_lawful f) (start_of f) (guest_start_invariant f) run stands.whole.1.runs
    (threads_of f) (missing_thread_no_step f run stands.whole) (cut_of s.desk.at) (cut_of cut) t j u k stands.consistent goes.1 least x
    (elim (cases_lt (position_of s x) (cut_of cut x)) [
      | inl less ↦ less
      | inr from ↦ absurd (moved (omega (arith, up, from)))
    ])
  where
    least : IsLeast (machine_of s.desk.fitted) (start_of s.desk.fitted) run (cut_of s.desk.at) u k (cut_of cut)
    least = record {
      cut = goes.1.cut;
      consistent = goes.1.consistent;
      above = goes.1.above;
      reaches = (let reach = comes.1.reaches in let e = same u in omega (arith, reach, e));
      least = λ c is con above reach y. (let le = comes.1.least c is con above reach y in let e = same y in omega (arith, le, e));
    }
same_cut_same_thread run s stands Backwards t j u k cut own goes comes same x moved =
    let f = s.desk.fitted in
    let down = goes.1.below x in
    same_greatest_thread (machine_of f) (guest_machine_is_lawful f) (start_of f) (guest_start_invariant f) run stands.whole.1.runs
    (cut_of s.desk.at) (cut_of cut) t j u k stands.cut stands.consistent goes.1 greatest x
    (elim (cases_lt (cut_of cut x) (position_of s x)) [
      | inl less ↦ less
      | inr from ↦ absurd (moved (omega (arith, down, from)))
    ])
  where
    greatest : IsGreatest (machine_of s.desk.fitted) (start_of s.desk.fitted) run (cut_of s.desk.at) u k (cut_of cut)
    greatest = record {
      cut = goes.1.cut;
      consistent = goes.1.consistent;
      below = goes.1.below;
      reaches = (let reach = comes.1.reaches in let e = same u in omega (arith, reach, e));
      greatest = λ c is con below reach y. (let le = comes.1.greatest c is con below reach y in let e = same y in omega (arith, le, e));
    }

-- ---- what a hit on the way is

-- the parts of the test
pub record IsHitOnWay (s : Stub) (d : Direction) (each : List Stopped) (cut : List ℕ) (u : ℕ) : Type 0 where
  pub moved : position_of s u ≢ cut_of cut u
  pub hit : is_hit (stop_among each u).reason ≡ true
  pub way : is_on_way d (stop_among each u).position (cut_of cut u) ≡ true

pub hit_on_way_if_meets : (s : Stub) (d : Direction) (each : List Stopped) (cut : List ℕ) (u : ℕ) → meets s d each cut u ≡ true → IsHitOnWay s d each cut u
hit_on_way_if_meets s d each cut u test =
    let parts = conjuncts_are_true (not (position_of s u == cut_of cut u)) (is_hit (stop_among each u).reason && is_on_way d (stop_among each u).position (cut_of cut u)) test in
    let rest = conjuncts_are_true (is_hit (stop_among each u).reason) (is_on_way d (stop_among each u).position (cut_of cut u)) parts.1 in
    let other = false_if_not_is_true (position_of s u == cut_of cut u) parts.0 in
    record {
      moved = λ same. (let is = eq-eqb (position_of s u) (cut_of cut u) same in absurd (cc (is, other)));
      hit = rest.0;
      way = rest.1;
    }

meets_if_hit_on_way : (s : Stub) (d : Direction) (each : List Stopped) (cut : List ℕ) (u : ℕ) → IsHitOnWay s d each cut u → meets s d each cut u ≡ true
meets_if_hit_on_way s d each cut u is =
    ap (λ (b : Bool). not b && (is_hit (stop_among each u).reason && is_on_way d (stop_among each u).position (cut_of cut u)))
    (ne_eqb (position_of s u) (cut_of cut u) is.moved)
    ∙ ap (λ (b : Bool). b && is_on_way d (stop_among each u).position (cut_of cut u)) is.hit ∙ is.way

-- a thread that isn't free of the others meets one
not_free_has_meeting : (s : Stub) (d : Direction) (each : List Stopped) (cut : List ℕ) (t n : ℕ) → is_free s d each cut t n ≡ false
    → (v : ℕ) × (v < n) × (v ≢ t) × (meets s d each cut v ≡ true)
unfolding is_free
not_free_has_meeting s d each cut t zero test = absurd (cc test)
not_free_has_meeting s d each cut t (suc n) test = by (and_cases (is_free s d each cut t n) (passes s d each cut t n) test)
    (λ not_free. not_free_has_meeting s d each cut t n not_free)
  where
    next : passes s d each cut t n ≡ false → (v : ℕ) × (v < suc n) × (v ≢ t) × (meets s d each cut v ≡ true)
    next stays = let parts = or_parts (n == t) (not (meets s d each cut n)) stays in
        (n, omega arith, λ same. (let is = eq-eqb n t same in let isnt = parts.0 in absurd (cc (is, isnt))), met_if_not_unmet (meets s d each cut n) parts.1)
      where
        met_if_not_unmet : (b : Bool) → not b ≡ false → b ≡ true
        met_if_not_unmet true is = refl
        met_if_not_unmet false is = sym is

    by : (is_free s d each cut t n ≡ false) ⊎ (passes s d each cut t n ≡ false)
        → (is_free s d each cut t n ≡ false → (v : ℕ) × (v < n) × (v ≢ t) × (meets s d each cut v ≡ true))
        → (v : ℕ) × (v < suc n) × (v ≢ t) × (meets s d each cut v ≡ true)
    by (inl before) earlier = let found = earlier before in (found.0, (let l = found.1 in omega (arith, l)), found.2, found.3)
    by (inr stays) earlier = next stays

-- and one that is free meets none
pub meets_none_of_free : (s : Stub) (d : Direction) (each : List Stopped) (cut : List ℕ) (t n : ℕ) → is_free s d each cut t n ≡ true → (v : ℕ) → v < n → v ≢ t
    → meets s d each cut v ≡ false
unfolding is_free
meets_none_of_free s d each cut t zero test v below other = absurd (omega (arith, below))
meets_none_of_free s d each cut t (suc n) test v below other = by (conjuncts_are_true (is_free s d each cut t n) (passes s d each cut t n) test)
    (cases_eq v n) (λ free less. meets_none_of_free s d each cut t n free v less other)
  where
    unmet : (a b : Bool) → a ≡ false → (a || not b) ≡ true → b ≡ false
    unmet true b is test = absurd (cc is)
    unmet false b is test = false_if_not_is_true b test

    by : (is_free s d each cut t n ≡ true) × (passes s d each cut t n ≡ true) → (v ≡ n) ⊎ (v ≢ n)
        → (is_free s d each cut t n ≡ true → v < n → meets s d each cut v ≡ false) → meets s d each cut v ≡ false
    by parts (inl same) earlier = subst (λ (x : ℕ). meets s d each cut x ≡ false) (sym same)
        (unmet (n == t) (meets s d each cut n) (ne_eqb n t (λ is. other (same ∙ is))) parts.1)
    by parts (inr differs) earlier = earlier parts.0 (omega (arith, below, differs))

-- ---- the thread that is blocked by none

-- what thread u meets on its way, t meets on its own
met_within_further_cut : (run : List Step) (s : Stub) (d : Direction) (each : List Stopped) (u k t j v : ℕ) (own cut : List ℕ) → Comes run s d u k own
    → Comes run s d t j cut → Within d k (cut_of cut u) → meets s d each own v ≡ true → meets s d each cut v ≡ true
met_within_further_cut run s d each u k t j v own cut comes goes way test =
    let met = hit_on_way_if_meets s d each own v test in
    let further = comes_within_other_cut run s d u k t j own cut comes goes way v in
    meets_if_hit_on_way s d each cut v (record {
      moved = moved_if_nearer_moved d (position_of s v) (cut_of own v) (cut_of cut v) (comes_within_cut run s d u k own comes v) further met.moved;
      hit = met.hit;
      way = on_way_if_within d (stop_among each v).position (cut_of cut v)
          (within_transitive d (stop_among each v).position (cut_of own v) (cut_of cut v)
          (within_if_on_way d (stop_among each v).position (cut_of own v) met.way) further);
    })

-- wherever thread t's own hit is on its way, position j is
abbrev pub IsNearest : Stub → Direction → List Stopped → ℕ → ℕ → Type 0
IsNearest s d each t j = (k : ℕ) → position_of s t ≢ k → Within d (position_of s t) k → is_hit (stop_among each t).reason ≡ true
    → Within d (stop_among each t).position k → Within d j k

-- where u meets t and goes no further than t, they come to one cut
met_mover_is_thread : (run : List Step) (s : Stub) → Stands run s → (d : Direction) (each : List Stopped) (u t j : ℕ) (own cut : List ℕ)
    → Comes run s d u (stop_among each u).position own → Comes run s d t j cut → IsNearest s d each t j
    → Within d (stop_among each u).position (cut_of cut u) → meets s d each own t ≡ true → t ≡ u
met_mover_is_thread run s stands d each u t j own cut comes goes near way test =
    let met = hit_on_way_if_meets s d each own t test in
    let k = (stop_among each u).position in
    let there = near (cut_of own t) met.moved (comes_within_cut run s d u k own comes t) met.hit
    (within_if_on_way d (stop_among each t).position (cut_of own t) met.way) in
    let same = λ (x : ℕ). within_antisymmetric d (cut_of own x) (cut_of cut x) (comes_within_other_cut run s d u k t j own cut comes goes way x)
    (comes_within_other_cut run s d t j u k cut own goes comes there x) in
    same_cut_same_thread run s stands d t j u k cut own goes comes same t (λ is. met.moved (is ∙ sym (same t)))

-- two cuts differ below a number, or don't
cuts_differ_or_same : (p q : Cut) (n : ℕ) → ((x : ℕ) × (x < n) × (p x ≢ q x)) ⊎ ((x : ℕ) → x < n → p x ≡ q x)
cuts_differ_or_same p q zero = inr (λ x below. absurd (omega (arith, below)))
cuts_differ_or_same p q (suc n) = elim (cuts_differ_or_same p q n) [
  | inl found ↦ inl (found.0, (let l = found.1 in omega (arith, l)), found.2)
  | inr all ↦ elim (cases_eq (p n) (q n)) [
    | inr ne ↦ inl (n, omega arith, ne)
    | inl e ↦ inr (λ x below. elim (cases_eq x n) [
      | inl last ↦ subst (λ (y : ℕ). p y ≡ q y) (sym last) e
      | inr ne ↦ all x (omega (arith, below, ne))
    ])
  ]
]

-- a thread that another meets goes less far
met_thread_lowers_gone : (run : List Step) (s : Stub) → Stands run s → (d : Direction) (each : List Stopped) (u v : ℕ) (own next : List ℕ) → v ≢ u
    → Comes run s d u (stop_among each u).position own → Comes run s d v (stop_among each v).position next → meets s d each own v ≡ true
    → sum_below (threads_of s.desk.fitted) (λ x. gone d (position_of s x) (cut_of next x))
    < sum_below (threads_of s.desk.fitted) (λ x. gone d (position_of s x) (cut_of own x))
met_thread_lowers_gone run s stands d each u v own next other comes goes test = by (cuts_differ_or_same (cut_of next) (cut_of own) (threads_of s.desk.fitted))
  where
    n : ℕ
    n = threads_of s.desk.fitted

    met : IsHitOnWay s d each own v
    met = hit_on_way_if_meets s d each own v test

    within : (x : ℕ) → Within d (cut_of next x) (cut_of own x)
    within = comes_within_other_cut run s d v (stop_among each v).position u (stop_among each u).position next own goes comes
        (within_if_on_way d (stop_among each v).position (cut_of own v) met.way)

    missing : (x : ℕ) → n ≤ x → cut_of next x ≡ cut_of own x
    missing x past = zero_both d next own goes comes
      where
        zero_both : (d : Direction) (next own : List ℕ) → Comes run s d v (stop_among each v).position next → Comes run s d u (stop_among each u).position own
            → cut_of next x ≡ cut_of own x
        zero_both Forwards next own goes comes =
            let a = goes.1.cut x in let b = comes.1.cut x in let none = missing_thread_no_step s.desk.fitted run stands.whole x past in omega (arith, a, b, none)
        zero_both Backwards next own goes comes =
            let a = goes.1.cut x in let b = comes.1.cut x in let none = missing_thread_no_step s.desk.fitted run stands.whole x past in omega (arith, a, b, none)

    by : ((x : ℕ) × (x < n) × (cut_of next x ≢ cut_of own x)) ⊎ ((x : ℕ) → x < n → cut_of next x ≡ cut_of own x)
        → sum_below n (λ x. gone d (position_of s x) (cut_of next x)) < sum_below n (λ x. gone d (position_of s x) (cut_of own x))
    by (inl (x, below, differs)) = sum_below_less n x (λ y. gone d (position_of s y) (cut_of next y)) (λ y. gone d (position_of s y) (cut_of own y)) below
        (gone_falls_if_nearer d (position_of s x) (cut_of next x) (cut_of own x) (comes_within_cut run s d v (stop_among each v).position next goes x) (within x) differs)
        (λ y. gone_never_falls d (position_of s y) (cut_of next y) (cut_of own y) (within y))
    by (inr all) =
        let same : (x : ℕ) → cut_of next x ≡ cut_of own x = λ x. elim (cases_lt x n) [ inl below ↦ all x below | inr past ↦ missing x past ] in
        absurd (other (sym (same_cut_same_thread run s stands d u (stop_among each u).position v (stop_among each v).position own next comes goes
        same v met.moved)))

-- how far all threads go to a cut
abbrev distance : Stub → Direction → List ℕ → ℕ
distance s d to = sum_below (threads_of s.desk.fitted) (λ x. gone d (position_of s x) (cut_of to x))

-- a thread with a hit on the way to a cut, which others block
record IsBlocked (run : List Step) (s : Stub) (d : Direction) (each : List Stopped) (t : ℕ) (cut : List ℕ) (u : ℕ) (own : List ℕ) : Type 0 where
  other : u ≢ t
  met : meets s d each cut u ≡ true
  comes : Comes run s d u (stop_among each u).position own
  blocked : is_all_free s d each own u ≡ false

-- it is blocked by another such, which goes less far
blocked_by_nearer_thread : (run : List Step) (s : Stub) → Stands run s → (d : Direction) (each : List Stopped) (t j : ℕ) (cut : List ℕ) → Comes run s d t j cut
    → IsNearest s d each t j → NoneMet run s d each cut t (threads_of s.desk.fitted)
    → (u : ℕ) (own : List ℕ) → IsBlocked run s d each t cut u own
    → (v : ℕ) × (next : List ℕ) × IsBlocked run s d each t cut v next × (distance s d next < distance s d own)
blocked_by_nearer_thread run s stands d each t j cut goes near none u own is =
    by (not_free_has_meeting s d each own u (threads_of s.desk.fitted) is.blocked)
  where
    Found : Type 0
    Found = (v : ℕ) × (next : List ℕ) × IsBlocked run s d each t cut v next × (distance s d next < distance s d own)

    way : Within d (stop_among each u).position (cut_of cut u)
    way = within_if_on_way d (stop_among each u).position (cut_of cut u) (hit_on_way_if_meets s d each cut u is.met).way

    of_thread : (v : ℕ) → v ≢ u → v ≢ t → meets s d each own v ≡ true → meets s d each cut v ≡ true → IsNotMet run s d each cut v → Found
    of_thread v differs not_mover met further (inl isnt) = absurd (cc (further, isnt))
    of_thread v differs not_mover met further (inr (next, on, blocks)) = (
      v,
      next,
      record { other = not_mover; met = further; comes = on; blocked = blocks },
      met_thread_lowers_gone run s stands d each u v own next differs is.comes on met,
    )

    by : (v : ℕ) × (v < threads_of s.desk.fitted) × (v ≢ u) × (meets s d each own v ≡ true) → Found
    by (v, below, differs, met) = elim (cases_eq v t) [
      | inl same ↦ absurd (is.other (sym (met_mover_is_thread run s stands d each u t j own cut is.comes goes near way
          (subst (λ (x : ℕ). meets s d each own x ≡ true) same met))))
      | inr not_mover ↦ of_thread v differs not_mover met
          (met_within_further_cut run s d each u (stop_among each u).position t j v own cut is.comes goes way met) (none v below not_mover)
    ]

-- blocked hits lead from one to the next, each less far, and so to none
no_thread_stays_blocked : (run : List Step) (s : Stub) → Stands run s → (d : Direction) (each : List Stopped) (t j : ℕ) (cut : List ℕ) → Comes run s d t j cut
    → IsNearest s d each t j → NoneMet run s d each cut t (threads_of s.desk.fitted)
    → (left u : ℕ) (own : List ℕ) → IsBlocked run s d each t cut u own → distance s d own ≤ left → ⊥
no_thread_stays_blocked run s stands d each t j cut goes near none zero u own is within =
    let (v, next, blocked, less) = blocked_by_nearer_thread run s stands d each t j cut goes near none u own is in omega (arith, less, within)
no_thread_stays_blocked run s stands d each t j cut goes near none (suc left) u own is within =
    let (v, next, blocked, less) = blocked_by_nearer_thread run s stands d each t j cut goes near none u own is in
    no_thread_stays_blocked run s stands d each t j cut goes near none left v next blocked (omega (arith, less, within))

-- where no thread is met, none has a hit on the way
pub none_met_on_way : (run : List Step) (s : Stub) → Stands run s → (d : Direction) (each : List Stopped) (t j : ℕ) (cut : List ℕ)
    → Comes run s d t j cut → IsNearest s d each t j → NoneMet run s d each cut t (threads_of s.desk.fitted) → (u : ℕ) → u < threads_of s.desk.fitted → u ≢ t → meets s d each cut u ≡ false
none_met_on_way run s stands d each t j cut goes near none u below other = by (meets s d each cut u) refl (none u below other)
  where
    by : (b : Bool) → meets s d each cut u ≡ b → IsNotMet run s d each cut u → b ≡ false
    by false is not_met = refl
    by true is (inl isnt) = absurd (cc (is, isnt))
    by true is (inr (own, comes, blocks)) = absurd (no_thread_stays_blocked run s stands d each t j cut goes near none (distance s d own) u own
        (record { other = other; met = is; comes = comes; blocked = blocks }) (omega arith))
