-- Which points hit a thread at 0.
use Rattle.std.proofs.Common.{◌≡◌, ◌<◌, ◌≤◌, ◌⊎◌, ◌∙◌, ℕ, suc, min, Bool, true, false, true≢false, List, [], ◌∷◌, Option, Some, None, is_none, inl, inr, refl, sym, ap, subst, arith, eq-eqb}
use Rattle.std.specs.Prelude.{◌==◌, if◌then◌else◌}
use Rattle.std.proofs.lemmas.Bool.{eqb-true, cases_lt}
use Rattle.ir_lemmas.proofs.CallerLemmas.{and_true_from_both, conjuncts_are_true}
use Rattle.ir_runs.specs.Run.{Step}
use Rattle.ir_fit.specs.Fit.{FittedTrace}
use Rattle.ir_cut.specs.Positions.{thread_at}
use Rattle.ir_command.specs.declared.command.Point.{Point}
use Rattle.ir_command.specs.declared.command.Point.TheVariants.{Break, Watch, WatchObject}
use Rattle.ir_hits.specs.Seeing.{steps_of}
use Rattle.ir_hits.specs.Hits.{Numbered, HitBy, HitByNumber, IsLowest}
use Rattle.ir_gdb.specs.Seeking.{is_break_at, least_number, lowest_start}
use Rattle.ir_gdb.proofs.Finding.{first_point_hits, later_point_hits, first_or_later_hits}

-- ---- a point

no_step_is_before : (j : ℕ) → 0 ≡ suc j → ⊥
no_step_is_before j is = omega (arith, is)

module _ (f : FittedTrace) (run : List Step) (t pc : ℕ) (here : pc ≡ (thread_at f run t 0).core.pc) (some : 0 < steps_of f run t) where
  hit_at_start_is_break : (p : Point) → HitBy f run t 0 p → is_break_at t pc p ≡ true
  hit_at_start_is_break (Break u address) hit =
      and_true_from_both (u == t) (address == pc) (eq-eqb u t hit.0) (eq-eqb address pc (sym hit.1 ∙ sym here))
  hit_at_start_is_break (Watch u address) (same, (j, is, changes)) = absurd (no_step_is_before j is)
  hit_at_start_is_break (WatchObject object) (j, is, left) = absurd (no_step_is_before j is)

  break_hits_at_start : (p : Point) → is_break_at t pc p ≡ true → HitBy f run t 0 p
  break_hits_at_start (Break u address) is =
      let both = conjuncts_are_true (u == t) (address == pc) is in
      (eqb-true u t both.0, sym here ∙ sym (eqb-true address pc both.1), some)
  break_hits_at_start (Watch u address) is = absurd (true≢false (sym is))
  break_hits_at_start (WatchObject object) is = absurd (true≢false (sym is))

  -- ---- the lowest of some

  -- a number is at most another, if there is one
  abbrev IsAtMost : ℕ → Option ℕ → Type 0
  IsAtMost n None = 0 ≤ n
  IsAtMost n (Some m) = n ≤ m

  -- it is another, or that of a point that hits
  abbrev Comes : Option ℕ → List Numbered → ℕ → Type 0
  Comes found ps n = (found ≡ Some n) ⊎ HitByNumber f run ps t 0 n

  record IsLeast (found : Option ℕ) (ps : List Numbered) (n : ℕ) : Type 0 where
    comes : Comes found ps n
    under : IsAtMost n found
    lowest : (m : ℕ) → HitByNumber f run ps t 0 m → n ≤ m

  abbrev IsLeastOf : Option ℕ → List Numbered → Option ℕ → Type 0
  IsLeastOf found ps None = (found ≡ None) × ((m : ℕ) → HitByNumber f run ps t 0 m → ⊥)
  IsLeastOf found ps (Some n) = IsLeast found ps n

  least_is_under : (found : Option ℕ) (n : ℕ) → (IsAtMost (least_number found n) found) × (least_number found n ≤ n)
  least_is_under None n = (omega arith, omega arith)
  least_is_under (Some m) n = (omega arith, omega arith)

  least_is_either : (found : Option ℕ) (n : ℕ) → (found ≡ Some (least_number found n)) ⊎ (n ≡ least_number found n)
  least_is_either None n = inr refl
  least_is_either (Some m) n = elim (cases_lt m n) [
    | inl less ↦ (let same : m ≡ min m n = omega (arith, less) in inl (ap Some same))
    | inr from ↦ inr (omega (arith, from))
  ]

  at_most_some : (a b : ℕ) (found : Option ℕ) → a ≤ b → IsAtMost b found → IsAtMost a found
  at_most_some a b None le is = omega arith
  at_most_some a b (Some m) le is = omega (arith, le, is)

  -- with a point that hits before the others
  least_with_hit : (found : Option ℕ) (p : Numbered) (ps : List Numbered) (result : Option ℕ) → HitBy f run t 0 p.point
      → IsLeastOf (Some (least_number found p.number)) ps result → IsLeastOf found (p ∷ ps) result
  least_with_hit found p ps None hit is = absurd (true≢false (sym (ap is_none is.0)))
  least_with_hit found p ps (Some n) hit is = record {
    comes = elim is.comes [
      | inl same ↦ of_least (least_is_either found p.number) (cc same)
      | inr later ↦ inr (later_point_hits f run p ps t 0 n later)
    ];
    under = let u = is.under in at_most_some n (least_number found p.number) found u (least_is_under found p.number).0;
    lowest = λ m hits. elim (first_or_later_hits f run p ps t 0 m hits) [
      | inl first ↦ (let a = is.under in let b = (least_is_under found p.number).1 in let e = first.0 in omega (arith, a, b, e))
      | inr later ↦ is.lowest m later
    ];
  }
    where
      of_least : (found ≡ Some (least_number found p.number)) ⊎ (p.number ≡ least_number found p.number) → least_number found p.number ≡ n
          → Comes found (p ∷ ps) n
      of_least (inl one) same = inl (one ∙ ap Some same)
      of_least (inr one) same = inr (subst (λ (m : ℕ). HitByNumber f run (p ∷ ps) t 0 m) (one ∙ same) (first_point_hits f run p ps t 0 hit))

  -- with one that doesn't
  least_without_hit : (found : Option ℕ) (p : Numbered) (ps : List Numbered) (result : Option ℕ) → (HitBy f run t 0 p.point → ⊥) → IsLeastOf found ps result
      → IsLeastOf found (p ∷ ps) result
  least_without_hit found p ps None never is = (
    is.0,
    λ m hits. elim (first_or_later_hits f run p ps t 0 m hits) [
      | inl first ↦ never first.1
      | inr later ↦ is.1 m later
    ],
  )
  least_without_hit found p ps (Some n) never is = record {
    comes = elim is.comes [
      | inl same ↦ inl same
      | inr later ↦ inr (later_point_hits f run p ps t 0 n later)
    ];
    under = is.under;
    lowest = λ m hits. elim (first_or_later_hits f run p ps t 0 m hits) [
      | inl first ↦ absurd (never first.1)
      | inr later ↦ is.lowest m later
    ];
  }

  lowest_start_is_least : (ps : List Numbered) (found : Option ℕ) → IsLeastOf found ps (lowest_start t pc ps found)
  unfolding lowest_start
  lowest_start_is_least [] None = (refl, λ m hits. let at = hits.2 in absurd (cc at))
  lowest_start_is_least [] (Some n) = record { comes = inl refl; under = omega arith; lowest = λ m hits. let at = hits.2 in absurd (cc at) }
  lowest_start_is_least (p ∷ ps) found = by (λ next. lowest_start_is_least ps next) (is_break_at t pc p.point) refl
    where
      by : ((next : Option ℕ) → IsLeastOf next ps (lowest_start t pc ps next)) → (b : Bool) → is_break_at t pc p.point ≡ b
          → IsLeastOf found (p ∷ ps) (lowest_start t pc ps (if b then Some (least_number found p.number) else found))
      by again true is = least_with_hit found p ps (lowest_start t pc ps (Some (least_number found p.number))) (break_hits_at_start p.point is)
          (again (Some (least_number found p.number)))
      by again false is = least_without_hit found p ps (lowest_start t pc ps found) (λ hit. true≢false (sym (hit_at_start_is_break p.point hit) ∙ is)) (again found)

  -- ---- of all

  none_is_not_some : (n : ℕ) → ◌≡◌ {A = Option ℕ} None (Some n) → ⊥
  none_is_not_some n same = true≢false (ap is_none same)

  pub no_start_is_no_hit : (ps : List Numbered) → lowest_start t pc ps None ≡ None → (n : ℕ) → HitByNumber f run ps t 0 n → ⊥
  no_start_is_no_hit ps is = (subst (IsLeastOf None ps) is (lowest_start_is_least ps None)).1

  pub start_is_lowest : (ps : List Numbered) (n : ℕ) → lowest_start t pc ps None ≡ Some n → IsLowest f run ps t 0 n
  start_is_lowest ps n is =
      let least : IsLeast None ps n = subst (IsLeastOf None ps) is (lowest_start_is_least ps None) in
      record {
        hits = elim least.comes [
          | inl same ↦ absurd (none_is_not_some n same)
          | inr hits ↦ hits
        ];
        lowest = least.lowest;
      }
