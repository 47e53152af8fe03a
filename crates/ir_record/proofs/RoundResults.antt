-- What the turns of a round come to.
use Rattle.std.proofs.Common.{◌≡◌, ◌≢◌, ℕ, ◌+◌, ◌<◌, ◌≤◌, ◌⊎◌, min, Bool, true, false, List, [], ◌∷◌, refl, sym, ◌∙◌, subst, arith, inl, inr}
use Rattle.std.proofs.Math.Nat.{min-le_left, min-le_right}
use Rattle.std.proofs.lemmas.Bool.{cases_eq}
use Rattle.std.specs.List.{range_with_len}
use Rattle.ir_thread.specs.State as thread
use Rattle.ir_thread.specs.State.{thread_machine}
use Rattle.ir_flat.specs.Flat.{Flat, tables, machine}
use Rattle.ir_runs.specs.Run.{State, HasNone}
use Rattle.ir_record.specs.Ahead.{lead_of_thread, CanSkip, WentIf}
use Rattle.ir_record.specs.RoundResults.{has_moved, Noted, IsRoundTurn}
use Rattle.ir_record.specs.Progress.{Progress}
use Rattle.ir_record.specs.declared.in_order.round_result.RoundResult.{RoundResult}
use Rattle.ir_record.specs.declared.in_order.round_result.Outcome.{Outcome}
use Rattle.ir_record.specs.declared.in_order.round_result.Outcome.TheVariants.{Spent, Stepped, Waited}
use Rattle.ir_record.proofs.Going.{reached, went_round_turn_added}

-- what is known after the turns of the first n threads
pub record RoundAfterTurns (n : ℕ) (round : RoundResult) (ahead : List ℕ) (f : Flat) : Type 0 where
  pub all : round.waited ≡ false → (t : ℕ) → t < n → round.free ≤ lead_of_thread ahead t
  pub each : CanSkip (machine f) n round.free ahead (tables f)

pub round_after_no_turns : (round : RoundResult) (ahead : List ℕ) (f : Flat) → RoundAfterTurns 0 round ahead f
round_after_no_turns round ahead f = record { all = λ w t l. absurd (omega (arith, l)); each = λ t l. absurd (omega (arith, l)) }

-- who had no step has none after a turn that changes nothing
no_step_by_equal_tables : (u : ℕ) (f g : Flat) → g.code ≡ f.code → tables g ≡ tables f → HasNone (machine f) (tables f) u
    → HasNone (machine g) (tables g) u
no_step_by_equal_tables u f g code same none = subst (λ s. HasNone (machine g) s u) (sym same)
    (subst (λ k. HasNone (thread_machine k) (tables f) u) (sym code) none)

changeless_can_skip : (u k j : ℕ) (c d : List ℕ) (f g : Flat) → g.code ≡ f.code → tables g ≡ tables f → j ≤ k → lead_of_thread d u ≡ lead_of_thread c u → (k ≤ lead_of_thread c u)
    ⊎ HasNone (machine f) (tables f) u → (j ≤ lead_of_thread d u) ⊎ HasNone (machine g) (tables g) u
changeless_can_skip u k j c d f g code same less is some =
    elim some [ inl enough ↦ inl (omega (arith, less, is, enough)) | inr none ↦ inr (no_step_by_equal_tables u f g code same none) ]

-- where each thread bounds the rounds, and one more
bound_le_leads_step : (t j k : ℕ) (c d : List ℕ) → ((u : ℕ) → u ≢ t → lead_of_thread d u ≡ lead_of_thread c u) → j ≡ min k (lead_of_thread d t) → ((u : ℕ) → u < t → k ≤ lead_of_thread c u)
    → (u : ℕ) → u < t + 1 → j ≤ lead_of_thread d u
bound_le_leads_step t j k c d others is before u l = elim (cases_eq u t) [
  | inl e ↦ subst (λ z. j ≤ lead_of_thread d z) (sym e) (let own = min-le_right k (lead_of_thread d t) in omega (arith, is, own))
  | inr ne ↦ let same = others u ne in let was = before u (omega (arith, l, ne)) in let less = min-le_left k (lead_of_thread d t) in
      omega (arith, same, was, less, is)
]

pub round_after_turns_step : (outcome : Outcome) (t : ℕ) (old new : RoundResult) (c d : List ℕ) (f g : Flat) → RoundAfterTurns t old c f → IsRoundTurn outcome t c d f g
    → Noted outcome (lead_of_thread d t) old new → RoundAfterTurns (t + 1) new d g
round_after_turns_step Spent t old new c d f g p q noted = record {
  all = λ w. bound_le_leads_step t new.free old.free c d q.others noted.2 (p.all (sym noted.1 ∙ w));
  each = λ u l. elim (cases_eq u t) [
    | inl e ↦ inl (subst (λ z. new.free ≤ lead_of_thread d z) (sym e) (let own = min-le_right old.free (lead_of_thread d t) in omega (arith, noted.2, own)))
    | inr ne ↦ changeless_can_skip u old.free new.free c d f g q.code (q.rests (λ is. cc is))
        (let less = min-le_left old.free (lead_of_thread d t) in omega (arith, noted.2, less)) (q.others u ne) (p.each u (omega (arith, l, ne)))
  ];
}
round_after_turns_step Stepped t old new c d f g p q noted = record {
  all = λ w. bound_le_leads_step t new.free old.free c d q.others (noted.3 (sym noted.1 ∙ w)) (p.all (sym noted.1 ∙ w));
  each = λ u l. by_waited old.waited refl u l;
}
  where
    by_waited : (b : Bool) → old.waited ≡ b → (u : ℕ) → u < t + 1 → (new.free ≤ lead_of_thread d u) ⊎ HasNone (machine g) (tables g) u
    by_waited true e u l = inl (let zeros = noted.2 e in omega (arith, zeros))
    by_waited false e u l = inl (bound_le_leads_step t new.free old.free c d q.others (noted.3 e) (p.all e) u l)
round_after_turns_step Waited t old new c d f g p q noted = record {
  all = λ w. absurd (cc (w, noted.1));
  each = λ u l. elim (cases_eq u t) [
    | inl e ↦ inr (subst (HasNone (machine g) (tables g)) (sym e) (q.waits refl))
    | inr ne ↦ changeless_can_skip u old.free new.free c d f g q.code (q.rests (λ is. cc is)) (omega (arith, noted.2)) (q.others u ne)
        (p.each u (omega (arith, l, ne)))
  ];
}

-- one turn more of a round, and what it comes to
pub went_noted_turn : (outcome : Outcome) (t k : ℕ) (old new : RoundResult) (s : State thread.ThreadState) (a b e : Progress) (c d f : List ℕ)
    (p : WentIf old.moved (range_with_len 0 t) s a c b d) → WentIf (has_moved outcome) (t ∷ []) (reached p.went) b d e f
    → Noted outcome k old new → WentIf new.moved (range_with_len 0 (t + 1)) s a c e f
went_noted_turn Spent t k old new s a b e c d f p q noted =
    went_round_turn_added old.moved new.moved true t s a b e c d f p q (λ z. noted.0) (λ z. absurd (cc z))
went_noted_turn Stepped t k old new s a b e c d f p q noted =
    went_round_turn_added old.moved new.moved true t s a b e c d f p q (λ z. noted.0) (λ z. absurd (cc z))
went_noted_turn Waited t k old new s a b e c d f p q noted =
    went_round_turn_added old.moved new.moved false t s a b e c d f p q (λ z. absurd (cc z)) (λ z. noted.0)
