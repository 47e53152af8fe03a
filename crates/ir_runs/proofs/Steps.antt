-- Steps of different threads commute in a state that a run reaches.
-- two changes of a table, each of one place
use Rattle.std.proofs.Common.{◌≡◌, ◌≢◌, ℕ, sym, ap, ◌∙◌, subst, inl, inr}
use Rattle.std.proofs.lemmas.Bool.{cases_eq}
use Rattle.ir_runs.specs.Machine.{Act, act_of, Machine, upd, Object, target, Admits, acted, reply, emitted}
use Rattle.ir_runs.specs.Lawful.{IsLawful}
use Rattle.ir_runs.proofs.Tables.{upd_at_own_place, upd_at_other_place}
use Rattle.ir_runs.specs.Run.{act, State, after_act, Step, Can, after, label}
use Rattle.ir_runs.proofs.Good.{InsideForAct, StateInvariant, inside_for_act_of_step}
use Rattle.ir_runs.proofs.Swap.{upd_upd_other, upd_twice_is_last_upd, Clash, Commutes, acts_commute}

upd_functions_commute : {A : Type 0} (f : ℕ → A) (o p : ℕ) (F G : A → A) → (p ≡ o → G (F (f o)) ≡ F (G (f o)))
    → upd (upd f o (F (f o))) p (G (upd f o (F (f o)) p)) ≡ upd (upd f p (G (f p))) o (F (upd f p (G (f p)) o))
upd_functions_commute f o p F G h = elim (cases_eq p o) [
  | inl e ↦ subst (λ z. upd (upd f o (F (f o))) z (G (upd f o (F (f o)) z)) ≡ upd (upd f z (G (f z))) o (F (upd f z (G (f z)) o))) (sym e)
      (upd_twice_is_last_upd f o _ _ ∙ ap (λ z. upd f o (G z)) (upd_at_own_place f o _) ∙ ap (upd f o) (h e) ∙ ap (λ z. upd f o (F z)) (sym (upd_at_own_place f o _))
      ∙ sym (upd_twice_is_last_upd f o _ _))
  | inr ne ↦ ap (λ z. upd (upd f o (F (f o))) p (G z)) (upd_at_other_place f o p _ ne) ∙ upd_upd_other f o p _ _ (λ e. ne (sym e))
      ∙ ap (λ z. upd (upd f p (G (f p))) o (F z)) (sym (upd_at_other_place f p o _ (λ e. ne (sym e))))
]

-- both enter one object, and one of them for writing
abbrev pub Clashes : {T : Type 0} → Machine T → State T → Step → Step → Type 0
Clashes m s e e' = (target (act m s e') ≡ target (act m s e)) × Clash (act m s e) (act m s e')

-- after the step e, the step e' is what it was
pub record StepUnchanged {T : Type 0} (m : Machine T) (s : State T) (e e' : Step) : Type 0 where
  pub can : Can m (after m s e) e'
  pub label_same : label m (after m s e) e' ≡ label m s e'
  pub now_same : (after m s e).now e'.0 ≡ s.now e'.0
  pub reply_same : reply (act m s e') ((after m s e).objects (target (act m s e'))) ≡ reply (act m s e') (s.objects (target (act m s e')))

-- the object that q' is about, where another changes the one that q is about
pub act_unaffected_by_other : {T : Type 0} (m : Machine T) (f : ℕ → Object) (o : ℕ) (F : Object → Object) (u : ℕ) (q : Act) → Admits m q (f (target q))
    → (target q ≡ o → Commutes m (f o) F u q)
    → Admits m q (upd f o (F (f o)) (target q)) × (emitted q (upd f o (F (f o)) (target q)) ≡ emitted q (f (target q)))
    × (reply q (upd f o (F (f o)) (target q)) ≡ reply q (f (target q)))
act_unaffected_by_other m f o F u q h same = elim (cases_eq (target q) o) [
  | inl e ↦ let c : Commutes m (f o) F u q = same e in
      let p : upd f o (F (f o)) (target q) ≡ F (f o) = ap (upd f o (F (f o))) e ∙ upd_at_own_place f o _ in (
        subst (Admits m q) (sym p) c.admits,
        ap (emitted q) p ∙ c.emitted_same ∙ ap (λ z. emitted q (f z)) (sym e),
        ap (reply q) p ∙ c.reply_same
            ∙ ap (λ z. reply q (f z)) (sym e),
      )
  | inr ne ↦ let p : upd f o (F (f o)) (target q) ≡ f (target q) = upd_at_other_place f o (target q) _ ne in
      (subst (Admits m q) (sym p) h, ap (emitted q) p, ap (reply q) p)
]

-- the object facts at the state s
acts_commute_on_target : {T : Type 0} (m : Machine T) → IsLawful m → (s : State T) → StateInvariant m s → (e e' : Step) → e.0 ≢ e'.0 → Can m s e → Can m s e'
    → (Clashes m s e e' → ⊥)
    → target (act m s e') ≡ target (act m s e) → Commutes m (s.objects (target (act m s e))) (acted (act m s e) e.0) e'.0 (act m s e')
acts_commute_on_target m law s good e e' ne can can' free p =
    acts_commute m (s.objects (target (act m s e))) (good.exclusive _) e.0 e'.0 ne (act m s e) (act m s e')
    (inside_for_act_of_step m law s good e)
    (subst (λ o. InsideForAct (act m s e') ((s.objects o).inside e'.0)) p (inside_for_act_of_step m law s good e'))
    can
    (subst (λ o. Admits m (act m s e') (s.objects o)) p can')
    (λ c. free (p, c))

pub step_unchanged_by_other : {T : Type 0} (m : Machine T) → IsLawful m → (s : State T) → StateInvariant m s → (e e' : Step) → e.0 ≢ e'.0 → Can m s e → Can m s e'
    → (Clashes m s e e' → ⊥) → StepUnchanged m s e e'
unfolding after
step_unchanged_by_other m law s good e e' ne can can' free =
    let x = s.now e.0 in let q : Act = act m s e in
    let still : (after m s e).now e'.0 ≡ s.now e'.0 = upd_at_other_place s.now e.0 e'.0 _ (λ p. ne (sym p)) in
    let z = act_unaffected_by_other m s.objects (target q) (acted q e.0) e'.0 (act m s e') can' (acts_commute_on_target m law s good e e' ne can can' free) in
    record {
      can = subst (λ y. Admits m (act_of (m.ask y) e'.1) ((after m s e).objects (target (act_of (m.ask y) e'.1)))) (sym still) z.0;
      label_same = ap (λ y. emitted (act_of (m.ask y) e'.1) ((after m s e).objects (target (act_of (m.ask y) e'.1)))) still ∙ z.1;
      now_same = still;
      reply_same = z.2;
    }

states_equal_by_parts : {T : Type 0} (s s' : State T) → s.now ≡ s'.now → s.objects ≡ s'.objects → s ≡ s'
states_equal_by_parts s s' p q = λ i. record { now = p i; objects = q i }

pub steps_commute : {T : Type 0} (m : Machine T) → IsLawful m → (s : State T) → StateInvariant m s → (e e' : Step) → e.0 ≢ e'.0 → Can m s e → Can m s e'
    → (Clashes m s e e' → ⊥) → (Clashes m s e' e → ⊥)
    → after m (after m s e) e' ≡ after m (after m s e') e
unfolding after
steps_commute m law s good e e' ne can can' free free' =
    let t : ℕ = e.0 in let u : ℕ = e'.0 in
    let x = s.now t in let q : Act = act m s e in
    let y = s.now u in let q' : Act = act m s e' in
    let k : StepUnchanged m s e e' = step_unchanged_by_other m law s good e e' ne can can' free in
    let k' : StepUnchanged m s e' e = step_unchanged_by_other m law s good e' e (λ p. ne (sym p)) can' can free' in
    ap (λ z. after_act m (after m s e) u z (act_of (m.ask z) e'.1)) k.now_same
    ∙ states_equal_by_parts _ _
    (ap (λ z. upd (upd s.now t (m.take x (reply q (s.objects (target q))))) u (m.take y z)) k.reply_same
    ∙ upd_upd_other s.now t u _ _ ne
    ∙ ap (λ z. upd (upd s.now u (m.take y (reply q' (s.objects (target q'))))) t (m.take x z)) (sym k'.reply_same))
    (upd_functions_commute s.objects (target q) (target q') (acted q t) (acted q' u) (λ p. (acts_commute_on_target m law s good e e' ne can can' free p).order))
    ∙ ap (λ z. after_act m (after m s e') t z (act_of (m.ask z) e.1)) (sym k'.now_same)
