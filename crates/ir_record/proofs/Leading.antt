-- Threads that are some private steps ahead.
use Rattle.std.proofs.Common.{◌≡◌, ◌≢◌, ℕ, zero, suc, ◌<◌, List, length, set, replicate, refl, sym, ap, ◌∙◌, subst, arith, inl, inr, get_or-set_same, get_or-set_other}
use Rattle.std.proofs.Math.Path.{fun_ext}
use Rattle.std.proofs.lemmas.Bool.{cases_eq}
use Rattle.ir_runs.specs.Machine.{Machine, Private, act_of, upd, Object, target, Admits, acted, reply, emitted, Quiet}
use Rattle.ir_runs.proofs.CallerLemmas.{upd_at_own_place, upd_at_other_place, upd_with_old_value}
use Rattle.ir_runs.specs.Run.{State, Can, after, label, end, EntersIfFree, HasNone}
use Rattle.ir_record.specs.Ahead.{alone, lead_of_thread, IsThreadAhead}

-- ---- a private step

pub private_can_step : {T : Type 0} (m : Machine T) (s : State T) (t : ℕ) → m.ask (s.now t) ≡ Private → Can m s (t, 0)
private_can_step m s t is = subst (λ q. Admits m (act_of q 0) (s.objects (target (act_of q 0)))) (sym is) tt

pub private_step_is_quiet : {T : Type 0} (m : Machine T) (s : State T) (t : ℕ) → m.ask (s.now t) ≡ Private → label m s (t, 0) ≡ Quiet
private_step_is_quiet m s t is = ap (λ q. emitted (act_of q 0) (s.objects (target (act_of q 0)))) is

private_takes_zero : {T : Type 0} (m : Machine T) (s : State T) (t : ℕ) → m.ask (s.now t) ≡ Private → (after m s (t, 0)).now t ≡ m.take (s.now t) 0
unfolding after
private_takes_zero m s t is = upd_at_own_place s.now t _ ∙ ap (λ q. m.take (s.now t) (reply (act_of q 0) (s.objects (target (act_of q 0))))) is

pub other_step_same_thread : {T : Type 0} (m : Machine T) (s : State T) (t r u : ℕ) → u ≢ t → (after m s (t, r)).now u ≡ s.now u
unfolding after
other_step_same_thread m s t r u ne = upd_at_other_place s.now t u _ ne

private_same_objects : {T : Type 0} (m : Machine T) (s : State T) (t : ℕ) → m.ask (s.now t) ≡ Private → (after m s (t, 0)).objects ≡ s.objects
unfolding after
private_same_objects m s t is = ap (λ q. upd s.objects (target (act_of q 0)) (acted (act_of q 0) t (s.objects (target (act_of q 0))))) is
    ∙ upd_with_old_value s.objects 0 (s.objects 0) refl

-- ---- one of the steps that a thread is ahead

pub ahead_lead_lowered : {T : Type 0} (m : Machine T) (ahead : List ℕ) (s later : State T) (t k : ℕ) → t < length ahead → lead_of_thread ahead t ≡ suc k
    → IsThreadAhead m ahead s later → IsThreadAhead m (set ahead t k) (after m s (t, 0)) later
ahead_lead_lowered m ahead s later t k l is h =
    let private : m.ask (s.now t) ≡ Private = h.each t 0 (omega (arith, is)) in
    let own : lead_of_thread (set ahead t k) t ≡ k = get_or-set_same ahead t k 0 l in
    record {
      threads = λ u. elim (cases_eq u t) [
        | inl e ↦ subst (λ z. later.now z ≡ alone m (lead_of_thread (set ahead t k) z) ((after m s (t, 0)).now z)) (sym e)
            (h.threads t ∙ ap (λ j. alone m j (s.now t)) is ∙ sym (ap (alone m k) (private_takes_zero m s t private))
            ∙ ap (λ j. alone m j ((after m s (t, 0)).now t)) (sym own))
        | inr ne ↦ h.threads u ∙ ap (λ j. alone m j (s.now u)) (sym (get_or-set_other ahead t u k 0 ne))
            ∙ ap (alone m (lead_of_thread (set ahead t k) u)) (sym (other_step_same_thread m s t 0 u ne))
      ];
      each = λ u j below. elim (cases_eq u t) [
        | inl e ↦ subst (λ z. m.ask (alone m j ((after m s (t, 0)).now z)) ≡ Private) (sym e)
            (ap (λ x. m.ask (alone m j x)) (private_takes_zero m s t private)
            ∙ h.each t (suc j) (let less : j < lead_of_thread (set ahead t k) t = subst (λ z. j < lead_of_thread (set ahead t k) z) e below in
            omega (arith, less, own, is)))
        | inr ne ↦ ap (λ x. m.ask (alone m j x)) (other_step_same_thread m s t 0 u ne)
            ∙ h.each u j (let same = get_or-set_other ahead t u k 0 ne in omega (arith, below, same))
      ];
      objects = h.objects ∙ sym (private_same_objects m s t private);
    }

-- ---- a step of a thread that is not ahead

pub not_ahead_is_same : {T : Type 0} (m : Machine T) (ahead : List ℕ) (s later : State T) (t : ℕ) → lead_of_thread ahead t ≡ 0 → IsThreadAhead m ahead s later
    → later.now t ≡ s.now t
not_ahead_is_same m ahead s later t is h = h.threads t ∙ ap (λ k. alone m k (s.now t)) is

-- what a thread in this state asks is admitted with these objects
abbrev IsAskAdmitted : {T : Type 0} → Machine T → T → (ℕ → Object) → ℕ → Type 0
IsAskAdmitted m x objects r = Admits m (act_of (m.ask x) r) (objects (target (act_of (m.ask x) r)))

pub can_step_from_ahead : {T : Type 0} (m : Machine T) (ahead : List ℕ) (s later : State T) (t r : ℕ) → lead_of_thread ahead t ≡ 0 → IsThreadAhead m ahead s later
    → Can m later (t, r) → Can m s (t, r)
can_step_from_ahead m ahead s later t r is h can = subst (λ x. IsAskAdmitted m x s.objects r) (not_ahead_is_same m ahead s later t is h)
    (subst (λ objects. IsAskAdmitted m (later.now t) objects r) h.objects can)

pub can_step_in_ahead : {T : Type 0} (m : Machine T) (ahead : List ℕ) (s later : State T) (t r : ℕ) → lead_of_thread ahead t ≡ 0 → IsThreadAhead m ahead s later
    → Can m s (t, r) → Can m later (t, r)
can_step_in_ahead m ahead s later t r is h can = subst (λ x. IsAskAdmitted m x later.objects r) (sym (not_ahead_is_same m ahead s later t is h))
    (subst (λ objects. IsAskAdmitted m (s.now t) objects r) (sym h.objects) can)

-- a try that enters where it can does so here too
pub enters_if_free_ahead : {T : Type 0} (m : Machine T) (ahead : List ℕ) (s later : State T) (t r : ℕ) → lead_of_thread ahead t ≡ 0 → IsThreadAhead m ahead s later
    → EntersIfFree m later (t, r) → EntersIfFree m s (t, r)
enters_if_free_ahead m ahead s later t r is h enters o tries can =
    enters o (ap m.ask (not_ahead_is_same m ahead s later t is h) ∙ tries) (can_step_in_ahead m ahead s later t 1 is h can)

-- a private step enters nothing
pub private_enters_if_free : {T : Type 0} (m : Machine T) (s : State T) (t : ℕ) → m.ask (s.now t) ≡ Private → EntersIfFree m s (t, 0)
private_enters_if_free m s t is o tries can = absurd (cc (is, tries))

pub no_step_if_none_ahead : {T : Type 0} (m : Machine T) (ahead : List ℕ) (s later : State T) (t : ℕ) → lead_of_thread ahead t ≡ 0 → IsThreadAhead m ahead s later
    → HasNone m later t → HasNone m s t
no_step_if_none_ahead m ahead s later t is h none r can = none r (can_step_in_ahead m ahead s later t r is h can)

pub label_same_ahead : {T : Type 0} (m : Machine T) (ahead : List ℕ) (s later : State T) (t r : ℕ) → lead_of_thread ahead t ≡ 0 → IsThreadAhead m ahead s later
    → label m later (t, r) ≡ label m s (t, r)
label_same_ahead m ahead s later t r is h =
    ap (λ x. emitted (act_of (m.ask x) r) (later.objects (target (act_of (m.ask x) r)))) (not_ahead_is_same m ahead s later t is h)
    ∙ ap (λ objects. emitted (act_of (m.ask (s.now t)) r) (objects (target (act_of (m.ask (s.now t)) r)))) h.objects

thread_same_ahead_step : {T : Type 0} (m : Machine T) (ahead : List ℕ) (s later : State T) (t r : ℕ) → lead_of_thread ahead t ≡ 0 → IsThreadAhead m ahead s later
    → (after m later (t, r)).now t ≡ (after m s (t, r)).now t
unfolding after
thread_same_ahead_step m ahead s later t r is h = upd_at_own_place later.now t _
    ∙ ap (λ x. m.take x (reply (act_of (m.ask x) r) (later.objects (target (act_of (m.ask x) r))))) (not_ahead_is_same m ahead s later t is h)
    ∙ ap (λ objects. m.take (s.now t) (reply (act_of (m.ask (s.now t)) r) (objects (target (act_of (m.ask (s.now t)) r))))) h.objects
    ∙ sym (upd_at_own_place s.now t _)

objects_same_ahead_step : {T : Type 0} (m : Machine T) (ahead : List ℕ) (s later : State T) (t r : ℕ) → lead_of_thread ahead t ≡ 0 → IsThreadAhead m ahead s later
    → (after m later (t, r)).objects ≡ (after m s (t, r)).objects
unfolding after
objects_same_ahead_step m ahead s later t r is h =
    ap (λ x. upd later.objects (target (act_of (m.ask x) r)) (acted (act_of (m.ask x) r) t (later.objects (target (act_of (m.ask x) r)))))
    (not_ahead_is_same m ahead s later t is h)
    ∙ ap (λ objects. upd objects (target (act_of (m.ask (s.now t)) r))
    (acted (act_of (m.ask (s.now t)) r) t (objects (target (act_of (m.ask (s.now t)) r))))) h.objects

pub ahead_after_both : {T : Type 0} (m : Machine T) (ahead : List ℕ) (s later : State T) (t r : ℕ) → lead_of_thread ahead t ≡ 0 → IsThreadAhead m ahead s later
    → IsThreadAhead m ahead (after m s (t, r)) (after m later (t, r))
ahead_after_both m ahead s later t r is h = record {
  threads = λ u. elim (cases_eq u t) [
    | inl e ↦ subst (λ z. (after m later (t, r)).now z ≡ alone m (lead_of_thread ahead z) ((after m s (t, r)).now z)) (sym e)
        (thread_same_ahead_step m ahead s later t r is h ∙ ap (λ j. alone m j ((after m s (t, r)).now t)) (sym is))
    | inr ne ↦ other_step_same_thread m later t r u ne ∙ h.threads u ∙ ap (alone m (lead_of_thread ahead u)) (sym (other_step_same_thread m s t r u ne))
  ];
  each = λ u j below. elim (cases_eq u t) [
    | inl e ↦ absurd (let none : lead_of_thread ahead u ≡ 0 = ap (lead_of_thread ahead) e ∙ is in omega (arith, below, none))
    | inr ne ↦ ap (λ x. m.ask (alone m j x)) (other_step_same_thread m s t r u ne) ∙ h.each u j below
  ];
  objects = objects_same_ahead_step m ahead s later t r is h;
}

-- ---- private steps of one thread

pub private_steps_run_alone : {T : Type 0} (m : Machine T) (t k : ℕ) (s : State T)
    → ((j : ℕ) → j < k → m.ask ((end m s (replicate j (t, 0))).now t) ≡ Private)
    → (end m s (replicate k (t, 0))).now t ≡ alone m k (s.now t)
private_steps_run_alone m t zero s each = refl
private_steps_run_alone m t (suc k) s each = private_steps_run_alone m t k (after m s (t, 0)) (λ j l. each (suc j) (omega (arith, l)))
    ∙ ap (alone m k) (private_takes_zero m s t (each 0 (omega arith)))

pub repeats_keep_others : {T : Type 0} (m : Machine T) (t k u : ℕ) → u ≢ t → (s : State T) → (end m s (replicate k (t, 0))).now u ≡ s.now u
repeats_keep_others m t zero u ne s = refl
repeats_keep_others m t (suc k) u ne s = repeats_keep_others m t k u ne (after m s (t, 0)) ∙ other_step_same_thread m s t 0 u ne

private_keeps_objects : {T : Type 0} (m : Machine T) (t k : ℕ) (s : State T)
    → ((j : ℕ) → j < k → m.ask ((end m s (replicate j (t, 0))).now t) ≡ Private) → (end m s (replicate k (t, 0))).objects ≡ s.objects
private_keeps_objects m t zero s each = refl
private_keeps_objects m t (suc k) s each = private_keeps_objects m t k (after m s (t, 0)) (λ j l. each (suc j) (omega (arith, l)))
    ∙ private_same_objects m s t (each 0 (omega arith))

pub lead_set_after_private : {T : Type 0} (m : Machine T) (ahead : List ℕ) (s later : State T) (t k : ℕ) → t < length ahead → lead_of_thread ahead t ≡ 0
    → IsThreadAhead m ahead s later
    → ((j : ℕ) → j < k → m.ask ((end m later (replicate j (t, 0))).now t) ≡ Private)
    → IsThreadAhead m (set ahead t k) s (end m later (replicate k (t, 0)))
lead_set_after_private m ahead s later t k l is h each =
    let own : lead_of_thread (set ahead t k) t ≡ k = get_or-set_same ahead t k 0 l in
    let here : later.now t ≡ s.now t = not_ahead_is_same m ahead s later t is h in
    record {
      threads = λ u. elim (cases_eq u t) [
        | inl e ↦ subst (λ z. (end m later (replicate k (t, 0))).now z ≡ alone m (lead_of_thread (set ahead t k) z) (s.now z)) (sym e)
            (private_steps_run_alone m t k later each ∙ ap (alone m k) here ∙ ap (λ j. alone m j (s.now t)) (sym own))
        | inr ne ↦ repeats_keep_others m t k u ne later ∙ h.threads u ∙ ap (λ j. alone m j (s.now u)) (sym (get_or-set_other ahead t u k 0 ne))
      ];
      each = λ u j below. elim (cases_eq u t) [
        | inl e ↦ subst (λ z. m.ask (alone m j (s.now z)) ≡ Private) (sym e)
            (let less : j < k = (let at : j < lead_of_thread (set ahead t k) t = subst (λ z. j < lead_of_thread (set ahead t k) z) e below in
            omega (arith, at, own)) in
            ap (λ x. m.ask (alone m j x)) (sym here)
            ∙ ap m.ask (sym (private_steps_run_alone m t j later (λ i below'. each i (omega (arith, below', less))))) ∙ each j less)
        | inr ne ↦ h.each u j (let same = get_or-set_other ahead t u k 0 ne in omega (arith, below, same))
      ];
      objects = private_keeps_objects m t k later each ∙ h.objects;
    }

-- ---- no thread ahead

pub zero_leads_ahead : {T : Type 0} (m : Machine T) (ahead : List ℕ) (s : State T) → ((t : ℕ) → lead_of_thread ahead t ≡ 0) → IsThreadAhead m ahead s s
zero_leads_ahead m ahead s none = record {
  threads = λ t. ap (λ k. alone m k (s.now t)) (sym (none t));
  each = λ t k below. absurd (let is = none t in omega (arith, below, is));
  objects = refl;
}

pub ahead_by_none_is_same : {T : Type 0} (m : Machine T) (ahead : List ℕ) (s later : State T) → ((t : ℕ) → lead_of_thread ahead t ≡ 0) → IsThreadAhead m ahead s later
    → later ≡ s
ahead_by_none_is_same {T} m ahead s later none h =
    let threads : later.now ≡ s.now = fun_ext (λ t. not_ahead_is_same m ahead s later t (none t) h) in
    λ i. record { now = threads i; objects = h.objects i }
