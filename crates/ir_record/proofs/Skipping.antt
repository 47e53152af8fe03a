-- Rounds in which each thread has already taken its step, or has none.
use Rattle.std.proofs.Common.{◌≡◌, ℕ, zero, suc, pred, ◌+◌, ◌-◌, ◌<◌, ◌≤◌, ◌⊎◌, Bool, true, false, List, [], ◌∷◌, length, set, replicate}
use Rattle.std.proofs.Common.{refl, sym, ap, ◌∙◌, subst, arith, inl, inr, get_or-set_same, get_or-set_other, length-set, ext_get_or}
use Rattle.std.proofs.lemmas.Bool.{cases_eq}
use Rattle.std.proofs.lemmas.List.{set-get_or}
use Rattle.std.specs.List.{range_with_len}
use Rattle.ir_thread.specs.State as thread
use Rattle.ir_flat.specs.Flat.{tables, machine}
use Rattle.ir_runs.specs.Machine.{Machine}
use Rattle.ir_runs.specs.Run.{State, rounds, HasNone}
use Rattle.ir_record.specs.Ahead.{lead_of_thread, IsThreadAhead, CanSkip, all_threads_ahead, Went}
use Rattle.ir_record.specs.Progress.{Progress, all_left}
use Rattle.ir_record.proofs.Going.{range_from_zero_push, went_by_no_turns_changes_nothing, went_through_append_of_orders}
use Rattle.ir_record.proofs.Going.{ahead_turn_lowers_lead, went_passed_turn, ahead_of_reached_state, reached, WentRounds, OneMoreRound}
use Rattle.ir_record.proofs.Going.{round_more, fewer_left}
use Rattle.ir_record.proofs.Joining.{rounds_add_up}
use Rattle.ir_record.proofs.Steps.{took_none_if_same}

-- the first n threads are each one step less ahead
abbrev lowered : ℕ → List ℕ → List ℕ
lowered zero c = c
lowered (suc t) c = set (lowered t c) t (pred (lead_of_thread (lowered t c) t))

length_of_lowered : (t : ℕ) (c : List ℕ) → length (lowered t c) ≡ length c
length_of_lowered zero c = refl
length_of_lowered (suc t) c = length-set (lowered t c) t _ ∙ length_of_lowered t c

-- those after them are not yet
lead_lowered_past : (t : ℕ) (c : List ℕ) (u : ℕ) → t ≤ u → lead_of_thread (lowered t c) u ≡ lead_of_thread c u
lead_lowered_past zero c u l = refl
lead_lowered_past (suc t) c u l = get_or-set_other (lowered t c) t u _ 0 (λ e. omega (arith, e, l)) ∙ lead_lowered_past t c u (omega (arith, l))

lead_lowered_below : (t : ℕ) (c : List ℕ) (u : ℕ) → u < t → t ≤ length c → lead_of_thread (lowered t c) u ≡ lead_of_thread c u - 1
lead_lowered_below zero c u l few = absurd (omega (arith, l))
lead_lowered_below (suc t) c u l few = elim (cases_eq u t) [
  | inl e ↦
      let own : lead_of_thread (lowered (suc t) c) t ≡ pred (lead_of_thread (lowered t c) t) =
      get_or-set_same (lowered t c) t _ 0 (let size = length_of_lowered t c in omega (arith, size, few)) in
      let was : lead_of_thread (lowered t c) t ≡ lead_of_thread c t = lead_lowered_past t c t (omega arith) in
      subst (λ z. lead_of_thread (lowered (suc t) c) z ≡ lead_of_thread c z - 1) (sym e) (omega (arith, own, was))
  | inr ne ↦ get_or-set_other (lowered t c) t u _ 0 ne ∙ lead_lowered_below t c u (omega (arith, l, ne)) (omega (arith, few))
]

-- such a turn
skipped_turn_lowers : (s : State thread.ThreadState) (a : Progress) (c : List ℕ) (t : ℕ) → t < length c → (0 < lead_of_thread c t)
    ⊎ HasNone (machine a.flat) (tables a.flat) t → IsThreadAhead (machine a.flat) c s (tables a.flat)
    → Went (t ∷ []) s a c a (set c t (pred (lead_of_thread c t)))
skipped_turn_lowers s a c t l some h = by_lead (lead_of_thread c t) refl some
  where
    by_lead : (k : ℕ) → lead_of_thread c t ≡ k → (0 < k) ⊎ HasNone (machine a.flat) (tables a.flat) t → Went (t ∷ []) s a c a (set c t (pred k))
    by_lead (suc k) is some = (ahead_turn_lowers_lead s a c t k l is h).went
    by_lead zero is (inl some) = absurd (omega (arith, some))
    by_lead zero is (inr none) = subst (Went (t ∷ []) s a c a) (sym (ap (set c t) (sym is) ∙ set-get_or c t 0))
        (went_passed_turn s a a c t false refl is h (took_none_if_same t a a none refl)).went

-- a round of them
skipped_round_lowers : (t : ℕ) (s : State thread.ThreadState) (a : Progress) (c : List ℕ) → t ≤ length c → CanSkip (machine a.flat) t 1 c (tables a.flat)
    → IsThreadAhead (machine a.flat) c s (tables a.flat) → Went (range_with_len 0 t) s a c a (lowered t c)
skipped_round_lowers zero s a c few some h = went_by_no_turns_changes_nothing s a c h
skipped_round_lowers (suc t) s a c few some h =
    let p : Went (range_with_len 0 t) s a c a (lowered t c) =
    skipped_round_lowers t s a c (omega (arith, few)) (λ u l. some u (omega (arith, l))) h in
    let was : lead_of_thread (lowered t c) t ≡ lead_of_thread c t = lead_lowered_past t c t (omega arith) in
    let here : (1 ≤ lead_of_thread (lowered t c) t) ⊎ HasNone (machine a.flat) (tables a.flat) t =
    subst (λ k. (1 ≤ k) ⊎ HasNone (machine a.flat) (tables a.flat) t) (sym was) (some t (omega arith)) in
    let q : Went (t ∷ []) (reached p) a (lowered t c) a (lowered (suc t) c) =
    skipped_turn_lowers (reached p) a (lowered t c) t (let size = length_of_lowered t c in omega (arith, size, few)) here
    (ahead_of_reached_state (range_with_len 0 t) s a a c (lowered t c) p) in
    subst (λ order. Went order s a c a (lowered (suc t) c))
    (range_from_zero_push t ∙ ap (range_with_len 0) (let e : t + 1 ≡ suc t = omega arith in e))
    (went_through_append_of_orders (range_with_len 0 t) (t ∷ []) s a a a c (lowered t c) (lowered (suc t) c) p q)

-- the first of such rounds, and the others
can_skip_one_round : {T : Type 0} (m : Machine T) (n k : ℕ) (c : List ℕ) (later : State T) → CanSkip m n (suc k) c later → CanSkip m n 1 c later
can_skip_one_round m n k c later enough t l = elim (enough t l) [ inl more ↦ inl (omega (arith, more)) | inr none ↦ inr none ]

can_skip_rest : {T : Type 0} (m : Machine T) (n k : ℕ) (c d : List ℕ) (later : State T) → CanSkip m n (suc k) c later
    → ((t : ℕ) → t < n → lead_of_thread d t ≡ lead_of_thread c t - 1) → CanSkip m n k d later
can_skip_rest m n k c d later enough lower t l = elim (enough t l)
    [ inl more ↦ inl (let one = lower t l in omega (arith, more, one)) | inr none ↦ inr none ]

-- such rounds, and how far each thread is ahead after them
record RoundsSkipped (n k : ℕ) (s : State thread.ThreadState) (a : Progress) (c : List ℕ) : Type 0 where
  pub left : List ℕ
  pub size : length left ≡ length c
  pub each : (t : ℕ) → t < n → lead_of_thread left t ≡ lead_of_thread c t - k
  pub went : Went (rounds n k) s a c a left

rounds_skipped : (n k : ℕ) (s : State thread.ThreadState) (a : Progress) (c : List ℕ) → length c ≡ n → CanSkip (machine a.flat) n k c (tables a.flat)
    → IsThreadAhead (machine a.flat) c s (tables a.flat) → RoundsSkipped n k s a c
rounds_skipped n zero s a c size enough h = record { left = c; size = refl; each = λ t l. omega arith; went = went_by_no_turns_changes_nothing s a c h }
rounds_skipped n (suc k) s a c size enough h =
    let p : Went (range_with_len 0 n) s a c a (lowered n c) =
    skipped_round_lowers n s a c (omega (arith, size)) (can_skip_one_round (machine a.flat) n k c (tables a.flat) enough) h in
    let lower : (t : ℕ) → t < n → lead_of_thread (lowered n c) t ≡ lead_of_thread c t - 1 = λ t l. lead_lowered_below n c t l (omega (arith, size)) in
    let q : RoundsSkipped n k (reached p) a (lowered n c) =
    rounds_skipped n k (reached p) a (lowered n c) (length_of_lowered n c ∙ size)
    (can_skip_rest (machine a.flat) n k c (lowered n c) (tables a.flat) enough lower)
    (ahead_of_reached_state (range_with_len 0 n) s a a c (lowered n c) p) in
    record {
      left = q.left;
      size = q.size ∙ length_of_lowered n c;
      each = λ t l. let rest = q.each t l in let one = lower t l in omega (arith, rest, one);
      went = went_through_append_of_orders (range_with_len 0 n) (rounds n k) s a a a c (lowered n c) q.left p q.went;
    }

-- the same, where the code says how far each thread is ahead
went_skipped_rounds : (n k : ℕ) (s : State thread.ThreadState) (a : Progress) (c d : List ℕ) → length c ≡ n → length d ≡ n
    → CanSkip (machine a.flat) n k c (tables a.flat) → ((t : ℕ) → t < n → lead_of_thread d t ≡ lead_of_thread c t - k)
    → IsThreadAhead (machine a.flat) c s (tables a.flat) → Went (rounds n k) s a c a d
went_skipped_rounds n k s a c d size size' enough each h =
    let q : RoundsSkipped n k s a c = rounds_skipped n k s a c size enough h in
    subst (Went (rounds n k) s a c a) (ext_get_or 0 q.left d (q.size ∙ size ∙ sym size')
    (λ t l. let less : t < n = omega (arith, l, q.size, size) in q.each t less ∙ sym (each t less))) q.went

-- a round that was taken after some, and further rounds that were skipped
pub record RoundThenSkips (moved : Bool) (a b e : Progress) (d h : List ℕ) : Type 0 where
  pub rounding : WentRounds (length a.flat.threads) a e h
  pub fewer : moved ≡ true → all_left (length e.flat.threads) (tables e.flat).now + all_threads_ahead h
      < all_left (length b.flat.threads) (tables b.flat).now + all_threads_ahead d

pub round_then_skips : {moved : Bool} {a b e : Progress} {d f h : List ℕ} (k : ℕ) → OneMoreRound moved a b e d f → length f ≡ length e.flat.threads
    → length h ≡ length f → CanSkip (machine e.flat) (length e.flat.threads) k f (tables e.flat)
    → ((t : ℕ) → t < length f → lead_of_thread h t ≡ lead_of_thread f t - k) → RoundThenSkips moved a b e d h
round_then_skips {moved} {a} {b} {e} {d} {f} {h} k r places size enough each =
    let n : ℕ = length a.flat.threads in
    let p : WentRounds n a e f = round_more r in
    let count : length f ≡ n = places ∙ p.1.threads in
    let w : Went (rounds n k) (reached p.1) e f e h = went_skipped_rounds n k (reached p.1) e f h count (size ∙ count)
    (subst (λ m. CanSkip (machine e.flat) m k f (tables e.flat)) p.1.threads enough) (λ t l. each t (omega (arith, l, count)))
    (ahead_of_reached_state (rounds n p.0) (tables a.flat) a e (replicate n 0) f p.1) in
    record {
      rounding = (
        p.0 + k,
        subst (λ order. Went order (tables a.flat) a (replicate n 0) e h) (rounds_add_up n p.0 k)
            (went_through_append_of_orders (rounds n p.0) (rounds n k) (tables a.flat) a e e (replicate n 0) f h p.1 w),
      );
      fewer = λ is.
          let least = w.fewer in
          let less = subst (λ m. all_left m (tables e.flat).now + all_threads_ahead f
          < all_left (length b.flat.threads) (tables b.flat).now + all_threads_ahead d) (sym r.next.went.threads) (fewer_left r is) in
          omega (arith, least, less);
    }
