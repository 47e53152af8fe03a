-- How many have entered an object for reading at its version.
use Rattle.std.proofs.Common.{◌≡◌, ◌≢◌, ℕ, suc, zero, ◌+◌, ◌<◌, ◌≤◌, Bool, true, false, cond, eqb, Option, Some, None, refl, sym, ap, ◌∙◌, subst, arith, inl, inr, eq-eqb, ne_eqb}
use Rattle.std.proofs.lemmas.Bool.{cases_eq}
use Rattle.ir_runs.specs.Machine.{Act, Silent, Replied, Entered, TryFailed, Left, Got, Stored, Never, Machine, upd, Object, target, Admits, acted, emitted, Label, EnteredAt}
use Rattle.ir_runs.specs.Lawful.{IsLawful}
use Rattle.ir_runs.specs.declared.access.Access.{Access}
use Rattle.ir_runs.specs.declared.access.Access.TheVariants.{Reading, Writing}
use Rattle.ir_runs.proofs.Tables.{upd_at_own_place, upd_at_other_place, upd_by_cases}
use Rattle.ir_runs.specs.Run.{act, State, Step, Can, after, label}
use Rattle.ir_runs.specs.Bounds.{IsStart}
use Rattle.ir_runs.proofs.Good.{Exclusive, InsideForAct, StateInvariant, inside_for_act_of_step}
use Rattle.ir_runs.specs.Verdicts.{reads_one, sum_below}

pub sum_below_cong : (n : ℕ) (f g : ℕ → ℕ) → ((t : ℕ) → t < n → f t ≡ g t) → sum_below n f ≡ sum_below n g
sum_below_cong zero f g h = refl
sum_below_cong (suc n) f g h = omega (arith, h n (omega arith), sum_below_cong n f g (λ t l. h t (omega arith)))

pub sum_below_one_greater : (n t : ℕ) (f g : ℕ → ℕ) → t < n → g t ≡ suc (f t) → ((u : ℕ) → u ≢ t → g u ≡ f u) → sum_below n g ≡ suc (sum_below n f)
sum_below_one_greater zero t f g l h k = absurd (omega arith)
sum_below_one_greater (suc n) t f g l h k = elim (cases_eq n t) [
  | inl e ↦ omega (arith, ap f e, ap g e, h, sum_below_cong n g f (λ u less. k u (omega arith)))
  | inr ne ↦ omega (arith, k n ne, sum_below_one_greater n t f g (omega arith) h k)
]

pub sum_below_is_monotone : (n : ℕ) (f g : ℕ → ℕ) → ((u : ℕ) → f u ≤ g u) → sum_below n f ≤ sum_below n g
sum_below_is_monotone zero f g k = omega arith
sum_below_is_monotone (suc n) f g k = omega (arith, k n, sum_below_is_monotone n f g k)

pub sum_below_less : (n t : ℕ) (f g : ℕ → ℕ) → t < n → f t < g t → ((u : ℕ) → f u ≤ g u) → sum_below n f < sum_below n g
sum_below_less zero t f g l h k = absurd (omega arith)
sum_below_less (suc n) t f g l h k = elim (cases_eq n t) [
  | inl e ↦ omega (arith, ap f e, ap g e, h, sum_below_is_monotone n f g k)
  | inr ne ↦ omega (arith, k n, sum_below_less n t f g (omega arith) h k)
]

pub sum_below_of_zeros : (n : ℕ) (f : ℕ → ℕ) → ((t : ℕ) → t < n → f t ≡ 0) → sum_below n f ≡ 0
sum_below_of_zeros zero f h = refl
sum_below_of_zeros (suc n) f h = omega (arith, h n (omega arith), sum_below_of_zeros n f (λ t l. h t (omega arith)))

abbrev pub one_if_reader : Option Access → ℕ
one_if_reader None = 0
one_if_reader (Some Reading) = 1
one_if_reader (Some Writing) = 0

abbrev pub readers_inside : ℕ → Object → ℕ
readers_inside n b = sum_below n (λ t. one_if_reader (b.inside t))

-- c o v t is how many times t has entered o for reading at version v
pub record Tally {T : Type 0} (n : ℕ) (s : State T) (c : ℕ → ℕ → ℕ → ℕ) : Type 0 where
  pub balance : (o : ℕ) → (s.objects o).left + readers_inside n (s.objects o) ≡ sum_below n (c o (s.objects o).version)
  pub later : (o v t : ℕ) → (s.objects o).version < v → c o v t ≡ 0

-- one more, where the label is a read entry
abbrev pub counted_read : ℕ → ℕ → Label → ℕ → ℕ → ℕ
counted_read o v k t u = cond (eqb u t) (reads_one o v k) 0

sum_below_plus_zero : (n t : ℕ) (f : ℕ → ℕ) → sum_below n f ≡ sum_below n (λ u. f u + cond (eqb u t) 0 0)
sum_below_plus_zero n t f = sum_below_cong n _ _ (λ u _. none (eqb u t) (f u))
  where
    none : (b : Bool) (k : ℕ) → k ≡ k + cond b 0 0
    none true k = let g : k ≡ k + 0 = omega arith in g
    none false k = let g : k ≡ k + 0 = omega arith in g

reads_one_of_own_entry : (o v : ℕ) → reads_one o v (EnteredAt o Reading v 0) ≡ 1
reads_one_of_own_entry o v = ap (λ b. cond b (cond (eqb v v) 1 0) 0) (eq-eqb o o refl) ∙ ap (λ b. cond b 1 0) (eq-eqb v v refl)

sum_below_plus_one : (n t : ℕ) (f : ℕ → ℕ) (k : ℕ) → t < n → k ≡ 1 → sum_below n (λ u. f u + cond (eqb u t) k 0) ≡ suc (sum_below n f)
sum_below_plus_one n t f k l is = sum_below_one_greater n t f (λ u. f u + cond (eqb u t) k 0) l
    (ap (λ b. f t + cond b k 0) (eq-eqb t t refl) ∙ one (f t) k is)
    (λ u ne. ap (λ b. f u + cond b k 0) (ne_eqb u t ne) ∙ nothing (f u))
  where
    one : (a k : ℕ) → k ≡ 1 → a + k ≡ suc a
    one a k h = omega arith

    nothing : (a : ℕ) → a + 0 ≡ a
    nothing a = omega arith

readers_after_entry : (n t : ℕ) (b : Object) → t < n → b.inside t ≡ None
    → sum_below n (λ u. one_if_reader (upd b.inside t (Some Reading) u)) ≡ suc (readers_inside n b)
readers_after_entry n t b l i = sum_below_one_greater n t (λ u. one_if_reader (b.inside u)) (λ u. one_if_reader (upd b.inside t (Some Reading) u)) l
    (ap one_if_reader (upd_at_own_place b.inside t (Some Reading)) ∙ ap (λ z. suc (one_if_reader z)) (sym i))
    (λ u ne. ap one_if_reader (upd_at_other_place b.inside t u (Some Reading) ne))

readers_before_leave : (n t : ℕ) (b : Object) → t < n → b.inside t ≡ Some Reading
    → readers_inside n b ≡ suc (sum_below n (λ u. one_if_reader (upd b.inside t None u)))
readers_before_leave n t b l i = sum_below_one_greater n t (λ u. one_if_reader (upd b.inside t None u)) (λ u. one_if_reader (b.inside u)) l
    (ap one_if_reader i ∙ ap (λ z. suc (one_if_reader z)) (sym (upd_at_own_place b.inside t None)))
    (λ u ne. ap one_if_reader (sym (upd_at_other_place b.inside t u None ne)))

reads_balance_after_act : {T : Type 0} (m : Machine T) (n t : ℕ) (q : Act) (b : Object) → t < n → Exclusive b → InsideForAct q (b.inside t) → Admits m q b
    → (f : ℕ → ℕ → ℕ) → b.left + readers_inside n b ≡ sum_below n (f b.version) → ((v u : ℕ) → b.version < v → f v u ≡ 0)
    → (acted q t b).left + readers_inside n (acted q t b) ≡ sum_below n
    (λ u. f (acted q t b).version u + counted_read (target q) (acted q t b).version (emitted q b) t u)
reads_balance_after_act m n t Silent b l ex i h f bal later = bal ∙ sum_below_plus_zero n t (f b.version)
reads_balance_after_act m n t (TryFailed _) b l ex i h f bal later = bal ∙ sum_below_plus_zero n t (f b.version)
reads_balance_after_act m n t (Replied k res) b l ex i h f bal later = bal ∙ sum_below_plus_zero n t (f b.version)
reads_balance_after_act m n t (Entered o Reading ans) b l ex i h f bal later =
    omega (
      arith,
      bal,
      readers_after_entry n t b l i,
      sum_below_plus_one n t (f b.version) (reads_one o b.version (EnteredAt o Reading b.version 0)) l
          (reads_one_of_own_entry o b.version),
    )
reads_balance_after_act m n t (Entered o Writing ans) b l ex i h f bal later =
    ap (λ z. b.left + z) (sum_below_cong n _ _ (λ u _. upd_by_cases b.inside t (Some Writing) u (λ z. one_if_reader z ≡ one_if_reader (b.inside u))
    (λ e. ap one_if_reader (sym (h u))) (λ _. refl))) ∙ bal ∙ sum_below_plus_zero n t (f b.version)
reads_balance_after_act m n t (Left o Reading) b l ex i h f bal later = omega (arith, bal, readers_before_leave n t b l i, sum_below_plus_zero n t (f b.version))
reads_balance_after_act m n t (Left o Writing) b l ex i h f bal later =
    omega (
      arith,
      sum_below_of_zeros n (λ u. one_if_reader (upd b.inside t None u))
          (λ u _. upd_by_cases b.inside t None u (λ z. one_if_reader z ≡ 0) (λ _. refl) (λ ne. ap one_if_reader (ex t u (λ e. ne (sym e)) i))),
      sum_below_plus_zero n t
          (f (suc b.version)),
      sum_below_of_zeros n (f (suc b.version)) (λ u _. later (suc b.version) u (omega arith)),
    )
reads_balance_after_act m n t (Got o j) b l ex i h f bal later = bal ∙ sum_below_plus_zero n t (f b.version)
reads_balance_after_act m n t (Stored o j w) b l ex i h f bal later = bal ∙ sum_below_plus_zero n t (f b.version)
reads_balance_after_act m n t Never b l ex i h f bal later = absurd h

-- what is emitted is of the object that is asked about, at its version
no_read_of_other_object : (q : Act) (b : Object) (o v : ℕ) → o ≢ target q → reads_one o v (emitted q b) ≡ 0
no_read_of_other_object Silent b o v ne = refl
no_read_of_other_object (TryFailed _) b o v ne = refl
no_read_of_other_object (Replied k res) b o v ne = refl
no_read_of_other_object (Entered p Reading ans') b o v ne = ap (λ z. cond z (cond (eqb b.version v) 1 0) 0) (ne_eqb p o (λ e. ne (sym e)))
no_read_of_other_object (Entered p Writing ans') b o v ne = refl
no_read_of_other_object (Left p a) b o v ne = refl
no_read_of_other_object (Got p j) b o v ne = refl
no_read_of_other_object (Stored p j w) b o v ne = refl
no_read_of_other_object Never b o v ne = refl

no_read_of_later_version : (q : Act) (b : Object) (o v : ℕ) → b.version < v → reads_one o v (emitted q b) ≡ 0
no_read_of_later_version Silent b o v l = refl
no_read_of_later_version (TryFailed _) b o v l = refl
no_read_of_later_version (Replied k res) b o v l = refl
no_read_of_later_version (Entered p Reading ans') b o v l = ap (λ z. cond (eqb p o) (cond z 1 0) 0) (ne_eqb b.version v (λ e. omega arith))
    ∙ zeros (eqb p o)
  where
    zeros : (b : Bool) → ◌≡◌ {A = ℕ} (cond b 0 0) 0
    zeros true = refl
    zeros false = refl
no_read_of_later_version (Entered p Writing ans') b o v l = refl
no_read_of_later_version (Left p a) b o v l = refl
no_read_of_later_version (Got p j) b o v l = refl
no_read_of_later_version (Stored p j w) b o v l = refl
no_read_of_later_version Never b o v l = refl

pub act_never_lowers_version : (q : Act) (t : ℕ) (b : Object) → b.version ≤ (acted q t b).version
act_never_lowers_version Silent t b = omega arith
act_never_lowers_version (TryFailed _) t b = omega arith
act_never_lowers_version (Replied k res) t b = omega arith
act_never_lowers_version (Entered o a ans) t b = omega arith
act_never_lowers_version (Left o Reading) t b = omega arith
act_never_lowers_version (Left o Writing) t b = omega arith
act_never_lowers_version (Got o j) t b = omega arith
act_never_lowers_version (Stored o j w) t b = omega arith
act_never_lowers_version Never t b = omega arith

count_zero_if_both_zero : (c k : ℕ) (b : Bool) → c ≡ 0 → k ≡ 0 → c + cond b k 0 ≡ 0
count_zero_if_both_zero c k true h g = let z : c + k ≡ 0 = omega arith in z
count_zero_if_both_zero c k false h g = let z : c + 0 ≡ 0 = omega arith in z

pub tally_after_step : {T : Type 0} (m : Machine T) → IsLawful m → (n : ℕ) (s : State T) → StateInvariant m s → (c : ℕ → ℕ → ℕ → ℕ) → Tally n s c
    → (e : Step) → Can m s e → e.0 < n → Tally n (after m s e) (λ o v u. c o v u + counted_read o v (label m s e) e.0 u)
unfolding after
tally_after_step m law n s good c tally e can l =
    let q : Act = act m s e in
    let b : Object = s.objects (target q) in
    record {
      balance = λ o. upd_by_cases s.objects (target q) (acted q e.0 b) o
          (λ d. d.left + readers_inside n d ≡ sum_below n (λ u. c o d.version u + counted_read o d.version (label m s e) e.0 u))
          (λ here. subst (λ z. (acted q e.0 b).left + readers_inside n (acted q e.0 b) ≡ sum_below n
          (λ u. c z (acted q e.0 b).version u + counted_read z (acted q e.0 b).version (label m s e) e.0 u)) (sym here)
          (reads_balance_after_act m n e.0 q b l (good.exclusive (target q)) (inside_for_act_of_step m law s good e) can (c (target q)) (tally.balance (target q))
          (tally.later (target q))))
          (λ other. tally.balance o ∙ sum_below_cong n _ _
          (λ u _. absent (c o (s.objects o).version u) (reads_one o (s.objects o).version (label m s e)) (eqb u e.0)
          (no_read_of_other_object q b o (s.objects o).version other)));
      later = λ o v t. upd_by_cases s.objects (target q) (acted q e.0 b) o (λ d. d.version < v → c o v t + counted_read o v (label m s e) e.0 t ≡ 0)
          (λ here less. let z : b.version < v = omega (arith, less, act_never_lowers_version q e.0 b) in
          count_zero_if_both_zero (c o v t) (reads_one o v (label m s e)) (eqb t e.0)
          (subst (λ w. c w v t ≡ 0) (sym here) (tally.later (target q) v t z)) (no_read_of_later_version q b o v z))
          (λ other less. count_zero_if_both_zero (c o v t) (reads_one o v (label m s e)) (eqb t e.0) (tally.later o v t less)
          (no_read_of_other_object q b o v other));
    }
  where
    absent : (c k : ℕ) (b : Bool) → k ≡ 0 → c ≡ c + cond b k 0
    absent c k true h = let z : c ≡ c + k = omega arith in z
    absent c k false h = let z : c ≡ c + 0 = omega arith in z

pub tally_at_start : {T : Type 0} (m : Machine T) (n : ℕ) (s : State T) → IsStart m s → Tally n s (λ o v u. 0)
tally_at_start m n s h = record {
  balance = λ o. omega (
    arith,
    h.left o,
    sum_below_of_zeros n (λ t. one_if_reader ((s.objects o).inside t)) (λ t _. ap one_if_reader (h.inside o t)),
    sum_below_of_zeros
        n (λ t. 0) (λ t _. refl),
  );
  later = λ o v t l. refl;
}
