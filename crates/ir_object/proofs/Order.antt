-- Object steps in one order: one step more, and what a thread's own steps emit.
use Rattle.std.proofs.Common.{◌≡◌, ◌≢◌, ℕ, ◌≤◌, eqb, List, [], ◌∷◌, ◌++◌, Option, Some, None, refl, sym, ap, ◌∙◌, subst, arith, inl, inr, eq-eqb, ne_eqb}
use Rattle.std.proofs.lemmas.Bool.{cases_eq}
use Rattle.ir_runs.specs.Machine.{Act, Silent, Replied, Entered, TryFailed, Left, Got, Stored, Never, Machine, upd, Object, target, Admits, acted, emitted}
use Rattle.ir_runs.specs.Run.{join_if}
use Rattle.ir_runs.specs.declared.access.Access.{Access}
use Rattle.ir_runs.specs.declared.access.Access.TheVariants.{Reading, Writing}
use Rattle.ir_object.specs.Order.{Shared, of_thread, objects_then, objects_after, IsAllowedStep, order_labels, IsObjectStep, IsLegal, inside_then, inside_if, inside_after}
use Rattle.ir_runs.proofs.CallerLemmas.{upd_at_own_place, upd_at_other_place, upd_by_cases, join_if-append}

-- ---- one step more

pub of_thread_of_append : {A : Type 0} (t : ℕ) (xs ys : List (ℕ × A)) → of_thread t (xs ++ ys) ≡ of_thread t xs ++ of_thread t ys
of_thread_of_append t [] ys = refl
of_thread_of_append t (x ∷ xs) ys = ap (join_if (eqb t x.0) x.1) (of_thread_of_append t xs ys) ∙ join_if-append (eqb t x.0) x.1 (of_thread t xs) (of_thread t ys)

pub of_thread_own_step : {A : Type 0} (t : ℕ) (xs : List (ℕ × A)) (x : A) → of_thread t (xs ++ (t, x) ∷ []) ≡ of_thread t xs ++ x ∷ []
of_thread_own_step t xs x = of_thread_of_append t xs ((t, x) ∷ []) ∙ ap (λ b. of_thread t xs ++ join_if b x []) (eq-eqb t t refl)

append_of_empty : {A : Type 0} (xs : List A) → xs ++ [] ≡ xs
append_of_empty [] = refl
append_of_empty (x ∷ xs) = ap (λ z. x ∷ z) (append_of_empty xs)

pub of_thread_other_step : {A : Type 0} (t u : ℕ) (xs : List (ℕ × A)) (x : A) → u ≢ t → of_thread u (xs ++ (t, x) ∷ []) ≡ of_thread u xs
of_thread_other_step t u xs x ne = of_thread_of_append u xs ((t, x) ∷ []) ∙ ap (λ b. of_thread u xs ++ join_if b x []) (ne_eqb u t ne)
    ∙ append_of_empty (of_thread u xs)

pub objects_after_step : (f : ℕ → Object) (xs : List (ℕ × Shared)) (x : ℕ × Shared)
    → objects_after f (xs ++ x ∷ []) ≡ objects_then (objects_after f xs) x
objects_after_step f [] x = refl
objects_after_step f (y ∷ xs) x = objects_after_step (objects_then f y) xs x

pub order_labels_after_step : (f : ℕ → Object) (xs : List (ℕ × Shared)) (x : ℕ × Shared)
    → order_labels f (xs ++ x ∷ []) ≡ order_labels f xs ++ (x.0, emitted x.1.0 (objects_after f xs (target x.1.0))) ∷ []
order_labels_after_step f [] x = refl
order_labels_after_step f (y ∷ xs) x = ap (λ z. (y.0, emitted y.1.0 (f (target y.1.0))) ∷ z) (order_labels_after_step (objects_then f y) xs x)

pub legal_order_after_step : {T : Type 0} (m : Machine T) (n count : ℕ) (f : ℕ → Object) (xs : List (ℕ × Shared)) (x : ℕ × Shared)
    → IsLegal m n count f xs → IsObjectStep m n count (objects_after f xs) x → IsLegal m n count f (xs ++ x ∷ [])
legal_order_after_step m n count f [] x l s = (s, tt)
legal_order_after_step m n count f (y ∷ xs) x l s = (l.0, legal_order_after_step m n count (objects_then f y) xs x l.1 s)

pub legal_order_is_allowed : {T : Type 0} (m : Machine T) (n count : ℕ) (f : ℕ → Object) (xs : List (ℕ × Shared)) → IsLegal m n count f xs
    → IsAllowedStep m f xs
legal_order_is_allowed m n count f [] l = tt
legal_order_is_allowed m n count f (x ∷ xs) l = (l.0.admits, l.0.answers, legal_order_is_allowed m n count (objects_then f x) xs l.1)

-- no thread from n on has a step
pub missing_thread_no_steps : {T : Type 0} (m : Machine T) (n count : ℕ) (f : ℕ → Object) (xs : List (ℕ × Shared)) → IsLegal m n count f xs → (t : ℕ)
    → n ≤ t → of_thread t xs ≡ []
missing_thread_no_steps m n count f [] l t g = refl
missing_thread_no_steps m n count f (x ∷ xs) l t g = ap (λ b. join_if b x.1 (of_thread t xs))
    (ne_eqb t x.0 (λ e. let h = l.0.thread in omega (arith, e, g))) ∙ missing_thread_no_steps m n count (objects_then f x) xs l.1 t g

-- ---- how a thread is inside an object, by its own steps

actor_inside_after_act : (q : Act) (t : ℕ) (b : Object) → (acted q t b).inside t ≡ inside_then q (b.inside t)
actor_inside_after_act Silent t b = refl
actor_inside_after_act (Replied k v) t b = refl
actor_inside_after_act (Entered o a v) t b = upd_at_own_place b.inside t (Some a)
actor_inside_after_act (TryFailed o) t b = refl
actor_inside_after_act (Left o Reading) t b = upd_at_own_place b.inside t None
actor_inside_after_act (Left o Writing) t b = upd_at_own_place b.inside t None
actor_inside_after_act (Got o i) t b = refl
actor_inside_after_act (Stored o i w) t b = refl
actor_inside_after_act Never t b = refl

pub other_inside_after_act : (q : Act) (t u : ℕ) (b : Object) → u ≢ t → (acted q t b).inside u ≡ b.inside u
other_inside_after_act Silent t u b ne = refl
other_inside_after_act (Replied k v) t u b ne = refl
other_inside_after_act (Entered o a v) t u b ne = upd_at_other_place b.inside t u (Some a) ne
other_inside_after_act (TryFailed o) t u b ne = refl
other_inside_after_act (Left o Reading) t u b ne = upd_at_other_place b.inside t u None ne
other_inside_after_act (Left o Writing) t u b ne = upd_at_other_place b.inside t u None ne
other_inside_after_act (Got o i) t u b ne = refl
other_inside_after_act (Stored o i w) t u b ne = refl
other_inside_after_act Never t u b ne = refl

pub objects_then_at_target : (f : ℕ → Object) (x : ℕ × Shared) → objects_then f x (target x.1.0) ≡ acted x.1.0 x.0 (f (target x.1.0))
objects_then_at_target f x = upd_at_own_place f (target x.1.0) (acted x.1.0 x.0 (f (target x.1.0)))

pub objects_then_other : (f : ℕ → Object) (x : ℕ × Shared) (o : ℕ) → o ≢ target x.1.0 → objects_then f x o ≡ f o
objects_then_other f x o ne = upd_at_other_place f (target x.1.0) o (acted x.1.0 x.0 (f (target x.1.0))) ne

actor_inside_after_step : (f : ℕ → Object) (t : ℕ) (q : Act) (v o : ℕ)
    → (objects_then f (t, (q, v)) o).inside t ≡ inside_if (eqb o (target q)) q ((f o).inside t)
actor_inside_after_step f t q v o = elim (cases_eq o (target q)) [
  | inl e ↦ ap (λ z. (objects_then f (t, (q, v)) z).inside t) e ∙ ap (λ b. b.inside t) (objects_then_at_target f (t, (q, v)))
      ∙ actor_inside_after_act q t (f (target q))
      ∙ ap (λ z. inside_then q ((f z).inside t)) (sym e) ∙ sym (ap (λ b. inside_if b q ((f o).inside t)) (eq-eqb o (target q) e))
  | inr ne ↦ ap (λ b. b.inside t) (objects_then_other f (t, (q, v)) o ne) ∙ sym (ap (λ b. inside_if b q ((f o).inside t)) (ne_eqb o (target q) ne))
]

others_inside_after_step : (f : ℕ → Object) (x : ℕ × Shared) (t o : ℕ) → t ≢ x.0 → (objects_then f x o).inside t ≡ (f o).inside t
others_inside_after_step f x t o ne = elim (cases_eq o (target x.1.0)) [
  | inl e ↦ ap (λ z. (objects_then f x z).inside t) e ∙ ap (λ b. b.inside t) (objects_then_at_target f x) ∙ other_inside_after_act x.1.0 x.0 t (f (target x.1.0)) ne
      ∙ ap (λ z. (f z).inside t) (sym e)
  | inr nq ↦ ap (λ b. b.inside t) (objects_then_other f x o nq)
]

pub inside_after_order : (f : ℕ → Object) (xs : List (ℕ × Shared)) (t o : ℕ)
    → (objects_after f xs o).inside t ≡ inside_after o ((f o).inside t) (of_thread t xs)
inside_after_order f [] t o = refl
inside_after_order f (x ∷ xs) t o = inside_after_order (objects_then f x) xs t o ∙ elim (cases_eq t x.0) [
  | inl e ↦ subst (λ z. inside_after o ((objects_then f x o).inside z) (of_thread z xs) ≡ inside_after o ((f o).inside z)
      (join_if (eqb z x.0) x.1 (of_thread z xs))) (sym e)
      (ap (λ i. inside_after o i (of_thread x.0 xs)) (actor_inside_after_step f x.0 x.1.0 x.1.1 o)
      ∙ sym (ap (λ b. inside_after o ((f o).inside x.0) (join_if b x.1 (of_thread x.0 xs))) (eq-eqb x.0 x.0 refl)))
  | inr ne ↦ ap (λ i. inside_after o i (of_thread t xs)) (others_inside_after_step f x t o ne)
      ∙ sym (ap (λ b. inside_after o ((f o).inside t) (join_if b x.1 (of_thread t xs))) (ne_eqb t x.0 ne))
]

pub inside_after_step : (o : ℕ) (i : Option Access) (xs : List Shared) (x : Shared)
    → inside_after o i (xs ++ x ∷ []) ≡ inside_if (eqb o (target x.0)) x.0 (inside_after o i xs)
inside_after_step o i [] x = refl
inside_after_step o i (y ∷ xs) x = inside_after_step o (inside_if (eqb o (target y.0)) y.0 i) xs x

-- ---- a writer is alone inside

abbrev pub WriterIsAlone : (ℕ → Option Access) → Type 0
WriterIsAlone inside = (t u : ℕ) → t ≢ u → inside t ≡ Some Writing → inside u ≡ None

entry_writer_is_alone : {T : Type 0} (m : Machine T) (o t v : ℕ) (a : Access) (b : Object) → Admits m (Entered o a v) b → WriterIsAlone b.inside
    → WriterIsAlone (upd b.inside t (Some a))
entry_writer_is_alone m o t v Reading b can h u w ne is = elim (cases_eq u t) [
  | inl e ↦ absurd (cc (sym (upd_at_own_place b.inside t (Some Reading)) ∙ ap (upd b.inside t (Some Reading)) (sym e) ∙ is))
  | inr nq ↦ absurd (can u (sym (upd_at_other_place b.inside t u (Some Reading) nq) ∙ is))
]
entry_writer_is_alone m o t v Writing b can h u w ne is = elim (cases_eq u t) [
  | inl e ↦ upd_at_other_place b.inside t w (Some Writing) (λ k. ne (e ∙ sym k)) ∙ can w
  | inr nq ↦ absurd (cc (sym (upd_at_other_place b.inside t u (Some Writing) nq) ∙ is, can u))
]

writer_alone_after_exit : (t : ℕ) (inside : ℕ → Option Access) → WriterIsAlone inside → WriterIsAlone (upd inside t None)
writer_alone_after_exit t inside h u w ne is = elim (cases_eq u t) [
  | inl e ↦ absurd (cc (sym (upd_at_own_place inside t None) ∙ ap (upd inside t None) (sym e) ∙ is))
  | inr nq ↦ upd_by_cases inside t None w (λ z. z ≡ None) (λ e. refl) (λ e. h u w ne (sym (upd_at_other_place inside t u None nq) ∙ is))
]

pub writer_alone_after_act : {T : Type 0} (m : Machine T) (q : Act) (t : ℕ) (b : Object) → Admits m q b → WriterIsAlone b.inside → WriterIsAlone (acted q t b).inside
writer_alone_after_act m Silent t b can h = h
writer_alone_after_act m (Replied k v) t b can h = h
writer_alone_after_act m (Entered o a v) t b can h = entry_writer_is_alone m o t v a b can h
writer_alone_after_act m (TryFailed o) t b can h = h
writer_alone_after_act m (Left o Reading) t b can h = writer_alone_after_exit t b.inside h
writer_alone_after_act m (Left o Writing) t b can h = writer_alone_after_exit t b.inside h
writer_alone_after_act m (Got o i) t b can h = h
writer_alone_after_act m (Stored o i w) t b can h = h
writer_alone_after_act m Never t b can h = h
