-- The threads and objects after a step, as lists.
use Rattle.std.proofs.Common.{◌≡◌, ◌≢◌, ℕ, zero, suc, ◌<◌, List, length, set, get_or, Option, Some, None, refl, sym, ap, ◌∙◌, subst, arith, inl, inr, get_or-set_same, get_or-set_other}
use Rattle.std.proofs.Math.Path.{fun_ext}
use Rattle.std.specs.Prelude.{slice_set}
use Rattle.std.proofs.lemmas.Bool.{cases_eq}
use Rattle.ir_image.specs.Guest.{most_object_words}
use Rattle.ir_thread.specs.Permitted.{Permits}
use Rattle.ir_thread.specs.State.{held_at, ask_of, after_ask, after_reply, shared_ask, reply_of}
use Rattle.ir_runs.specs.Machine.{act_of, upd, Left, Stored, target, acted, reply}
use Rattle.ir_thread.specs.State as thread
use Rattle.ir_runs.specs.declared.access.Access.{Access}
use Rattle.ir_runs.specs.declared.access.Access.TheVariants.{Reading, Writing}
use Rattle.ir_thread.specs.declared.ask.Ask.{Ask}
use Rattle.ir_thread.specs.declared.ask.Ask.TheVariants.{Private, Env, Enter, Try, Leave, Get, Put, Print, End, Done}
use Rattle.ir_thread.specs.declared.ask.Reply.TheVariants.{Go, Value}
use Rattle.ir_object.specs.Cell.{Cell}
use Rattle.ir_object.specs.Empty.{empty}
use Rattle.ir_object.specs.Word.{entered_word, left_by}
use Rattle.ir_runs.proofs.CallerLemmas.{upd_at_own_place, upd_at_other_place, upd_by_cases, upd_with_old_value, objects_equal_by_parts}
use Rattle.ir_flat.specs.Flat.{Flat, idle, thread_of, cell_of, inside_of, tables, machine, IsFlat}
use Rattle.ir_flat.specs.Room.{object_with}
use Rattle.ir_flat.specs.Next.{with_thread, with_object, next, MayStep}
use Rattle.ir_runs.specs.Run.{State, after}

-- a write to a list is a change of its table
pub get_or_of_set_is_upd : {A : Type 0} (xs : List A) (i : ℕ) (v d : A) → i < length xs → (λ j. get_or (set xs i v) j d) ≡ upd (λ j. get_or xs j d) i v
get_or_of_set_is_upd xs i v d l = fun_ext (λ j. elim (cases_eq j i) [
  | inl e ↦ ap (λ z. get_or (set xs i v) z d) e ∙ get_or-set_same xs i v d l ∙ sym (upd_at_own_place (λ j. get_or xs j d) i v)
      ∙ ap (upd (λ j. get_or xs j d) i v) (sym e)
  | inr ne ↦ get_or-set_other xs i j v d ne ∙ sym (upd_at_other_place (λ j. get_or xs j d) i j v ne)
])

-- who is inside goes with the thread that is changed
pub inside_of_with_thread : (f : Flat) (t : ℕ) (y : thread.ThreadState) (o : ℕ) → t < length f.threads
    → inside_of (with_thread f t y) o ≡ upd (inside_of f o) t (held_at y.held o)
inside_of_with_thread f t y o l =
    ap (λ now u. held_at (now u).held o) (get_or_of_set_is_upd f.threads t y idle l) ∙ fun_ext (λ u.
    upd_by_cases (thread_of f) t y u (λ z. held_at z.held o ≡ upd (inside_of f o) t (held_at y.held o) u)
    (λ e. sym (ap (upd (inside_of f o) t (held_at y.held o)) e ∙ upd_at_own_place (inside_of f o) t (held_at y.held o)))
    (λ ne. sym (upd_at_other_place (inside_of f o) t u (held_at y.held o) ne)))

-- states with the same tables
pub states_equal_from_parts : (a b : State thread.ThreadState) → a.now ≡ b.now → a.objects ≡ b.objects → a ≡ b
states_equal_from_parts a b p q = λ i. record { now = p i; objects = q i }

-- a thread that holds what it held changes no object
pub tables_of_with_thread : (f : Flat) (t : ℕ) (y : thread.ThreadState) → t < length f.threads → y.held ≡ (thread_of f t).held
    → tables (with_thread f t y) ≡ record { now = upd (thread_of f) t y; objects = (tables f).objects }
tables_of_with_thread f t y l same = states_equal_from_parts (tables (with_thread f t y)) (record { now = upd (thread_of f) t y; objects = (tables f).objects })
    (get_or_of_set_is_upd f.threads t y idle l)
    (fun_ext (λ o. ap (object_with (cell_of f o))
    (inside_of_with_thread f t y o l ∙ upd_with_old_value (inside_of f o) t (held_at y.held o) (ap (λ h. held_at h o) (sym same)))))

-- a thread that changes what it holds of one object changes that one
pub tables_of_with_object : (f : Flat) (t : ℕ) (y : thread.ThreadState) (o : ℕ) (c : Cell) → t < length f.threads → o < length f.objects
    → ((i : ℕ) → i ≢ o → held_at y.held i ≡ held_at (thread_of f t).held i)
    → tables (with_object (with_thread f t y) o c) ≡
    record { now = upd (thread_of f) t y; objects = upd (tables f).objects o (object_with c (upd (inside_of f o) t (held_at y.held o))) }
tables_of_with_object f t y o c l k same = states_equal_from_parts (tables (with_object (with_thread f t y) o c))
    (record { now = upd (thread_of f) t y; objects = upd (tables f).objects o (object_with c (upd (inside_of f o) t (held_at y.held o))) })
    (get_or_of_set_is_upd f.threads t y idle l)
    (fun_ext (λ i.
    let b : ℕ → Cell = λ j. cell_of f j in
    ap (λ z. object_with z (inside_of (with_thread f t y) i)) (ap (λ table. table i) (get_or_of_set_is_upd f.objects o c empty k))
    ∙ ap (object_with (upd b o c i)) (inside_of_with_thread f t y i l)
    ∙ upd_by_cases (tables f).objects o (object_with c (upd (inside_of f o) t (held_at y.held o))) i
    (λ z. object_with (upd b o c i) (upd (inside_of f i) t (held_at y.held i)) ≡ z)
    (λ e. subst (λ j. object_with (upd b o c j) (upd (inside_of f j) t (held_at y.held j)) ≡ object_with c
    (upd (inside_of f o) t (held_at y.held o))) (sym e)
    (ap (λ z. object_with z (upd (inside_of f o) t (held_at y.held o))) (upd_at_own_place b o c)))
    (λ ne. ap (λ z. object_with z (upd (inside_of f i) t (held_at y.held i))) (upd_at_other_place b o i c ne)
    ∙ ap (object_with (b i)) (upd_with_old_value (inside_of f i) t (held_at y.held i) (sym (same i ne))))))

-- the tables after the step of thread t, where it asks so
abbrev pub moved_by : Flat → ℕ → ℕ → Ask → State thread.ThreadState
moved_by f t r q =
    let a = act_of (shared_ask q) r in
    let b = (tables f).objects (target a) in
    record {
      now = upd (thread_of f) t (after_ask f.code (thread_of f t) q (reply_of q (reply a b)));
      objects =
          upd (tables f).objects (target a) (acted a t b);
    }

pub moved_by_is_after : (f : Flat) (t r : ℕ) (q : Ask) → ask_of f.code (thread_of f t) ≡ q
    → moved_by f t r q ≡ after (machine f) (tables f) (t, r)
unfolding after after_reply
moved_by_is_after f t r q is = ap (moved_by f t r) (sym is)

-- what doesn't touch an object
tables_with_thread_upd : (f : Flat) (t : ℕ) (y : thread.ThreadState) (o : ℕ) → t < length f.threads → y.held ≡ (thread_of f t).held
    → tables (with_thread f t y) ≡ record { now = upd (thread_of f) t y; objects = upd (tables f).objects o ((tables f).objects o) }
tables_with_thread_upd f t y o l same = tables_of_with_thread f t y l same ∙ ap (λ z. record { now = upd (thread_of f) t y; objects = z })
    (sym (upd_with_old_value (tables f).objects o ((tables f).objects o) refl))

pub held_at_set_other : (held : List (Option Access)) (o : ℕ) (x : Option Access) (i : ℕ) → i ≢ o → held_at (set held o x) i ≡ held_at held i
held_at_set_other held o x i ne = get_or-set_other held o i x None ne

length-cell_words : (f : Flat) (o : ℕ) → IsFlat f → o < length f.objects → length (cell_of f o).words ≡ most_object_words
length-cell_words f o flat l = (flat.objects o l).words

-- an object that thread t has entered
entered_has_inside : (a : Access) (c : Cell) (g : ℕ → Option Access) (t : ℕ) {h : Option Access} → h ≡ Some a
    → object_with (record c { fields = entered_word a c.fields }) (upd g t h) ≡ record (object_with c g) { inside = upd g t (Some a) }
entered_has_inside Reading c g t e = ap (λ z. object_with c (upd g t z)) e
entered_has_inside Writing c g t e = ap (λ z. object_with c (upd g t z)) e

-- the lists after a step are the tables after it
pub tables_of_next_moved : (f : Flat) (t r : ℕ) (q : Ask) → IsFlat f → t < length f.threads → Permits (thread_of f t) q → MayStep f r q
    → tables (next f t r q) ≡ moved_by f t r q
tables_of_next_moved f t r Private flat l p may = tables_with_thread_upd f t _ 0 l refl
tables_of_next_moved f t r (Env kind) flat l p may = tables_with_thread_upd f t _ 0 l refl
tables_of_next_moved f t r Print flat l p may = tables_with_thread_upd f t _ 0 l refl
tables_of_next_moved f t r (End e) flat l p may = tables_with_thread_upd f t _ 0 l refl
tables_of_next_moved f t r Done flat l p may = absurd may
tables_of_next_moved f t r (Get o i) flat l p may = tables_with_thread_upd f t _ o l refl
tables_of_next_moved f t zero (Try o) flat l p may = tables_with_thread_upd f t _ 0 l refl
tables_of_next_moved f t (suc (suc r)) (Try o) flat l p may = absurd may
tables_of_next_moved f t r (Enter o a) flat l p may =
    let k : o < length f.objects = omega (arith, p.2, flat.places t l) in
    tables_of_with_object f t _ o _ l k (held_at_set_other (thread_of f t).held o (Some a))
    ∙ ap (λ z. record {
      now = upd (thread_of f) t (after_ask f.code (thread_of f t) (Enter o a) Go);
      objects =
          upd (tables f).objects o z;
    })
    (entered_has_inside a (cell_of f o) (inside_of f o) t (get_or-set_same (thread_of f t).held o (Some a) None p.2))
tables_of_next_moved f t (suc zero) (Try o) flat l p may =
    let k : o < length f.objects = omega (arith, p.2, flat.places t l) in
    tables_of_with_object f t _ o _ l k (held_at_set_other (thread_of f t).held o (Some Writing))
    ∙ ap (λ z. record {
      now = upd (thread_of f) t (after_ask f.code (thread_of f t) (Try o) (Value 1));
      objects =
          upd (tables f).objects o z;
    })
    (entered_has_inside Writing (cell_of f o) (inside_of f o) t (get_or-set_same (thread_of f t).held o (Some Writing) None p.2))
tables_of_next_moved f t r (Leave o a) flat l p may =
    let k : o < length f.objects = omega (arith, p.1, flat.places t l) in
    tables_of_with_object f t _ o _ l k (held_at_set_other (thread_of f t).held o None)
    ∙ ap (λ z. record {
      now = upd (thread_of f) t (after_ask f.code (thread_of f t) (Leave o a) Go);
      objects =
          upd (tables f).objects o z;
    })
    (exit_with a (cell_of f o) (inside_of f o) t (get_or-set_same (thread_of f t).held o None None p.1))
  where
    exit_with : (a : Access) (c : Cell) (g : ℕ → Option Access) (t : ℕ) {h : Option Access} → h ≡ None
        → object_with (record c { fields = left_by a c.fields }) (upd g t h) ≡ acted (Left o a) t (object_with c g)
    exit_with Reading c g t {h} e = objects_equal_by_parts (object_with (record c { fields = left_by Reading c.fields }) (upd g t h))
        (acted (Left o Reading) t (object_with c g)) refl (omega arith) (ap (upd g t) e) refl
    exit_with Writing c g t {h} e = objects_equal_by_parts (object_with (record c { fields = left_by Writing c.fields }) (upd g t h))
        (acted (Left o Writing) t (object_with c g)) (omega arith) refl (ap (upd g t) e) refl
tables_of_next_moved f t r (Put o i w) flat l p may =
    let k : o < length f.objects = omega (arith, p.1, flat.places t l) in
    let count : i < length (cell_of f o).words = omega (arith, p.2, length-cell_words f o flat k) in
    tables_of_with_object f t _ o _ l k (λ j ne. refl) ∙ ap (λ z.
    record { now = upd (thread_of f) t (after_ask f.code (thread_of f t) (Put o i w) Go); objects = upd (tables f).objects o z })
    (objects_equal_by_parts (object_with (record (cell_of f o) { words = slice_set (cell_of f o).words i w })
    (upd (inside_of f o) t (inside_of f o t))) (acted (Stored o i w) t (object_with (cell_of f o) (inside_of f o))) refl refl
    (upd_with_old_value (inside_of f o) t (inside_of f o t) refl) (get_or_of_set_is_upd (cell_of f o).words i w 0 count))

-- the list's step is the step
pub tables_of_next_after : (f : Flat) (t r : ℕ) (q : Ask) → ask_of f.code (thread_of f t) ≡ q → IsFlat f → t < length f.threads
    → Permits (thread_of f t) q → MayStep f r q → tables (next f t r q) ≡ after (machine f) (tables f) (t, r)
tables_of_next_after f t r q is flat l p may = tables_of_next_moved f t r q flat l p may ∙ moved_by_is_after f t r q is
