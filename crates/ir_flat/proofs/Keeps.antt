-- A step keeps what the lists of threads and objects always keep.
use Rattle.std.proofs.Common.{◌≡◌, ◌≢◌, ◌↔◌, ℕ, zero, suc, ◌+◌, ◌*◌, ◌<◌, ◌≤◌, true, Bool, false, length, length-set, Some, None, refl, sym, le_refl, ap, ◌∙◌, subst, arith, get_or-set_same}
use Rattle.std.specs.Prelude.{slice_index, IsTrue}
use Rattle.ir_image.specs.Guest.{most_threads, most_object_words}
use Rattle.ir_thread.specs.Permitted.{Permits}
use Rattle.ir_thread.specs.State.{held_at, ask_of, most_events, shared_ask}
use Rattle.ir_runs.specs.Machine.{act_of, upd, target, Admits}
use Rattle.ir_thread.specs.State as thread
use Rattle.ir_runs.specs.declared.access.Access.{Access}
use Rattle.ir_runs.specs.declared.access.Access.TheVariants.{Reading, Writing}
use Rattle.ir_thread.specs.declared.ask.Ask.{Ask}
use Rattle.ir_thread.specs.declared.ask.Ask.TheVariants.{Private, Env, Enter, Try, Leave, Get, Put, Print, End, Done}
use Rattle.ir_thread.specs.declared.ask.Reply.TheVariants.{Go, Value}
use Rattle.ir_thread.proofs.CallerLemmas.{ask_of_permitted, none_held_above}
use Rattle.ir_object.specs.Cell.{Cell, Counts}
use Rattle.ir_object.specs.Empty.{empty}
use Rattle.ir_object.specs.Standing.{CanLeave}
use Rattle.ir_object.specs.Word.{IsFields, entered_word, left_by, bit_of}
use Rattle.ir_object.proofs.CallerLemmas.{admitted_reader_no_writer, no_writer_admits_reader, admitted_writer_is_alone}
use Rattle.ir_object.proofs.CallerLemmas.{none_inside_admits_writer, counts_after_entry, inside_thread_can_leave, counts_after_leave}
use Rattle.ir_object.proofs.CallerLemmas.{readers_at_most_threads}
use Rattle.ir_runs.proofs.CallerLemmas.{upd_by_cases, upd_with_old_value}
use Rattle.ir_flat.specs.Flat.{Flat, idle, thread_of, cell_of, inside_of, tables, machine, IsShared, IsFlat, IsKept}
use Rattle.ir_flat.specs.Next.{with_thread, with_object, answered, next, next_try, MayStep, MayTry}
use Rattle.ir_runs.specs.Run.{Can, after}
use Rattle.ir_flat.proofs.Kept.{length-held_after_ask, kept_after_step, events_below_within}
use Rattle.ir_flat.proofs.Next.{get_or_of_set_is_upd, inside_of_with_thread, held_at_set_other, tables_of_next_after}

-- the code's tests are those of the step
pub may_step_iff_admits : (f : Flat) (t r : ℕ) (q : Ask) → IsFlat f → t < length f.threads → Permits (thread_of f t) q
    → MayStep f r q ↔ Admits (machine f) (act_of (shared_ask q) r) ((tables f).objects (target (act_of (shared_ask q) r)))
may_step_iff_admits f t r Private flat l p = ((λ _. tt), λ _. tt)
may_step_iff_admits f t r (Env kind) flat l p = ((λ h. h), λ h. h)
may_step_iff_admits f t r (Enter o Reading) flat l p =
    let c = (flat.objects o (omega (arith, p.2, flat.places t l))).counts in (
      admitted_reader_no_writer (length f.threads) (cell_of f o).fields (inside_of f o) c,
      no_writer_admits_reader (length f.threads) (cell_of f o).fields
          (inside_of f o) c,
    )
may_step_iff_admits f t r (Enter o Writing) flat l p =
    let c = (flat.objects o (omega (arith, p.2, flat.places t l))).counts in (
      admitted_writer_is_alone (length f.threads) (cell_of f o).fields (inside_of f o) c,
      none_inside_admits_writer (length f.threads) (cell_of f o).fields
          (inside_of f o) c,
    )
may_step_iff_admits f t zero (Try o) flat l p = ((λ _. tt), λ _. tt)
may_step_iff_admits f t (suc zero) (Try o) flat l p =
    let c = (flat.objects o (omega (arith, p.2, flat.places t l))).counts in (
      admitted_writer_is_alone (length f.threads) (cell_of f o).fields (inside_of f o) c,
      none_inside_admits_writer (length f.threads) (cell_of f o).fields
          (inside_of f o) c,
    )
may_step_iff_admits f t (suc (suc r)) (Try o) flat l p = ((λ h. h), λ h. h)
may_step_iff_admits f t r (Leave o a) flat l p = ((λ _. tt), λ _. tt)
may_step_iff_admits f t r (Get o i) flat l p = ((λ _. tt), λ _. tt)
may_step_iff_admits f t r (Put o i w) flat l p = ((λ _. tt), λ _. tt)
may_step_iff_admits f t r Print flat l p = ((λ _. tt), λ _. tt)
may_step_iff_admits f t r (End e) flat l p = ((λ _. tt), λ _. tt)
may_step_iff_admits f t r Done flat l p = ((λ h. h), λ h. h)

pub may_step_iff_can : (f : Flat) (t r : ℕ) → IsFlat f → t < length f.threads
    → MayStep f r (ask_of f.code (thread_of f t)) ↔ Can (machine f) (tables f) (t, r)
may_step_iff_can f t r flat l = may_step_iff_admits f t r (ask_of f.code (thread_of f t)) flat l (ask_of_permitted f.code (thread_of f t))

-- what a word counts was logged, so it fits
pub cell_counts_within : (f : Flat) (o : ℕ) → IsFlat f → o < length f.objects
    → (cell_of f o).fields.version + (cell_of f o).fields.left + (cell_of f o).fields.inside + bit_of (cell_of f o).fields.writer ≤
    most_threads * most_events
cell_counts_within f o flat l =
    let c = (flat.objects o l).counts in
    let seen = flat.kept.logged o in
    let most = events_below_within (length f.threads) (thread_of f) flat.kept.events in
    let few = flat.few_threads in
    let inside = c.readers in
    let writer : bit_of (cell_of f o).fields.writer ≡ bit_of _ = ap bit_of c.writer in
    omega (arith, seen, most, few, inside, writer)

pub inside_within_threads : (f : Flat) (o : ℕ) → IsFlat f → o < length f.objects → (cell_of f o).fields.inside ≤ most_threads
inside_within_threads f o flat l =
    let inside = (flat.objects o l).counts.readers in
    let most = readers_at_most_threads (length f.threads) (inside_of f o) in
    let few = flat.few_threads in
    omega (arith, inside, most, few)

pub entered_fields_fit : (f : Flat) (o : ℕ) (a : Access) → IsFlat f → o < length f.objects → IsFields (entered_word a (cell_of f o).fields)
entered_fields_fit f o Reading flat l = let all = cell_counts_within f o flat l in let few = inside_within_threads f o flat l in
    record { version = omega (arith, all); left = omega (arith, all); inside = omega (arith, few) }
entered_fields_fit f o Writing flat l = let all = cell_counts_within f o flat l in let few = inside_within_threads f o flat l in
    record { version = omega (arith, all); left = omega (arith, all); inside = omega (arith, few) }

pub left_fields_fit : (f : Flat) (o : ℕ) (a : Access) → IsFlat f → o < length f.objects → IsFields (left_by a (cell_of f o).fields)
left_fields_fit f o Reading flat l = let all = cell_counts_within f o flat l in let few = inside_within_threads f o flat l in
    record { version = omega (arith, all); left = omega (arith, all); inside = omega (arith, few) }
left_fields_fit f o Writing flat l = let all = cell_counts_within f o flat l in
    record { version = omega (arith, all); left = omega arith; inside = omega arith }

pub flat_inside_can_leave : (f : Flat) (t o : ℕ) (a : Access) → IsFlat f → t < length f.threads → o < length f.objects → inside_of f o t ≡ Some a
    → CanLeave a (cell_of f o).fields
flat_inside_can_leave f t o a flat l k e = inside_thread_can_leave (length f.threads) (cell_of f o).fields (inside_of f o) t a l e (flat.objects o k).counts

-- what doesn't touch an object leaves all objects
shared_after_quiet_write : (f : Flat) (t : ℕ) (y : thread.ThreadState) → t < length f.threads → y.held ≡ (thread_of f t).held → (o : ℕ) → IsShared f o
    → IsShared (with_thread f t y) o
shared_after_quiet_write f t y l same o old = record {
  counts = subst (λ n. Counts n (cell_of f o).fields (inside_of (with_thread f t y) o)) (sym (length-set f.threads t y))
      (subst (Counts (length f.threads) (cell_of f o).fields)
      (sym (inside_of_with_thread f t y o l ∙ upd_with_old_value (inside_of f o) t (held_at y.held o) (ap (λ h. held_at h o) (sym same)))) old.counts);
  words = old.words;
}

-- what touches one object leaves the others
shared_after_write : (f : Flat) (t : ℕ) (y : thread.ThreadState) (o : ℕ) (c : Cell) → t < length f.threads → o < length f.objects
    → ((i : ℕ) → i ≢ o → held_at y.held i ≡ held_at (thread_of f t).held i)
    → Counts (length f.threads) c.fields (upd (inside_of f o) t (held_at y.held o)) → length c.words ≡ most_object_words → (i : ℕ) → IsShared f i
    → IsShared (with_object (with_thread f t y) o c) i
shared_after_write f t y o c l k same counts count i old =
    let cell : cell_of (with_object (with_thread f t y) o c) i ≡ upd (cell_of f) o c i =
    ap (λ table. table i) (get_or_of_set_is_upd f.objects o c empty k) in
    record {
      counts = subst (λ n. Counts n (cell_of (with_object (with_thread f t y) o c) i).fields (inside_of (with_thread f t y) i))
          (sym (length-set f.threads t y))
          (subst (λ z. Counts (length f.threads) z.fields (inside_of (with_thread f t y) i)) (sym cell)
          (subst (Counts (length f.threads) (upd (cell_of f) o c i).fields) (sym (inside_of_with_thread f t y i l))
          (upd_by_cases (cell_of f) o c i (λ z. Counts (length f.threads) z.fields (upd (inside_of f i) t (held_at y.held i)))
          (λ e. subst (λ j. Counts (length f.threads) c.fields (upd (inside_of f j) t (held_at y.held j))) (sym e) counts)
          (λ ne. subst (Counts (length f.threads) (cell_of f i).fields)
          (sym (upd_with_old_value (inside_of f i) t (held_at y.held i) (sym (same i ne)))) old.counts))));
      words = subst (λ z. length z.words ≡ most_object_words) (sym cell)
          (upd_by_cases (cell_of f) o c i (λ z. length z.words ≡ most_object_words) (λ _. count) (λ _. old.words));
    }

-- an object that thread t has entered
shared_after_entry : (f : Flat) (t : ℕ) (y : thread.ThreadState) (o : ℕ) (a : Access) → IsFlat f → t < length f.threads → o < length f.objects
    → inside_of f o t ≡ None → ((i : ℕ) → i ≢ o → held_at y.held i ≡ held_at (thread_of f t).held i) → held_at y.held o ≡ Some a → (i : ℕ)
    → i < length f.objects → IsShared (with_object (with_thread f t y) o (record (cell_of f o) { fields = entered_word a (cell_of f o).fields })) i
shared_after_entry f t y o a flat l k none same is i h =
    shared_after_write f t y o _ l k same
    (subst (λ x. Counts (length f.threads) (entered_word a (cell_of f o).fields) (upd (inside_of f o) t x)) (sym is)
    (counts_after_entry (length f.threads) (cell_of f o).fields (inside_of f o) t a l none (flat.objects o k).counts)) (flat.objects o k).words i
    (flat.objects i h)

shared_after_next : (f : Flat) (t r : ℕ) (q : Ask) → IsFlat f → t < length f.threads → Permits (thread_of f t) q → MayStep f r q → (i : ℕ)
    → i < length f.objects → IsShared (next f t r q) i
shared_after_next f t r Private flat l p may i h = shared_after_quiet_write f t _ l refl i (flat.objects i h)
shared_after_next f t r (Env kind) flat l p may i h = shared_after_quiet_write f t _ l refl i (flat.objects i h)
shared_after_next f t r Print flat l p may i h = shared_after_quiet_write f t _ l refl i (flat.objects i h)
shared_after_next f t r (End e) flat l p may i h = shared_after_quiet_write f t _ l refl i (flat.objects i h)
shared_after_next f t r (Get o j) flat l p may i h = shared_after_quiet_write f t _ l refl i (flat.objects i h)
shared_after_next f t r Done flat l p may i h = absurd may
shared_after_next f t r (Enter o a) flat l p may i h =
    shared_after_entry f t _ o a flat l (omega (arith, p.2, flat.places t l)) (none_held_above (thread_of f t).held o p.3 o (le_refl o))
    (held_at_set_other (thread_of f t).held o (Some a)) (get_or-set_same (thread_of f t).held o (Some a) None p.2) i h
shared_after_next f t zero (Try o) flat l p may i h = shared_after_quiet_write f t _ l refl i (flat.objects i h)
shared_after_next f t (suc zero) (Try o) flat l p may i h =
    shared_after_entry f t _ o Writing flat l (omega (arith, p.2, flat.places t l)) (none_held_above (thread_of f t).held o p.3 o (le_refl o))
    (held_at_set_other (thread_of f t).held o (Some Writing)) (get_or-set_same (thread_of f t).held o (Some Writing) None p.2) i h
shared_after_next f t (suc (suc r)) (Try o) flat l p may i h = absurd may
shared_after_next f t r (Leave o a) flat l p may i h =
    let k : o < length f.objects = omega (arith, p.1, flat.places t l) in
    shared_after_write f t _ o _ l k (held_at_set_other (thread_of f t).held o None)
    (subst (λ x. Counts (length f.threads) (left_by a (cell_of f o).fields) (upd (inside_of f o) t x))
    (sym (get_or-set_same (thread_of f t).held o None None p.1))
    (counts_after_leave (length f.threads) (cell_of f o).fields (inside_of f o) t a l p.2
    (λ e u ne. flat.kept.exclusive o t u (λ s. ne (sym s)) (p.2 ∙ ap Some e)) (flat.objects o k).counts)) (flat.objects o k).words i
    (flat.objects i h)
shared_after_next f t r (Put o j w) flat l p may i h =
    let k : o < length f.objects = omega (arith, p.1, flat.places t l) in
    shared_after_write f t _ o _ l k (λ _ _. refl)
    (subst (Counts (length f.threads) (cell_of f o).fields) (sym (upd_with_old_value (inside_of f o) t (inside_of f o t) refl))
    (flat.objects o k).counts)
    (length-set (cell_of f o).words j w ∙ (flat.objects o k).words) i (flat.objects i h)

pub next_keeps_thread_count : (f : Flat) (t r : ℕ) (q : Ask) → length (next f t r q).threads ≡ length f.threads
next_keeps_thread_count f t r Private = length-set f.threads t _
next_keeps_thread_count f t r (Env kind) = length-set f.threads t _
next_keeps_thread_count f t r (Enter o a) = length-set f.threads t _
next_keeps_thread_count f t zero (Try o) = length-set f.threads t _
next_keeps_thread_count f t (suc zero) (Try o) = length-set f.threads t _
next_keeps_thread_count f t (suc (suc r)) (Try o) = length-set f.threads t _
next_keeps_thread_count f t r (Leave o a) = length-set f.threads t _
next_keeps_thread_count f t r (Get o i) = length-set f.threads t _
next_keeps_thread_count f t r (Put o i w) = length-set f.threads t _
next_keeps_thread_count f t r Print = length-set f.threads t _
next_keeps_thread_count f t r (End e) = length-set f.threads t _
next_keeps_thread_count f t r Done = length-set f.threads t _

pub next_keeps_object_count : (f : Flat) (t r : ℕ) (q : Ask) → length (next f t r q).objects ≡ length f.objects
next_keeps_object_count f t r Private = refl
next_keeps_object_count f t r (Env kind) = refl
next_keeps_object_count f t r (Enter o a) = length-set f.objects o _
next_keeps_object_count f t zero (Try o) = refl
next_keeps_object_count f t (suc zero) (Try o) = length-set f.objects o _
next_keeps_object_count f t (suc (suc r)) (Try o) = refl
next_keeps_object_count f t r (Leave o a) = length-set f.objects o _
next_keeps_object_count f t r (Get o i) = refl
next_keeps_object_count f t r (Put o i w) = length-set f.objects o _
next_keeps_object_count f t r Print = refl
next_keeps_object_count f t r (End e) = refl
next_keeps_object_count f t r Done = refl

-- a thread that is written keeps its places
write_keeps_held_length : (f : Flat) (t : ℕ) (y : thread.ThreadState) → t < length f.threads → length y.held ≡ length (thread_of f t).held → (u : ℕ)
    → length (thread_of (with_thread f t y) u).held ≡ length (thread_of f u).held
write_keeps_held_length f t y l same u = ap (λ table. length (table u).held) (get_or_of_set_is_upd f.threads t y idle l)
    ∙ upd_by_cases (thread_of f) t y u (λ z. length z.held ≡ length (thread_of f u).held)
    (λ e. same ∙ ap (λ j. length (thread_of f j).held) (sym e)) (λ _. refl)

next_keeps_held_length : (f : Flat) (t r : ℕ) (q : Ask) → t < length f.threads → (u : ℕ)
    → length (thread_of (next f t r q) u).held ≡ length (thread_of f u).held
next_keeps_held_length f t r Private l = write_keeps_held_length f t _ l (length-held_after_ask f.code (thread_of f t) Private Go)
next_keeps_held_length f t r (Env kind) l = write_keeps_held_length f t _ l (length-held_after_ask f.code (thread_of f t) (Env kind) (Value r))
next_keeps_held_length f t r (Enter o a) l = write_keeps_held_length f t _ l (length-held_after_ask f.code (thread_of f t) (Enter o a) Go)
next_keeps_held_length f t zero (Try o) l = write_keeps_held_length f t _ l (length-held_after_ask f.code (thread_of f t) (Try o) (Value 0))
next_keeps_held_length f t (suc zero) (Try o) l = write_keeps_held_length f t _ l (length-held_after_ask f.code (thread_of f t) (Try o) (Value 1))
next_keeps_held_length f t (suc (suc r)) (Try o) l = write_keeps_held_length f t _ l (length-held_after_ask f.code (thread_of f t) (Try o) (Value (suc (suc r))))
next_keeps_held_length f t r (Leave o a) l = write_keeps_held_length f t _ l (length-held_after_ask f.code (thread_of f t) (Leave o a) Go)
next_keeps_held_length f t r (Get o i) l = write_keeps_held_length f t _ l (length-held_after_ask f.code (thread_of f t) (Get o i) (Value (slice_index (cell_of f o).words i)))
next_keeps_held_length f t r (Put o i w) l = write_keeps_held_length f t _ l (length-held_after_ask f.code (thread_of f t) (Put o i w) Go)
next_keeps_held_length f t r Print l = write_keeps_held_length f t _ l (length-held_after_ask f.code (thread_of f t) Print Go)
next_keeps_held_length f t r (End e) l = write_keeps_held_length f t _ l (length-held_after_ask f.code (thread_of f t) (End e) Go)
next_keeps_held_length f t r Done l = write_keeps_held_length f t _ l (length-held_after_ask f.code (thread_of f t) Done Go)

pub next_is_flat : (f : Flat) (t r : ℕ) (q : Ask) → q ≡ ask_of f.code (thread_of f t) → IsFlat f → t < length f.threads → MayStep f r q
    → IsFlat (next f t r q)
next_is_flat f t r q is flat l may =
    let p : Permits (thread_of f t) q = subst (Permits (thread_of f t)) (sym is) (ask_of_permitted f.code (thread_of f t)) in
    let can : Can (machine f) (tables f) (t, r) = (may_step_iff_can f t r flat l).0 (subst (MayStep f r) is may) in
    let n : length (next f t r q).threads ≡ length f.threads = next_keeps_thread_count f t r q in
    let m : length (next f t r q).objects ≡ length f.objects = next_keeps_object_count f t r q in
    record {
      few_threads = omega (arith, n, flat.few_threads);
      few_objects = omega (arith, m, flat.few_objects);
      places = λ u h. next_keeps_held_length f t r q l u ∙ flat.places u (omega (arith, n, h)) ∙ sym m;
      objects = λ i h. shared_after_next f t r q flat l p may i (omega (arith, m, h));
      kept = subst (λ k. IsKept k (tables (next f t r q))) (sym n)
          (subst (IsKept (length f.threads)) (sym (tables_of_next_after f t r q (sym is) flat l p may))
          (kept_after_step f.code (length f.threads) (tables f) (t, r) l flat.kept can));
    }

-- what is known where the step is taken
-- the object that is entered is one of the guest's
pub entered_object_exists : (f : Flat) (t o : ℕ) (a : Access) → IsFlat f → t < length f.threads → ask_of f.code (thread_of f t) ≡ Enter o a
    → o < length f.objects
entered_object_exists f t o a flat l is = let p = subst (Permits (thread_of f t)) is (ask_of_permitted f.code (thread_of f t)) in
    omega (arith, p.2, flat.places t l)

pub entry_ask_fields_fit : (f : Flat) (t : ℕ) (q : Ask) (o : ℕ) (a : Access) → IsFlat f → t < length f.threads → Permits (thread_of f t) q
    → q ≡ Enter o a → IsFields (entered_word a (cell_of f o).fields)
entry_ask_fields_fit f t q o a flat l permits is = let p = subst (Permits (thread_of f t)) is permits in
    entered_fields_fit f o a flat (omega (arith, p.2, flat.places t l))

-- so it is where thread t tries to enter
pub tried_object_exists : (f : Flat) (t o : ℕ) → IsFlat f → t < length f.threads → ask_of f.code (thread_of f t) ≡ Try o → o < length f.objects
tried_object_exists f t o flat l is = let p = subst (Permits (thread_of f t)) is (ask_of_permitted f.code (thread_of f t)) in
    omega (arith, p.2, flat.places t l)

pub try_ask_fields_fit : (f : Flat) (t o : ℕ) → IsFlat f → t < length f.threads → Permits (thread_of f t) (Try o)
    → IsFields (entered_word Writing (cell_of f o).fields)
try_ask_fields_fit f t o flat l permits = entered_fields_fit f o Writing flat (omega (arith, permits.2, flat.places t l))

-- a try that isn't answered 1 is answered 0
pub other_try_answers_zero : (f : Flat) (t o r : ℕ) → MayTry (cell_of f o).fields r → r ≢ 1 → answered f t (Try o) (Value 0) ≡ next_try f t o r
other_try_answers_zero f t o zero may ne = refl
other_try_answers_zero f t o (suc zero) may ne = absurd (ne refl)
other_try_answers_zero f t o (suc (suc r)) may ne = absurd may

pub leave_ask_fields_fit : (f : Flat) (t : ℕ) (q : Ask) (o : ℕ) (a : Access) → IsFlat f → t < length f.threads → Permits (thread_of f t) q
    → q ≡ Leave o a → IsFields (left_by a (cell_of f o).fields)
leave_ask_fields_fit f t q o a flat l permits is = let p = subst (Permits (thread_of f t)) is permits in
    left_fields_fit f o a flat (omega (arith, p.1, flat.places t l))

pub leave_ask_can_leave : (f : Flat) (t : ℕ) (q : Ask) (o : ℕ) (a : Access) → IsFlat f → t < length f.threads → Permits (thread_of f t) q
    → q ≡ Leave o a → CanLeave a (cell_of f o).fields
leave_ask_can_leave f t q o a flat l permits is = let p = subst (Permits (thread_of f t)) is permits in
    flat_inside_can_leave f t o a flat l (omega (arith, p.1, flat.places t l)) p.2

pub may_step_iff_can_ask : (f : Flat) (t r : ℕ) (q : Ask) → IsFlat f → t < length f.threads → q ≡ ask_of f.code (thread_of f t)
    → MayStep f r q ↔ Can (machine f) (tables f) (t, r)
may_step_iff_can_ask f t r q flat l is = subst (λ z. MayStep f r z ↔ Can (machine f) (tables f) (t, r)) (sym is) (may_step_iff_can f t r flat l)

pub tables_of_next : (f : Flat) (t r : ℕ) (q : Ask) → IsFlat f → t < length f.threads → q ≡ ask_of f.code (thread_of f t) → MayStep f r q
    → tables (next f t r q) ≡ after (machine f) (tables f) (t, r)
tables_of_next f t r q flat l is may = tables_of_next_after f t r q (sym is) flat l
    (subst (Permits (thread_of f t)) (sym is) (ask_of_permitted f.code (thread_of f t))) may

-- the same, of the value that the code's parts are
pub step_test_iff_can : (p f : Flat) (t r : ℕ) (q : Ask) (b : Bool) → p ≡ f → t < length f.threads → IsFlat p → q ≡ ask_of p.code (thread_of p t)
    → IsTrue b ↔ MayStep p r q → IsTrue b ↔ Can (machine f) (tables f) (t, r)
step_test_iff_can p f t r q b same l flat is may = subst (λ z. IsTrue b ↔ Can (machine z) (tables z) (t, r)) same
    (let can = may_step_iff_can_ask p t r q flat (subst (λ z. t < length z.threads) (sym same) l) is in
    ((λ h. can.0 (may.0 h)), λ h. may.1 (can.1 h)))

pub failed_test_cannot_step : (p f : Flat) (t r : ℕ) (q : Ask) (b : Bool) → p ≡ f → t < length f.threads → IsFlat p → q ≡ ask_of p.code (thread_of p t)
    → IsTrue b ↔ MayStep p r q → b ≡ false → Can (machine f) (tables f) (t, r) → ⊥
failed_test_cannot_step p f t r q b same l flat is may no' can = let h : IsTrue b = (step_test_iff_can p f t r q b same l flat is may).1 can in cc (no', h)

pub flat_after_tested_step : (p f new : Flat) (t r : ℕ) (q : Ask) (b : Bool) → p ≡ f → t < length f.threads → IsFlat p
    → q ≡ ask_of p.code (thread_of p t) → IsTrue b ↔ MayStep p r q → b ≡ true → new ≡ next p t r q → IsFlat new
flat_after_tested_step p f new t r q b same l flat is may yes' e =
    subst IsFlat (sym e) (next_is_flat p t r q is flat (subst (λ z. t < length z.threads) (sym same) l) (may.0 yes'))

pub tables_of_tested_step : (p f new : Flat) (t r : ℕ) (q : Ask) (b : Bool) → p ≡ f → t < length f.threads → IsFlat p
    → q ≡ ask_of p.code (thread_of p t) → IsTrue b ↔ MayStep p r q → b ≡ true → new ≡ next p t r q
    → tables new ≡ after (machine f) (tables f) (t, r)
tables_of_tested_step p f new t r q b same l flat is may yes' e =
    ap tables e ∙ subst (λ z. tables (next p t r q) ≡ after (machine z) (tables z) (t, r)) same
    (tables_of_next p t r q flat (subst (λ z. t < length z.threads) (sym same) l) is (may.0 yes'))
