-- A thread that holds an object, and the words of the object there.
use Rattle.std.proofs.Common.{◌≡◌, ◌+◌, ℕ, zero, suc, List, sym, ap, ◌∙◌, subst, arith}
use Rattle.std.specs.Prelude.{Option, Some, None, slice_index}
use Rattle.std.specs.List.{slice_index_or}
use Rattle.ir_runs.specs.Machine.{Ask, Private, Env, Enter, Try, Leave, Get, Put, Done, act_of, upd, Object, emitted, reply, Label, Quiet, Answer, EnteredAt, FailedTry, LeftAt}
use Rattle.ir_runs.specs.Lawful.{Holds, held_after}
use Rattle.ir_runs.specs.declared.access.Access.{Access}
use Rattle.ir_runs.specs.declared.access.Access.TheVariants.{Reading, Writing}
use Rattle.ir_runs.specs.Run.{Step, Emits}
use Rattle.ir_runs.proofs.CallerLemmas.{upd_at_own_place}
use Rattle.ir_object.specs.Empty.{empty}
use Rattle.ir_thread.specs.State as thread
use Rattle.ir_fit.specs.Fit.{FittedTrace, IsRunOf}
use Rattle.ir_cut.specs.Positions.{EachRun, machine_of, start_of, thread_at}
use Rattle.ir_weave.specs.Standing.{Standing, StandsAtCut, flat_in, positions}
use Rattle.ir_weave.proofs.CallerLemmas.{guest_machine_is_lawful, StepOf, emitting_is_step_of}
use Rattle.ir_event_walk.specs.Words.{AreWordsAt}
use Rattle.ir_event_walk.proofs.Still.{held_words_equal_at_cuts}

-- ---- what it holds

abbrev pub object_of_entry_label : Label → ℕ
object_of_entry_label Quiet = 0
object_of_entry_label (Answer k v) = 0
object_of_entry_label (EnteredAt o a v l) = o
object_of_entry_label (FailedTry o) = 0
object_of_entry_label (LeftAt o a v) = 0

-- what emits an entry holds its object behind it
entry_holds_its_object : (q : Ask) (r : ℕ) (b : Object) (h : ℕ → Option Access) (o : ℕ) (a : Access) (v l : ℕ)
    → EnteredAt o a v l ≡ emitted (act_of q r) b → held_after (act_of q (reply (act_of q r) b)) h o ≡ None → ⊥
entry_holds_its_object Private r b h o a v l e none = absurd (cc e)
entry_holds_its_object (Env kind) r b h o a v l e none = absurd (cc e)
entry_holds_its_object (Enter p Reading) r b h o a v l e none = let same : o ≡ p = ap object_of_entry_label e in
    let x = sym (upd_at_own_place h p (Some Reading)) ∙ subst (λ z. upd h p (Some Reading) z ≡ None) same none in absurd (cc x)
entry_holds_its_object (Enter p Writing) r b h o a v l e none = let same : o ≡ p = ap object_of_entry_label e in
    let x = sym (upd_at_own_place h p (Some Writing)) ∙ subst (λ z. upd h p (Some Writing) z ≡ None) same none in absurd (cc x)
entry_holds_its_object (Try p) zero b h o a v l e none = absurd (cc e)
entry_holds_its_object (Try p) (suc zero) b h o a v l e none = let same : o ≡ p = ap object_of_entry_label e in
    let x = sym (upd_at_own_place h p (Some Writing)) ∙ subst (λ z. upd h p (Some Writing) z ≡ None) same none in absurd (cc x)
entry_holds_its_object (Try p) (suc (suc r)) b h o a v l e none = absurd (cc e)
entry_holds_its_object (Leave p Reading) r b h o a v l e none = absurd (cc e)
entry_holds_its_object (Leave p Writing) r b h o a v l e none = absurd (cc e)
entry_holds_its_object (Get p i) r b h o a v l e none = absurd (cc e)
entry_holds_its_object (Put p i w) r b h o a v l e none = absurd (cc e)
entry_holds_its_object Done r b h o a v l e none = absurd (cc e)

-- a thread of a run behind an entry
pub object_held_after_entry : (f : FittedTrace) (run : List Step) → IsRunOf f.guest f.recorded run → (t k o : ℕ) (a : Access) (v l : ℕ)
    → Emits (machine_of f) (start_of f) run t k (EnteredAt o a v l) → (machine_of f).held (thread_at f run t (k + 1)) o ≡ None → ⊥
object_held_after_entry f run of t k o a v l emitted none =
    let m = machine_of f in
    let z : StepOf m (thread_at f run t k) (thread_at f run t (suc k)) (EnteredAt o a v l) =
    emitting_is_step_of m (start_of f) run of.1.runs t k (EnteredAt o a v l) emitted in
    let on : k + 1 ≡ suc k = omega arith in
    entry_holds_its_object (m.ask (thread_at f run t k)) z.result z.object (m.held (thread_at f run t k)) o a v l z.emits
    (sym ((guest_machine_is_lawful f).takes (thread_at f run t k) (reply (act_of (m.ask (thread_at f run t k)) z.result) z.object) o)
    ∙ ap (λ (x : thread.ThreadState). m.held x o) (sym z.next) ∙ ap (λ j. m.held (thread_at f run t j) o) (sym on) ∙ none)

abbrev pub object_of_leave_label : Label → ℕ
object_of_leave_label Quiet = 0
object_of_leave_label (Answer k v) = 0
object_of_leave_label (EnteredAt o a v l) = 0
object_of_leave_label (FailedTry o) = 0
object_of_leave_label (LeftAt o a v) = o

-- what emits a leave holds its object before it
leave_held_its_object : (q : Ask) (r : ℕ) (b : Object) (h : ℕ → Option Access) (o : ℕ) (a : Access) (v : ℕ) → LeftAt o a v ≡ emitted (act_of q r) b
    → Holds q h → h o ≡ None → ⊥
leave_held_its_object Private r b h o a v e k none = absurd (cc e)
leave_held_its_object (Env kind) r b h o a v e k none = absurd (cc e)
leave_held_its_object (Enter p Reading) r b h o a v e k none = absurd (cc e)
leave_held_its_object (Enter p Writing) r b h o a v e k none = absurd (cc e)
leave_held_its_object (Try p) zero b h o a v e k none = absurd (cc e)
leave_held_its_object (Try p) (suc zero) b h o a v e k none = absurd (cc e)
leave_held_its_object (Try p) (suc (suc r)) b h o a v e k none = absurd (cc e)
leave_held_its_object (Leave p c) r b h o a v e k none =
    let same : o ≡ p = ap object_of_leave_label e in
    let x : Some c ≡ None = sym k ∙ ap h (sym same) ∙ none in absurd (cc x)
leave_held_its_object (Get p i) r b h o a v e k none = absurd (cc e)
leave_held_its_object (Put p i w) r b h o a v e k none = absurd (cc e)
leave_held_its_object Done r b h o a v e k none = absurd (cc e)

-- a thread of a run before a leave
pub object_held_before_leave : (f : FittedTrace) (run : List Step) → IsRunOf f.guest f.recorded run → (t k o : ℕ) (a : Access) (v : ℕ)
    → Emits (machine_of f) (start_of f) run t k (LeftAt o a v) → (machine_of f).held (thread_at f run t k) o ≡ None → ⊥
object_held_before_leave f run of t k o a v emitted none =
    let m = machine_of f in
    let z : StepOf m (thread_at f run t k) (thread_at f run t (suc k)) (LeftAt o a v) =
    emitting_is_step_of m (start_of f) run of.1.runs t k (LeftAt o a v) emitted in
    leave_held_its_object (m.ask (thread_at f run t k)) z.result z.object (m.held (thread_at f run t k)) o a v z.emits
    ((guest_machine_is_lawful f).holds (thread_at f run t k)) none

-- ---- the words

-- the words of an object that a thread of a state holds
pub held_words_at_standing : (f : FittedTrace) (s : Standing) (t k o : ℕ) (words : List ℕ) → StandsAtCut f (positions (flat_in f s)) s
    → positions (flat_in f s) t ≡ k → EachRun f (λ run. (machine_of f).held (thread_at f run t k) o ≡ None → ⊥)
    → words ≡ (slice_index_or s.objects o empty).words → AreWordsAt f t k o words
held_words_at_standing f s t k o words stands at holds same run of p cut consistent there =
    let here = stands.at.each run of in
    held_words_equal_at_cuts f run of t o p (positions (flat_in f s)) cut consistent here.cut here.consistent (there ∙ sym at)
    (λ none. holds run of (ap (λ j. (machine_of f).held (thread_at f run t j) o) (sym there) ∙ none))
    ∙ ap (λ (b : Object). b.words) (sym (here.objects o)) ∙ ap slice_index (sym same)
