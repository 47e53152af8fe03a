-- What the debugger carries out, and what it shows, is what the small machine may answer.
use Rattle.std.proofs.Common.{◌≡◌, ℕ, ◌<◌, arith, Bool, true, false, List, length, sym, ap, subst, ◌∙◌, refl, inl, None, Some, ◌≤◌}
use Rattle.std.specs.Prelude.{not, nat_lt, codes, ◌+◌, Option, if◌then◌else◌}
use Rattle.std.proofs.lemmas.List.{get_or_default}
use Rattle.std.proofs.lemmas.Bool.{ltb-true}
use Rattle.std.specs.List.{slice_index_or}
use Rattle.ir_thread.specs.State as thread
use Rattle.ir_flat.specs.Flat.{idle}
use Rattle.ir_runs.specs.Run as run
use Rattle.ir_cut.specs.Positions.{cut_of, EachRun, machine_of, start_of, threads_of}
use Rattle.ir_weave.specs.Standing.{Standing, StandsAtCut, flat_in, StandsAtPlace}
use Rattle.ir_command.specs.declared.command.Command.{Command}
use Rattle.ir_command.specs.declared.command.Command.TheVariants as command
use Rattle.ir_command.specs.declared.command.Move.{Move}
use Rattle.ir_command.specs.declared.command.Show.{Show}
use Rattle.ir_command.specs.declared.command.Show.TheVariants.{Registers, Memory, Output, Log, Next}
use Rattle.ir_command.specs.declared.refusal.Refusal.{Refusal}
use Rattle.ir_command.specs.declared.refusal.Refusal.TheVariants.{NoSuchThread}
use Rattle.ir_debug.specs.declared.answer.Answer.{Answer}
use Rattle.ir_debug.specs.declared.answer.Answer.TheVariants as answer
use Rattle.ir_debug.specs.Machine.{Desk, moved_to, spoken, if_some, thread_named, refusal_of, is_at_hand, show_text, AnswersCommand, AnswersBy, current}
use Rattle.ir_command.specs.declared.command.Point.{Point}
use Rattle.ir_text.specs.Texts.{number_line, next_text, core_text, bytes_from, memory_text, output_text, object_text, log_text}
use Rattle.ir_debug.specs.Debugging.{Debugging, IsThere, answer_text, with_point, without_point, IsLast, IsText, IsDesk, logged_so_far}
use Rattle.ir_image.specs.Guest.{object_words}
use Rattle.ir_object.specs.Cell.{Cell}
use Rattle.ir_object.specs.Empty.{empty}
use Rattle.ir_flat.specs.Room.{object_with}
use Rattle.ir_runs.specs.Machine.{Label, Object}
use Rattle.ir_runs.specs.Run.{Step, object_at}
use Rattle.ir_weave.proofs.CallerLemmas.{LogsBefore, logs_before_cut_recorded}
use Rattle.ir_command.specs.declared.command.Show.TheVariants as show
use Rattle.ir_debug.specs.declared.answer.Answer.TheVariants.{Shown}
use Rattle.ir_debug.proofs.Passed.{named_thread_exists, named_object_exists}
use Rattle.ir_text.specs.Held.{held_by}
use Rattle.ir_debug.specs.AtHand.{thread_here, object_here, events_of, shown_here, text_here, ShowsHere}

-- the machine at d may give this answer and be at next then, and the command isn't refused otherwise
abbrev AnswersInEachRun : Desk → Command → Answer → Desk → Type 0
AnswersInEachRun d c a next = EachRun d.fitted (λ run. AnswersBy None run d c (answer_text run next a) next)

-- ---- what a command names is there

no_refusal_test_true : {A : Type 0} (b : Bool) (r : A) (rest : Option A) → (if not b then Some r else rest) ≡ None → b ≡ true
no_refusal_test_true true r rest e = refl
no_refusal_test_true false r rest e = absurd (cc e)

-- a move that isn't refused names a thread that there is, if any
pub permitted_thread_test : (d : Desk) (m : Move) → refusal_of d (command.Move m) ≡ None
    → if_some (thread_named (command.Move m)) (λ t. nat_lt t (threads_of d.fitted)) ≡ true
unfolding refusal_of
permitted_thread_test d m none = no_refusal_test_true (if_some (thread_named (command.Move m)) (λ t. nat_lt t (threads_of d.fitted))) NoSuchThread _ none

-- a show of a thread that isn't refused names one that there is
pub permitted_thread_exists : (d : Desk) (s : Show) (t : ℕ) → s ≡ Next t → refusal_of d (command.Show s) ≡ None → t < threads_of d.fitted
unfolding refusal_of
permitted_thread_exists d s t is none = ltb-true t (threads_of d.fitted)
    (no_refusal_test_true (nat_lt t (threads_of d.fitted)) NoSuchThread _ (ap (λ z. refusal_of d (command.Show z)) (sym is) ∙ none))

-- ---- shows

pub show_is_at_hand : (s : Show) → ((t : ℕ) → s ≡ Next t → ⊥) → is_at_hand s ≡ true
show_is_at_hand (Registers t) other = refl
show_is_at_hand (Memory t address size) other = refl
show_is_at_hand (show.Object o) other = refl
show_is_at_hand (Output t) other = refl
show_is_at_hand (Log t) other = refl
show_is_at_hand (Next t) other = absurd (other t refl)

-- what is shown doesn't depend on the last answer
shown_after_spoken : (steps : List run.Step) (d : Desk) (s : Show) → show_text steps (spoken d) s ≡ show_text steps d s
unfolding show_text
shown_after_spoken steps d (Registers t) = refl
shown_after_spoken steps d (Memory t address size) = refl
shown_after_spoken steps d (show.Object o) = refl
shown_after_spoken steps d (Output t) = refl
shown_after_spoken steps d (Log t) = refl
shown_after_spoken steps d (Next t) = refl

pub show_answers_command : (d next : Desk) (s : Show) → next ≡ spoken d → AnswersInEachRun d (command.Show s) (answer.Shown s) next
show_answers_command d next s is run whole = inl (ap (λ z. show_text run z s) is ∙ shown_after_spoken run d s, is)

-- the line of the thread at hand is that of the thread of each run
pub standing_next_line_shown : (d : Desk) (s : Standing) (t : ℕ) (x : thread.ThreadState) (line : List ℕ) → StandsAtCut d.fitted (cut_of d.at) s
    → x ≡ slice_index_or s.threads t idle → line ≡ next_text d.fitted.guest.code x
    → EachRun d.fitted (λ run. line ≡ show_text run d (Next t))
unfolding show_text
standing_next_line_shown d s t x line there is text run whole =
    text ∙ ap (λ z. next_text d.fitted.guest.code z) (is ∙ (there.at.each run whole).threads t)

pub debugger_next_line_shown : (d : Desk) (e : Debugging) (threads : List thread.ThreadState) (code : List ℕ) (t : ℕ) (x : thread.ThreadState) (line : List ℕ)
    → e.desk ≡ spoken d → IsThere e → threads ≡ e.state.threads → code ≡ e.desk.fitted.guest.code → t < threads_of d.fitted
    → x ≡ slice_index_or threads t x → line ≡ next_text code x → EachRun d.fitted (λ run. line ≡ show_text run d (Next t))
debugger_next_line_shown d e threads code t x line is there all same l read text =
    let stands : StandsAtCut d.fitted (cut_of d.at) e.state = subst (λ (z : Desk). StandsAtCut z.fitted (cut_of z.at) e.state) is there in
    let count = stands.at.threads in
    let long = ap (λ z. length z) all in
    standing_next_line_shown d e.state t x line stands
    (read ∙ get_or_default threads t x idle (omega (arith, l, count, long)) ∙ ap (λ z. slice_index_or z t idle) all)
    (text ∙ ap (λ z. next_text z x) (same ∙ ap (λ (z : Desk). z.fitted.guest.code) is))

-- ---- all commands

-- what is refused depends on the guest alone
pub refusal_after_move : (d next : Desk) (cut : List ℕ) (c : Command) → next ≡ moved_to d cut → refusal_of next c ≡ refusal_of d c
unfolding refusal_of
refusal_after_move d next cut c is = ap (λ z. refusal_of z c) is

pub refusal_after_spoken : (d next : Desk) (c : Command) → next ≡ spoken d → refusal_of next c ≡ refusal_of d c
unfolding refusal_of
refusal_after_spoken d next c is = ap (λ z. refusal_of z c) is

pub refused_answers_refusal : (d next : Desk) (c : Command) (r : Refusal) (a : Answer) → refusal_of d c ≡ Some r → next ≡ spoken d
    → a ≡ answer.Refused r → EachRun d.fitted (λ run. AnswersCommand run d c (answer_text run next a) next)
unfolding AnswersCommand
refused_answers_refusal d next c r a why is says run whole =
    subst (λ o. AnswersBy o run d c (answer_text run next a) next) (sym why) (ap (λ z. answer_text run next z) says, is)

pub permitted_is_answered : (d next : Desk) (c asked : Command) (a : Answer) → c ≡ asked → refusal_of d c ≡ None → AnswersInEachRun d asked a next
    → EachRun d.fitted (λ run. AnswersCommand run d c (answer_text run next a) next)
unfolding AnswersCommand
permitted_is_answered d next c asked a same none so run whole =
    subst (λ o. AnswersBy o run d c (answer_text run next a) next) (sym none)
    (subst (λ z. AnswersBy None run d z (answer_text run next a) next) (sym same) (so run whole))

pub position_answers : (d next : Desk) → next ≡ spoken d → AnswersInEachRun d command.Position answer.Position next
position_answers d next is run whole = inl (ap (λ z. answer_text run z answer.Position) is, is)

pub quit_answers_command : (d next : Desk) → next ≡ spoken d → AnswersInEachRun d command.Quit answer.Bye next
quit_answers_command d next is run whole = inl (refl, is)

-- ---- points

pub set_answers_command : (d next : Desk) (point : Point) (n : ℕ) → n ≡ d.last_point + 1 → next ≡ with_point d point
    → AnswersInEachRun d (command.Set point) (answer.Set n) next
set_answers_command d next point n number is run whole = inl (ap (number_line (codes "point ")) number, is)

pub clear_answers_command : (d next : Desk) (n : ℕ) → next ≡ without_point d n → AnswersInEachRun d (command.Clear n) (answer.Cleared n) next
clear_answers_command d next n is run whole = inl (refl, is)

-- a thread in hand is the run's at its position
thread_here_is_current : (d : Debugging) (run : List Step) → StandsAtPlace d.desk.fitted (cut_of d.desk.at) (flat_in d.desk.fitted d.state) run → (t : ℕ)
    → thread_here d t ≡ current run d.desk t
thread_here_is_current d run at t = at.threads t

object_here_is_run : (d : Debugging) (run : List Step) → StandsAtPlace d.desk.fitted (cut_of d.desk.at) (flat_in d.desk.fitted d.state) run → (o : ℕ)
    → object_here d o ≡ object_at (machine_of d.desk.fitted) (start_of d.desk.fitted) run (cut_of d.desk.at) o
object_here_is_run d run at o = at.objects o

pub shown_here_in_run : ShowsHere
unfolding show_text
shown_here_in_run d (show.Registers t) there below run is =
    ap (λ (s : thread.ThreadState). core_text s.core) (thread_here_is_current d run (there.at.each run is) t)
shown_here_in_run d (show.Memory t address size) there below run is =
    ap (λ (s : thread.ThreadState). memory_text address (bytes_from d.desk.fitted.guest.code s.core.memory size address))
    (thread_here_is_current d run (there.at.each run is) t)
shown_here_in_run d (show.Object o) there below run is =
    ap (λ (b : Object). object_text (threads_of d.desk.fitted) (object_words d.desk.fitted.guest) b) (object_here_is_run d run (there.at.each run is) o)
shown_here_in_run d (show.Output t) there below run is = ap (λ (s : thread.ThreadState). output_text s.output) (thread_here_is_current d run (there.at.each run is) t)
shown_here_in_run d (show.Log t) there below run is =
    let l : LogsBefore d.desk.fitted (cut_of d.desk.at) (flat_in d.desk.fitted d.state) run t =
    logs_before_cut_recorded d.desk.fitted (cut_of d.desk.at) (flat_in d.desk.fitted d.state) run is (there.at.each run is) t (below t refl) in
    ap (λ (es : List Label). log_text es (length (events_of d t))) (sym l.so_far)
    ∙ ap (λ (n : ℕ). log_text (logged_so_far run d.desk t) n) (sym l.all)
shown_here_in_run d (show.Next t) there below run is =
    ap (λ (s : thread.ThreadState). next_text d.desk.fitted.guest.code s) (thread_here_is_current d run (there.at.each run is) t)

-- the events so far are some of all
pub events_here_at_most : (d : Debugging) (t : ℕ) → IsDesk d.desk → IsThere d → t < threads_of d.desk.fitted → (thread_here d t).events ≤ length
    (events_of d t)
events_here_at_most d t desk there below =
    let l : LogsBefore d.desk.fitted (cut_of d.desk.at) (flat_in d.desk.fitted d.state) desk.run.run t =
    logs_before_cut_recorded d.desk.fitted (cut_of d.desk.at) (flat_in d.desk.fitted d.state) desk.run.run desk.run.whole
    (there.at.each desk.run.run desk.run.whole) t below in
    l.within

-- ---- a show that was asked last

pub last_of_equal_show : (d : Debugging) (s like : Show) → s ≡ like → IsLast d (Shown s) → IsLast d (Shown like)
last_of_equal_show d s like is last = subst (λ x. IsLast d (Shown x)) is last

-- the thread that it names is one of the guest's
pub last_show_thread_exists : (d : Debugging) (s like : Show) (t : ℕ) → s ≡ like → thread_named (command.Show like) ≡ Some t → IsLast d (Shown s) → t < threads_of d.desk.fitted
last_show_thread_exists d s like t is shows last = named_thread_exists d.desk (command.Show like) t (last_of_equal_show d s like is last).0 shows

pub shown_object_exists : (d : Debugging) (s : Show) (objects : List Cell) (o : ℕ) → s ≡ show.Object o → IsLast d (Shown s)
    → objects ≡ d.state.objects → o < length objects
shown_object_exists d s objects o is last same =
    let l = last_of_equal_show d s (show.Object o) is last in
    let below = named_object_exists d.desk (command.Show (show.Object o)) o l.0 refl in
    let count = l.2.at.objects in
    let long = ap length same in
    omega (arith, below, count, long)

-- an object that is read in its place
pub state_text_is_shown : (d : Debugging) (s : Show) (objects : List Cell) (threads : List thread.ThreadState) (x : Cell) (o words : ℕ) → s ≡ show.Object o
    → IsLast d (Shown s) → objects ≡ d.state.objects → threads ≡ d.state.threads → words ≡ object_words d.desk.fitted.guest
    → x ≡ slice_index_or objects o x → object_text (length threads) words (object_with x (held_by threads o)) ≡ shown_here d s
state_text_is_shown d s objects threads x o words is last same alike many read =
    ap (λ (c : Cell). object_text (length threads) words (object_with c (held_by threads o)))
    (read ∙ get_or_default objects o x empty (shown_object_exists d s objects o is last same))
    ∙ ap (λ (cs : List Cell). object_text (length threads) words (object_with (slice_index_or cs o empty) (held_by threads o))) same
    ∙ ap (λ (ts : List thread.ThreadState). object_text (length ts) words (object_with (slice_index_or d.state.objects o empty) (held_by ts o))) alike
    ∙ ap (λ (n : ℕ). object_text n words (object_here d o)) (last_of_equal_show d s (show.Object o) is last).2.at.threads
    ∙ ap (λ (n : ℕ). object_text (threads_of d.desk.fitted) n (object_here d o)) many
    ∙ ap (shown_here d) (sym is)

-- ---- the texts of all answers

text_here_is_answer : (d : Debugging) (a : Answer) → IsLast d a → EachRun d.desk.fitted (λ run. text_here d a ≡ answer_text run d.desk a)
text_here_is_answer d (answer.Moved move) last run is = refl
text_here_is_answer d (answer.Continued t hit) last run is = refl
text_here_is_answer d (answer.Set number) last run is = refl
text_here_is_answer d (answer.Cleared number) last run is = refl
text_here_is_answer d answer.Position last run is = refl
text_here_is_answer d (answer.Shown s) last run is = shown_here_in_run d s last.2 (λ t names. named_thread_exists d.desk (command.Show s) t last.0 names) run is
text_here_is_answer d (answer.Next line) last run is = refl
text_here_is_answer d (answer.Kept number) last run is = refl
text_here_is_answer d (answer.Dropped number) last run is = refl
text_here_is_answer d answer.KeptCuts last run is = refl
text_here_is_answer d (answer.Refused refusal) last run is = refl
text_here_is_answer d answer.Bye last run is = refl

pub text_here_has_property : (d : Debugging) (a : Answer) (P : List ℕ → Type 0) → IsLast d a → P (text_here d a) → IsText d a P
text_here_has_property d a P last holds = (text_here d a, text_here_is_answer d a last, holds)
