-- A guest's thread and its view.
use Rattle.std.proofs.Common.{◌≡◌, ◌↔◌, ℕ, List, Bool, true, false, cond, ◌⊎◌, inl, inr, Option, Some, None, refl, sym, ap, ◌∙◌, subst, nat_lt}
use Rattle.std.specs.Prelude.{nat_le, ◌++◌}
use Rattle.ir_mach.specs.Core.{Outcome, Goes, Calls, Ends}
use Rattle.ir_mach.specs.Execution.{outcome_of}
use Rattle.ir_mach.specs.declared.outcome.Fault.TheVariants as fault
use Rattle.ir_thread.specs.Permitted.{Permits}
use Rattle.ir_thread.specs.State.{end_number, ThreadState, held_at, highest, is_above, a0, a1, a2, call_at, call_output, is_object}
use Rattle.ir_thread.specs.State.{has_word, leave_held, get_held, put_held, call_ask, outcome_ask, release_ask, ask_by, ask_of, after_ask}
use Rattle.ir_thread.specs.State.{after_reply, most_events, shared_ask, reply_of, thread_machine}
use Rattle.ir_thread.proofs.CallerLemmas.{ask_of_permitted, thread_machine_lawful, thread_machine_closing}
use Rattle.ir_runs.specs.Machine.{Machine}
use Rattle.ir_runs.specs.Lawful.{IsLawful}
use Rattle.ir_runs.specs.Machine as machine
use Rattle.ir_runs.specs.declared.access.Access.{Access}
use Rattle.ir_runs.specs.declared.access.Access.TheVariants.{Reading, Writing}
use Rattle.ir_thread.specs.declared.ask.Ask.{Ask}
use Rattle.ir_thread.specs.declared.ask.Ask.TheVariants as ask
use Rattle.ir_thread.specs.declared.ask.Reply.{Reply}
use Rattle.ir_thread.specs.declared.call.Call.{Call}
use Rattle.ir_thread.specs.declared.call.Call.TheVariants as call
use Rattle.ir_thread.specs.declared.end.End.{End}
use Rattle.ir_thread.specs.declared.end.End.TheVariants as end
use Rattle.ir_likeness.specs.Seen.{view, seen_machine, IsLive, IsSpoilt}
use Rattle.ir_search_laws.specs.Views.{IsView, Spoils}

pub seen_machine_is_lawful : (code : List ℕ) → IsLawful (seen_machine code)
seen_machine_is_lawful code = record { holds = (thread_machine_lawful code).holds; takes = (thread_machine_lawful code).takes }

-- ---- what a thread asks, and what its view asks

-- the same, or the thread's log is full or its budget spent
abbrev pub SameOrSpent : Ask → Ask → Type 0
SameOrSpent q' q = (q' ≡ q) ⊎ ((q ≡ ask.End end.LogFull) ⊎ (q ≡ ask.End end.BudgetSpent))

log_full_same_or_spent : (b : Bool) (q : Ask) → SameOrSpent q (cond b q (ask.End end.LogFull))
log_full_same_or_spent true q = inl refl
log_full_same_or_spent false q = inr (inl refl)

entry_same_or_spent : (b c d : Bool) (q e f : Ask) → SameOrSpent (cond b (cond c q e) f) (cond b (cond c (cond d q (ask.End end.LogFull)) e) f)
entry_same_or_spent true true d q e f = log_full_same_or_spent d q
entry_same_or_spent true false d q e f = inl refl
entry_same_or_spent false c d q e f = inl refl

call_same_or_spent : (s : ThreadState) (c : Option Call) → SameOrSpent (call_ask c (view s)) (call_ask c s)
call_same_or_spent s None = inl refl
call_same_or_spent s (Some call.End) = inl refl
call_same_or_spent s (Some call.PutByte) = inl refl
call_same_or_spent s (Some call.PutNumber) = inl refl
call_same_or_spent s (Some (call.Env kind)) = log_full_same_or_spent (nat_lt s.events most_events) (ask.Env kind)
call_same_or_spent s (Some (call.Enter access)) =
    entry_same_or_spent (is_object s (a0 s)) (is_above (highest s.held) (a0 s)) (nat_lt s.events most_events) (ask.Enter (a0 s) access) _ _
call_same_or_spent s (Some call.Leave) = inl refl
call_same_or_spent s (Some call.Get) = inl refl
call_same_or_spent s (Some call.Put) = inl refl
call_same_or_spent s (Some call.OwnNumber) = inl refl
call_same_or_spent s (Some call.TryWrite) =
    entry_same_or_spent (is_object s (a0 s)) (is_above (highest s.held) (a0 s)) (nat_lt s.events most_events) (ask.Try (a0 s)) _ _

outcome_same_or_spent : (s : ThreadState) (o : Outcome) → SameOrSpent (outcome_ask o (view s)) (outcome_ask o s)
outcome_same_or_spent s (Goes core) = inl refl
outcome_same_or_spent s (Ends f) = inl refl
outcome_same_or_spent s Calls = call_same_or_spent s (call_at s)

budget_same_or_spent : (b : Bool) (q' q : Ask) → SameOrSpent q' q → SameOrSpent q' (cond b (ask.End end.BudgetSpent) q)
budget_same_or_spent true q' q h = inr (inr refl)
budget_same_or_spent false q' q h = h

pub view_asks_same_or_spent : (code : List ℕ) (s : ThreadState) → SameOrSpent (ask_of code (view s)) (ask_of code s)
view_asks_same_or_spent code s = by s.ended
  where
    by : (e : Option End) → SameOrSpent (ask_by code e (view s)) (ask_by code e s)
    by (Some e) = inl refl
    by None = budget_same_or_spent (nat_le s.budget s.steps) _ _ (outcome_same_or_spent s (outcome_of code s.core))

call_output-view : (s : ThreadState) (c : Option Call) → call_output c (view s) ≡ call_output c s
call_output-view s None = refl
call_output-view s (Some call.End) = refl
call_output-view s (Some call.PutByte) = refl
call_output-view s (Some call.PutNumber) = refl
call_output-view s (Some (call.Env kind)) = refl
call_output-view s (Some (call.Enter access)) = refl
call_output-view s (Some call.Leave) = refl
call_output-view s (Some call.Get) = refl
call_output-view s (Some call.Put) = refl
call_output-view s (Some call.OwnNumber) = refl
call_output-view s (Some call.TryWrite) = refl

-- a view's step is the view of the thread's
view_after_ask-view : (code : List ℕ) (s : ThreadState) (q : Ask) (r : Reply) → view (after_ask code (view s) q r) ≡ view (after_ask code s q r)
view_after_ask-view code s ask.Private r = refl
view_after_ask-view code s (ask.Env kind) r = refl
view_after_ask-view code s (ask.Enter object access) r = refl
view_after_ask-view code s (ask.Try object) r = refl
view_after_ask-view code s (ask.Leave object access) r = refl
view_after_ask-view code s (ask.Get object index) r = refl
view_after_ask-view code s (ask.Put object index value) r = refl
view_after_ask-view code s ask.Print r = ap (λ p. view (record (after_ask code s ask.Print r) { output = s.output ++ p })) (call_output-view s (call_at s))
view_after_ask-view code s (ask.End e) r = refl
view_after_ask-view code s ask.Done r = refl

seen_take_is_view : (code : List ℕ) (s : ThreadState) → IsLive code s → (r : ℕ) → (seen_machine code).take (view s) r ≡ view ((thread_machine code).take s r)
unfolding after_reply
seen_take_is_view code s live r =
    ap (λ q. view (after_ask code (view s) q (reply_of q r))) live ∙ view_after_ask-view code s (ask_of code s) (reply_of (ask_of code s) r)

-- who asks nothing has ended
pub shared_done_ask_done : (q : Ask) → shared_ask q ≡ machine.Done → q ≡ ask.Done
shared_done_ask_done ask.Private h = absurd (cc h)
shared_done_ask_done (ask.Env kind) h = absurd (cc h)
shared_done_ask_done (ask.Enter object access) h = absurd (cc h)
shared_done_ask_done (ask.Try object) h = absurd (cc h)
shared_done_ask_done (ask.Leave object access) h = absurd (cc h)
shared_done_ask_done (ask.Get object index) h = absurd (cc h)
shared_done_ask_done (ask.Put object index value) h = absurd (cc h)
shared_done_ask_done ask.Print h = absurd (cc h)
shared_done_ask_done (ask.End e) h = absurd (cc h)
shared_done_ask_done ask.Done h = refl

done_iff_view_done : (code : List ℕ) (s : ThreadState)
    → (shared_ask (ask_of code s) ≡ machine.Done) ↔ (shared_ask (ask_of code (view s)) ≡ machine.Done)
done_iff_view_done code s = by s.ended refl
  where
    never : (s : ThreadState) → s.ended ≡ None → shared_ask (ask_of code s) ≡ machine.Done → ⊥
    never s lives h = (subst (Permits s) (shared_done_ask_done (ask_of code s) h) (ask_of_permitted code s)).0 lives

    by : (e : Option End) → s.ended ≡ e
        → (shared_ask (ask_by code s.ended s) ≡ machine.Done) ↔ (shared_ask (ask_by code s.ended (view s)) ≡ machine.Done)
    by None is = (λ h. absurd (never s is h), λ h. absurd (never (view s) is h))
    by (Some e) is =
        let same : ask_by code s.ended s ≡ ask_by code s.ended (view s) =
        ap (λ z. ask_by code z s) is ∙ sym (ap (λ z. ask_by code z (view s)) is) in
        (λ h. ap shared_ask (sym same) ∙ h, λ h. ap shared_ask same ∙ h)

-- the machine of views is the view of the thread's machine
pub seen_machine_is_view : (code : List ℕ) → IsView (thread_machine code) (seen_machine code) view (IsLive code)
seen_machine_is_view code = record {
  asks = λ s live. ap shared_ask live;
  takes = seen_take_is_view code;
  fits = refl;
  done = done_iff_view_done code;
}

-- ---- what is spoilt

-- an end that is no spent budget's and no full log's
abbrev pub IsFairEnd : End → Type 0
IsFairEnd end.BudgetSpent = ⊥
IsFairEnd end.LogFull = ⊥
IsFairEnd _ = Unit {0}

abbrev pub EndsFair : Ask → Type 0
EndsFair (ask.End e) = IsFairEnd e
EndsFair _ = Unit {0}

conditional_ends_fair : (b : Bool) (q q' : Ask) → EndsFair q → EndsFair q' → EndsFair (cond b q q')
conditional_ends_fair true q q' h h' = h
conditional_ends_fair false q q' h h' = h'

call_ask_ends_fair : (s : ThreadState) (c : Option Call) → EndsFair (call_ask c (view s))
call_ask_ends_fair s None = tt
call_ask_ends_fair s (Some call.End) = tt
call_ask_ends_fair s (Some call.PutByte) = conditional_ends_fair _ ask.Print (ask.End end.OutputFull) tt tt
call_ask_ends_fair s (Some call.PutNumber) = conditional_ends_fair _ ask.Print (ask.End end.OutputFull) tt tt
call_ask_ends_fair s (Some (call.Env kind)) = tt
call_ask_ends_fair s (Some (call.Enter access)) = conditional_ends_fair (is_object s (a0 s)) _ (ask.End end.NoSuchObject)
    (conditional_ends_fair (is_above (highest s.held) (a0 s)) (ask.Enter (a0 s) access) (ask.End end.EntryOutOfOrder) tt tt) tt
call_ask_ends_fair s (Some call.Leave) =
    conditional_ends_fair (is_object s (a0 s)) (leave_held (a0 s) (held_at s.held (a0 s))) (ask.End end.NoSuchObject) (by (held_at s.held (a0 s))) tt
  where
    by : (h : Option Access) → EndsFair (leave_held (a0 s) h)
    by None = tt
    by (Some access) = tt
call_ask_ends_fair s (Some call.Get) =
    conditional_ends_fair (has_word s) (get_held (a0 s) (a1 s) (held_at s.held (a0 s))) (ask.End end.NoSuchObject) (by (held_at s.held (a0 s))) tt
  where
    by : (h : Option Access) → EndsFair (get_held (a0 s) (a1 s) h)
    by None = tt
    by (Some access) = tt
call_ask_ends_fair s (Some call.Put) =
    conditional_ends_fair (has_word s) (put_held (a0 s) (a1 s) (a2 s) (held_at s.held (a0 s))) (ask.End end.NoSuchObject) (by (held_at s.held (a0 s))) tt
  where
    by : (h : Option Access) → EndsFair (put_held (a0 s) (a1 s) (a2 s) h)
    by None = tt
    by (Some Reading) = tt
    by (Some Writing) = tt
call_ask_ends_fair s (Some call.OwnNumber) = tt
call_ask_ends_fair s (Some call.TryWrite) = conditional_ends_fair (is_object s (a0 s)) _ (ask.End end.NoSuchObject)
    (conditional_ends_fair (is_above (highest s.held) (a0 s)) (ask.Try (a0 s)) (ask.End end.EntryOutOfOrder) tt tt) tt

outcome_ask_ends_fair : (s : ThreadState) (o : Outcome) → EndsFair (outcome_ask o (view s))
outcome_ask_ends_fair s (Goes core) = tt
outcome_ask_ends_fair s (Ends fault.Breakpoint) = tt
outcome_ask_ends_fair s (Ends fault.IllegalWord) = tt
outcome_ask_ends_fair s (Ends fault.TargetMisaligned) = tt
outcome_ask_ends_fair s (Ends fault.OutsideCode) = tt
outcome_ask_ends_fair s (Ends fault.BadLoad) = tt
outcome_ask_ends_fair s (Ends fault.BadStore) = tt
outcome_ask_ends_fair s Calls = call_ask_ends_fair s (call_at s)

release_ask_ends_fair : (h : Option (ℕ × Access)) → EndsFair (release_ask h)
release_ask_ends_fair None = tt
release_ask_ends_fair (Some top) = tt

ask_of_view_ends_fair : (code : List ℕ) (s : ThreadState) → EndsFair (ask_of code (view s))
ask_of_view_ends_fair code s = by s.ended
  where
    by : (e : Option End) → EndsFair (ask_by code e (view s))
    by (Some e) = release_ask_ends_fair (highest s.held)
    by None = outcome_ask_ends_fair s (outcome_of code s.core)

-- the number of an end, if there is one
unfoldable pub recorded_end_number : Option (ℕ × ℕ) → ℕ
recorded_end_number None = 0
recorded_end_number (Some e) = e.0

fair_end_has_budget : (e : End) → IsFairEnd e → end_number e ≡ 13 → ⊥
fair_end_has_budget (end.Exit c) f h = cc h
fair_end_has_budget end.Breakpoint f h = cc h
fair_end_has_budget end.IllegalWord f h = cc h
fair_end_has_budget end.TargetMisaligned f h = cc h
fair_end_has_budget end.OutsideCode f h = cc h
fair_end_has_budget end.BadLoad f h = cc h
fair_end_has_budget end.BadStore f h = cc h
fair_end_has_budget end.UnknownCall f h = cc h
fair_end_has_budget end.NoSuchObject f h = cc h
fair_end_has_budget end.EntryOutOfOrder f h = cc h
fair_end_has_budget end.NotHeld f h = cc h
fair_end_has_budget end.OutputFull f h = cc h
fair_end_has_budget end.BudgetSpent f h = f
fair_end_has_budget end.LogFull f h = f

fair_end_is_no_full_log : (e : End) → IsFairEnd e → end_number e ≡ 14 → ⊥
fair_end_is_no_full_log (end.Exit c) f h = cc h
fair_end_is_no_full_log end.Breakpoint f h = cc h
fair_end_is_no_full_log end.IllegalWord f h = cc h
fair_end_is_no_full_log end.TargetMisaligned f h = cc h
fair_end_is_no_full_log end.OutsideCode f h = cc h
fair_end_is_no_full_log end.BadLoad f h = cc h
fair_end_is_no_full_log end.BadStore f h = cc h
fair_end_is_no_full_log end.UnknownCall f h = cc h
fair_end_is_no_full_log end.NoSuchObject f h = cc h
fair_end_is_no_full_log end.EntryOutOfOrder f h = cc h
fair_end_is_no_full_log end.NotHeld f h = cc h
fair_end_is_no_full_log end.OutputFull f h = cc h
fair_end_is_no_full_log end.BudgetSpent f h = f
fair_end_is_no_full_log end.LogFull f h = f

fair_end_spoils_nothing : (code : List ℕ) (s : ThreadState) (e : End) (r : Reply) → IsFairEnd e → IsSpoilt code (after_ask code s (ask.End e) r) → ⊥
unfolding recorded_end_number
fair_end_spoils_nothing code s e r f (inl h) = fair_end_has_budget e f (ap recorded_end_number h)
fair_end_spoils_nothing code s e r f (inr h) = fair_end_is_no_full_log e f (ap recorded_end_number h)

-- a step that ends fairly leaves a thread's end, or gives it one that spoils nothing
spoilt_before_fair_ask : (code : List ℕ) (s : ThreadState) (q : Ask) (r : Reply) → EndsFair q → IsSpoilt code (after_ask code s q r) → IsSpoilt code s
spoilt_before_fair_ask code s ask.Private r f h = h
spoilt_before_fair_ask code s (ask.Env kind) r f h = h
spoilt_before_fair_ask code s (ask.Enter object access) r f h = h
spoilt_before_fair_ask code s (ask.Try object) r f h = h
spoilt_before_fair_ask code s (ask.Leave object access) r f h = h
spoilt_before_fair_ask code s (ask.Get object index) r f h = h
spoilt_before_fair_ask code s (ask.Put object index value) r f h = h
spoilt_before_fair_ask code s ask.Print r f h = h
spoilt_before_fair_ask code s (ask.End e) r f h = absurd (fair_end_spoils_nothing code s e r f h)
spoilt_before_fair_ask code s ask.Done r f h = h

-- a thread is live, or its next step spoils it
pub live_or_next_spoils : (code : List ℕ) → Spoils (thread_machine code) (IsLive code) (IsSpoilt code)
unfolding after_reply
live_or_next_spoils code = record {
  decides = λ s. elim (view_asks_same_or_spent code s) [
    | inl live ↦ inl live
    | inr (inl full) ↦ inr (λ r. subst (λ q. IsSpoilt code (after_ask code s q (reply_of q r))) (sym full) (inr refl))
    | inr (inr spent) ↦ inr (λ r. subst (λ q. IsSpoilt code (after_ask code s q (reply_of q r))) (sym spent) (inl refl))
  ];
  stays = λ s h r. elim h [
    | inl e ↦ inl ((thread_machine_closing code).stays s r (13, 0) e)
    | inr e ↦ inr ((thread_machine_closing code).stays s r (14, 0) e)
  ];
  spares = λ s live r h. spoilt_before_fair_ask code s (ask_of code s) (reply_of (ask_of code s) r) (subst EndsFair live (ask_of_view_ends_fair code s)) h;
}
