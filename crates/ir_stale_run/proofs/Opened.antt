-- A row between its read entry and the leave after its write entry.
use Rattle.std.proofs.Common.{◌≡◌, ◌+◌, ◌-◌, ◌<◌, ◌≤◌, ℕ, List, [], ◌++◌, refl, sym, ap, ◌∙◌, subst, arith, inl, inr}
use Rattle.std.specs.Prelude.{Bool, true, false, if◌then◌else◌, Option, Some, None, slice_get}
use Rattle.std.specs.List.{slice_index_or}
use Rattle.std.proofs.lemmas.Bool.{cases_lt, true≢false}
use Rattle.ir_thread.specs.State as thread
use Rattle.ir_flat.specs.Flat.{idle}
use Rattle.ir_object.specs.Empty.{empty}
use Rattle.ir_fit.specs.Fit.{FittedTrace, HasRun}
use Rattle.ir_cut.specs.Positions.{thread_at}
use Rattle.ir_weave.specs.Standing.{Standing, StandsAtCut, flat_in, positions}
use Rattle.ir_past.specs.declared.stale_write.StaleWrite.{StaleWrite}
use Rattle.ir_opened.proofs.CallerLemmas.{leave_is_past_event}
use Rattle.ir_event_walk.specs.Calls.{calls_in, AllSuit, AreCalls}
use Rattle.ir_event_walk.specs.Words.{AreWordsAt}
use Rattle.ir_stale_run.specs.WhatIf.{rest_of, rest_by, what_if, puts, changed_word, unknown_by, found_of}
use Rattle.ir_stale_run.specs.Rests.{behind_read, behind_write, IsRestOf}
use Rattle.ir_stale_run.specs.Watch.{IsFoundAs, IsCopyOf, IsSpan, IsSpanOf, IsOpenAt, IsCallMore}
use Rattle.ir_event_walk.specs.declared.exchange.Exchange.{Exchange}
use Rattle.ir_stale_run.specs.declared.rest.Rest.{Rest}
use Rattle.ir_stale_run.specs.declared.found.Found.{Found}
use Rattle.ir_stale_run.specs.declared.found.Found.TheVariants.{Unknown, Known}
use Rattle.ir_stale_run.specs.declared.hold.Hold.TheVariants.{Reading}
use Rattle.ir_thread.specs.State.{ThreadState}
use Rattle.ir_stale_run.specs.declared.span.Span.{Span}
use Rattle.ir_stale_run.specs.declared.kept.Open.{Open}
use Rattle.ir_event_walk.proofs.CallerLemmas.{calls_in_split, all_suit_append, held_words_at_standing}
use Rattle.ir_stale_run.proofs.Entered.{none_held_behind_read, none_held_behind_write}

-- ---- behind its read entry

calls_in_no_step : (code : List ℕ) (at : ℕ → thread.ThreadState) (k n : ℕ) → n ≡ 0 → [] ≡ calls_in code at k n
unfolding calls_in
calls_in_no_step code at k n e = ap (calls_in code at k) (sym e)

-- the thread is copied, where threads are
copied_is_copy : (copies : Bool) (copy : Option ThreadState) (x : ThreadState) → copy ≡ (if copies then Some x else None) → IsCopyOf copy x
copied_is_copy true copy x e = subst (λ y. IsCopyOf y x) (sym e) refl
copied_is_copy false copy x e = subst (λ y. IsCopyOf y x) (sym e) tt

copy_exists_if_copied : (copies : Bool) (copy : Option ThreadState) (x : ThreadState) → copy ≡ (if copies then Some x else None) → copies ≡ true → copy ≡ None → ⊥
copy_exists_if_copied true copy x e on none = some_none x (sym e ∙ none)
  where
    some_none : (y : ThreadState) → Some y ≡ None → ⊥
    some_none y e = cc e
copy_exists_if_copied false copy x e on none = true≢false (sym on)

pub open_at_read_entry : (copies : Bool) (f : FittedTrace) (rows : List StaleWrite) (s : Standing) (t : ℕ) (o : Open) → HasRun f
    → StandsAtCut f (positions (flat_in f s)) s → IsSpanOf f rows t o.span → o.span.read ≡ positions (flat_in f s) t
    → o.kept.object ≡ o.span.object → o.kept.thread ≡ (if copies then Some (slice_index_or s.threads t idle) else None)
    → o.kept.was.items ≡ (slice_index_or s.objects o.span.object empty).words → o.kept.calls.items ≡ []
    → IsOpenAt copies f rows t o.span.read o
open_at_read_entry copies f rows s t o h stands of here object copied words none = record {
  of = of;
  kept = record {
    object = object ∙ of.span.object;
    thread = λ run whole. subst (IsCopyOf o.kept.thread) ((stands.at.each run whole).threads t
        ∙ (λ i. thread_at f run (sym of.thread i) ((sym here ∙ of.span.read) i))) (copied_is_copy copies o.kept.thread (slice_index_or s.threads t idle) copied);
    copied = copy_exists_if_copied copies o.kept.thread (slice_index_or s.threads t idle) copied;
    was = held_words_at_standing f s of.row.thread (behind_read f of.row) of.row.object o.kept.was.items stands
        (ap (positions (flat_in f s)) of.thread ∙ sym here ∙ of.span.read) (none_held_behind_read f h of.row of.stale)
        (words ∙ ap (λ (p : ℕ). (slice_index_or s.objects p empty).words) of.span.object);
    now = λ past. absurd (let a = of.span.rises in let b = of.span.read in let c = of.span.write in omega (arith, past, a, b, c));
    calls = λ run whole. none ∙ calls_in_no_step f.guest.code (thread_at f run of.row.thread) (behind_read f of.row) (o.span.read - behind_read f of.row)
        (let b = of.span.read in omega (arith, b));
    suit = subst AllSuit (sym none) tt;
  };
  past = omega arith;
  before = let a = of.span.rises in let w = of.span.write
      in let b = leave_is_past_event f of.row.thread of.row.event of.span.last of.span.leave.leaves in let c = of.span.end
      in omega (arith, a, w, b, c);
}

-- ---- further on

-- the same row, by another span that is the same
abbrev pub span_of_row_if_equal : (f : FittedTrace) (rows : List StaleWrite) (t : ℕ) (old new : Span) → new ≡ old → IsSpanOf f rows t old → IsSpanOf f rows t new
span_of_row_if_equal f rows t old new e of = record {
  row = of.row;
  there = ap (λ (s : Span). slice_get rows s.row) e ∙ of.there;
  thread = of.thread;
  stale = of.stale;
  span = subst (IsSpan f of.row) (sym e) of.span;
}

-- its calls are added
pub open_row_after_calls : (copies : Bool) (f : FittedTrace) (rows : List StaleWrite) (t from k : ℕ) (old mid new : Open) (calls : List Exchange)
    → (o : IsOpenAt copies f rows t from old) → IsCallMore old mid calls → AreCalls f t from (k - from) calls → from ≤ k → k ≤ old.span.end
    → new.span ≡ mid.span → new.kept.object ≡ mid.kept.object → new.kept.thread ≡ mid.kept.thread → new.kept.was.items ≡ mid.kept.was.items
    → new.kept.calls.items ≡ mid.kept.calls.items
    → (behind_write f o.of.row ≤ k → AreWordsAt f o.of.row.thread (behind_write f o.of.row) o.of.row.object new.kept.now.items)
    → IsOpenAt copies f rows t k new
open_row_after_calls copies f rows t from k old mid new calls o more are up within same object copied was calls' now = record {
  of = span_of_row_if_equal f rows t old.span new.span (same ∙ more.span) o.of;
  kept = record {
    object = object ∙ more.object ∙ o.kept.object;
    thread = λ run whole. subst (λ y. IsCopyOf y (thread_at f run o.of.row.thread (behind_read f o.of.row))) (sym (copied ∙ more.thread)) (o.kept.thread run whole);
    copied = λ on none. o.kept.copied on (sym (copied ∙ more.thread) ∙ none);
    was = subst (AreWordsAt f o.of.row.thread (behind_read f o.of.row) o.of.row.object) (sym (was ∙ more.was)) o.kept.was;
    now = now;
    calls = λ run whole. calls' ∙ more.calls
        ∙ (λ i. o.kept.calls run whole i ++ (are.same run whole ∙ ap (λ u. calls_in f.guest.code (thread_at f run u) from (k - from)) (sym o.of.thread)) i)
        ∙ sym (calls_in_split f.guest.code (thread_at f run o.of.row.thread) (behind_read f o.of.row) from k
        (let a = o.past in let b = o.of.span.read in omega (arith, a, b)) up);
    suit = subst AllSuit (sym (calls' ∙ more.calls)) (all_suit_append old.kept.calls.items calls o.kept.suit are.suit);
  };
  past = let a = o.past in let b = ap (λ (s : Span). s.read) (same ∙ more.span) in omega (arith, a, b, up);
  before = let b = ap (λ (s : Span). s.end) (same ∙ more.span) in omega (arith, b, within);
}

-- the words are those that are there behind the write entry
pub standing_words_are_behind : (copies : Bool) (f : FittedTrace) (rows : List StaleWrite) (s : Standing) (t from k object : ℕ) (old : Open) (words : List ℕ) → HasRun f
    → (o : IsOpenAt copies f rows t from old) → StandsAtCut f (positions (flat_in f s)) s → positions (flat_in f s) t ≡ k → old.span.write ≡ k
    → object ≡ old.span.object → words ≡ (slice_index_or s.objects object empty).words
    → AreWordsAt f o.of.row.thread (behind_write f o.of.row) o.of.row.object words
standing_words_are_behind copies f rows s t from k object old words h o stands at here same is =
    held_words_at_standing f s o.of.row.thread (behind_write f o.of.row) o.of.row.object words stands
    (ap (positions (flat_in f s)) o.of.thread ∙ at ∙ sym here ∙ o.of.span.write) (none_held_behind_write f h o.of.row o.of.stale)
    (is ∙ ap (λ (p : ℕ). (slice_index_or s.objects p empty).words) (same ∙ o.of.span.object))

-- or those that were kept before
pub kept_words_are_behind : (copies : Bool) (f : FittedTrace) (rows : List StaleWrite) (t from k : ℕ) (old mid : Open) (calls : List Exchange)
    → (o : IsOpenAt copies f rows t from old) → IsCallMore old mid calls → (from < old.span.write → k ≤ old.span.write) → (mid.span.write ≡ k → ⊥)
    → behind_write f o.of.row ≤ k → AreWordsAt f o.of.row.thread (behind_write f o.of.row) o.of.row.object mid.kept.now.items
kept_words_are_behind copies f rows t from k old mid calls o more stop other past =
    subst (AreWordsAt f o.of.row.thread (behind_write f o.of.row) o.of.row.object) (sym more.now) (o.kept.now before)
  where
    before : behind_write f o.of.row ≤ from
    before = elim (cases_lt from old.span.write) [
      | inl less ↦
          let a = stop less in let b = o.of.span.write in
          absurd (other (let c = ap (λ (s : Span). s.write) more.span in omega (arith, a, b, c, past)))
      | inr le ↦ let b = o.of.span.write in omega (arith, le, b)
    ]

-- ---- behind the leave after its write entry

some_row_injective : (x y : StaleWrite) → Some x ≡ Some y → x ≡ y
some_row_injective x y e = cc e

known_injective : {r q : Option Rest} → Known r ≡ Known q → r ≡ q
known_injective e = cc e

known_is_not_unknown : {r : Option Rest} → Known r ≡ Unknown → ⊥
known_is_not_unknown e = cc e

-- without a copy it is known that a row rests on nothing, or it is unknown
known_no_copy_is_rest : (f : FittedTrace) (code : List ℕ) (o : ℕ) (was now : List ℕ) (fuel : ℕ) (calls : List Exchange) (r : Option Rest) (x : ThreadState)
    → Known r ≡ found_of code o was now fuel None calls → r ≡ rest_of code o was now fuel x calls
known_no_copy_is_rest f code o was now fuel calls r x e = by_puts (puts o Reading calls) (changed_word o was now calls) e
  where
    by_puts : (p : Bool) (w : Option ℕ) → Known r ≡ (if p then unknown_by w else Known None)
        → r ≡ (if p then rest_by was now w (what_if code o now Reading fuel x calls) else None)
    by_puts false w e = known_injective e
    by_puts true None e = known_injective e
    by_puts true (Some i) e = absurd (known_is_not_unknown e)

-- a thread that is copied, or none
known_is_rest : (f : FittedTrace) (code : List ℕ) (o : ℕ) (was now : List ℕ) (fuel : ℕ) (copy : Option ThreadState) (calls : List Exchange)
    (r : Option Rest) (x : ThreadState) → IsCopyOf copy x → Known r ≡ found_of code o was now fuel copy calls
    → r ≡ rest_of code o was now fuel x calls
known_is_rest f code o was now fuel (Some y) calls r x same e = known_injective e ∙ ap (λ z. rest_of code o was now fuel z calls) same
known_is_rest f code o was now fuel None calls r x same e = known_no_copy_is_rest f code o was now fuel calls r x e

pub closed_row_is_found : (copies : Bool) (f : FittedTrace) (rows : List StaleWrite) (t k : ℕ) (code : List ℕ) (o : Open) (found : Found) → IsOpenAt copies f rows t k o
    → o.span.end ≡ k → code ≡ f.guest.code
    → found ≡ found_of code o.kept.object o.kept.was.items o.kept.now.items (k - o.span.read + 65536) o.kept.thread o.kept.calls.items
    → (x : StaleWrite) → slice_get rows o.span.row ≡ Some x → IsFoundAs copies f x found
closed_row_is_found copies f rows t k code o (Known rest) is ends same found x there =
    subst (λ (y : StaleWrite). IsRestOf f y rest) (some_row_injective is.of.row x (sym is.of.there ∙ there)) (inl record {
      last = is.of.span.last;
      leave = is.of.span.leave;
      was = o.kept.was.items;
      was_there = is.kept.was;
      now = o.kept.now.items;
      now_there = is.kept.now (let a = leave_is_past_event f is.of.row.thread is.of.row.event is.of.span.last is.of.span.leave.leaves in let b = is.of.span.end in omega (arith, a, b, ends));
      found = λ run whole.
          let to : k ≡ is.of.span.last + 1 = (let b = is.of.span.end in omega (arith, b, ends)) in
          let fuel : k - o.span.read + 65536 ≡ is.of.span.last + 1 - behind_read f is.of.row + 65536 =
          (let b = is.of.span.read in omega (arith, b, to)) in
          let steps : k - behind_read f is.of.row ≡ is.of.span.last + 1 - behind_read f is.of.row = omega (arith, to) in
          known_is_rest f code o.kept.object o.kept.was.items o.kept.now.items (k - o.span.read + 65536) o.kept.thread o.kept.calls.items rest
          (thread_at f run is.of.row.thread (behind_read f is.of.row)) (is.kept.thread run whole) found
          ∙ (λ i. rest_of (same i) (is.kept.object i) o.kept.was.items o.kept.now.items (fuel i) (thread_at f run is.of.row.thread (behind_read f is.of.row))
          ((is.kept.calls run whole ∙ ap (calls_in f.guest.code (thread_at f run is.of.row.thread) (behind_read f is.of.row)) steps) i));
    })
closed_row_is_found copies f rows t k code o Unknown is ends same found x there =
    subst (λ (y : StaleWrite). IsFoundAs copies f y Unknown) (some_row_injective is.of.row x (sym is.of.there ∙ there)) (
      no_copy copies (λ on. is.kept.copied on (none_copied o.kept.thread found)),
      (is.of.span.last, is.of.span.leave.leaves),
    )
  where
    none_copied : (copy : Option ThreadState) → Unknown ≡ found_of code o.kept.object o.kept.was.items o.kept.now.items (k - o.span.read + 65536) copy o.kept.calls.items
        → copy ≡ None
    none_copied None e = refl
    none_copied (Some y) e = absurd (known_is_not_unknown (sym e))

    no_copy : (b : Bool) → (b ≡ true → ⊥) → b ≡ false
    no_copy false not = refl
    no_copy true not = absurd (not refl)
