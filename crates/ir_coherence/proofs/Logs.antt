-- Counts of the events of logs.
use Rattle.std.proofs.Common.{◌≡◌, ℕ, suc, zero, ◌+◌, ◌*◌, ◌<◌, ◌≤◌, Bool, true, false, cond, eqb, List, [], ◌∷◌, ◌++◌, length, map, take, get_or, refl, sym, ap, ◌∙◌, subst, arith, add-one}
use Rattle.std.proofs.lemmas.List.{take_more, map-append}
use Rattle.ir_thread.specs.State.{most_events}
use Rattle.ir_runs.specs.Machine.{Label, Quiet, Answer, EnteredAt, FailedTry, LeftAt}
use Rattle.ir_runs.specs.declared.access.Access.TheVariants.{Reading, Writing}
use Rattle.ir_log.specs.Logging.{label_of}
use Rattle.ir_log.specs.declared.event.Event.{Event}
use Rattle.ir_runs.specs.Verdicts.{reads_one, reads, sum_below}
use Rattle.ir_coherence.specs.Counting.{writes_one, writes_among, CountsMore, HasRoom}
use Rattle.ir_coherence.specs.declared.entry_counts.EntryCounts.{EntryCounts}

reads_of_append : (o v : ℕ) (xs ys : List Label) → reads o v (xs ++ ys) ≡ reads o v xs + reads o v ys
reads_of_append o v [] ys = let e : reads o v ys ≡ 0 + reads o v ys = omega arith in e
reads_of_append o v (x ∷ xs) ys = omega (arith, reads_of_append o v xs ys)

writes_of_append : (o v : ℕ) (xs ys : List Label) → writes_among o v (xs ++ ys) ≡ writes_among o v xs + writes_among o v ys
writes_of_append o v [] ys = let e : writes_among o v ys ≡ 0 + writes_among o v ys = omega arith in e
writes_of_append o v (x ∷ xs) ys = omega (arith, writes_of_append o v xs ys)

nested_bit_at_most_one : (b d : Bool) → ◌≤◌ (cond b (cond d 1 0) 0) 1
nested_bit_at_most_one true true = omega arith
nested_bit_at_most_one true false = omega arith
nested_bit_at_most_one false d = omega arith

reads_one_at_most_one : (o v : ℕ) (m : Label) → reads_one o v m ≤ 1
reads_one_at_most_one o v Quiet = omega arith
reads_one_at_most_one o v (Answer k x) = omega arith
reads_one_at_most_one o v (EnteredAt p Reading w l) = nested_bit_at_most_one (eqb p o) (eqb w v)
reads_one_at_most_one o v (EnteredAt p Writing w l) = omega arith
reads_one_at_most_one o v (FailedTry p) = omega arith
reads_one_at_most_one o v (LeftAt p a w) = omega arith

writes_one_at_most_one : (o v : ℕ) (m : Label) → writes_one o v m ≤ 1
writes_one_at_most_one o v Quiet = omega arith
writes_one_at_most_one o v (Answer k x) = omega arith
writes_one_at_most_one o v (EnteredAt p Reading w l) = omega arith
writes_one_at_most_one o v (EnteredAt p Writing w l) = nested_bit_at_most_one (eqb p o) (eqb w v)
writes_one_at_most_one o v (FailedTry p) = omega arith
writes_one_at_most_one o v (LeftAt p a w) = omega arith

pub reads_at_most_length : (o v : ℕ) (ks : List Label) → reads o v ks ≤ length ks
reads_at_most_length o v [] = omega arith
reads_at_most_length o v (k ∷ ks) = omega (arith, reads_one_at_most_one o v k, reads_at_most_length o v ks)

pub writes_at_most_length : (o v : ℕ) (ks : List Label) → writes_among o v ks ≤ length ks
writes_at_most_length o v [] = omega arith
writes_at_most_length o v (k ∷ ks) = omega (arith, writes_one_at_most_one o v k, writes_at_most_length o v ks)

-- what room is left
pub room_after_counted : (a b : EntryCounts) (ks : List Label) (n k : ℕ) → HasRoom a n → CountsMore a b ks → length ks + k ≤ n → HasRoom b k
room_after_counted a b ks n k room more l = record {
  reads = λ o v. omega (arith, room.reads o v, more.reads o v, reads_at_most_length o v ks);
  writes = λ o v. omega (arith, room.writes o v, more.writes o v, writes_at_most_length o v ks);
}

counts_more_append : (a b d : EntryCounts) (xs ys : List Label) → CountsMore a b xs → CountsMore b d ys → CountsMore a d (xs ++ ys)
counts_more_append a b d xs ys m k = record {
  objects = k.objects ∙ m.objects;
  reads = λ o v. omega (arith, k.reads o v, m.reads o v, reads_of_append o v xs ys);
  writes = λ o v. omega (arith, k.writes o v, m.writes o v, writes_of_append o v xs ys);
}

-- one event further
pub counts_more_take_step : (a b d : EntryCounts) (es : List Event) (i : ℕ) (e : Event) → i < length es → CountsMore a b (map label_of (take i es))
    → CountsMore b d (label_of (get_or es i e) ∷ []) → CountsMore a d (map label_of (take (i + 1) es))
counts_more_take_step a b d es i e l m k =
    subst (CountsMore a d) (sym (ap (map label_of) (take_more es i e l) ∙ map-append label_of (take i es) (get_or es i e ∷ [])))
    (counts_more_append a b d (map label_of (take i es)) (label_of (get_or es i e) ∷ []) m k)

-- a sum of n numbers, each of at most as many events as a log has
pub sum_below_le_events : (n : ℕ) (f : ℕ → ℕ) → ((t : ℕ) → t < n → f t ≤ most_events) → sum_below n f ≤ n * most_events
sum_below_le_events zero f h = omega arith
sum_below_le_events (suc n) f h = omega (arith, h n (omega arith), sum_below_le_events n f (λ t l. h t (omega arith)))

pub sum_below_of_successor : (n : ℕ) (f : ℕ → ℕ) → sum_below (n + 1) f ≡ f n + sum_below n f
sum_below_of_successor n f = rw add-one refl
