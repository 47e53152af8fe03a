-- The causes by counts are the causes.
use Rattle.std.proofs.Common.{◌≡◌, ℕ, suc, zero, ◌-◌, ◌<◌, ◌≤◌, ◌⊎◌, inl, inr, Bool, true, false, nat_lt, ◌==◌, if◌then◌else◌, Option, Some, None, refl, sym, ap, ◌∙◌, subst, arith}
use Rattle.std.proofs.lemmas.Bool.{cases_eq, cases_lt, and_parts, and_cases, ltb-true, ltb-false, eqb-true, eqb-false}
use Rattle.ir_runs.specs.Machine.{Label, Quiet, Answer, EnteredAt, FailedTry, LeftAt, Trace}
use Rattle.ir_runs.specs.declared.access.Access.{Access}
use Rattle.ir_runs.specs.declared.access.Access.TheVariants.{Reading, Writing}
use Rattle.ir_runs.specs.Coherent.{IsCoherent}
use Rattle.ir_coherence.specs.Counting.{reads_in, writes_in, nobody_made, cause_by}
use Rattle.ir_runs.specs.Run.{At}
use Rattle.ir_coherence.specs.Breaking.{IsUnmade, IsTwice, IsMiscounted, HasCause}
use Rattle.ir_coherence.specs.Laws.{CoherentUnbroken, UnbrokenCoherent}
use Rattle.ir_coherence.specs.declared.cause.Cause.{Cause}
use Rattle.ir_coherence.specs.declared.cause.Cause.TheVariants.{Unmade, Twice, Readers}
use Rattle.ir_coherence.proofs.Writes.{HasLogsOfThreads, counted_write_in_trace, trace_write_is_counted, two_writes_counted, other_trace_write_exists}
use Rattle.ir_runs.proofs.CallerLemmas.{at_place_is_unique}

unmade_if_never_made : (n : ℕ) (emitted : Trace) → HasLogsOfThreads n emitted → (t i o v l : ℕ) (a : Access) → At (emitted.logs t) i (EnteredAt o a v l)
    → nobody_made (writes_in n emitted) o v ≡ true → IsUnmade emitted t i
unmade_if_never_made n emitted of t i o zero l a at h = absurd
    (omega (arith, ltb-true 0 0 (and_parts (nat_lt 0 0) (writes_in n emitted o (zero - 1) == 0) h).0))
unmade_if_never_made n emitted of t i o (suc v) l a at h = record {
  object = o;
  access = a;
  version = v;
  left = l;
  entry = at;
  unmade = λ u j k w. omega (
    arith,
    trace_write_is_counted n emitted of o v u j k w,
    ap (writes_in n emitted o) before,
    eqb-true
        (writes_in n emitted o (suc v - 1)) 0 (and_parts (nat_lt 0 (suc v)) (writes_in n emitted o (suc v - 1) == 0) h).1,
  );
}
  where
    before : suc v - 1 ≡ v
    before = omega arith

made_is_not_unmade : (n : ℕ) (emitted : Trace) → (t i o v l : ℕ) (a : Access) → At (emitted.logs t) i (EnteredAt o a v l)
    → nobody_made (writes_in n emitted) o v ≡ false → IsUnmade emitted t i → ⊥
made_is_not_unmade n emitted t i o v l a at h un =
    let same : EnteredAt un.object un.access (suc un.version) un.left ≡ EnteredAt o a v l = at_place_is_unique (emitted.logs t) i _ _ un.entry at in
    let object : un.object ≡ o = cc in
    let version : suc un.version ≡ v = cc in
    elim (and_cases (nat_lt 0 v) (writes_in n emitted o (v - 1) == 0) h) [
      | inl first ↦ omega (arith, ltb-false 0 v first)
      | inr some ↦ let made = counted_write_in_trace n emitted o (v - 1) (positive (writes_in n emitted o (v - 1)) some) in
          let before : v - 1 ≡ un.version = omega arith in
          let at_version = subst (λ z. At (emitted.logs made.0) made.1 (EnteredAt o Writing z made.2)) before made.3 in
          un.unmade made.0 made.1 made.2 (subst (λ z. At (emitted.logs made.0) made.1 (EnteredAt z Writing un.version made.2)) (sym object)
          at_version)
    ]
  where
    positive : (k : ℕ) → (k == 0) ≡ false → 0 < k
    positive k e = let ne : k ≡ 0 → ⊥ = eqb-false k 0 e in omega arith

is_twice_if_two_writes : (n : ℕ) (emitted : Trace) → HasLogsOfThreads n emitted → (t i o v l : ℕ) → At (emitted.logs t) i (EnteredAt o Writing v l)
    → nat_lt 1 (writes_in n emitted o v) ≡ true → IsTwice emitted t i
is_twice_if_two_writes n emitted of t i o v l at h =
    let r = other_trace_write_exists n emitted of o v t i l at (ltb-true 1 (writes_in n emitted o v) h) in
    record {
      object = o;
      version = v;
      left = l;
      entry = at;
      thread = r.0;
      event = r.1;
      others_left = r.2;
      another = r.3;
      apart = r.4;
    }

one_write_is_not_twice : (n : ℕ) (emitted : Trace) → HasLogsOfThreads n emitted → (t i o v l : ℕ) → At (emitted.logs t) i (EnteredAt o Writing v l)
    → nat_lt 1 (writes_in n emitted o v) ≡ false → IsTwice emitted t i → ⊥
one_write_is_not_twice n emitted of t i o v l at h two =
    let same : EnteredAt two.object Writing two.version two.left ≡ EnteredAt o Writing v l = at_place_is_unique (emitted.logs t) i _ _ two.entry at in
    let object : two.object ≡ o = cc in
    let version : two.version ≡ v = cc in
    let many = two_writes_counted n emitted of two.object two.version t i two.left two.thread two.event two.others_left two.entry two.another two.apart in
    omega (
      arith,
      many,
      ap (λ z. writes_in n emitted z two.version) object,
      ap (λ z. writes_in n emitted o z) version,
      ltb-false 1
          (writes_in n emitted o v) h,
    )

other_readers_miscount : (n : ℕ) (emitted : Trace) → (t i o v l : ℕ) → At (emitted.logs t) i (EnteredAt o Writing v l) → (l == reads_in n emitted o v) ≡ false
    → IsMiscounted n emitted t i
other_readers_miscount n emitted t i o v l at h = record { object = o; version = v; left = l; entry = at; other = eqb-false l (reads_in n emitted o v) h }

same_readers_count : (n : ℕ) (emitted : Trace) → (t i o v l : ℕ) → At (emitted.logs t) i (EnteredAt o Writing v l) → (l == reads_in n emitted o v) ≡ true
    → IsMiscounted n emitted t i → ⊥
same_readers_count n emitted t i o v l at h mis =
    let same : EnteredAt mis.object Writing mis.version mis.left ≡ EnteredAt o Writing v l = at_place_is_unique (emitted.logs t) i _ _ mis.entry at in
    let object : mis.object ≡ o = cc in
    let version : mis.version ≡ v = cc in
    let left : mis.left ≡ l = cc in
    mis.other (left ∙ eqb-true l (reads_in n emitted o v) h ∙ ap (λ z. reads_in n emitted z v) (sym object)
    ∙ ap (λ z. reads_in n emitted mis.object z) (sym version))

-- the first of three
abbrev pub IsFirstCauseOfThree : Type 0 → Type 0 → Type 0 → Cause → Type 0
IsFirstCauseOfThree P Q S Unmade = P
IsFirstCauseOfThree P Q S Twice = (P → ⊥) × Q
IsFirstCauseOfThree P Q S Readers = (P → ⊥) × (Q → ⊥) × S

write_cause_is_first : (P Q S : Type 0) (a b d : Bool) → (a ≡ true → P) → (a ≡ false → P → ⊥) → (b ≡ true → Q) → (b ≡ false → Q → ⊥)
    → (d ≡ false → S) → (c : Cause)
    → (if a then Some Unmade else if b then Some Twice else if d then None else Some Readers) ≡ Some c → IsFirstCauseOfThree P Q S c
write_cause_is_first P Q S true b d py pn qy qn sy Unmade e = py refl
write_cause_is_first P Q S true b d py pn qy qn sy Twice e = cc
write_cause_is_first P Q S true b d py pn qy qn sy Readers e = cc
write_cause_is_first P Q S false true d py pn qy qn sy Unmade e = cc
write_cause_is_first P Q S false true d py pn qy qn sy Twice e = (pn refl, qy refl)
write_cause_is_first P Q S false true d py pn qy qn sy Readers e = cc
write_cause_is_first P Q S false false true py pn qy qn sy c e = absurd (let bad : None ≡ Some c = e in cc)
write_cause_is_first P Q S false false false py pn qy qn sy Unmade e = cc
write_cause_is_first P Q S false false false py pn qy qn sy Twice e = cc
write_cause_is_first P Q S false false false py pn qy qn sy Readers e = (pn refl, qn refl, sy refl)

unnamed_write_no_cause : (P Q S : Type 0) (a b d : Bool) → (a ≡ false → P → ⊥) → (b ≡ false → Q → ⊥) → (d ≡ true → S → ⊥) → (c : Cause)
    → (if a then Some Unmade else if b then Some Twice else if d then None else Some Readers) ≡ None → IsFirstCauseOfThree P Q S c → ⊥
unnamed_write_no_cause P Q S true b d pn qn sn c e f = cc
unnamed_write_no_cause P Q S false true d pn qn sn c e f = cc
unnamed_write_no_cause P Q S false false false pn qn sn c e f = cc
unnamed_write_no_cause P Q S false false true pn qn sn Unmade e f = pn refl f
unnamed_write_no_cause P Q S false false true pn qn sn Twice e f = qn refl f.1
unnamed_write_no_cause P Q S false false true pn qn sn Readers e f = sn refl f.2

read_cause_is_first : (P Q S : Type 0) (a : Bool) → (a ≡ true → P) → (c : Cause) → (if a then Some Unmade else None) ≡ Some c → IsFirstCauseOfThree P Q S c
read_cause_is_first P Q S true py Unmade e = py refl
read_cause_is_first P Q S true py Twice e = cc
read_cause_is_first P Q S true py Readers e = cc
read_cause_is_first P Q S false py c e = absurd (let bad : None ≡ Some c = e in cc)

unnamed_read_no_cause : (P Q S : Type 0) (a : Bool) → (a ≡ false → P → ⊥) → (Q → ⊥) → (S → ⊥) → (c : Cause)
    → (if a then Some Unmade else None) ≡ None → IsFirstCauseOfThree P Q S c → ⊥
unnamed_read_no_cause P Q S true pn q s c e f = cc
unnamed_read_no_cause P Q S false pn q s Unmade e f = pn refl f
unnamed_read_no_cause P Q S false pn q s Twice e f = q f.1
unnamed_read_no_cause P Q S false pn q s Readers e f = s f.2

first_of_three_is_cause : (n : ℕ) (emitted : Trace) (t i : ℕ) (c : Cause) → IsFirstCauseOfThree (IsUnmade emitted t i) (IsTwice emitted t i) (IsMiscounted n emitted t i) c
    → HasCause n emitted t i c
first_of_three_is_cause n emitted t i Unmade f = f
first_of_three_is_cause n emitted t i Twice f = f
first_of_three_is_cause n emitted t i Readers f = f

cause_is_first_of_three : (n : ℕ) (emitted : Trace) (t i : ℕ) (c : Cause) → HasCause n emitted t i c
    → IsFirstCauseOfThree (IsUnmade emitted t i) (IsTwice emitted t i) (IsMiscounted n emitted t i) c
cause_is_first_of_three n emitted t i Unmade f = f
cause_is_first_of_three n emitted t i Twice f = f
cause_is_first_of_three n emitted t i Readers f = f

-- a label that is no entry breaks nothing
no_cause_unless_entry : (n : ℕ) (emitted : Trace) (t i : ℕ) (m : Label) → At (emitted.logs t) i m → ((o v l : ℕ) (a : Access) → EnteredAt o a v l ≡ m → ⊥)
    → (c : Cause) → HasCause n emitted t i c → ⊥
no_cause_unless_entry n emitted t i m at none Unmade f = none f.object (suc f.version) f.left f.access (at_place_is_unique (emitted.logs t) i _ _ f.entry at)
no_cause_unless_entry n emitted t i m at none Twice f = none f.1.object f.1.version f.1.left Writing (at_place_is_unique (emitted.logs t) i _ _ f.1.entry at)
no_cause_unless_entry n emitted t i m at none Readers f = none f.2.object f.2.version f.2.left Writing (at_place_is_unique (emitted.logs t) i _ _ f.2.entry at)

-- what the counts name is the first cause
pub counted_cause_is_cause : (n : ℕ) (emitted : Trace) → HasLogsOfThreads n emitted → (t i : ℕ) (m : Label) (c : Cause) → At (emitted.logs t) i m
    → cause_by (reads_in n emitted) (writes_in n emitted) m ≡ Some c → HasCause n emitted t i c
counted_cause_is_cause n emitted of t i Quiet c at e = absurd (let bad : None ≡ Some c = e in cc)
counted_cause_is_cause n emitted of t i (Answer k x) c at e = absurd (let bad : None ≡ Some c = e in cc)
counted_cause_is_cause n emitted of t i (EnteredAt o Reading v l) c at e =
    first_of_three_is_cause n emitted t i c (read_cause_is_first (IsUnmade emitted t i) (IsTwice emitted t i) (IsMiscounted n emitted t i) (nobody_made (writes_in n emitted) o v)
    (unmade_if_never_made n emitted of t i o v l Reading at) c e)
counted_cause_is_cause n emitted of t i (EnteredAt o Writing v l) c at e =
    first_of_three_is_cause n emitted t i c (write_cause_is_first (IsUnmade emitted t i) (IsTwice emitted t i) (IsMiscounted n emitted t i) (nobody_made (writes_in n emitted) o v)
    (nat_lt 1 (writes_in n emitted o v)) (l == reads_in n emitted o v)
    (unmade_if_never_made n emitted of t i o v l Writing at) (made_is_not_unmade n emitted t i o v l Writing at)
    (is_twice_if_two_writes n emitted of t i o v l at) (one_write_is_not_twice n emitted of t i o v l at)
    (other_readers_miscount n emitted t i o v l at) c e)
counted_cause_is_cause n emitted of t i (FailedTry p) c at e = absurd (let bad : None ≡ Some c = e in cc)
counted_cause_is_cause n emitted of t i (LeftAt p a w) c at e = absurd (let bad : None ≡ Some c = e in cc)

-- where the counts name none, there is none
pub uncounted_is_no_cause : (n : ℕ) (emitted : Trace) → HasLogsOfThreads n emitted → (t i : ℕ) (m : Label) → At (emitted.logs t) i m
    → cause_by (reads_in n emitted) (writes_in n emitted) m ≡ None → (c : Cause) → HasCause n emitted t i c → ⊥
uncounted_is_no_cause n emitted of t i Quiet at e c f = no_cause_unless_entry n emitted t i Quiet at (λ o v l a q. cc) c f
uncounted_is_no_cause n emitted of t i (Answer k x) at e c f = no_cause_unless_entry n emitted t i (Answer k x) at (λ o v l a q. cc) c f
uncounted_is_no_cause n emitted of t i (EnteredAt o Reading v l) at e c f =
    unnamed_read_no_cause (IsUnmade emitted t i) (IsTwice emitted t i) (IsMiscounted n emitted t i) (nobody_made (writes_in n emitted) o v)
    (made_is_not_unmade n emitted t i o v l Reading at)
    (λ two. let bad : EnteredAt two.object Writing two.version two.left ≡ EnteredAt o Reading v l = at_place_is_unique (emitted.logs t) i _ _ two.entry at in cc)
    (λ mis. let bad : EnteredAt mis.object Writing mis.version mis.left ≡ EnteredAt o Reading v l = at_place_is_unique (emitted.logs t) i _ _ mis.entry at in cc)
    c e (cause_is_first_of_three n emitted t i c f)
uncounted_is_no_cause n emitted of t i (EnteredAt o Writing v l) at e c f =
    unnamed_write_no_cause (IsUnmade emitted t i) (IsTwice emitted t i) (IsMiscounted n emitted t i) (nobody_made (writes_in n emitted) o v)
    (nat_lt 1 (writes_in n emitted o v)) (l == reads_in n emitted o v)
    (made_is_not_unmade n emitted t i o v l Writing at) (one_write_is_not_twice n emitted of t i o v l at) (same_readers_count n emitted t i o v l at) c e
    (cause_is_first_of_three n emitted t i c f)
uncounted_is_no_cause n emitted of t i (FailedTry p) at e c f = no_cause_unless_entry n emitted t i (FailedTry p) at (λ o v l a q. cc) c f
uncounted_is_no_cause n emitted of t i (LeftAt p x w) at e c f = no_cause_unless_entry n emitted t i (LeftAt p x w) at (λ o v l a q. cc) c f

-- no cause of a trace's event, by decision
cause_is_none_or_some : (x : Option Cause) → (x ≡ None) ⊎ ((c : Cause) × (x ≡ Some c))
cause_is_none_or_some None = inl refl
cause_is_none_or_some (Some c) = inr (c, refl)

pub coherent_is_unbroken : CoherentUnbroken
coherent_is_unbroken n emitted co t i Unmade f =
    let made = co.made t i f.object f.version f.left f.access f.entry in
    f.unmade made.0 made.1 made.2 made.3
coherent_is_unbroken n emitted co t i Twice f =
    let two = f.1 in
    let same = co.writer t i two.thread two.event two.object two.version two.left two.others_left two.entry two.another in
    two.apart same.0 same.1
coherent_is_unbroken n emitted co t i Readers f =
    let mis = f.2 in
    mis.other (co.readers t i mis.object mis.version mis.left mis.entry)

-- where no event has a cause by the counts, the trace is coherent
pub coherent_by_counts : (n : ℕ) (emitted : Trace) → HasLogsOfThreads n emitted
    → ((t i : ℕ) (m : Label) → At (emitted.logs t) i m → cause_by (reads_in n emitted) (writes_in n emitted) m ≡ None) → IsCoherent n emitted
coherent_by_counts n emitted of none = record {
  made = λ t i o v l a at. made_by t i o v l a at (cases_lt 0 (writes_in n emitted o v));
  writer = λ t i u j o v l k at bt. one_by t i u j o v l k at bt (cases_eq t u) (cases_eq i j);
  readers = λ t i o v l at. readers_by t i o v l at (cases_eq l (reads_in n emitted o v));
}
  where
    broken : (t i : ℕ) (m : Label) → At (emitted.logs t) i m → (c : Cause) → HasCause n emitted t i c → ⊥
    broken t i m at = uncounted_is_no_cause n emitted of t i m at (none t i m at)

    made_by : (t i o v l : ℕ) (a : Access) → At (emitted.logs t) i (EnteredAt o a (suc v) l) → (0 < writes_in n emitted o v) ⊎ (writes_in n emitted o v ≤ 0)
        → (u j k : ℕ) × At (emitted.logs u) j (EnteredAt o Writing v k)
    made_by t i o v l a at (inl some) = counted_write_in_trace n emitted o v some
    made_by t i o v l a at (inr no_one) = absurd (broken t i (EnteredAt o a (suc v) l) at Unmade record {
      object = o;
      access = a;
      version = v;
      left = l;
      entry = at;
      unmade = λ u j k w. omega (arith, trace_write_is_counted n emitted of o v u j k w);
    })

    unmade_not : (t i : ℕ) (m : Label) → At (emitted.logs t) i m → IsUnmade emitted t i → ⊥
    unmade_not t i m at = broken t i m at Unmade

    twice_not : (t i : ℕ) (m : Label) → At (emitted.logs t) i m → IsTwice emitted t i → ⊥
    twice_not t i m at two = broken t i m at Twice (unmade_not t i m at, two)

    one_by : (t i u j o v l k : ℕ) → At (emitted.logs t) i (EnteredAt o Writing v l) → At (emitted.logs u) j (EnteredAt o Writing v k) → (t ≡ u) ⊎ (t ≡ u → ⊥)
        → (i ≡ j) ⊎ (i ≡ j → ⊥) → (t ≡ u) × (i ≡ j)
    one_by t i u j o v l k at bt (inl e) (inl f) = (e, f)
    one_by t i u j o v l k at bt (inl e) (inr ne) =
        absurd (twice_not t i (EnteredAt o Writing v l) at
        record { object = o; version = v; left = l; entry = at; thread = u; event = j; others_left = k; another = bt; apart = λ _. ne })
    one_by t i u j o v l k at bt (inr ne) f = absurd (twice_not t i (EnteredAt o Writing v l) at
        record { object = o; version = v; left = l; entry = at; thread = u; event = j; others_left = k; another = bt; apart = λ e _. ne e })

    readers_by : (t i o v l : ℕ) → At (emitted.logs t) i (EnteredAt o Writing v l) → (l ≡ reads_in n emitted o v) ⊎ (l ≡ reads_in n emitted o v → ⊥)
        → l ≡ reads_in n emitted o v
    readers_by t i o v l at (inl e) = e
    readers_by t i o v l at (inr ne) = absurd (broken t i (EnteredAt o Writing v l) at Readers (
      unmade_not t i (EnteredAt o Writing v l) at,
      twice_not t i (EnteredAt o Writing v l) at,
      record { object = o; version = v; left = l; entry = at; other = ne },
    ))

pub unbroken_is_coherent : UnbrokenCoherent
unbroken_is_coherent n emitted of none = coherent_by_counts n emitted of
    (λ t i m at. go t i m at (cause_is_none_or_some (cause_by (reads_in n emitted) (writes_in n emitted) m)))
  where
    go : (t i : ℕ) (m : Label) → At (emitted.logs t) i m → (cause_by (reads_in n emitted) (writes_in n emitted) m ≡ None)
        ⊎ ((c : Cause) × (cause_by (reads_in n emitted) (writes_in n emitted) m ≡ Some c))
        → cause_by (reads_in n emitted) (writes_in n emitted) m ≡ None
    go t i m at (inl e) = e
    go t i m at (inr some) = absurd (none t i some.0 (counted_cause_is_cause n emitted of t i m some.0 at some.1))
