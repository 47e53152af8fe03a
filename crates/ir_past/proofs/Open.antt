-- The last entries of a thread, event by event.
use Rattle.std.proofs.Common.{◌≡◌, ℕ, suc, zero, ◌+◌, ◌<◌, inl, inr, Option, Some, None, List, [], ◌∷◌, length, get_or, replicate, slice_set, refl, sym, ap, ◌∙◌, subst, arith}
use Rattle.std.specs.Prelude.{slice_get, IfSome, IfNone}
use Rattle.std.proofs.lemmas.Bool.{cases_eq, cases_lt}
use Rattle.std.proofs.lemmas.Option.{same_Some, none-some, slice_get-get_or}
use Rattle.ir_log.specs.declared.event.Event.{Event}
use Rattle.ir_log.specs.declared.event.Event.TheVariants.{Answer, Read, Write, Try}
use Rattle.std.specs.List.{AllByRecursion}
use Rattle.ir_lemmas.proofs.CallerLemmas.{get_or_after_set, get_or_set_elsewhere}
use Rattle.ir_thread.specs.declared.profile.Profile.{Profile}
use Rattle.ir_trace.specs.Bounds.{IsEvent}
use Rattle.ir_past.specs.Past.{IsStaleIn, entered}
use Rattle.ir_past.specs.Tables.{last_read}
use Rattle.ir_past.specs.Progress.{IsOpenRead, HoldsOpen, FitsSoFar, IsPairAt}
use Rattle.ir_past.specs.declared.last_reads.ReadEntry.{ReadEntry}
use Rattle.ir_past.specs.declared.last_reads.StalePair.{StalePair}
use Rattle.ir_past.proofs.Tables.{get_or-replicate_none}

-- what both events say of one place is the same
pub slice_get_is_unique : (es : List Event) (k : ℕ) (a b : Event) → slice_get es k ≡ Some a → slice_get es k ≡ Some b → a ≡ b
slice_get_is_unique es k a b x y = same_Some a b (sym x ∙ y)

pub open_read_stays_open : (es : List Event) (n o i v : ℕ) (e : Event) → slice_get es n ≡ Some e → (entered e ≡ Some o → ⊥) → IsOpenRead es n o i v
    → IsOpenRead es (n + 1) o i v
open_read_stays_open es n o i v e at ne p = record {
  before = omega (arith, p.before);
  read = p.read;
  alone = λ k f after below is enters. elim (cases_lt k n) [
    | inl less ↦ p.alone k f after less is enters
    | inr not ↦ let here : k ≡ n = omega (arith, below, not) in
        let same : f ≡ e = slice_get_is_unique es n f e (subst (λ z. slice_get es z ≡ Some f) here is) at in
        ne (ap entered (sym same) ∙ enters)
  ];
}

pub open_read_was_open : (es : List Event) (n o i v : ℕ) (e : Event) → slice_get es n ≡ Some e → (entered e ≡ Some o → ⊥) → IsOpenRead es (n + 1) o i v
    → IsOpenRead es n o i v
open_read_was_open es n o i v e at ne p = elim (cases_lt i n) [
  | inl less ↦ record {
    before = less;
    read = p.read;
    alone = λ k f after below is enters. p.alone k f after (omega (arith, below)) is enters;
  }
  | inr not ↦ let here : i ≡ n = omega (arith, p.before, not) in
      let same : Read o v ≡ e = slice_get_is_unique es n (Read o v) e (subst (λ z. slice_get es z ≡ Some (Read o v)) here p.read) at in
      absurd (ne (ap entered (sym same)))
]

-- an entry of the object at n leaves none before it open
pub just_opened_is_event : (es : List Event) (n o i v : ℕ) (e : Event) → slice_get es n ≡ Some e → entered e ≡ Some o → IsOpenRead es (n + 1) o i v → i ≡ n
just_opened_is_event es n o i v e at enters p = elim (cases_lt i n) [
  | inl less ↦ absurd (p.alone n e less (omega arith) at enters)
  | inr not ↦ omega (arith, p.before, not)
]

-- one read entry of an object is open at most
pub open_read_is_unique : (es : List Event) (n o i j v w : ℕ) → IsOpenRead es n o i v → IsOpenRead es n o j w → i ≡ j
open_read_is_unique es n o i j v w p q = elim (cases_lt i j) [
  | inl less ↦ absurd (p.alone j (Read o w) less q.before q.read refl)
  | inr not ↦ elim (cases_lt j i) [
    | inl more ↦ absurd (q.alone i (Read o v) more p.before p.read refl)
    | inr same ↦ omega (arith, not, same)
  ]
]

pub open_version_is_unique : (es : List Event) (n o i j v w : ℕ) → IsOpenRead es n o i v → IsOpenRead es n o j w → v ≡ w
open_version_is_unique es n o i j v w p q =
    let place : i ≡ j = open_read_is_unique es n o i j v w p q in
    let same : Read o v ≡ Read o w =
    slice_get_is_unique es j (Read o v) (Read o w) (subst (λ z. slice_get es z ≡ Some (Read o v)) place p.read) q.read in
    cc

-- ---- the table

pub holds_open_at_start : (es : List Event) (n : ℕ) → HoldsOpen es 0 (replicate n None)
holds_open_at_start es n = record {
  found = λ o e is. absurd (none-some e (sym (get_or-replicate_none n o) ∙ is));
  all = λ o i v p is. absurd (omega (arith, p.before));
}

-- an event that is no entry leaves the table as it is
pub holds_open_other_event : (es : List Event) (n : ℕ) (table : List (Option ReadEntry)) (e : Event) → slice_get es n ≡ Some e
    → ((o : ℕ) → entered e ≡ Some o → ⊥) → HoldsOpen es n table → HoldsOpen es (n + 1) table
holds_open_other_event es n table e at ne h = record {
  found = λ o x is. open_read_stays_open es n o x.event x.version e at (ne o) (h.found o x is);
  all = λ o i v p is. h.all o i v (open_read_was_open es n o i v e at (ne o) p) is;
}

pub entered_object_unique : (o p : ℕ) (e : Event) → entered e ≡ Some p → (p ≡ o → ⊥) → entered e ≡ Some o → ⊥
entered_object_unique o p e is ne at = ne (same_Some p o (sym is ∙ at))

pub holds_open_after_read : (es : List Event) (n p v : ℕ) (table : List (Option ReadEntry)) → slice_get es n ≡ Some (Read p v) → p < length table
    → HoldsOpen es n table → HoldsOpen es (n + 1) (slice_set table p (Some record { event = n; version = v }))
holds_open_after_read es n p v table at within h = record {
  found = λ o x is. elim (cases_eq p o) [
    | inl here ↦ found_here o x here is
    | inr ne ↦ open_read_stays_open es n o x.event x.version (Read p v) at (entered_object_unique o p (Read p v) refl ne)
        (h.found o x (sym (get_or_set_elsewhere table p o new None ne) ∙ is))
  ];
  all = λ o i w q is. elim (cases_eq p o) [
    | inl here ↦ none-some entry (sym (subst (λ z. last_read (slice_set table p new) z ≡ None) (sym here) is) ∙ get_or_after_set table p new None within)
    | inr ne ↦ h.all o i w (open_read_was_open es n o i w (Read p v) at (entered_object_unique o p (Read p v) refl ne) q) (sym (get_or_set_elsewhere table p o new None ne) ∙ is)
  ];
}
  where
    entry : ReadEntry
    entry = record { event = n; version = v }

    new : Option ReadEntry
    new = Some entry

    now_open : IsOpenRead es (n + 1) p n v
    now_open = record { before = omega arith; read = at; alone = λ k f after below is enters. omega (arith, after, below) }

    found_here : (o : ℕ) (x : ReadEntry) → p ≡ o → last_read (slice_set table p new) o ≡ Some x → IsOpenRead es (n + 1) o x.event x.version
    found_here o x here is =
        let same : entry ≡ x = same_Some entry x (sym (get_or_after_set table p new None within)
        ∙ subst (λ z. last_read (slice_set table p new) z ≡ Some x) (sym here) is) in
        subst (λ z. IsOpenRead es (n + 1) z x.event x.version) here (subst (λ (y : ReadEntry). IsOpenRead es (n + 1) p y.event y.version) same now_open)

pub holds_open_after_write : (es : List Event) (n p v l : ℕ) (table : List (Option ReadEntry)) → slice_get es n ≡ Some (Write p v l) → p < length table
    → HoldsOpen es n table → HoldsOpen es (n + 1) (slice_set table p None)
holds_open_after_write es n p v l table at within h = record {
  found = λ o x is. elim (cases_eq p o) [
    | inl here ↦ absurd (none-some x (sym (get_or_after_set table p None None within)
        ∙ subst (λ z. last_read (slice_set table p None) z ≡ Some x) (sym here) is))
    | inr ne ↦ open_read_stays_open es n o x.event x.version (Write p v l) at (entered_object_unique o p (Write p v l) refl ne)
        (h.found o x (sym (get_or_set_elsewhere table p o None None ne) ∙ is))
  ];
  all = λ o i w q is. elim (cases_eq p o) [
    | inl here ↦ not_open o i w here q
    | inr ne ↦ h.all o i w (open_read_was_open es n o i w (Write p v l) at (entered_object_unique o p (Write p v l) refl ne) q)
        (sym (get_or_set_elsewhere table p o None None ne) ∙ is)
  ];
}
  where
    not_open : (o i w : ℕ) → p ≡ o → IsOpenRead es (n + 1) o i w → ⊥
    not_open o i w here q =
        let place : i ≡ n = just_opened_is_event es n o i w (Write p v l) at (ap Some here) q in
        let same : Read o w ≡ Write p v l =
        slice_get_is_unique es n (Read o w) (Write p v l) (subst (λ z. slice_get es z ≡ Some (Read o w)) place q.read) at in
        cc

-- ---- stale writes

pub stale_read_is_open : (es : List Event) (i n o v w : ℕ) → IsStaleIn es i n o v w → IsOpenRead es n o i v
stale_read_is_open es i n o v w s = record { before = s.later; read = s.read; alone = s.next }

pub open_read_makes_stale : (es : List Event) (i n o v w l : ℕ) → IsOpenRead es n o i v → slice_get es n ≡ Some (Write o w l) → v < w
    → IsStaleIn es i n o v w
open_read_makes_stale es i n o v w l p at over = record { readers = l; read = p.read; write = at; later = p.before; next = p.alone; over = over }

-- an event that is no write entry is no stale write
pub only_writes_are_stale : (es : List Event) (n : ℕ) (e : Event) → slice_get es n ≡ Some e → ((o v l : ℕ) → e ≡ Write o v l → ⊥) → (i o v w : ℕ)
    → IsStaleIn es i n o v w → ⊥
only_writes_are_stale es n e at ne i o v w s = ne o w s.readers (slice_get_is_unique es n e (Write o w s.readers) at s.write)

-- a write entry is none where no read entry at an earlier version is open
pub newer_read_not_stale : (es : List Event) (n p w l : ℕ) (table : List (Option ReadEntry)) → slice_get es n ≡ Some (Write p w l) → HoldsOpen es n table
    → ((e : ReadEntry) → last_read table p ≡ Some e → e.version < w → ⊥) → (i o v u : ℕ) → IsStaleIn es i n o v u → ⊥
newer_read_not_stale es n p w l table at h none i o v u s =
    let same : Write o u s.readers ≡ Write p w l = slice_get_is_unique es n _ _ s.write at in
    let object : o ≡ p = cc in
    let written : u ≡ w = cc in
    by_entry (last_read table p) refl (subst (λ z. IsOpenRead es n z i v) object (stale_read_is_open es i n o v u s)) (omega (arith, s.over, written))
  where
    by_entry : (x : Option ReadEntry) → last_read table p ≡ x → IsOpenRead es n p i v → v < w → ⊥
    by_entry None is q over = h.all p i v q is
    by_entry (Some e) is q over =
        let version : v ≡ e.version = open_version_is_unique es n p i e.event v e.version q (h.found p e is) in
        none e is (omega (arith, over, version))

-- a stale write has one read
pub stale_read_unique : (es : List Event) (i j n o p v w u x : ℕ) → IsStaleIn es i n o v w → IsStaleIn es j n p u x → i ≡ j
stale_read_unique es i j n o p v w u x a b =
    let same : Write o w a.readers ≡ Write p x b.readers = slice_get_is_unique es n _ _ a.write b.write in
    let object : p ≡ o = cc in
    open_read_is_unique es n o i j v u (stale_read_is_open es i n o v w a) (subst (λ z. IsOpenRead es n z j u) object (stale_read_is_open es j n p u x b))

-- ---- the event at a place

pub slice_get_from_get_or : (es : List Event) (n : ℕ) (d e : Event) → n < length es → get_or es n d ≡ e → slice_get es n ≡ Some e
slice_get_from_get_or es n d e within is = slice_get-get_or es n d within ∙ ap Some is

-- what is said of the pair that was found
abbrev pub IsPairOf : Option ReadEntry → ℕ → ℕ → StalePair → Type 0
IsPairOf before o w p = (p.object ≡ o) × (p.written ≡ w) × (p.version < w)
    × (before ≡ Some record { event = p.read; version = p.version })

pub found_pair_is_stale : (es : List Event) (n o w l : ℕ) (table : List (Option ReadEntry)) (before : Option ReadEntry) (found : Option StalePair)
    → slice_get es n ≡ Some (Write o w l) → HoldsOpen es n table → before ≡ last_read table o → IfSome found (IsPairOf before o w)
    → IfSome found (IsPairAt es n)
found_pair_is_stale es n o w l table before None at h same is = tt
found_pair_is_stale es n o w l table before (Some x) at h same is =
    let entry : ReadEntry = record { event = x.read; version = x.version } in
    let stale : IsStaleIn es x.read n o x.version w =
    open_read_makes_stale es x.read n o x.version w l (h.found o entry (sym same ∙ is.3)) at is.2 in
    subst (λ z. IsStaleIn es x.read n z x.version x.written) (sym is.0) (subst (λ z. IsStaleIn es x.read n o x.version z) (sym is.1) stale)

pub none_found_none_stale : (es : List Event) (n o w l : ℕ) (table : List (Option ReadEntry)) (before : Option ReadEntry) (found : Option StalePair)
    → slice_get es n ≡ Some (Write o w l) → HoldsOpen es n table → before ≡ last_read table o
    → IfNone found ((e : ReadEntry) → before ≡ Some e → e.version < w → ⊥)
    → IfNone found ((i p v u : ℕ) → IsStaleIn es i n p v u → ⊥)
none_found_none_stale es n o w l table before None at h same none = λ i p v u s. newer_read_not_stale es n o w l table at h (λ e is less. none e (same ∙ is) less) i p v u s
none_found_none_stale es n o w l table before (Some x) at h same none = tt

-- ---- the objects of a log's events

pub entered_object_below : (profile : Profile) (objects o : ℕ) (e : Event) → IsEvent profile objects e → entered e ≡ Some o → o < objects
entered_object_below profile objects o (Answer kind value) fits is = absurd (none-some o is)
entered_object_below profile objects o (Read p v) fits is = subst (λ z. z < objects) (same_Some p o is) fits.0
entered_object_below profile objects o (Write p v l) fits is = subst (λ z. z < objects) (same_Some p o is) fits.0
entered_object_below profile objects o (Try p) fits is = absurd (none-some o is)

pub events_fit_objects : (profile : Profile) (objects : ℕ) (es : List Event) → AllByRecursion (IsEvent profile objects) es → FitsSoFar es objects
events_fit_objects profile objects [] all k o e at is = absurd (none-some e at)
events_fit_objects profile objects (x ∷ xs) all zero o e at is = entered_object_below profile objects o x all.0 (ap entered (same_Some x e at) ∙ is)
events_fit_objects profile objects (x ∷ xs) all (suc k) o e at is = events_fit_objects profile objects xs all.1 k o e at is
