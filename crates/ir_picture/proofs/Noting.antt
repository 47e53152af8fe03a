-- What a thread did last, event by event.
use Rattle.std.proofs.Common.{◌≡◌, ℕ, suc, zero, ◌+◌, ◌<◌, inl, inr, Option, Some, None, List, length, replicate, slice_set, refl, sym, ap, ◌∙◌, subst, arith}
use Rattle.std.specs.Prelude.{slice_get}
use Rattle.std.proofs.lemmas.Bool.{cases_eq, cases_lt}
use Rattle.std.proofs.lemmas.Option.{same_Some, none-some}
use Rattle.ir_lemmas.proofs.CallerLemmas.{get_or_after_set, get_or_set_elsewhere}
use Rattle.ir_log.specs.declared.event.Event.{Event}
use Rattle.ir_log.specs.declared.event.Event.TheVariants.{Read, Write, Try}
use Rattle.ir_past.specs.Past.{entered}
use Rattle.ir_past.specs.Progress.{IsOpenRead}
use Rattle.ir_picture.specs.Boxes.{ReadsAgain, TriesAgain}
use Rattle.ir_picture.specs.Boxing.{IsRepeat, IsRepeatBefore, IsFold, are_alike, version_noted, HoldsReads, HoldsTry, Notes}
use Rattle.ir_picture.specs.declared.repeats.Habits.{Habits}
use Rattle.ir_picture.specs.declared.repeats.Repeat.{Repeat}
use Rattle.ir_past.proofs.CallerLemmas.{entered_object_unique, slice_get_is_unique, open_read_stays_open, open_read_was_open}
use Rattle.ir_picture.specs.declared.repeats.Repeat.TheVariants as repeat

-- ---- read entries after which their object isn't entered

open_read_is_event : (es : List Event) (n o i v : ℕ) (e : Event) → slice_get es n ≡ Some e → entered e ≡ Some o → IsOpenRead es (n + 1) o i v → e ≡ Read o v
open_read_is_event es n o i v e at enters p = elim (cases_lt i n) [
  | inl less ↦ absurd (p.alone n e less (omega arith) at enters)
  | inr not ↦
      let here : i ≡ n = omega (arith, p.before, not) in
      slice_get_is_unique es n e (Read o v) at (subst (λ z. slice_get es z ≡ Some (Read o v)) here p.read)
]

-- ---- the table

version_noted_empty : (n o : ℕ) → version_noted (replicate n None) o ≡ None
version_noted_empty zero o = refl
version_noted_empty (suc n) zero = refl
version_noted_empty (suc n) (suc o) = version_noted_empty n o

pub holds_reads_at_start : (es : List Event) (n : ℕ) → HoldsReads es 0 (replicate n None)
holds_reads_at_start es n = record {
  found = λ o v is. absurd (none-some v (sym (version_noted_empty n o) ∙ is));
  all = λ o i v p. absurd (omega (arith, p.before));
}

pub holds_try_at_start : (es : List Event) → HoldsTry es 0 None
holds_try_at_start es = record {
  found = λ o is. absurd (none-some o is);
  all = λ o is. absurd (omega (arith, is.1));
}

-- an event that is no entry leaves the table as it is
pub holds_reads_other_event : (es : List Event) (n : ℕ) (table : List (Option ℕ)) (e : Event) → slice_get es n ≡ Some e → ((o : ℕ) → entered e ≡ Some o → ⊥)
    → HoldsReads es n table → HoldsReads es (n + 1) table
holds_reads_other_event es n table e at ne h = record {
  found = λ o v is. let p = h.found o v is in (p.0, open_read_stays_open es n o p.0 v e at (ne o) p.1);
  all = λ o i v p. h.all o i v (open_read_was_open es n o i v e at (ne o) p);
}

pub holds_reads_after_read : (es : List Event) (n p v : ℕ) (table : List (Option ℕ)) → slice_get es n ≡ Some (Read p v) → p < length table → HoldsReads es n table
    → HoldsReads es (n + 1) (slice_set table p (Some v))
holds_reads_after_read es n p v table at within h = record {
  found = λ o w is. elim (cases_eq p o) [
    | inl here ↦ (
      n,
      subst (λ z. IsOpenRead es (n + 1) z n w) here (subst (λ z. IsOpenRead es (n + 1) p n z)
          (same_Some v w (sym (get_or_after_set table p (Some v) None within) ∙ subst (λ z. version_noted (slice_set table p (Some v)) z ≡ Some w) (sym here) is)) now_open),
    )
    | inr ne ↦
        let q = h.found o w (sym (get_or_set_elsewhere table p o (Some v) None ne) ∙ is) in
        (q.0, open_read_stays_open es n o q.0 w (Read p v) at (entered_object_unique o p (Read p v) refl ne) q.1)
  ];
  all = λ o i w q. elim (cases_eq p o) [
    | inl here ↦
        let same : ◌≡◌ {A = Event} (Read p v) (Read o w) = open_read_is_event es n o i w (Read p v) at (ap Some here) q in
        let version : v ≡ w = cc in
        subst (λ z. version_noted (slice_set table p (Some v)) z ≡ Some w) here (get_or_after_set table p (Some v) None within ∙ ap Some version)
    | inr ne ↦ get_or_set_elsewhere table p o (Some v) None ne ∙ h.all o i w (open_read_was_open es n o i w (Read p v) at (entered_object_unique o p (Read p v) refl ne) q)
  ];
}
  where
    now_open : IsOpenRead es (n + 1) p n v
    now_open = record { before = omega arith; read = at; alone = λ k f after below is enters. omega (arith, after, below) }

pub holds_reads_after_write : (es : List Event) (n p v l : ℕ) (table : List (Option ℕ)) → slice_get es n ≡ Some (Write p v l) → p < length table
    → HoldsReads es n table → HoldsReads es (n + 1) (slice_set table p None)
holds_reads_after_write es n p v l table at within h = record {
  found = λ o w is. elim (cases_eq p o) [
    | inl here ↦ absurd (none-some w (sym (get_or_after_set table p None None within)
        ∙ subst (λ z. version_noted (slice_set table p None) z ≡ Some w) (sym here) is))
    | inr ne ↦
        let q = h.found o w (sym (get_or_set_elsewhere table p o None None ne) ∙ is) in
        (q.0, open_read_stays_open es n o q.0 w (Write p v l) at (entered_object_unique o p (Write p v l) refl ne) q.1)
  ];
  all = λ o i w q. elim (cases_eq p o) [
    | inl here ↦ absurd (let bad : ◌≡◌ {A = Event} (Write p v l) (Read o w) = open_read_is_event es n o i w (Write p v l) at (ap Some here) q in cc)
    | inr ne ↦ get_or_set_elsewhere table p o None None ne ∙ h.all o i w (open_read_was_open es n o i w (Write p v l) at (entered_object_unique o p (Write p v l) refl ne) q)
  ];
}

pub holds_no_try : (es : List Event) (n : ℕ) (e : Event) → slice_get es n ≡ Some e → ((o : ℕ) → e ≡ Try o → ⊥) → HoldsTry es (n + 1) None
holds_no_try es n e at ne = record {
  found = λ o is. absurd (none-some o is);
  all = λ o is. absurd (ne o (slice_get_is_unique es n e (Try o) at (subst (λ z. slice_get es z ≡ Some (Try o)) (omega (arith, is.1)) is.2)));
}

pub holds_try_after_try : (es : List Event) (n p : ℕ) → slice_get es n ≡ Some (Try p) → HoldsTry es (n + 1) (Some p)
holds_try_after_try es n p at = record {
  found = λ o is. (n, omega arith, at ∙ ap (λ z. Some (Try z)) (same_Some p o is));
  all = λ o is.
      let same : ◌≡◌ {A = Event} (Try p) (Try o) = slice_get_is_unique es n (Try p) (Try o) at
      (subst (λ z. slice_get es z ≡ Some (Try o)) (omega (arith, is.1)) is.2) in
      let object : p ≡ o = cc in
      ap Some object;
}

-- the notes by their parts
pub notes_from_parts : (es : List Event) (n : ℕ) (table : List (Option ℕ)) (tried : Option ℕ) (h : Habits) → h.read.items ≡ table → h.tried ≡ tried
    → HoldsReads es n table → HoldsTry es n tried → Notes es n h
notes_from_parts es n table tried h reads tries a b = record {
  reads = subst (HoldsReads es n) (sym reads) a;
  tries = subst (HoldsTry es n) (sym tries) b;
}

-- ---- what an event repeats

pub other_repeats_nothing : (es : List Event) (n : ℕ) (e : Event) → slice_get es n ≡ Some e → ((o v : ℕ) → e ≡ Read o v → ⊥) → ((o : ℕ) → e ≡ Try o → ⊥)
    → (ReadsAgain es n → ⊥) × (TriesAgain es n → ⊥)
other_repeats_nothing es n e at no_read no_try = (
  λ a. no_read a.object a.version (slice_get_is_unique es n e (Read a.object a.version) at a.read),
  λ a. no_try a.object (slice_get_is_unique es n e (Try a.object) at a.«try»),
)

pub reads_again_if_noted : (es : List Event) (n o v : ℕ) (table : List (Option ℕ)) → slice_get es n ≡ Some (Read o v) → HoldsReads es n table
    → version_noted table o ≡ Some v → ReadsAgain es n
reads_again_if_noted es n o v table at h is =
    let p = h.found o v is in
    record { object = o; version = v; before = p.0; read = at; earlier = p.1.before; same = p.1.read; alone = p.1.alone }

pub read_repeats_only_noted : (es : List Event) (n o v : ℕ) (table : List (Option ℕ)) → slice_get es n ≡ Some (Read o v) → HoldsReads es n table
    → (version_noted table o ≡ Some v → ⊥) → (ReadsAgain es n → ⊥) × (TriesAgain es n → ⊥)
read_repeats_only_noted es n o v table at h not = (
  λ a.
      let same : ◌≡◌ {A = Event} (Read a.object a.version) (Read o v) = slice_get_is_unique es n (Read a.object a.version) (Read o v) a.read at in
      let object : a.object ≡ o = cc in
      let version : a.version ≡ v = cc in
      not (subst (λ z. version_noted table z ≡ Some v) object (subst (λ z. version_noted table a.object ≡ Some z) version
      (h.all a.object a.before a.version (record { before = a.earlier; read = a.same; alone = a.alone })))),
  λ a. let bad : ◌≡◌ {A = Event} (Try a.object) (Read o v) = slice_get_is_unique es n (Try a.object) (Read o v) a.«try» at in cc,
)

pub tries_again_if_noted : (es : List Event) (n o : ℕ) (tried : Option ℕ) → slice_get es n ≡ Some (Try o) → HoldsTry es n tried → tried ≡ Some o → TriesAgain es n
tries_again_if_noted es n o tried at h is =
    let p = h.found o is in
    record { object = o; before = p.0; next = p.1; «try» = at; same = p.2 }

pub try_repeats_only_noted : (es : List Event) (n o : ℕ) (tried : Option ℕ) → slice_get es n ≡ Some (Try o) → HoldsTry es n tried → (tried ≡ Some o → ⊥)
    → (ReadsAgain es n → ⊥) × (TriesAgain es n → ⊥)
try_repeats_only_noted es n o tried at h not = (
  λ a. let bad : ◌≡◌ {A = Event} (Read a.object a.version) (Try o) = slice_get_is_unique es n (Read a.object a.version) (Try o) a.read at in cc,
  λ a.
      let same : ◌≡◌ {A = Event} (Try a.object) (Try o) = slice_get_is_unique es n (Try a.object) (Try o) a.«try» at in
      let object : a.object ≡ o = cc in
      not (h.all o (a.before, a.next, subst (λ z. slice_get es a.before ≡ Some (Try z)) object a.same)),
)

-- ---- folds

pub repeat_before_next : (es : List Event) (n : ℕ) (x : Repeat) → IsRepeat es n x → IsRepeatBefore es (n + 1) x
repeat_before_next es n x is =
    let next : suc n ≡ n + 1 = omega arith in
    subst (λ k. IsRepeatBefore es k x) next is

read_excludes_try_again : (es : List Event) (i : ℕ) → ReadsAgain es i → TriesAgain es i → ⊥
read_excludes_try_again es i a b =
    let bad : ◌≡◌ {A = Event} (Read a.object a.version) (Try b.object) = slice_get_is_unique es i (Read a.object a.version) (Try b.object) a.read b.«try» in
    cc

pub fold_is_alike : (es : List Event) (n : ℕ) (before now : Repeat) → IsRepeatBefore es n before → IsRepeat es n now → IsFold es n (are_alike before now)
fold_is_alike es zero before now first is = subst (λ (x : Repeat). IsFold es 0 (are_alike x now)) (sym first) (λ i bad. absurd (omega (arith, bad)))
fold_is_alike es (suc i) repeat.Nothing now was is = λ j e folded.
    let here : i ≡ j = omega (arith, e) in
    elim folded.repeats [
      | inl reads ↦ was.0 (subst (ReadsAgain es) (sym here) reads.0)
      | inr tries ↦ was.1 (subst (TriesAgain es) (sym here) tries.0)
    ]
fold_is_alike es (suc i) repeat.Read repeat.Nothing was is = λ j e folded. elim folded.repeats [
  | inl reads ↦ is.0 reads.1
  | inr tries ↦ is.1 tries.1
]
fold_is_alike es (suc i) repeat.Read repeat.Read was is = (i, refl, record { next = refl; repeats = inl (was, is) })
fold_is_alike es (suc i) repeat.Read repeat.Try was is = λ j e folded. elim folded.repeats [
  | inl reads ↦ read_excludes_try_again es (suc i) reads.1 is
  | inr tries ↦ read_excludes_try_again es i was (subst (TriesAgain es) (omega (arith, e)) tries.0)
]
fold_is_alike es (suc i) repeat.Try repeat.Nothing was is = λ j e folded. elim folded.repeats [
  | inl reads ↦ is.0 reads.1
  | inr tries ↦ is.1 tries.1
]
fold_is_alike es (suc i) repeat.Try repeat.Read was is = λ j e folded. elim folded.repeats [
  | inl reads ↦ read_excludes_try_again es i (subst (ReadsAgain es) (omega (arith, e)) reads.0) was
  | inr tries ↦ read_excludes_try_again es (suc i) is tries.1
]
fold_is_alike es (suc i) repeat.Try repeat.Try was is = (i, refl, record { next = refl; repeats = inr (was, is) })
