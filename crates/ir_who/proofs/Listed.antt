-- The versions of an object, one after the other.
use Rattle.std.proofs.Common.{◌≡◌, ℕ, suc, zero, ◌+◌, ◌^◌, ◌<◌, ◌≤◌, ◌⊎◌, inl, inr, Bool, true, false, Option, Some, None, List, [], ◌∷◌}
use Rattle.std.proofs.Common.{◌++◌, length, length-append, map, refl, sym, ap, ◌∙◌, subst, arith, eqb, cond, ne_eqb}
use Rattle.std.specs.Prelude.{slice_get}
use Rattle.std.specs.List.{AllByRecursion}
use Rattle.std.proofs.lemmas.Bool.{cases_eq, cases_lt}
use Rattle.std.proofs.lemmas.Option.{same_Some, none-some}
use Rattle.ir_runs.specs.declared.access.Access.TheVariants.{Reading}
use Rattle.ir_runs.specs.Verdicts.{reads}
use Rattle.ir_log.specs.Logging.{label_of}
use Rattle.ir_log.specs.declared.event.Event.{Event}
use Rattle.ir_log.specs.declared.event.Event.TheVariants as variant
use Rattle.ir_thread.specs.declared.profile.Profile.{Profile}
use Rattle.ir_trace.specs.Recorded.{Recorded, recorded_thread, trace_of}
use Rattle.ir_trace.specs.Bounds.{IsRecorded, IsEvent}
use Rattle.ir_coherence.proofs.CallerLemmas.{recorded_thread_fits, at_of_mapped_label}
use Rattle.ir_past.specs.Past.{event_at, IsReadAt, IsWriteAt, IsMadeBy, IsOverwriter}
use Rattle.ir_past.specs.Answers.{AreCoherent}
use Rattle.ir_past.specs.Tables.{maker_in}
use Rattle.ir_past.specs.Progress.{Makes}
use Rattle.ir_past.specs.declared.place.Place.{Place}
use Rattle.ir_past.specs.declared.makers.Makers.{Makers}
use Rattle.ir_past.proofs.CallerLemmas.{event_thread_exists, entered_was_made, below_write_was_made}
use Rattle.ir_who.specs.Versions.{readers_at, IsVersion, AreVersions}
use Rattle.ir_who.specs.declared.version.Version.{Version}
use Rattle.ir_runs.proofs.CallerLemmas.{sum_below_of_zeros}

-- ---- versions are words

no_word_no_reads : (p : Profile) (objects o v : ℕ) → 2 ^ 32 ≤ v → (es : List Event) → AllByRecursion (IsEvent p objects) es → reads o v (map label_of es) ≡ 0
no_word_no_reads p objects o v far [] all = refl
no_word_no_reads p objects o v far (variant.Answer kind value ∷ es) all = omega (arith, no_word_no_reads p objects o v far es all.1)
no_word_no_reads p objects o v far (variant.Read object version ∷ es) all =
    let rest : reads o v (map label_of es) ≡ 0 = no_word_no_reads p objects o v far es all.1 in
    let word : version < 2 ^ 32 = all.0.1 in
    let other : eqb version v ≡ false = ne_eqb version v (λ same. omega (arith, far, word, same)) in
    none (eqb object o) (eqb version v) other rest
  where
    none : (b c : Bool) → c ≡ false → {n : ℕ} → n ≡ 0 → cond b (cond c 1 0) 0 + n ≡ 0
    none true c is e = omega (arith, ap {B = ℕ} (λ (z : Bool). cond z 1 0) is, e)
    none false c is e = omega (arith, e)
no_word_no_reads p objects o v far (variant.Write object version readers ∷ es) all = omega (arith, no_word_no_reads p objects o v far es all.1)
no_word_no_reads p objects o v far (variant.Try object ∷ es) all = omega (arith, no_word_no_reads p objects o v far es all.1)

-- no entry is at a version that is no word
pub no_word_no_readers : (r : Recorded) (o v : ℕ) → IsRecorded r → 2 ^ 32 ≤ v → readers_at r o v ≡ 0
no_word_no_readers r o v recorded far = sum_below_of_zeros (length r.threads) (λ u. reads o v ((trace_of r).logs u))
    (λ u l. no_word_no_reads r.profile r.objects o v far (recorded_thread r u).events (recorded_thread_fits r recorded u l).events_fit)

each_event_fits_profile : (p : Profile) (objects : ℕ) (es : List Event) → AllByRecursion (IsEvent p objects) es → (i : ℕ) (e : Event) → slice_get es i ≡ Some e
    → IsEvent p objects e
each_event_fits_profile p objects [] all i e is = absurd (none-some e is)
each_event_fits_profile p objects (x ∷ es) all zero e is = subst (IsEvent p objects) (same_Some x e is) all.0
each_event_fits_profile p objects (x ∷ es) all (suc i) e is = each_event_fits_profile p objects es all.1 i e is

-- an event is within its limits
recorded_event_fits : (r : Recorded) → IsRecorded r → (t i : ℕ) (e : Event) → event_at r t i ≡ Some e → IsEvent r.profile r.objects e
recorded_event_fits r recorded t i e is =
    each_event_fits_profile r.profile r.objects (recorded_thread r t).events (recorded_thread_fits r recorded t (event_thread_exists r t i e is)).events_fit i e is

-- ---- rows

-- the rows of the versions up to v
pub record AreListed (r : Recorded) (o v : ℕ) (rows : List Version) : Type 0 where
  pub size : length rows ≡ v + 1
  pub each : (k : ℕ) (x : Version) → slice_get rows k ≡ Some x → IsVersion r o k x

slice_get_push_cases : (rows : List Version) (x y : Version) (k : ℕ) → slice_get (rows ++ x ∷ []) k ≡ Some y
    → (slice_get rows k ≡ Some y) ⊎ ((k ≡ length rows) × (x ≡ y))
slice_get_push_cases [] x y zero is = inr (refl, same_Some x y is)
slice_get_push_cases [] x y (suc k) is = absurd (none-some y is)
slice_get_push_cases (z ∷ rows) x y zero is = inl is
slice_get_push_cases (z ∷ rows) x y (suc k) is = elim (slice_get_push_cases rows x y k is) [
  | inl old ↦ inl old
  | inr new ↦ inr (ap suc new.0, new.1)
]

-- the row of the first version
pub listed_of_first_version : (r : Recorded) (o : ℕ) (rows : List Version) (x : Version) → rows ≡ [] ++ x ∷ [] → x.made_by ≡ None
    → x.readers ≡ readers_at r o 0 → AreListed r o 0 rows
listed_of_first_version r o rows x is first readers = subst (AreListed r o 0) (sym is) (record {
  size = refl;
  each = λ k y there. elim (slice_get_push_cases [] x y k there) [
    | inl old ↦ absurd (none-some y old)
    | inr new ↦ subst (λ n. IsVersion r o n y) (sym new.0) (subst (IsVersion r o 0) new.1 (record {
      made = subst (IsMadeBy r o 0) (sym first) refl;
      readers = readers;
    }))
  ];
})

-- the row of the next one
pub listed_next_version : (r : Recorded) (o v n : ℕ) (m : Makers) (p : Place) (rows new : List Version) (x : Version) → Makes r n 0 m
    → AreListed r o v rows → maker_in m o v ≡ Some p → new ≡ rows ++ x ∷ [] → x.made_by ≡ Some p → x.readers ≡ readers_at r o (suc v)
    → AreListed r o (v + 1) new
listed_next_version r o v n m p rows new x makes h noted is made readers = subst (AreListed r o (v + 1)) (sym is) (record {
  size = omega (arith, length-append rows (x ∷ []), h.size);
  each = λ k y there. elim (slice_get_push_cases rows x y k there) [
    | inl old ↦ h.each k y old
    | inr last ↦ subst (λ z. IsVersion r o z y) (sym (last.0 ∙ h.size ∙ (let e : v + 1 ≡ suc v = omega arith in e)))
        (subst (IsVersion r o (suc v)) last.1 (record {
          made = subst (IsMadeBy r o (suc v)) (sym made) (let write = makes.sound o v p noted in (v, write.0, refl, write.1));
          readers = readers;
        }))
  ];
})

-- ---- all rows

-- a write entry at a version that nothing is noted of, or at a later one, isn't there
unmade_has_no_write : (r : Recorded) (o v n : ℕ) (m : Makers) → AreCoherent r → length r.threads ≤ n → Makes r n 0 m → maker_in m o v ≡ None
    → (t i w l : ℕ) → IsWriteAt r t i o w l → v ≤ w → ⊥
unmade_has_no_write r o v n m coherent all makes none t i w l is above = elim (cases_eq v w) [
  | inl same ↦ at t i l (subst (λ z. IsWriteAt r t i o z l) (sym same) is)
  | inr ne ↦ let below = below_write_was_made r coherent w v t i o l (omega (arith, above, ne)) is in at below.0 below.1 below.2 below.3
]
  where
    at : (u j k : ℕ) → IsWriteAt r u j o v k → ⊥
    at u j k write = makes.noted u j o v k write (inl (omega (arith, event_thread_exists r u j _ write, all))) none

-- what a version was made by is there
read_version_has_write : (r : Recorded) → AreCoherent r → (t i o v : ℕ) → IsReadAt r t i o (suc v) → (u j l : ℕ) × IsWriteAt r u j o v l
read_version_has_write r coherent t i o v is = entered_was_made r coherent t i o v Reading 0 (at_of_mapped_label (recorded_thread r t).events i (variant.Read o (suc v)) is)

-- nothing is noted of the last version
pub unmade_listed_are_all : (r : Recorded) (o v n : ℕ) (m : Makers) (rows : List Version) → AreCoherent r → length r.threads ≤ n → Makes r n 0 m
    → AreListed r o v rows → maker_in m o v ≡ None → AreVersions r o rows
unmade_listed_are_all r o v n m rows coherent all makes h none = record {
  first = omega (arith, h.size);
  each = h.each;
  read = λ t i w is. read_below t i w is;
  written = λ t i w l is. elim (cases_lt w v) [
    | inl less ↦ omega (arith, less, h.size)
    | inr past ↦ absurd (unmade_has_no_write r o v n m coherent all makes none t i w l is past)
  ];
}
  where
    read_below : (t i w : ℕ) → IsReadAt r t i o w → w < length rows
    read_below t i zero is = omega (arith, h.size)
    read_below t i (suc w) is = elim (cases_lt w v) [
      | inl less ↦ omega (arith, less, h.size)
      | inr past ↦ let made = read_version_has_write r coherent t i o w is in
          absurd (unmade_has_no_write r o v n m coherent all makes none made.0 made.1 w made.2 made.3 past)
    ]

-- all words are versions
pub no_word_listed_are_all : (r : Recorded) (o v : ℕ) (rows : List Version) → IsRecorded r → 2 ^ 32 ≤ v → AreListed r o v rows → AreVersions r o rows
no_word_listed_are_all r o v rows recorded far h = record {
  first = omega (arith, h.size);
  each = h.each;
  read = λ t i w is. let word = (recorded_event_fits r recorded t i (variant.Read o w) is).1 in omega (arith, word, far, h.size);
  written = λ t i w l is. let word = (recorded_event_fits r recorded t i (variant.Write o w l) is).1 in omega (arith, word, far, h.size);
}

-- what is noted at a version wrote over it
pub maker_is_overwriter : (r : Recorded) (o v n : ℕ) (m : Makers) (over : Option Place) → Makes r n 0 m → length r.threads ≤ n → over ≡ maker_in m o v
    → IsOverwriter r o v over
maker_is_overwriter r o v n m None makes all is =
    λ t i l write. makes.noted t i o v l write (inl (omega (arith, event_thread_exists r t i _ write, all))) (sym is)
maker_is_overwriter r o v n m (Some p) makes all is = makes.sound o v p (sym is)
