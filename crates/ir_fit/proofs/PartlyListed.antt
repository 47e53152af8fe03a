-- Visits of a run of which some are listed.
use Rattle.std.proofs.Common.{◌≡◌, ◌≢◌, ℕ, suc, zero, ◌+◌, ◌-◌, ◌<◌, ◌≤◌, inl, inr, List, [], ◌∷◌, ◌++◌, length, take, drop, get_or}
use Rattle.std.proofs.Common.{slice_set, replicate, refl, sym, ap, ◌∙◌, subst, arith, append_assoc}
use Rattle.std.specs.List.Sorted.{IsPermutation}
use Rattle.std.proofs.Math.Seq.{take-add}
use Rattle.std.proofs.lemmas.Bool.{cases_eq}
use Rattle.std.proofs.lemmas.List.{length-set, take_all, get_or-set_same, get_or-set_other, get_or-replicate, length-replicate, map-append}
use Rattle.std.proofs.lemmas.List.Sorted.{IsPermutation-refl, IsPermutation-sym, IsPermutation-trans, IsPermutation-append_left, IsPermutation-append_right, IsPermutation-append_comm}
use Rattle.ir_runs.specs.declared.access.Access.{Access}
use Rattle.ir_log.specs.declared.event.Event.{Event}
use Rattle.ir_trace.specs.Recorded.{recorded_thread}
use Rattle.ir_fit.specs.Placed.{Visit, of_threads, enter_if, entered_by, picked, Listing, listed_events, placed_at, IsListing}
use Rattle.ir_fit.specs.Listed.{AddsAll, IsInOrder, none_listed, left_by_event}
use Rattle.ir_fit.specs.PartlyListed.{by_kind, count_of, first_visits, visits_between, all_visits, AreListed}
use Rattle.ir_fit.specs.declared.leave.Leave.{Leave}
use Rattle.ir_fit.specs.declared.visit_kind.VisitKind.{VisitKind}
use Rattle.ir_fit.specs.declared.visit_kind.VisitKind.TheVariants.{Entries, Leaves}
use Rattle.ir_fit.specs.declared.run_visits.RunVisits.{RunVisits}
use Rattle.ir_fit.proofs.ByVersion.{picked_append, enter_if-append, none_listed_is_empty, listed_sorted_in_order}

-- ---- of all threads

of_threads_cong : (n : ℕ) (f g : ℕ → List Visit) → ((t : ℕ) → t < n → f t ≡ g t) → of_threads n f ≡ of_threads n g
of_threads_cong zero f g each = refl
of_threads_cong (suc n) f g each = ap (λ vs. vs ++ f n) (of_threads_cong n f g (λ t l. each t (omega (arith, l))))
    ∙ ap (λ vs. of_threads n g ++ vs) (each n (omega arith))

of_threads_empty : (n : ℕ) (f : ℕ → List Visit) → ((t : ℕ) → t < n → f t ≡ []) → of_threads n f ≡ []
of_threads_empty zero f each = refl
of_threads_empty (suc n) f each = ap (λ vs. vs ++ f n) (of_threads_empty n f (λ t l. each t (omega (arith, l))))
    ∙ each n (omega arith)

-- one thread has more
picked_more_permuted : (o : ℕ) (a : Access) (n t : ℕ) (f g : ℕ → List Visit) (more : List Visit) → t < n → g t ≡ f t ++ more
    → ((u : ℕ) → u ≢ t → g u ≡ f u) → IsPermutation (picked o a (of_threads n f) ++ picked o a more) (picked o a (of_threads n g))
picked_more_permuted o a zero t f g more l here others = absurd (omega (arith, l))
picked_more_permuted o a (suc n) t f g more l here others = elim (cases_eq t n) [
  | inl last ↦
      let before : of_threads n g ≡ of_threads n f = of_threads_cong n g f (λ u ul. others u (λ e. absurd (omega (arith, ul, e, last)))) in
      let at : g n ≡ f n ++ more = subst (λ k. g k ≡ f k ++ more) last here in
      let all : of_threads n g ++ g n ≡ (of_threads n f ++ f n) ++ more = ap (λ vs. vs ++ g n) before ∙ ap (λ vs. of_threads n f ++ vs) at
      ∙ sym (append_assoc (of_threads n f) (f n) more) in
      let is : picked o a (of_threads n f ++ f n) ++ picked o a more ≡ picked o a (of_threads n g ++ g n) =
      sym (ap (picked o a) all ∙ picked_append o a (of_threads n f ++ f n) more) in
      subst (IsPermutation (picked o a (of_threads n f ++ f n) ++ picked o a more)) is
      (IsPermutation-refl (picked o a (of_threads n f ++ f n) ++ picked o a more))
  | inr ne ↦
      let x = picked o a (of_threads n f) in
      let y = picked o a (f n) in
      let m = picked o a more in
      let z = picked o a (of_threads n g) in
      let shorter : IsPermutation (x ++ m) z = picked_more_permuted o a n t f g more (omega (arith, l, ne)) here others in
      let old : picked o a (of_threads n f ++ f n) ++ m ≡ x ++ (y ++ m) = ap (λ ps. ps ++ m) (picked_append o a (of_threads n f) (f n))
      ∙ append_assoc x y m in
      let new : picked o a (of_threads n g ++ g n) ≡ z ++ y = picked_append o a (of_threads n g) (g n)
      ∙ ap (λ vs. z ++ picked o a vs) (others n (λ e. ne (sym e))) in
      let moved : IsPermutation (x ++ (y ++ m)) ((x ++ m) ++ y) = subst (IsPermutation (x ++ (y ++ m))) (sym (append_assoc x m y))
      (IsPermutation-append_right x (y ++ m) (m ++ y) (IsPermutation-append_comm y m)) in
      subst (λ ps. IsPermutation ps (picked o a (of_threads n g ++ g n))) (sym old) (subst (IsPermutation (x ++ (y ++ m))) (sym new)
      (IsPermutation-trans (x ++ (y ++ m)) ((x ++ m) ++ y) (z ++ y) moved (IsPermutation-append_left y (x ++ m) z shorter)))
]

-- ---- the visits of one thread

entered_by_take_split : (t : ℕ) (es : List Event) (ks : List ℕ) (i j m : ℕ) → j ≡ i + m → length es ≤ length ks
    → entered_by t (take j es) ks ≡ entered_by t (take i es) ks ++ entered_by t (take m (drop i es)) (drop i ks)
entered_by_take_split t es ks zero j m sum l = ap (λ n. entered_by t (take n es) ks) (omega (arith, sum))
entered_by_take_split t es ks (suc i) zero m sum l = absurd (omega (arith, sum))
entered_by_take_split t [] ks (suc i) (suc j) zero sum l = refl
entered_by_take_split t [] ks (suc i) (suc j) (suc m) sum l = refl
entered_by_take_split t (e ∷ es) [] (suc i) (suc j) m sum l = absurd (omega (arith, l))
entered_by_take_split t (e ∷ es) (k ∷ ks) (suc i) (suc j) m sum l =
    ap (enter_if t e k) (entered_by_take_split t es ks i j m (omega (arith, sum)) (omega (arith, l)))
    ∙ enter_if-append t e k (entered_by t (take i es) ks) (entered_by t (take m (drop i es)) (drop i ks))

left_by_take_split : (t : ℕ) (ls : List Leave) (i m : ℕ) → left_by_event t (take (i + m) ls) ≡ left_by_event t (take i ls) ++ left_by_event t (take m (drop i ls))
left_by_take_split t ls i m = ap (left_by_event t) (take-add i m ls) ∙ map-append _ (take i ls) (take m (drop i ls))

-- ---- entries or leaves

by_kind_of_same : {X : Type 0} (kind : VisitKind) (x : X) → by_kind kind x x ≡ x
by_kind_of_same Entries x = refl
by_kind_of_same Leaves x = refl

by_kind_of_appends : (kind : VisitKind) (xs ys zs us vs ws : List Visit) → xs ≡ ys ++ zs → us ≡ vs ++ ws → by_kind kind xs us ≡ by_kind kind ys vs ++ by_kind kind zs ws
by_kind_of_appends Entries xs ys zs us vs ws entries leaves = entries
by_kind_of_appends Leaves xs ys zs us vs ws entries leaves = leaves

of_threads_by_kind : (kind : VisitKind) (n : ℕ) (f g : ℕ → List Visit)
    → of_threads n (λ t. by_kind kind (f t) (g t)) ≡ by_kind kind (of_threads n f) (of_threads n g)
of_threads_by_kind Entries n f g = refl
of_threads_by_kind Leaves n f g = refl

by_kind_take_all : (kind : VisitKind) (t n : ℕ) (es : List Event) (ks : List ℕ) (ls : List Leave) → by_kind kind (length es) (length ls) ≤ n
    → by_kind kind (entered_by t (take n es) ks) (left_by_event t (take n ls)) ≡ by_kind kind (entered_by t es ks) (left_by_event t ls)
by_kind_take_all Entries t n es ks ls l = ap (λ xs. entered_by t xs ks) (take_all n es l)
by_kind_take_all Leaves t n es ks ls l = ap (left_by_event t) (take_all n ls l)

-- those before number j are those before number i, and those between
first_visits_split : (run : RunVisits) (t i j : ℕ) → t < length run.places.now → i ≤ j
    → first_visits run t j ≡ first_visits run t i ++ visits_between run t i j
first_visits_split run t i j l le =
    let es = (recorded_thread run.trace.now t).events in
    let ks = (placed_at run.places.now t).entries in
    let ls = (placed_at run.places.now t).leaves in
    let sum : j ≡ i + (j - i) = omega (arith, le) in
    by_kind_of_appends run.kind (entered_by t (take j es) ks) (entered_by t (take i es) ks) (entered_by t (take (j - i) (drop i es)) (drop i ks))
    (left_by_event t (take j ls)) (left_by_event t (take i ls)) (left_by_event t (take (j - i) (drop i ls)))
    (entered_by_take_split t es ks i j (j - i) sum (run.positions t l))
    (ap (λ n. left_by_event t (take n ls)) sum ∙ left_by_take_split t ls i (j - i))

first_visits_are_all : (run : RunVisits) (counts : List ℕ)
    → ((t : ℕ) → t < length run.places.now → count_of run t ≤ get_or counts t 0)
    → of_threads (length run.places.now) (λ t. first_visits run t (get_or counts t 0)) ≡ all_visits run
first_visits_are_all run counts counted =
    let n = length run.places.now in
    let es : ℕ → List Event = λ t. (recorded_thread run.trace.now t).events in
    let ks : ℕ → List ℕ = λ t. (placed_at run.places.now t).entries in
    let ls : ℕ → List Leave = λ t. (placed_at run.places.now t).leaves in
    of_threads_cong n (λ t. first_visits run t (get_or counts t 0))
    (λ t. by_kind run.kind (entered_by t (es t) (ks t)) (left_by_event t (ls t)))
    (λ t l. by_kind_take_all run.kind t (get_or counts t 0) (es t) (ks t) (ls t) (counted t l))
    ∙ of_threads_by_kind run.kind n (λ t. entered_by t (es t) (ks t)) (λ t. left_by_event t (ls t))

-- ---- what is listed

pub nothing_listed_at_start : (run : RunVisits) → AreListed run (replicate (length run.places.now) 0) none_listed
nothing_listed_at_start run =
    let n = length run.places.now in
    let none : of_threads n (λ t. first_visits run t (get_or (replicate n 0) t 0)) ≡ [] = of_threads_empty n
    (λ t. first_visits run t (get_or (replicate n 0) t 0))
    (λ t l. ap (first_visits run t) (get_or-replicate n t 0 0 l) ∙ by_kind_of_same run.kind []) in
    record {
      each = length-replicate n 0;
      same = λ o a. subst (λ vs. IsPermutation (picked o a vs) (listed_events none_listed o a)) (sym none)
          (subst (IsPermutation []) (sym (none_listed_is_empty o a)) (IsPermutation-refl []));
    }

pub listed_step : (run : RunVisits) (counts : List ℕ) (t k : ℕ) (x y : Listing) → t < length run.places.now → get_or counts t 0 ≤ k
    → AddsAll x y (visits_between run t (get_or counts t 0) k) → AreListed run counts x → AreListed run (slice_set counts t k) y
listed_step run counts t k x y l le adds h =
    let n = length run.places.now in
    let i = get_or counts t 0 in
    let more = visits_between run t i k in
    let old : ℕ → List Visit = λ u. first_visits run u (get_or counts u 0) in
    let new : ℕ → List Visit = λ u. first_visits run u (get_or (slice_set counts t k) u 0) in
    let here : new t ≡ old t ++ more = ap (first_visits run t) (get_or-set_same counts t k 0 (omega (arith, l, h.each)))
    ∙ first_visits_split run t i k l le in
    record {
      each = length-set counts t k ∙ h.each;
      same = λ o a.
          let grown = picked_more_permuted o a n t old new more l here
          (λ u ne. ap (first_visits run u) (get_or-set_other counts t u k 0 ne)) in
          let listed_too = IsPermutation-append_left (picked o a more) (picked o a (of_threads n old)) (listed_events x o a) (h.same o a) in
          subst (IsPermutation (picked o a (of_threads n new))) (sym (adds o a))
          (IsPermutation-trans (picked o a (of_threads n new)) (picked o a (of_threads n old) ++ picked o a more) (listed_events x o a ++ picked o a more)
          (IsPermutation-sym (picked o a (of_threads n old) ++ picked o a more) (picked o a (of_threads n new)) grown) listed_too);
    }

pub listing_by_counts : (run : RunVisits) (counts : List ℕ) (x y : Listing) → AreListed run counts x
    → ((t : ℕ) → t < length run.places.now → count_of run t ≤ get_or counts t 0) → IsInOrder x y → IsListing (all_visits run) y
listing_by_counts run counts x y h counted sorted = record {
  same = λ o a. IsPermutation-trans (picked o a (all_visits run)) (listed_events x o a) (listed_events y o a)
      (subst (λ vs. IsPermutation (picked o a vs) (listed_events x o a)) (first_visits_are_all run counts counted) (h.same o a))
      (listed_sorted_in_order x y sorted o a).0;
  sorted = λ o a. (listed_sorted_in_order x y sorted o a).1;
}
