-- Lists of steps by object and version.
use Rattle.std.proofs.Common.{◌≡◌, ℕ, suc, zero, ◌+◌, ◌-◌, ◌<◌, ◌≤◌, true, false, ◌&&◌, eqb, ltb, leb, leb-true, leb-false, ltb-true}
use Rattle.std.proofs.Common.{ltb-false, inl, inr, List, [], ◌∷◌, ◌++◌, length, take, drop, get_or, slice_set, refl, sym, ap, ◌∙◌, subst}
use Rattle.std.proofs.Common.{arith, add-one, append-nil, append_assoc}
use Rattle.std.specs.List.{Contains}
use Rattle.std.specs.List.Sorted.{IsPermutation, IsNonDecreasingBy, IsPartitionPoint}
use Rattle.std.proofs.lemmas.Bool.{cases_lt, cases_eq}
use Rattle.std.proofs.lemmas.List.{length-drop, length-take-le, length-set, take_all, get_or-take, get_or-drop, get_or-set_same, get_or-set_other, get_or_past, get_or_default, get_or_read, map_more}
use Rattle.std.proofs.lemmas.List.Sorted.{IsPermutation-refl}
use Rattle.ir_runs.specs.declared.access.Access.{Access}
use Rattle.ir_runs.specs.declared.access.Access.TheVariants.{Reading, Writing}
use Rattle.ir_runs.specs.Run.{join_if}
use Rattle.ir_runs.proofs.CallerLemmas.{join_if-append}
use Rattle.ir_log.specs.declared.event.Event.{Event}
use Rattle.ir_log.specs.declared.event.Event.TheVariants.{Answer, Read, Write, Try}
use Rattle.ir_fit.specs.Placed.{Visit, enter_if, entered_by, same_access, picked, Listing, listed_events}
use Rattle.ir_fit.specs.Listed.{AddsAll, AreSorted, IsInOrder, none_listed, left_by_event}
use Rattle.ir_fit.specs.declared.leave.Leave.{Leave}
use Rattle.ir_fit.specs.declared.place.Place.{Place}

-- ---- the steps at one version of a list in the order of versions

take_all_of_drop : (xs : List Place) (i : ℕ) → take (length xs - i) (drop i xs) ≡ drop i xs
take_all_of_drop xs i = take_all (length xs - i) (drop i xs) (omega (arith, length-drop i xs))

drop_is_non_decreasing : (xs : List Place) (i : ℕ) → IsNonDecreasingBy (λ (p : Place). p.version) xs
    → IsNonDecreasingBy (λ (p : Place). p.version) (drop i xs)
drop_is_non_decreasing xs i up j k d le l = rw (get_or-drop i xs j d, get_or-drop i xs k d)
    (up (i + j) (i + k) d (omega (arith, le)) (omega (arith, l, length-drop i xs)))

-- where those before version v end, and where those at it end
abbrev pub IsVersionStart : List Place → ℕ → ℕ → Type 0
IsVersionStart xs v i = IsPartitionPoint (λ (p : Place). p.version < v) (λ p. v ≤ p.version) xs i

abbrev pub IsVersionEnd : List Place → ℕ → ℕ → Type 0
IsVersionEnd xs v n = IsPartitionPoint (λ (p : Place). p.version ≤ v) (λ p. v < p.version) xs n

range_of_version_only : (xs : List Place) (i n v : ℕ) → n ≤ length (drop i xs) → IsVersionStart xs v i → IsVersionEnd (drop i xs) v n → (p : Place)
    → Contains (take n (drop i xs)) p → Contains xs p × (p.version ≡ v)
range_of_version_only xs i n v le first second p h =
    let k : ℕ = h.0 in
    let kn : k < n = omega (arith, h.1, length-take-le n (drop i xs) le) in
    let here : get_or (drop i xs) k p ≡ p = sym (get_or-take n (drop i xs) k p kn) ∙ h.2 in
    let there : get_or xs (i + k) p ≡ p = sym (get_or-drop i xs k p) ∙ here in
    let within : i + k < length xs = omega (arith, kn, le, length-drop i xs) in
    let low : v ≤ p.version = subst (λ (y : Place). v ≤ y.version) there (first.1 (i + k) p (omega arith) within) in
    let high : p.version ≤ v = subst (λ (y : Place). y.version ≤ v) here (second.0 k p (omega arith) kn) in
    ((i + k, within, there), omega (arith, low, high))

range_of_version_all : (xs : List Place) (i n v : ℕ) → n ≤ length (drop i xs) → IsVersionStart xs v i → IsVersionEnd (drop i xs) v n → (p : Place) → Contains xs p
    → p.version ≡ v → Contains (take n (drop i xs)) p
range_of_version_all xs i n v le first second p h e = elim (cases_lt h.0 i) [
  | inl l ↦ absurd (let low = subst (λ (y : Place). y.version < v) h.2 (first.0 h.0 p (omega arith) l) in omega (arith, low, e))
  | inr from ↦
      let j : ℕ = h.0 - i in
      let sum : i + j ≡ h.0 = omega (arith, from) in
      let there : get_or (drop i xs) j p ≡ p = get_or-drop i xs j p ∙ ap (λ k. get_or xs k p) sum ∙ h.2 in
      let within : j < length (drop i xs) = omega (arith, h.1, from, length-drop i xs) in
      elim (cases_lt j n) [
        | inl l ↦ (j, omega (arith, l, length-take-le n (drop i xs) le), get_or-take n (drop i xs) j p l ∙ there)
        | inr past ↦ absurd (let high = subst (λ (y : Place). v < y.version) there (second.1 j p past within) in omega (arith, high, e))
      ]
]

-- the steps between are those at the version
pub range_of_version_exact : (xs ys : List Place) (i n v : ℕ) → xs ≡ ys → n ≤ length (take (length xs - i) (drop i xs)) → IsVersionStart xs v i
    → IsVersionEnd (take (length xs - i) (drop i xs)) v n
    → ((p : Place) → Contains (take n (take (length xs - i) (drop i xs))) p → Contains ys p × (p.version ≡ v))
    × ((p : Place) → Contains ys p → p.version ≡ v → Contains (take n (take (length xs - i) (drop i xs))) p)
range_of_version_exact xs ys i n v same le first second =
    let rest = take_all_of_drop xs i in
    let fits : n ≤ length (drop i xs) = subst (λ l. n ≤ length l) rest le in
    let behind : IsVersionEnd (drop i xs) v n = subst (λ l. IsVersionEnd l v n) rest second in (
      λ p h. subst (λ l. Contains l p × (p.version ≡ v)) same
          (range_of_version_only xs i n v fits first behind p (subst (λ l. Contains (take n l) p) rest h)),
      λ p h e. subst (λ l. Contains (take n l) p) (sym rest)
          (range_of_version_all xs i n v fits first behind p (subst (λ l. Contains l p) (sym same) h) e),
    )

pub take_drop_sorted : (xs : List Place) (i : ℕ) → IsNonDecreasingBy (λ (p : Place). p.version) xs
    → IsNonDecreasingBy (λ (p : Place). p.version) (take (length xs - i) (drop i xs))
take_drop_sorted xs i up = subst (IsNonDecreasingBy (λ (p : Place). p.version)) (sym (take_all_of_drop xs i)) (drop_is_non_decreasing xs i up)

-- a place that is at the version, and those before it are not
pub version_start_by_neighbours : (xs : List Place) (v i : ℕ) (d : Place) → IsNonDecreasingBy (λ (p : Place). p.version) xs → i < length xs
    → (get_or xs i d).version ≡ v → (0 < i → (get_or xs (i - 1) d).version < v) → IsVersionStart xs v i
version_start_by_neighbours xs v i d up l at low = (
  λ k e from lt. let a = up k (i - 1) d (omega (arith, lt)) (omega (arith, l)) in let b = low (omega (arith, lt)) in
      let s : get_or xs k e ≡ get_or xs k d = get_or_default xs k e d (omega (arith, lt, l)) in
      subst (λ (y : Place). y.version < v) (sym s) (omega (arith, a, b)),
  λ k e from lt. let a = up i k d from lt in let s : get_or xs k e ≡ get_or xs k d = get_or_default xs k e d lt in
      subst (λ (y : Place). v ≤ y.version) (sym s) (omega (arith, a, at)),
)

-- those from i on are past the version, and the one before i is not
pub version_end_by_neighbours : (xs : List Place) (v i : ℕ) (d : Place) → IsNonDecreasingBy (λ (p : Place). p.version) xs → (0 < i → i ≤ length xs)
    → (0 < i → (get_or xs (i - 1) d).version ≤ v) → (i < length xs → v < (get_or xs i d).version) → IsVersionEnd xs v i
version_end_by_neighbours xs v i d up l low high = (
  λ k e from lt.
      let le = l (omega (arith, lt)) in
      let a = up k (i - 1) d (omega (arith, lt)) (omega (arith, lt, le)) in
      let b = low (omega (arith, lt)) in
      let s : get_or xs k e ≡ get_or xs k d = get_or_default xs k e d (omega (arith, lt, le)) in
      subst (λ (y : Place). y.version ≤ v) (sym s) (omega (arith, a, b)),
  λ k e from lt.
      let a = up i k d from lt in
      let b = high (omega (arith, from, lt)) in
      let s : get_or xs k e ≡ get_or xs k d = get_or_default xs k e d lt in
      subst (λ (y : Place). v < y.version) (sym s) (omega (arith, a, b)),
)

-- the same of the tests of a search
pub version_start_by_partition : (xs : List Place) (v i : ℕ)
    → IsPartitionPoint (λ (y : Place). ltb y.version v ≡ true) (λ y. ltb y.version v ≡ false) xs i → IsVersionStart xs v i
version_start_by_partition xs v i h = (λ k d from lt. ltb-true _ v (h.0 k d from lt), λ k d from lt. ltb-false _ v (h.1 k d from lt))

pub version_end_by_partition : (xs : List Place) (v n : ℕ)
    → IsPartitionPoint (λ (y : Place). leb y.version v ≡ true) (λ y. leb y.version v ≡ false) xs n → IsVersionEnd xs v n
version_end_by_partition xs v n h = (λ k d from lt. leb-true _ v (h.0 k d from lt), λ k d from lt. leb-false _ v (h.1 k d from lt))

-- ---- lists that are sorted in turn

-- the lists below n have their steps in order, and the others are as they were
pub record SortedBelow (n : ℕ) (old new : List (List Place)) : Type 0 where
  pub size : length new ≡ length old
  pub below : (o : ℕ) → o < n → IsPermutation (get_or old o []) (get_or new o [])
      × IsNonDecreasingBy (λ (p : Place). p.version) (get_or new o [])
  pub rest : (o : ℕ) → n ≤ o → get_or new o [] ≡ get_or old o []

pub sorted_below_zero : (xs : List (List Place)) → SortedBelow 0 xs xs
sorted_below_zero xs = record { size = refl; below = λ o l. absurd (omega (arith, l)); rest = λ o l. refl }

pub sorted_below_step : (n : ℕ) (old new : List (List Place)) (x y : List Place) → n < length new → x ≡ get_or new n x → IsPermutation x y
    → IsNonDecreasingBy (λ (p : Place). p.version) y → SortedBelow n old new → SortedBelow (n + 1) old (slice_set new n y)
sorted_below_step n old new x y l read same up h = record {
  size = length-set new n y ∙ h.size;
  below = λ o lo. elim (cases_eq o n) [
    | inl here ↦
        let was : x ≡ get_or old o [] = get_or_read new n x l read [] ∙ ap (λ k. get_or new k []) (sym here)
        ∙ h.rest o (omega (arith, here)) in
        let is : get_or (slice_set new n y) o [] ≡ y = ap (λ k. get_or (slice_set new n y) k []) here ∙ get_or-set_same new n y [] l in (
          subst (λ z. IsPermutation (get_or old o []) z) (sym is) (subst (λ z. IsPermutation z y) was same),
          subst (IsNonDecreasingBy (λ (p : Place). p.version)) (sym is) up,
        )
    | inr ne ↦
        let is : get_or (slice_set new n y) o [] ≡ get_or new o [] = get_or-set_other new n o y [] ne in
        let old_one = h.below o (omega (arith, lo, ne)) in (
          subst (λ z. IsPermutation (get_or old o []) z) (sym is) old_one.0,
          subst (IsNonDecreasingBy (λ (p : Place). p.version)) (sym is) old_one.1,
        )
  ];
  rest = λ o lo. get_or-set_other new n o y [] (λ e. absurd (omega (arith, lo, e))) ∙ h.rest o (omega (arith, lo));
}

pub sorted_by_elements : (n : ℕ) (old new : List (List Place)) → SortedBelow n old new → length old ≤ n → AreSorted old new
sorted_by_elements n old new h l o = elim (cases_lt o n) [
  | inl lo ↦ h.below o lo
  | inr past ↦
      let none : get_or new o [] ≡ [] = get_or_past new o [] (omega (arith, h.size, l, past)) in (
        subst (λ z. IsPermutation (get_or old o []) z) (sym (h.rest o past)) (IsPermutation-refl (get_or old o [])),
        subst (IsNonDecreasingBy (λ (p : Place). p.version)) (sym none) (λ i j d le lt. absurd (omega (arith, lt))),
      )
]

-- ---- more steps

pub picked_append : (o : ℕ) (a : Access) (xs ys : List Visit) → picked o a (xs ++ ys) ≡ picked o a xs ++ picked o a ys
picked_append o a [] ys = refl
picked_append o a (x ∷ xs) ys = ap (join_if (eqb x.0 o && same_access x.1 a) x.2) (picked_append o a xs ys)
    ∙ join_if-append (eqb x.0 o && same_access x.1 a) x.2 (picked o a xs) (picked o a ys)

pub adds_all_of_nothing : (x : Listing) → AddsAll x x []
adds_all_of_nothing x o a = sym (append-nil (listed_events x o a))

pub adds_all_of_append : (x y z : Listing) (vs ws : List Visit) → AddsAll x y vs → AddsAll y z ws → AddsAll x z (vs ++ ws)
adds_all_of_append x y z vs ws h k o a =
    k o a ∙ ap (λ xs. xs ++ picked o a ws) (h o a) ∙ append_assoc (listed_events x o a) (picked o a vs) (picked o a ws)
    ∙ ap (λ xs. listed_events x o a ++ xs) (sym (picked_append o a vs ws))

pub enter_if-append : (t : ℕ) (e : Event) (k : ℕ) (vs ws : List Visit) → enter_if t e k (vs ++ ws) ≡ enter_if t e k vs ++ ws
enter_if-append t (Answer kind value) k vs ws = refl
enter_if-append t (Try o) k vs ws = refl
enter_if-append t (Read o v) k vs ws = refl
enter_if-append t (Write o v r) k vs ws = refl

entered_by_of_take_step : (t : ℕ) (es : List Event) (ks : List ℕ) (i : ℕ) (d : Event) → i < length es → i < length ks
    → entered_by t (take (suc i) es) ks ≡ entered_by t (take i es) ks ++ enter_if t (get_or es i d) (get_or ks i 0) []
entered_by_of_take_step t [] ks i d l m = absurd (omega (arith, l))
entered_by_of_take_step t (e ∷ es) [] i d l m = absurd (omega (arith, m))
entered_by_of_take_step t (e ∷ es) (k ∷ ks) zero d l m = refl
entered_by_of_take_step t (e ∷ es) (k ∷ ks) (suc i) d l m = ap (enter_if t e k) (entered_by_of_take_step t es ks i d (omega (arith, l)) (omega (arith, m)))
    ∙ enter_if-append t e k (entered_by t (take i es) ks) (enter_if t (get_or es i d) (get_or ks i 0) [])

-- one more event of a log
pub adds_all_events_step : (x y z : Listing) (t : ℕ) (es : List Event) (ks : List ℕ) (i : ℕ) (d : Event) → i < length es → i < length ks
    → AddsAll x y (entered_by t (take i es) ks) → AddsAll y z (enter_if t (get_or es i d) (get_or ks i 0) [])
    → AddsAll x z (entered_by t (take (i + 1) es) ks)
adds_all_events_step x y z t es ks i d l m old new =
    let next : entered_by t (take (i + 1) es) ks ≡ entered_by t (take i es) ks ++ enter_if t (get_or es i d) (get_or ks i 0) [] =
    ap (λ n. entered_by t (take n es) ks) (add-one i) ∙ entered_by_of_take_step t es ks i d l m in
    subst (AddsAll x z) (sym next) (adds_all_of_append x y z (entered_by t (take i es) ks) (enter_if t (get_or es i d) (get_or ks i 0) []) old new)

-- one more leave
pub adds_all_leaves_step : (x y z : Listing) (t : ℕ) (ls : List Leave) (i : ℕ) (d : Leave) → i < length ls → AddsAll x y (left_by_event t (take i ls))
    → AddsAll y z (left_by_event t (get_or ls i d ∷ [])) → AddsAll x z (left_by_event t (take (i + 1) ls))
adds_all_leaves_step x y z t ls i d l old new =
    let f : Leave → Visit = λ g. (g.object, g.access, record { position = g.position; version = g.version; thread = t }) in
    let next : left_by_event t (take (i + 1) ls) ≡ left_by_event t (take i ls) ++ f (get_or ls i d) ∷ [] = map_more f ls i d l in
    subst (AddsAll x z) (sym next) (adds_all_of_append x y z (left_by_event t (take i ls)) (f (get_or ls i d) ∷ []) old new)

-- ---- the whole

pub none_listed_is_empty : (o : ℕ) (a : Access) → listed_events none_listed o a ≡ []
none_listed_is_empty o Reading = get_or_past [] o [] (omega arith)
none_listed_is_empty o Writing = get_or_past [] o [] (omega arith)

pub listed_sorted_in_order : (x y : Listing) → IsInOrder x y → (o : ℕ) (a : Access) → IsPermutation (listed_events x o a) (listed_events y o a)
    × IsNonDecreasingBy (λ (p : Place). p.version) (listed_events y o a)
listed_sorted_in_order x y h o Reading = h.0 o
listed_sorted_in_order x y h o Writing = h.1 o
