-- What counts of outcomes, kept in a set.
use Rattle.std.proofs.Common.{rules, ◌≡◌, ◌∙◌, ◌||◌, ◌==◌, ℕ, zero, suc, Bool, true, false, List, [], ◌∷◌, ◌++◌, Some, Option, map, refl, length-append, arith, sym, ap, subst, inl, inr}
use Rattle.std.specs.Prelude.{slice_get, length, ◌<◌, ◌⊎◌, ◌↔◌, if◌then◌else◌}
use Rattle.std.specs.List.{list_any}
use Rattle.std.specs.Bool.{Decides}
use Rattle.std.specs.Cmp.Lexicographic.{pointwise}
use Rattle.std.specs.Cmp.Derive.Mapped.{pointwise-map}
use Rattle.std.proofs.lemmas.Bool.Decides.{Decides-and, Decides-eqb}
use Rattle.std.proofs.lemmas.Option.{same_Some, slice_get_within}
use Rattle.std.proofs.lemmas.Slice.Eq.{slice_eq-Decides}
use Rattle.std.proofs.lemmas.List.{map-append}
use Rattle.ir_lemmas.proofs.CallerLemmas.{added_element_is_last, or_true_from_right, slice_get-push_cases, slice_get_append_kept}
use Rattle.indexmap.specs.IndexSet.{insert_key}
use Rattle.ir_within.specs.contracts.seen.SeenPartialEq.TheImpl as seen_eq
use Rattle.ir_within.specs.contracts.seen_end.SeenEndPartialEq.TheImpl as end_eq
use Rattle.ir_thread.specs.declared.end.End.{End}
use Rattle.ir_within.specs.declared.seen_end.SeenEnd.{SeenEnd}
use Rattle.ir_within.specs.declared.seen.Seen.{Seen}
use Rattle.ir_schedule.specs.Conditions.{EndState}
use Rattle.ir_within.specs.Classes.{AreFirstSeen}
use Rattle.ir_within.specs.Judging.{HasSame, HoldsAlso, HoldsSame}
use Rattle.ir_within.specs.Seen.{value_of}

-- ---- equality

ends_are_decided : (a b : SeenEnd) → Decides ((end_eq.ghosts).eq a b) (a ≡ b)
ends_are_decided a b = search rules

end_is_decided : (x y : Option End) → Decides ((end_eq.ghosts).eq (record { ended = x }) (record { ended = y })) (x ≡ y)
end_is_decided x y =
    let d = ends_are_decided (record { ended = x }) (record { ended = y }) in
    (λ e. ap (λ (z : SeenEnd). z.ended) (d.0 e), λ e. d.1 (λ i. record { ended = e i }))

-- lists are compared by what counts of their elements
mapped_is_decided : {A B : Type 0} (f : A → B) (E : B → B → Bool) → ((x y : B) → Decides (E x y) (x ≡ y)) → (xs ys : List A)
    → Decides (pointwise (λ x y. E (f x) (f y)) xs ys) (map f xs ≡ map f ys)
mapped_is_decided f E each xs ys =
    slice_eq-Decides each (map f xs) (map f ys) (pointwise (λ x y. E (f x) (f y)) xs ys) (sym (pointwise-map f E xs ys))

numbers_are_decided : (x y : List ℕ) → Decides (pointwise ◌==◌ x y) (x ≡ y)
numbers_are_decided x y = slice_eq-Decides Decides-eqb x y (pointwise ◌==◌ x y) refl

pub value_is_decided : (a b : Seen) → Decides ((seen_eq.ghosts).eq a b) (value_of a ≡ value_of b)
value_is_decided a b =
    let d = Decides-and _ _ (mapped_is_decided (λ (e : SeenEnd). e.ended) (λ x y. (end_eq.ghosts).eq (record { ended = x }) (record { ended = y })) end_is_decided a.ends.items b.ends.items)
    (Decides-and _ _ (mapped_is_decided (λ v. v.items) (pointwise ◌==◌) numbers_are_decided a.outputs.items b.outputs.items)
    (mapped_is_decided (λ v. v.items) (pointwise ◌==◌) numbers_are_decided a.words.items b.words.items)) in (
      λ e. let p = d.0 e in λ i. record { ends = p.0 i; outputs = p.1.0 i; words = p.1.1 i },
      λ e. d.1 (ap (λ (z : EndState). z.ends) e, (ap (λ (z : EndState). z.outputs) e, ap (λ (z : EndState). z.words) e)),
    )

-- ---- lists

-- one that is at the end of a list, or before it
same_at_end : (all : List EndState) (c x : EndState) → HasSame (all ++ c ∷ []) x ↔ (HasSame all x ⊎ (c ≡ x))
same_at_end all c x = (
  λ found. elim (slice_get-push_cases all c found.0 x found.1) [
    | inl old ↦ inl (found.0, old)
    | inr new ↦ inr new.1
  ],
  λ has. elim has [
    | inl old ↦ (old.0, slice_get_append_kept all (c ∷ []) old.0 x old.1)
    | inr new ↦ (length all, added_element_is_last all c ∙ ap Some new)
  ],
)

module _ (E : Seen → Seen → Bool) (same : (a b : Seen) → Decides (E a b) (value_of a ≡ value_of b)) where
  same_if_next : (k x : Seen) (ks : List Seen) (b : Bool) → E k x ≡ b → (b || list_any (E k) ks) ≡ true → (list_any (E k) ks ≡ true → HasSame (map value_of ks) (value_of k))
      → HasSame (map value_of (x ∷ ks)) (value_of k)
  same_if_next k x ks true is any rest = (0, ap Some (sym ((same k x).0 is)))
  same_if_next k x ks false is any rest = let found = rest any in (suc found.0, found.1)

  pub same_if_any : (k : Seen) (ks : List Seen) → list_any (E k) ks ≡ true → HasSame (map value_of ks) (value_of k)
  same_if_any k [] e = absurd (cc e)
  same_if_any k (x ∷ ks) e = same_if_next k x ks (E k x) refl e (same_if_any k ks)

  pub any_if_same : (k : Seen) (ks : List Seen) → HasSame (map value_of ks) (value_of k) → list_any (E k) ks ≡ true
  any_if_same k [] (j, e) = absurd (cc e)
  any_if_same k (x ∷ ks) (zero, e) =
      subst (λ z. (z || list_any (E k) ks) ≡ true) (sym ((same k x).1 (sym (same_Some (value_of x) (value_of k) e)))) refl
  any_if_same k (x ∷ ks) (suc j, e) = or_true_from_right (E k x) (list_any (E k) ks) (any_if_same k ks (j, e))

  pub also_if_inserted : (k : Seen) (ks : List Seen) → HoldsAlso (map value_of ks) (value_of k) (map value_of (insert_key E ks k))
  also_if_inserted k ks = by_test (list_any (E k) ks) refl
    where
      by_test : (b : Bool) → list_any (E k) ks ≡ b → HoldsAlso (map value_of ks) (value_of k) (map value_of (insert_key E ks k))
      by_test true there = λ x.
          subst (λ (z : Bool). HasSame (map value_of (if z then ks else ks ++ k ∷ [])) x ↔ (HasSame (map value_of ks) x ⊎ (value_of k ≡ x))) (sym there) (
            λ has. inl has,
            λ has. elim has [
              | inl old ↦ old
              | inr new ↦ subst (HasSame (map value_of ks)) new (same_if_any k ks there)
            ],
          )
      by_test false there = λ x.
          subst (λ (z : Bool). HasSame (map value_of (if z then ks else ks ++ k ∷ [])) x ↔ (HasSame (map value_of ks) x ⊎ (value_of k ≡ x))) (sym there)
          (subst (λ z. HasSame z x ↔ (HasSame (map value_of ks) x ⊎ (value_of k ≡ x))) (sym (map-append value_of ks (k ∷ [])))
          (same_at_end (map value_of ks) (value_of k) x))

-- one more of a list is kept
pub kept_more : (all set new : List EndState) (x : EndState) → HoldsSame set all → HoldsAlso set x new → HoldsSame new (all ++ x ∷ [])
kept_more all set new x holds also y =
    let ends = same_at_end all x y in (
      λ has. ends.1 (elim ((also y).0 has) [
        | inl old ↦ inl ((holds y).0 old)
        | inr one ↦ inr one
      ]),
      λ has. (also y).1 (elim (ends.0 has) [
        | inl old ↦ inl ((holds y).1 old)
        | inr one ↦ inr one
      ]),
    )

-- none is kept of an empty list
pub none_kept : HoldsSame [] []
none_kept x = (λ has. has, λ has. has)

-- ---- marks

pub none_first : AreFirstSeen [] 0 []
none_first = record { count = refl; later = λ i x there marked. absurd (cc there); first = λ i x there marked j less equal. absurd (cc there) }

-- one more: whether an earlier one is equal
pub one_more_first : (all : List EndState) (firsts : List Bool) (x : EndState) (mark : Bool) → AreFirstSeen all (length all) firsts
    → (mark ≡ false → HasSame all x) → (mark ≡ true → HasSame all x → ⊥)
    → AreFirstSeen (all ++ x ∷ []) (length (all ++ x ∷ [])) (firsts ++ mark ∷ [])
one_more_first all firsts x mark done some none = record {
  count = let p = length-append firsts (mark ∷ []) in let q = length-append all (x ∷ []) in let c = done.count in omega (arith, p, q, c);
  later = λ i y there marked. elim (slice_get-push_cases firsts mark i false marked) [
    | inl old ↦
        let found = done.later i y (before i y there (below i false old)) old in
        (found.0, found.1, slice_get_append_kept all (x ∷ []) found.0 y found.2)
    | inr q ↦
        let found = some q.1 in
        let c = done.count in
        let at = q.0 in
        let less = slice_get_within all found.0 x found.1 in (
          found.0,
          omega (arith, less, at, c),
          slice_get_append_kept all (x ∷ []) found.0 x found.1 ∙ ap Some (last i y there (at ∙ c)),
        )
  ];
  first = λ i y there marked j less equal. elim (slice_get-push_cases firsts mark i true marked) [
    | inl old ↦
        let b = below i true old in done.first i y (before i y there b) old j less (before j y equal (omega (arith, less, b)))
    | inr q ↦
        let c = done.count in
        let at = q.0 in
        none q.1 (j, before j y equal (omega (arith, less, at, c)) ∙ ap Some (sym (last i y there (at ∙ c))))
  ];
}
  where
    below : (i : ℕ) (b : Bool) → slice_get firsts i ≡ Some b → i < length all
    below i b old = let less = slice_get_within firsts i b old in let c = done.count in omega (arith, less, c)

    before : (i : ℕ) (y : EndState) → slice_get (all ++ x ∷ []) i ≡ Some y → i < length all → slice_get all i ≡ Some y
    before i y there less = elim (slice_get-push_cases all x i y there) [
      | inl kept ↦ kept
      | inr q ↦ absurd (let at = q.0 in omega (arith, less, at))
    ]

    last : (i : ℕ) (y : EndState) → slice_get (all ++ x ∷ []) i ≡ Some y → i ≡ length all → x ≡ y
    last i y there at = elim (slice_get-push_cases all x i y there) [
      | inl kept ↦ absurd (let less = slice_get_within all i y kept in omega (arith, less, at))
      | inr q ↦ q.1
    ]
