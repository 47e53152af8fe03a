-- Levels that a search has gone over.
use Rattle.std.proofs.Common.{◌≡◌, ℕ, suc, zero, ◌<◌, ◌≤◌, Bool, true, false, cond, Some, None, List, [], ◌∷◌, inl, inr, length, get_or, refl, sym, ap, ◌∙◌, subst, arith}
use Rattle.std.specs.Prelude.{slice_get, replicate}
use Rattle.std.proofs.lemmas.Bool.{cases_lt, le-leb}
use Rattle.std.proofs.lemmas.Bool.Decides.{leb_tells}
use Rattle.std.proofs.lemmas.Option.{slice_get-get_or, same_Some}
use Rattle.std.proofs.Math.Dec.{leb}
use Rattle.ir_search_laws.proofs.CallerLemmas.{levels_with_one_added}
use Rattle.ir_search.specs.declared.origin.Origin.{Origin}
use Rattle.ir_search.specs.Following.{Leading, BothWays, Keeps, GoesTo}
use Rattle.ir_search.specs.Levels.{AllFollowed, AllOpen, AreRowsWithin, LevelEnds, AreAsked, Covered, AreGoneOver}
use Rattle.ir_search.specs.Origins.{BeginsAt, Adds}
use Rattle.ir_search.proofs.Opens.{open_by_get_or, get_or_by_open}
use Rattle.ir_search.proofs.Reached.{slice_get_some_below}

-- whether node v is opened for thread t
abbrev pub is_opened_for : List (List Bool) → ℕ → ℕ → Bool
is_opened_for opened v t = get_or (get_or opened t []) v false

opened_is_get_or : (opened : List (List Bool)) (t : ℕ) → t < length opened → slice_get opened t ≡ Some (get_or opened t [])
opened_is_get_or opened t l = slice_get-get_or opened t [] l

pub opened_for_if_all_open : (opened : List (List Bool)) (n threads t v : ℕ) → AllOpen opened 0 n threads → threads ≤ length opened → t < threads → v < n
    → is_opened_for opened v t ≡ true
opened_for_if_all_open opened n threads t v all wide l less =
    get_or_by_open (get_or opened t []) v (all t (get_or opened t []) l (opened_is_get_or opened t (omega (arith, l, wide))) v (omega arith) less)

pub opened_goes_to_opened : (noted : ℕ → BothWays) (opened : List (List Bool)) (t v : ℕ) → AllFollowed noted opened → t < length opened
    → is_opened_for opened v t ≡ true → (refused : Bool) → GoesTo (noted t refused) (λ w. is_opened_for opened w t ≡ true) v
opened_goes_to_opened noted opened t v all l is refused =
    elim (all t (get_or opened t []) (opened_is_get_or opened t l) v (open_by_get_or (get_or opened t []) v is) refused) [
      | inl none ↦ inl none
      | inr s ↦ inr (s.0, s.1, get_or_by_open (get_or opened t []) s.0 s.2)
    ]

pub opened_node_is_within : (opened : List (List Bool)) (n t v : ℕ) → AreRowsWithin opened n → t < length opened → is_opened_for opened v t ≡ true → v < n
opened_node_is_within opened n t v within l is =
    let a = within t (get_or opened t []) (opened_is_get_or opened t l) in
    let b = slice_get_some_below (get_or opened t []) v true (open_by_get_or (get_or opened t []) v is) in
    omega (arith, a, b)

pub origin_below_length : (xs : List Origin) (v : ℕ) → v < length xs → (n : Origin) × (slice_get xs v ≡ Some n)
origin_below_length [] v l = absurd (omega (arith, l))
origin_below_length (x ∷ xs) zero l = (x, refl)
origin_below_length (x ∷ xs) (suc v) l = origin_below_length xs v (omega (arith, l))

goes_to_if_notes_kept : (leading more : Leading) (Those : ℕ → Type 0) (v : ℕ) → Keeps leading more → GoesTo leading Those v → GoesTo more Those v
goes_to_if_notes_kept leading more Those v kept g = elim g [ inl none ↦ inl (kept v None none) | inr s ↦ inr (s.0, kept v (Some s.0) s.1, s.2) ]

pub covered_if_kept : (noted more : ℕ → BothWays) (threads : ℕ) (nodes new : List Origin) (c : ℕ) → ((t : ℕ) (refused : Bool) → Keeps (noted t refused) (more t refused))
    → ((v : ℕ) (n : Origin) → slice_get nodes v ≡ Some n → slice_get new v ≡ Some n) → Covered noted threads nodes c
    → Covered more threads new c
covered_if_kept noted more threads nodes new c kept stays h = record {
  levels = h.levels;
  opens = h.opens;
  followed = λ k v t l few is refused.
      goes_to_if_notes_kept (noted t refused) (more t refused) (λ w. h.levels k w t ≡ true) v (kept t refused) (h.followed k v t l few is refused);
  turned = h.turned;
  within = λ k v t l few is. let n = h.within k v t l few is in (n.0, stays v n.0 n.1, n.2);
}

pub gone_over_if_kept : (noted more : ℕ → BothWays) (threads : ℕ) (nodes new : List Origin) (number : ℕ) → ((t : ℕ) (refused : Bool) → Keeps (noted t refused) (more t refused))
    → ((v : ℕ) (n : Origin) → slice_get nodes v ≡ Some n → slice_get new v ≡ Some n) → AreGoneOver noted threads nodes number
    → AreGoneOver more threads new number
gone_over_if_kept noted more threads nodes new zero kept stays h = tt
gone_over_if_kept noted more threads nodes new (suc c) kept stays h = covered_if_kept noted more threads nodes new c kept stays h

module _ (noted : ℕ → BothWays) (threads : ℕ) (nodes : List Origin) (opened : List (List Bool)) where
  within_now : (until number : ℕ) → LevelEnds noted threads nodes opened until number → (v t : ℕ) → t < threads → is_opened_for opened v t ≡ true
      → (n : Origin) × (slice_get nodes v ≡ Some n) × (n.level ≤ number)
  within_now until number h v t few is =
      let n = origin_below_length nodes v (opened_node_is_within opened (length nodes) t v h.within (let a = h.threads_are in omega (arith, a, few)) is) in
      (n.0, n.1, h.levels v n.0 n.1)

  pub covered_start : (until : ℕ) → LevelEnds noted threads nodes opened until 0 → 0 < until → Covered noted threads nodes 0
  covered_start until h some = record {
    levels = λ k. is_opened_for opened;
    opens = λ t few. opened_for_if_all_open opened until threads t 0 h.opens (let a = h.threads_are in omega (arith, a)) few some;
    followed = λ k v t l few is. opened_goes_to_opened noted opened t v h.followed (let a = h.threads_are in omega (arith, a, few)) is;
    turned = λ k v t u few other is l. absurd (omega (arith, l));
    within = λ k v t l few is. let n = within_now until 0 h v t few is in (n.0, n.1, let a = n.2 in omega (arith, a));
  }

  up_to : (levels : ℕ → ℕ → ℕ → Bool) (c k v t : ℕ) → k ≤ c → levels_with_one_added levels c (is_opened_for opened) k v t ≡ levels k v t
  up_to levels c k v t l = ap (λ b. cond b (levels k v t) (is_opened_for opened v t)) (le-leb k c l)

  above : (levels : ℕ → ℕ → ℕ → Bool) (c k v t : ℕ) → c < k → levels_with_one_added levels c (is_opened_for opened) k v t ≡ is_opened_for opened v t
  above levels c k v t l =
      let no : leb k c ≡ false = elim (leb_tells k c) [ inl p ↦ absurd (let h = p.1 in omega (arith, h, l)) | inr p ↦ p.0 ] in
      ap (λ b. cond b (levels k v t) (is_opened_for opened v t)) no

  -- a level more: what was opened by the end of the one before is below `until`
  pub covered_more : (until c : ℕ) → (h : Covered noted threads nodes c) → LevelEnds noted threads nodes opened until (suc c)
      → ((v t : ℕ) → t < threads → h.levels c v t ≡ true → v < until) → Covered noted threads nodes (suc c)
  covered_more until c h now less = record {
    levels = levels_with_one_added h.levels c (is_opened_for opened);
    opens = λ t few. up_to h.levels c 0 0 t (omega arith) ∙ h.opens t few;
    followed = λ k v t l few is refused. elim (cases_lt c k) [
      | inl high ↦
          elim (opened_goes_to_opened noted opened t v now.followed (let a = now.threads_are in omega (arith, a, few))
          (sym (above h.levels c k v t high) ∙ is) refused) [
            | inl none ↦ inl none
            | inr s ↦ inr (s.0, s.1, above h.levels c k s.0 t high ∙ s.2)
          ]
      | inr low ↦
          elim (h.followed k v t low few (sym (up_to h.levels c k v t low) ∙ is) refused) [
            | inl none ↦ inl none
            | inr s ↦ inr (s.0, s.1, up_to h.levels c k s.0 t low ∙ s.2)
          ]
    ];
    turned = λ k v t u few other is l. elim (cases_lt k c) [
      | inl low ↦ up_to h.levels c (suc k) v u (omega (arith, low))
          ∙ h.turned k v t u few other (sym (up_to h.levels c k v t (omega (arith, low))) ∙ is) low
      | inr high ↦
          let same : k ≡ c = omega (arith, l, high) in
          let was : h.levels c v t ≡ true =
          subst (λ z. h.levels z v t ≡ true) same (sym (up_to h.levels c k v t (omega (arith, l))) ∙ is) in
          above h.levels c (suc k) v u (omega (arith, high))
          ∙ opened_for_if_all_open opened until threads u v now.opens (let a = now.threads_are in omega (arith, a)) other (less v t few was)
    ];
    within = λ k v t l few is. elim (cases_lt c k) [
      | inl high ↦
          let n = within_now until (suc c) now v t few (sym (above h.levels c k v t high) ∙ is) in
          (n.0, n.1, let a = n.2 in omega (arith, a, high))
      | inr low ↦ h.within k v t low few (sym (up_to h.levels c k v t low) ∙ is)
    ];
  }

  pub asked_all : (until number : ℕ) → LevelEnds noted threads nodes opened until number → until ≡ length nodes → (size : ℕ)
      → length nodes ≡ size → AreAsked noted threads size
  asked_all until number h all size same v t less few refused =
      let l : t < length opened = (let a = h.threads_are in omega (arith, a, few)) in
      elim (opened_goes_to_opened noted opened t v h.followed l
      (opened_for_if_all_open opened until threads t v h.opens (let a = h.threads_are in omega (arith, a)) few (omega (arith, less, all, same))) refused) [
        | inl none ↦ inl none
        | inr s ↦ inr (s.0, s.1, let a = opened_node_is_within opened (length nodes) t s.0 h.within l s.2 in omega (arith, a, same))
      ]

-- one more level is gone over
pub next_level_gone_over : (noted more : ℕ → BothWays) (threads : ℕ) (nodes new : List Origin) (opened : List (List Bool)) (number : ℕ)
    → ((t : ℕ) (refused : Bool) → Keeps (noted t refused) (more t refused)) → Adds number nodes new → AreGoneOver noted threads nodes number → 0 < length nodes
    → LevelEnds more threads new opened (length nodes) number → AreGoneOver more threads new (suc number)
unfolding covered_if_kept
next_level_gone_over noted more threads nodes new opened zero kept adds gone some now = covered_start more threads new opened (length nodes) now some
next_level_gone_over noted more threads nodes new opened (suc c) kept adds gone some now =
    covered_more more threads new opened (length nodes) c (covered_if_kept noted more threads nodes new c kept adds.stays gone) now
    (λ v t few is. let n = gone.within c v t (omega arith) few is in slice_get_some_below nodes v n.0 n.1)

-- the levels of the nodes, once these were added
pub levels_bounded_by_adds : (k : ℕ) (nodes new : List Origin) → ((v : ℕ) (n : Origin) → slice_get nodes v ≡ Some n → n.level ≤ k) → Adds k nodes new
    → (v : ℕ) (n : Origin) → slice_get new v ≡ Some n → n.level ≤ k
levels_bounded_by_adds k nodes new old adds v n is = elim (cases_lt v (length nodes)) [
  | inl low ↦
      let m = origin_below_length nodes v low in
      let a = old v m.0 m.1 in
      let same : m.0 ≡ n = same_Some m.0 n (sym (adds.stays v m.0 m.1) ∙ is) in
      subst (λ z. z.level ≤ k) same a
  | inr high ↦ let a = adds.level v n high is in omega (arith, a)
]

-- the next level's nodes are those that were added
pub next_level_begins_added : (k : ℕ) (nodes new : List Origin) → Adds k nodes new → (v : ℕ) → length nodes ≤ v → v < length new → BeginsAt new (suc k) v
next_level_begins_added k nodes new adds v low less = let n = origin_below_length new v less in (n.0, n.1, adds.level v n.0 low n.1)

-- no row at first
pub replicated_row_is_empty : (threads t : ℕ) (row : List Bool) → slice_get (replicate threads []) t ≡ Some row → row ≡ []
replicated_row_is_empty zero t row e = absurd (cc e)
replicated_row_is_empty (suc threads) zero row e = sym (same_Some [] row e)
replicated_row_is_empty (suc threads) (suc t) row e = replicated_row_is_empty threads t row e

-- what is gone over up to a level is gone over up to each one before
pub covered_to_lower : (noted : ℕ → BothWays) (threads : ℕ) (nodes : List Origin) (c d : ℕ) → d ≤ c → Covered noted threads nodes c
    → Covered noted threads nodes d
covered_to_lower noted threads nodes c d less h = record {
  levels = h.levels;
  opens = h.opens;
  followed = λ k v t l. h.followed k v t (omega (arith, l, less));
  turned = λ k v t u few few' is l. h.turned k v t u few few' is (omega (arith, l, less));
  within = λ k v t l. h.within k v t (omega (arith, l, less));
}

pub covered_below_gone_over : (noted : ℕ → BothWays) (threads : ℕ) (nodes : List Origin) (n d : ℕ) → d < n → AreGoneOver noted threads nodes n
    → Covered noted threads nodes d
covered_below_gone_over noted threads nodes zero d less h = absurd (omega (arith, less))
covered_below_gone_over noted threads nodes (suc c) d less h = covered_to_lower noted threads nodes c d (omega (arith, less)) h
