-- Breakpoints with conditions among the points, and which of them stop a thread.
use Rattle.std.proofs.Common.{◌≡◌, ◌<◌, ◌≤◌, ◌+◌, ◌⊎◌, ◌∙◌, ℕ, zero, suc, Bool, true, false, List, [], ◌∷◌, ◌++◌, length, Some, inl, inr, refl, sym, ap, subst, arith}
use Rattle.std.specs.Prelude.{slice_get, if◌then◌else◌}
use Rattle.std.proofs.lemmas.Bool.Decides.{nat_tests}
use Rattle.std.proofs.lemmas.Option.{slice_get_within}
use Rattle.ir_runs.specs.Run.{Step}
use Rattle.ir_fit.specs.Fit.{FittedTrace}
use Rattle.ir_command.specs.declared.command.Point.TheVariants.{Break}
use Rattle.ir_hits.specs.Hits.{Numbered, HitBy, HitByNumber}
use Rattle.ir_gdb.specs.declared.point.Watched.{Watched}
use Rattle.ir_gdb.specs.Guards.{Guarded, is_guarded, guard_offset, break_number, has_guard}
use Rattle.ir_gdb.specs.Points.{word_points, watch_points, break_points, own_points, points_upwards, points_downwards}
use Rattle.ir_gdb.specs.Stub.{most_stub_points}
use Rattle.ir_gdb.proofs.Finding.{first_point_hits, later_point_hits, first_or_later_hits}

module _ (f : FittedTrace) (run : List Step) (t k : ℕ) where
  hit_of_appended : (xs ys : List Numbered) (n : ℕ) → HitByNumber f run (xs ++ ys) t k n → HitByNumber f run xs t k n ⊎ HitByNumber f run ys t k n
  hit_of_appended [] ys n hits = inr hits
  hit_of_appended (x ∷ xs) ys n hits = elim (first_or_later_hits f run x (xs ++ ys) t k n hits) [
    | inl first ↦ inl (subst (λ m. HitByNumber f run (x ∷ xs) t k m) first.0 (first_point_hits f run x xs t k first.1))
    | inr later ↦ elim (hit_of_appended xs ys n later) [
      | inl one ↦ inl (later_point_hits f run x xs t k n one)
      | inr two ↦ inr two
    ]
  ]

  hit_in_left : (xs ys : List Numbered) (n : ℕ) → HitByNumber f run xs t k n → HitByNumber f run (xs ++ ys) t k n
  hit_in_left [] ys n hits = let at = hits.2 in absurd (cc at)
  hit_in_left (x ∷ xs) ys n hits = elim (first_or_later_hits f run x xs t k n hits) [
    | inl first ↦ subst (λ m. HitByNumber f run (x ∷ (xs ++ ys)) t k m) first.0 (first_point_hits f run x (xs ++ ys) t k first.1)
    | inr later ↦ later_point_hits f run x (xs ++ ys) t k n (hit_in_left xs ys n later)
  ]

  hit_in_right : (xs ys : List Numbered) (n : ℕ) → HitByNumber f run ys t k n → HitByNumber f run (xs ++ ys) t k n
  hit_in_right [] ys n hits = hits
  hit_in_right (x ∷ xs) ys n hits = later_point_hits f run x (xs ++ ys) t k n (hit_in_right xs ys n hits)

  -- ---- numbers of watches and of a session's points

  number_of_words : (number count address n : ℕ) → HitByNumber f run (word_points t number count address) t k n → n ≡ number
  unfolding word_points
  number_of_words number zero address n hits = let at = hits.2 in absurd (cc at)
  number_of_words number (suc count) address n hits =
      elim (first_or_later_hits f run _ (word_points t number count (address + 4)) t k n hits) [
        | inl first ↦ sym first.0
        | inr later ↦ number_of_words number count (address + 4) n later
      ]

  number_of_watches : (number : ℕ) (ws : List Watched) (n : ℕ) → HitByNumber f run (watch_points t number ws) t k n → n < number + length ws
  unfolding watch_points
  number_of_watches number [] n hits = let at = hits.2 in absurd (cc at)
  number_of_watches number (w ∷ ws) n hits =
      elim (hit_of_appended (word_points t number _ _) (watch_points t (number + 1) ws) n hits) [
        | inl one ↦ (let is = number_of_words number _ _ n one in omega (arith, is))
        | inr rest ↦ (let less = number_of_watches (number + 1) ws n rest in omega (arith, less))
      ]

  number_of_own : (number : ℕ) (ps : List Numbered) (n : ℕ) → HitByNumber f run (own_points number ps) t k n → n ≡ number
  unfolding own_points
  number_of_own number [] n hits = let at = hits.2 in absurd (cc at)
  number_of_own number (p ∷ ps) n hits = elim (first_or_later_hits f run _ (own_points number ps) t k n hits) [
    | inl first ↦ sym first.0
    | inr later ↦ number_of_own number ps n later
  ]

  -- ---- breakpoints

  -- the breakpoint at a place hits under this number
  pub record IsHitBreak (place : ℕ) (bs : List Guarded) (n i : ℕ) (b : Guarded) : Type 0 where
    pub at : slice_get bs i ≡ Some b
    pub number : n ≡ break_number b (place + i)
    pub hits : HitBy f run t k (Break t b.point.address)

  hit_break : (place : ℕ) (bs : List Guarded) (n : ℕ) → HitByNumber f run (break_points t place bs) t k n → (i : ℕ) × (b : Guarded) × IsHitBreak place bs n i b
  unfolding break_points
  hit_break place [] n hits = let at = hits.2 in absurd (cc at)
  hit_break place (b ∷ bs) n hits = elim (first_or_later_hits f run _ (break_points t (place + 1) bs) t k n hits) [
    | inl first ↦ (
        let here : place ≡ place + 0 = omega arith in
        (0, b, record { at = refl; number = sym first.0 ∙ ap (break_number b) here; hits = first.1 })
        )
    | inr later ↦ (
        let rest = hit_break (place + 1) bs n later in
        let next : place + 1 + rest.0 ≡ place + suc rest.0 = omega arith in
        (suc rest.0, rest.1, record { at = rest.2.at; number = rest.2.number ∙ ap (break_number rest.1) next; hits = rest.2.hits })
        )
  ]

  break_hits : (place : ℕ) (bs : List Guarded) (i : ℕ) (b : Guarded) → slice_get bs i ≡ Some b → HitBy f run t k (Break t b.point.address)
      → HitByNumber f run (break_points t place bs) t k (break_number b (place + i))
  unfolding break_points
  break_hits place [] i b at hits = absurd (cc at)
  break_hits place (x ∷ bs) zero b at hits =
      let same : x ≡ b = cc at in
      let here : place ≡ place + 0 = omega arith in
      subst (λ m. HitByNumber f run (break_points t place (x ∷ bs)) t k (break_number b m)) here
      (subst (λ y. HitByNumber f run (break_points t place (x ∷ bs)) t k (break_number y place)) same
      (first_point_hits f run _ (break_points t (place + 1) bs) t k (subst (λ y. HitBy f run t k (Break t y.point.address)) (sym same) hits)))
  break_hits place (x ∷ bs) (suc i) b at hits =
      let next : place + 1 + i ≡ place + suc i = omega arith in
      subst (λ m. HitByNumber f run (break_points t place (x ∷ bs)) t k (break_number b m)) next
      (later_point_hits f run _ (break_points t (place + 1) bs) t k _ (break_hits (place + 1) bs i b at hits))

  -- ---- those with conditions

  guarded_number : (b : Guarded) (place : ℕ) → is_guarded b ≡ true → break_number b place ≡ place + guard_offset
  guarded_number b place is = ap (λ (g : Bool). if g then place + guard_offset else place) is

  guarded_by_number : (b : Guarded) (place n : ℕ) → n ≡ break_number b place → has_guard n ≡ true → place < guard_offset
      → (is_guarded b ≡ true) × (n ≡ place + guard_offset)
  guarded_by_number b place n number guard low = by (is_guarded b) refl
    where
      by : (g : Bool) → is_guarded b ≡ g → (is_guarded b ≡ true) × (n ≡ place + guard_offset)
      by true is = (is, number ∙ guarded_number b place is)
      by false is =
          let plain : n ≡ place = number ∙ ap (λ (g : Bool). if g then place + guard_offset else place) is in
          let high : guard_offset ≤ n = grind (arith, nat_tests, guard) in
          absurd (omega (arith, plain, high, low))

  -- a breakpoint with conditions hits under this number, behind so many points
  pub record IsHitGuarded (before : ℕ) (bs : List Guarded) (n i : ℕ) (b : Guarded) : Type 0 where
    pub at : slice_get bs i ≡ Some b
    pub guarded : is_guarded b ≡ true
    pub number : n ≡ before + i + guard_offset
    pub hits : HitBy f run t k (Break t b.point.address)

  guarded_of_break : (place : ℕ) (bs : List Guarded) (n : ℕ) → place + length bs ≤ most_stub_points → has_guard n ≡ true
      → HitByNumber f run (break_points t place bs) t k n → (i : ℕ) × (b : Guarded) × IsHitGuarded place bs n i b
  guarded_of_break place bs n few guard hits =
      let found = hit_break place bs n hits in
      let inside = slice_get_within bs found.0 found.1 found.2.at in
      let low : place + found.0 < guard_offset = omega (arith, few, inside) in
      let both = guarded_by_number found.1 (place + found.0) n found.2.number guard low in
      (found.0, found.1, record { at = found.2.at; guarded = both.0; number = both.1; hits = found.2.hits })

  not_guarded_below : (n : ℕ) → n < guard_offset → has_guard n ≡ true → ⊥
  not_guarded_below n low guard =
      let high : guard_offset ≤ n = grind (arith, nat_tests, guard) in
      omega (arith, low, high)

  pub guarded_hit_upwards : (ws : List Watched) (bs : List Guarded) (own : List Numbered) (n : ℕ) → length bs + length ws ≤ most_stub_points → has_guard n ≡ true
      → HitByNumber f run (points_upwards t ws bs own) t k n → (i : ℕ) × (b : Guarded) × IsHitGuarded (length ws) bs n i b
  guarded_hit_upwards ws bs own n few guard hits =
      elim (hit_of_appended (watch_points t 0 ws ++ break_points t (length ws) bs) (own_points (length ws + length bs) own) n hits) [
        | inr mine ↦ (let is = number_of_own (length ws + length bs) own n mine in absurd (not_guarded_below n (omega (arith, is, few)) guard))
        | inl both ↦ elim (hit_of_appended (watch_points t 0 ws) (break_points t (length ws) bs) n both) [
          | inl watch ↦ (let less = number_of_watches 0 ws n watch in absurd (not_guarded_below n (omega (arith, less, few)) guard))
          | inr break ↦ guarded_of_break (length ws) bs n (omega (arith, few)) guard break
        ]
      ]

  pub guarded_hits_upwards : (ws : List Watched) (bs : List Guarded) (own : List Numbered) (i : ℕ) (b : Guarded) → slice_get bs i ≡ Some b → is_guarded b ≡ true
      → HitBy f run t k (Break t b.point.address) → HitByNumber f run (points_upwards t ws bs own) t k (length ws + i + guard_offset)
  guarded_hits_upwards ws bs own i b at is hits = subst (λ m. HitByNumber f run (points_upwards t ws bs own) t k m) (guarded_number b (length ws + i) is)
      (hit_in_left (watch_points t 0 ws ++ break_points t (length ws) bs) (own_points (length ws + length bs) own) _
      (hit_in_right (watch_points t 0 ws) (break_points t (length ws) bs) _ (break_hits (length ws) bs i b at hits)))

  pub guarded_hit_downwards : (ws : List Watched) (bs : List Guarded) (own : List Numbered) (n : ℕ) → length bs + length ws ≤ most_stub_points → has_guard n ≡ true
      → HitByNumber f run (points_downwards t ws bs own) t k n → (i : ℕ) × (b : Guarded) × IsHitGuarded 0 bs n i b
  guarded_hit_downwards ws bs own n few guard hits =
      elim (hit_of_appended (break_points t 0 bs ++ watch_points t (length bs) ws) (own_points (length bs + length ws) own) n hits) [
        | inr mine ↦ (let is = number_of_own (length bs + length ws) own n mine in absurd (not_guarded_below n (omega (arith, is, few)) guard))
        | inl both ↦ elim (hit_of_appended (break_points t 0 bs) (watch_points t (length bs) ws) n both) [
          | inl break ↦ guarded_of_break 0 bs n (omega (arith, few)) guard break
          | inr watch ↦ (let less = number_of_watches (length bs) ws n watch in absurd (not_guarded_below n (omega (arith, less, few)) guard))
        ]
      ]

  pub guarded_hits_downwards : (ws : List Watched) (bs : List Guarded) (own : List Numbered) (i : ℕ) (b : Guarded) → slice_get bs i ≡ Some b → is_guarded b ≡ true
      → HitBy f run t k (Break t b.point.address) → HitByNumber f run (points_downwards t ws bs own) t k (0 + i + guard_offset)
  guarded_hits_downwards ws bs own i b at is hits = subst (λ m. HitByNumber f run (points_downwards t ws bs own) t k m) (guarded_number b (0 + i) is)
      (hit_in_left (break_points t 0 bs ++ watch_points t (length bs) ws) (own_points (length bs + length ws) own) _
      (hit_in_left (break_points t 0 bs) (watch_points t (length bs) ws) _ (break_hits 0 bs i b at hits)))
