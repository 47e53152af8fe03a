-- Where a thread stops does not depend on the numbers and the order of the points that hit it.
use Rattle.std.proofs.Common.{◌≡◌, ◌<◌, ◌+◌, ◌⊎◌, ◌∙◌, ℕ, zero, suc, Bool, true, false, true≢false, List, [], ◌∷◌, ◌++◌, length, Option, Some, None, append-nil, inl, inr, refl, sym, ap, subst, arith}
use Rattle.std.specs.Prelude.{map, option_map}
use Rattle.std.proofs.lemmas.Bool.{cases_eq, cases_lt}
use Rattle.ir_mach.specs.Execution.{memory_word}
use Rattle.ir_runs.specs.declared.access.Access.TheVariants.{Reading, Writing}
use Rattle.ir_runs.specs.Machine.{Label, Quiet, Answer, EnteredAt, FailedTry, LeftAt}
use Rattle.ir_runs.specs.Run.{Step, At, Emits, count, trail}
use Rattle.ir_thread.specs.State.{ThreadState, ask_of}
use Rattle.ir_fit.specs.Fit.{FittedTrace}
use Rattle.ir_cut.specs.Positions.{machine_of, start_of, thread_at}
use Rattle.ir_command.specs.declared.command.Point.{Point}
use Rattle.ir_command.specs.declared.command.Point.TheVariants.{Break, Watch, WatchObject}
use Rattle.ir_command.specs.declared.command.Direction.{Direction}
use Rattle.ir_command.specs.declared.command.Direction.TheVariants.{Forwards, Backwards}
use Rattle.ir_command.specs.declared.hit.Hit.{Hit}
use Rattle.ir_hits.specs.Hits.{Numbered, objects_start, puts_at, ChangesWord, PutsWord, HitBy, HitByNumber, IsLowest, NoneWithin, IsFirstHit, IsLastHit, Finds}
use Rattle.ir_gdb.specs.Guards.{Guarded, without_conditions}
use Rattle.ir_gdb.specs.Points.{watch_points, break_points, own_points, points_upwards, points_downwards}

-- ---- whether a point hits

emitted_or_none : {T : Type 0} (xs : List (T × Label)) (k : ℕ) → ((x : T × Label) × At xs k x) ⊎ ((x : T × Label) → At xs k x → ⊥)
emitted_or_none [] k = inr (λ x at. at)
emitted_or_none (y ∷ ys) zero = inl (y, refl)
emitted_or_none (y ∷ ys) (suc k) = emitted_or_none ys k

at_place_unique : {T : Type 0} (xs : List (T × Label)) (k : ℕ) (x y : T × Label) → At xs k x → At xs k y → x ≡ y
at_place_unique [] k x y a b = absurd a
at_place_unique (z ∷ zs) zero x y a b = sym a ∙ b
at_place_unique (z ∷ zs) (suc k) x y a b = at_place_unique zs k x y a b

abbrev IsWrittenLeave : ℕ → Label → Type 0
IsWrittenLeave o Quiet = ⊥
IsWrittenLeave o (Answer kind value) = ⊥
IsWrittenLeave o (EnteredAt p access version left) = ⊥
IsWrittenLeave o (FailedTry p) = ⊥
IsWrittenLeave o (LeftAt p Reading version) = ⊥
IsWrittenLeave o (LeftAt p Writing version) = p ≡ o

written_leave_or_not : (o : ℕ) (l : Label) → IsWrittenLeave o l ⊎ (IsWrittenLeave o l → ⊥)
written_leave_or_not o Quiet = inr (λ is. is)
written_leave_or_not o (Answer kind value) = inr (λ is. is)
written_leave_or_not o (EnteredAt p access version left) = inr (λ is. is)
written_leave_or_not o (FailedTry p) = inr (λ is. is)
written_leave_or_not o (LeftAt p Reading version) = inr (λ is. is)
written_leave_or_not o (LeftAt p Writing version) = elim (cases_eq p o) [
  | inl e ↦ inl e
  | inr ne ↦ inr ne
]

written_leave_version : (o : ℕ) (l : Label) → IsWrittenLeave o l → (version : ℕ) × (l ≡ LeftAt o Writing version)
written_leave_version o Quiet is = absurd is
written_leave_version o (Answer kind value) is = absurd is
written_leave_version o (EnteredAt p access version left) is = absurd is
written_leave_version o (FailedTry p) is = absurd is
written_leave_version o (LeftAt p Reading version) is = absurd is
written_leave_version o (LeftAt p Writing version) is = (version, ap (λ x. LeftAt x Writing version) is)

leave_emitted_or_not : (f : FittedTrace) (run : List Step) (t j object : ℕ)
    → ((version : ℕ) × Emits (machine_of f) (start_of f) run t j (LeftAt object Writing version))
    ⊎ (((version : ℕ) × Emits (machine_of f) (start_of f) run t j (LeftAt object Writing version)) → ⊥)
leave_emitted_or_not f run t j object = by (emitted_or_none steps j)
  where
    steps : List (ThreadState × Label)
    steps = trail (machine_of f) (start_of f) run t

    Leaves : Type 0
    Leaves = (version : ℕ) × Emits (machine_of f) (start_of f) run t j (LeftAt object Writing version)

    of_label : (x : ThreadState × Label) → At steps j x → IsWrittenLeave object x.1 ⊎ (IsWrittenLeave object x.1 → ⊥) → Leaves ⊎ (Leaves → ⊥)
    of_label x at (inl is) =
        let found = written_leave_version object x.1 is in
        inl (found.0, (x.0, subst (λ l. At steps j (x.0, l)) found.1 at))
    of_label x at (inr isnt) = inr (λ leaves. isnt (subst (λ (y : ThreadState × Label). IsWrittenLeave object y.1)
        (at_place_unique steps j (leaves.1.0, LeftAt object Writing leaves.0) x leaves.1.1 at) refl))

    by : ((x : ThreadState × Label) × At steps j x) ⊎ ((x : ThreadState × Label) → At steps j x → ⊥) → Leaves ⊎ (Leaves → ⊥)
    by (inl (x, at)) = of_label x at (written_leave_or_not object x.1)
    by (inr none) = inr (λ leaves. none (leaves.1.0, LeftAt object Writing leaves.0) leaves.1.1)

word_is_changed_or_not : (f : FittedTrace) (run : List Step) (t address j : ℕ) → ChangesWord f run t address j ⊎ (ChangesWord f run t address j → ⊥)
word_is_changed_or_not f run t address j = elim (cases_lt address objects_start) [
  | inr high ↦ inr (λ h. let low = h.0 in omega (arith, low, high))
  | inl low ↦ elim (cases_eq (memory_word (thread_at f run t j).core.memory address) (memory_word (thread_at f run t (suc j)).core.memory address)) [
    | inr ne ↦ inl (low, ne)
    | inl kept ↦ inr (λ h. h.1 kept)
  ]
]

word_is_put_or_not : (f : FittedTrace) (run : List Step) (t address j : ℕ) → PutsWord f run t address j ⊎ (PutsWord f run t address j → ⊥)
word_is_put_or_not f run t address j = elim (cases_lt j (count (machine_of f) (start_of f) run t)) [
  | inr past ↦ inr (λ h. let less = h.0 in omega (arith, less, past))
  | inl less ↦ by less (puts_at address (ask_of f.guest.code (thread_at f run t j))) refl
]
  where
    by : j < count (machine_of f) (start_of f) run t → (b : Bool) → puts_at address (ask_of f.guest.code (thread_at f run t j)) ≡ b
        → PutsWord f run t address j ⊎ (PutsWord f run t address j → ⊥)
    by less true is = inl (less, is)
    by less false is = inr (λ h. true≢false (sym h.1 ∙ is))

word_is_written_or_not : (f : FittedTrace) (run : List Step) (t address j : ℕ)
    → (ChangesWord f run t address j ⊎ PutsWord f run t address j) ⊎ (ChangesWord f run t address j ⊎ PutsWord f run t address j → ⊥)
word_is_written_or_not f run t address j = elim (word_is_changed_or_not f run t address j) [
  | inl changes ↦ inl (inl changes)
  | inr not ↦ elim (word_is_put_or_not f run t address j) [
    | inl puts ↦ inl (inr puts)
    | inr none ↦ inr (λ h. elim h [
      | inl changes ↦ not changes
      | inr puts ↦ none puts
    ])
  ]
]

hit_by_or_not : (f : FittedTrace) (run : List Step) (t k : ℕ) (p : Point) → HitBy f run t k p ⊎ (HitBy f run t k p → ⊥)
hit_by_or_not f run t k (Break u address) = elim (cases_eq u t) [
  | inr ne ↦ inr (λ h. ne h.0)
  | inl same ↦ elim (cases_eq (thread_at f run t k).core.pc address) [
    | inr ne ↦ inr (λ h. ne h.1)
    | inl at ↦ elim (cases_lt k (count (machine_of f) (start_of f) run t)) [
      | inl l ↦ inl (same, at, l)
      | inr past ↦ inr (λ h. let l = h.2 in omega (arith, l, past))
    ]
  ]
]
hit_by_or_not f run t zero (Watch u address) = inr (λ h. let e = h.1.1 in omega (arith, e))
hit_by_or_not f run t (suc j) (Watch u address) = elim (cases_eq u t) [
  | inr ne ↦ inr (λ h. ne h.0)
  | inl same ↦ elim (word_is_written_or_not f run t address j) [
    | inl written ↦ inl (same, (j, refl, written))
    | inr kept ↦ inr (λ h. let e = h.1.1 in let i : h.1.0 ≡ j = omega (arith, e) in
        kept (subst (λ n. ChangesWord f run t address n ⊎ PutsWord f run t address n) i h.1.2))
  ]
]
hit_by_or_not f run t zero (WatchObject object) = inr (λ h. let e = h.1 in omega (arith, e))
hit_by_or_not f run t (suc j) (WatchObject object) = elim (leave_emitted_or_not f run t j object) [
  | inl leaves ↦ inl (j, refl, leaves)
  | inr none ↦ inr (λ h. let e = h.1 in let i : h.0 ≡ j = omega (arith, e) in
      none (subst (λ n. (version : ℕ) × Emits (machine_of f) (start_of f) run t n (LeftAt object Writing version)) i h.2))
]

-- ---- the lowest number of those that hit

pub first_point_hits : (f : FittedTrace) (run : List Step) (p : Numbered) (ps : List Numbered) (t k : ℕ) → HitBy f run t k p.point
    → HitByNumber f run (p ∷ ps) t k p.number
first_point_hits f run p ps t k hits = (0, p, refl, refl, hits)

pub later_point_hits : (f : FittedTrace) (run : List Step) (p : Numbered) (ps : List Numbered) (t k n : ℕ) → HitByNumber f run ps t k n
    → HitByNumber f run (p ∷ ps) t k n
later_point_hits f run p ps t k n h = (suc h.0, h.1, h.2, h.3, h.4)

pub first_or_later_hits : (f : FittedTrace) (run : List Step) (p : Numbered) (ps : List Numbered) (t k n : ℕ) → HitByNumber f run (p ∷ ps) t k n
    → ((p.number ≡ n) × HitBy f run t k p.point) ⊎ HitByNumber f run ps t k n
first_or_later_hits f run p ps t k n (zero, q, at, number, hits) =
    let same : p ≡ q = cc at in inl (ap (λ (x : Numbered). x.number) same ∙ number, subst (λ (x : Numbered). HitBy f run t k x.point) (sym same) hits)
first_or_later_hits f run p ps t k n (suc i, q, at, number, hits) = inr (i, q, at, number, hits)

pub lowest_number_or_no_hit : (f : FittedTrace) (run : List Step) (ps : List Numbered) (t k : ℕ)
    → ((n : ℕ) × IsLowest f run ps t k n) ⊎ ((n : ℕ) → HitByNumber f run ps t k n → ⊥)
lowest_number_or_no_hit f run [] t k = inr (λ n h. let at = h.2 in absurd (cc at))
lowest_number_or_no_hit f run (p ∷ ps) t k = by (hit_by_or_not f run t k p.point) (lowest_number_or_no_hit f run ps t k)
  where
    by : HitBy f run t k p.point ⊎ (HitBy f run t k p.point → ⊥) → ((n : ℕ) × IsLowest f run ps t k n) ⊎ ((n : ℕ) → HitByNumber f run ps t k n → ⊥)
        → ((n : ℕ) × IsLowest f run (p ∷ ps) t k n) ⊎ ((n : ℕ) → HitByNumber f run (p ∷ ps) t k n → ⊥)
    by (inr not) (inr none) = inr (λ n h. elim (first_or_later_hits f run p ps t k n h) [
      | inl first ↦ not first.1
      | inr later ↦ none n later
    ])
    by (inl hits) (inr none) = inl (
      p.number,
      record {
        hits = first_point_hits f run p ps t k hits;
        lowest = λ m h. elim (first_or_later_hits f run p ps t k m h) [
          | inl first ↦ (let e = first.0 in omega (arith, e))
          | inr later ↦ absurd (none m later)
        ];
      },
    )
    by (inr not) (inl (n, least)) = inl (
      n,
      record {
        hits = later_point_hits f run p ps t k n least.hits;
        lowest = λ m h. elim (first_or_later_hits f run p ps t k m h) [
          | inl first ↦ absurd (not first.1)
          | inr later ↦ least.lowest m later
        ];
      },
    )
    by (inl hits) (inl (n, least)) = elim (cases_lt n p.number) [
      | inl l ↦ inl (
        n,
        record {
          hits = later_point_hits f run p ps t k n least.hits;
          lowest = λ m h. elim (first_or_later_hits f run p ps t k m h) [
            | inl first ↦ (let e = first.0 in omega (arith, e, l))
            | inr later ↦ least.lowest m later
          ];
        },
      )
      | inr ge ↦ inl (
        p.number,
        record {
          hits = first_point_hits f run p ps t k hits;
          lowest = λ m h. elim (first_or_later_hits f run p ps t k m h) [
            | inl first ↦ (let e = first.0 in omega (arith, e))
            | inr later ↦ (let le = least.lowest m later in omega (arith, le, ge))
          ];
        },
      )
    ]

-- ---- points that hit at the same positions

-- some point hits thread t at position k
abbrev pub IsHitAt : FittedTrace → List Step → List Numbered → ℕ → ℕ → Type 0
IsHitAt f run ps t k = (n : ℕ) × HitByNumber f run ps t k n

-- where the first hit, the second do
abbrev pub HitsAlso : FittedTrace → List Step → ℕ → List Numbered → List Numbered → Type 0
HitsAlso f run t ps qs = (k : ℕ) → IsHitAt f run ps t k → IsHitAt f run qs t k

none_within_by_hits : (f : FittedTrace) (run : List Step) (t from to : ℕ) (ps qs : List Numbered) → HitsAlso f run t qs ps
    → NoneWithin f run ps t from to → NoneWithin f run qs t from to
none_within_by_hits f run t from to ps qs also none j n low high h = let hit = also j (n, h) in none j hit.0 low high hit.1

lowest_among_other_points : (f : FittedTrace) (run : List Step) (t k n : ℕ) (ps qs : List Numbered) → HitsAlso f run t ps qs → IsLowest f run ps t k n
    → (m : ℕ) × IsLowest f run qs t k m
lowest_among_other_points f run t k n ps qs also least = elim (lowest_number_or_no_hit f run qs t k) [
  | inl found ↦ found
  | inr none ↦ absurd (let hit = also k (n, least.hits) in none hit.0 hit.1)
]

abbrev pub position_in : Option Hit → Option ℕ
position_in hit = option_map (λ (h : Hit). h.position) hit

pub same_hits_found : (run : List Step) (f : FittedTrace) (ps qs : List Numbered) (t from : ℕ) (d : Direction) (hit : Option Hit)
    → HitsAlso f run t ps qs → HitsAlso f run t qs ps → Finds run f ps t from d hit
    → (other : Option Hit) × Finds run f qs t from d other × (position_in hit ≡ position_in other)
same_hits_found run f ps qs t from Forwards None to back none = (None, λ j n low h. let hit = back j (n, h) in none j hit.0 low hit.1, refl)
same_hits_found run f ps qs t from Forwards (Some h) to back first =
    let least = lowest_among_other_points f run t h.position h.number ps qs to first.2 in
    (Some (record { position = h.position; number = least.0 }), (first.0, none_within_by_hits f run t (suc from) h.position ps qs back first.1, least.1), refl)
same_hits_found run f ps qs t from Backwards None to back none = (None, none_within_by_hits f run t 0 from ps qs back none, refl)
same_hits_found run f ps qs t from Backwards (Some h) to back last =
    let least = lowest_among_other_points f run t h.position h.number ps qs to last.2 in
    (Some (record { position = h.position; number = least.0 }), (last.0, none_within_by_hits f run t (suc h.position) from ps qs back last.1, least.1), refl)

-- ---- lists of points, one by one

-- some point of the list hits
abbrev SomeHits : FittedTrace → List Step → ℕ → ℕ → List Numbered → Type 0
SomeHits f run t k [] = ⊥
SomeHits f run t k (p ∷ ps) = HitBy f run t k p.point ⊎ SomeHits f run t k ps

some_hits_if_hit_by_number : (f : FittedTrace) (run : List Step) (t k n : ℕ) (ps : List Numbered) → HitByNumber f run ps t k n → SomeHits f run t k ps
some_hits_if_hit_by_number f run t k n [] h = let at = h.2 in absurd (cc at)
some_hits_if_hit_by_number f run t k n (p ∷ ps) h = elim (first_or_later_hits f run p ps t k n h) [
  | inl first ↦ inl first.1
  | inr later ↦ inr (some_hits_if_hit_by_number f run t k n ps later)
]

hit_if_some_point_hits : (f : FittedTrace) (run : List Step) (t k : ℕ) (ps : List Numbered) → SomeHits f run t k ps → IsHitAt f run ps t k
hit_if_some_point_hits f run t k [] some = absurd some
hit_if_some_point_hits f run t k (p ∷ ps) (inl first) = (p.number, first_point_hits f run p ps t k first)
hit_if_some_point_hits f run t k (p ∷ ps) (inr later) = let h = hit_if_some_point_hits f run t k ps later in (h.0, later_point_hits f run p ps t k h.0 h.1)

append_hits_cases : (f : FittedTrace) (run : List Step) (t k : ℕ) (ps qs : List Numbered) → SomeHits f run t k (ps ++ qs)
    → SomeHits f run t k ps ⊎ SomeHits f run t k qs
append_hits_cases f run t k [] qs some = inr some
append_hits_cases f run t k (p ∷ ps) qs (inl first) = inl (inl first)
append_hits_cases f run t k (p ∷ ps) qs (inr later) = elim (append_hits_cases f run t k ps qs later) [
  | inl one ↦ inl (inr one)
  | inr two ↦ inr two
]

some_hits_append_left : (f : FittedTrace) (run : List Step) (t k : ℕ) (ps qs : List Numbered) → SomeHits f run t k ps → SomeHits f run t k (ps ++ qs)
some_hits_append_left f run t k [] qs some = absurd some
some_hits_append_left f run t k (p ∷ ps) qs (inl first) = inl first
some_hits_append_left f run t k (p ∷ ps) qs (inr later) = inr (some_hits_append_left f run t k ps qs later)

some_hits_append_right : (f : FittedTrace) (run : List Step) (t k : ℕ) (ps qs : List Numbered) → SomeHits f run t k qs → SomeHits f run t k (ps ++ qs)
some_hits_append_right f run t k [] qs some = some
some_hits_append_right f run t k (p ∷ ps) qs some = inr (some_hits_append_right f run t k ps qs some)

session_breaks_hit_as_gdbs : (f : FittedTrace) (run : List Step) (t k a b : ℕ) (bs : List Guarded) → SomeHits f run t k (break_points t a bs)
    → SomeHits f run t k (break_points t b (map without_conditions bs))
unfolding break_points
session_breaks_hit_as_gdbs f run t k a b [] some = some
session_breaks_hit_as_gdbs f run t k a b (x ∷ xs) (inl first) = inl first
session_breaks_hit_as_gdbs f run t k a b (x ∷ xs) (inr later) = inr (session_breaks_hit_as_gdbs f run t k (a + 1) (b + 1) xs later)

gdbs_breaks_hit_as_session : (f : FittedTrace) (run : List Step) (t k a b : ℕ) (bs : List Guarded)
    → SomeHits f run t k (break_points t b (map without_conditions bs)) → SomeHits f run t k (break_points t a bs)
unfolding break_points
gdbs_breaks_hit_as_session f run t k a b [] some = some
gdbs_breaks_hit_as_session f run t k a b (x ∷ xs) (inl first) = inl first
gdbs_breaks_hit_as_session f run t k a b (x ∷ xs) (inr later) = inr (gdbs_breaks_hit_as_session f run t k (a + 1) (b + 1) xs later)

own_hit_by_session : (f : FittedTrace) (run : List Step) (t k n : ℕ) (ps : List Numbered) → SomeHits f run t k ps → SomeHits f run t k (own_points n ps)
unfolding own_points
own_hit_by_session f run t k n [] some = some
own_hit_by_session f run t k n (p ∷ ps) (inl first) = inl first
own_hit_by_session f run t k n (p ∷ ps) (inr later) = inr (own_hit_by_session f run t k n ps later)

session_hit_by_own : (f : FittedTrace) (run : List Step) (t k n : ℕ) (ps : List Numbered) → SomeHits f run t k (own_points n ps) → SomeHits f run t k ps
unfolding own_points
session_hit_by_own f run t k n [] some = some
session_hit_by_own f run t k n (p ∷ ps) (inl first) = inl first
session_hit_by_own f run t k n (p ∷ ps) (inr later) = inr (session_hit_by_own f run t k n ps later)

-- breakpoints and a session's points hit in either order, under any numbers
breaks_hit_as_session : (f : FittedTrace) (run : List Step) (t a b c : ℕ) (bs : List Guarded) (ps : List Numbered)
    → HitsAlso f run t (break_points t a bs ++ own_points b ps) (ps ++ break_points t c (map without_conditions bs))
breaks_hit_as_session f run t a b c bs ps k h = hit_if_some_point_hits f run t k (ps ++ break_points t c (map without_conditions bs))
    (elim (append_hits_cases f run t k (break_points t a bs) (own_points b ps) (some_hits_if_hit_by_number f run t k h.0 (break_points t a bs ++ own_points b ps) h.1)) [
      | inl breaks ↦ some_hits_append_right f run t k ps (break_points t c (map without_conditions bs)) (session_breaks_hit_as_gdbs f run t k a c bs breaks)
      | inr own ↦ some_hits_append_left f run t k ps (break_points t c (map without_conditions bs)) (session_hit_by_own f run t k b ps own)
    ])

session_hits_as_breaks : (f : FittedTrace) (run : List Step) (t a b c : ℕ) (bs : List Guarded) (ps : List Numbered)
    → HitsAlso f run t (ps ++ break_points t c (map without_conditions bs)) (break_points t a bs ++ own_points b ps)
session_hits_as_breaks f run t a b c bs ps k h = hit_if_some_point_hits f run t k (break_points t a bs ++ own_points b ps)
    (elim (append_hits_cases f run t k ps (break_points t c (map without_conditions bs))
    (some_hits_if_hit_by_number f run t k h.0 (ps ++ break_points t c (map without_conditions bs)) h.1)) [
      | inl own ↦ some_hits_append_right f run t k (break_points t a bs) (own_points b ps) (own_hit_by_session f run t k b ps own)
      | inr breaks ↦ some_hits_append_left f run t k (break_points t a bs) (own_points b ps) (gdbs_breaks_hit_as_session f run t k a c bs breaks)
    ])

-- gdb's points of thread t without watches, and those of the session, find a stop at the same position
pub upwards_as_session : (run : List Step) (f : FittedTrace) (bs : List Guarded) (own : List Numbered) (t from number : ℕ) (hit : Option Hit)
    → IsFirstHit f run (points_upwards t [] bs own) t from hit
    → (other : Option Hit) × IsFirstHit f run (own ++ break_points t number (map without_conditions bs)) t from other × (position_in hit ≡ position_in other)
unfolding watch_points
upwards_as_session run f bs own t from number hit finds =
    same_hits_found run f (points_upwards t [] bs own) (own ++ break_points t number (map without_conditions bs)) t from Forwards hit
    (breaks_hit_as_session f run t 0 (0 + length bs) number bs own) (session_hits_as_breaks f run t 0 (0 + length bs) number bs own) finds

no_watch_points : (t n : ℕ) → watch_points t n [] ≡ []
unfolding watch_points
no_watch_points t n = refl

downwards_no_watches : (t : ℕ) (bs : List Guarded) (own : List Numbered)
    → points_downwards t [] bs own ≡ break_points t 0 bs ++ own_points (length bs + 0) own
downwards_no_watches t bs own =
    ap (λ (ws : List Numbered). break_points t 0 bs ++ ws ++ own_points (length bs + 0) own) (no_watch_points t (length bs))
    ∙ ap (λ (xs : List Numbered). xs ++ own_points (length bs + 0) own) (append-nil (break_points t 0 bs))

pub downwards_as_session : (run : List Step) (f : FittedTrace) (bs : List Guarded) (own : List Numbered) (t from number : ℕ) (hit : Option Hit)
    → IsLastHit f run (points_downwards t [] bs own) t from hit
    → (other : Option Hit) × IsLastHit f run (own ++ break_points t number (map without_conditions bs)) t from other × (position_in hit ≡ position_in other)
downwards_as_session run f bs own t from number hit finds =
    same_hits_found run f (break_points t 0 bs ++ own_points (length bs + 0) own) (own ++ break_points t number (map without_conditions bs)) t from Backwards hit
    (breaks_hit_as_session f run t 0 (length bs + 0) number bs own) (session_hits_as_breaks f run t 0 (length bs + 0) number bs own)
    (subst (λ (points : List Numbered). IsLastHit f run points t from hit) (downwards_no_watches t bs own) finds)
