-- What the stub always holds, with a point more or fewer.
use Rattle.std.proofs.Common.{◌≡◌, ◌<◌, ◌≤◌, ◌+◌, ◌*◌, ◌∙◌, ℕ, suc, Some, Bool, true, false, true≢false, not, ltb, leb, List, [], ◌∷◌, ◌++◌, length, refl, sym, ap, arith, ltb-true, leb-true}
use Rattle.std.specs.Prelude.{◌&&◌, ◌||◌, nat_lt, find, is_some, if◌then◌else◌}
use Rattle.std.specs.List.{AllByRecursion, filter}
use Rattle.std.proofs.lemmas.List.Elements.{filter-append}
use Rattle.ir_lemmas.proofs.CallerLemmas.{all_of_push, length_of_append_item, conjuncts_are_true}
use Rattle.ir_image.specs.Guest.{Guest, object_count, most_objects}
use Rattle.ir_mach.specs.Core.{memory_start, memory_size}
use Rattle.ir_mach.specs.Execution.{lies_in_memory}
use Rattle.ir_hits.specs.Hits.{objects_start, object_size}
use Rattle.ir_debug.proofs.CallerLemmas.{filter_keeps_all, filter_is_not_longer}
use Rattle.ir_gdb.specs.declared.point.Breakpoint.{Breakpoint}
use Rattle.ir_gdb.specs.Guards.{Guarded}
use Rattle.ir_gdb.specs.declared.point.Watched.{Watched}
use Rattle.ir_gdb.specs.Stub.{Stub, IsStub, IsWatched, is_shared_break, shared_breaks, most_stub_points, most_watched}
use Rattle.ir_gdb.specs.Setting.{is_code_word, lies_in_objects, can_watch, is_same_break, is_same_watch, has_break, breaks_without, watches_without, room_setting, break_setting}
use Rattle.ir_gdb.specs.declared.point.Setting.{Setting}
use Rattle.ir_gdb.specs.declared.point.Setting.TheVariants as setting

-- ---- a point more

pub stub_with_break_is_stub : (s : Stub) (b : Guarded) → IsStub s → length s.breaks + length s.watches < most_stub_points
    → IsStub (record s { breaks = s.breaks ++ b ∷ [] })
stub_with_break_is_stub s b is room = record {
  general = is.general;
  chosen = is.chosen;
  current = is.current;
  told = is.told;
  watches = is.watches;
  few = let more = length_of_append_item s.breaks b in omega (arith, more, room);
}

pub each_of_three_is_true : (a b c : Bool) → (a && (b && c)) ≡ true → (a ≡ true) × (b ≡ true) × (c ≡ true)
each_of_three_is_true true true true e = (refl, refl, refl)
each_of_three_is_true true true false e = absurd cc
each_of_three_is_true true false c e = absurd cc
each_of_three_is_true false b c e = absurd cc

-- where bytes lie that can be watched
record IsPlaced (w : Watched) : Type 0 where
  low : memory_start ≤ w.address
  high : w.address + w.size ≤ objects_start + object_size * most_objects
  own : is_shared_break w ≡ false → w.address + w.size ≤ memory_start + memory_size

placed_in_memory : (w : Watched) → lies_in_memory w.size w.address ≡ true → IsPlaced w
placed_in_memory w is =
    let both = conjuncts_are_true (leb memory_start w.address) (leb (w.address + w.size) (memory_start + memory_size)) is in
    let low = leb-true memory_start w.address both.0 in
    let high = leb-true (w.address + w.size) (memory_start + memory_size) both.1 in
    record { low = low; high = omega (arith, high); own = λ private. high }

placed_in_objects : (g : Guest) (w : Watched) → object_count g ≤ most_objects → lies_in_objects g w.size w.address ≡ true → IsPlaced w
placed_in_objects g w few is =
    let both = conjuncts_are_true (leb objects_start w.address) (leb (w.address + w.size) (objects_start + object_size * object_count g)) is in
    let low = leb-true objects_start w.address both.0 in
    let high = leb-true (w.address + w.size) (objects_start + object_size * object_count g) both.1 in
    record { low = omega (arith, low); high = omega (arith, high, few); own = λ private. absurd (true≢false (sym both.0 ∙ private)) }

placed_in_memory_or_objects : (g : Guest) (w : Watched) (a b : Bool) → object_count g ≤ most_objects → lies_in_memory w.size w.address ≡ a
    → lies_in_objects g w.size w.address ≡ b → (a || b) ≡ true → IsPlaced w
placed_in_memory_or_objects g w true b few first second one = placed_in_memory w first
placed_in_memory_or_objects g w false true few first second one = placed_in_objects g w few second
placed_in_memory_or_objects g w false false few first second one = absurd cc

pub watched_if_can_watch : (g : Guest) (w : Watched) → object_count g ≤ most_objects → can_watch g w ≡ true → IsWatched w
watched_if_can_watch g w few can =
    let each = each_of_three_is_true (ltb 0 w.size) (leb w.size most_watched) (lies_in_memory w.size w.address || lies_in_objects g w.size w.address) can in
    let placed = placed_in_memory_or_objects g w (lies_in_memory w.size w.address) (lies_in_objects g w.size w.address) few refl refl each.2 in
    record {
      some = ltb-true 0 w.size each.0;
      few = leb-true w.size most_watched each.1;
      low = placed.low;
      high = placed.high;
      own = placed.own;
    }

pub stub_with_watch_is_stub : (s : Stub) (w : Watched) → IsStub s → object_count s.desk.fitted.guest ≤ most_objects
    → can_watch s.desk.fitted.guest w ≡ true → length s.breaks + length s.watches < most_stub_points
    → IsStub (record s { watches = s.watches ++ w ∷ [] })
stub_with_watch_is_stub s w is objects can room = record {
  general = is.general;
  chosen = is.chosen;
  current = is.current;
  told = is.told;
  watches = all_of_push IsWatched s.watches w is.watches (watched_if_can_watch s.desk.fitted.guest w objects can);
  few = let more = length_of_append_item s.watches w in omega (arith, more, room);
}

-- ---- a point fewer

pub stub_without_break_is_stub : (s : Stub) (b : Breakpoint) → IsStub s → IsStub (record s { breaks = breaks_without s.breaks b })
stub_without_break_is_stub s b is = record {
  general = is.general;
  chosen = is.chosen;
  current = is.current;
  told = is.told;
  watches = is.watches;
  few = let less = filter_is_not_longer (λ x. not (is_same_break x.point b)) s.breaks in let all = is.few in omega (arith, less, all);
}

pub stub_without_watch_is_stub : (s : Stub) (w : Watched) → IsStub s → IsStub (record s { watches = watches_without s.watches w })
stub_without_watch_is_stub s w is = record {
  general = is.general;
  chosen = is.chosen;
  current = is.current;
  told = is.told;
  watches = filter_keeps_all IsWatched (λ x. not (is_same_watch x w)) s.watches is.watches;
  few = let less = filter_is_not_longer (λ x. not (is_same_watch x w)) s.watches in let all = is.few in omega (arith, less, all);
}

-- one that is there takes no room
shorter_without_break : (bs : List Guarded) (p : Breakpoint) → has_break bs p ≡ true → suc (length (breaks_without bs p)) ≤ length bs
shorter_without_break [] p there = absurd (true≢false (sym there))
shorter_without_break (x ∷ bs) p there = by (shorter_without_break bs p) (is_same_break x.point p) refl
  where
    rest : List Guarded
    rest = breaks_without bs p

    by : (has_break bs p ≡ true → suc (length (breaks_without bs p)) ≤ length bs) → (b : Bool) → is_same_break x.point p ≡ b
        → suc (length (breaks_without (x ∷ bs) p)) ≤ length (x ∷ bs)
    by shorter true is =
        let dropped : length (breaks_without (x ∷ bs) p) ≡ length rest = ap (λ c. length (if not c then x ∷ rest else rest)) is in
        let less = filter_is_not_longer (λ y. not (is_same_break y.point p)) bs in
        omega (arith, dropped, less)
    by shorter false is =
        let kept : length (breaks_without (x ∷ bs) p) ≡ suc (length rest) = ap (λ c. length (if not c then x ∷ rest else rest)) is in
        let found : has_break bs p ≡ true = sym (ap (λ c. is_some (if c then Some x else find (λ y. is_same_break y.point p) bs)) is) ∙ there in
        let less = shorter found in
        omega (arith, kept, less)

pub stub_with_replaced_break_is_stub : (s : Stub) (b : Guarded) → IsStub s → has_break s.breaks b.point ≡ true
    → IsStub (record s { breaks = breaks_without s.breaks b.point ++ b ∷ [] })
stub_with_replaced_break_is_stub s b is there = record {
  general = is.general;
  chosen = is.chosen;
  current = is.current;
  told = is.told;
  watches = is.watches;
  few =
      let more = length_of_append_item (breaks_without s.breaks b.point) b in
      let less = shorter_without_break s.breaks b.point there in
      let all = is.few in
      omega (arith, more, less, all);
}

-- ---- the watches of the objects

pub shared_are_watched : (ws : List Watched) → AllByRecursion IsWatched ws → AllByRecursion IsWatched (shared_breaks ws)
shared_are_watched ws all = filter_keeps_all IsWatched is_shared_break ws all

pub shared_are_not_more : (ws : List Watched) → length (shared_breaks ws) ≤ length ws
shared_are_not_more ws = filter_is_not_longer is_shared_break ws

pub shared_watches_are_few : (n : ℕ) (ws shared : List Watched) → shared ≡ shared_breaks ws → n + length ws ≤ most_stub_points → n + length shared ≤ most_stub_points
shared_watches_are_few n ws shared same few = let less = shared_are_not_more ws in let as_many = ap length same in omega (arith, less, few, as_many)

abbrev added_if : Bool → Watched → List Watched
added_if true w = w ∷ []
added_if false w = []

shared_of_single_watch : (w : Watched) (b : Bool) → is_shared_break w ≡ b → shared_breaks (w ∷ []) ≡ added_if b w
shared_of_single_watch w b is = ap (λ c. if c then w ∷ [] else []) is ∙ by b
  where
    by : (b : Bool) → (if b then w ∷ [] else []) ≡ added_if b w
    by true = refl
    by false = refl

pub shared_of_more_shared : (ws shared : List Watched) (w : Watched) → shared ≡ shared_breaks ws → is_shared_break w ≡ true
    → shared ++ w ∷ [] ≡ shared_breaks (ws ++ w ∷ [])
shared_of_more_shared ws shared w same is =
    ap (λ xs. xs ++ w ∷ []) same ∙ ap (λ xs. shared_breaks ws ++ xs) (sym (shared_of_single_watch w true is)) ∙ sym (filter-append is_shared_break ws (w ∷ []))

append_none : (ws : List Watched) → ws ++ [] ≡ ws
append_none [] = refl
append_none (w ∷ ws) = ap (λ xs. w ∷ xs) (append_none ws)

pub shared_of_more_private : (ws shared : List Watched) (w : Watched) → shared ≡ shared_breaks ws → is_shared_break w ≡ false → shared ≡ shared_breaks (ws ++ w ∷ [])
shared_of_more_private ws shared w same is =
    same ∙ sym (append_none (shared_breaks ws)) ∙ ap (λ xs. shared_breaks ws ++ xs) (sym (shared_of_single_watch w false is)) ∙ sym (filter-append is_shared_break ws (w ∷ []))

filter_keeps_passing_head : (r : Watched → Bool) (w : Watched) (xs : List Watched) → r w ≡ true → filter r (w ∷ xs) ≡ w ∷ filter r xs
filter_keeps_passing_head r w xs is = ap (λ b. if b then w ∷ filter r xs else filter r xs) is

filter_drops_failing_head : (r : Watched → Bool) (w : Watched) (xs : List Watched) → r w ≡ false → filter r (w ∷ xs) ≡ filter r xs
filter_drops_failing_head r w xs isnt = ap (λ b. if b then w ∷ filter r xs else filter r xs) isnt

filters_commute_on_cons : (p q : Watched → Bool) (w : Watched) (ws : List Watched) (a b : Bool) → p w ≡ a → q w ≡ b
    → filter p (filter q ws) ≡ filter q (filter p ws) → filter p (filter q (w ∷ ws)) ≡ filter q (filter p (w ∷ ws))
filters_commute_on_cons p q w ws true true one two rest =
    ap (filter p) (filter_keeps_passing_head q w ws two) ∙ filter_keeps_passing_head p w (filter q ws) one ∙ ap (λ xs. w ∷ xs) rest
    ∙ sym (ap (filter q) (filter_keeps_passing_head p w ws one) ∙ filter_keeps_passing_head q w (filter p ws) two)
filters_commute_on_cons p q w ws true false one two rest =
    ap (filter p) (filter_drops_failing_head q w ws two) ∙ rest ∙ sym (ap (filter q) (filter_keeps_passing_head p w ws one) ∙ filter_drops_failing_head q w (filter p ws) two)
filters_commute_on_cons p q w ws false true one two rest =
    ap (filter p) (filter_keeps_passing_head q w ws two) ∙ filter_drops_failing_head p w (filter q ws) one ∙ rest ∙ sym (ap (filter q) (filter_drops_failing_head p w ws one))
filters_commute_on_cons p q w ws false false one two rest =
    ap (filter p) (filter_drops_failing_head q w ws two) ∙ rest ∙ sym (ap (filter q) (filter_drops_failing_head p w ws one))

filters_commute : (p q : Watched → Bool) (ws : List Watched) → filter p (filter q ws) ≡ filter q (filter p ws)
filters_commute p q [] = refl
filters_commute p q (w ∷ ws) = filters_commute_on_cons p q w ws (p w) (q w) refl refl (filters_commute p q ws)

pub shared_of_fewer : (ws shared : List Watched) (w : Watched) → shared ≡ shared_breaks ws → watches_without shared w ≡ shared_breaks (watches_without ws w)
shared_of_fewer ws shared w same = ap (λ xs. watches_without xs w) same ∙ filters_commute (λ x. not (is_same_watch x w)) is_shared_break ws

pub room_without_break : (s : Stub) (p : Breakpoint) → IsStub s → has_break s.breaks p ≡ true → length (breaks_without s.breaks p) < most_stub_points
room_without_break s p is there =
    let less = shorter_without_break s.breaks p there in
    let all = is.few in
    omega (arith, less, all)

room_is_not_there : (b : Bool) → (if b then setting.New else setting.Full) ≡ setting.There → ⊥
room_is_not_there true is = absurd cc
room_is_not_there false is = absurd cc

pub break_is_there : (s : Stub) (p : Breakpoint) (set : Setting) → set ≡ break_setting s p → set ≡ setting.There → has_break s.breaks p ≡ true
break_is_there s p set is there = by (is_code_word s.desk.fitted.guest p.address) (has_break s.breaks p) refl (sym is ∙ there)
  where
    by : (code found : Bool) → has_break s.breaks p ≡ found → (if code then room_setting s found else setting.BadAddress) ≡ setting.There → has_break s.breaks p ≡ true
    by true true same is = same
    by true false same is = absurd (room_is_not_there (nat_lt (length s.breaks + length s.watches) most_stub_points) is)
    by false found same is = absurd cc
