-- Points as those of one search.
use Rattle.std.proofs.Common.{◌≡◌, ◌<◌, ◌≤◌, ◌+◌, ◌-◌, ◌*◌, ◌/◌, ◌%◌, ◌∙◌, ℕ, zero, suc, List, [], ◌∷◌, ◌++◌, length, refl, sym, ap, subst, arith, append_assoc}
use Rattle.std.specs.List.{AllByRecursion}
use Rattle.std.proofs.lemmas.Bool.Decides.{nat_tests}
use Rattle.ir_mach.specs.Core.{memory_start, memory_size}
use Rattle.ir_command.specs.declared.command.Point.TheVariants.{Watch}
use Rattle.ir_hits.specs.Hits.{Numbered, objects_start}
use Rattle.ir_hits.specs.Watchable.{AreWatchable}
use Rattle.ir_gdb.specs.declared.point.Watched.{Watched}
use Rattle.ir_gdb.specs.Stub.{IsWatched}
use Rattle.ir_gdb.specs.Guards.{Guarded}
use Rattle.ir_gdb.specs.Points.{word_points, watched_words, watch_points, break_points, own_points, points_upwards, points_downwards}

-- ---- words, one by one

pub word_points_cons : (t number n address : ℕ) → (n ≡ 0 → ⊥)
    → word_points t number n address ≡ record { number = number; point = Watch t address } ∷ word_points t number (n - 1) (address + 4)
unfolding word_points
word_points_cons t number zero address some = absurd (some refl)
word_points_cons t number (suc n) address some =
    let less : n ≡ suc n - 1 = omega arith in
    ap (λ k. record { number = number; point = Watch t address } ∷ word_points t number k (address + 4)) less

pub append_push_is_cons : (old items new tail whole : List Numbered) (x : Numbered) → items ≡ old ++ x ∷ [] → whole ≡ x ∷ tail → new ≡ items ++ tail
    → new ≡ old ++ whole
append_push_is_cons old items new tail whole x pushed is put =
    put ∙ ap (λ xs. xs ++ tail) pushed ∙ append_assoc old (x ∷ []) tail ∙ ap (λ xs. old ++ xs) (sym is)

-- ---- watched words below the objects' are words of private memory

watchable_append : (xs ys : List Numbered) → AreWatchable xs → AreWatchable ys → AreWatchable (xs ++ ys)
watchable_append [] ys first rest = rest
watchable_append (x ∷ xs) ys first rest = (first.0, watchable_append xs ys first.1 rest)

word_points_watchable : (t number n address : ℕ) → address % 4 ≡ 0 → memory_start ≤ address
    → (address < objects_start → address + 4 * n ≤ memory_start + memory_size)
    → AreWatchable (word_points t number n address)
unfolding word_points
word_points_watchable t number zero address aligned low high = tt
word_points_watchable t number (suc n) address aligned low high = (
  λ own. record { aligned = aligned; low = low; high = let within = high own in omega (arith, within) },
  word_points_watchable t number n (address + 4) (omega (arith, aligned)) (omega (arith, low)) (λ own. let within = high (omega (arith, own)) in omega (arith, within)),
)

-- the words of a watch that isn't of the objects end where private memory does, or before
words_end_in_memory : (w : Watched) → IsWatched w → w.address / 4 * 4 < objects_start → w.address / 4 * 4 + 4 * watched_words w ≤ memory_start + memory_size
words_end_in_memory w is less =
    let under : w.address < objects_start = omega (arith, less) in
    let own = is.own (grind (arith, nat_tests, under)) in
    let low = is.low in
    omega (arith, low, own)

watches_are_watchable : (t number : ℕ) (ws : List Watched) → AllByRecursion IsWatched ws → AreWatchable (watch_points t number ws)
unfolding watch_points
watches_are_watchable t number [] all = tt
watches_are_watchable t number (w ∷ ws) all =
    let first = all.0 in
    watchable_append (word_points t number (watched_words w) (w.address / 4 * 4)) (watch_points t (number + 1) ws)
    (word_points_watchable t number (watched_words w) (w.address / 4 * 4) (omega arith) (omega (arith, first.low)) (words_end_in_memory w first))
    (watches_are_watchable t (number + 1) ws all.1)

breaks_are_watchable : (t place : ℕ) (bs : List Guarded) → AreWatchable (break_points t place bs)
unfolding break_points
breaks_are_watchable t place [] = tt
breaks_are_watchable t place (b ∷ bs) = (tt, breaks_are_watchable t (place + 1) bs)

own_are_watchable : (number : ℕ) (ps : List Numbered) → AreWatchable ps → AreWatchable (own_points number ps)
unfolding own_points
own_are_watchable number [] all = tt
own_are_watchable number (p ∷ ps) all = (all.0, own_are_watchable number ps all.1)

pub put_are_watchable : (items : List Numbered) (t : ℕ) (ws : List Watched) → items ≡ watch_points t 0 ws → AllByRecursion IsWatched ws → AreWatchable items
put_are_watchable items t ws is all = subst AreWatchable (sym is) (watches_are_watchable t 0 ws all)

pub upwards_are_watchable : (items : List Numbered) (t : ℕ) (ws : List Watched) (bs : List Guarded) (own : List Numbered)
    → items ≡ points_upwards t ws bs own → AllByRecursion IsWatched ws → AreWatchable own → AreWatchable items
upwards_are_watchable items t ws bs own is all mine =
    let first = watchable_append (watch_points t 0 ws) (break_points t (length ws) bs) (watches_are_watchable t 0 ws all) (breaks_are_watchable t (length ws) bs) in
    subst AreWatchable (sym is) (watchable_append (watch_points t 0 ws ++ break_points t (length ws) bs) (own_points (length ws + length bs) own) first
    (own_are_watchable (length ws + length bs) own mine))

pub downwards_are_watchable : (items : List Numbered) (t : ℕ) (ws : List Watched) (bs : List Guarded) (own : List Numbered)
    → items ≡ points_downwards t ws bs own → AllByRecursion IsWatched ws → AreWatchable own → AreWatchable items
downwards_are_watchable items t ws bs own is all mine =
    let first = watchable_append (break_points t 0 bs) (watch_points t (length bs) ws) (breaks_are_watchable t 0 bs) (watches_are_watchable t (length bs) ws all) in
    subst AreWatchable (sym is) (watchable_append (break_points t 0 bs ++ watch_points t (length bs) ws) (own_points (length bs + length ws) own) first
    (own_are_watchable (length bs + length ws) own mine))
