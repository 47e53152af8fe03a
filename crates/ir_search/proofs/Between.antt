-- A search between two levels.
use Rattle.std.proofs.Common.{◌≡◌, ℕ, suc, zero, ◌+◌, ◌-◌, ◌<◌, ◌≤◌, Bool, Some, List, [], ◌∷◌, length, refl, sym, ap, ◌∙◌, subst, arith}
use Rattle.std.specs.Prelude.{slice_get, replicate}
use Rattle.std.proofs.lemmas.Option.{same_Some}
use Rattle.ir_search.specs.declared.origin.Level.{Level}
use Rattle.ir_search.specs.declared.origin.Origin.{Origin}
use Rattle.ir_search.specs.declared.origin.Refusal.{Refusal}
use Rattle.ir_search.specs.Following.{BothWays, Keeps, IsNodeOpen}
use Rattle.ir_search.specs.Levels.{AllFollowed, AllOpen, AreRowsWithin, AreAsked, AreGoneOver, LevelEnds}
use Rattle.ir_search.specs.Origins.{Whole, BeginsAt, Adds, IsReachedBy, AreReached, first_origin}
use Rattle.ir_search.specs.Searching.{HasGone, IsBetween}
use Rattle.ir_search.proofs.Gone.{asked_all, gone_over_if_kept, next_level_gone_over, levels_bounded_by_adds, next_level_begins_added, replicated_row_is_empty}
use Rattle.ir_search.proofs.Reached.{slice_get_some_below, rising_after_level}

module _ (noted more : ℕ → BothWays) (size : ℕ) (nodes new : List Origin) (refusals table : List Refusal) (opened : List (List Bool)) (level : Level)
    (between : IsBetween noted size nodes refusals opened level) (kept : (t : ℕ) (refused : Bool) → Keeps (noted t refused) (more t refused)) (adds : Adds level.number nodes new)
    (reached : AreReached more table new) where
  levels_now : (v : ℕ) (n : Origin) → slice_get nodes v ≡ Some n → n.level ≤ level.number
  levels_now v n is = let a = between.ends.levels v n is in omega (arith, a)

  -- part of a level more
  pub has_part : (threads bigger : ℕ) → threads ≡ length opened → length new ≤ bigger → HasGone more threads bigger new table level.number
  has_part threads bigger same few = record {
    gone = subst (λ z. AreGoneOver more z new level.number) (sym same) (gone_over_if_kept noted more (length opened) nodes new level.number kept adds.stays between.has.gone);
    reached = reached;
    rising = rising_after_level level.number nodes new between.has.rising levels_now adds;
    most = levels_bounded_by_adds level.number nodes new levels_now adds;
    first = adds.stays 0 first_origin between.has.first;
    few = few;
  }

  -- a level more
  pub between_more : (bigger : ℕ) (rows : List (List Bool)) (next : Level) → AllFollowed more rows → AllOpen rows 0 level.until (length opened)
      → AreRowsWithin rows (length new) → length rows ≡ length opened → length new ≡ bigger → next.number ≡ level.number + 1
      → next.first ≡ level.until → next.until ≡ length new → level.first < level.until → IsBetween more bigger new table rows next
  between_more bigger rows next followed opens within same all number first until some =
      let ends : LevelEnds more (length opened) new rows (length nodes) level.number = record {
        threads_are = same;
        followed = followed;
        opens = λ t row few is w low less. opens t row few is w low (let u = between.until in omega (arith, less, u));
        within = within;
        levels = levels_bounded_by_adds level.number nodes new levels_now adds;
      } in
      let gone : AreGoneOver more (length opened) new (suc level.number) =
      next_level_gone_over noted more (length opened) nodes new rows level.number kept adds between.has.gone
      (slice_get_some_below nodes 0 first_origin between.has.first) ends in
      let one : suc level.number ≡ next.number = (let a = number in omega (arith, a)) in
      let less_one : level.number ≡ next.number - 1 = (let a = number in omega (arith, a)) in
      let at : length nodes ≡ next.first = sym between.until ∙ sym first in
      record {
        has = record {
          gone = subst (λ z. AreGoneOver more z new next.number) (sym same) (subst (AreGoneOver more (length opened) new) one gone);
          reached = reached;
          rising = rising_after_level level.number nodes new between.has.rising levels_now adds;
          most = λ v n is. let a = levels_bounded_by_adds level.number nodes new levels_now adds v n is in omega (arith, a, one);
          first = adds.stays 0 first_origin between.has.first;
          few = omega (arith, all);
        };
        ends = subst (λ z. LevelEnds more z new rows next.first (next.number - 1)) (sym same)
            (subst (λ z. LevelEnds more (length opened) new rows z (next.number - 1)) at
            (subst (LevelEnds more (length opened) new rows (length nodes)) less_one ends));
        stands = λ w low less. subst (λ z. BeginsAt new z w) one
            (next_level_begins_added level.number nodes new adds w (omega (arith, low, at)) (omega (arith, less, until)));
        all = all;
        until = until;
        order = let a = adds.longer in omega (arith, a, at, until);
        number = let a = between.number in omega (arith, a, number, first, some);
      }

-- what is between two levels of which the next has no node is finished
pub empty_level_all_asked : (noted : ℕ → BothWays) (size : ℕ) (nodes : List Origin) (refusals : List Refusal) (opened : List (List Bool)) (level : Level)
    → IsBetween noted size nodes refusals opened level → level.until ≤ level.first → AreAsked noted (length opened) size
empty_level_all_asked noted size nodes refusals opened level between over =
    asked_all noted (length opened) nodes opened level.first (level.number - 1) between.ends
    (let a = between.until in let b = between.order in omega (arith, a, b, over)) size between.all

-- before the first level there is one node, and nothing is opened
pub between_levels_at_start : (noted : ℕ → BothWays) (threads : ℕ) (refusals : List Refusal)
    → IsBetween noted 1 (first_origin ∷ []) refusals (replicate threads []) (record { number = 0; first = 0; until = 1 })
between_levels_at_start noted threads refusals = record {
  has = record {
    gone = tt;
    reached = λ v n is. reached v n is;
    rising = λ u v a b at there order. let x = level_is_first u a at in let y = level_is_first v b there in omega (arith, x, y);
    most = λ v n is. let x = level_is_first v n is in omega (arith, x);
    first = refl;
    few = omega arith;
  };
  ends = record {
    threads_are = refl;
    followed = λ t row is v o. absurd (no_node_open row (replicated_row_is_empty threads t row is) v o);
    opens = λ t row few is v low less. absurd (omega (arith, less));
    within = λ t row is. let e = ap length (replicated_row_is_empty threads t row is) in omega (arith, e);
    levels = λ v n is. let x = level_is_first v n is in omega (arith, x);
  };
  stands = λ v low less. omega (arith, less);
  all = refl;
  until = refl;
  order = omega arith;
  number = omega arith;
}
  where
    level_is_first : (v : ℕ) (n : Origin) → slice_get (first_origin ∷ []) v ≡ Some n → n.level ≡ 0
    level_is_first zero n is = ap (λ z. z.level) (sym (same_Some first_origin n is))
    level_is_first (suc v) n is = absurd (cc is)

    reached : AreReached noted refusals (first_origin ∷ [])
    reached zero n is =
        subst (IsReachedBy noted refusals (first_origin ∷ []) 0) (same_Some first_origin n is) (refl, [], ([], Whole, refl), refl)
    reached (suc v) n is = absurd (cc is)

    no_node_open : (row : List Bool) → row ≡ [] → (v : ℕ) → IsNodeOpen row v → ⊥
    no_node_open row none v o = cc (subst (λ z. IsNodeOpen z v) none o)
