-- Ways to marked nodes.
use Rattle.std.proofs.Common.{◌≡◌, ℕ, ◌+◌, ◌<◌, ◌≤◌, Bool, true, false, true≢false, Some, List, [], ◌∷◌, inl, inr, length, length-set, get_or, slice_set, refl, sym, ◌∙◌, subst, arith}
use Rattle.std.proofs.lemmas.Bool.{cases_eq}
use Rattle.ir_search.specs.Following.{BothWays, IsNodeOpen, StaysOpen}
use Rattle.ir_search.specs.Ways.{shut, LeadsToMarked, IsMarkedBack, LeadsOver, HasMarked}
use Rattle.ir_search.proofs.Opens.{opening_fewer_shut, stays_open_set_true, opening_cases}
use Rattle.ir_search.proofs.Reached.{slice_get_some_below}

pub marked_has_marked : (noted : ℕ → BothWays) (threads : ℕ) (marks : List Bool) (v : ℕ) → IsNodeOpen marks v → HasMarked noted threads marks v
marked_has_marked noted threads marks v is = (slice_get_some_below marks v true is, [], v, refl, is)

pub has_marked_by_next : (noted : ℕ → BothWays) (threads : ℕ) (marks : List Bool) (v t : ℕ) (refused : Bool) (w : ℕ) → v < length marks → t < threads
    → noted t refused v ≡ Some (Some w) → HasMarked noted threads marks w → HasMarked noted threads marks v
has_marked_by_next noted threads marks v t refused w less few is (l, ts, x, path, open_at) = (less, (t, refused) ∷ ts, x, (w, few, is, l, path), open_at)

-- a way to what has a way
pub has_old_marked_by_new : (noted : ℕ → BothWays) (threads : ℕ) (old new : List Bool) → length new ≡ length old
    → ((v : ℕ) → IsNodeOpen new v → HasMarked noted threads old v) → (v : ℕ) → HasMarked noted threads new v → HasMarked noted threads old v
has_old_marked_by_new noted threads old new same ways v (l, ts, w, path, is) = by ts v l path
  where
    by : (ts : List (ℕ × Bool)) (v : ℕ) → v < length new → LeadsOver noted threads (length new) v ts w → HasMarked noted threads old v
    by [] v l path = subst (HasMarked noted threads old) (sym path) (ways w is)
    by ((t, refused) ∷ ts) v l (x, few, to, less, path) =
        has_marked_by_next noted threads old v t refused x (omega (arith, l, same)) few to (by ts x less path)

-- who has a way is marked, where marks are passed on back
pub closed_back_is_marked : (noted : ℕ → BothWays) (threads : ℕ) (old new : List Bool) → length new ≡ length old → StaysOpen old new
    → IsMarkedBack noted threads new → (v : ℕ) → HasMarked noted threads old v → IsNodeOpen new v
closed_back_is_marked noted threads old new same stays back v (l, ts, w, path, is) = by ts v l path
  where
    by : (ts : List (ℕ × Bool)) (v : ℕ) → v < length old → LeadsOver noted threads (length old) v ts w → IsNodeOpen new v
    by [] v l path = subst (IsNodeOpen new) (sym path) (stays w is)
    by ((t, refused) ∷ ts) v l (x, few, to, less, path) = back v (omega (arith, l, same)) (t, refused, x, few, to, by ts x less path)

-- A sweep as far as it has come, over the last k nodes: these were the marks at first, and those are they now.
pub record Sweeping (noted : ℕ → BothWays) (threads : ℕ) (old marks : List Bool) (changed : Bool) (k : ℕ) : Type 0 where
  pub nodes : length marks ≡ length old
  pub stays : StaysOpen old marks
  pub ways : (v : ℕ) → IsNodeOpen marks v → HasMarked noted threads old v
  pub most : shut marks ≤ shut old
  pub less : changed ≡ true → shut marks < shut old
  pub back : changed ≡ false → (v : ℕ) → length marks ≤ v + k → v < length marks → LeadsToMarked noted threads marks v → IsNodeOpen marks v

pub sweeping_at_start : (noted : ℕ → BothWays) (threads : ℕ) (marks : List Bool) → Sweeping noted threads marks marks false 0
sweeping_at_start noted threads marks = record {
  nodes = refl;
  stays = λ v is. is;
  ways = λ v is. marked_has_marked noted threads marks v is;
  most = omega arith;
  less = λ is. absurd (true≢false (sym is));
  back = λ same v low less. absurd (omega (arith, low, less));
}

-- a node is marked
pub sweeping_step_with_mark : (noted : ℕ → BothWays) (threads : ℕ) (old marks : List Bool) (changed : Bool) (k node : ℕ) (d : Bool)
    → Sweeping noted threads old marks changed k → node < length marks → get_or marks node d ≡ false → LeadsToMarked noted threads marks node
    → Sweeping noted threads old (slice_set marks node true) true (k + 1)
sweeping_step_with_mark noted threads old marks changed k node d s l unmarked (t, refused, w, few, to, is) =
    let fewer = opening_fewer_shut marks node d l unmarked in record {
      nodes = length-set marks node true ∙ s.nodes;
      stays = stays_open_set_true old marks node l s.stays;
      ways = λ v now. elim (opening_cases marks node v now) [
        | inl before ↦ s.ways v before
        | inr same ↦ subst (HasMarked noted threads old) (sym same)
            (has_marked_by_next noted threads old node t refused w (let a = s.nodes in omega (arith, a, l)) few to (s.ways w is))
      ];
      most = let a = s.most in omega (arith, a, fewer);
      less = λ _. let a = s.most in omega (arith, a, fewer);
      back = λ none. absurd (true≢false none);
    }

-- a node stays as it is
pub sweeping_without_mark : (noted : ℕ → BothWays) (threads : ℕ) (old marks : List Bool) (changed : Bool) (k node : ℕ)
    → Sweeping noted threads old marks changed k → node + (k + 1) ≡ length marks → (LeadsToMarked noted threads marks node → IsNodeOpen marks node)
    → Sweeping noted threads old marks changed (k + 1)
sweeping_without_mark noted threads old marks changed k node s here is = record {
  nodes = s.nodes;
  stays = s.stays;
  ways = s.ways;
  most = s.most;
  less = s.less;
  back = λ none v low less before. elim (cases_eq v node) [
    | inl same ↦ subst (IsNodeOpen marks) (sym same) (is (subst (LeadsToMarked noted threads marks) same before))
    | inr other ↦ s.back none v (omega (arith, low, here, other)) less before
  ];
}
