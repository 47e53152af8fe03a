-- What a search keeps, from one call to the next.
use Rattle.std.proofs.Common.{◌≡◌, ℕ, ◌<◌, ◌≤◌, Bool, Some, List, ◌∷◌, length, refl, sym, ◌∙◌, subst, arith}
use Rattle.ir_search.specs.declared.found.Pending.{Pending}
use Rattle.ir_search.specs.declared.origin.Origin.{Origin}
use Rattle.ir_search.specs.declared.origin.Refusal.{Refusal}
use Rattle.ir_search.specs.Kept.{IsAllFound, SearchKeeps}
use Rattle.ir_search.specs.Origins.{AreReached}
use Rattle.ir_search.specs.Shape.{Shape, HasGrown}
use Rattle.ir_search.specs.TurnSoFar.{IsTurnSoFar, IsAfter}
use Rattle.ir_search.proofs.Reached.{adds_reflexive, adds_transitive, reached_if_notes_kept}
use Rattle.ir_search.proofs.TurnSoFar.{Joined, joined_nodes_within, reached_after_going_on, adds_after_going_on}

pub grown_reflexive : {Made Node : Type 0} (a : Shape Made Node) → HasGrown a a
grown_reflexive a = record {
  grown = omega arith;
  kept = λ t way v to is. is;
  stay = λ v x is. is;
  limit = refl;
  origin = refl;
}

pub grown_transitive : {Made Node : Type 0} (a b c : Shape Made Node) → HasGrown a b → HasGrown b c → HasGrown a c
grown_transitive a b c first next = record {
  grown = let l = first.grown in let m = next.grown in omega (arith, l, m);
  kept = λ t way v to is. next.kept t way v to (first.kept t way v to is);
  stay = λ v x is. next.stay v x (first.stay v x is);
  limit = next.limit ∙ first.limit;
  origin = next.origin ∙ first.origin;
}

-- nothing was found yet
pub keeps_at_start : {Made Node Sound : Type 0} (k : ℕ) (a : Shape Made Node) (nodes more : List Origin) (refusals table : List Refusal)
    → IsAllFound a Sound nodes refusals → more ≡ nodes → table ≡ refusals → SearchKeeps k a a Sound nodes more table
keeps_at_start {Made} {Node} {Sound} k a nodes more refusals table all same still =
    subst (λ z. SearchKeeps k a a Sound nodes more z) (sym still) (subst (λ z. SearchKeeps k a a Sound nodes z refusals) (sym same) (record {
      reached = all.reached;
      adds = adds_reflexive k nodes;
      few = let e = all.nodes in omega (arith, e);
      grows = grown_reflexive a;
      room = all.room;
      sound = all.sound;
    }))

-- no node was found, though the graph has grown
pub keeps_without_nodes : {Made Node Sound : Type 0} (k : ℕ) (a b : Shape Made Node) (nodes : List Origin) (refusals : List Refusal)
    → AreReached a.noted refusals nodes → length nodes ≡ a.size → HasGrown a b → b.size ≤ b.most → Sound → SearchKeeps k a b Sound nodes nodes refusals
keeps_without_nodes k a b nodes refusals reached size grows room sound = record {
  reached = reached_if_notes_kept a.noted b.noted refusals refusals nodes grows.kept (λ v x is. is) reached;
  adds = adds_reflexive k nodes;
  few = let l = grows.grown in omega (arith, size, l);
  grows = grows;
  room = room;
  sound = sound;
}

-- what is kept twice
pub keeps_transitive : {Made Node Old Sound : Type 0} (k : ℕ) (a b c : Shape Made Node) (nodes more new : List Origin)
    (refusals table : List Refusal) → SearchKeeps k a b Old nodes more refusals → SearchKeeps k b c Sound more new table
    → SearchKeeps k a c Sound nodes new table
keeps_transitive k a b c nodes more new refusals table first next = record {
  reached = next.reached;
  adds = adds_transitive k nodes more new first.adds next.adds;
  few = next.few;
  grows = grown_transitive a b c first.grows next.grows;
  room = next.room;
  sound = next.sound;
}

pub keeps_at_equal_level : {Made Node Sound : Type 0} (k n : ℕ) (a b : Shape Made Node) (nodes more : List Origin) (refusals : List Refusal) → k ≡ n
    → SearchKeeps k a b Sound nodes more refusals → SearchKeeps n a b Sound nodes more refusals
keeps_at_equal_level {Made} {Node} {Sound} k n a b nodes more refusals same keeps =
    subst (λ z. SearchKeeps z a b Sound nodes more refusals) same keeps

-- each node is found again, where there are as many as were found
pub all_found_if_kept : {Made Node Sound : Type 0} (k : ℕ) (a b : Shape Made Node) (nodes more : List Origin) (refusals : List Refusal)
    → SearchKeeps k a b Sound nodes more refusals → length more ≡ b.size → IsAllFound b Sound more refusals
all_found_if_kept k a b nodes more refusals keeps size = record {
  reached = keeps.reached;
  nodes = size;
  room = keeps.room;
  sound = keeps.sound;
}

-- a thread went on by one way from a node to another, which may be one more
pub keeps_after_going_on : {Made Node Sound : Type 0} (a b : Shape Made Node) (opened : List Bool) (nodes new : List Origin)
    (refusals table : List Refusal) (here : Pending) (pending : List Pending) (refused : Bool) (next : Pending)
    → IsTurnSoFar a.noted here.origin.thread here.origin.level opened nodes refusals (here ∷ pending) → HasGrown a b
    → IsAfter refusals table here.origin refused next.origin → b.noted here.origin.thread refused here.node ≡ Some (Some next.node)
    → Joined nodes new next → length nodes ≡ a.size → next.node < b.size → b.size ≤ b.most → Sound
    → SearchKeeps here.origin.level a b Sound nodes new table
keeps_after_going_on a b opened nodes new refusals table here pending refused next turn grows after is j size less room sound = record {
  reached = reached_after_going_on a.noted b.noted opened nodes new refusals table here pending refused next turn grows.kept after is j;
  adds = adds_after_going_on a.noted b.noted opened nodes new refusals table here pending refused next turn grows.kept after is j;
  few = joined_nodes_within nodes new next b.size j (let l = grows.grown in omega (arith, size, l)) less;
  grows = grows;
  room = room;
  sound = sound;
}
