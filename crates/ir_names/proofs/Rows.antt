-- Names that are looked up and added.
use Rattle.std.proofs.Common.{◌≡◌, Bool, true, false, cond, ℕ, List, [], ◌∷◌, ◌++◌, map, refl, sym, ap, ◌∙◌, Bor}
use Rattle.std.specs.Map.{lookup}
use Rattle.std.specs.Prelude.{Option, Some, None, option_map}
use Rattle.std.specs.Option.{is_some}
use Rattle.ir_names.specs.Lines.{with_row}
use Rattle.ir_names.specs.Things.{NameTable, is_same_thing, name_among}
use Rattle.ir_names.specs.declared.thing.Thing.{Thing}
use Rattle.ir_names.specs.declared.thing.Thing.TheVariants.{Thread, Object, Word, Address}
use Rattle.ir_names.specs.contracts.thing.ThingPartialEq.TheImpl as thing_eq

-- a thing is compared by its kind and its numbers
same_thing : (a b : Thing) → (thing_eq.ghosts).eq a b ≡ is_same_thing a b
same_thing (Thread a) (Thread b) = refl
same_thing (Thread a) (Object b) = refl
same_thing (Thread a) (Word b k) = refl
same_thing (Thread a) (Address b) = refl
same_thing (Object a) (Thread b) = refl
same_thing (Object a) (Object b) = refl
same_thing (Object a) (Word b k) = refl
same_thing (Object a) (Address b) = refl
same_thing (Word a j) (Thread b) = refl
same_thing (Word a j) (Object b) = refl
same_thing (Word a j) (Word b k) = refl
same_thing (Word a j) (Address b) = refl
same_thing (Address a) (Thread b) = refl
same_thing (Address a) (Object b) = refl
same_thing (Address a) (Word b k) = refl
same_thing (Address a) (Address b) = refl

module _ {X : Type 0} (text : X → List ℕ) where
  -- a row as it is seen
  abbrev pub row_seen : Thing × X → Thing × List ℕ
  row_seen row = (row.0, text row.1)

  found_by_test : (b : Bool) (x : X) (o : Option X) (p : Option (List ℕ)) → option_map text o ≡ p → option_map text (cond b (Some x) o) ≡ cond b (Some (text x)) p
  found_by_test true x o p e = refl
  found_by_test false x o p e = e

  -- what is found of rows is the name of the thing
  pub found_is_name : (thing : Thing) (rows : List (Thing × X))
      → option_map text (lookup ((thing_eq.ghosts).eq thing) rows) ≡ name_among (map row_seen rows) thing
  found_is_name thing [] = refl
  found_is_name thing (row ∷ rows) =
      found_by_test ((thing_eq.ghosts).eq thing row.0) row.1 (lookup ((thing_eq.ghosts).eq thing) rows) (name_among (map row_seen rows) thing) (found_is_name thing rows)
      ∙ ap (λ (b : Bool). cond b (Some (text row.1)) (name_among (map row_seen rows) thing)) (same_thing thing row.0)

  pub rows_append : (rows more : List (Thing × X)) → map row_seen (rows ++ more) ≡ map row_seen rows ++ map row_seen more
  rows_append [] more = refl
  rows_append (row ∷ rows) more = ap (λ (l : NameTable). row_seen row ∷ l) (rows_append rows more)

  -- what has no text is nothing
  pub none_of_found : (o : Option X) → option_map text o ≡ None → o ≡ None
  none_of_found None e = refl
  none_of_found (Some x) e = absurd (cc e)

-- a row of a thing without a name is added, and no other
pub row_if_unnamed : (names : NameTable) (row : Thing × List ℕ) → name_among names row.0 ≡ None → with_row names row ≡ names ++ row ∷ []
row_if_unnamed names row e = ap (λ (o : Option (List ℕ)). cond (is_some o) names (names ++ row ∷ [])) e

pub no_row_if_named : (names : NameTable) (row : Thing × List ℕ) → is_some (name_among names row.0) ≡ true → with_row names row ≡ names
no_row_if_named names row e = ap (λ (is : Bool). cond is names (names ++ row ∷ [])) e

-- a thing without a name
pub unnamed_if_none : (o : Option (Bor (List ℕ))) (name : Option (List ℕ)) → option_map (λ (n : Bor (List ℕ)). n.now) o ≡ name → is_some o ≡ false → name ≡ None
unnamed_if_none None name e none = sym e
unnamed_if_none (Some n) name e none = absurd (cc none)
