-- The numbers that say which names are put in say all of them, also before other numbers.
use Rattle.std.proofs.Common.{◌≡◌, ℕ, zero, suc, Bool, List, [], ◌∷◌, ◌++◌, length, take, drop, refl, sym, ap, ◌∙◌, flat_map}
use Rattle.ir_names.specs.Taken.{begun_numbers, bool_number, row_numbers}
use Rattle.ir_names.specs.Things.{NameTable}
use Rattle.ir_names.specs.declared.thing.Thing.{Thing}
use Rattle.ir_names.specs.declared.thing.Thing.TheVariants.{Thread, Object, Word, Address}
use Rattle.ir_names.proofs.Grown.{bool_by, bool_by_number}

abbrev thing_by : ℕ → ℕ → ℕ → Thing
thing_by zero a b = Thread a
thing_by (suc zero) a b = Object a
thing_by (suc (suc zero)) a b = Word a b
thing_by (suc (suc (suc n))) a b = Address a

-- as many rows as a number says, and the numbers behind them
abbrev rows_by : ℕ → List ℕ → NameTable × List ℕ
rows_by zero rest = ([], rest)
rows_by (suc n) (kind ∷ a ∷ b ∷ size ∷ rest) =
    ((thing_by kind a b, take size rest) ∷ (rows_by n (drop size rest)).0, (rows_by n (drop size rest)).1)
rows_by (suc n) rest = ([], rest)

taken_back : (name more rest : List ℕ) → take (length name) ((name ++ more) ++ rest) ≡ name
taken_back [] more rest = refl
taken_back (b ∷ name) more rest = ap (λ (l : List ℕ). b ∷ l) (taken_back name more rest)

dropped_back : (name more rest : List ℕ) → drop (length name) ((name ++ more) ++ rest) ≡ more ++ rest
dropped_back [] more rest = refl
dropped_back (b ∷ name) more rest = dropped_back name more rest

row_back : (kind a b n : ℕ) (thing : Thing) (name more rest : List ℕ) (names : NameTable) → thing_by kind a b ≡ thing
    → rows_by n (more ++ rest) ≡ (names, rest)
    → rows_by (suc n) (kind ∷ a ∷ b ∷ length name ∷ ((name ++ more) ++ rest)) ≡ ((thing, name) ∷ names, rest)
row_back kind a b n thing name more rest names e f =
    let text : take (length name) ((name ++ more) ++ rest) ≡ name = taken_back name more rest in
    let behind : rows_by n (drop (length name) ((name ++ more) ++ rest)) ≡ (names, rest) = ap (rows_by n) (dropped_back name more rest) ∙ f in
    λ i. ((e i, text i) ∷ (behind i).0, (behind i).1)

rows_back : (names : NameTable) (rest : List ℕ) → rows_by (length names) (flat_map row_numbers names ++ rest) ≡ (names, rest)
rows_back [] rest = refl
rows_back ((Thread a, name) ∷ names) rest = row_back 0 a 0 (length names) (Thread a) name (flat_map row_numbers names) rest names refl (rows_back names rest)
rows_back ((Object a, name) ∷ names) rest = row_back 1 a 0 (length names) (Object a) name (flat_map row_numbers names) rest names refl (rows_back names rest)
rows_back ((Word a b, name) ∷ names) rest = row_back 2 a b (length names) (Word a b) name (flat_map row_numbers names) rest names refl (rows_back names rest)
rows_back ((Address a, name) ∷ names) rest = row_back 3 a 0 (length names) (Address a) name (flat_map row_numbers names) rest names refl (rows_back names rest)

abbrev all_by : List ℕ → Bool × (NameTable × List ℕ)
all_by (b ∷ n ∷ rest) = (bool_by b, rows_by n rest)
all_by numbers = (bool_by 0, ([], numbers))

all_back : (names : NameTable) (lists : Bool) (rest : List ℕ) → all_by (begun_numbers names lists ++ rest) ≡ (lists, (names, rest))
all_back names lists rest =
    let bool : bool_by (bool_number lists) ≡ lists = bool_by_number lists in
    let rows : rows_by (length names) (flat_map row_numbers names ++ rest) ≡ (names, rest) = rows_back names rest in
    λ i. (bool i, rows i)

-- equal numbers are of the same names
pub same_begun : (a b : NameTable) (l m : Bool) (x y : List ℕ) → begun_numbers a l ++ x ≡ begun_numbers b m ++ y → (a ≡ b) × (l ≡ m) × (x ≡ y)
same_begun a b l m x y e =
    let same : (l, (a, x)) ≡ (m, (b, y)) = sym (all_back a l x) ∙ ap all_by e ∙ all_back b m y in
    (ap (λ (z : Bool × (NameTable × List ℕ)). z.1.0) same, ap (λ (z : Bool × (NameTable × List ℕ)). z.0) same, ap (λ (z : Bool × (NameTable × List ℕ)). z.1.1) same)
