-- Marks at the words of a code.
use Rattle.std.proofs.Common.{◌≡◌, ℕ, suc, zero, ◌-◌, ◌/◌, Bool, true, false, List, [], ◌∷◌, ◌++◌, length, map, take, Option, Some, None, refl, sym, ap, subst}
use Rattle.std.specs.Prelude.{slice_get, nat_le, if◌then◌else◌}
use Rattle.std.proofs.lemmas.Option.{slice_get_within}
use Rattle.ir_isa.specs.declared.inst.Inst.{Inst}
use Rattle.ir_isa.specs.declared.inst.Inst.TheVariants as inst
use Rattle.ir_isa.specs.Decoded.{instruction_of}
use Rattle.ir_image.specs.Guest.{code_start, fetched_word, decoded}
use Rattle.ir_image.specs.declared.fetched.Fetched.TheVariants.{Found}
use Rattle.ir_mach.specs.Marks.{mark_of, IsStore, AreStoresMarked}
use Rattle.ir_command.specs.declared.command.Point.{Point}
use Rattle.ir_command.specs.declared.command.Point.TheVariants.{Break, Watch, WatchObject}
use Rattle.ir_hits.specs.Hits.{Numbered}
use Rattle.ir_hits.specs.Passing.{is_store, stores_at, KeepsMarks, IsBreakMarked, AreBreaksMarked, Watches, NoneWatches, IsCovered, AreCovered}

-- ---- stores

is_store_of_store : (j : Inst) → IsStore j → is_store (Some j) ≡ true
is_store_of_store (inst.Store op rs1 rs2 imm) s = refl
is_store_of_store (inst.Lui rd imm) s = absurd s
is_store_of_store (inst.Auipc rd imm) s = absurd s
is_store_of_store (inst.Jal rd offset) s = absurd s
is_store_of_store (inst.Jalr rd rs1 imm) s = absurd s
is_store_of_store (inst.Branch op rs1 rs2 offset) s = absurd s
is_store_of_store (inst.Load op rd rs1 imm) s = absurd s
is_store_of_store (inst.OpImm op rd rs1 imm) s = absurd s
is_store_of_store (inst.Shift op rd rs1 amount) s = absurd s
is_store_of_store (inst.Op op rd rs1 rs2) s = absurd s
is_store_of_store (inst.Fence rd rs1 imm) s = absurd s
is_store_of_store inst.Ecall s = absurd s
is_store_of_store inst.Ebreak s = absurd s

is_store_of_found : (o : Option Inst) (i : Inst) → decoded o ≡ Found i → IsStore i → is_store o ≡ true
is_store_of_found (Some j) i is store = let same : j ≡ i = cc in is_store_of_store j (subst IsStore (sym same) store)
is_store_of_found None i is store = absurd cc

store_is_marked : (code : List ℕ) (place : ℕ) (i : Inst) → fetched_word (slice_get code place) ≡ Found i → IsStore i
    → mark_of (map stores_at code) place ≡ true
store_is_marked [] place i is store = refl
store_is_marked (w ∷ ws) zero i is store = is_store_of_found (instruction_of w) i is store
store_is_marked (w ∷ ws) (suc place) i is store = store_is_marked ws place i is store

conditional_store_marked : (b : Bool) (code : List ℕ) (place : ℕ) (i : Inst) → fetched_word (if b then slice_get code place else None) ≡ Found i → IsStore i
    → (if b then mark_of (map stores_at code) place else true) ≡ true
conditional_store_marked true code place i is store = store_is_marked code place i is store
conditional_store_marked false code place i is store = refl

pub all_stores_marked : (code : List ℕ) → AreStoresMarked code (map stores_at code)
all_stores_marked code pc i is store = conditional_store_marked (nat_le code_start pc) code ((pc - code_start) / 4) i is store

-- ---- the points

watching_is_watched : (t : ℕ) (points : List Numbered) (is_watched : Bool) (i : ℕ) (p : Numbered)
    → (is_watched ≡ false → NoneWatches t points (length points)) → slice_get points i ≡ Some p → Watches t p.point → is_watched ≡ true
watching_is_watched t points true i p none is w = refl
watching_is_watched t points false i p none is w = absurd (none refl i p (slice_get_within points i p is) is w)

pub points_covered_by_marks : (code : List ℕ) (first marks : List Bool) (t : ℕ) (points : List Numbered) (is_watched : Bool)
    → (is_watched ≡ false → NoneWatches t points (length points)) → (is_watched ≡ true → AreStoresMarked code first)
    → KeepsMarks first marks → AreBreaksMarked marks t points (length points)
    → AreCovered (record { words = code; marks = marks }) t points
points_covered_by_marks code first marks t points is_watched none stored kept breaks i p is = by p.point refl
  where
    by : (q : Point) → p.point ≡ q → IsCovered (record { words = code; marks = marks }) t q
    by (Break u address) e = subst (IsBreakMarked marks t) e (breaks i p (slice_get_within points i p is) is)
    by (Watch u address) e = λ same low pc j found store.
        kept pc (stored (watching_is_watched t points is_watched i p none is (subst (Watches t) (sym e) (same, low))) pc j found store)
    by (WatchObject object) e = tt

-- what is written back to a vector is all of it
take_length_of_append : (xs ys : List Bool) → take (length xs) (xs ++ ys) ≡ xs
take_length_of_append [] ys = refl
take_length_of_append (x ∷ xs) ys = ap (λ (zs : List Bool). x ∷ zs) (take_length_of_append xs ys)

pub take_length_append : (n : ℕ) (xs ys : List Bool) → length xs ≡ n → take n (xs ++ ys) ≡ xs
take_length_append n xs ys size = subst (λ m. take m (xs ++ ys) ≡ xs) size (take_length_of_append xs ys)
