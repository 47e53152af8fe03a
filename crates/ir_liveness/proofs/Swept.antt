-- Sweeps, put together of their parts.
use Rattle.std.proofs.Common.{◌≡◌, ℕ, ◌+◌, ◌*◌, ◌%◌, ◌<◌, Bool, true, false, true≢false, List, length, slice_set, ◌⊎◌, inl, inr, refl, sym, ◌∙◌, subst, arith}
use Rattle.ir_isa.specs.declared.inst.Inst.{Inst}
use Rattle.ir_image.specs.Guest.{fetched, code_start}
use Rattle.ir_image.specs.declared.fetched.Fetched.TheVariants.{Found}
use Rattle.ir_liveness.specs.Table.{is_marked, IsLiveTable}
use Rattle.ir_liveness.specs.Marks.{places_of_word, point_at, unmarked, IsMarkSeen, AreMarksLive, IsClosedAt, IsSwept}
use Rattle.ir_liveness.proofs.Places.{mark_at_place_of_word, setting_lowers_unmarked}
use Rattle.ir_liveness.proofs.Marked.{live_after_live_mark, closed_marks_are_table}

-- where nothing has changed
pub swept_without_change : (code : List ℕ) (marks : List Bool) (Over : ℕ → ℕ → Type 0)
    → ((word place : ℕ) → Over word place → IsClosedAt code marks word place) → IsSwept code marks marks false Over
swept_without_change code marks Over closed = record {
  live = λ are. are;
  fewer = λ still. absurd (true≢false (sym still));
  same = λ _. refl;
  closed = λ _. closed;
}

-- and then something changed
pub swept_with_change : (code : List ℕ) (old mid new : List Bool) (changed : Bool) (First Second Over : ℕ → ℕ → Type 0)
    → IsSwept code old mid changed First → IsSwept code mid new true Second → IsSwept code old new true Over
swept_with_change code old mid new true First Second Over a b = record {
  live = λ are. b.live (a.live are);
  fewer = λ _. let x = a.fewer refl in let y = b.fewer refl in omega (arith, x, y);
  same = λ still. absurd (true≢false still);
  closed = λ still. absurd (true≢false still);
}
swept_with_change code old mid new false First Second Over a b = record {
  live = λ are. b.live (a.live are);
  fewer = λ _. subst (λ (z : List Bool). unmarked new < unmarked z) (a.same refl) (b.fewer refl);
  same = λ still. absurd (true≢false still);
  closed = λ still. absurd (true≢false still);
}

-- and then nothing changed
pub swept_on_unchanged : (code : List ℕ) (old mid new : List Bool) (changed : Bool) (First Second Over : ℕ → ℕ → Type 0)
    → IsSwept code old mid changed First → IsSwept code mid new false Second → ((word place : ℕ) → Over word place → First word place ⊎ Second word place)
    → IsSwept code old new changed Over
swept_on_unchanged code old mid new changed First Second Over a b over = record {
  live = λ are. b.live (a.live are);
  fewer = λ is. subst (λ (z : List Bool). unmarked z < unmarked old) (sym (b.same refl)) (a.fewer is);
  same = λ still. b.same refl ∙ a.same still;
  closed = λ still word place is. elim (over word place is) [
    | inl first ↦ a.closed still word place first
    | inr second ↦ subst (λ (z : List Bool). IsClosedAt code z word place) (a.same still) (b.closed refl word place second)
  ];
}

-- a place is marked
pub swept_with_mark : (code : List ℕ) (marks : List Bool) (word place : ℕ) (inst : Inst) (Over : ℕ → ℕ → Type 0)
    → fetched code (code_start + 4 * word) ≡ Found inst → place < places_of_word → word * places_of_word + place < length marks
    → is_marked marks (point_at word place) (place % 32) ≡ false → IsMarkSeen marks inst (point_at word place) (place % 32)
    → IsSwept code marks (slice_set marks (word * places_of_word + place) true) true Over
swept_with_mark code marks word place inst Over at less within unset seen = record {
  live = live_after_live_mark code marks word place inst less at seen;
  fewer = λ _. setting_lowers_unmarked marks (word * places_of_word + place) within (sym (mark_at_place_of_word marks word place) ∙ unset);
  same = λ wrong. absurd (true≢false wrong);
  closed = λ wrong. absurd (true≢false wrong);
}

found_instructions_same : (code : List ℕ) (pc : ℕ) (x y : Inst) → fetched code pc ≡ Found x → fetched code pc ≡ Found y → x ≡ y
found_instructions_same code pc x y a b = cc (a, b)

-- a place stays as it is
pub swept_without_mark : (code : List ℕ) (marks : List Bool) (word place : ℕ) (inst : Inst)
    → fetched code (code_start + 4 * word) ≡ Found inst
    → (IsMarkSeen marks inst (point_at word place) (place % 32) → is_marked marks (point_at word place) (place % 32) ≡ true)
    → IsSwept code marks marks false (λ w p. (w ≡ word) × (p ≡ place))
swept_without_mark code marks word place inst at closed =
    swept_without_change code marks (λ w p. (w ≡ word) × (p ≡ place)) by
  where
    here : IsClosedAt code marks word place
    here other found seen = closed (subst (λ (i : Inst). IsMarkSeen marks i (point_at word place) (place % 32))
        (found_instructions_same code (code_start + 4 * word) other inst found at) seen)

    by : (w p : ℕ) → (w ≡ word) × (p ≡ place) → IsClosedAt code marks w p
    by w p (same, there) = subst (λ (z : ℕ). IsClosedAt code marks z p) (sym same) (subst (λ (z : ℕ). IsClosedAt code marks word z) (sym there) here)

-- something changed or nothing, and what was said of it
pub swept_further : (code : List ℕ) (old mid new : List Bool) (changed more after : Bool) (First Second Over : ℕ → ℕ → Type 0)
    → IsSwept code old mid changed First → IsSwept code mid new more Second → ((word place : ℕ) → Over word place → First word place ⊎ Second word place)
    → ((more ≡ true) × (after ≡ true)) ⊎ ((more ≡ false) × (after ≡ changed)) → IsSwept code old new after Over
swept_further code old mid new changed more after First Second Over a b over (inl (did, is)) =
    subst (λ (z : Bool). IsSwept code old new z Over) (sym is)
    (swept_with_change code old mid new changed First Second Over a (subst (λ (z : Bool). IsSwept code mid new z Second) did b))
swept_further code old mid new changed more after First Second Over a b over (inr (still, is)) =
    subst (λ (z : Bool). IsSwept code old new z Over) (sym is)
    (swept_on_unchanged code old mid new changed First Second Over a (subst (λ (z : Bool). IsSwept code mid new z Second) still b) over)

-- over fewer places
pub swept_over_fewer : (code : List ℕ) (old new : List Bool) (changed : Bool) (First Over : ℕ → ℕ → Type 0)
    → IsSwept code old new changed First → ((word place : ℕ) → Over word place → First word place) → IsSwept code old new changed Over
swept_over_fewer code old new changed First Over a fewer = record {
  live = a.live;
  fewer = a.fewer;
  same = a.same;
  closed = λ still word place is. a.closed still word place (fewer word place is);
}

pub unchanged_sweep_is_table : (code : List ℕ) (old new : List Bool) (changed : Bool) (words : ℕ) → changed ≡ false → words ≡ length code
    → AreMarksLive code old → IsSwept code old new changed (λ w p. (w < words) × (p < places_of_word)) → IsLiveTable code new
unchanged_sweep_is_table code old new changed words still size live a =
    closed_marks_are_table code new (a.live live)
    (λ word place inside. subst (λ (z : List Bool). IsClosedAt code z word place) (sym (a.same still))
    (a.closed still word place (let less = inside.0 in omega arith, inside.1)))
