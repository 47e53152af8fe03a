-- What the table of write entries says of a part.
use Rattle.std.proofs.Common.{◌≡◌, ◌≢◌, ℕ, suc, ◌<◌, inl, Bool, true, false, Some, None, sym, ap, ◌∙◌, subst, arith}
use Rattle.std.proofs.lemmas.Bool.{false≢true, true≢false}
use Rattle.ir_trace.specs.Recorded.{Recorded}
use Rattle.ir_past.specs.Past.{IsWriteAt}
use Rattle.ir_past.specs.Tables.{maker_in}
use Rattle.ir_past.specs.declared.place.Place.{Place}
use Rattle.ir_past.specs.declared.makers.Makers.{Makers}
use Rattle.ir_past.proofs.CallerLemmas.{event_thread_exists, version_writer_unique}
use Rattle.ir_diff.specs.Common.{Tells, HasMaker, HasOthersMaker}
use Rattle.ir_diff.specs.Progress.{AreMakersOf}

-- ---- flags

pub true_flag_tells : (flag : Bool) (P : Type 0) → flag ≡ true → P → Tells flag P
true_flag_tells flag P is p = record { set = λ e. p; clear = λ e. absurd (false≢true (sym e ∙ is)) }

pub false_flag_tells : (flag : Bool) (P : Type 0) → flag ≡ false → (P → ⊥) → Tells flag P
false_flag_tells flag P is none = record { set = λ e. absurd (true≢false (sym e ∙ is)); clear = λ e. none }

-- the same flag tells what is equivalent
pub tells_equivalent : (flag : Bool) (P Q : Type 0) → (P → Q) → (Q → P) → Tells flag P → Tells flag Q
tells_equivalent flag P Q to from told = record { set = λ e. to (told.set e); clear = λ e q. told.clear e (from q) }

-- ---- write entries

-- nothing is noted of a version, so it has no write entry
pub no_write_if_none_noted : (r : Recorded) (m : Makers) (o w u j l : ℕ) → AreMakersOf r m → maker_in m o w ≡ None → IsWriteAt r u j o w l → ⊥
no_write_if_none_noted r m o w u j l are none write = are.makes.noted u j o w l write (inl (event_thread_exists r u j _ write)) none

-- the write entry that is noted is the only one
pub noted_maker_only_write : (r : Recorded) (m : Makers) (o w u j l : ℕ) (p : Place) → AreMakersOf r m → maker_in m o w ≡ Some p
    → IsWriteAt r u j o w l → (u ≡ p.thread) × (j ≡ p.event)
noted_maker_only_write r m o w u j l p are noted write =
    let there = are.makes.sound o w p noted in
    version_writer_unique r are.coherent u j p.thread p.event o w l there.0 write there.1

-- ---- the maker of a version

pub tells_maker_in_part : (r : Recorded) (c : ℕ → ℕ) (m : Makers) (o v w : ℕ) (p : Place) (flag : Bool) → AreMakersOf r m → v ≡ suc w
    → maker_in m o w ≡ Some p → Tells flag (p.event < c p.thread) → Tells flag (HasMaker r c o v)
tells_maker_in_part r c m o v w p flag are is noted told =
    subst (λ z. Tells flag (HasMaker r c o z)) (sym is) (tells_equivalent flag (p.event < c p.thread) (HasMaker r c o (suc w)) to from told)
  where
    to : p.event < c p.thread → HasMaker r c o (suc w)
    to counted = let there = are.makes.sound o w p noted in (p.thread, p.event, there.0, counted, there.1)

    from : HasMaker r c o (suc w) → p.event < c p.thread
    from h = let same = noted_maker_only_write r m o w h.0 h.1 h.2 p are noted h.4 in
        let thread : c h.0 ≡ c p.thread = ap c same.0 in let event = same.1 in let less = h.3 in omega (arith, less, event, thread)

pub no_maker_if_none_noted : (r : Recorded) (c : ℕ → ℕ) (m : Makers) (o v w : ℕ) → AreMakersOf r m → v ≡ suc w → maker_in m o w ≡ None
    → HasMaker r c o v → ⊥
no_maker_if_none_noted r c m o v w are is none h = let made = subst (HasMaker r c o) is h in no_write_if_none_noted r m o w made.0 made.1 made.2 are none made.4

-- ---- the maker of a version, if another thread made it

pub tells_others_maker : (r : Recorded) (c : ℕ → ℕ) (m : Makers) (t o v w : ℕ) (p : Place) (flag : Bool) → AreMakersOf r m → v ≡ suc w
    → maker_in m o w ≡ Some p → Tells flag (p.thread ≢ t → p.event < c p.thread) → Tells flag (HasOthersMaker r c t o v)
tells_others_maker r c m t o v w p flag are is noted told =
    tells_equivalent flag (p.thread ≢ t → p.event < c p.thread) (HasOthersMaker r c t o v) to from told
  where
    to : (p.thread ≢ t → p.event < c p.thread) → HasOthersMaker r c t o v
    to counted u j x l later other write =
        let version : x ≡ w = omega (arith, is, later) in
        let same = noted_maker_only_write r m o w u j l p are noted (subst (λ z. IsWriteAt r u j o z l) version write) in
        let less = counted (λ e. other (same.0 ∙ e)) in
        let thread : c u ≡ c p.thread = ap c same.0 in let event = same.1 in omega (arith, less, event, thread)

    from : HasOthersMaker r c t o v → p.thread ≢ t → p.event < c p.thread
    from h other = let there = are.makes.sound o w p noted in h p.thread p.event w there.0 is other there.1

pub none_noted_others_maker : (r : Recorded) (c : ℕ → ℕ) (m : Makers) (t o v w : ℕ) → AreMakersOf r m → v ≡ suc w → maker_in m o w ≡ None
    → HasOthersMaker r c t o v
none_noted_others_maker r c m t o v w are is none = λ u j x l later other write.
    let version : x ≡ w = omega (arith, is, later) in
    absurd (no_write_if_none_noted r m o w u j l are none (subst (λ z. IsWriteAt r u j o z l) version write))
