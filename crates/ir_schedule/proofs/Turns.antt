-- Turns that are noted.
use Rattle.std.proofs.Common.{◌≡◌, ℕ, zero, suc, ◌+◌, ◌<◌, List, [], ◌∷◌, ◌++◌, length, replicate, get_or, set, sym, ap, ◌∙◌, arith, append-nil, append_assoc}
use Rattle.std.proofs.lemmas.List.{replicate-append-replicate, get_or_default}
use Rattle.std.proofs.lemmas.List.Concat.{flat_map-append}
use Rattle.ir_record.specs.Recording.{order_of_turns}
use Rattle.ir_record.specs.declared.turns.Turns.{Turns}

-- an item more
pub order_of_turns_append : (turns new : List Turns) (thread count : ℕ) → new ≡ turns ++ record { thread = thread; count = count } ∷ []
    → order_of_turns new ≡ order_of_turns turns ++ replicate count thread
order_of_turns_append turns new thread count e = ap order_of_turns e
    ∙ flat_map-append (λ (t : Turns). replicate t.count t.thread) turns (record { thread = thread; count = count } ∷ [])
    ∙ ap (λ (z : List ℕ). order_of_turns turns ++ z) (append-nil (replicate count thread))

-- the last item has more turns
pub order_last_lengthened : (turns : List Turns) (at thread count sum : ℕ) (x : Turns) → length turns ≡ suc at → x ≡ get_or turns at x
    → x.thread ≡ thread → sum ≡ x.count + count
    → order_of_turns (set turns at (record { thread = thread; count = sum })) ≡ order_of_turns turns ++ replicate count thread
order_last_lengthened [] at thread count sum x size last same e = absurd (omega (arith, size))
order_last_lengthened (y ∷ []) zero thread count sum x size last same e =
    let both : replicate y.count y.thread ≡ replicate x.count thread = ap (λ z. replicate z.count z.thread) (sym last) ∙ ap (replicate x.count) same in
    append-nil (replicate sum thread) ∙ ap (λ k. replicate k thread) e ∙ sym (replicate-append-replicate x.count count thread)
    ∙ ap (λ z. z ++ replicate count thread) (sym both ∙ sym (append-nil (replicate y.count y.thread)))
order_last_lengthened (y ∷ []) (suc at) thread count sum x size last same e = absurd (omega (arith, size))
order_last_lengthened (y ∷ z ∷ turns) zero thread count sum x size last same e = absurd (omega (arith, size))
order_last_lengthened (y ∷ z ∷ turns) (suc at) thread count sum x size last same e =
    ap (λ w. replicate y.count y.thread ++ w) (order_last_lengthened (z ∷ turns) at thread count sum x (omega (arith, size)) last same e)
    ∙ sym (append_assoc (replicate y.count y.thread) (order_of_turns (z ∷ turns)) (replicate count thread))

-- what is read twice is the same
pub looked_up_item_same : (turns : List Turns) (at : ℕ) (x y : Turns) → at < length turns → x ≡ get_or turns at x → y ≡ get_or turns at y → x ≡ y
looked_up_item_same turns at x y l p q = p ∙ get_or_default turns at x y l ∙ sym q
