use Rattle.std.proofs.Common.{◌+◌, ◌<◌, ◌≤◌, ◌^◌, ℕ, List, Fits, w32, refl, sym, subst, arith}
use Rattle.std.specs.Slots.{slots_items}
use Rattle.ir_lemmas.proofs.CallerLemmas.{get_or_of_found_word}
use Rattle.ir_image.specs.Guest.{most_object_words}
use Rattle.ir_weave.specs.Woven.{AreRead}
use Rattle.ir_weave.proofs.Opening.{are_read_step}
use Rattle.ir_weave.proofs.ends.contents_at.Goals as goal

pub loop-i-init : goal.loop-i-init
loop-i-init c = record { size = refl; each = λ i l. absurd (omega (arith, l)) }

fits_word : (n : ℕ) → n < 2 ^ 32 → Fits w32 n
fits_word n l = omega (arith, l)

pub overflow_cast-word : goal.overflow_cast-word
overflow_cast-word c = fits_word c.word.result
    (subst (λ z. z < 2 ^ 32) (get_or_of_found_word (slots_items c.args.closed.now.words) (c.args.from + c.loop-i.i) c.word.result c.word.ensures)
    (c.requires.small c.loop-i.i c.loop-i-test.true))

pub loop-i-preserved : goal.loop-i-preserved
loop-i-preserved c = are_read_step (slots_items c.args.closed.now.words) c.args.from c.loop-i.word-items c.loop-i.i c.word.result
    c.loop-i.invariant c.loop-i-test.true (sym (get_or_of_found_word (slots_items c.args.closed.now.words) (c.args.from + c.loop-i.i) c.word.result
    c.word.ensures))

all_read : (ws : List ℕ) (from : ℕ) (xs : List ℕ) (n : ℕ) → AreRead ws from xs n → most_object_words ≤ n → AreRead ws from xs most_object_words
all_read ws from xs n h l = record { size = h.size; each = λ i k. h.each i (omega (arith, k, l)) }

pub returns : goal.returns
returns c = all_read (slots_items c.args.closed.now.words) c.args.from c.loop-i.word-items c.loop-i.i c.loop-i.invariant
    (let e = c.loop-i-test.false in omega (arith, e))
