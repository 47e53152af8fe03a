-- Calls that write, one after the other.
use Rattle.std.proofs.Common.{◌≡◌, ℕ, Bool, true, List, ◌++◌, Option, Result, Ok, Err, IsErrAnd, refl, ◌∙◌}
use Rattle.std.proofs.KnownBytes.{Appends-trans}
use Rattle.std.specs.Io.KnownBytes.{Appends}
use Rattle.ir_stream.specs.Answers.{AppendsPrefix}
use Rattle.ir_stream.specs.Writing.{WritesOrFails, WritesText}
use Rattle.ir_stream.proofs.Replies.{appends_prefix_append}

-- a call that wrote all, and one that failed
pub writes_or_fails_whole : {D A E : Type 0} {broken : D → Bool} {old new : D} {all part : Type 0} {x : A} → all → broken new ≡ broken old
    → WritesOrFails {E = E} broken old new all part (Ok x)
writes_or_fails_whole done same = record { ok = done; stays = same; prefix = tt; err = tt }

pub writes_or_fails_part : {D A E : Type 0} {broken : D → Bool} {old new : D} {all part : Type 0} {e : E} → part → broken new ≡ true
    → WritesOrFails {A = A} broken old new all part (Err e)
writes_or_fails_part so_far fails = record { ok = tt; stays = tt; prefix = so_far; err = fails }

-- the error that a `?` hands on
pub writes_or_fails_error : {D A E : Type 0} {broken : D → Bool} {old new : D} {all part : Type 0} (P : E → Type 0) (r : Result A E)
    → IsErrAnd r P → part → broken new ≡ true → WritesOrFails broken old new all part r
writes_or_fails_error P (Ok x) is so_far fails = absurd is
writes_or_fails_error P (Err e) is so_far fails = writes_or_fails_part so_far fails

-- a call that writes the rest of a text, after a first part was written
pub writes_text_after_part : {D A E : Type 0} (written : D → Option (List ℕ)) {broken : D → Bool} {a b c : D} (done text : List ℕ) (r : Result A E)
    → Appends (written a) (written b) done → broken b ≡ broken a → WritesText written broken b c text r
    → WritesText written broken a c (done ++ text) r
writes_text_after_part written {broken} {a} {b} {c} done text (Ok x) first same w =
    writes_or_fails_whole (Appends-trans (written a) (written b) (written c) done text first w.ok) (w.stays ∙ same)
writes_text_after_part written {broken} {a} {b} {c} done text (Err e) first same w =
    writes_or_fails_part (appends_prefix_append (written a) (written b) (written c) done text first w.prefix) w.err

-- what follows from all and from a part that a last call wrote, after calls that didn't fail
pub writes_from_earlier : {D A E : Type 0} {broken : D → Bool} {old mid new : D} {all part all_more part_more : Type 0} (r : Result A E)
    → broken mid ≡ broken old → (all → all_more) → (part → part_more) → WritesOrFails broken mid new all part r
    → WritesOrFails broken old new all_more part_more r
writes_from_earlier (Ok x) same f h w = writes_or_fails_whole (f w.ok) (w.stays ∙ same)
writes_from_earlier (Err e) same f h w = writes_or_fails_part (h w.prefix) w.err

-- the same of one call
pub writes_or_fails_mono : {D A E : Type 0} {broken : D → Bool} {old new : D} {all part all_more part_more : Type 0} (r : Result A E) → (all → all_more)
    → (part → part_more) → WritesOrFails broken old new all part r → WritesOrFails broken old new all_more part_more r
writes_or_fails_mono r f h w = writes_from_earlier r refl f h w
