-- Lines that are written one after the other.
use Rattle.std.proofs.Common.{◌≡◌, ◌+◌, ◌<◌, ◌≤◌, ℕ, List, [], ◌++◌, length, drop, get_or, Option, refl, sym, ap, subst, ◌∙◌, append_assoc, append-nil}
use Rattle.std.proofs.lemmas.List.{at_drop_more, at_drop_all}
use Rattle.std.specs.Io.KnownBytes.{Appends}
use Rattle.std.proofs.KnownBytes.{Appends-nil, Appends-trans}
use Rattle.ir_stream.specs.Answers.{AppendsPrefix}
use Rattle.ir_stream.proofs.CallerLemmas.{appends_prefix_append, appends_prefix_longer}
use Rattle.ir_list.specs.Listing.{lines_from}

-- a first part of the text was written, and the rest is left
pub record Written (old new : Option (List ℕ)) (rest text : List ℕ) : Type 0 where
  pub part : List ℕ
  pub grown : Appends old new part
  pub joined : part ++ rest ≡ text

pub written_at_start : (a : Option (List ℕ)) (text : List ℕ) → Written a a text text
written_at_start a text = record { part = []; grown = Appends-nil a; joined = refl }

-- what is left of the lines of a list
abbrev pub lines_left : (ℕ → ℕ → List ℕ) → ℕ → List ℕ → List ℕ
lines_left lines n xs = lines_from lines n (drop n xs)

lines_left_step : (lines : ℕ → ℕ → List ℕ) (n : ℕ) (xs : List ℕ) → n < length xs
    → lines_left lines n xs ≡ lines n (get_or xs n 0) ++ lines_left lines (n + 1) xs
unfolding lines_from
lines_left_step lines n xs some = at_drop_more (lines_from lines n) xs n 0 some

-- one element's lines more
pub written_next_line : (lines : ℕ → ℕ → List ℕ) (a b c : Option (List ℕ)) (n : ℕ) (xs bytes text : List ℕ) → n < length xs
    → bytes ≡ lines n (get_or xs n 0) → Written a b (lines_left lines n xs) text → Appends b c bytes
    → Written a c (lines_left lines (n + 1) xs) text
written_next_line lines a b c n xs bytes text some same w done =
    let here : List ℕ = lines n (get_or xs n 0) in
    record {
      part = w.part ++ here;
      grown = Appends-trans a b c w.part here w.grown (subst (Appends b c) same done);
      joined = append_assoc w.part here (lines_left lines (n + 1) xs)
          ∙ ap (λ (l : List ℕ). w.part ++ l) (sym (lines_left_step lines n xs some)) ∙ w.joined;
    }

-- a prefix of one element's lines more
pub prefix_of_next_line : (lines : ℕ → ℕ → List ℕ) (a b c : Option (List ℕ)) (n : ℕ) (xs bytes text : List ℕ) → n < length xs
    → bytes ≡ lines n (get_or xs n 0) → Written a b (lines_left lines n xs) text → AppendsPrefix b c bytes → AppendsPrefix a c text
prefix_of_next_line lines a b c n xs bytes text some same w begun =
    let here : List ℕ = lines n (get_or xs n 0) in
    subst (AppendsPrefix a c) (append_assoc w.part here (lines_left lines (n + 1) xs)
    ∙ ap (λ (l : List ℕ). w.part ++ l) (sym (lines_left_step lines n xs some)) ∙ w.joined)
    (appends_prefix_longer a c (w.part ++ here) (lines_left lines (n + 1) xs)
    (appends_prefix_append a b c w.part here w.grown (subst (AppendsPrefix b c) same begun)))

-- nothing more
pub written_part_is_prefix : (a b : Option (List ℕ)) (rest text : List ℕ) → Written a b rest text → AppendsPrefix a b text
written_part_is_prefix a b rest text w = record { part = w.part; more = rest; splits = sym w.joined; grown = w.grown }

-- all lines
pub written_whole_at_end : (lines : ℕ → ℕ → List ℕ) (a b : Option (List ℕ)) (n : ℕ) (xs text : List ℕ) → length xs ≤ n
    → Written a b (lines_left lines n xs) text → Appends a b text
unfolding lines_from
written_whole_at_end lines a b n xs text none w =
    subst (Appends a b) (sym (append-nil w.part)
    ∙ ap (λ (l : List ℕ). w.part ++ l) (sym (at_drop_all (lines_from lines n) xs n none)) ∙ w.joined) w.grown
