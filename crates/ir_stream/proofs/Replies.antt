-- Answers to lines that are joined, and lines that quit.
use Rattle.std.proofs.Common.{◌≡◌, ℕ, suc, Bool, true, false, cond, List, [], ◌∷◌, ◌++◌, take, refl, sym, ap, subst, ◌∙◌, append_assoc}
use Rattle.std.specs.Prelude.{Option}
use Rattle.std.proofs.lemmas.List.{append-nil}
use Rattle.std.proofs.KnownBytes.{Appends-nil, Appends-trans}
use Rattle.std.specs.Io.KnownBytes.{Appends}
use Rattle.ir_stream.specs.Answers.{last_line, AppendsPrefix, Replying, LinesAnswered, through, some_quits}
use Rattle.ir_stream.specs.Written.{most_kept_bytes, Wrote, Replied}

-- a prefix of a text is one of a longer text
pub appends_prefix_longer : (a b : Option (List ℕ)) (text more : List ℕ) → AppendsPrefix a b text → AppendsPrefix a b (text ++ more)
appends_prefix_longer a b text more f = record {
  part = f.part;
  more = f.more ++ more;
  splits = ap (λ (t : List ℕ). t ++ more) f.splits ∙ append_assoc f.part f.more more;
  grown = f.grown;
}

-- a prefix of the next text is one of all that was written
pub appends_prefix_append : (a b c : Option (List ℕ)) (done text : List ℕ) → Appends a b done → AppendsPrefix b c text
    → AppendsPrefix a c (done ++ text)
appends_prefix_append a b c done text wrote f = record {
  part = done ++ f.part;
  more = f.more;
  splits = ap (λ (t : List ℕ). done ++ t) f.splits ∙ sym (append_assoc done f.part f.more);
  grown = Appends-trans a b c done f.part wrote f.grown;
}

-- the answers to lines, and then to others
pub lines_answered_append : {S : Type 0} (R : Replying S) (s : S) (ls ms : List (List ℕ)) (t u : List ℕ) (m last : S) → LinesAnswered R s ls t m
    → LinesAnswered R m ms u last → LinesAnswered R s (ls ++ ms) (t ++ u) last
unfolding LinesAnswered
lines_answered_append {S} R s [] ms t u m last done more =
    let P : S → Type 0 = λ x. LinesAnswered R x ms (t ++ u) last in
    let Q : List ℕ → Type 0 = λ x. LinesAnswered R m ms (x ++ u) last in
    subst P done.1 (subst Q (sym done.0) more)
lines_answered_append {S} R s (l ∷ ls) ms t u m last (first, next, rest, is, done, e) more = (
  first,
  next,
  rest ++ u,
  is,
  lines_answered_append R next ls ms rest u m last done more,
  ap (λ (x : List ℕ). x ++ u) e ∙ append_assoc first rest u,
)

-- the answers to no lines
pub answered_no_lines : {S : Type 0} (R : Replying S) (s : S) → LinesAnswered R s [] [] s
unfolding LinesAnswered
answered_no_lines R s = (refl, refl)

-- the answer to one line
pub answered_one_line : {S : Type 0} (R : Replying S) (s : S) (l text : List ℕ) (next : S) → R s l text next → LinesAnswered R s (l ∷ []) text next
unfolding LinesAnswered
answered_one_line R s l text next is = (text, next, [], is, (refl, refl), sym (append-nil text))

-- the end of an input that isn't empty is a line
pub last_line_nonempty : (r : List ℕ) → (r ≡ [] → ⊥) → last_line r ≡ r ∷ []
last_line_nonempty [] some = absurd (some refl)
last_line_nonempty (b ∷ r) some = refl

-- an empty end of an input has no answer
pub wrote_empty_end : {S : Type 0} (R : Replying S) (s : S) (r : List ℕ) (w : Option (List ℕ)) → r ≡ [] → Wrote R s (last_line r) w w
wrote_empty_end R s [] w e = record { text = []; last = s; answered = answered_no_lines R s; grown = Appends-nil w }
wrote_empty_end R s (b ∷ r) w e = absurd cc

-- any other has that of one line
pub wrote_last_line : {S : Type 0} (R : Replying S) (s next : S) (r : List ℕ) (old new : Option (List ℕ)) → (r ≡ [] → ⊥)
    → Replied R s r next old new → Wrote R s (last_line r) old new
wrote_last_line R s next [] old new some p = absurd (some refl)
wrote_last_line R s next (b ∷ r) old new some p = record {
  text = p.text;
  last = next;
  answered =
      answered_one_line R s (b ∷ r) p.text next p.is;
  grown = p.grown;
}

answered_by_prefix : {S : Type 0} (R : Replying S) (long : (s : S) (line text : List ℕ) (next : S) → R s (take most_kept_bytes line) text next
    → R s line text next)
    → (s : S) (l k text : List ℕ) (last : S) → l ≡ take most_kept_bytes k → LinesAnswered R s (l ∷ []) text last → LinesAnswered R s (k ∷ []) text last
unfolding LinesAnswered
answered_by_prefix {S} R long s l k text last e (first, next, rest, is, done, f) =
    let P : List ℕ → Type 0 = λ x. R s x first next in
    (first, next, rest, long s k first next (subst P e is), done, f)

-- of the last line, too, only a prefix matters
pub answered_last_by_prefix : {S : Type 0} (R : Replying S)
    (long : (s : S) (line text : List ℕ) (next : S) → R s (take most_kept_bytes line) text next → R s line text next)
    → (s : S) (r text : List ℕ) (last : S) → LinesAnswered R s (last_line (take most_kept_bytes r)) text last → LinesAnswered R s (last_line r) text last
answered_last_by_prefix R long s [] text last p = p
answered_last_by_prefix R long s (b ∷ r) text last p = answered_by_prefix R long s (take most_kept_bytes (b ∷ r)) (b ∷ r) text last refl p

or_false_first : (b x y z : Bool) → cond b true x ≡ false → (x ≡ false → y ≡ z) → cond b true y ≡ z
or_false_first true x y z h k = absurd cc
or_false_first false x y z h k = k h

-- after lines of which none quits
pub some_quits_append : (quits : List ℕ → Bool) (ls ms : List (List ℕ)) → some_quits quits ls ≡ false
    → some_quits quits (ls ++ ms) ≡ some_quits quits ms
unfolding some_quits
some_quits_append quits [] ms h = refl
some_quits_append quits (l ∷ ls) ms h = or_false_first (quits l) (some_quits quits ls) (some_quits quits (ls ++ ms)) (some_quits quits ms) h
    (some_quits_append quits ls ms)

disjunction_with_false : (b : Bool) → cond b true false ≡ b
disjunction_with_false true = refl
disjunction_with_false false = refl

pub some_quits_of_one_line : (quits : List ℕ → Bool) (l : List ℕ) → some_quits quits (l ∷ []) ≡ quits l
unfolding some_quits
some_quits_of_one_line quits l = disjunction_with_false (quits l)

pub some_quits_nil : (quits : List ℕ → Bool) → some_quits quits [] ≡ false
unfolding some_quits
some_quits_nil quits = refl

pub some_quits_first : (quits : List ℕ → Bool) (l : List ℕ) (ls : List (List ℕ)) → quits l ≡ true → some_quits quits (l ∷ ls) ≡ true
unfolding some_quits
some_quits_first quits l ls h = ap (λ (b : Bool). cond b true (some_quits quits ls)) h

through_step_no_quit : (b x : Bool) (l : List ℕ) (t u : List (List ℕ)) → cond b true x ≡ false → (x ≡ false → t ≡ u) → l ∷ cond b [] t ≡ l ∷ u
through_step_no_quit true x l t u h k = absurd cc
through_step_no_quit false x l t u h k = ap (λ (r : List (List ℕ)). l ∷ r) (k h)

pub through_append_no_quit : (quits : List ℕ → Bool) (ls ms : List (List ℕ)) → some_quits quits ls ≡ false
    → through quits (ls ++ ms) ≡ ls ++ through quits ms
unfolding some_quits through
through_append_no_quit quits [] ms h = refl
through_append_no_quit quits (l ∷ ls) ms h = through_step_no_quit (quits l) (some_quits quits ls) l (through quits (ls ++ ms)) (ls ++ through quits ms) h
    (through_append_no_quit quits ls ms)

pub through_of_no_lines : (quits : List ℕ → Bool) → through quits [] ≡ []
unfolding through
through_of_no_lines quits = refl

cons_of_two_empties : (b : Bool) (l : List ℕ) → l ∷ cond b [] [] ≡ l ∷ []
cons_of_two_empties true l = refl
cons_of_two_empties false l = refl

pub through_of_one_line : (quits : List ℕ → Bool) (l : List ℕ) → through quits (l ∷ []) ≡ l ∷ []
unfolding through
through_of_one_line quits l = cons_of_two_empties (quits l) l

pub through_if_first_quits : (quits : List ℕ → Bool) (l : List ℕ) (ls : List (List ℕ)) → quits l ≡ true → through quits (l ∷ ls) ≡ l ∷ []
unfolding through
through_if_first_quits quits l ls h = ap (λ (b : Bool). l ∷ cond b [] (through quits ls)) h

pub through_keeps_last_line : (quits : List ℕ → Bool) (r : List ℕ) → through quits (last_line r) ≡ last_line r
through_keeps_last_line quits [] = through_of_no_lines quits
through_keeps_last_line quits (b ∷ r) = through_of_one_line quits (b ∷ r)

pub through_none_quits : (quits : List ℕ → Bool) (ls : List (List ℕ)) → some_quits quits ls ≡ false → through quits ls ≡ ls
through_none_quits quits ls h = ap (through quits) (sym (append-nil ls)) ∙ through_append_no_quit quits ls [] h
    ∙ ap (λ (r : List (List ℕ)). ls ++ r) (through_of_no_lines quits) ∙ append-nil ls

pub quits_ignores_take : (quits : List ℕ → Bool) (m : ℕ) (r : List ℕ) → ((line : List ℕ) → quits (take (suc m) line) ≡ quits line)
    → some_quits quits (last_line (take (suc m) r)) ≡ some_quits quits (last_line r)
quits_ignores_take quits m [] h = refl
quits_ignores_take quits m (b ∷ r) h = some_quits_of_one_line quits (b ∷ take m r) ∙ h (b ∷ r) ∙ sym (some_quits_of_one_line quits (b ∷ r))

pub quits_of_empty_end : (quits : List ℕ → Bool) (r : List ℕ) → r ≡ [] → some_quits quits (last_line r) ≡ false
quits_of_empty_end quits [] h = some_quits_nil quits
quits_of_empty_end quits (b ∷ r) h = absurd cc

pub quits_of_end : (quits : List ℕ → Bool) (r : List ℕ) → (r ≡ [] → ⊥) → some_quits quits (last_line r) ≡ quits r
quits_of_end quits [] h = absurd (h refl)
quits_of_end quits (b ∷ r) h = some_quits_of_one_line quits (b ∷ r)
