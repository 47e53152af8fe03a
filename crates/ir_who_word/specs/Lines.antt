-- What `ir who --word` writes.
use Rattle.std.specs.Prelude.{◌≡◌, ◌<◌, ◌≤◌, ◌==◌, ℕ, zero, suc, Bool, true, not, List, [], ◌∷◌, ◌++◌, codes, decimal, length, if◌then◌else◌}
use Rattle.std.specs.List.{slice_index_or}
use Rattle.ir_image.specs.Guest.{object_words}
use Rattle.ir_fit.specs.Fit.{FittedTrace}
use Rattle.ir_files.specs.Writers.{Writer}
use Rattle.ir_past.specs.Naming.{maker_text}
use Rattle.ir_past.specs.declared.absent.Absent.{Absent}
use Rattle.ir_past.specs.declared.absent.Absent.TheVariants as absent
use Rattle.ir_past.specs.declared.ask_err.AskErr.{AskErr}
use Rattle.ir_text.specs.Texts.{hex_word}
use Rattle.ir_opened.specs.Answers.{IsFitAnswerlessOf}
use Rattle.ir_opened.specs.Paired.{ArePaired}
use Rattle.ir_opened.specs.Positions.{step_if}
use Rattle.ir_who.specs.Lines.{object_line}
use Rattle.ir_who.specs.Versions.{AreVersions}
use Rattle.ir_who.specs.declared.version.Version.{Version}
use Rattle.ir_who_word.specs.Words.{IsWorded, unread}
use Rattle.ir_who_word.specs.declared.object_word.ObjectWord.{ObjectWord}
use Rattle.ir_who_word.specs.declared.question.Question.{Question}
use Rattle.ir_who_word.specs.declared.worded.Worded.{Worded}

-- the line of version v with word i
abbrev pub changed_word_line : ℕ → ℕ → Worded → List ℕ
changed_word_line i v d = codes "version " ++ (decimal v ++ (codes " by " ++ (maker_text d.made_by ++ (step_if d.step
    ++ (codes " word " ++ (decimal i ++ (codes " " ++ (hex_word d.word ++ 10 ∷ []))))))))

-- whether version v has another word than the version before; the first counts as such
abbrev pub word_changes : List Worded → ℕ → Bool
word_changes ds zero = true
word_changes ds (suc v) = not ((slice_index_or ds v unread).word == (slice_index_or ds (suc v) unread).word)

-- the line of version v, if it has another word than the version before
abbrev pub word_line_if : ℕ → List Worded → ℕ → List ℕ
word_line_if i ds v = if word_changes ds v then changed_word_line i v (slice_index_or ds v unread) else []

-- the lines of the first n versions
unfoldable pub changed_lines : ℕ → List Worded → ℕ → List ℕ
changed_lines i ds zero = []
changed_lines i ds (suc n) = changed_lines i ds n ++ word_line_if i ds n

-- the lines of object o with word i
abbrev pub word_text : ℕ → ℕ → List Worded → List ℕ
word_text o i ds = object_line o (length ds) ++ changed_lines i ds (length ds)

-- the answer about a word of an object: a line for each version that has another word than the version before
pub record IsLinesOf (f : FittedTrace) (w : ObjectWord) (text : List ℕ) : Type 0 where
  pub rows : List Version
  pub all : AreVersions f.recorded w.object rows
  pub words : List Worded
  pub each : ArePaired (IsWorded f w) rows words
  pub lines : text ≡ word_text w.object w.index words

-- the answer to what is asked about a run
pub record IsWordAnswer (asked : Question) (f : FittedTrace) (text : List ℕ) : Type 0 where
  pub object : asked.object < f.recorded.objects
  pub word : asked.word < object_words f.guest
  pub answer : IsLinesOf f (record { object = asked.object; index = asked.word }) text

-- the run doesn't have what is asked about: no such object, or no such word of it
abbrev pub LacksWord : Question → FittedTrace → Absent → Type 0
LacksWord asked f absent.Object = f.recorded.objects ≤ asked.object
LacksWord asked f absent.Word = (asked.object < f.recorded.objects) × (object_words f.guest ≤ asked.word)
LacksWord asked f what = ⊥

-- why a question about bytes wasn't answered, and what that leaves
abbrev pub IsWordUnanswered : Question → List ℕ → List ℕ → AskErr → Writer → Type 0
IsWordUnanswered asked = IsFitAnswerlessOf (IsWordAnswer asked) (LacksWord asked)
