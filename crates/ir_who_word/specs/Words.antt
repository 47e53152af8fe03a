-- A word of the versions of an object of a recorded run, and the steps that put it.
use Rattle.std.specs.Prelude.{◌≡◌, ℕ, ◌+◌, ◌<◌, ◌≤◌, ◌==◌, ◌&&◌, Bool, false, List, slice_index, Option, Some, None}
use Rattle.ir_image.specs.Guest.{first_words}
use Rattle.ir_thread.specs.declared.ask.Ask.{Ask}
use Rattle.ir_thread.specs.declared.ask.Ask.TheVariants as ask
use Rattle.ir_fit.specs.Fit.{FittedTrace}
use Rattle.ir_cut.specs.Positions.{EachRun}
use Rattle.ir_weave.specs.Ahead.{ask_at}
use Rattle.ir_past.specs.declared.place.Place.{Place}
use Rattle.ir_events.specs.Events.{event_entry}
use Rattle.ir_opened.specs.Positions.{IsLeaveOf}
use Rattle.ir_who.specs.declared.version.Version.{Version}
use Rattle.ir_event_walk.specs.Words.{AreWordsAt}
use Rattle.ir_who_word.specs.declared.object_word.ObjectWord.{ObjectWord}
use Rattle.ir_who_word.specs.declared.worded.Worded.{Worded}

-- whether a call puts the word
abbrev pub puts_word : ObjectWord → Ask → Bool
puts_word w (ask.Put object index value) = (object == w.object) && (index == w.index)
puts_word w _ = false

-- step k of thread t puts the word: in each run with the trace it asks to put it
abbrev pub PutsAt : FittedTrace → ObjectWord → ℕ → ℕ → Type 0
PutsAt f w t k = EachRun f (λ run. (value : ℕ) × (ask_at f run t k ≡ ask.Put w.object w.index value))

-- step k is the last that puts the word, of the steps of thread t from position `from` on and before position `to`
pub record IsLastPut (f : FittedTrace) (w : ObjectWord) (t from to k : ℕ) : Type 0 where
  pub past : from ≤ k
  pub before : k < to
  pub puts : PutsAt f w t k
  pub last : (j : ℕ) → k < j → j < to → PutsAt f w t j → ⊥

-- so of a step, if there is one; none, if none of these steps puts the word
abbrev pub IsPutIn : FittedTrace → ObjectWord → ℕ → ℕ → ℕ → Option ℕ → Type 0
IsPutIn f w t from to None = (j : ℕ) → from ≤ j → j < to → PutsAt f w t j → ⊥
IsPutIn f w t from to (Some k) = IsLastPut f w t from to k

-- this is the word where the write entry of this place is left, and this is the last step between the two that puts it, if one does
pub record IsWordLeft (f : FittedTrace) (w : ObjectWord) (p : Place) (value : ℕ) (put : Option ℕ) : Type 0 where
  pub last : ℕ
  pub leave : IsLeaveOf f p.thread p.event last
  pub words : List ℕ
  pub there : AreWordsAt f p.thread last w.object words
  pub word : value ≡ slice_index words w.index
  pub step : IsPutIn f w p.thread (event_entry f p.thread p.event + 1) last put

-- so of what made a version; the first version has the image's word, which no step put
abbrev pub IsWordOf : FittedTrace → ObjectWord → Option Place → ℕ → Option ℕ → Type 0
IsWordOf f w None value put = (value ≡ slice_index (first_words f.guest w.object) w.index) × (put ≡ None)
IsWordOf f w (Some p) value put = IsWordLeft f w p value put

-- a version with its word
pub record IsWorded (f : FittedTrace) (w : ObjectWord) (x : Version) (d : Worded) : Type 0 where
  pub made : d.made_by ≡ x.made_by
  pub word : IsWordOf f w x.made_by d.word d.step

-- what stands for a version that there isn't
abbrev pub unread : Worded
unread = record { made_by = None; word = 0; step = None }
