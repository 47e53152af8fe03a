-- Lines of a trace that are written thread by thread.
use Rattle.std.proofs.Common.{◌≡◌, ◌≤◌, ◌<◌, ◌+◌, ℕ, Bool, true, List, ◌++◌, length, map, drop, get_or, Option, Result, IfErr, sym, ap, subst, ◌∙◌, append_assoc, append-nil}
use Rattle.std.proofs.lemmas.List.{at_drop_more, at_drop_all}
use Rattle.std.specs.Io.KnownBytes.{Appends}
use Rattle.std.proofs.KnownBytes.{Appends-trans}
use Rattle.ir_stream.specs.Answers.{AppendsPrefix}
use Rattle.ir_stream.proofs.CallerLemmas.{appends_prefix_append, appends_prefix_longer}
use Rattle.ir_thread.specs.declared.profile.Profile.{Profile}
use Rattle.ir_log.specs.Logging.{label_of}
use Rattle.ir_log.specs.declared.event.Event.{Event}
use Rattle.ir_trace.specs.Recorded.{RecordedThread}
use Rattle.ir_text.specs.Buffered.{Buffered}
use Rattle.ir_text.specs.Texts.{log_text}
use Rattle.ir_commands.specs.Listing.{header_line, thread_listing, threads_listing}
use Rattle.ir_past.specs.Answers.{Stops}
use Rattle.ir_files.specs.Writers.{writer_of, Failed}
use Rattle.ir_past.specs.declared.past_err.PastErr.{PastErr}
use Rattle.ir_past.proofs.CallerLemmas.{failed_stops_after_part}
use Rattle.ir_past.specs.declared.past_err.PastErr.TheVariants as err

-- a write of the rest failed
pub failed_in_second_part : (a b c : Option (List ℕ)) (failed : Bool) (bytes first rest : List ℕ) → bytes ≡ first → Appends a b bytes
    → AppendsPrefix b c rest → failed ≡ true → Failed (writer_of a c failed) (first ++ rest)
failed_in_second_part a b c failed bytes first rest same done prefix broke =
    (appends_prefix_append a b c first rest (subst (Appends a b) same done) prefix, broke)

-- a prefix of the log of these events
pub log_prefix_equal_events : (a b : Option (List ℕ)) (events others : List Event) → events ≡ others
    → AppendsPrefix a b (log_text (map label_of events) (length events))
    → AppendsPrefix a b (log_text (map label_of others) (length others))
log_prefix_equal_events a b events others e prefix =
    subst (λ (es : List Event). AppendsPrefix a b (log_text (map label_of es) (length es))) e prefix

-- ---- thread by thread

-- the first of the threads that are left, and the others
threads_listing_step : (t : ℕ) (rs : List RecordedThread) (r : RecordedThread) → t < length rs → r ≡ get_or rs t r
    → threads_listing t (drop t rs) ≡ thread_listing t r ++ threads_listing (t + 1) (drop (t + 1) rs)
unfolding threads_listing
threads_listing_step t rs r some e = at_drop_more (threads_listing t) rs t r some
    ∙ ap (λ (x : RecordedThread). thread_listing t x ++ threads_listing (t + 1) (drop (t + 1) rs)) (sym e)

-- one thread more
pub buffered_listing : (a b c : Option (List ℕ)) (t : ℕ) (rs : List RecordedThread) (r : RecordedThread) (text : List ℕ) → t < length rs
    → r ≡ get_or rs t r → Buffered a b (threads_listing t (drop t rs)) text → Appends b c (thread_listing t r)
    → Buffered a c (threads_listing (t + 1) (drop (t + 1) rs)) text
buffered_listing a b c t rs r text some e f done = record {
  part = f.part ++ thread_listing t r;
  written = Appends-trans a b c f.part (thread_listing t r) f.written done;
  others = append_assoc f.part (thread_listing t r) (threads_listing (t + 1) (drop (t + 1) rs))
      ∙ ap (λ (x : List ℕ). f.part ++ x) (sym (threads_listing_step t rs r some e)) ∙ f.others;
}

-- all threads
pub listing_appended_at_end : (a b : Option (List ℕ)) (t : ℕ) (rs : List RecordedThread) (text : List ℕ) → length rs ≤ t
    → Buffered a b (threads_listing t (drop t rs)) text → Appends a b text
unfolding threads_listing
listing_appended_at_end a b t rs text none f =
    subst (Appends a b) (sym (append-nil f.part)
    ∙ ap (λ (x : List ℕ). f.part ++ x) (sym (at_drop_all (threads_listing t) rs t none)) ∙ f.others) f.written

-- a part of one thread more
prefix_in_listing : (a b c : Option (List ℕ)) (t : ℕ) (rs : List RecordedThread) (r : RecordedThread) (text : List ℕ) → t < length rs
    → r ≡ get_or rs t r → Buffered a b (threads_listing t (drop t rs)) text → AppendsPrefix b c (thread_listing t r)
    → AppendsPrefix a c text
prefix_in_listing a b c t rs r text some e f prefix =
    let rest : List ℕ = threads_listing (t + 1) (drop (t + 1) rs) in
    subst (AppendsPrefix a c) (append_assoc f.part (thread_listing t r) rest
    ∙ ap (λ (x : List ℕ). f.part ++ x) (sym (threads_listing_step t rs r some e)) ∙ f.others)
    (appends_prefix_longer a c (f.part ++ thread_listing t r) rest (appends_prefix_append a b c f.part (thread_listing t r) f.written prefix))

pub stopped_in_listing : (e : PastErr) (a b c : Option (List ℕ)) (failed : Bool) (t : ℕ) (rs : List RecordedThread) (r : RecordedThread)
    (text : List ℕ) → t < length rs → r ≡ get_or rs t r → Buffered a b (threads_listing t (drop t rs)) text
    → Stops e (writer_of b c failed) (thread_listing t r) → Stops e (writer_of a c failed) text
stopped_in_listing err.NoMem a b c failed t rs r text some e f h = (prefix_in_listing a b c t rs r text some e f h.0, h.1)
stopped_in_listing err.Write a b c failed t rs r text some e f h = (prefix_in_listing a b c t rs r text some e f h.0, h.1)

-- ---- after the first line

pub header_line_by_parts : (threads others : List RecordedThread) (objects objects' budget budget' : ℕ) (profile profile' : Profile) → threads ≡ others
    → objects ≡ objects' → budget ≡ budget' → profile ≡ profile'
    → header_line (length threads) objects budget profile ≡ header_line (length others) objects' budget' profile'
header_line_by_parts threads others objects objects' budget budget' profile profile' e o b p = λ i. header_line (length (e i)) (o i) (b i) (p i)

pub stops_in_listing : {A : Type 0} (result : Result A PastErr) (a b c : Option (List ℕ)) (failed : Bool) (bytes first : List ℕ)
    (threads others : List RecordedThread) → bytes ≡ first → threads ≡ others → Appends a b bytes
    → IfErr result (λ e. Stops e (writer_of b c failed) (threads_listing 0 threads))
    → IfErr result (λ e. Stops e (writer_of a c failed) (first ++ threads_listing 0 others))
stops_in_listing result a b c failed bytes first threads others same e done h =
    subst (λ (rs : List RecordedThread). IfErr result (λ e. Stops e (writer_of a c failed) (first ++ threads_listing 0 rs))) e
    (failed_stops_after_part result a b c failed bytes first (threads_listing 0 threads) same done h)
