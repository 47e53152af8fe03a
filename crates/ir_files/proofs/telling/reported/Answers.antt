use Rattle.std.proofs.Common.{◌≡◌, ◌++◌, List, ℕ, [], ◌∷◌, sym, subst, ◌∙◌, append_assoc}
use Rattle.std.specs.Prelude.{Option, codes}
use Rattle.std.specs.Io.KnownBytes.{Appends}
use Rattle.std.proofs.KnownBytes.{Appends-trans}
use Rattle.ir_stream.specs.Writing.{WritesText}
use Rattle.ir_stream.proofs.CallerLemmas.{appends_prefix_longer, writes_or_fails_error, writes_text_after_part}
use Rattle.ir_files.specs.Writers.{named_fault}
use Rattle.ir_files.specs.Shown.{shown}
use Rattle.ir_files.proofs.Shown.{append_reassociated, part_prefix_of_whole}
use Rattle.ir_files.proofs.telling.reported.Goals as goal

-- how far each part is in the whole
at_before : (lead before name what why end : List ℕ) → lead ++ ((before ++ (name ++ (what ++ why))) ++ end)
    ≡ (lead ++ before) ++ ((name ++ (what ++ why)) ++ end)
at_before lead before name what why end = append_reassociated lead before (name ++ (what ++ why)) end

at_name : (lead before name what why end : List ℕ) → lead ++ ((before ++ (name ++ (what ++ why))) ++ end)
    ≡ ((lead ++ before) ++ name) ++ ((what ++ why) ++ end)
at_name lead before name what why end = at_before lead before name what why end ∙ append_reassociated (lead ++ before) name (what ++ why) end

at_what : (lead before name what why end : List ℕ) → lead ++ ((before ++ (name ++ (what ++ why))) ++ end)
    ≡ (((lead ++ before) ++ name) ++ what) ++ (why ++ end)
at_what lead before name what why end = at_name lead before name what why end ∙ append_reassociated ((lead ++ before) ++ name) what why end

at_why : (lead before name what why end : List ℕ) → lead ++ ((before ++ (name ++ (what ++ why))) ++ end)
    ≡ ((((lead ++ before) ++ name) ++ what) ++ why) ++ end
at_why lead before name what why end = at_what lead before name what why end
    ∙ sym (append_assoc (((lead ++ before) ++ name) ++ what) why end)

pub returns-in_err-write_all : goal.returns-in_err-write_all
returns-in_err-write_all g c = writes_or_fails_error _ c.from_residual.result c.from_residual.ensures.1
    (appends_prefix_longer (g.E.Sink.written c.args.faults.now) (g.E.Sink.written c.write_all.new.writer) (codes "ir: ")
    (named_fault c.args.before.now c.args.name.now c.args.what.now c.args.why.now ++ 10 ∷ []) c.in_err-write_all.ensures.prefix)
    c.in_err-write_all.ensures.err

pub returns-in_err-write_all-2 : goal.returns-in_err-write_all-2
returns-in_err-write_all-2 g c = writes_or_fails_error _ c.from_residual-in_err-write_all-2.result c.from_residual-in_err-write_all-2.ensures.1
    (part_prefix_of_whole (g.E.Sink.written c.args.faults.now) (g.E.Sink.written c.write_all.new.writer) (g.E.Sink.written c.write_all-2.new.writer)
    (codes "ir: ") c.args.before.now _ _
    (at_before (codes "ir: ") c.args.before.now (shown c.args.name.now) c.args.what.now (shown c.args.why.now) (10 ∷ []))
    c.in_ok-write_all.ensures.ok (rw c.as_bytes.ensures.value at c.in_err-write_all-2.ensures.prefix))
    c.in_err-write_all-2.ensures.err

-- what was written, up to the name, up to what is wrong, and up to why
to_name : (a b c d : Option (List ℕ)) (lead before name : List ℕ) → Appends a b lead → Appends b c before → Appends c d name
    → Appends a d ((lead ++ before) ++ name)
to_name a b c d lead before name p q r = Appends-trans a c d (lead ++ before) name (Appends-trans a b c lead before p q) r

to_what : (a b c d e : Option (List ℕ)) (lead before name what : List ℕ) → Appends a b lead → Appends b c before → Appends c d name
    → Appends d e what → Appends a e (((lead ++ before) ++ name) ++ what)
to_what a b c d e lead before name what p q r s = Appends-trans a d e ((lead ++ before) ++ name) what
    (to_name a b c d lead before name p q r) s

pub returns-in_err-put_shown : goal.returns-in_err-put_shown
returns-in_err-put_shown g c = writes_or_fails_error _ c.from_residual-in_err-put_shown.result c.from_residual-in_err-put_shown.ensures.1
    (part_prefix_of_whole (g.E.Sink.written c.args.faults.now) (g.E.Sink.written c.write_all-2.new.writer) (g.E.Sink.written c.put_shown.new.faults)
    (codes "ir: " ++ c.args.before.now) (shown c.args.name.now) _ _
    (at_name (codes "ir: ") c.args.before.now (shown c.args.name.now) c.args.what.now (shown c.args.why.now) (10 ∷ []))
    (Appends-trans (g.E.Sink.written c.args.faults.now) (g.E.Sink.written c.write_all.new.writer) (g.E.Sink.written c.write_all-2.new.writer)
    (codes "ir: ") c.args.before.now c.in_ok-write_all.ensures.ok (rw c.as_bytes.ensures.value at c.in_ok-write_all-2.ensures.ok))
    c.in_err-put_shown.ensures.prefix)
    c.in_err-put_shown.ensures.err

pub returns-in_err-write_all-3 : goal.returns-in_err-write_all-3
returns-in_err-write_all-3 g c = writes_or_fails_error _ c.from_residual-in_err-write_all-3.result c.from_residual-in_err-write_all-3.ensures.1
    (part_prefix_of_whole (g.E.Sink.written c.args.faults.now) (g.E.Sink.written c.put_shown.new.faults) (g.E.Sink.written c.write_all-3.new.writer)
    ((codes "ir: " ++ c.args.before.now) ++ shown c.args.name.now) c.args.what.now _ _
    (at_what (codes "ir: ") c.args.before.now (shown c.args.name.now) c.args.what.now (shown c.args.why.now) (10 ∷ []))
    (to_name (g.E.Sink.written c.args.faults.now) (g.E.Sink.written c.write_all.new.writer) (g.E.Sink.written c.write_all-2.new.writer)
    (g.E.Sink.written c.put_shown.new.faults) (codes "ir: ") c.args.before.now (shown c.args.name.now) c.in_ok-write_all.ensures.ok
    (rw c.as_bytes.ensures.value at c.in_ok-write_all-2.ensures.ok) c.in_ok-put_shown.ensures.ok)
    (rw c.as_bytes-2.ensures.value at c.in_err-write_all-3.ensures.prefix))
    c.in_err-write_all-3.ensures.err

pub returns-in_err-put_shown-2 : goal.returns-in_err-put_shown-2
returns-in_err-put_shown-2 g c = writes_or_fails_error _ c.from_residual-in_err-put_shown-2.result c.from_residual-in_err-put_shown-2.ensures.1
    (part_prefix_of_whole (g.E.Sink.written c.args.faults.now) (g.E.Sink.written c.write_all-3.new.writer) (g.E.Sink.written c.put_shown-2.new.faults)
    (((codes "ir: " ++ c.args.before.now) ++ shown c.args.name.now) ++ c.args.what.now) (shown c.args.why.now) (10 ∷ []) _
    (at_why (codes "ir: ") c.args.before.now (shown c.args.name.now) c.args.what.now (shown c.args.why.now) (10 ∷ []))
    (to_what (g.E.Sink.written c.args.faults.now) (g.E.Sink.written c.write_all.new.writer) (g.E.Sink.written c.write_all-2.new.writer)
    (g.E.Sink.written c.put_shown.new.faults) (g.E.Sink.written c.write_all-3.new.writer) (codes "ir: ") c.args.before.now
    (shown c.args.name.now) c.args.what.now c.in_ok-write_all.ensures.ok
    (rw c.as_bytes.ensures.value at c.in_ok-write_all-2.ensures.ok) c.in_ok-put_shown.ensures.ok
    (rw c.as_bytes-2.ensures.value at c.in_ok-write_all-3.ensures.ok))
    c.in_err-put_shown-2.ensures.prefix)
    c.in_err-put_shown-2.ensures.err

pub returns : goal.returns
returns g c = subst (λ z. WritesText g.E.Sink.written g.E.Sink.broken c.args.faults.now c.write_all-4.new.writer z c.write_all-4.result)
    (sym (at_why (codes "ir: ") c.args.before.now (shown c.args.name.now) c.args.what.now (shown c.args.why.now) (10 ∷ [])))
    (writes_text_after_part g.E.Sink.written ((((codes "ir: " ++ c.args.before.now) ++ shown c.args.name.now) ++ c.args.what.now) ++ shown c.args.why.now)
    (10 ∷ []) c.write_all-4.result
    (Appends-trans (g.E.Sink.written c.args.faults.now) (g.E.Sink.written c.write_all-3.new.writer) (g.E.Sink.written c.put_shown-2.new.faults)
    (((codes "ir: " ++ c.args.before.now) ++ shown c.args.name.now) ++ c.args.what.now) (shown c.args.why.now)
    (to_what (g.E.Sink.written c.args.faults.now) (g.E.Sink.written c.write_all.new.writer) (g.E.Sink.written c.write_all-2.new.writer)
    (g.E.Sink.written c.put_shown.new.faults) (g.E.Sink.written c.write_all-3.new.writer) (codes "ir: ") c.args.before.now
    (shown c.args.name.now) c.args.what.now c.in_ok-write_all.ensures.ok
    (rw c.as_bytes.ensures.value at c.in_ok-write_all-2.ensures.ok) c.in_ok-put_shown.ensures.ok
    (rw c.as_bytes-2.ensures.value at c.in_ok-write_all-3.ensures.ok))
    c.in_ok-put_shown-2.ensures.ok)
    (c.in_ok-put_shown-2.ensures.stays ∙ c.in_ok-write_all-3.ensures.stays ∙ c.in_ok-put_shown.ensures.stays ∙ c.in_ok-write_all-2.ensures.stays
    ∙ c.in_ok-write_all.ensures.stays) c.write_all-4.ensures)
