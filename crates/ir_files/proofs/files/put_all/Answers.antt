use Rattle.std.proofs.Common.{◌≡◌, ◌-◌, ◌++◌, List, ℕ, length, take, drop, sym, ap, ◌∙◌, append_assoc, take-append-drop, arith, length-drop}
use Rattle.std.specs.Prelude.{Option}
use Rattle.std.proofs.lemmas.List.{take_all}
use Rattle.std.specs.Io.KnownBytes.{Appends}
use Rattle.std.proofs.KnownBytes.{Appends-trans}
use Rattle.ir_files.proofs.files.put_all.Goals as goal

one_more : (a b c : Option (List ℕ)) (bytes done rest : List ℕ) (n : ℕ) → bytes ≡ done ++ rest → Appends a b done
    → Appends b c (take n rest) → (x : List ℕ) × (bytes ≡ x ++ take (length rest - n) (drop n rest)) × Appends a c x
one_more a b c bytes done rest n e p q =
    let all : take (length rest - n) (drop n rest) ≡ drop n rest =
    take_all (length rest - n) (drop n rest) (omega (arith, length-drop n rest)) in (
      done ++ take n rest,
      e ∙ ap (λ (r : List ℕ). done ++ r) (sym (take-append-drop n rest) ∙ ap (λ (r : List ℕ). take n rest ++ r) (sym all))
          ∙ sym (append_assoc done (take n rest) (take (length rest - n) (drop n rest))),
      Appends-trans a b c done (take n rest) p q,
    )

pub loop-rest-preserved : goal.loop-rest-preserved
loop-rest-preserved g c =
    let more = one_more (g.D.Folder.known c.args.file.now).bytes (g.D.Folder.known c.loop-rest.file).bytes (g.D.Folder.known c.put.new.file).bytes
    c.args.bytes.now c.loop-rest.invariant.0 c.loop-rest.rest.now c.in_ok-n.n c.loop-rest.invariant.1 c.loop-rest.invariant.2
    c.in_ok-n.ensures.bytes in
    (more.0, more.1, more.2, c.in_ok-n.ensures.path ∙ c.loop-rest.invariant.3)
