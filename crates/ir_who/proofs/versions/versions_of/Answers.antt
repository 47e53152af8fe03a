use Rattle.std.proofs.Common.{◌≡◌, ◌∙◌, ◌+◌, ◌^◌, ◌≤◌, length, None, Vec, Global, sym, refl, subst, arith}
use Rattle.ir_past.specs.Tables.{maker_in}
use Rattle.ir_who.specs.Versions.{AreVersions}
use Rattle.ir_who.specs.declared.version.Version.{Version}
use Rattle.ir_who.proofs.Listed.{listed_next_version, unmade_listed_are_all, no_word_listed_are_all}
use Rattle.ir_who.proofs.versions.versions_of.Goals as goal
use Rattle.ir_who.proofs.versions.versions_of.Goals.{else-loop-version-test, then-loop-version-test+in-Some+in_ok-push-2+else-version-lt4294967295}

pub returns-in_default : goal.returns-in_default
returns-in_default c =
    let none : maker_in c.in_ok-makers.makers c.args.object c.loop-version.version ≡ None = sym c.get.ensures ∙ c.in_default.is in
    unmade_listed_are_all c.args.trace.now c.args.object c.loop-version.version (length c.args.trace.now.threads) c.in_ok-makers.makers
    c.loop-version.rows.items c.requires (omega arith) c.in_ok-makers.ensures.makes c.loop-version.invariant none

pub loop-version-preserved : goal.loop-version-preserved
loop-version-preserved c =
    listed_next_version c.args.trace.now c.args.object c.loop-version.version (length c.args.trace.now.threads) c.in_ok-makers.makers
    c.in-Some.place c.loop-version.rows.items c.push-in-loop-version.new.self.items _ c.in_ok-makers.ensures.makes c.loop-version.invariant
    (sym c.get.ensures ∙ c.in-Some.is) c.in_ok-push-2.ensures.items refl c.next_readers.ensures

pub returns : goal.returns
returns c = elim c.loop-version-test.branch [
  | else-loop-version-test w ↦ absurd (omega (arith, w.loop-version-test.false, c.loop-version.auto.version-end))
  | then-loop-version-test+in-Some+in_ok-push-2+else-version-lt4294967295 w ↦
      let r = c.args.trace.now in
      let o = c.args.object in
      let v = c.loop-version.version in
      let last : 2 ^ 32 ≤ v + 1 = omega arith in
      subst (λ (rows : Vec Version Global). AreVersions r o rows.items) (sym w.rows-is)
      (no_word_listed_are_all r o (v + 1) w.push-in-loop-version.new.self.items c.in_ok-makers.ensures.recorded last
      (listed_next_version r o v (length r.threads) c.in_ok-makers.makers w.in-Some.place c.loop-version.rows.items
      w.push-in-loop-version.new.self.items _ c.in_ok-makers.ensures.makes c.loop-version.invariant
      (sym w.get.ensures ∙ w.in-Some.is) w.in_ok-push-2.ensures.items refl w.next_readers.ensures))
]
