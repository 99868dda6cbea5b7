use Rattle.std.proofs.Common.{◌<◌, ◌+◌, length, get_or, sym, subst, arith, rules}
use Rattle.delta_table.proofs.VersionRuns.{IsRunBefore, rising, run_anew, run_begins, run_ends, run_on}
use Rattle.delta_table.proofs.versions.last_run.Goals.{then-version-newest, else-version-newest}
use Rattle.delta_table.proofs.versions.last_run.Goals as goal

pub loop-version-init : goal.loop-version-init
loop-version-init c =
    let some : 0 < length c.args.versions.now = search rules in
    run_begins c.args.versions.now (rising c.args.versions.now c.requires.sorted) some

pub loop-version-preserved : goal.loop-version-preserved
loop-version-preserved c =
    let xs = c.args.versions.now in
    let up = rising xs c.requires.sorted in
    let i = c.loop-version.version-index in
    let was = c.loop-version.invariant in
    let here : i < length xs = c.loop-version-test.true in
    elim c.if-version-newest.branch [
      | then-version-newest w ↦
          subst (λ n. IsRunBefore xs (i + 1) n c.if-version-newest.first) (sym w.newest-is)
          (subst (λ f. IsRunBefore xs (i + 1) (get_or xs i 0) f) (sym w.first-is) (run_anew xs up i c.loop-version.newest c.loop-version.first was here w.if-version-newest.true))
      | else-version-newest w ↦
          subst (λ n. IsRunBefore xs (i + 1) n c.if-version-newest.first) (sym w.newest-is)
          (subst (λ f. IsRunBefore xs (i + 1) (get_or xs i 0) f) (sym w.first-is) (run_on xs up i c.loop-version.newest c.loop-version.first was here w.if-version-newest.false))
    ]

pub returns : goal.returns
returns c = run_ends c.args.versions.now c.loop-version.version-index c.loop-version.newest c.loop-version.first (let past = c.loop-version-test.false in omega (arith, past)) c.loop-version.invariant
