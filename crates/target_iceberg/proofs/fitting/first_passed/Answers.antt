use Rattle.std.proofs.Common.{◌≡◌, ◌<◌, ◌+◌, ℕ, true, false, List, drop, nat_eq, arith, subst}
use Rattle.std.proofs.lemmas.Bool.Decides.{nat_tests}
use Rattle.std.proofs.lemmas.Int.{ints}
use Rattle.std.proofs.lemmas.List.{drop_all}
use Rattle.table_history.specs.declared.table.Commit.{Commit}
use Rattle.target_iceberg.specs.Fitting.{state_of}
use Rattle.target_iceberg.specs.Following.{IsPassed}
use Rattle.target_iceberg.specs.Newest.{shape_at}
use Rattle.target_iceberg.proofs.FollowLemmas.{AtCommit, at_start, changes_here, no_commits_left, passed_on, ready}
use Rattle.target_iceberg.proofs.fitting.first_passed.Goals as goal
use Rattle.lake_basics.proofs.Lists.{next_of}

is_zero : (n : ℕ) → nat_eq n 0 ≡ true → n ≡ 0
is_zero n is = grind (arith, nat_tests)

is_some : (n : ℕ) → nat_eq n 0 ≡ false → 0 < n
is_some n is = grind (arith, nat_tests)

pub loop-place-init : goal.loop-place-init
loop-place-init c = record {
  at = at_start (state_of c.args.kept.now) (shape_at c.args.held.now.newest) c.args.held.now.current c.args.held.now.count c.args.commits.now c.requires.held;
  few = omega (arith, ints, c.requires.count);
}

pub loop-place-preserved : goal.loop-place-preserved
loop-place-preserved c =
    let commits = c.args.commits.now in
    let place = c.loop-place.place in
    let commit : Commit = c.index-commits-place.result in
    let held = c.loop-place.held in
    let rest = drop (place + 1) commits in
    let at = subst (λ (l : List Commit). AtCommit (state_of c.args.kept.now) c.args.kept.now.table.schema place (shape_at held.newest) held.current held.count commits l) (next_of commits place commit c.loop-place-test.true c.index-commits-place.is) c.loop-place.invariant.at in
    let passed = subst (λ o. IsPassed (shape_at c.pass.new.self.newest) c.pass.new.self.current c.pass.new.self.count at.here commit o) c.in_default.is
    (c.in_ok-name.ensures.passed at.here at.held (ready (state_of c.args.kept.now) c.args.kept.now.table.schema place (shape_at held.newest) held.current held.count commits commit rest at (nat_eq place 0) (is_zero place) (is_some place))) in
    record {
      at = passed_on (state_of c.args.kept.now) c.args.kept.now.table.schema place (shape_at held.newest) held.current held.count commits commit rest at (shape_at c.pass.new.self.newest) c.pass.new.self.current c.pass.new.self.count passed.0 passed.1;
      few = omega (arith, ints, c.loop-place.invariant.few, c.in_ok-name.ensures.count);
    }

pub returns-in-Some : goal.returns-in-Some
returns-in-Some c =
    let commits = c.args.commits.now in
    let place = c.loop-place.place in
    let commit : Commit = c.index-commits-place.result in
    let held = c.loop-place.held in
    let rest = drop (place + 1) commits in
    let at = subst (λ (l : List Commit). AtCommit (state_of c.args.kept.now) c.args.kept.now.table.schema place (shape_at held.newest) held.current held.count commits l) (next_of commits place commit c.loop-place-test.true c.index-commits-place.is) c.loop-place.invariant.at in
    changes_here (state_of c.args.kept.now) c.args.kept.now.table.schema place (shape_at held.newest) held.current held.count commits commit rest at c.in-Some.name
    (subst (λ o. IsPassed (shape_at c.pass.new.self.newest) c.pass.new.self.current c.pass.new.self.count at.here commit o) c.in-Some.is
    (c.in_ok-name.ensures.passed at.here at.held (ready (state_of c.args.kept.now) c.args.kept.now.table.schema place (shape_at held.newest) held.current held.count commits commit rest at (nat_eq place 0) (is_zero place) (is_some place))))

pub returns : goal.returns
returns c =
    no_commits_left (state_of c.args.kept.now) c.args.kept.now.table.schema c.loop-place.place (shape_at c.loop-place.held.newest) c.loop-place.held.current c.loop-place.held.count c.args.commits.now (drop c.loop-place.place c.args.commits.now)
    (drop_all c.loop-place.place c.args.commits.now c.loop-place-test.false) c.loop-place.invariant.at
