use Rattle.std.proofs.Common.{◌≡◌, ◌+◌, List, drop, refl, sym, ap, subst, ◌∙◌}
use Rattle.std.specs.Prelude.{IsTrue}
use Rattle.std.proofs.lemmas.Bool.{false≢true}
use Rattle.table_history.specs.declared.table.Commit.{Commit}
use Rattle.target_delta.proofs.KindLemmas.{AtStep, step_found, step_none, step_some}
use Rattle.target_delta.proofs.fitting.changes_kinds.Goals as goal
use Rattle.target_delta.proofs.fitting.changes_kinds.Goals.{in-Some+in_ok-stated+else-has_commit, else-has_commit-via-then-has_commit+else-not-are_same_kinds, else-has_commit-via-else-has_commit, in_default}
use Rattle.lake_basics.proofs.Lists.{next_of}

pub returns-then-not-are_same_kinds : goal.returns-then-not-are_same_kinds
returns-then-not-are_same_kinds c = λ end ends.
    let i = c.loop-commit.commit-index in
    let commits = c.args.commits.now in
    let commit : Commit = c.commit-item.result in
    let at = subst (λ (l : List Commit). AtStep c.args.names.now c.loop-commit.newest.items c.loop-commit.has_commit end commits l) (next_of commits i commit c.loop-commit-test.true c.commit-item.is) (c.loop-commit.invariant end ends) in (
      λ _. step_found c.args.names.now c.loop-commit.newest.items c.loop-commit.has_commit end commits commit (drop (i + 1) commits) at c.in-Some.schema c.in-Some.is c.in_ok-stated.stated.items c.in_ok-stated.ensures
          c.if-has_commit.true (λ same. false≢true (sym c.if-not-are_same_kinds.true ∙ c.are_same_kinds.ensures.1 (c.as_slice.ensures.value ∙ same ∙ sym c.as_slice-then-has_commit.ensures.value))),
      λ _. refl,
    )

pub loop-commit-preserved : goal.loop-commit-preserved
loop-commit-preserved c = λ end ends.
    let i = c.loop-commit.commit-index in
    let commits = c.args.commits.now in
    let commit : Commit = c.commit-item.result in
    let at = subst (λ (l : List Commit). AtStep c.args.names.now c.loop-commit.newest.items c.loop-commit.has_commit end commits l) (next_of commits i commit c.loop-commit-test.true c.commit-item.is) (c.loop-commit.invariant end ends) in
    let rest = drop (i + 1) commits in
    elim c.match-commit.branch [
      | in-Some+in_ok-stated+else-has_commit w ↦
          let same : IsTrue c.loop-commit.has_commit → c.loop-commit.newest.items ≡ w.in_ok-stated.stated.items = λ published. elim w.else-has_commit.branch [
            | else-has_commit-via-then-has_commit+else-not-are_same_kinds u ↦ sym u.as_slice.ensures.value ∙ u.are_same_kinds.ensures.0 u.if-not-are_same_kinds.false ∙ u.as_slice-then-has_commit.ensures.value
            | else-has_commit-via-else-has_commit u ↦ absurd (false≢true (sym u.if-has_commit.false ∙ published))
          ] in
          let items : c.match-commit.newest.items ≡ w.in_ok-stated.stated.items = ap (λ v. v.items) w.newest-is in
          subst (λ n. AtStep c.args.names.now n c.match-commit.has_commit end commits rest) (sym items)
          (subst (λ b. AtStep c.args.names.now w.in_ok-stated.stated.items b end commits rest) (sym w.has_commit-is)
          (step_some c.args.names.now c.loop-commit.newest.items c.loop-commit.has_commit end commits commit rest at w.in-Some.schema w.in-Some.is w.in_ok-stated.stated.items w.in_ok-stated.ensures same))
      | in_default w ↦
          let items : c.match-commit.newest.items ≡ c.loop-commit.newest.items = ap (λ v. v.items) w.newest-is in
          subst (λ n. AtStep c.args.names.now n c.match-commit.has_commit end commits rest) (sym items)
          (subst (λ b. AtStep c.args.names.now c.loop-commit.newest.items b end commits rest) (sym w.has_commit-is)
          (step_none c.args.names.now c.loop-commit.newest.items c.loop-commit.has_commit end commits commit rest at w.in_default.is))
    ]
