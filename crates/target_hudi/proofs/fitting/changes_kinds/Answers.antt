use Rattle.std.proofs.Common.{◌≡◌, ◌+◌, List, Option, Some, drop, sym, ap, subst, ◌∙◌, ⊎_elim}
use Rattle.std.specs.Prelude.{option_map}
use Rattle.std.proofs.lemmas.Bool.{false≢true}
use Rattle.partition_map.specs.declared.kind.PartKind.{PartKind}
use Rattle.table_history.specs.declared.table.Commit.{Commit}
use Rattle.target_hudi.proofs.FittingLemmas.{AtStep, kinds_cases, step_none, step_some}
use Rattle.target_hudi.proofs.fitting.changes_kinds.Goals as goal
use Rattle.target_hudi.proofs.fitting.changes_kinds.Goals.{in-Some+in_ok-stated+else-are_other_kinds, in_default}
use Rattle.lake_basics.proofs.Lists.{next_of}

pub loop-commit-preserved : goal.loop-commit-preserved
loop-commit-preserved c = λ before are.
    let i = c.loop-commit.commit-index in
    let names = c.args.names.now in
    let commits = c.args.commits.now in
    let commit : Commit = c.commit-item.result in
    let kinds = option_map (λ k. k.items) c.loop-commit.newest in
    let rest = drop (i + 1) commits in
    let at = subst (λ (l : List Commit). AtStep names kinds before commits l) (next_of commits i commit c.loop-commit-test.true c.commit-item.is) (c.loop-commit.invariant before are) in
    elim c.match-commit.branch [
      | in-Some+in_ok-stated+else-are_other_kinds w ↦
          let stated = w.in_ok-stated.stated.items in
          let same : (old : List (Option PartKind)) → kinds ≡ Some old → old ≡ stated = λ old is.
          ⊎_elim (λ one. one) (λ apart. absurd (false≢true (sym w.if-are_other_kinds.false ∙ w.are_other_kinds.ensures.1 (old, is, λ one. apart (one ∙ w.as_slice.ensures.value))))) (kinds_cases old stated) in
          subst (λ k. AtStep names k before commits rest) (sym (ap (option_map (λ k. k.items)) w.newest-is))
          (step_some names kinds before commits commit rest at w.in-Some.schema w.in-Some.is stated w.in_ok-stated.ensures same)
      | in_default w ↦
          subst (λ k. AtStep names k before commits rest) (sym (ap (option_map (λ k. k.items)) w.newest-is))
          (step_none names kinds before commits commit rest at w.in_default.is)
    ]
