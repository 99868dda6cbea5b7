use Rattle.std.proofs.Common.{◌∙◌, ap}
use Rattle.delta_log.specs.Judging.{commit_of}
use Rattle.delta_text.specs.Writing.{sorted_commit}
use Rattle.delta_text.proofs.AgainLemmas.{commit_again, same_again, writable_again}
use Rattle.delta_log.proofs.ReadableLemmas.{commit_readable}
use Rattle.delta_text.proofs.writing.commit_text.Goals as goal

pub returns-clause-reads_back : goal.returns-clause-reads_back
returns-clause-reads_back c =
    let commit = c.args.commit.now in (
      sorted_commit commit,
      ap commit_of (c.from_vec.ensures ∙ c.in_ok-commit_bytes.ensures.text) ∙ commit_again c.args.now_ms commit c.requires c.in_ok-commit_bytes.ensures.parts,
      same_again commit c.requires,
    )

pub returns-clause-readable : goal.returns-clause-readable
returns-clause-readable c =
    let commit = c.args.commit.now in
    let again = ap commit_of (c.from_vec.ensures ∙ c.in_ok-commit_bytes.ensures.text) ∙ commit_again c.args.now_ms commit c.requires c.in_ok-commit_bytes.ensures.parts in
    (sorted_commit commit, commit_readable c.from_vec.result (sorted_commit commit) again, writable_again commit c.requires, same_again commit c.requires)
