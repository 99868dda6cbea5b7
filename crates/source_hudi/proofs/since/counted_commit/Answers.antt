use Rattle.source_hudi.proofs.since.counted_commit.Goals as goal

pub returns-clause-next : goal.returns-clause-next
returns-clause-next c files says = (
  record { position = c.in_ok-commit.ensures.position; instant = c.args.said.now; says = says; change = c.in_ok-commit.ensures.found },
  c.in_ok-actions.ensures.counted,
)
