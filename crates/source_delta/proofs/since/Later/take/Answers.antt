use Rattle.std.proofs.Common.{subst, ap, ◌+◌, ℕ}
use Rattle.std.proofs.lemmas.Option.{same_Some}
use Rattle.delta_change.specs.Change.{IsTableOfLog}
use Rattle.source_delta.proofs.since.Later.take.Goals as goal

pub returns-clause-next : goal.returns-clause-next
returns-clause-next c files reads = record {
  commit = c.in_ok-commit.commit;
  commits = c.in_ok-push.ensures.ok;
  is = record { says = c.args.says.now; read = reads; made = c.in_ok-commit.ensures.made; leads = c.in_ok-apply.ensures.ok };
  actions = ap (λ (n : ℕ). c.args.self.now.actions + n) c.len.ensures;
}

pub returns-clause-sound : goal.returns-clause-sound
returns-clause-sound c = record {
  commit = c.in_ok-commit.commit;
  commits = c.in_ok-push.ensures.ok;
  fits = c.in_ok-commit.ensures.goes_on.fits;
  leads = c.in_ok-apply.ensures.ok;
  leaves = λ is table after. c.in_ok-commit.ensures.goes_on.leaves (λ before same. subst IsTableOfLog (same_Some c.args.self.now.table before same) is) table after;
}
