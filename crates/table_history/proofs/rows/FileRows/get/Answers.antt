use Rattle.std.proofs.Common.{◌≡◌, None, Some, sym, ap, ◌∙◌, subst}
use Rattle.std.specs.Option.{option_copied}
use Rattle.table_history.specs.Rows.{row_at, HasDistinctPaths}
use Rattle.table_history.proofs.RowListLemmas.{row_at-none, row_at-found}
use Rattle.table_history.proofs.RowSetLemmas.{row_at-find, distinct_paths}
use Rattle.table_history.proofs.rows.FileRows.get.Goals as goal

missing : (c : goal.After-from_residual) → None ≡ row_at c.args.self.now c.args.path.now
missing c = c.in_err-held.ensures.key ∙ row_at-find c.self.inside.rows.keys c.args.path.now ∙ ap (λ rows. row_at rows c.args.path.now) c.self.view_is

found : (c : goal.After-held) → Some c.held.inside.row ≡ row_at c.args.self.now c.args.path.now
found c = ap Some c.held.view_is ∙ c.in_ok-held.ensures.key ∙ row_at-find c.self.inside.rows.keys c.args.path.now ∙ ap (λ rows. row_at rows c.args.path.now) c.self.view_is

pub returns-in_err-held-clause-value : goal.returns-in_err-held-clause-value
returns-in_err-held-clause-value c = ap option_copied c.from_residual.ensures ∙ missing c

pub returns-in_err-held-clause-cases : goal.returns-in_err-held-clause-cases
returns-in_err-held-clause-cases c = rw c.from_residual.ensures (row_at-none c.args.self.now c.args.path.now (sym (missing c)))

pub returns-clause-value : goal.returns-clause-value
returns-clause-value c = found c

pub returns-clause-cases : goal.returns-clause-cases
returns-clause-cases c = row_at-found c.args.self.now c.args.path.now c.held.inside.row (sym (found c))

pub returns-in_err-held-clause-distinct : goal.returns-in_err-held-clause-distinct
returns-in_err-held-clause-distinct c = subst HasDistinctPaths c.self.view_is (distinct_paths c.self.inside.rows.keys c.self.invariant)

pub returns-clause-distinct : goal.returns-clause-distinct
returns-clause-distinct c = subst HasDistinctPaths c.self.view_is (distinct_paths c.self.inside.rows.keys c.self.invariant)
