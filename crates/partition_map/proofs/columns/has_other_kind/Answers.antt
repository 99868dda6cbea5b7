use Rattle.std.proofs.Common.{◌≡◌, ℕ, List, sym, ap, ◌∙◌}
use Rattle.partition_map.specs.Columns.{column_kind, kind_in, has_other_kind}
use Rattle.partition_map.proofs.ColumnLemmas.{has_other_exactly, differ_as}
use Rattle.partition_map.proofs.columns.has_other_kind.Goals as goal

pub returns-clause-value : goal.returns-clause-value
returns-clause-value c =
    c.differ.ensures
    ∙ differ_as c.args.before.now c.args.after.now (kind_in c.in_ok-old.old) (kind_in c.in_ok-new.new)
    (λ (name : List ℕ). c.in_ok-old.ensures name ∙ ap (λ schema. column_kind schema name) c.columns.ensures)
    (λ (name : List ℕ). c.in_ok-new.ensures name ∙ ap (λ schema. column_kind schema name) c.columns-2.ensures)
    c.args.names.now

pub returns-clause-other : goal.returns-clause-other
returns-clause-other c =
    let value : c.differ.result ≡ has_other_kind c.args.before.now c.args.after.now c.args.names.now =
    c.differ.ensures
    ∙ differ_as c.args.before.now c.args.after.now (kind_in c.in_ok-old.old) (kind_in c.in_ok-new.new)
    (λ (name : List ℕ). c.in_ok-old.ensures name ∙ ap (λ schema. column_kind schema name) c.columns.ensures)
    (λ (name : List ℕ). c.in_ok-new.ensures name ∙ ap (λ schema. column_kind schema name) c.columns-2.ensures)
    c.args.names.now in
    let exactly = has_other_exactly c.args.before.now c.args.after.now c.args.names.now in
    (λ found. exactly.0 (sym value ∙ found), λ other. value ∙ exactly.1 other)
