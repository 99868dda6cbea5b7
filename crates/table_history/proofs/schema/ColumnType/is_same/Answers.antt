use Rattle.std.proofs.Common.{◌∙◌, sym}
use Rattle.table_history.specs.SchemaView.{type_view}
use Rattle.table_history.specs.TypeEqLaws.{type_eq-Decides}
use Rattle.table_history.proofs.schema.ColumnType.is_same.Goals as goal

pub returns : goal.returns
returns c =
    let decides = type_eq-Decides (type_view c.args.self.now) (type_view c.args.other.now) in
    (λ t. decides.0 (sym c.same_type.ensures ∙ t), λ e. c.same_type.ensures ∙ decides.1 e)
