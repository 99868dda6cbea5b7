-- The schema that holds after an instant, and the kinds of the partition columns in it.
use Rattle.std.specs.Prelude.{◌≡◌, ℕ, List, [], ◌∷◌, map, Option, Some, None, option_map, Result, Ok, Err}
use Rattle.lake_basics.specs.Outcome.{◌>>=◌}
use Rattle.table_history.specs.TypeTree.{ColumnTrees}
use Rattle.table_history.specs.declared.table.Table.{Table}
use Rattle.schema_avro.specs.Avro.{avro_schema_of}
use Rattle.schema_map.specs.declared.fault.MapError.{MapError}
use Rattle.partition_map.specs.Columns.{column_kind}
use Rattle.partition_map.specs.declared.kind.PartKind.{PartKind}

-- ---- the schema

abbrev pub spelled_schema : List ℕ → Result (Option ColumnTrees) MapError
spelled_schema text = avro_schema_of text >>= λ schema. Ok (Some schema)

-- What the text of an instant states: nothing where it is absent or empty, or else the schema that it spells.
abbrev pub stated_schema : Option (List ℕ) → Result (Option ColumnTrees) MapError
stated_schema None = Ok None
stated_schema (Some []) = Ok None
stated_schema (Some (b ∷ bs)) = spelled_schema (b ∷ bs)

-- The schema that is stated, or else that of the table before. A text that can't be read leaves none.
abbrev pub schema_after : Result (Option ColumnTrees) MapError → Option Table → Option ColumnTrees
schema_after (Err fault) base = None
schema_after (Ok (Some schema)) base = Some schema
schema_after (Ok None) base = option_map (λ t. t.schema) base

-- ---- partition columns

-- the kinds of these columns, in their order
abbrev pub AreKindsOf : ColumnTrees → List (List ℕ) → List PartKind → Type 0
AreKindsOf schema names kinds = map (column_kind schema) names ≡ map Some kinds
