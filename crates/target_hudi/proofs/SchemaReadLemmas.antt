-- The schema that an instant states is read as the one behind the commit.
use Rattle.std.proofs.Common.{◌≡◌, ℕ, List, [], ◌∷◌, Option, None, Some, Ok, Err, refl, sym, ap, subst, ◌∙◌}
use Rattle.std.specs.Prelude.{unwrap_or, Result}
use Rattle.lake_basics.specs.Outcome.{◌>>=◌}
use Rattle.table_history.specs.SchemaSize.{IsWithinLimits}
use Rattle.table_history.specs.Sound.{IsSound}
use Rattle.table_history.specs.TypeTree.{ColumnTrees}
use Rattle.table_history.specs.declared.limit.LimitKind.{LimitKind}
use Rattle.table_history.specs.declared.table.Table.{Table}
use Rattle.schema_avro.specs.Avro.{avro_schema_of, limited_avro_schema_of, unless_limit}
use Rattle.schema_avro.specs.AvroWriting.{avro_schema_text, avro_text}
use Rattle.schema_map.specs.Image.{wide_columns}
use Rattle.schema_map.specs.Limits.{schema_limit}
use Rattle.schema_map.specs.declared.fault.MapError.{MapError}
use Rattle.schema_avro.proofs.AvroRead.{limited_found}
use Rattle.schema_avro.proofs.AvroRefused.{avro_said}
use Rattle.hudi_timeline.specs.Schemas.{schema_after, stated_schema}
use Rattle.target_hudi.specs.Fitting.{Held}
use Rattle.target_hudi.specs.Steps.{IsBase}
use Rattle.target_hudi.specs.Writing.{IsReadBack, IsStatedText, held_behind}

-- what is read within the limits is read
unlimited : (text : List ℕ) (schema : ColumnTrees) → limited_avro_schema_of text ≡ Ok schema → avro_schema_of text ≡ Ok schema
unlimited text schema is = by (avro_schema_of text) refl is
  where
    within : (found : ColumnTrees) (which : Option LimitKind) → unless_limit which found ≡ Ok schema → found ≡ schema
    within found None e = cc
    within found (Some which) e = absurd (cc)

    by : (read : Result ColumnTrees MapError) → avro_schema_of text ≡ read → (read >>= λ cs. unless_limit (schema_limit cs) cs) ≡ Ok schema → avro_schema_of text ≡ Ok schema
    by (Ok found) read e = read ∙ ap Ok (within found (schema_limit found) e)
    by (Err fault) read e = absurd (cc)

-- the text states the schema in Hudi's types
text_states : (text : List ℕ) (plain schema : ColumnTrees) → text ≡ avro_text plain → avro_schema_of text ≡ Ok schema → stated_schema (Some text) ≡ Ok (Some schema)
text_states [] plain schema said is = absurd (cc (said))
text_states (b ∷ bs) plain schema said is = ap (λ (read : Result ColumnTrees MapError). read >>= λ found. Ok (Some found)) is

-- What the text states, and the schema behind the instant.
pub record IsSchemaRead (text : Option (List ℕ)) (base : Option Table) (behind : ColumnTrees) : Type 0 where
  pub stated : Option ColumnTrees
  pub states : stated_schema text ≡ Ok stated
  pub after : schema_after (Ok stated) base ≡ Some behind
  pub sound : (schema : ColumnTrees) → stated ≡ Some schema → IsSound schema

-- the schema before the commit is in Hudi's types
pub base_wide : (before : Table) (held : Option Held) (base : Option Table) → IsBase before held base → wide_columns before.schema ≡ before.schema
base_wide before held None is = (λ i. wide_columns (is.0 i).schema) ∙ (λ i. (sym is.0 i).schema)
base_wide before held (Some table) is = is.2

-- so is the one behind it
pub behind_wide : (before : ColumnTrees) (stated : Option ColumnTrees) → wide_columns before ≡ before → held_behind stated before ≡ wide_columns (unwrap_or stated before)
behind_wide before None wide = sym wide
behind_wide before (Some schema) wide = refl

module _ (before : Table) (held : Option Held) (base : Option Table) (is_base : IsBase before held base) (change : Option ColumnTrees)
    (spelled : (schema : ColumnTrees) (e : MapError) → change ≡ Some schema → avro_schema_text schema ≡ Err e → ⊥)
    (sound : IsSound (unwrap_or change before.schema)) (limits : IsWithinLimits (unwrap_or change before.schema)) where
  -- where no text is written, the schema before has none, and stays
  not_stated : (base : Option Table) → IsBase before held base → (change : Option ColumnTrees) → ((schema : ColumnTrees) (e : MapError) → change ≡ Some schema → avro_schema_text schema ≡ Err e → ⊥)
      → (e : MapError) → avro_schema_text (unwrap_or change before.schema) ≡ Err e → IsSchemaRead None base (held_behind change before.schema)
  not_stated base is (Some schema) spelled e refused = absurd (spelled schema e refl refused)
  not_stated None is None spelled e refused =
      let wrong : avro_schema_text (unwrap_or None before.schema) ≡ Ok _ = λ i. avro_schema_text (is.0 i).schema in
      absurd (cc)
  not_stated (Some table) is None spelled e refused = record {
    stated = None;
    states = refl;
    after = ap (λ (t : Table). Some t.schema) is.0;
    sound = λ schema none. absurd (cc);
  }

  pub schema_read : (text : Option (List ℕ)) → IsStatedText (unwrap_or change before.schema) text → IsReadBack (unwrap_or change before.schema) text → IsSchemaRead text base (held_behind change before.schema)
  schema_read None written back = not_stated base is_base change spelled written.0 written.1
  schema_read (Some text) written back =
      let wide = wide_columns (unwrap_or change before.schema) in
      let limited = back sound limits in
      record {
        stated = Some wide;
        states = text_states text (unwrap_or change before.schema) wide (avro_said (unwrap_or change before.schema) text written) (unlimited text wide limited);
        after = ap Some (sym (behind_wide before.schema change (base_wide before held base is_base)));
        sound = λ schema same. let is : wide ≡ schema = cc in subst IsSound is (limited_found text wide limited).1;
      }
