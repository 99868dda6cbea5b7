-- A schema in Hudi's types: its partition columns have the same kinds, it has the same text in Avro, and it may be published as well.
use Rattle.std.proofs.Common.{◌≡◌, ◌⊎◌, inl, inr, ℕ, ◌+◌, Bool, false, ◌&&◌, List, [], ◌∷◌, Option, Some, None, Result, Ok, Err, refl, sym, ap, subst, ◌∙◌, cond}
use Rattle.std.specs.Prelude.{◌↔◌, option_and_then, option_map}
use Rattle.serde_json.specs.Data.{Data, array}
use Rattle.serde_json.specs.View.{items_of}
use Rattle.serde_json.specs.Written.{compact_text}
use Rattle.avro_schema.specs.Tree.{SchemaTree, schema_tree, FieldTrees}
use Rattle.lake_basics.specs.Outcome.{FailsUnlessMemory}
use Rattle.table_history.specs.History.{FitColumns, FitsColumn, IsOfType, column_type}
use Rattle.table_history.specs.Sound.{AreSound, IsSoundType}
use Rattle.table_history.specs.TypeTree as tree
use Rattle.table_history.specs.TypeTree.{TypeTree, ColumnTrees, no_columns, column}
use Rattle.table_history.specs.declared.row.PartValue.{PartValue}
use Rattle.table_history.specs.declared.table.Table.{Table}
use Rattle.partition_map.specs.Columns.{column_kind}
use Rattle.partition_map.specs.Kind.{part_kind_of}
use Rattle.partition_map.proofs.KindLemmas.{of_same}
use Rattle.schema_avro.specs.Avro.{avro_schema_of}
use Rattle.schema_avro.specs.AvroSpelling.{AreAvroColumns, IsAvroType}
use Rattle.schema_avro.specs.AvroWriting.{avro_data, avro_fields, avro_field_data, avro_schema_text, avro_text, items_data, key_fault, name_fault, nullable_data, record_data, values_data}
use Rattle.schema_map.specs.Errors.{is_memory}
use Rattle.schema_map.specs.Image.{has_avro_names, has_text_keys, have_avro_names, have_text_keys, is_avro_name, is_text, wide_columns, wide_type}
use Rattle.schema_map.specs.declared.fault.MapError.{MapError}
use Rattle.schema_map.specs.declared.fault.MapError.TheVariants.{SchemaType, AvroName}
use Rattle.schema_avro.proofs.AvroRead.{avro_text_found}
use Rattle.schema_avro.proofs.AvroRefused.{avro_defined, avro_undefined}
use Rattle.schema_map.proofs.Wide.{own_wide, wide_column, wide_limits}
use Rattle.schema_map.proofs.ImageTwice.{columns_twice}
use Rattle.target_core.specs.Conditions.{HasKind, IsPublishable}
use Rattle.target_hudi.specs.HudiMeaning.{image}

pub wide_twice : (schema : ColumnTrees) → wide_columns (wide_columns schema) ≡ wide_columns schema
wide_twice schema = columns_twice schema

-- ---- what doesn't change

-- what both types have alike
record Alike (t wide : TypeTree) : Type 0 where
  kind : part_kind_of wide ≡ part_kind_of t
  text : is_text wide ≡ is_text t
  keys : has_text_keys wide ≡ has_text_keys t
  names : has_avro_names wide ≡ has_avro_names t
  avro : (n : ℕ) → avro_data wide n ≡ avro_data t n
  sound : IsSoundType t → IsSoundType wide

record ColumnsAlike (cs wide : ColumnTrees) : Type 0 where
  keys : have_text_keys wide ≡ have_text_keys cs
  names : have_avro_names wide ≡ have_avro_names cs
  key : key_fault wide ≡ key_fault cs
  name : name_fault wide ≡ name_fault cs
  avro : (n : ℕ) → avro_fields wide n ≡ avro_fields cs n
  sound : AreSound cs → AreSound wide

itself : (t : TypeTree) → Alike t t
itself t = record { kind = refl; text = refl; keys = refl; names = refl; avro = λ n. refl; sound = λ is. is }

mutual
  alike : (t : TypeTree) → Alike t (wide_type t)
  alike tree.boolean = itself tree.boolean
  alike tree.byte = record { kind = refl; text = refl; keys = refl; names = refl; avro = λ n. refl; sound = λ is. is }
  alike tree.short = record { kind = refl; text = refl; keys = refl; names = refl; avro = λ n. refl; sound = λ is. is }
  alike tree.int = itself tree.int
  alike tree.long = itself tree.long
  alike tree.float = itself tree.float
  alike tree.double = itself tree.double
  alike tree.text = itself tree.text
  alike tree.binary = itself tree.binary
  alike tree.date = itself tree.date
  alike tree.timestamp = itself tree.timestamp
  alike tree.timestamp_ntz = itself tree.timestamp_ntz
  alike (tree.decimal p s) = itself (tree.decimal p s)
  alike (tree.struct_of cs) =
      let inner = columns_alike cs in
      record {
        kind = refl;
        text = refl;
        keys = inner.keys;
        names = inner.names;
        avro = λ n. ap (λ (fields : List Data × ℕ). (record_data n (array (items_of fields.0)), fields.1)) (inner.avro (n + 1));
        sound = λ is. (own_wide cs ∙ is.0, inner.sound is.1);
      }
  alike (tree.list_of t b) =
      let part = alike t in
      record {
        kind = refl;
        text = refl;
        keys = part.keys;
        names = part.names;
        avro = λ n. ap (λ (items : Data × ℕ). (items_data (nullable_data b items.0), items.1)) (part.avro n);
        sound = part.sound;
      }
  alike (tree.map_of k v b) =
      let key = alike k in
      let part = alike v in
      record {
        kind = refl;
        text = refl;
        keys = ap (λ c. c && has_text_keys (wide_type v)) key.text ∙ ap (λ c. is_text k && c) part.keys;
        names = ap (λ c. c && has_avro_names (wide_type v)) key.names ∙ ap (λ c. has_avro_names k && c) part.names;
        avro = λ n. ap (λ (values : Data × ℕ). (values_data (nullable_data b values.0), values.1)) (part.avro n);
        sound = λ is. (key.sound is.0, part.sound is.1);
      }

  columns_alike : (cs : ColumnTrees) → ColumnsAlike cs (wide_columns cs)
  columns_alike no_columns = record { keys = refl; names = refl; key = refl; name = refl; avro = λ n. refl; sound = λ is. is }
  columns_alike (column m t b cs) =
      let part = alike t in
      let others = columns_alike cs in
      record {
        keys = ap (λ c. c && have_text_keys (wide_columns cs)) part.keys ∙ ap (λ c. has_text_keys t && c) others.keys;
        names = ap (λ c. is_avro_name m && (c && have_avro_names (wide_columns cs))) part.names ∙ ap (λ c. is_avro_name m && (has_avro_names t && c)) others.names;
        key = ap (λ c. cond {A = Option (List ℕ)} c (key_fault (wide_columns cs)) (Some m)) part.keys ∙ ap (λ f. cond (has_text_keys t) f (Some m)) others.key;
        name = ap (λ c. cond {A = Option (List ℕ)} (is_avro_name m && c) (name_fault (wide_columns cs)) (Some m)) part.names ∙ ap (λ f. cond (is_avro_name m && has_avro_names t) f (Some m)) others.name;
        avro = λ n. ap (λ (kind : Data × ℕ). let rest = avro_fields (wide_columns cs) kind.1 in (avro_field_data b m kind.0 ∷ rest.0, rest.1)) (part.avro n)
            ∙ ap (λ (rest : List Data × ℕ). (avro_field_data b m (avro_data t n).0 ∷ rest.0, rest.1)) (others.avro (avro_data t n).1);
        sound = λ is. (part.sound is.0, others.sound is.1);
      }

-- ---- kinds

kind_kept : (o : Option TypeTree) → option_and_then part_kind_of (option_map wide_type o) ≡ option_and_then part_kind_of o
kind_kept None = refl
kind_kept (Some t) = (alike t).kind

pub wide_kind : (schema : ColumnTrees) (name : List ℕ) → column_kind (wide_columns schema) name ≡ column_kind schema name
wide_kind schema name = ap (option_and_then part_kind_of) (wide_column schema name) ∙ kind_kept (column_type schema name)

-- ---- the text in Avro

module _ (schema : ColumnTrees) where
  unkeyed : (name : List ℕ) → key_fault schema ≡ Some name → avro_schema_text schema ≡ Err (SchemaType name)
  unkeyed name keyed = rw keyed

  unnamed : (name : List ℕ) → key_fault schema ≡ None → name_fault schema ≡ Some name → avro_schema_text schema ≡ Err (AvroName name)
  unnamed name keyed named = rw (keyed, named)

  spelled : key_fault schema ≡ None → name_fault schema ≡ None → avro_schema_text schema ≡ Ok (avro_text schema)
  spelled keyed named = rw (keyed, named)

text_by : (schema : ColumnTrees) (key name : Option (List ℕ)) → key_fault schema ≡ key → name_fault schema ≡ name → avro_schema_text (wide_columns schema) ≡ avro_schema_text schema
text_by schema (Some key) name keyed named = unkeyed (wide_columns schema) key ((columns_alike schema).key ∙ keyed) ∙ sym (unkeyed schema key keyed)
text_by schema None (Some name) keyed named =
    unnamed (wide_columns schema) name ((columns_alike schema).key ∙ keyed) ((columns_alike schema).name ∙ named) ∙ sym (unnamed schema name keyed named)
text_by schema None None keyed named =
    spelled (wide_columns schema) ((columns_alike schema).key ∙ keyed) ((columns_alike schema).name ∙ named)
    ∙ ap (λ (d : Data × ℕ). Ok (compact_text d.0)) ((alike (tree.struct_of schema)).avro 0)
    ∙ sym (spelled schema keyed named)

pub wide_text : (schema : ColumnTrees) → avro_schema_text (wide_columns schema) ≡ avro_schema_text schema
wide_text schema = text_by schema (key_fault schema) (name_fault schema) refl refl

pub wide_spelled : (schema : ColumnTrees) → ((text : List ℕ) × (avro_schema_text (wide_columns schema) ≡ Ok text)) ↔ ((text : List ℕ) × (avro_schema_text schema ≡ Ok text))
wide_spelled schema = (λ has. (has.0, sym (wide_text schema) ∙ has.1), λ has. (has.0, wide_text schema ∙ has.1))

-- what a schema has for a fault: a key that isn't a text, or a name
abbrev IsFaultOf : MapError → Type 0
IsFaultOf e = ((column : List ℕ) × (e ≡ SchemaType column)) ⊎ ((column : List ℕ) × (e ≡ AvroName column))

fault_by : (schema : ColumnTrees) (e : MapError) (key name : Option (List ℕ)) → key_fault schema ≡ key → name_fault schema ≡ name → avro_schema_text schema ≡ Err e → IsFaultOf e
fault_by schema e (Some key) name keyed named is =
    let told : ◌≡◌ {A = Result (List ℕ) MapError} (Err (SchemaType key)) (Err e) = sym (unkeyed schema key keyed) ∙ is in
    let same : SchemaType key ≡ e = cc in
    inl (key, sym same)
fault_by schema e None (Some name) keyed named is =
    let told : ◌≡◌ {A = Result (List ℕ) MapError} (Err (AvroName name)) (Err e) = sym (unnamed schema name keyed named) ∙ is in
    let same : AvroName name ≡ e = cc in
    inr (name, sym same)
fault_by schema e None None keyed named is =
    let told : ◌≡◌ {A = Result (List ℕ) MapError} (Ok (avro_text schema)) (Err e) = sym (spelled schema keyed named) ∙ is in
    absurd cc

pub schema_faults : (schema : ColumnTrees) (e : MapError) → avro_schema_text schema ≡ Err e → ((column : List ℕ) × (e ≡ SchemaType column)) ⊎ ((column : List ℕ) × (e ≡ AvroName column))
schema_faults schema e is = fault_by schema e (key_fault schema) (name_fault schema) refl refl is

-- Want of memory is none.
no_memory : (e : MapError) → IsFaultOf e → is_memory e ≡ false
no_memory e (inl (name, is)) = ap is_memory is
no_memory e (inr (name, is)) = ap is_memory is

-- ---- the image

pub spelled_image : (schema : ColumnTrees) (text : List ℕ) → avro_schema_text schema ≡ Ok text → image schema ≡ Some (wide_columns schema)
spelled_image schema text is = avro_defined schema (Ok text) is

text_of_image : (schema held : ColumnTrees) (r : Result (List ℕ) MapError) → avro_schema_text schema ≡ r → image schema ≡ Some held → (text : List ℕ) × (avro_schema_text schema ≡ Ok text)
text_of_image schema held (Ok text) is defined = (text, is)
text_of_image schema held (Err e) is defined =
    let proper = no_memory e (schema_faults schema e is) in
    let undefined = avro_undefined schema (Err e) (subst (λ (b : Bool). FailsUnlessMemory b e (avro_schema_text schema)) (sym proper) is) proper in
    let never : ◌≡◌ {A = Option ColumnTrees} None (Some held) = sym undefined ∙ defined in
    absurd cc

pub image_text : (schema held : ColumnTrees) → image schema ≡ Some held → (text : List ℕ) × (avro_schema_text schema ≡ Ok text)
image_text schema held defined = text_of_image schema held (avro_schema_text schema) refl defined

pub image_wide : (schema held : ColumnTrees) → image schema ≡ Some held → held ≡ wide_columns schema
image_wide schema held defined =
    let text = image_text schema held defined in
    let told : ◌≡◌ {A = Option ColumnTrees} (Some held) (Some (wide_columns schema)) = sym defined ∙ spelled_image schema text.0 text.1 in
    cc

-- ---- a schema that is read

mutual
  own_type : (t : TypeTree) (s : SchemaTree) → IsAvroType t s → wide_type t ≡ t
  own_type tree.boolean s is = refl
  own_type tree.byte s is = absurd is
  own_type tree.short s is = absurd is
  own_type tree.int s is = refl
  own_type tree.long s is = refl
  own_type tree.float s is = refl
  own_type tree.double s is = refl
  own_type tree.text s is = refl
  own_type tree.binary s is = refl
  own_type tree.date s is = refl
  own_type tree.timestamp s is = refl
  own_type tree.timestamp_ntz s is = refl
  own_type (tree.decimal p q) s is = refl
  own_type (tree.struct_of cs) (schema_tree shape l p s) (name, fields, shaped, are) = ap tree.struct_of (own_columns cs fields are)
  own_type (tree.list_of t b) (schema_tree shape l p s) (items, id, kind, shaped, part, is) = ap (λ u. tree.list_of u b) (own_type t kind is)
  -- a map's keys are texts
  own_type (tree.map_of k v b) (schema_tree shape l p s) (values, key_id, value_id, kind, key, shaped, part, is) =
      ap (λ u. tree.map_of u (wide_type v) b) (ap wide_type key ∙ sym key) ∙ ap (λ u. tree.map_of k u b) (own_type v kind is)

  own_columns : (cs : ColumnTrees) (fields : FieldTrees) → AreAvroColumns cs fields → wide_columns cs ≡ cs
  own_columns no_columns inner are = refl
  own_columns (column n t b cs) inner (part, id, kind, others, is, at, typed, rest) =
      ap (λ u. column n u b (wide_columns cs)) (own_type t kind typed) ∙ ap (column n t b) (own_columns cs others rest)

pub read_wide : (text : List ℕ) (schema : ColumnTrees) → avro_schema_of text ≡ Ok schema → wide_columns schema ≡ schema
read_wide text schema is =
    let found = avro_text_found text schema is in
    let whole : tree.struct_of (wide_columns schema) ≡ tree.struct_of schema = own_type (tree.struct_of schema) found.0 found.2 in
    cc

-- ---- what may be published

of_wide : (t : TypeTree) (v : PartValue) → IsOfType t v ↔ IsOfType (wide_type t) v
of_wide t v = (of_same t (wide_type t) (part_kind_of t) refl (alike t).kind v, of_same (wide_type t) t (part_kind_of t) (alike t).kind refl v)

fits_by : (o : Option TypeTree) (v : PartValue) → FitsColumn o v ↔ FitsColumn (option_map wide_type o) v
fits_by None v = (λ fits. fits, λ fits. fits)
fits_by (Some t) v = of_wide t v

fits_wide : (schema : ColumnTrees) (name : List ℕ) (v : PartValue) → FitsColumn (column_type schema name) v ↔ FitsColumn (column_type (wide_columns schema) name) v
fits_wide schema name v = subst (λ (o : Option TypeTree). FitsColumn (column_type schema name) v ↔ FitsColumn o v) (sym (wide_column schema name)) (fits_by (column_type schema name) v)

values_fit : (schema : ColumnTrees) (names : List (List ℕ)) (values : List PartValue) → FitColumns schema names values → FitColumns (wide_columns schema) names values
values_fit schema [] [] fit = tt
values_fit schema [] (v ∷ values) fit = absurd fit
values_fit schema (name ∷ names) [] fit = absurd fit
values_fit schema (name ∷ names) (v ∷ values) fit =
    ((fits_wide schema name v).0 fit.0, values_fit schema names values fit.1)

kind_wide : (schema : ColumnTrees) (name : List ℕ) → HasKind schema name → HasKind (wide_columns schema) name
kind_wide schema name (t, v, is, some, of) = (wide_type t, v, wide_column schema name ∙ ap (option_map wide_type) is, some, (of_wide t v).0 of)

wide_publishable : (table : Table) → IsPublishable table → IsPublishable (record { schema = wide_columns table.schema; partition = table.partition; rows = table.rows })
wide_publishable table may = record {
  sound = record { distinct = may.sound.distinct; values = λ row there. values_fit table.schema table.partition row.values (may.sound.values row there) };
  paths = may.paths;
  live_files = may.live_files;
  partition_columns = may.partition_columns;
  partition_distinct = may.partition_distinct;
  partition_kinds = λ name there. kind_wide table.schema name (may.partition_kinds name there);
  schema = (alike (tree.struct_of table.schema)).sound may.schema;
  size = wide_limits table.schema may.size;
}

pub image_publishable : (table : Table) (held : ColumnTrees) → image table.schema ≡ Some held → IsPublishable table → IsPublishable (record { schema = held; partition = table.partition; rows = table.rows })
image_publishable table held defined may =
    let P : ColumnTrees → Type 0 = λ schema. IsPublishable (record { schema = schema; partition = table.partition; rows = table.rows }) in
    subst P (sym (image_wide table.schema held defined)) (wide_publishable table may)

pub image_kinds : (schema held : ColumnTrees) → image schema ≡ Some held → (name : List ℕ) (value : PartValue) → FitsColumn (column_type schema name) value ↔ FitsColumn (column_type held name) value
image_kinds schema held defined name value =
    let P : ColumnTrees → Type 0 = λ other. FitsColumn (column_type schema name) value ↔ FitsColumn (column_type other name) value in
    subst P (sym (image_wide schema held defined)) (fits_wide schema name value)
