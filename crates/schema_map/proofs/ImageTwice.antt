-- The Image of an Image is that Image.
use Rattle.std.proofs.Common.{◌≡◌, Bool, true, false, ◌&&◌, refl, ap, ◌∙◌, cond}
use Rattle.std.specs.Prelude.{Some, None}
use Rattle.table_history.specs.TypeTree as tree
use Rattle.table_history.specs.TypeTree.{TypeTree, ColumnTrees, no_columns, column}
use Rattle.table_history.specs.declared.kind.Kind.{Kind}
use Rattle.table_history.specs.declared.kind.Kind.TheVariants.{Delta, Iceberg, Hudi}
use Rattle.schema_map.specs.Image.{wide_type, wide_columns, is_text, has_text_keys, have_text_keys, has_avro_names, have_avro_names, is_avro_name, image}

mutual
  pub wide_twice : (t : TypeTree) → wide_type (wide_type t) ≡ wide_type t
  wide_twice tree.boolean = refl
  wide_twice tree.byte = refl
  wide_twice tree.short = refl
  wide_twice tree.int = refl
  wide_twice tree.long = refl
  wide_twice tree.float = refl
  wide_twice tree.double = refl
  wide_twice tree.text = refl
  wide_twice tree.binary = refl
  wide_twice tree.date = refl
  wide_twice tree.timestamp = refl
  wide_twice tree.timestamp_ntz = refl
  wide_twice (tree.decimal p s) = refl
  wide_twice (tree.struct_of cs) = rw (columns_twice cs)
  wide_twice (tree.list_of t b) = rw (wide_twice t)
  wide_twice (tree.map_of k v b) = rw (wide_twice k, wide_twice v)

  pub columns_twice : (cs : ColumnTrees) → wide_columns (wide_columns cs) ≡ wide_columns cs
  columns_twice no_columns = refl
  columns_twice (column n t b cs) = rw (wide_twice t, columns_twice cs)

text_same : (t : TypeTree) → is_text (wide_type t) ≡ is_text t
text_same tree.boolean = refl
text_same tree.byte = refl
text_same tree.short = refl
text_same tree.int = refl
text_same tree.long = refl
text_same tree.float = refl
text_same tree.double = refl
text_same tree.text = refl
text_same tree.binary = refl
text_same tree.date = refl
text_same tree.timestamp = refl
text_same tree.timestamp_ntz = refl
text_same (tree.decimal p s) = refl
text_same (tree.struct_of cs) = refl
text_same (tree.list_of t b) = refl
text_same (tree.map_of k v b) = refl

mutual
  keys_same : (t : TypeTree) → has_text_keys (wide_type t) ≡ has_text_keys t
  keys_same tree.boolean = refl
  keys_same tree.byte = refl
  keys_same tree.short = refl
  keys_same tree.int = refl
  keys_same tree.long = refl
  keys_same tree.float = refl
  keys_same tree.double = refl
  keys_same tree.text = refl
  keys_same tree.binary = refl
  keys_same tree.date = refl
  keys_same tree.timestamp = refl
  keys_same tree.timestamp_ntz = refl
  keys_same (tree.decimal p s) = refl
  keys_same (tree.struct_of cs) = columns_keys_same cs
  keys_same (tree.list_of t b) = keys_same t
  keys_same (tree.map_of k v b) = ap (λ c. c && has_text_keys (wide_type v)) (text_same k) ∙ ap (λ c. is_text k && c) (keys_same v)

  columns_keys_same : (cs : ColumnTrees) → have_text_keys (wide_columns cs) ≡ have_text_keys cs
  columns_keys_same no_columns = refl
  columns_keys_same (column n t b cs) = ap (λ c. c && have_text_keys (wide_columns cs)) (keys_same t) ∙ ap (λ c. has_text_keys t && c) (columns_keys_same cs)

mutual
  names_same : (t : TypeTree) → has_avro_names (wide_type t) ≡ has_avro_names t
  names_same tree.boolean = refl
  names_same tree.byte = refl
  names_same tree.short = refl
  names_same tree.int = refl
  names_same tree.long = refl
  names_same tree.float = refl
  names_same tree.double = refl
  names_same tree.text = refl
  names_same tree.binary = refl
  names_same tree.date = refl
  names_same tree.timestamp = refl
  names_same tree.timestamp_ntz = refl
  names_same (tree.decimal p s) = refl
  names_same (tree.struct_of cs) = columns_names_same cs
  names_same (tree.list_of t b) = names_same t
  names_same (tree.map_of k v b) = ap (λ c. c && has_avro_names (wide_type v)) (names_same k) ∙ ap (λ c. has_avro_names k && c) (names_same v)

  columns_names_same : (cs : ColumnTrees) → have_avro_names (wide_columns cs) ≡ have_avro_names cs
  columns_names_same no_columns = refl
  columns_names_same (column n t b cs) =
      ap (λ c. is_avro_name n && (c && have_avro_names (wide_columns cs))) (names_same t) ∙ ap (λ c. is_avro_name n && (has_avro_names t && c)) (columns_names_same cs)

defined_same : (cs : ColumnTrees) → (have_text_keys (wide_columns cs) && have_avro_names (wide_columns cs)) ≡ (have_text_keys cs && have_avro_names cs)
defined_same cs = ap (λ c. c && have_avro_names (wide_columns cs)) (columns_keys_same cs) ∙ ap (λ c. have_text_keys cs && c) (columns_names_same cs)

hudi_twice : (cs ds : ColumnTrees) (b : Bool) → (have_text_keys cs && have_avro_names cs) ≡ b → cond b (Some (wide_columns cs)) None ≡ Some ds → image Hudi ds ≡ Some ds
hudi_twice cs ds true is e =
    let eq : wide_columns cs ≡ ds = cc in
    rw (← eq, defined_same cs, is, columns_twice cs)
hudi_twice cs ds false is e = absurd (cc)

pub image_twice : (kind : Kind) (cs ds : ColumnTrees) → image kind cs ≡ Some ds → image kind ds ≡ Some ds
image_twice Delta cs ds e = refl
image_twice Iceberg cs ds e = let eq : wide_columns cs ≡ ds = cc in rw (← eq, columns_twice cs)
image_twice Hudi cs ds e = hudi_twice cs ds (have_text_keys cs && have_avro_names cs) refl e
