-- What Iceberg's JSON spells is sound and its own Image, with an id of 32 bits for each column path.
use Rattle.std.proofs.Common.{◌≡◌, ℕ, ◌^◌, List, [], ◌∷◌, ◌++◌, length, Bool, true, false, cond, Option, Some, None, Result, Ok, refl, sym, ap, subst, ◌∙◌, arith, length-append}
use Rattle.std.specs.Prelude.{ℤ, pos, negsuc, nat_le, nat_lt, codes, option_and_then, if◌then◌else◌}
use Rattle.std.proofs.lemmas.Bool.{leb-true, lt-ltb}
use Rattle.serde_json.specs.Data.{Data, number, Items, object, Members}
use Rattle.serde_json.specs.Find.{get, of_integer}
use Rattle.json_reading.specs.Json.{whole, int, int_member}
use Rattle.table_history.specs.TypeTree as tree
use Rattle.table_history.specs.TypeTree.{TypeTree, ColumnTrees, no_columns, column}
use Rattle.schema_iceberg.specs.IcebergSpelling.{IsIcebergType, AreIcebergColumns, IsIcebergSchema}
use Rattle.schema_map.specs.Image.{wide_type, wide_columns, image}
use Rattle.schema_map.specs.IcebergFits.{AreIds, FitsIceberg}
use Rattle.table_history.specs.Sound.{IsSoundType, AreSound, IsSound}
use Rattle.std.specs.Prelude.{Err, IfOk}
use Rattle.serde_json.specs.View.{view}
use Rattle.serde_json.specs.declared.value.Value.{Value}
use Rattle.lake_basics.specs.Outcome.{GivesUnlessMemory}
use Rattle.schema_map.specs.declared.fault.MapError.{MapError}
use Rattle.schema_map.specs.Errors.{is_memory}
use Rattle.schema_map.specs.Paths.{column_paths}
use Rattle.schema_map.proofs.Ids.{both_are}
use Rattle.schema_iceberg.specs.Iceberg.{iceberg_schema}
use Rattle.schema_iceberg.specs.IcebergWriting.{iceberg_value}
use Rattle.schema_iceberg.proofs.IcebergSchema.{SchemaFound, schema_found}
use Rattle.schema_iceberg.proofs.IcebergWritten.{id_count, column_id_count, column_ids_counted, iceberg_spelled, iceberg_reads_back}
use Rattle.table_history.specs.declared.kind.Kind.TheVariants.{Iceberg}

-- ---- ids

record Behind {A B : Type 0} (f : A → Option B) (o : Option A) (y : B) : Type 0 where
  value : A
  gives : f value ≡ Some y

behind : {A B : Type 0} (f : A → Option B) (o : Option A) (y : B) → option_and_then f o ≡ Some y → Behind f o y
behind f None y e = absurd (cc)
behind f (Some x) y e = record { value = x; gives = e }

abbrev IsId : ℤ → Type 0
IsId id = int (number (of_integer id)) ≡ Some id

id_from_zero : (n : ℕ) (b : Bool) (id : ℤ) → nat_le n 2147483647 ≡ b → cond b (Some (pos n)) None ≡ Some id → IsId id
id_from_zero n true id is e =
    let small = leb-true n 2147483647 is in
    let short : nat_lt n (2 ^ 63) ≡ true = lt-ltb n (2 ^ 63) (omega (arith, small)) in
    let mine : IsId (pos n) = rw (short, is) in
    let eq : pos n ≡ id = cc in
    subst IsId eq mine
id_from_zero n false id is e = absurd (cc)

id_below_zero : (n : ℕ) (b : Bool) (id : ℤ) → nat_le n 2147483647 ≡ b → cond b (Some (negsuc n)) None ≡ Some id → IsId id
id_below_zero n true id is e =
    let mine : IsId (negsuc n) = rw is in
    let eq : negsuc n ≡ id = cc in
    subst IsId eq mine
id_below_zero n false id is e = absurd (cc)

-- the whole numbers of 32 bits
abbrev within : ℤ → Option ℤ
within (pos n) = if nat_le n 2147483647 then Some (pos n) else None
within (negsuc n) = if nat_le n 2147483647 then Some (negsuc n) else None

id_is : (ms : Members) (name : List ℕ) (id : ℤ) → int_member name (object ms) ≡ Some id → IsId id
id_is ms name id e =
    let found = behind int (get name (object ms)) id e in
    let number = behind _ (whole found.value) id found.gives in
    at number.value number.gives
  where
    at : (z : ℤ) → within z ≡ Some id → IsId id
    at (pos n) h = id_from_zero n _ id refl h
    at (negsuc n) h = id_below_zero n _ id refl h

record Fits (t : TypeTree) (ids : List ℤ) : Type 0 where
  sound : IsSoundType t
  are : AreIds ids
  size : length ids ≡ id_count t
  wide : wide_type t ≡ t

leaf : (t : TypeTree) (ids : List ℤ) → IsSoundType t → id_count t ≡ 0 → wide_type t ≡ t → ids ≡ [] → Fits t ids
leaf t ids sound none wide is = record { sound = sound; are = subst AreIds (sym is) tt; size = ap length is ∙ sym none; wide = wide }

record ColumnsFit (cs : ColumnTrees) (ids : List ℤ) : Type 0 where
  sound : AreSound cs
  are : AreIds ids
  size : length ids ≡ column_id_count cs
  wide : wide_columns cs ≡ cs

mutual
  fits : (t : TypeTree) (ids : List ℤ) (d : Data) → IsIcebergType t ids d → Fits t ids
  fits tree.boolean ids d is = leaf tree.boolean ids tt refl refl is.0
  fits tree.byte ids d is = absurd is
  fits tree.short ids d is = absurd is
  fits tree.int ids d is = leaf tree.int ids tt refl refl is.0
  fits tree.long ids d is = leaf tree.long ids tt refl refl is.0
  fits tree.float ids d is = leaf tree.float ids tt refl refl is.0
  fits tree.double ids d is = leaf tree.double ids tt refl refl is.0
  fits tree.text ids d is = leaf tree.text ids tt refl refl is.0
  fits tree.binary ids d is = leaf tree.binary ids tt refl refl is.0
  fits tree.date ids d is = leaf tree.date ids tt refl refl is.0
  fits tree.timestamp ids d is = leaf tree.timestamp ids tt refl refl is.0
  fits tree.timestamp_ntz ids d is = leaf tree.timestamp_ntz ids tt refl refl is.0
  fits (tree.decimal p s) ids d is = leaf (tree.decimal p s) ids (let text = is.3 in let most = text.most in (text.some, omega (arith, most), text.within)) refl refl is.1
  fits (tree.struct_of cs) ids d is =
      let columns = columns_fit cs ids is.1 is.6 in
      record { sound = (is.5, columns.sound); are = columns.are; size = columns.size; wide = ap tree.struct_of columns.wide }
  fits (tree.list_of t b) ids d is =
      let part = fits t is.3 is.1 is.10 in
      let size = part.size in
      let all : length ids ≡ length (is.2 ∷ is.3) = ap length is.4 in
      record { sound = part.sound; are = subst AreIds (sym is.4) (id_is is.0 (codes "element-id") is.2 is.7, part.are); size = omega (arith, all, size); wide = ap (λ u. tree.list_of u b) part.wide }
  fits (tree.map_of k v b) ids d is =
      let key = fits k is.4 is.1 is.15 in
      let value = fits v is.6 is.2 is.16 in
      let key_size = key.size in
      let value_size = value.size in
      let all : length ids ≡ length (is.3 ∷ (is.4 ++ is.5 ∷ is.6)) = ap length is.7 in
      let both = length-append is.4 (is.5 ∷ is.6) in
      record { sound = (key.sound, value.sound); are = subst AreIds (sym is.7) (id_is is.0 (codes "key-id") is.3 is.10, both_are is.4 (is.5 ∷ is.6) key.are (id_is is.0 (codes "value-id") is.5 is.11, value.are)); size = omega (arith, all, both, key_size, value_size); wide = ap (λ u. tree.map_of u (wide_type v) b) key.wide ∙ ap (λ u. tree.map_of k u b) value.wide }

  columns_fit : (cs : ColumnTrees) (ids : List ℤ) (ds : Items) → AreIcebergColumns cs ids ds → ColumnsFit cs ids
  columns_fit no_columns ids ds are = record { sound = tt; are = subst AreIds (sym are.0) tt; size = ap length are.0; wide = refl }
  columns_fit (column n t b cs) ids ds are =
      let kind = fits t are.4 are.1 are.12 in
      let others = columns_fit cs are.5 are.2 are.13 in
      let kind_size = kind.size in
      let others_size = others.size in
      let all : length ids ≡ length ((are.3 ∷ are.4) ++ are.5) = ap length are.6 in
      let both = length-append (are.3 ∷ are.4) are.5 in
      record { sound = (kind.sound, others.sound); are = subst AreIds (sym are.6) (both_are (are.3 ∷ are.4) are.5 (id_is are.0 (codes "id") are.3 are.8, kind.are) others.are); size = omega (arith, all, both, kind_size, others_size); wide = ap (λ u. column n u b (wide_columns cs)) kind.wide ∙ ap (column n t b) others.wide }

pub iceberg_sound : (cs : ColumnTrees) (ids : List ℤ) (d : Data) → IsIcebergSchema cs ids d → IsSound cs
iceberg_sound cs ids d is = (fits (tree.struct_of cs) ids d is).sound

pub iceberg_counted : (cs : ColumnTrees) (ids : List ℤ) (d : Data) → IsIcebergSchema cs ids d → length ids ≡ column_id_count cs
iceberg_counted cs ids d is = (fits (tree.struct_of cs) ids d is).size

pub iceberg_wide : (cs : ColumnTrees) (ids : List ℤ) (d : Data) → IsIcebergSchema cs ids d → wide_columns cs ≡ cs
iceberg_wide cs ids d is = (columns_fit cs ids is.1 is.6).wide

pub iceberg_ids : (cs : ColumnTrees) (ids : List ℤ) (d : Data) → IsIcebergSchema cs ids d → AreIds ids
iceberg_ids cs ids d is = (fits (tree.struct_of cs) ids d is).are

-- What was read is written and read back.
pub read_again : (cs : ColumnTrees) (ids : List ℤ) (schema_id : ℤ) (d : Data) → iceberg_schema d ≡ Ok (cs, ids) → iceberg_schema (iceberg_value cs ids schema_id) ≡ Ok (cs, ids)
unfolding SchemaFound
read_again cs ids schema_id d is =
    let found = schema_found d (cs, ids) is in
    let count = iceberg_counted cs ids d found.0 ∙ sym (column_ids_counted cs) in
    let again = iceberg_reads_back cs ids schema_id (iceberg_sound cs ids d found.0) found.1 (iceberg_ids cs ids d found.0) count in
    again ∙ ap (λ w. Ok (w, ids)) (iceberg_wide cs ids d found.0)

pub given_spelled : (cs : ColumnTrees) (ids : List ℤ) (schema_id : ℤ) (r : Result Value MapError) → GivesUnlessMemory is_memory view r (Ok (iceberg_value cs ids schema_id)) → IfOk r (λ v. IsSound cs → AreIds ids → length ids ≡ length (column_paths cs) → IsIcebergSchema (wide_columns cs) ids (view v))
given_spelled cs ids schema_id (Ok v) given =
    λ sound are same.
    let is : iceberg_value cs ids schema_id ≡ view v = cc in
    let P : Data → Type 0 = λ d. IsIcebergSchema (wide_columns cs) ids d in
    subst P is (iceberg_spelled cs ids schema_id sound are same)
given_spelled cs ids schema_id (Err e) given = tt

pub given_back : (cs : ColumnTrees) (ids : List ℤ) (schema_id : ℤ) (r : Result Value MapError) → GivesUnlessMemory is_memory view r (Ok (iceberg_value cs ids schema_id)) → IfOk r (λ v. (d : Data) → iceberg_schema d ≡ Ok (cs, ids) → iceberg_schema (view v) ≡ Ok (cs, ids))
given_back cs ids schema_id (Ok v) given =
    λ d read.
    let is : iceberg_value cs ids schema_id ≡ view v = cc in
    ap iceberg_schema (sym is) ∙ read_again cs ids schema_id d read
given_back cs ids schema_id (Err e) given = tt

fits_found : (d : Data) (p : ColumnTrees × List ℤ) → iceberg_schema d ≡ Ok p → FitsIceberg p.0 p.1
unfolding SchemaFound
fits_found d p is =
    let found = schema_found d p is in
    record {
      sound = iceberg_sound p.0 p.1 d found.0;
      within = found.1;
      are = iceberg_ids p.0 p.1 d found.0;
      size = iceberg_counted p.0 p.1 d found.0 ∙ sym (column_ids_counted p.0);
    }

settled_found : (d : Data) (p : ColumnTrees × List ℤ) → iceberg_schema d ≡ Ok p → image Iceberg p.0 ≡ Some p.0
unfolding SchemaFound
settled_found d p is = let found = schema_found d p is in ap Some (iceberg_wide p.0 p.1 d found.0)

pub given_fits : (d : Data) (r : Result (ColumnTrees × List ℤ) MapError) → GivesUnlessMemory is_memory (λ p. p) r (iceberg_schema d) → IfOk r (λ p. FitsIceberg p.0 p.1)
given_fits d (Ok p) given = fits_found d p given
given_fits d (Err e) given = tt

pub given_settled : (d : Data) (r : Result (ColumnTrees × List ℤ) MapError) → GivesUnlessMemory is_memory (λ p. p) r (iceberg_schema d) → IfOk r (λ p. image Iceberg p.0 ≡ Some p.0)
given_settled d (Ok p) given = settled_found d p given
given_settled d (Err e) given = tt

pub given_read_back : (cs : ColumnTrees) (ids : List ℤ) (schema_id : ℤ) (r : Result Value MapError) → GivesUnlessMemory is_memory view r (Ok (iceberg_value cs ids schema_id)) → IfOk r (λ v. FitsIceberg cs ids → iceberg_schema (view v) ≡ Ok (wide_columns cs, ids))
given_read_back cs ids schema_id (Ok v) given =
    λ fit.
    let is : iceberg_value cs ids schema_id ≡ view v = cc in
    ap iceberg_schema (sym is) ∙ iceberg_reads_back cs ids schema_id fit.sound fit.within fit.are fit.size
given_read_back cs ids schema_id (Err e) given = tt
