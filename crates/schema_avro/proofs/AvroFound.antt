-- What is read of an Avro type is the column type that it is, and no other column type is read.
use Rattle.std.proofs.Common.{◌≡◌, ◌⊎◌, inl, inr, ℕ, ◌<◌, ◌≤◌, List, [], ◌∷◌, Bool, true, false, Option, Some, None, Result, Ok, Err, refl, sym, ap, subst, ◌∙◌, arith, cond}
use Rattle.std.specs.Prelude.{codes, unwrap_or}
use Rattle.std.specs.Str.{bytes_eq}
use Rattle.std.proofs.lemmas.Slice.Eq.{bytes_eq-Decides}
use Rattle.avro_schema.specs.Tree as avro
use Rattle.avro_schema.specs.Tree.{SchemaTree, schema_tree, ShapeTree, BranchTrees, no_branches, branch, FieldTrees, no_fields, field}
use Rattle.table_history.specs.TypeTree as tree
use Rattle.table_history.specs.TypeTree.{TypeTree, ColumnTree, columns_of}
use Rattle.schema_avro.specs.declared.fault.TypeFault.{TypeFault}
use Rattle.schema_map.specs.Decimal.{decimal_in_range}
use Rattle.schema_avro.specs.Avro.{is_logical, decimal_type, avro_decimal, avro_int, avro_long, avro_bytes, avro_fixed, Part, is_null, nullable_if, avro_list, avro_map, avro_struct, avro_column, avro_type, avro_shape, avro_part, avro_union, avro_columns}
use Rattle.schema_avro.specs.AvroSpelling.{shape_of, IsUnion, IsPart, IsAvroType, AreAvroColumns}
use Rattle.schema_map.proofs.Bound.{bound, chosen}
use Rattle.schema_avro.proofs.Range.{range_is}

-- ---- logical types

logical_is : (word : List ℕ) (logical : Option (List ℕ)) → is_logical word logical ≡ true → logical ≡ Some word
logical_is word None e = absurd cc
logical_is word (Some w) e = ap Some ((bytes_eq-Decides w word).0 e)

other_word : (word w : List ℕ) → bytes_eq w word ≡ false → w ≡ word → ⊥
other_word word w e same = let yes : bytes_eq w word ≡ true = (bytes_eq-Decides w word).1 same in absurd cc

logical_other : (word : List ℕ) (logical : Option (List ℕ)) → is_logical word logical ≡ false → logical ≡ Some word → ⊥
logical_other word None e same = absurd cc
logical_other word (Some w) e same = other_word word w e (let h : ◌≡◌ {A = Option (List ℕ)} (Some w) (Some word) = same in cc)

abbrev typed : TypeTree → Result TypeTree TypeFault
typed t = Ok t

int_found : (logical : Option (List ℕ)) (p s : Option ℕ) (t : TypeTree) → avro_int logical ≡ Ok t → IsAvroType t (schema_tree avro.int logical p s)
unfolding avro_int
int_found logical p s t e =
    let P : TypeTree → Type 0 = λ u. IsAvroType u (schema_tree avro.int logical p s) in
    chosen (P t) (is_logical (codes "date") logical) _ _ t
    (λ is f. let same : tree.date ≡ t = cc in subst P same (refl, logical_is _ logical is))
    (λ no_date g. chosen (P t) (is_logical (codes "time-millis") logical) _ _ t
    (λ is f. absurd cc)
    (λ no_time f. let same : tree.int ≡ t = cc in subst P same (refl, (logical_other _ logical no_date, (logical_other _ logical no_time, tt)))) g) e

long_found : (logical : Option (List ℕ)) (p s : Option ℕ) (t : TypeTree) → avro_long logical ≡ Ok t → IsAvroType t (schema_tree avro.long logical p s)
unfolding avro_long
long_found logical p s t e =
    let P : TypeTree → Type 0 = λ u. IsAvroType u (schema_tree avro.long logical p s) in
    chosen (P t) (is_logical (codes "timestamp-micros") logical) _ _ t
    (λ is f. let same : tree.timestamp ≡ t = cc in subst P same (refl, inl (logical_is _ logical is)))
    (λ no1 g1. chosen (P t) (is_logical (codes "timestamp-millis") logical) _ _ t
    (λ is f. let same : tree.timestamp ≡ t = cc in subst P same (refl, inr (logical_is _ logical is)))
    (λ no2 g2. chosen (P t) (is_logical (codes "local-timestamp-micros") logical) _ _ t
    (λ is f. let same : tree.timestamp_ntz ≡ t = cc in subst P same (refl, inl (logical_is _ logical is)))
    (λ no3 g3. chosen (P t) (is_logical (codes "local-timestamp-millis") logical) _ _ t
    (λ is f. let same : tree.timestamp_ntz ≡ t = cc in subst P same (refl, inr (logical_is _ logical is)))
    (λ no4 g4. chosen (P t) (is_logical (codes "time-micros") logical) _ _ t
    (λ is f. absurd cc)
    (λ no5 f. let same : tree.long ≡ t = cc in subst P same (refl, (logical_other _ logical no1, (logical_other _ logical no2, (logical_other _ logical no3, (logical_other _ logical no4, (logical_other _ logical no5, tt))))))) g4) g3) g2) g1) e

-- what a decimal's precision and scale say
record IsDecimalType (precision scale : Option ℕ) (t : TypeTree) : Type 0 where
  p : ℕ
  s : ℕ
  is : t ≡ tree.decimal p s
  precision_is : precision ≡ Some p
  scale_is : unwrap_or scale 0 ≡ s
  some : 0 < p
  most : p ≤ 38
  within : s ≤ p

in_range : (p s : ℕ) (q : ℕ × ℕ) → decimal_in_range p s ≡ Some q → q ≡ (p, s)
in_range p s q e = by _ e
  where
    by : (b : Bool) → cond b (Some (p, s)) None ≡ Some q → q ≡ (p, s)
    by true h = let same : (p, s) ≡ q = cc in sym same
    by false h = absurd cc

decimal_found : (precision scale : Option ℕ) (t : TypeTree) → avro_decimal precision scale ≡ Ok t → IsDecimalType precision scale t
decimal_found None scale t e = absurd cc
decimal_found (Some p) scale t e = by _ refl e
  where
    by : (o : Option (ℕ × ℕ)) → decimal_in_range p (unwrap_or scale 0) ≡ o → decimal_type o ≡ Ok t → IsDecimalType (Some p) scale t
    by None is h = absurd cc
    by (Some q) is h =
        let same : q ≡ (p, unwrap_or scale 0) = in_range p (unwrap_or scale 0) q is in
        let good = range_is p (unwrap_or scale 0) q is in
        let good_here : (0 < p) × (p < 39) × (unwrap_or scale 0 ≤ p) = subst (λ (r : ℕ × ℕ). (0 < r.0) × (r.0 < 39) × (r.1 ≤ r.0)) same good in
        let typed_as : t ≡ tree.decimal q.0 q.1 = let h2 : typed (tree.decimal q.0 q.1) ≡ Ok t = h in cc in
        let below = good_here.1 in
        let most : p ≤ 38 = omega (arith, below) in
        record {
          p = p;
          s = unwrap_or scale 0;
          is = typed_as ∙ ap (λ (r : ℕ × ℕ). tree.decimal r.0 r.1) same;
          precision_is = refl;
          scale_is = refl;
          some = good_here.0;
          most = most;
          within = good_here.2;
        }

decimal_spelled : (shape : ShapeTree) (precision scale : Option ℕ) (logical : Option (List ℕ)) (t : TypeTree)
    → (shape ≡ avro.bytes) ⊎ ((name : List ℕ) × (size : ℕ) × (shape ≡ avro.fixed_of name size))
    → logical ≡ Some (codes "decimal") → IsDecimalType precision scale t → IsAvroType t (schema_tree shape logical precision scale)
decimal_spelled shape precision scale logical t shaped is d =
    let P : TypeTree → Type 0 = λ u. IsAvroType u (schema_tree shape logical precision scale) in
    subst P (sym d.is) (shaped, is, d.precision_is, d.scale_is, d.some, d.most, d.within)

bytes_found : (logical : Option (List ℕ)) (p s : Option ℕ) (t : TypeTree) → avro_bytes logical p s ≡ Ok t → IsAvroType t (schema_tree avro.bytes logical p s)
bytes_found logical p s t e =
    let P : TypeTree → Type 0 = λ u. IsAvroType u (schema_tree avro.bytes logical p s) in
    chosen (P t) (is_logical (codes "decimal") logical) _ _ t
    (λ is f. decimal_spelled avro.bytes p s logical t (inl refl) (logical_is _ logical is) (decimal_found p s t f))
    (λ no f. let same : tree.binary ≡ t = cc in subst P same (refl, (logical_other _ logical no, tt))) e

fixed_found : (name : List ℕ) (size : ℕ) (logical : Option (List ℕ)) (p s : Option ℕ) (t : TypeTree) → avro_fixed logical p s ≡ Ok t → IsAvroType t (schema_tree (avro.fixed_of name size) logical p s)
fixed_found name size logical p s t e =
    let P : TypeTree → Type 0 = λ u. IsAvroType u (schema_tree (avro.fixed_of name size) logical p s) in
    chosen (P t) (is_logical (codes "decimal") logical) _ _ t
    (λ is f. decimal_spelled (avro.fixed_of name size) p s logical t (inr (name, size, refl)) (logical_is _ logical is) (decimal_found p s t f))
    (λ no f. absurd cc) e

-- ---- parts

-- what a part is
pub record PartFound (whole : SchemaTree) (t : TypeTree) (nullable : Bool) : Type 0 where
  pub kind : SchemaTree
  pub part : IsPart whole kind nullable
  pub is : IsAvroType t kind

abbrev pub two : TypeTree → Bool → TypeTree × Bool
two t b = (t, b)

abbrev part_typed : TypeTree × Bool → Part
part_typed p = Ok p

nullable_found : (nullable : Bool) (r : Result TypeTree TypeFault) (t : TypeTree) (b : Bool) → nullable_if nullable r ≡ Ok (t, b) → (r ≡ Ok t) × (nullable ≡ b)
nullable_found nullable (Ok u) t b e = let same : ◌≡◌ {A = TypeTree × Bool} (u, nullable) (t, b) = (let h : part_typed (u, nullable) ≡ Ok (t, b) = e in cc) in (ap (λ p. typed p.0) same, ap (λ p. p.1) same)
nullable_found nullable (Err x) t b e = absurd cc

null_is : (s : SchemaTree) → is_null s ≡ true → shape_of s ≡ avro.null
null_is (schema_tree avro.null l p sc) e = refl
null_is (schema_tree avro.boolean l p sc) e = absurd cc
null_is (schema_tree avro.int l p sc) e = absurd cc
null_is (schema_tree avro.long l p sc) e = absurd cc
null_is (schema_tree avro.float l p sc) e = absurd cc
null_is (schema_tree avro.double l p sc) e = absurd cc
null_is (schema_tree avro.bytes l p sc) e = absurd cc
null_is (schema_tree avro.text l p sc) e = absurd cc
null_is (schema_tree (avro.fixed_of n z) l p sc) e = absurd cc
null_is (schema_tree (avro.enum_of n z) l p sc) e = absurd cc
null_is (schema_tree (avro.array_of n z) l p sc) e = absurd cc
null_is (schema_tree (avro.map_of n z w) l p sc) e = absurd cc
null_is (schema_tree (avro.union_of n) l p sc) e = absurd cc
null_is (schema_tree (avro.record_of n z) l p sc) e = absurd cc

-- the type of a branch, which may be null or not
branch_found : (whole kind : SchemaTree) (nullable : Bool) (r : Result TypeTree TypeFault) (t : TypeTree) (b : Bool) → IsPart whole kind nullable → ((u : TypeTree) → r ≡ Ok u → IsAvroType u kind) → nullable_if nullable r ≡ Ok (t, b) → PartFound whole t b
branch_found whole kind nullable r t b part found e =
    let both = nullable_found nullable r t b e in
    record { kind = kind; part = subst (λ n. IsPart whole kind n) both.1 part; is = found t both.0 }

list_found : (items : SchemaTree) (id : _) (l : Option (List ℕ)) (p s : Option ℕ) (t : TypeTree) → ((u : TypeTree) (b : Bool) → avro_part items ≡ Ok (u, b) → PartFound items u b) → avro_list (avro_part items) ≡ Ok t → IsAvroType t (schema_tree (avro.array_of items id) l p s)
list_found items id l p s t found e =
    let P : TypeTree → Type 0 = λ u. IsAvroType u (schema_tree (avro.array_of items id) l p s) in
    let part = bound (avro_part items) _ t e in
    let here = found part.value.0 part.value.1 part.first in
    let same : tree.list_of part.value.0 part.value.1 ≡ t = let h : typed (tree.list_of part.value.0 part.value.1) ≡ Ok t = part.behind in cc in
    subst P same (items, id, here.kind, refl, here.part, here.is)

map_found : (values : SchemaTree) (key_id value_id : _) (l : Option (List ℕ)) (p s : Option ℕ) (t : TypeTree) → ((u : TypeTree) (b : Bool) → avro_part values ≡ Ok (u, b) → PartFound values u b) → avro_map (avro_part values) ≡ Ok t → IsAvroType t (schema_tree (avro.map_of values key_id value_id) l p s)
map_found values key_id value_id l p s t found e =
    let P : TypeTree → Type 0 = λ u. IsAvroType u (schema_tree (avro.map_of values key_id value_id) l p s) in
    let part = bound (avro_part values) _ t e in
    let here = found part.value.0 part.value.1 part.first in
    let same : tree.map_of tree.text part.value.0 part.value.1 ≡ t = let h : typed (tree.map_of tree.text part.value.0 part.value.1) ≡ Ok t = part.behind in cc in
    subst P same (values, key_id, value_id, here.kind, refl, refl, here.part, here.is)

struct_found : (name : List ℕ) (fields : FieldTrees) (l : Option (List ℕ)) (p s : Option ℕ) (t : TypeTree) → ((cs : List ColumnTree) → avro_columns fields ≡ Ok cs → AreAvroColumns (columns_of cs) fields) → avro_struct (avro_columns fields) ≡ Ok t → IsAvroType t (schema_tree (avro.record_of name fields) l p s)
struct_found name fields l p s t found e =
    let P : TypeTree → Type 0 = λ u. IsAvroType u (schema_tree (avro.record_of name fields) l p s) in
    let columns = bound (avro_columns fields) _ t e in
    let same : tree.struct_of (columns_of columns.value) ≡ t = let h : typed (tree.struct_of (columns_of columns.value)) ≡ Ok t = columns.behind in cc in
    subst P same (name, fields, refl, found columns.value columns.first)

pub column_value : (name : List ℕ) (part : Part) (c : ColumnTree) → avro_column name part ≡ Ok c → (part ≡ Ok (c.kind, c.nullable)) × (c ≡ record { name = name; kind = c.kind; nullable = c.nullable })
column_value name (Ok p) c e =
    let same : record { name = name; kind = p.0; nullable = p.1 } ≡ c = cc in
    (ap (λ (x : ColumnTree). part_typed (x.kind, x.nullable)) same, subst (λ (x : ColumnTree). x ≡ record { name = name; kind = x.kind; nullable = x.nullable }) same refl)
column_value name (Err x) c e = absurd cc

mutual
  pub type_found : (s : SchemaTree) (t : TypeTree) → avro_type s ≡ Ok t → IsAvroType t s
  type_found (schema_tree shape l p s) t e = shape_found shape l p s t e

  shape_found : (shape : ShapeTree) (l : Option (List ℕ)) (p s : Option ℕ) (t : TypeTree) → avro_shape shape l p s ≡ Ok t → IsAvroType t (schema_tree shape l p s)
  shape_found avro.null l p s t e = absurd cc
  shape_found avro.boolean l p s t e = let same : tree.boolean ≡ t = cc in subst (λ u. IsAvroType u (schema_tree avro.boolean l p s)) same refl
  shape_found avro.int l p s t e = int_found l p s t e
  shape_found avro.long l p s t e = long_found l p s t e
  shape_found avro.float l p s t e = let same : tree.float ≡ t = cc in subst (λ u. IsAvroType u (schema_tree avro.float l p s)) same refl
  shape_found avro.double l p s t e = let same : tree.double ≡ t = cc in subst (λ u. IsAvroType u (schema_tree avro.double l p s)) same refl
  shape_found avro.bytes l p s t e = bytes_found l p s t e
  shape_found avro.text l p s t e = let same : tree.text ≡ t = cc in subst (λ u. IsAvroType u (schema_tree avro.text l p s)) same refl
  shape_found (avro.fixed_of name size) l p s t e = fixed_found name size l p s t e
  shape_found (avro.enum_of name symbols) l p s t e = absurd cc
  shape_found (avro.array_of items id) l p s t e = list_found items id l p s t (part_found items) e
  shape_found (avro.map_of values key_id value_id) l p s t e = map_found values key_id value_id l p s t (part_found values) e
  shape_found (avro.union_of branches) l p s t e = absurd cc
  shape_found (avro.record_of name fields) l p s t e = struct_found name fields l p s t (columns_found fields) e

  pub part_found : (s : SchemaTree) (t : TypeTree) (b : Bool) → avro_part s ≡ Ok (t, b) → PartFound s t b
  part_found (schema_tree (avro.union_of branches) l p s) t b e = union_found (schema_tree (avro.union_of branches) l p s) branches refl t b e
  part_found (schema_tree avro.null l p s) t b e = branch_found _ _ false _ t b (inl refl) (shape_found avro.null l p s) e
  part_found (schema_tree avro.boolean l p s) t b e = branch_found _ _ false _ t b (inl refl) (shape_found avro.boolean l p s) e
  part_found (schema_tree avro.int l p s) t b e = branch_found _ _ false _ t b (inl refl) (shape_found avro.int l p s) e
  part_found (schema_tree avro.long l p s) t b e = branch_found _ _ false _ t b (inl refl) (shape_found avro.long l p s) e
  part_found (schema_tree avro.float l p s) t b e = branch_found _ _ false _ t b (inl refl) (shape_found avro.float l p s) e
  part_found (schema_tree avro.double l p s) t b e = branch_found _ _ false _ t b (inl refl) (shape_found avro.double l p s) e
  part_found (schema_tree avro.bytes l p s) t b e = branch_found _ _ false _ t b (inl refl) (shape_found avro.bytes l p s) e
  part_found (schema_tree avro.text l p s) t b e = branch_found _ _ false _ t b (inl refl) (shape_found avro.text l p s) e
  part_found (schema_tree (avro.fixed_of name size) l p s) t b e = branch_found _ _ false _ t b (inl refl) (shape_found (avro.fixed_of name size) l p s) e
  part_found (schema_tree (avro.enum_of name symbols) l p s) t b e = branch_found _ _ false _ t b (inl refl) (shape_found (avro.enum_of name symbols) l p s) e
  part_found (schema_tree (avro.array_of items id) l p s) t b e = branch_found _ _ false _ t b (inl refl) (shape_found (avro.array_of items id) l p s) e
  part_found (schema_tree (avro.map_of values key_id value_id) l p s) t b e = branch_found _ _ false _ t b (inl refl) (shape_found (avro.map_of values key_id value_id) l p s) e
  part_found (schema_tree (avro.record_of name fields) l p s) t b e = branch_found _ _ false _ t b (inl refl) (shape_found (avro.record_of name fields) l p s) e

  union_found : (whole : SchemaTree) (branches : BranchTrees) → IsUnion whole branches → (t : TypeTree) (b : Bool) → avro_union branches ≡ Ok (t, b) → PartFound whole t b
  union_found whole no_branches is t b e = absurd cc
  union_found whole (branch only no_branches) is t b e = branch_found whole only false _ t b (inr is) (type_found only) e
  union_found whole (branch first (branch second no_branches)) is t b e = chosen (PartFound whole t b) (is_null first) _ _ (two t b)
      (λ nothing f. branch_found whole second true _ t b (first, null_is first nothing, inl is) (type_found second) f)
      (λ other g. chosen (PartFound whole t b) (is_null second) _ _ (two t b)
      (λ nothing f. branch_found whole first true _ t b (second, null_is second nothing, inr is) (type_found first) f)
      (λ no f. absurd cc) g) e
  union_found whole (branch first (branch second (branch third others))) is t b e = absurd cc

  pub columns_found : (fields : FieldTrees) (cs : List ColumnTree) → avro_columns fields ≡ Ok cs → AreAvroColumns (columns_of cs) fields
  columns_found no_fields cs e = let same : [] ≡ cs = cc in subst (λ (xs : List ColumnTree). AreAvroColumns (columns_of xs) no_fields) same refl
  columns_found (field name part id fields) cs e =
      let first = bound (avro_column name (avro_part part)) _ cs e in
      let others = bound (avro_columns fields) _ cs first.behind in
      let same : first.value ∷ others.value ≡ cs = cc in
      let value = column_value name (avro_part part) first.value first.first in
      let here = part_found part first.value.kind first.value.nullable value.0 in
      let named : first.value.name ≡ name = ap (λ (c : ColumnTree). c.name) value.1 in
      let at_name : field name part id fields ≡ field first.value.name part id fields = ap (λ n. field n part id fields) (sym named) in
      subst (λ (xs : List ColumnTree). AreAvroColumns (columns_of xs) (field name part id fields)) same
      (part, id, here.kind, fields, at_name, here.part, here.is, columns_found fields others.value others.first)
