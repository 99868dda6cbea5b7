-- The plan of a snapshot in a table's own metadata is sound.
use Rattle.std.proofs.Common.{◌≡◌, ◌⊎◌, ◌≤◌, ◌<◌, ℕ, ℤ, List, [], ◌∷◌, Bool, true, false, cond, Contains, length, map, All, Option, None, Some, Result, Ok, refl, sym, ap, subst, ◌∙◌, inl, inr, ⊎_elim, arith}
use Rattle.std.specs.Prelude.{flat_map, nat_lt, option_and_then, option_map}
use Rattle.std.specs.List.{AllByRecursion, IsDistinct}
use Rattle.std.specs.Ordering.{int_eq}
use Rattle.std.specs.Str.{bytes_eq}
use Rattle.std.proofs.lemmas.Bool.{cases_Bool, false≢true}
use Rattle.std.proofs.lemmas.Bool.Decides.{Decides-int_eq, nat_tests}
use Rattle.std.proofs.lemmas.List.Elements.{All-contains, Contains-append_left, Contains-append_right}
use Rattle.std.proofs.lemmas.Map.Keys.{IsDistinct-cons, IsDistinct-from_apart, IsDistinct-head, IsDistinct-tail}
use Rattle.std.proofs.lemmas.Slice.Eq.{bytes_eq-Decides}
use Rattle.lake_basics.specs.Outcome.{each, required}
use Rattle.lake_basics.specs.declared.limits.TheConstants.{MAX_PARTITION_COLUMNS}
use Rattle.lake_basics.proofs.Steps.{bind_ok, ok_is, required_some, each_cons}
use Rattle.partition_map.specs.Columns.{column_kind}
use Rattle.partition_map.specs.declared.kind.PartKind.{PartKind}
use Rattle.schema_map.specs.Paths.{Path}
use Rattle.schema_map.specs.IcebergFits.{FitsIceberg}
use Rattle.schema_iceberg.proofs.IcebergSound.{given_fits}
use Rattle.table_history.specs.Sound.{IsSound}
use Rattle.table_history.specs.SchemaSize.{IsWithinLimits}
use Rattle.table_history.specs.TypeTree.{ColumnTrees}
use Rattle.table_history.proofs.RowListLemmas.{Contains-cases, Contains-head, Contains-none, Contains-tail, all_at}
use Rattle.iceberg_metadata.specs.Paths.{HasOtherPartition, IsRenamed, PathId, all_path_ids, current_kinds, default_fields, held_schema, held_unread, kinds_of, path_ids, path_of, sources}
use Rattle.iceberg_metadata.specs.Schemas.{HeldSchema}
use Rattle.iceberg_columns.specs.SourceColumns.{column_of, top_column}
use Rattle.iceberg_metadata.specs.Writing.{CanBeHeld, IsWritable}
use Rattle.iceberg_columns.specs.declared.columns.SourceColumn.{SourceColumn}
use Rattle.iceberg_metadata.specs.declared.error.MetadataError.TheVariants.{PartitionType}
use Rattle.iceberg_metadata.specs.declared.metadata.Metadata.{Metadata}
use Rattle.iceberg_metadata.specs.declared.metadata.Snapshot.{Snapshot}
use Rattle.iceberg_metadata.specs.declared.metadata.SpecField.{SpecField}
use Rattle.iceberg_metadata.proofs.ListLemmas.{distinct_Decides}
use Rattle.iceberg_metadata.specs.Judging.{are_distinct}
use Rattle.iceberg_table.specs.Plan.{IsPlanOf, IsSoundPlan, names_of}
use Rattle.iceberg_table.specs.declared.plan.Plan.{Plan}

-- ---- a column

pub record IsColumn (s : HeldSchema) (f : SpecField) (c : SourceColumn) : Type 0 where
  pub named : path_of (path_ids s) f.source_id ≡ Some (c.name ∷ [])
  pub kind : column_kind s.1 c.name ≡ Some c.kind

by_kind : (f : SpecField) (name : List ℕ) (o : Option PartKind) (c : SourceColumn) → option_map (λ kind. record { field_id = f.field_id; name = name; kind = kind }) o ≡ Some c → (name ≡ c.name) × (o ≡ Some c.kind)
by_kind f name None c is = absurd (cc)
by_kind f name (Some k) c is =
    let same : record { field_id = f.field_id; name = name; kind = k } ≡ c = cc in
    (ap (λ (d : SourceColumn). d.name) same, ap (λ (d : SourceColumn). Some d.kind) same)

by_path : (s : HeldSchema) (f : SpecField) (o : Option Path) (c : SourceColumn) → path_of (path_ids s) f.source_id ≡ o → option_and_then (top_column s.1 f) o ≡ Some c → IsColumn s f c
by_path s f None c at is = absurd (cc)
by_path s f (Some []) c at is = absurd (cc)
by_path s f (Some (name ∷ [])) c at is =
    let got = by_kind f name (column_kind s.1 name) c is in
    record { named = at ∙ ap (λ (n : List ℕ). Some (n ∷ [])) got.0; kind = ap (column_kind s.1) (sym got.0) ∙ got.1 }
by_path s f (Some (name ∷ (part ∷ path))) c at is = absurd (cc)

pub column_is : (s : HeldSchema) (f : SpecField) (c : SourceColumn) → column_of s f ≡ Ok c → IsColumn s f c
column_is s f c is = by_path s f (path_of (path_ids s) f.source_id) c refl (required_some PartitionType (option_and_then (top_column s.1 f) (path_of (path_ids s) f.source_id)) c is)

-- ---- columns

each_length : {A B E : Type 0} (f : A → Result B E) (xs : List A) (ys : List B) → each f xs ≡ Ok ys → length ys ≡ length xs
each_length f [] ys is = let none : [] ≡ ys = ok_is [] ys is in ap length (sym none)
each_length f (x ∷ xs) ys is =
    let got = each_cons f x xs ys is in
    let rest = each_length f xs got.1 got.3 in
    let same = ap length (sym got.4) in omega (arith, rest, same)

-- each column is of a field
of_field : (s : HeldSchema) (fields : List SpecField) (columns : List SourceColumn) → each (column_of s) fields ≡ Ok columns → (c : SourceColumn) → Contains columns c → (f : SpecField) × Contains fields f × IsColumn s f c
of_field s [] columns is c there = let none : [] ≡ columns = ok_is [] columns is in absurd (Contains-none c (subst (λ (l : List SourceColumn). Contains l c) (sym none) there))
of_field s (f ∷ fs) columns is c there =
    let got = each_cons (column_of s) f fs columns is in
    ⊎_elim
    (λ same. (f, Contains-head f fs, subst (IsColumn s f) same (column_is s f got.0 got.2)))
    (λ later. let rest = of_field s fs got.1 got.3 c later in (rest.0, Contains-tail f fs rest.0 rest.1, rest.2))
    (Contains-cases got.0 got.1 c (subst (λ (l : List SourceColumn). Contains l c) (sym got.4) there))

-- ---- names

path_in_by : (p : PathId) (ps : List PathId) (id : ℤ) (path : Path) (b : Bool) → int_eq p.1 id ≡ b → cond b (Some p.0) (path_of ps id) ≡ Some path → (path_of ps id ≡ Some path → (q : PathId) × Contains ps q × (q.0 ≡ path) × (int_eq q.1 id ≡ true)) → (q : PathId) × Contains (p ∷ ps) q × (q.0 ≡ path) × (int_eq q.1 id ≡ true)
path_in_by p ps id path true is at rest = let same : p.0 ≡ path = cc in (p, Contains-head p ps, same, is)
path_in_by p ps id path false is at rest = let more = rest at in (more.0, Contains-tail p ps more.0 more.1, more.2, more.3)

path_in : (ps : List PathId) (id : ℤ) (path : Path) → path_of ps id ≡ Some path → (q : PathId) × Contains ps q × (q.0 ≡ path) × (int_eq q.1 id ≡ true)
path_in [] id path at = absurd (cc)
path_in (p ∷ ps) id path at = path_in_by p ps id path (int_eq p.1 id) refl at (path_in ps id path)

in_flat : (schemas : List HeldSchema) (s : HeldSchema) (q : PathId) → Contains schemas s → Contains (path_ids s) q → Contains (flat_map path_ids schemas) q
in_flat [] s q there within = absurd (Contains-none s there)
in_flat (r ∷ rs) s q there within =
    ⊎_elim
    (λ same. Contains-append_left (path_ids r) (flat_map path_ids rs) q (subst (λ (h : HeldSchema). Contains (path_ids h) q) (sym same) within))
    (λ later. Contains-append_right (path_ids r) (flat_map path_ids rs) q (in_flat rs s q later within))
    (Contains-cases r rs s there)

all_names : (P : List ℕ → Type 0) (columns : List SourceColumn) → ((c : SourceColumn) → Contains columns c → P c.name) → AllByRecursion P (names_of columns)
all_names P [] each = tt
all_names P (c ∷ cs) each = (each c (Contains-head c cs), all_names P cs (λ d there. each d (Contains-tail c cs d there)))

in_sources : (fields : List SpecField) (f : SpecField) → Contains fields f → Contains (sources fields) f.source_id
in_sources [] f there = absurd (Contains-none f there)
in_sources (g ∷ gs) f there =
    ⊎_elim
    (λ same. subst (λ (h : SpecField). Contains (sources (g ∷ gs)) h.source_id) same (Contains-head g.source_id (sources gs)))
    (λ later. Contains-tail g.source_id (sources gs) f.source_id (in_sources gs f later))
    (Contains-cases g gs f there)

module _ (m : Metadata) (kept : IsRenamed (all_path_ids [] m.schemas) → ⊥) (s : HeldSchema) (held : Contains m.schemas s) where
  -- columns of two fields have two names
  apart : (f g : SpecField) (c d : SourceColumn) → IsColumn s f c → IsColumn s g d → int_eq f.source_id g.source_id ≡ false → bytes_eq c.name d.name ≡ false
  apart f g c d a b other = ⊎_elim (λ same. absurd (kept (renamed same))) (λ is. is) (cases_Bool (bytes_eq c.name d.name))
    where
      renamed : bytes_eq c.name d.name ≡ true → IsRenamed (all_path_ids [] m.schemas)
      renamed same =
          let name : c.name ≡ d.name = (bytes_eq-Decides c.name d.name).0 same in
          let p = path_in (path_ids s) f.source_id (c.name ∷ []) a.named in
          let q = path_in (path_ids s) g.source_id (d.name ∷ []) b.named in
          let p_is : p.0.1 ≡ f.source_id = (Decides-int_eq p.0.1 f.source_id).0 p.3 in
          let q_is : q.0.1 ≡ g.source_id = (Decides-int_eq q.0.1 g.source_id).0 q.3 in
          record {
            one = p.0;
            other = q.0;
            has_one = in_flat m.schemas s p.0 held p.1;
            has_other = in_flat m.schemas s q.0 held q.1;
            differ = inr (p.2 ∙ ap (λ (n : List ℕ). n ∷ []) name ∙ sym q.2, λ one. false≢true (sym other ∙ (Decides-int_eq f.source_id g.source_id).1 (sym p_is ∙ one ∙ q_is)));
          }

  names_distinct : (fields : List SpecField) (columns : List SourceColumn) → each (column_of s) fields ≡ Ok columns → IsDistinct int_eq (sources fields) → IsDistinct bytes_eq (names_of columns)
  names_distinct [] columns is distinct = let none : [] ≡ columns = ok_is [] columns is in subst (λ (l : List SourceColumn). IsDistinct bytes_eq (names_of l)) none (IsDistinct-from_apart bytes_eq [] (λ i j d _ within. absurd (omega arith)))
  names_distinct (f ∷ fs) columns is distinct =
      let got = each_cons (column_of s) f fs columns is in
      let mine = column_is s f got.0 got.2 in
      let others = all_names (λ y. bytes_eq got.0.name y ≡ false) got.1 (λ d there.
      let g = of_field s fs got.1 got.3 d there in
      apart f g.0 got.0 d mine g.2 (all_at (λ y. int_eq f.source_id y ≡ false) (sources fs) g.0.source_id (IsDistinct-head int_eq f.source_id (sources fs) distinct) (in_sources fs g.0 g.1))) in
      subst (λ (l : List SourceColumn). IsDistinct bytes_eq (names_of l)) got.4
      (IsDistinct-cons bytes_eq got.0.name (names_of got.1) others (names_distinct fs got.1 got.3 (IsDistinct-tail int_eq f.source_id (sources fs) distinct)))

-- ---- a table's own metadata

held_by : (s : HeldSchema) (ss : List HeldSchema) (id : ℤ) (b : Bool) → int_eq s.0 id ≡ b → (s.0 ≡ id) ⊎ ((t : HeldSchema) × (held_schema ss id ≡ Some t)) → (t : HeldSchema) × (cond b (Some s) (held_schema ss id) ≡ Some t)
held_by s ss id true is there = (s, refl)
held_by s ss id false is (inl same) = absurd (false≢true (sym is ∙ (Decides-int_eq s.0 id).1 same))
held_by s ss id false is (inr more) = more

held_there : (ss : List HeldSchema) (id : ℤ) → Contains (map (λ (s : HeldSchema). s.0) ss) id → (t : HeldSchema) × (held_schema ss id ≡ Some t)
held_there [] id there = absurd (Contains-none id there)
held_there (s ∷ ss) id there = held_by s ss id (int_eq s.0 id) refl (⊎_elim (λ same. inl same) (λ later. inr (held_there ss id later)) (Contains-cases s.0 (map (λ (t : HeldSchema). t.0) ss) id there))

pub in_schemas_by : (s : HeldSchema) (ss : List HeldSchema) (id : ℤ) (t : HeldSchema) (b : Bool) → cond b (Some s) (held_schema ss id) ≡ Some t → (held_schema ss id ≡ Some t → Contains ss t) → Contains (s ∷ ss) t
in_schemas_by s ss id t true is rest = let same : s ≡ t = cc in subst (Contains (s ∷ ss)) same (Contains-head s ss)
in_schemas_by s ss id t false is rest = Contains-tail s ss t (rest is)

pub in_schemas : (ss : List HeldSchema) (id : ℤ) (t : HeldSchema) → held_schema ss id ≡ Some t → Contains ss t
in_schemas [] id t is = absurd (cc)
in_schemas (s ∷ ss) id t is = in_schemas_by s ss id t (int_eq s.0 id) is (in_schemas ss id t)

few_by : (n : ℕ) (b : Bool) → nat_lt MAX_PARTITION_COLUMNS n ≡ b → (MAX_PARTITION_COLUMNS < n → ⊥) → n ≤ MAX_PARTITION_COLUMNS
few_by n true is none = absurd (none (grind (arith, nat_tests)))
few_by n false is none = grind (arith, nat_tests)

sources_distinct : (m : Metadata) (kinds : ℤ → Option PartKind) → current_kinds m [] ≡ Some kinds → (HasOtherPartition m [] → ⊥) → IsDistinct int_eq (sources (default_fields m))
sources_distinct m kinds are none =
    let ids = sources (default_fields m) in
    ⊎_elim (λ is. (distinct_Decides ids).0 is) (λ twice. absurd (none (record { kinds = kinds; are = are; cause = inl (λ d. false≢true (sym twice ∙ (distinct_Decides ids).1 d)) }))) (cases_Bool (are_distinct ids))

fits_held : (m : Metadata) (s : HeldSchema) → All CanBeHeld m.schemas → Contains m.schemas s → FitsIceberg s.1 s.2
fits_held m s all there =
    let can = All-contains CanBeHeld m.schemas s all there in
    given_fits can.0 (Ok (s.1, s.2)) can.1

pub plan_sound : (m : Metadata) (s : Snapshot) (plan : Plan) → IsWritable m → IsPlanOf m s plan → IsSoundPlan plan
plan_sound m s plan own is =
    let id = bind_ok _ (λ (i : ℤ). required _ (held_schema m.schemas i)) is.held is.named in
    let at : held_schema m.schemas id.0 ≡ Some is.held = required_some _ (held_schema m.schemas id.0) is.held id.2 in
    let held = in_schemas m.schemas id.0 is.held at in
    let schema = fits_held m is.held own.schemas held in
    let current = held_there m.schemas m.current_schema own.consistent.current_schema in
    let distinct = sources_distinct m _ (ap (λ (o : Option HeldSchema). kinds_of o (held_unread [] m.current_schema)) current.1) own.shown.1.1.1.1.1.0 in
    let fields = default_fields m in
    let few = few_by (length fields) (nat_lt MAX_PARTITION_COLUMNS (length fields)) refl (λ many. own.shown.1.1.1.1.1.1.1.1.0 (inr (refl, many))) in
    let same = each_length (column_of is.held) fields plan.columns is.columns in
    record {
      schema = subst IsSound (sym is.schema) schema.sound;
      size = subst IsWithinLimits (sym is.schema) schema.within;
      distinct = names_distinct m own.shown.1.1.1.1.0 is.held held fields plan.columns is.columns distinct;
      few = omega (arith, few, same);
      kinds = λ c there. ap (λ (cs : ColumnTrees). column_kind cs c.name) is.schema ∙ (of_field is.held fields plan.columns is.columns c there).2.kind;
    }
