-- The metadata of a new version can be written, and a version behind it goes on from it.
use Rattle.std.proofs.Common.{◌≡◌, ◌≢◌, ◌⊎◌, inl, inr, ⊎_elim, ℕ, zero, suc, ℤ, pos, ◌+◌, ◌-◌, ◌<◌, ◌≤◌, ◌^◌, List, [], ◌∷◌, ◌++◌, map, length, drop, true, All, Contains, Option, None, Some, refl, sym, ap, subst, ◌∙◌, arith}
use Rattle.std.specs.Prelude.{◌≤ℤ◌, is_some, IfSome}
use Rattle.std.specs.List.{IsDistinct, list_all}
use Rattle.std.specs.Ordering.{int_eq}
use Rattle.std.specs.Str.{bytes_eq}
use Rattle.std.proofs.lemmas.Bool.{and_parts, false≢true}
use Rattle.std.proofs.lemmas.Int.{ints}
use Rattle.std.proofs.lemmas.List.{append_cancel_left, drop-map, length-append}
use Rattle.std.proofs.lemmas.List.Elements.{All-cons, All-nil, Contains-append_cases, Contains-append_right}
use Rattle.std.proofs.lemmas.Map.Keys.{IsDistinct-tail}
use Rattle.lake_basics.specs.declared.limits.TheConstants.{MAX_PARTITION_COLUMNS}
use Rattle.partition_map.specs.Columns.{column_kind}
use Rattle.partition_map.specs.declared.kind.PartKind.{PartKind}
use Rattle.serde_json.specs.Written.{compact_text}
use Rattle.schema_iceberg.specs.NameMapping.{name_mapping_text}
use Rattle.target_core.specs.Mark.{mark_data}
use Rattle.table_history.specs.Path.{IsPath}
use Rattle.table_history.specs.TypeTree.{ColumnTrees}
use Rattle.table_history.specs.declared.table.Change.{Change}
use Rattle.table_history.proofs.RowListLemmas.{Contains-cases, Contains-head, Contains-none, Contains-tail}
use Rattle.iceberg_metadata.specs.Grammar.{IsConsistent, snapshot_ids}
use Rattle.iceberg_metadata.specs.Judging.{are_distinct}
use Rattle.iceberg_metadata.specs.Location.{NamesPath, front_of}
use Rattle.iceberg_metadata.specs.Paths.{HasOtherPartition, HasOtherTransform, IsRenamed, current_kinds, default_fields, kinds_of, path_ids, source_kind, sources}
use Rattle.iceberg_metadata.specs.Schemas.{HeldSchema}
use Rattle.iceberg_metadata.specs.Writing.{CanBeHeld, HaveOwnNames, IsWritable}
use Rattle.iceberg_metadata.specs.declared.metadata.Metadata.{Metadata}
use Rattle.iceberg_metadata.specs.declared.metadata.Snapshot.{Snapshot}
use Rattle.iceberg_metadata.specs.declared.metadata.SpecField.{SpecField}
use Rattle.iceberg_metadata.proofs.ListLemmas.{distinct_Decides}
use Rattle.iceberg_table.specs.Folder.{path_of}
use Rattle.target_core.specs.declared.mark.Mark.{Mark}
use Rattle.iceberg_version.specs.Names.{list_name}
use Rattle.iceberg_version.specs.Schemas.{AreSpecFields, FIRST_PARTITION_ID, Schemas, with_schemas}
use Rattle.iceberg_version.specs.Sound.{IsSoundMetadata, held_schema_ids, is_under}
use Rattle.iceberg_version.specs.Writing.{MAX_SNAPSHOTS, last_of, mapping_property, mark_property, snapshot_of, with_properties, with_snapshot, with_spec}
use Rattle.iceberg_version.proofs.BehindLemmas.{wide_kind}
use Rattle.iceberg_version.proofs.HeldLemmas.{AreSoundNext, current_there, distinct_push}
use Rattle.iceberg_version.proofs.NamePathLemmas.{list_path}
use Rattle.iceberg_version.proofs.Shared.{drop_push, in_drop, in_flat, in_map, map_push, of_map}
use Rattle.iceberg_version.proofs.SourceLemmas.{field_of, fields_length, own_sources, source_is}

-- ---- lists

distinct_drop : (k : ℕ) (xs : List ℤ) → IsDistinct int_eq xs → IsDistinct int_eq (drop k xs)
distinct_drop zero xs own = own
distinct_drop (suc k) [] own = own
distinct_drop (suc k) (x ∷ xs) own = distinct_drop k xs (IsDistinct-tail int_eq x xs own)

all_of : {A : Type 0} (P : A → Type 0) (xs : List A) → ((x : A) → Contains xs x → P x) → All P xs
all_of P [] each = All-nil P
all_of P (x ∷ xs) each = All-cons P x xs (each x (Contains-head x xs)) (all_of P xs (λ y there. each y (Contains-tail x xs y there)))

some_grown : (ids more : List ℤ) (o : Option ℤ) → ((i : ℤ) → Contains ids i → Contains more i) → IfSome o (λ i. Contains ids i) → IfSome o (λ i. Contains more i)
some_grown ids more None grown h = tt
some_grown ids more (Some i) grown h = grown i h

two_names : (t u : List ℕ) → HaveOwnNames ((mark_property, t) ∷ (mapping_property, u) ∷ [])
unfolding IsDistinct
two_names t u = ((refl, tt), (tt, tt))

some_none : {A : Type 0} (o : Option A) → is_some o ≡ true → o ≡ None → ⊥
some_none o some none = false≢true (sym (ap is_some none) ∙ some)

-- ---- the new metadata

module _ (version : ℕ) (m : Metadata) (before : IsSoundMetadata version m) (stated : ColumnTrees) (next : Schemas) (held : AreSoundNext m stated next)
    (names : List (List ℕ)) (fields : List SpecField) (are : AreSpecFields next.current FIRST_PARTITION_ID names fields)
    (change : Change) (now : ℕ) (mark : Mark) (small : version + 1 < 2 ^ 64) where
  abbrev snapshot : Snapshot
  snapshot = snapshot_of m (version + 1) change next.current.0 now

  abbrev pub made : Metadata
  made = with_properties (with_spec (with_snapshot (with_schemas m next) snapshot) fields) mark next.current

  abbrev pushed : List Snapshot
  pushed = m.snapshots ++ snapshot ∷ []

  snapshot_cases : (s : Snapshot) → Contains (last_of MAX_SNAPSHOTS pushed) s → Contains m.snapshots s ⊎ (snapshot ≡ s)
  snapshot_cases s there =
      ⊎_elim
      (λ old. inl old)
      (λ new. ⊎_elim (λ same. inr same) (λ none. absurd (Contains-none s none)) (Contains-cases snapshot [] s new))
      (Contains-append_cases m.snapshots (snapshot ∷ []) s (in_drop (length pushed - MAX_SNAPSHOTS) pushed s there))

  new_there : Contains (last_of MAX_SNAPSHOTS pushed) snapshot
  new_there =
      let len = length-append m.snapshots (snapshot ∷ []) in
      let k = length pushed - MAX_SNAPSHOTS in
      subst (λ (l : List Snapshot). Contains l snapshot) (sym (drop_push k m.snapshots snapshot (omega (arith, len)))) (Contains-append_right (drop k m.snapshots) (snapshot ∷ []) snapshot (Contains-head snapshot []))

  new_number : (i : ℤ) → Contains (snapshot_ids m) i → i ≢ pos (version + 1)
  new_number i there same =
      let s = of_map (λ (t : Snapshot). t.id) m.snapshots i there in
      let low : s.0.id ≤ℤ pos version = before.numbers s.0 s.1 in
      let at : s.0.id ≡ pos (version + 1) = s.2 ∙ same in
      omega (arith, ints, low, at)

  own_ids : IsDistinct int_eq (map (λ (s : Snapshot). s.id) (last_of MAX_SNAPSHOTS pushed))
  own_ids =
      let ids = snapshot_ids m in
      let all : IsDistinct int_eq (ids ++ pos (version + 1) ∷ []) = (distinct_Decides (ids ++ pos (version + 1) ∷ [])).0 (distinct_push ids (pos (version + 1)) ((distinct_Decides ids).1 before.own_snapshots) new_number) in
      let k = length pushed - MAX_SNAPSHOTS in
      let mapped : IsDistinct int_eq (map (λ (s : Snapshot). s.id) pushed) = subst (λ (l : List ℤ). IsDistinct int_eq l) (sym (map_push (λ (s : Snapshot). s.id) m.snapshots snapshot)) all in
      subst (λ (l : List ℤ). IsDistinct int_eq l) (drop-map (λ (s : Snapshot). s.id) k pushed) (distinct_drop k (map (λ (s : Snapshot). s.id) pushed) mapped)

  abbrev new_ids : List ℤ
  new_ids = map (λ (s : HeldSchema). s.0) next.held

  current_id : Contains new_ids next.current.0
  current_id = in_map (λ (s : HeldSchema). s.0) next.held next.current (current_there m stated next held)

  old_ids : (i : ℤ) → Contains (held_schema_ids m) i → Contains new_ids i
  old_ids i there =
      let s = of_map (λ (t : HeldSchema). t.0) m.schemas i there in
      subst (λ (j : ℤ). Contains new_ids j) s.2 (in_map (λ (t : HeldSchema). t.0) next.held s.0 (held.grown s.0 s.1))

  schemas_of : (s : Snapshot) → Contains (last_of MAX_SNAPSHOTS pushed) s → IfSome s.schema_id (λ i. Contains new_ids i)
  schemas_of s there =
      ⊎_elim
      (λ old. some_grown (held_schema_ids m) new_ids s.schema_id old_ids (before.snapshot_schemas s old))
      (λ (new : snapshot ≡ s). subst (λ (t : Snapshot). IfSome t.schema_id (λ i. Contains new_ids i)) new current_id)
      (snapshot_cases s there)

  lists_of : (s : Snapshot) → Contains (last_of MAX_SNAPSHOTS pushed) s → NamesPath m.location s.list
  lists_of s there =
      ⊎_elim
      (λ old. before.lists s old)
      (λ (new : snapshot ≡ s). subst (λ (t : Snapshot). NamesPath m.location t.list) new (λ rest is. subst IsPath (append_cancel_left (front_of m.location) (path_of (list_name (version + 1))) rest is) (list_path (version + 1) small)))
      (snapshot_cases s there)

  first_ids : are_distinct new_ids ≡ true
  first_ids = (and_parts (are_distinct new_ids) (list_all (λ (s : HeldSchema). is_under (length next.held) s.0) next.held) held.first_ids).0

  consistent : IsConsistent made new_ids
  consistent = record {
    own_schemas = (distinct_Decides new_ids).0 first_ids;
    own_specs = (distinct_Decides (pos 0 ∷ [])).0 refl;
    own_snapshots = own_ids;
    current_schema = current_id;
    default_spec = Contains-head (pos 0) [];
    current_snapshot = in_map (λ (s : Snapshot). s.id) (last_of MAX_SNAPSHOTS pushed) snapshot new_there;
    snapshot_schemas = schemas_of;
    lists = lists_of;
  }

  other_transform : HasOtherTransform made → ⊥
  other_transform t = let f = field_of next.current FIRST_PARTITION_ID names fields t.field are t.is in t.other f.is.transform

  own_renamed : IsRenamed (path_ids next.current) → ⊥
  own_renamed r =
      let there = current_there m stated next held in
      held.renamed (record { one = r.one; other = r.other; has_one = in_flat path_ids next.held next.current r.one there r.has_one; has_other = in_flat path_ids next.held next.current r.other there r.has_other; differ = r.differ })

  kinds_are : (kinds : ℤ → Option PartKind) → current_kinds made [] ≡ Some kinds → Some (source_kind next.current) ≡ Some kinds
  kinds_are kinds is = ap (λ (o : Option HeldSchema). kinds_of o None) (sym held.found) ∙ is

  other_partition : IsDistinct bytes_eq names → ((name : List ℕ) → Contains names name → is_some (column_kind stated name) ≡ true) → HasOtherPartition made [] → ⊥
  other_partition own kinds p = by p.cause
    where
      by : (¬ IsDistinct int_eq (sources (default_fields made))) ⊎ ((field : SpecField) × Contains (default_fields made) field × (p.kinds field.source_id ≡ None)) → ⊥
      by (inl twice) = twice (own_sources next.current own_renamed FIRST_PARTITION_ID names fields are own)
      by (inr bad) =
          let f = field_of next.current FIRST_PARTITION_ID names fields bad.0 are bad.1 in
          let same : source_kind next.current ≡ p.kinds = let e = kinds_are p.kinds p.are in cc e in
          let kind : p.kinds bad.0.source_id ≡ column_kind stated f.name = ap (λ (g : ℤ → Option PartKind). g bad.0.source_id) (sym same) ∙ source_is next.current own_renamed f.name bad.0.source_id f.is.source ∙ ap (λ (cs : ColumnTrees). column_kind cs f.name) held.columns ∙ wide_kind stated f.name in
          some_none (column_kind stated f.name) (kinds f.name f.named) (sym kind ∙ bad.2)

  pub writable : length names ≤ MAX_PARTITION_COLUMNS → IsDistinct bytes_eq names → ((name : List ℕ) → Contains names name → is_some (column_kind stated name) ≡ true) → IsWritable made
  writable few own kinds = record {
    schemas = all_of CanBeHeld next.held held.read;
    consistent = consistent;
    properties = two_names (compact_text (mark_data mark)) (name_mapping_text next.current.1 next.current.2);
    current = λ same. cc same;
    shown = (
      λ h. h,
      (
        λ h. h,
        (
          λ h. Contains-none _ h,
          (
            other_transform,
            (
              held.renamed,
              (
                other_partition own kinds,
                (
                  λ h. ⊎_elim (λ none. Contains-none _ none) (λ other. cc (other.0)) h,
                  (
                    λ h. ⊎_elim (λ none. Contains-none _ none) (λ other. cc (other.0)) h,
                    (λ h. ⊎_elim (λ none. Contains-none _ none) (λ (other : _ × (MAX_PARTITION_COLUMNS < length (default_fields made))). let long = other.1 in let len = fields_length next.current FIRST_PARTITION_ID names fields are in omega (arith, long, len, few)) h, tt),
                  ),
                ),
              ),
            ),
          ),
        ),
      ),
    );
  }

  pub sound_behind : IsSoundMetadata (version + 1) made
  sound_behind = record {
    schemas = held.read;
    field_ids = held.field_ids;
    renamed = held.renamed;
    own_snapshots = own_ids;
    numbers = λ s there.
        ⊎_elim
        (λ old. let low : s.id ≤ℤ pos version = before.numbers s old in omega (arith, ints, low))
        (λ (new : snapshot ≡ s). let at : s.id ≡ pos (version + 1) = ap (λ (t : Snapshot). t.id) (sym new) in omega (arith, ints, at))
        (snapshot_cases s there);
    snapshot_schemas = schemas_of;
    lists = lists_of;
  }
