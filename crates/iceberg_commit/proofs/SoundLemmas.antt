-- Sound metadata, as a test and as facts.
use Rattle.std.proofs.Common.{◌≡◌, ℕ, ℤ, pos, List, Bool, true, false, not, Contains, Result, Ok, Err, refl, sym, ap, ◌∙◌, arith}
use Rattle.std.specs.Prelude.{◌≤ℤ◌, ◌&&◌, int_lt, flat_map}
use Rattle.std.specs.Bool.{Decides}
use Rattle.std.specs.Cmp.Lexicographic.{pointwise}
use Rattle.std.specs.List.{list_all}
use Rattle.std.specs.Ordering.{int_eq}
use Rattle.std.proofs.lemmas.Bool.{and_from, and_parts, false_from_ne_true, false≢true, not-true, not_from_false}
use Rattle.std.proofs.lemmas.Bool.Decides.{Decides-int_eq}
use Rattle.std.proofs.lemmas.Int.{ints}
use Rattle.std.proofs.lemmas.Slice.Eq.{slice_eq-Decides}
use Rattle.table_history.specs.TypeEq.{columns_eq}
use Rattle.table_history.specs.TypeEqLaws.{columns_eq-Decides}
use Rattle.table_history.specs.TypeTree.{ColumnTrees}
use Rattle.schema_iceberg.specs.Iceberg.{iceberg_schema}
use Rattle.schema_map.specs.declared.fault.MapError.{MapError}
use Rattle.schema_iceberg.proofs.IcebergSound.{read_again}
use Rattle.iceberg_metadata.specs.Grammar.{snapshot_ids}
use Rattle.iceberg_metadata.specs.Judging.{are_distinct, is_among_if_any, is_renamed}
use Rattle.iceberg_metadata.specs.Location.{front_of, names_path}
use Rattle.iceberg_metadata.specs.Paths.{path_ids}
use Rattle.iceberg_metadata.specs.Schemas.{HeldSchema}
use Rattle.iceberg_metadata.specs.Writing.{CanBeHeld, schema_data}
use Rattle.iceberg_metadata.specs.declared.metadata.Metadata.{Metadata}
use Rattle.iceberg_metadata.specs.declared.metadata.Snapshot.{Snapshot}
use Rattle.iceberg_metadata.proofs.ListLemmas.{all_from, distinct_Decides}
use Rattle.iceberg_metadata.proofs.LocationLemmas.{names_Decides}
use Rattle.iceberg_metadata.proofs.PathLemmas.{renamed_Decides}
use Rattle.iceberg_metadata.proofs.ConsistentLemmas.{among_if_any}
use Rattle.iceberg_version.specs.Sound.{IsSoundMetadata, held_field_ids, held_schema_ids, is_read_again, is_same_schema, is_sound_metadata, is_sound_snapshot, is_upto}
use Rattle.iceberg_version.proofs.Shared.{all_tested}

-- ---- schemas

ids_Decides : (xs ys : List ℤ) → Decides (pointwise int_eq xs ys) (xs ≡ ys)
ids_Decides xs ys = slice_eq-Decides Decides-int_eq xs ys (pointwise int_eq xs ys) refl

same_read : (s : HeldSchema) (r : Result (ColumnTrees × List ℤ) MapError) → is_same_schema s r ≡ true → r ≡ Ok (s.1, s.2)
same_read s (Ok p) h =
    let both = and_parts (columns_eq p.0 s.1) (pointwise int_eq p.1 s.2) h in
    let one = (columns_eq-Decides p.0 s.1).0 both.0 in
    let two = (ids_Decides p.1 s.2).0 both.1 in
    (λ i. Ok (one i, two i))
same_read s (Err e) h = absurd (false≢true h)

read_same : (s : HeldSchema) (r : Result (ColumnTrees × List ℤ) MapError) → r ≡ Ok (s.1, s.2) → is_same_schema s r ≡ true
read_same s r is = ap (is_same_schema s) is ∙ and_from (columns_eq s.1 s.1) (pointwise int_eq s.2 s.2) ((columns_eq-Decides s.1 s.1).1 refl) ((ids_Decides s.2 s.2).1 refl)

read_Decides : (s : HeldSchema) → Decides (is_read_again s) (CanBeHeld s)
read_Decides s = (
  λ h. (schema_data s, same_read s (iceberg_schema (schema_data s)) h),
  λ can. read_same s (iceberg_schema (schema_data s)) (read_again s.1 s.2 s.0 can.0 can.1),
)

-- ---- numbers

upto_Decides : (last id : ℤ) → Decides (is_upto last id) (id ≤ℤ last)
upto_Decides last id = (
  λ h. let is : int_lt last id ≡ false = not-true (int_lt last id) h in grind (arith, ints, is),
  λ within. not_from_false (int_lt last id) (false_from_ne_true (int_lt last id) (λ (over : int_lt last id ≡ true). absurd (grind (arith, ints, over, within)))),
)

-- ---- all of it

module _ (version : ℕ) (m : Metadata) where
  abbrev schemas_read : Bool
  schemas_read = list_all is_read_again m.schemas

  abbrev ids_given : Bool
  ids_given = list_all (is_upto m.last_column_id) (held_field_ids m)

  abbrev none_renamed : Bool
  none_renamed = not (is_renamed (flat_map path_ids m.schemas))

  abbrev own_snapshots : Bool
  own_snapshots = are_distinct (snapshot_ids m)

  abbrev snapshots_sound : Bool
  snapshots_sound = list_all (is_sound_snapshot version m) m.snapshots

  pub sound_from : is_sound_metadata version m ≡ true → IsSoundMetadata version m
  sound_from h =
      let a = and_parts schemas_read (ids_given && (none_renamed && (own_snapshots && snapshots_sound))) h in
      let b = and_parts ids_given (none_renamed && (own_snapshots && snapshots_sound)) a.1 in
      let c = and_parts none_renamed (own_snapshots && snapshots_sound) b.1 in
      let d = and_parts own_snapshots snapshots_sound c.1 in
      let each : (s : Snapshot) → Contains m.snapshots s → (is_upto (pos version) s.id ≡ true) × ((is_among_if_any (held_schema_ids m) s.schema_id ≡ true) × (names_path (front_of m.location) s.list ≡ true)) = λ s there.
      let one = and_parts (is_upto (pos version) s.id) (is_among_if_any (held_schema_ids m) s.schema_id && names_path (front_of m.location) s.list) (all_from (is_sound_snapshot version m) m.snapshots s d.1 there) in
      (one.0, and_parts (is_among_if_any (held_schema_ids m) s.schema_id) (names_path (front_of m.location) s.list) one.1) in
      record {
        schemas = λ s there. (read_Decides s).0 (all_from is_read_again m.schemas s a.0 there);
        field_ids = λ id there. (upto_Decides m.last_column_id id).0 (all_from (is_upto m.last_column_id) (held_field_ids m) id b.0 there);
        renamed = λ r. false≢true (sym (not-true (is_renamed (flat_map path_ids m.schemas)) c.0) ∙ (renamed_Decides (flat_map path_ids m.schemas)).1 r);
        own_snapshots = (distinct_Decides (snapshot_ids m)).0 d.0;
        numbers = λ s there. (upto_Decides (pos version) s.id).0 (each s there).0;
        snapshot_schemas = λ s there. (among_if_any (held_schema_ids m) s.schema_id).0 (each s there).1.0;
        lists = λ s there. (names_Decides m.location s.list).0 (each s there).1.1;
      }

  pub sound_to : IsSoundMetadata version m → is_sound_metadata version m ≡ true
  sound_to sound =
      and_from schemas_read (ids_given && (none_renamed && (own_snapshots && snapshots_sound)))
      (all_tested is_read_again m.schemas (λ s there. (read_Decides s).1 (sound.schemas s there)))
      (and_from ids_given (none_renamed && (own_snapshots && snapshots_sound))
      (all_tested (is_upto m.last_column_id) (held_field_ids m) (λ id there. (upto_Decides m.last_column_id id).1 (sound.field_ids id there)))
      (and_from none_renamed (own_snapshots && snapshots_sound)
      (not_from_false (is_renamed (flat_map path_ids m.schemas)) (false_from_ne_true (is_renamed (flat_map path_ids m.schemas)) (λ is. sound.renamed ((renamed_Decides (flat_map path_ids m.schemas)).0 is))))
      (and_from own_snapshots snapshots_sound
      ((distinct_Decides (snapshot_ids m)).1 sound.own_snapshots)
      (all_tested (is_sound_snapshot version m) m.snapshots (λ s there.
      and_from (is_upto (pos version) s.id) (is_among_if_any (held_schema_ids m) s.schema_id && names_path (front_of m.location) s.list)
      ((upto_Decides (pos version) s.id).1 (sound.numbers s there))
      (and_from (is_among_if_any (held_schema_ids m) s.schema_id) (names_path (front_of m.location) s.list)
      ((among_if_any (held_schema_ids m) s.schema_id).1 (sound.snapshot_schemas s there))
      ((names_Decides m.location s.list).1 (sound.lists s there))))))))
