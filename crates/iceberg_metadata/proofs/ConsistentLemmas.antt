-- What metadata names by an id is held, and its manifest lists have paths: tests and facts.
use Rattle.std.proofs.Common.{◌≡◌, ℤ, List, [], ◌∷◌, Bool, true, ◌&&◌, Option, Some, None, IfSome, Contains, refl}
use Rattle.std.specs.Bool.{Decides}
use Rattle.std.specs.List.{list_all}
use Rattle.std.proofs.lemmas.Bool.{and_from, and_parts}
use Rattle.table_history.proofs.RowListLemmas.{Contains-head, Contains-tail}
use Rattle.iceberg_metadata.specs.declared.metadata.Metadata.{Metadata}
use Rattle.iceberg_metadata.specs.declared.metadata.Snapshot.{Snapshot}
use Rattle.iceberg_metadata.specs.Grammar.{IsConsistent, spec_ids, snapshot_ids}
use Rattle.iceberg_metadata.specs.Judging.{is_among, is_among_if_any, are_distinct, have_own_ids, are_held, is_consistent}
use Rattle.iceberg_metadata.specs.Location.{front_of, NamesPath, names_path}
use Rattle.iceberg_metadata.proofs.ListLemmas.{all_from, among_Decides, distinct_Decides}
use Rattle.iceberg_metadata.proofs.LocationLemmas.{names_Decides}

-- ---- tests of lists

module _ {X : Type 0} (p : X → Bool) (P : X → Type 0) (same : (x : X) → Decides (p x) (P x)) where
  all_to : (xs : List X) → ((x : X) → Contains xs x → P x) → list_all p xs ≡ true
  all_to [] all = refl
  all_to (x ∷ xs) all = and_from (p x) (list_all p xs) ((same x).1 (all x (Contains-head x xs))) (all_to xs (λ y there. all y (Contains-tail x xs y there)))

  all_Decides : (xs : List X) → Decides (list_all p xs) ((x : X) → Contains xs x → P x)
  all_Decides xs = (λ h x there. (same x).0 (all_from p xs x h there), all_to xs)

-- ---- ids

pub among_if_any : (ids : List ℤ) (id : Option ℤ) → Decides (is_among_if_any ids id) (IfSome id (λ i. Contains ids i))
among_if_any ids None = (λ h. tt, λ h. refl)
among_if_any ids (Some id) = among_Decides ids id

-- ---- all of it

module _ (m : Metadata) (schemas : List ℤ) where
  abbrev have_schemas : Bool
  have_schemas = list_all (λ (s : Snapshot). is_among_if_any schemas s.schema_id) m.snapshots

  abbrev name_paths : Bool
  name_paths = list_all (λ (s : Snapshot). names_path (front_of m.location) s.list) m.snapshots

  schemas_Decides : Decides have_schemas ((s : Snapshot) → Contains m.snapshots s → IfSome s.schema_id (λ i. Contains schemas i))
  schemas_Decides = all_Decides (λ (s : Snapshot). is_among_if_any schemas s.schema_id) (λ s. IfSome s.schema_id (λ i. Contains schemas i)) (λ s. among_if_any schemas s.schema_id) m.snapshots

  paths_Decides : Decides name_paths ((s : Snapshot) → Contains m.snapshots s → NamesPath m.location s.list)
  paths_Decides = all_Decides (λ (s : Snapshot). names_path (front_of m.location) s.list) (λ s. NamesPath m.location s.list) (λ s. names_Decides m.location s.list) m.snapshots

  consistent_to : is_consistent m schemas ≡ true → IsConsistent m schemas
  consistent_to h =
      let a = and_parts (have_own_ids m schemas) (are_held m schemas && (have_schemas && name_paths)) h in
      let own = and_parts (are_distinct schemas) (are_distinct (spec_ids m) && are_distinct (snapshot_ids m)) a.0 in
      let others = and_parts (are_distinct (spec_ids m)) (are_distinct (snapshot_ids m)) own.1 in
      let b = and_parts (are_held m schemas) (have_schemas && name_paths) a.1 in
      let held = and_parts (is_among schemas m.current_schema) (is_among (spec_ids m) m.default_spec && is_among_if_any (snapshot_ids m) m.current_snapshot) b.0 in
      let more = and_parts (is_among (spec_ids m) m.default_spec) (is_among_if_any (snapshot_ids m) m.current_snapshot) held.1 in
      let c = and_parts have_schemas name_paths b.1 in
      record {
        own_schemas = (distinct_Decides schemas).0 own.0;
        own_specs = (distinct_Decides (spec_ids m)).0 others.0;
        own_snapshots = (distinct_Decides (snapshot_ids m)).0 others.1;
        current_schema = (among_Decides schemas m.current_schema).0 held.0;
        default_spec = (among_Decides (spec_ids m) m.default_spec).0 more.0;
        current_snapshot = (among_if_any (snapshot_ids m) m.current_snapshot).0 more.1;
        snapshot_schemas = schemas_Decides.0 c.0;
        lists = paths_Decides.0 c.1;
      }

  consistent_from : IsConsistent m schemas → is_consistent m schemas ≡ true
  consistent_from is =
      let own : have_own_ids m schemas ≡ true =
      and_from (are_distinct schemas) (are_distinct (spec_ids m) && are_distinct (snapshot_ids m)) ((distinct_Decides schemas).1 is.own_schemas)
      (and_from (are_distinct (spec_ids m)) (are_distinct (snapshot_ids m)) ((distinct_Decides (spec_ids m)).1 is.own_specs) ((distinct_Decides (snapshot_ids m)).1 is.own_snapshots)) in
      let held : are_held m schemas ≡ true =
      and_from (is_among schemas m.current_schema) (is_among (spec_ids m) m.default_spec && is_among_if_any (snapshot_ids m) m.current_snapshot) ((among_Decides schemas m.current_schema).1 is.current_schema)
      (and_from (is_among (spec_ids m) m.default_spec) (is_among_if_any (snapshot_ids m) m.current_snapshot) ((among_Decides (spec_ids m) m.default_spec).1 is.default_spec) ((among_if_any (snapshot_ids m) m.current_snapshot).1 is.current_snapshot)) in
      and_from (have_own_ids m schemas) (are_held m schemas && (have_schemas && name_paths)) own
      (and_from (are_held m schemas) (have_schemas && name_paths) held (and_from have_schemas name_paths (schemas_Decides.1 is.snapshot_schemas) (paths_Decides.1 is.lists)))

pub consistent_Decides : (m : Metadata) (schemas : List ℤ) → Decides (is_consistent m schemas) (IsConsistent m schemas)
consistent_Decides m schemas = (consistent_to m schemas, consistent_from m schemas)
