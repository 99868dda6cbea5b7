-- The list of a new version, and each new manifest of it, can be written.
use Rattle.std.proofs.Common.{◌≡◌, ⊎_elim, ℕ, zero, suc, ◌<◌, ◌≤◌, ◌^◌, List, [], ◌∷◌, map, get_or, length, drop, true, not, Contains, IsSome, Option, None, Some, refl, ap, subst, arith}
use Rattle.std.specs.Prelude.{is_some, unwrap_or}
use Rattle.std.specs.List.{IsDistinct, filter, list_all, list_any}
use Rattle.std.specs.Str.{bytes_eq}
use Rattle.std.proofs.Math.Logic.{∥∥₁_elim}
use Rattle.std.proofs.lemmas.Bool.Decides.{nat_tests}
use Rattle.std.proofs.lemmas.List.{length-map}
use Rattle.std.proofs.lemmas.List.Elements.{Contains-append_right}
use Rattle.std.proofs.lemmas.Map.Keys.{IsDistinct-prop}
use Rattle.std.proofs.lemmas.Bool.{and_parts}
use Rattle.lake_basics.specs.declared.limits.TheConstants.{MAX_LIVE_FILES, MAX_PARTITION_COLUMNS}
use Rattle.lake_basics.proofs.Texts.{fewer}
use Rattle.file_links.specs.Rows.{Entry, Owns, rows_of}
use Rattle.file_links.specs.declared.slots.Held.{Held}
use Rattle.partition_map.specs.Columns.{column_kind}
use Rattle.schema_map.specs.Paths.{column_paths}
use Rattle.table_history.specs.History.{FitColumns, IsSoundTable}
use Rattle.table_history.specs.Row.{Row}
use Rattle.table_history.specs.Rows.{HasDistinctPaths, paths_of}
use Rattle.table_history.specs.SchemaSize.{IsWithinLimits}
use Rattle.table_history.specs.Sound.{IsSound}
use Rattle.table_history.specs.TypeTree.{ColumnTrees}
use Rattle.table_history.specs.declared.table.Commit.{Commit}
use Rattle.table_history.specs.declared.table.Table.{Table}
use Rattle.table_history.proofs.RowListLemmas.{Contains-cases, Contains-none, Contains-paths}
use Rattle.table_history.proofs.TableLemmas.{Contains-paths_cases}
use Rattle.iceberg_metadata.proofs.ListLemmas.{all_from}
use Rattle.target_core.specs.Conditions.{CanPublish, IsPublishable}
use Rattle.target_core.proofs.RowPaths.{rows_length}
use Rattle.iceberg_version.specs.KeptEnd.{held_rows, view_of}
use Rattle.iceberg_commit.specs.NewVersion.{ChangesKinds, kinds_in, schema_behind}
use Rattle.iceberg_version.specs.Sound.{is_born, is_sound_owner}
use Rattle.iceberg_version.specs.declared.kept.IcebergKept.{IcebergKept}
use Rattle.iceberg_version.specs.declared.kept.KeptManifest.{KeptManifest}
use Rattle.iceberg_version.proofs.BehindLemmas.{is_behind, kind_there, same_kinds, table_behind}
use Rattle.iceberg_version.proofs.IdLemmas.{top_path}
use Rattle.iceberg_version.proofs.RowLemmas.{entries_of, there}
use Rattle.iceberg_version.proofs.Shared.{of_map}

map_same : {A B : Type 0} (f g : A → B) (xs : List A) (x : A) → map f xs ≡ map g xs → Contains xs x → f x ≡ g x
map_same f g [] x same named = absurd (Contains-none x named)
map_same f g (y ∷ xs) x same named =
    let first : f y ≡ g y = ap (λ l. get_or l 0 (f y)) same in
    let rest : map f xs ≡ map g xs = ap (drop 1) same in
    ⊎_elim (λ e. subst (λ z. f z ≡ g z) e first) (λ later. map_same f g xs x rest later) (Contains-cases y xs x named)

-- ---- the table behind the commit

module _ (kept : IcebergKept) (commit : Commit) (can : CanPublish (view_of kept) commit) (same : ChangesKinds kept commit.change → ⊥) where
  distinct_rows : HasDistinctPaths kept.table.rows
  distinct_rows = ∥∥₁_elim kept.table_sound (IsDistinct-prop bytes_eq (paths_of kept.table.rows)) (λ (s : IsSoundTable kept.table). s.distinct)

  abbrev after : Table
  after = table_behind kept.table commit.change

  may : IsPublishable after
  may = can.after after (is_behind kept.table commit.change distinct_rows can.change)

  abbrev stated : ColumnTrees
  stated = schema_behind kept.table commit.change

  pub few_columns : length kept.table.partition ≤ MAX_PARTITION_COLUMNS
  few_columns = may.partition_columns

  pub own_columns : IsDistinct bytes_eq kept.table.partition
  own_columns = may.partition_distinct

  pub columns_kinds : (name : List ℕ) → Contains kept.table.partition name → is_some (column_kind stated name) ≡ true
  columns_kinds name named = kind_there stated name (may.partition_kinds name named)

  pub columns_top : (name : List ℕ) → Contains kept.table.partition name → Contains (column_paths stated) (name ∷ [])
  columns_top name named = let h = may.partition_kinds name named in top_path stated name h.0 h.2

  pub stated_sound : IsSound stated
  stated_sound = may.schema

  pub stated_size : IsWithinLimits stated
  stated_size = may.size

  abbrev kept_rows : List Row
  kept_rows = filter (λ row. not (list_any (bytes_eq row.path) commit.change.removed)) kept.table.rows

  pub added_there : (row : Row) → Contains commit.change.added row → Contains after.rows row
  added_there row new_row = Contains-append_right kept_rows commit.change.added row new_row

  pub added_few : length commit.change.added ≤ MAX_LIVE_FILES
  added_few =
      let among = fewer (paths_of commit.change.added) (paths_of after.rows) can.change.added_distinct
      (λ path in_added. let row = Contains-paths_cases commit.change.added path in_added in subst (λ (p : List ℕ). Contains (paths_of after.rows) p) row.2 (Contains-paths after.rows row.0 (added_there row.0 row.1))) in
      let live = may.live_files in
      omega (arith, among, rows_length commit.change.added, rows_length after.rows, live)

  pub added_fit : (row : Row) → Contains commit.change.added row → FitColumns stated kept.table.partition row.values
  added_fit row new_row = may.sound.values row (added_there row new_row)

  -- ---- the kinds of the columns stay where there is a manifest

  begun_by : (n : ℕ) → (n ≡ 0 → length kept.manifests ≡ 0) → 0 < length kept.manifests → 0 < n
  begun_by zero begun some = let none = begun refl in absurd (omega (arith, none, some))
  begun_by (suc n) begun some = omega arith

  kinds_by : (o : Option ColumnTrees) → commit.change.schema ≡ o → 0 < kept.version → kinds_in kept.table.schema kept.table.partition ≡ kinds_in (unwrap_or o kept.table.schema) kept.table.partition
  kinds_by None is begun = refl
  kinds_by (Some schema) is begun = same_kinds (kinds_in kept.table.schema kept.table.partition) (kinds_in schema kept.table.partition) (λ other. same (begun, (schema, is, other)))

  pub kinds_kept : (m : KeptManifest) → Contains kept.manifests m → (name : List ℕ) → Contains kept.table.partition name → column_kind kept.table.schema name ≡ column_kind stated name
  kinds_kept m in_list name named =
      let some : 0 < length kept.manifests = let within = in_list.1 in omega (arith, within) in
      map_same (column_kind kept.table.schema) (column_kind stated) kept.table.partition name (kinds_by commit.change.schema refl (begun_by kept.version kept.begun some)) named

  -- ---- the rows of the manifests before

  sound_owner : (m : KeptManifest) → Contains kept.manifests m → is_sound_owner kept.links m.owner ≡ true
  sound_owner m in_list = all_from (λ (k : KeptManifest). is_sound_owner kept.links k.owner) kept.manifests m kept.owners in_list

  pub owner_there : (m : KeptManifest) → Contains kept.manifests m → IsSome (rows_of kept.links m.owner)
  owner_there m in_list = (and_parts (is_some (rows_of kept.links m.owner)) _ (sound_owner m in_list)).0

  pub rows_few : (m : KeptManifest) → Contains kept.manifests m → length (held_rows kept.links m.owner) ≤ MAX_LIVE_FILES
  rows_few m in_list =
      let parts = and_parts (is_some (rows_of kept.links m.owner)) _ (sound_owner m in_list) in
      let less = (and_parts _ (list_all is_born (entries_of kept.links m.owner)) parts.1).0 in
      let len = length-map (entries_of kept.links m.owner) (λ (e : Entry). e.held) in
      let few : length (entries_of kept.links m.owner) ≤ MAX_LIVE_FILES = grind (arith, nat_tests, less) in
      omega (arith, len, few)

  pub rows_born : (m : KeptManifest) (held : Held) → Contains kept.manifests m → Contains (held_rows kept.links m.owner) held → held.born < 2 ^ 63
  rows_born m held in_list is_held =
      let parts = and_parts (is_some (rows_of kept.links m.owner)) _ (sound_owner m in_list) in
      let all = (and_parts _ (list_all is_born (entries_of kept.links m.owner)) parts.1).1 in
      let e = of_map (λ (x : Entry). x.held) (entries_of kept.links m.owner) held is_held in
      let is = all_from is_born (entries_of kept.links m.owner) e.0 all e.1 in
      let less : e.0.held.born < 2 ^ 63 = grind (arith, nat_tests, is) in
      subst (λ (h : Held). h.born < 2 ^ 63) e.2 less

  pub held_owned : (m : KeptManifest) (held : Held) → Contains kept.manifests m → Contains (held_rows kept.links m.owner) held → (e : Entry) × Owns kept.links m.owner e × (e.held ≡ held)
  held_owned m held in_list is_held =
      let e = of_map (λ (x : Entry). x.held) (entries_of kept.links m.owner) held is_held in
      (e.0, (entries_of kept.links m.owner, there kept.links m.owner (owner_there m in_list), e.1), e.2)
