-- What holds of all that is kept of an Iceberg target that was read.
use Rattle.std.proofs.Common.{◌≡◌, ◌≤◌, ◌^◌, ◌&&◌, ℕ, ℤ, true, nat_le, List, [], ◌∷◌, length, Contains, Option, Some, None, Ok, refl, sym, ap, subst, ◌∙◌, inl, inr, ⊎_elim, pos, arith}
use Rattle.std.specs.Prelude.{◌||◌, is_some, unwrap_or}
use Rattle.std.specs.List.{list_all}
use Rattle.std.specs.Ordering.{int_eq}
use Rattle.std.specs.Str.{bytes_eq}
use Rattle.std.proofs.lemmas.List.{length-append, length-map}
use Rattle.std.proofs.lemmas.List.Elements.{All-contains}
use Rattle.std.proofs.lemmas.Option.{slice_get-get_or}
use Rattle.std.proofs.lemmas.Bool.{and_from}
use Rattle.lake_basics.specs.Outcome.{required}
use Rattle.lake_basics.specs.declared.limits.TheConstants.{MAX_LIVE_FILES}
use Rattle.lake_basics.proofs.Texts.{bytes_itself}
use Rattle.lake_basics.proofs.Numbers.{le_test}
use Rattle.lake_basics.proofs.Steps.{bind_ok, required_some}
use Rattle.table_history.specs.Row.{Row}
use Rattle.table_history.specs.TypeEqLaws.{columns_eq-Decides}
use Rattle.table_history.specs.TypeTree.{ColumnTrees}
use Rattle.table_history.specs.declared.table.Table.{Table}
use Rattle.table_history.proofs.Laws.{same_rows_length}
use Rattle.table_history.proofs.RowListLemmas.{Contains-cases, Contains-none}
use Rattle.schema_map.specs.Image.{wide_columns}
use Rattle.schema_iceberg.proofs.IcebergSchema.{given_found}
use Rattle.schema_iceberg.proofs.IcebergSound.{iceberg_wide}
use Rattle.file_links.specs.Rows.{Entry, OwnedRows, joined, rows_of as owned_by}
use Rattle.iceberg_manifest.specs.ListWriting.{HasContent}
use Rattle.iceberg_manifest.specs.declared.info.ManifestInfo.{ManifestInfo}
use Rattle.iceberg_metadata.specs.Paths.{held_schema}
use Rattle.iceberg_metadata.specs.Writing.{CanBeHeld, IsWritable}
use Rattle.iceberg_metadata.specs.declared.metadata.Metadata.{Metadata}
use Rattle.iceberg_metadata.specs.declared.metadata.Snapshot.{Snapshot}
use Rattle.iceberg_metadata.proofs.ListLemmas.{any_from}
use Rattle.iceberg_table.specs.Snapshots.{HasColumnsOf, HasManifestRows}
use Rattle.iceberg_table.specs.Tables.{IsTableOfSnapshots, rows_in, rows_of}
use Rattle.iceberg_table.proofs.EachLaws.{each_back}
use Rattle.iceberg_table.specs.declared.manifest.Manifest.{Manifest}
use Rattle.iceberg_table.specs.declared.snapshot.SnapshotTable.{SnapshotTable}
use Rattle.iceberg_table.proofs.PlanLaws.{in_schemas}
use Rattle.iceberg_version.specs.Sound.{AreRowsOf, are_of, has_content, is_born, is_of, is_own_image, is_sound_metadata, is_sound_owner}
use Rattle.iceberg_commit.proofs.SoundLemmas.{sound_to}
use Rattle.iceberg_version.specs.declared.kept.KeptManifest.{KeptManifest}
use Rattle.iceberg_version.proofs.Shared.{all_tested, lt_test}
use Rattle.target_core.proofs.HeldRows.{are_held_by}
use Rattle.target_core.specs.Held.{are_held}
use Rattle.target_iceberg.specs.Form.{HasOwnForm}
use Rattle.target_iceberg.specs.InspectSteps.{AreLinked}
use Rattle.target_iceberg.specs.Kept.{IsKeptOf, held_of}
use Rattle.target_iceberg.proofs.LinkLemmas.{row_of}

pub held_rows : (table : Table) → IsTableOfSnapshots table → are_held table.rows ≡ true
held_rows table is = are_held_by table.rows is.live_files is.paths

-- ---- the schema

pub own_image : (schema : ColumnTrees) → wide_columns schema ≡ schema → is_own_image schema ≡ true
own_image schema same = (columns_eq-Decides (wide_columns schema) schema).1 same

-- a schema that a snapshot names is its own Image
pub named_image : (m : Metadata) (s : Snapshot) (t : Table) → IsWritable m → HasColumnsOf m s t → wide_columns t.schema ≡ t.schema
named_image m s t own has =
    let is = has.planned in
    let id = bind_ok _ (λ (i : ℤ). required _ (held_schema m.schemas i)) is.held is.named in
    let at : held_schema m.schemas id.0 ≡ Some is.held = required_some _ (held_schema m.schemas id.0) is.held id.2 in
    let can = All-contains CanBeHeld m.schemas is.held own.schemas (in_schemas m.schemas id.0 is.held at) in
    let wide = iceberg_wide is.held.1 is.held.2 can.0 (given_found can.0 (Ok (is.held.1, is.held.2)) can.1).0 in
    subst (λ (cs : ColumnTrees). wide_columns cs ≡ cs) (sym (has.schema ∙ is.schema)) wide

-- ---- the metadata

pub sound_metadata : (version : ℕ) (m : Metadata) → IsWritable m → HasOwnForm version m → is_sound_metadata version m ≡ true
sound_metadata version m own form = sound_to version m (record {
  schemas = λ s there. All-contains CanBeHeld m.schemas s own.schemas there;
  field_ids = form.field_ids;
  renamed = own.shown.1.1.1.1.0;
  own_snapshots = own.consistent.own_snapshots;
  numbers = form.snapshots;
  snapshot_schemas = own.consistent.snapshot_schemas;
  lists = own.consistent.lists;
})

-- ---- owners

-- a manifest has no more rows than all of them
pub rows_within : (ms : List Manifest) (m : Manifest) → Contains ms m → length m.rows ≤ length (rows_of ms)
rows_within [] m there = absurd (Contains-none m there)
rows_within (x ∷ ms) m there =
    let all = length-append (rows_in x.rows) (rows_of ms) in
    let own = length-map x.rows (λ l. l.row) in
    ⊎_elim
    (λ (same : x ≡ m). let one = ap (λ (n : Manifest). length n.rows) same in omega (arith, all, own, one))
    (λ later. let rest = rows_within ms m later in omega (arith, all, own, rest))
    (Contains-cases x ms m there)

sound_by : (v : OwnedRows) (owner : ℕ) (rows : List Entry) → owned_by v owner ≡ Some rows → length rows ≤ MAX_LIVE_FILES → list_all is_born rows ≡ true → is_sound_owner v owner ≡ true
sound_by v owner rows is few born =
    subst (λ (o : Option (List Entry)). (is_some o && (nat_le (length (unwrap_or o [])) MAX_LIVE_FILES && list_all is_born (unwrap_or o []))) ≡ true) (sym is)
    (and_from (nat_le (length rows) MAX_LIVE_FILES) (list_all is_born rows) (le_test (length rows) MAX_LIVE_FILES few) born)

content_tested : (info : ManifestInfo) → HasContent info → has_content info ≡ true
content_tested info (inl is) = ap (λ n. int_eq n (pos 0) || int_eq n (pos 1)) is
content_tested info (inr is) = ap (λ n. int_eq n (pos 0) || int_eq n (pos 1)) is

module _ (ms : List Manifest) (ks : List KeptManifest) (v : OwnedRows) (linked : AreLinked ms ks v) where
  pub all_contents : ((m : Manifest) → Contains ms m → HasContent m.file.info) → list_all (λ m. has_content m.info) ks ≡ true
  all_contents contents = all_tested (λ (k : KeptManifest). has_content k.info) ks (λ k there.
      let m = each_back (IsKeptOf v) ms ks k linked.each there in
      content_tested k.info (subst HasContent (sym m.2.info) (contents m.0 m.1)))

  pub rows_linked : (rows : List Row) → ((row : Row) → Contains (rows_of ms) row → Contains rows row) → AreRowsOf rows v
  rows_linked rows all = λ owner e owns. all e.held.row (row_of ms ks v linked owner e owns)

  pub sound_owners : length (rows_of ms) ≤ MAX_LIVE_FILES → list_all (λ m. is_sound_owner v m.owner) ks ≡ true
  sound_owners few = all_tested (λ (k : KeptManifest). is_sound_owner v k.owner) ks (λ k there.
      let m = each_back (IsKeptOf v) ms ks k linked.each there in
      let count = sym (length-map m.2.rows (λ (e : Entry). e.held)) ∙ ap length m.2.same ∙ length-map m.0.rows held_of in
      let within = rows_within ms m.0 m.1 in
      sound_by v k.owner m.2.rows m.2.owned (omega (arith, count, within, few)) (all_tested is_born m.2.rows (λ e of. lt_test e.held.born (2 ^ 63) (linked.born k.owner e (m.2.rows, m.2.owned, of)))))

  -- the rows of an owner are rows of the table
  of_rows : (rows : List Row) → ((row : Row) → Contains (rows_of ms) row → Contains rows row) → (owned : Option (List Entry)) → Contains v.owners owned → list_all (is_of rows) (unwrap_or owned []) ≡ true
  of_rows rows all None there = refl
  of_rows rows all (Some entries) there =
      let at : owned_by v there.0 ≡ Some entries = ap joined (slice_get-get_or v.owners there.0 (Some entries) there.1 ∙ ap Some there.2) in
      all_tested (is_of rows) entries (λ e within. any_from (λ (row : Row). bytes_eq row.path e.held.row.path) rows e.held.row (all e.held.row (row_of ms ks v linked there.0 e (entries, at, within))) (bytes_itself e.held.row.path))

  pub all_linked : (rows : List Row) → ((row : Row) → Contains (rows_of ms) row → Contains rows row) → are_of rows v ≡ true
  all_linked rows all = all_tested (λ (owned : Option (List Entry)). list_all (is_of rows) (unwrap_or owned [])) v.owners (of_rows rows all)

-- ---- what was read

module _ (read : SnapshotTable) (has : HasManifestRows read) where
  pub row_count : length read.table.rows ≡ length (rows_of read.manifests)
  row_count = same_rows_length read.table.rows (rows_of read.manifests) has.own has.distinct has.same

  pub few_rows : IsTableOfSnapshots read.table → length (rows_of read.manifests) ≤ MAX_LIVE_FILES
  few_rows table = let few = table.live_files in omega (arith, few, row_count)

  pub rows_there : (row : Row) → Contains (rows_of read.manifests) row → Contains read.table.rows row
  rows_there row there = (has.same row).1 there
