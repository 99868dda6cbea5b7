-- What a commit starts from: a table's end, and the files that hold it.
use Rattle.std.proofs.Common.{◌≡◌, ◌⊎◌, ◌↔◌, inl, inr, ℕ, ◌<◌, ◌≤◌, List, [], ◌∷◌, ◌++◌, bytes_eq, map, true, Contains, Option, refl, sym, ap, subst, ◌∙◌, arith}
use Rattle.std.specs.Prelude.{flat_map, unwrap_or}
use Rattle.lake_store.specs.Disk.{Files}
use Rattle.file_links.specs.Rows.{Entry, OwnedRows}
use Rattle.file_links.specs.declared.slots.Held.{Held}
use Rattle.schema_map.specs.Image.{wide_columns}
use Rattle.table_history.specs.Row.{Row}
use Rattle.table_history.specs.Rows.{HasDistinctPaths}
use Rattle.table_history.specs.TypeEqLaws.{columns_eq-Decides}
use Rattle.table_history.specs.declared.table.Table.{Table}
use Rattle.table_history.proofs.RowListLemmas.{Contains-head, Contains-none}
use Rattle.iceberg_manifest.specs.Lists.{AreEach}
use Rattle.iceberg_live.specs.declared.live.LiveRow.{LiveRow}
use Rattle.iceberg_ancestry.specs.Ancestry.{held_at}
use Rattle.iceberg_metadata.specs.Writing.{SameMetadata}
use Rattle.iceberg_metadata.specs.declared.metadata.Metadata.{Metadata}
use Rattle.iceberg_metadata.specs.declared.metadata.Snapshot.{Snapshot}
use Rattle.iceberg_table.specs.Files.{SaysMetadata}
use Rattle.iceberg_table.specs.Folder.{HasVersion, IsNewest}
use Rattle.iceberg_table.specs.Plan.{names_of}
use Rattle.iceberg_table.specs.Snapshots.{IsTableOfSnapshot}
use Rattle.iceberg_table.specs.Tables.{rows_in, rows_of}
use Rattle.iceberg_table.specs.declared.manifest.Manifest.{Manifest}
use Rattle.iceberg_version.specs.KeptEnd.{end_of, live_manifest, manifests_of, view_of}
use Rattle.iceberg_version.specs.Manifests.{LiveManifest}
use Rattle.iceberg_version.specs.Sound.{have_first_ids}
use Rattle.iceberg_version.specs.Writing.{TableEnd, no_version}
use Rattle.iceberg_version.specs.declared.kept.IcebergKept.{IcebergKept}
use Rattle.iceberg_version.specs.declared.kept.KeptManifest.{KeptManifest}
use Rattle.iceberg_version.proofs.Shared.{nothing_twice}
use Rattle.target_core.specs.Views.{IsUnpublished, View}
use Rattle.target_iceberg.specs.Form.{HasOwnForm}
use Rattle.target_iceberg.specs.Kept.{HoldsEnd, IsFirst, IsKeptOf, StandsFor, held_of}
use Rattle.target_iceberg.specs.Reached as reached
use Rattle.target_iceberg.specs.Reached.{CanGoOn, HasOwnEntries, IsReached, LeavesNames}
use Rattle.target_iceberg.specs.Reading.{IsAbsent, IsOurs, SaysCurrent}
use Rattle.target_iceberg.proofs.WrittenFiles.{version_held}
use Rattle.target_iceberg.proofs.WrittenLive.{live_are}
use Rattle.target_iceberg.specs.OnceLemmas.{metadata_once, plan_once}
use Rattle.iceberg_table.specs.declared.plan.Plan.{Plan}
use Rattle.lake_basics.proofs.Options.{some_once}

-- ---- live rows

-- the rows of the held rows
abbrev pub rows_held : List Held → List Row
rows_held rows = map (λ h. h.row) rows

abbrev pub live_rows : List LiveManifest → List Row
live_rows manifests = flat_map (λ m. rows_held m.rows) manifests

-- The manifest that was read has this row in its list, and these live rows.
pub record IsLiveOf (r : Manifest) (m : LiveManifest) : Type 0 where
  pub info : m.info ≡ r.file.info
  pub rows : m.rows ≡ map held_of r.rows

rows_are : (rows : List LiveRow) → rows_held (map held_of rows) ≡ rows_in rows
rows_are [] = refl
rows_are (r ∷ rows) = ap (λ (l : List Row). r.row ∷ l) (rows_are rows)

pub live_rows_are : (rs : List Manifest) (ms : List LiveManifest) → AreEach IsLiveOf rs ms → live_rows ms ≡ rows_of rs
live_rows_are [] [] are = refl
live_rows_are [] (m ∷ ms) are = absurd are
live_rows_are (r ∷ rs) [] are = absurd are
live_rows_are (r ∷ rs) (m ∷ ms) are =
    let first : rows_held m.rows ≡ rows_in r.rows = ap rows_held are.0.rows ∙ rows_are r.rows in
    let rest = live_rows_are rs ms are.1 in
    λ i. first i ++ rest i

-- ---- the start

-- Nothing is published.
pub record IsFirstEnd (files : Files) (id location : List ℕ) (end : TableEnd) : Type 0 where
  pub version : end.version ≡ 0
  pub none : (version : ℕ) → HasVersion files version → ⊥
  pub metadata : end.metadata ≡ no_version id location
  pub manifests : end.manifests ≡ []

-- The newest version says this end.
pub record HasEnd (files : Files) (end : TableEnd) : Type 0 where
  pub first : 0 < end.version
  pub newest : IsNewest (HasVersion files) end.version
  pub metadata : Metadata
  pub says : SaysMetadata files end.version metadata
  pub same : SameMetadata end.metadata metadata
  pub form : HasOwnForm end.version metadata
  pub current : SaysCurrent files metadata
  pub own : HasOwnEntries files end.version metadata current
  pub schema : end.schema ≡ current.plan.schema
  pub partition : end.partition ≡ names_of current.plan.columns
  pub manifests : AreEach IsLiveOf current.manifests end.manifests

-- Files hold the end of a table with these rows, and what a commit writes under is free.
pub record StartsAt (files : Files) (id location : List ℕ) (rows : List Row) (end : TableEnd) : Type 0 where
  pub free : LeavesNames files end.version
  pub base : IsFirstEnd files id location end ⊎ HasEnd files end
  pub last : (version : ℕ) → HasVersion files version → version ≤ end.version
  pub rows_are : (row : Row) → Contains rows row ↔ Contains (live_rows end.manifests) row
  pub distinct : HasDistinctPaths (live_rows end.manifests)
  pub schema_ids : have_first_ids end.metadata.schemas ≡ true
  pub own_image : wide_columns end.schema ≡ end.schema

-- ---- without a version

none_reached : (files : Files) → ((version : ℕ) → HasVersion files version → ⊥) → (path : List ℕ) → IsReached files path → ⊥
none_reached files none path (reached.metadata version there is) = none version there
none_reached files none path (reached.list h) = none h.version h.there
none_reached files none path (reached.manifest h) = none h.names.version h.names.there

all_free : (files : Files) → ((version : ℕ) → HasVersion files version → ⊥) → LeavesNames files 0
all_free files none = record {
  staged = λ version. none_reached files none _;
  metadata = λ version later. none_reached files none _;
  lists = λ version later. none_reached files none _;
  manifests = λ version number later. none_reached files none _;
}

none_in : {A : Type 0} (xs : List A) → ((x : A) → Contains xs x → ⊥) → xs ≡ []
none_in [] none = refl
none_in (x ∷ xs) none = absurd (none x (Contains-head x xs))

no_rows : (view : View) → IsUnpublished view → view.table.rows ≡ []
no_rows view is = ap (λ (v : View). v.table.rows) is

-- ---- behind a version

kept_live : (links : OwnedRows) (r : Manifest) (k : KeptManifest) → IsKeptOf links r k → IsLiveOf r (live_manifest links k)
kept_live links r k is = record { info = is.info; rows = ap (λ (o : Option (List Entry)). map (λ e. e.held) (unwrap_or o [])) is.owned ∙ is.same }

pub all_live : (links : OwnedRows) (rs : List Manifest) (ks : List KeptManifest) → AreEach (IsKeptOf links) rs ks → AreEach IsLiveOf rs (map (live_manifest links) ks)
all_live links [] [] are = tt
all_live links [] (k ∷ ks) are = absurd are
all_live links (r ∷ rs) [] are = absurd are
all_live links (r ∷ rs) (k ∷ ks) are = (kept_live links r k are.0, all_live links rs ks are.1)

-- no two live rows of what is kept have one path
pub distinct_live : (id location : List ℕ) (kept : IcebergKept) (files : Files) → StandsFor id location kept files → HasDistinctPaths (live_rows (manifests_of kept))
distinct_live id location kept files stands = by stands.end
  where
    by : IsFirst files id location kept ⊎ HoldsEnd files kept → HasDistinctPaths (live_rows (manifests_of kept))
    by (inl first) = subst HasDistinctPaths (sym (ap (λ (ms : List KeptManifest). live_rows (map (live_manifest kept.links) ms)) (none_in kept.manifests first.manifests))) (nothing_twice bytes_eq)
    by (inr holds) = subst HasDistinctPaths (sym (live_rows_are holds.current.manifests (manifests_of kept) (all_live kept.links holds.current.manifests kept.manifests holds.manifests))) holds.current.says.distinct

same_table : (files : Files) (m n : Metadata) (c : SaysCurrent files m) (d : SaysCurrent files n) (t : Table) → m ≡ n → IsTableOfSnapshot files m c.snapshot t → IsTableOfSnapshot files n d.snapshot t
same_table files m n c d t same table =
    let snapshot : c.snapshot ≡ d.snapshot = some_once (held_at m.snapshots m.current_snapshot) c.snapshot d.snapshot c.current (ap (λ (x : Metadata). held_at x.snapshots x.current_snapshot) same ∙ d.current) in
    subst (λ (x : Metadata). IsTableOfSnapshot files x d.snapshot t) same (subst (λ (s : Snapshot). IsTableOfSnapshot files m s t) snapshot table)

module _ (id location : List ℕ) (kept : IcebergKept) (files : Files) (goes_on : (newest : ℕ) → IsNewest (HasVersion files) newest → CanGoOn files newest) where
  image_is : wide_columns kept.table.schema ≡ kept.table.schema
  image_is = (columns_eq-Decides (wide_columns kept.table.schema) kept.table.schema).0 kept.own_image

  first_start : IsAbsent files → IsUnpublished (view_of kept) → IsFirst files id location kept → StartsAt files id location kept.table.rows (end_of kept)
  first_start none unpublished is =
      let version = is.version in
      let no_manifests : manifests_of kept ≡ [] = ap (map (live_manifest kept.links)) (none_in kept.manifests is.manifests) in
      let no_live : live_rows (manifests_of kept) ≡ [] = ap live_rows no_manifests in
      let empty = no_rows (view_of kept) unpublished in
      record {
        free = subst (LeavesNames files) (sym version) (all_free files none.versions);
        base = inl (record { version = version; none = none.versions; metadata = is.metadata; manifests = no_manifests });
        last = λ v there. absurd (none.versions v there);
        rows_are = λ row. (
          λ there. absurd (Contains-none row (subst (λ (l : List Row). Contains l row) empty there)),
          λ there. absurd (Contains-none row (subst (λ (l : List Row). Contains l row) no_live there)),
        );
        distinct = subst HasDistinctPaths (sym no_live) (nothing_twice bytes_eq);
        schema_ids = kept.schema_ids;
        own_image = image_is;
      }

  later_start : IsOurs files (view_of kept) → HoldsEnd files kept → StartsAt files id location kept.table.rows (end_of kept)
  later_start ours holds =
      let same = metadata_once files kept.version ours.metadata holds.metadata ours.says holds.says in
      let table = same_table files ours.metadata holds.metadata ours.current holds.current kept.table same ours.table in
      let on = goes_on kept.version ours.newest in
      let live = all_live kept.links holds.current.manifests kept.manifests holds.manifests in
      let rows : live_rows (manifests_of kept) ≡ rows_of holds.current.manifests = live_rows_are holds.current.manifests (manifests_of kept) live in
      let says = holds.current.says in
      let plan = plan_once holds.metadata holds.current.snapshot table.plan holds.current.plan table.planned says.planned in
      record {
        free = on.names;
        base = inr (record {
          first = ours.first;
          newest = ours.newest;
          metadata = holds.metadata;
          says = holds.says;
          same = holds.same;
          form = subst (HasOwnForm kept.version) same ours.form;
          current = holds.current;
          own = on.entries holds.metadata holds.says holds.current;
          schema = table.schema ∙ ap (λ (p : Plan). p.schema) plan;
          partition = table.partition ∙ ap (λ (p : Plan). names_of p.columns) plan;
          manifests = live;
        });
        last = ours.newest.last;
        rows_are = λ row. (
          λ there. subst (λ (l : List Row). Contains l row) (sym rows) ((live_are files holds.metadata holds.current row).1 ((table.rows row).0 there)),
          λ there. (table.rows row).1 ((live_are files holds.metadata holds.current row).0 (subst (λ (l : List Row). Contains l row) rows there)),
        );
        distinct = subst HasDistinctPaths (sym rows) says.distinct;
        schema_ids = kept.schema_ids;
        own_image = image_is;
      }

  pub starts : StandsFor id location kept files → StartsAt files id location kept.table.rows (end_of kept)
  starts stands = by stands.reads stands.end
    where
      by : (IsAbsent files × IsUnpublished (view_of kept)) ⊎ IsOurs files (view_of kept) → IsFirst files id location kept ⊎ HoldsEnd files kept → StartsAt files id location kept.table.rows (end_of kept)
      by (inl none) (inl first) = first_start none.0 none.1 first
      by (inl none) (inr holds) =
          let zero_version : kept.version ≡ 0 = ap (λ (v : View). v.commits) none.1 in
          absurd (none.0.versions kept.version (version_held files kept.version holds.says.bytes (omega (arith, zero_version)) holds.says.holds))
      by (inr ours) (inl first) = let some = ours.first in let version = first.version in absurd (omega (arith, some, version))
      by (inr ours) (inr holds) = later_start ours holds
