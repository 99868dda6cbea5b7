-- The files behind a commit stand for the view behind it.
use Rattle.std.proofs.Common.{◌≡◌, ◌≢◌, ◌⊎◌, inl, inr, ⊎_elim, ℕ, ◌+◌, ◌<◌, ◌≤◌, List, [], ◌∷◌, ◌++◌, map, length, true, false, cond, Contains, Option, None, Some, refl, sym, ap, subst, ◌∙◌, arith}
use Rattle.std.specs.Prelude.{◌==◌, is_some, unwrap_or}
use Rattle.std.specs.FinMap as map
use Rattle.std.specs.Fmt.{decimal}
use Rattle.std.specs.List.{list_all}
use Rattle.std.specs.Str.{bytes_eq}
use Rattle.std.proofs.lemmas.Bool.{and_parts, cases_Bool, false≢true}
use Rattle.std.proofs.lemmas.Slice.Eq.{bytes_eq-Decides}
use Rattle.lake_basics.specs.declared.limits.TheConstants.{MAX_FILE_BYTES, MAX_ICEBERG_VERSION}
use Rattle.lake_store.specs.Disk.{Disk, Files}
use Rattle.partition_map.specs.declared.kind.PartKind.{PartKind}
use Rattle.partition_map.specs.declared.kind.PartKind.TheVariants as kind
use Rattle.schema_map.specs.Image.{wide_columns}
use Rattle.table_history.specs.Path.{IsPath}
use Rattle.table_history.specs.Row.{Row}
use Rattle.table_history.specs.Rows.{HasDistinctPaths}
use Rattle.table_history.specs.Tables.{IsAfter}
use Rattle.table_history.specs.TypeTree.{ColumnTrees}
use Rattle.table_history.specs.declared.feature.Feature.TheVariants.{PartitionChange}
use Rattle.table_history.specs.declared.table.Change.{Change}
use Rattle.table_history.specs.declared.table.Commit.{Commit}
use Rattle.table_history.specs.declared.table.Table.{Table}
use Rattle.file_links.specs.Rows.{Entry, OwnedRows, rows_of as owned_rows}
use Rattle.iceberg_manifest.specs.Lists.{AreEach}
use Rattle.iceberg_metadata.specs.Writing.{SameMetadata, metadata_text}
use Rattle.iceberg_metadata.specs.declared.metadata.Metadata.{Metadata}
use Rattle.iceberg_table.specs.Files.{SaysMetadata}
use Rattle.iceberg_table.specs.Folder.{HasVersion, IsNewest, path_of}
use Rattle.iceberg_table.specs.declared.manifest.Manifest.{Manifest}
use Rattle.iceberg_version.specs.KeptEnd.{end_of, live_manifest, manifests_of, view_of}
use Rattle.iceberg_version.specs.Manifests.{LiveManifest}
use Rattle.iceberg_version.specs.Names.{list_name, manifest_name, staged_name}
use Rattle.iceberg_commit.specs.NextVersion.{IsReadBack, OwnEachRow, image, version_files}
use Rattle.iceberg_version.specs.Sound.{is_sound_owner}
use Rattle.iceberg_version.specs.Writing.{IsWritten, NewVersion, TableEnd, mark_of, stated_behind}
use Rattle.iceberg_version.specs.declared.kept.IcebergKept.{IcebergKept}
use Rattle.iceberg_version.specs.declared.kept.KeptManifest.{KeptManifest}
use Rattle.target_core.specs.Conditions.{CanPublish, Fits}
use Rattle.target_core.specs.Step.{IsBehind}
use Rattle.target_core.specs.Views.{IsAdvanced, IsSchemaAfter, Origin, Standing, View, standing_at}
use Rattle.target_core.specs.declared.target.TargetError.TheVariants.{Unsupported}
use Rattle.target_iceberg.specs.Fitting.{ChangesPartition, Unfit, kinds_of, state_of}
use Rattle.target_iceberg.specs.Form.{HasOwnForm}
use Rattle.target_iceberg.specs.IcebergMeaning.{iceberg_meaning}
use Rattle.target_iceberg.specs.Kept.{HoldsEnd, IsKeptOf, StandsFor}
use Rattle.target_iceberg.specs.Reached.{CanGoOn, IsReached, IsSettled}
use Rattle.target_iceberg.specs.Reading.{IsCarried, IsMarked, IsOurs}
use Rattle.target_iceberg.specs.Publishing.{IsAside, IsPublished}
use Rattle.target_iceberg.specs.Writes.{Writes, most_manifests}
use Rattle.target_iceberg.proofs.WrittenCarried.{carries}
use Rattle.target_iceberg.proofs.WrittenFiles as before
use Rattle.target_iceberg.proofs.WrittenCurrent as written
use Rattle.target_iceberg.proofs.WrittenNew.{new_marked}
use Rattle.target_iceberg.proofs.WrittenLive.{live_are}
use Rattle.target_iceberg.specs.SameLemmas as same
use Rattle.target_iceberg.proofs.WrittenOwn as own
use Rattle.target_iceberg.proofs.WrittenReached as behind
use Rattle.target_iceberg.proofs.WrittenReached.{IsNewPath}
use Rattle.target_iceberg.proofs.WrittenRows.{after_are, after_distinct, after_rows}
use Rattle.target_iceberg.proofs.WrittenStart.{IsLiveOf, StartsAt, live_rows, starts}
use Rattle.target_iceberg.proofs.WrittenVersion as version
use Rattle.target_iceberg.proofs.WrittenVersion.{HasCommitted}

-- ---- kinds that stay

kind_code : PartKind → ℕ
kind_code kind.Boolean = 1
kind_code kind.Int = 2
kind_code kind.Long = 3
kind_code kind.Text = 4
kind_code kind.Date = 5

code_of : Option PartKind → ℕ
unfolding kind_code
code_of None = 0
code_of (Some k) = kind_code k

coded : ℕ → Option PartKind
coded n = cond (n == 0) None (cond (n == 1) (Some kind.Boolean) (cond (n == 2) (Some kind.Int) (cond (n == 3) (Some kind.Long) (cond (n == 4) (Some kind.Text) (Some kind.Date)))))

coded_again : (o : Option PartKind) → coded (code_of o) ≡ o
unfolding coded code_of kind_code
coded_again None = refl
coded_again (Some kind.Boolean) = refl
coded_again (Some kind.Int) = refl
coded_again (Some kind.Long) = refl
coded_again (Some kind.Text) = refl
coded_again (Some kind.Date) = refl

all_again : (os : List (Option PartKind)) → map coded (map code_of os) ≡ os
all_again [] = refl
all_again (o ∷ os) = λ i. coded_again o i ∷ all_again os i

-- what isn't other is the same
same_kinds : (a b : List (Option PartKind)) → ((a ≢ b) → ⊥) → a ≡ b
same_kinds a b never =
    ⊎_elim
    (λ (same : bytes_eq (map code_of a) (map code_of b) ≡ true). sym (all_again a) ∙ ap (map coded) ((bytes_eq-Decides (map code_of a) (map code_of b)).0 same) ∙ all_again b)
    (λ (other : bytes_eq (map code_of a) (map code_of b) ≡ false). absurd (never (λ same. false≢true (sym other ∙ (bytes_eq-Decides (map code_of a) (map code_of b)).1 (ap (map code_of) same)))))
    (cases_Bool (bytes_eq (map code_of a) (map code_of b)))

module _ (kept : IcebergKept) (commit : Commit) (fits : Fits (Unfit (state_of kept)) kept.table.partition (commit ∷ [])) where
  keeps_partition : ChangesPartition (state_of kept) kept.table.partition (commit ∷ []) → ⊥
  keeps_partition changed = fits.never (Unsupported PartitionChange []) (Unfit.changes (λ many. omega (arith, many)) changed)

  none_left : ◌≡◌ {A = List Commit} (commit ∷ []) [] → ⊥
  none_left is = cc is

  stated_kinds : 0 < kept.version → (o : Option ColumnTrees) → commit.change.schema ≡ o → kinds_of kept.table.schema kept.table.partition ≡ kinds_of (unwrap_or o kept.table.schema) kept.table.partition
  stated_kinds some None is = refl
  stated_kinds some (Some stated) is = same_kinds (kinds_of kept.table.schema kept.table.partition) (kinds_of stated kept.table.partition) (λ other. keeps_partition (none_left, inr (inl (some, (stated, is, other)))))

  pub kinds_kept : 0 < kept.version → kinds_of kept.table.schema kept.table.partition ≡ kinds_of (stated_behind (end_of kept) commit.change) kept.table.partition
  kinds_kept some = stated_kinds some commit.change.schema refl

-- ---- what is published

-- Where its files are published, the commit has left what it writes.
unfoldable pub published_writes : (end : TableEnd) (before after : Files) (origin : Origin) (now : ℕ) (commit : Commit) (written : NewVersion) (is : IsWritten end origin now commit written) → IsPublished (version_files end written) before after → length written.texts ≤ most_manifests commit.change → IsReadBack end origin now commit written is
    → Writes end before origin now commit after
published_writes end before after origin now commit written is published few back = record {
  written = written;
  is = is;
  metadata = published.metadata;
  list = published.list;
  manifests = published.manifests;
  few = few;
  back = back;
  staged = published.staged;
  others = λ path version list manifests staged. published.others path (record { version = version; aside = other path list manifests staged });
}
  where
    other : (path : List ℕ) → path ≢ path_of (list_name (end.version + 1)) → ((number : ℕ) → number < length written.texts → path ≢ path_of (manifest_name (end.version + 1) number)) → path ≢ path_of (staged_name (end.version + 1))
        → IsAside (version_files end written) path → ⊥
    other path list manifests staged (IsAside.manifest number under at) = manifests number under at
    other path list manifests staged (IsAside.list at) = list at
    other path list manifests staged (IsAside.staged at) = staged at

-- ---- the premises

-- What a commit over files that stand for what is kept has left, and why it could be committed.
pub record IsCommitted (disk : Disk) (after : Files) (id location : List ℕ) (kept : IcebergKept) (origin : Origin) (now : ℕ) (commit : Commit) : Type 0 where
  pub stands : StandsFor id location kept disk.files
  pub settled : IsSettled disk
  pub plain : (front : List ℕ) → location ≢ front ++ 47 ∷ []
  pub can : CanPublish (view_of kept) commit
  pub fits : Fits (Unfit (state_of kept)) kept.table.partition (commit ∷ [])
  pub writes : Writes (end_of kept) disk.files origin now commit after
  pub within : kept.version + 1 ≤ MAX_ICEBERG_VERSION
  pub small : length (metadata_text writes.written.metadata) ≤ MAX_FILE_BYTES

module _ (disk : Disk) (after : Files) (id location : List ℕ) (kept : IcebergKept) (origin : Origin) (now : ℕ) (commit : Commit) (h : IsCommitted disk after id location kept origin now commit) where
  start : StartsAt disk.files id location kept.table.rows (end_of kept)
  start = starts id location kept disk.files h.settled.goes_on h.stands

  added_paths : (row : Row) → Contains commit.change.added row → IsPath row.path
  added_paths row there =
      let next_are = h.writes.is.manifests.next_are in
      let live = start.rows_are in
      let are = after_are kept.table.rows (live_rows (manifests_of kept)) commit.change.removed commit.change.added next_are.added live next_are.rows in
      let table : Table = record { schema = unwrap_or commit.change.schema kept.table.schema; partition = kept.table.partition; rows = after_rows kept.table.rows (live_rows (manifests_of kept)) commit.change.removed commit.change.added next_are.added live next_are.rows } in
      let after_it : IsAfter kept.table commit.change table = record {
        rows = are;
        distinct = after_distinct kept.table.rows (live_rows (manifests_of kept)) commit.change.removed commit.change.added next_are.added live next_are.rows start.distinct next_are.order h.can.change.added_new;
        schema = refl;
        partition = refl;
      } in
      (h.can.after table after_it).paths row ((are row).1 (inl there))

  pub committed : HasCommitted disk.files after id location kept.table.rows (end_of kept) origin now commit
  committed = record {
    start = start;
    plain = h.plain;
    writes = h.writes;
    kinds = kinds_kept kept commit h.fits;
    within = h.within;
    small = h.small;
    removed_there = h.can.change.removed_there;
    added_new = h.can.change.added_new;
    paths = added_paths;
  }

  -- ---- what is reached

  -- what was reached is as before
  pub reached_stays : (path : List ℕ) → IsReached disk.files path → map.get after path ≡ map.get disk.files path
  reached_stays path is = before.reached_stays disk.files after kept.version (length h.writes.written.texts) start.free h.writes.others path is

  -- and is reached
  pub reached_too : (path : List ℕ) → IsReached disk.files path → IsReached after path
  reached_too path is = same.reached_stays disk.files after reached_stays path is

  -- what is reached was so before, or is of the new version
  pub reached_cases : (path : List ℕ) → IsReached after path → IsReached disk.files path ⊎ IsNewPath (kept.version + 1) (length h.writes.written.texts) path
  unfolding committed
  reached_cases path is = behind.reached_cases disk.files after id location kept.table.rows (end_of kept) origin now commit committed path is

  -- commits can go on
  pub goes_on : CanGoOn after (kept.version + 1)
  goes_on = own.goes_on disk.files after id location kept.table.rows (end_of kept) origin now commit committed

  pub newest_behind : IsNewest (HasVersion after) (kept.version + 1)
  newest_behind = version.newest disk.files after id location kept.table.rows (end_of kept) origin now commit committed

  one_newest : (a b : ℕ) → IsNewest (HasVersion after) a → IsNewest (HasVersion after) b → a ≡ b
  one_newest a b m n = let up = n.last a m.there in let down = m.last b n.there in omega (arith, up, down)

  pub goes_on_newest : (newest : ℕ) → IsNewest (HasVersion after) newest → CanGoOn after newest
  goes_on_newest newest is = subst (CanGoOn after) (one_newest (kept.version + 1) newest newest_behind is) goes_on

  -- ---- what is carried

  pub new_carried : IsCarried id after (kept.version + 1) commit.change (standing_at origin commit.position)
  new_carried = carries disk.files after id location kept.table.rows (end_of kept) origin now commit committed

  -- what a version carried it carries
  pub still_carried : (number : ℕ) (change : Change) (standing : Standing) → IsCarried id disk.files number change standing → IsCarried id after number change standing
  still_carried number change standing is = before.carried_too disk.files after reached_stays id number change standing is

  -- ---- the view behind it

  abbrev again : Metadata
  again = version.again disk.files after id location kept.table.rows (end_of kept) origin now commit committed

  schema_by : (o : Option ColumnTrees) (schema table : ColumnTrees) → schema ≡ wide_columns (unwrap_or o kept.table.schema) → IsSchemaAfter image o kept.table.schema table → table ≡ schema
  schema_by None schema table is same = same ∙ sym start.own_image ∙ sym is
  schema_by (Some stated) schema table is same = let held : wide_columns stated ≡ table = cc same in sym held ∙ sym is

  pub ours : (next : View) → IsAdvanced image origin (view_of kept) commit next → IsOurs after next
  ours next advanced =
      let commits = advanced.commits in
      let back = sym commits in
      let rows = written.rows_are disk.files after id location kept.table.rows (end_of kept) origin now commit committed in
      let read = written.read_rows disk.files after id location kept.table.rows (end_of kept) origin now commit committed in
      let mine = written.current disk.files after id location kept.table.rows (end_of kept) origin now commit committed in
      let live = live_are after again mine in
      record {
        first = omega (arith, commits);
        newest = subst (IsNewest (HasVersion after)) back newest_behind;
        metadata = again;
        says = subst (λ (n : ℕ). SaysMetadata after n again) back (version.said disk.files after id location kept.table.rows (end_of kept) origin now commit committed);
        standing = standing_at origin commit.position;
        mark = advanced.mark;
        marked = subst (λ (n : ℕ). IsMarked again n (standing_at origin commit.position)) back (version.marked disk.files after id location kept.table.rows (end_of kept) origin now commit committed);
        form = subst (λ (n : ℕ). HasOwnForm n again) back (version.form disk.files after id location kept.table.rows (end_of kept) origin now commit committed);
        current = mine;
        table = record {
          plan = mine.plan;
          planned = mine.says.planned;
          schema = schema_by commit.change.schema mine.plan.schema next.table.schema (version.schema_is disk.files after id location kept.table.rows (end_of kept) origin now commit committed) advanced.schema;
          partition = advanced.partition ∙ sym (version.names_are disk.files after id location kept.table.rows (end_of kept) origin now commit committed);
          rows = λ row. (
            λ there. (live row).0 (subst (λ (l : List Row). Contains l row) read ((rows row).1 ((advanced.rows row).0 there))),
            λ lives. (advanced.rows row).1 ((rows row).0 (subst (λ (l : List Row). Contains l row) (sym read) ((live row).1 lives))),
          );
        };
        distinct = advanced.distinct;
      }

  -- The view that is one commit more.
  abbrev pub next_view : View
  next_view = record {
    commits = kept.version + 1;
    mark = Some (standing_at origin commit.position);
    table = record {
      schema = wide_columns (stated_behind (end_of kept) commit.change);
      partition = kept.table.partition;
      rows = live_rows h.writes.written.manifests;
    };
  }

  next_schema : (o : Option ColumnTrees) → IsSchemaAfter image o kept.table.schema (wide_columns (unwrap_or o kept.table.schema))
  next_schema None = start.own_image
  next_schema (Some stated) = refl

  pub advanced : IsAdvanced image origin (view_of kept) commit next_view
  unfolding committed
  advanced =
      let mine = written.current disk.files after id location kept.table.rows (end_of kept) origin now commit committed in
      record {
        commits = refl;
        mark = refl;
        rows = written.rows_are disk.files after id location kept.table.rows (end_of kept) origin now commit committed;
        distinct = subst HasDistinctPaths (sym (written.read_rows disk.files after id location kept.table.rows (end_of kept) origin now commit committed)) mine.says.distinct;
        partition = refl;
        schema = next_schema commit.change.schema;
      }

  -- Each view that is one commit more is what the files stand for; the new version carries the commit, and each one before what it carried.
  pub is_behind : (next : View) → IsAdvanced image origin (view_of kept) commit next → IsBehind (iceberg_meaning id) origin (view_of kept) disk.files commit next after
  is_behind next on = record { reads = inr (ours next on); carries = new_carried; earlier = λ number change standing within is. still_carried number change standing is }

  -- ---- what is kept behind it

  -- This is kept behind the commit: the new version with its mark, and an owner of the live rows of each manifest of its list.
  pub record IsKeptBehind (k : IcebergKept) : Type 0 where
    pub version : k.version ≡ kept.version + 1
    pub metadata : k.metadata ≡ h.writes.written.metadata
    pub mark : k.mark ≡ Some (mark_of (kept.version + 1) origin commit.position)
    pub manifests : manifests_of k ≡ h.writes.written.manifests
    pub own : OwnEachRow k.links k.manifests

  kept_by : (links : OwnedRows) (r : Manifest) (m : KeptManifest) (o : Option (List Entry)) → owned_rows links m.owner ≡ o → is_some o ≡ true → IsLiveOf r (live_manifest links m) → IsKeptOf links r m
  kept_by links r m None at some live = absurd (false≢true some)
  kept_by links r m (Some rows) at some live = record {
    info = live.info;
    rows = rows;
    owned = at;
    same = ap (λ (o : Option (List Entry)). map (λ e. e.held) (unwrap_or o [])) (sym at) ∙ live.rows;
  }

  kept_each : (links : OwnedRows) (rs : List Manifest) (ms : List KeptManifest) → list_all (λ m. is_sound_owner links m.owner) ms ≡ true → AreEach IsLiveOf rs (map (live_manifest links) ms) → AreEach (IsKeptOf links) rs ms
  kept_each links [] [] owners live = tt
  kept_each links [] (m ∷ ms) owners live = absurd live
  kept_each links (r ∷ rs) [] owners live = absurd live
  kept_each links (r ∷ rs) (m ∷ ms) owners live =
      let here = (and_parts (is_sound_owner links m.owner) (list_all (λ x. is_sound_owner links x.owner) ms) owners).0 in
      let rest = (and_parts (is_sound_owner links m.owner) (list_all (λ x. is_sound_owner links x.owner) ms) owners).1 in
      (kept_by links r m (owned_rows links m.owner) refl (and_parts (is_some (owned_rows links m.owner)) _ here).0 live.0, kept_each links rs ms rest live.1)

  pub holds_end : (k : IcebergKept) → IsKeptBehind k → HoldsEnd after k
  unfolding committed
  holds_end k is =
      let back = sym is.version in
      let gathered = written.gathered disk.files after id location kept.table.rows (end_of kept) origin now commit committed in
      record {
        metadata = again;
        says = subst (λ (n : ℕ). SaysMetadata after n again) back (version.said disk.files after id location kept.table.rows (end_of kept) origin now commit committed);
        same = subst (λ (m : Metadata). SameMetadata m again) (sym is.metadata) h.writes.back.metadata.2;
        mark = mark_of (kept.version + 1) origin commit.position;
        marked = is.mark;
        has = new_marked (end_of kept) origin now commit h.writes.written h.writes.is again h.writes.back.metadata.2 h.writes.back.mark;
        at = ap decimal back;
        current = written.current disk.files after id location kept.table.rows (end_of kept) origin now commit committed;
        manifests = kept_each k.links gathered.manifests k.manifests k.owners (subst (λ (l : List LiveManifest). AreEach IsLiveOf gathered.manifests l) (sym is.manifests) gathered.live);
        own = is.own;
      }

  -- and it stands for the files
  pub stands_behind : (k : IcebergKept) → IsKeptBehind k → IsAdvanced image origin (view_of kept) commit (view_of k) → StandsFor id location k after
  stands_behind k is advanced = record { reads = inr (ours (view_of k) advanced); end = inr (holds_end k is) }
