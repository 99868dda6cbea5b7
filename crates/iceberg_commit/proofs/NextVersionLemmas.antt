-- The next version's files are what is written for the commit, and what is kept stands behind it.
use Rattle.std.proofs.Common.{◌≡◌, inl, inr, ⊎_elim, ◌+◌, ◌<◌, ℕ, ℤ, List, [], ◌∷◌, ◌++◌, map, filter, length, Bool, true, false, cond, not, Bor, Contains, Option, Some, None, refl, sym, ap, subst, ◌∙◌, arith}
use Rattle.std.specs.Prelude.{option_map, unwrap_or}
use Rattle.std.specs.List.{All, list_all, list_any}
use Rattle.std.specs.Ordering.{int_eq}
use Rattle.std.proofs.lemmas.Bool.{and_parts, false≢true, not-true}
use Rattle.std.proofs.lemmas.Bool.Decides.{Decides-int_eq}
use Rattle.std.proofs.lemmas.List.{length-map}
use Rattle.std.proofs.lemmas.List.Elements.{Contains-append_cases, Contains-append_right}
use Rattle.std.proofs.lemmas.List.Folds.{list_all-map}
use Rattle.lake_basics.specs.declared.limits.TheConstants.{MAX_MANIFEST_ENTRIES}
use Rattle.schema_map.specs.Image.{wide_columns}
use Rattle.table_history.specs.Row.{Row}
use Rattle.table_history.specs.Rows.{IsInPathOrder, SameRows}
use Rattle.table_history.specs.Tables.{CanApply, IsAfter}
use Rattle.table_history.specs.TypeEqLaws.{columns_eq-Decides}
use Rattle.table_history.specs.TypeTree.{ColumnTrees}
use Rattle.table_history.specs.declared.table.Change.{Change}
use Rattle.table_history.specs.declared.table.Commit.{Commit}
use Rattle.table_history.specs.declared.table.Table.{Table}
use Rattle.table_history.proofs.RowListLemmas.{Contains-cases, Contains-filter, Contains-head, Contains-none}
use Rattle.file_links.specs.Rows.{OwnedRows}
use Rattle.iceberg_manifest.specs.Lists.{AreEach}
use Rattle.iceberg_manifest.specs.declared.info.ManifestInfo.{ManifestInfo}
use Rattle.iceberg_metadata.specs.Judging.{are_distinct, is_among, metadata_of as read_metadata}
use Rattle.iceberg_metadata.specs.Paths.{current_schema, held_schema}
use Rattle.iceberg_metadata.specs.Schemas.{HeldSchema}
use Rattle.iceberg_metadata.specs.declared.metadata.Metadata.{Metadata}
use Rattle.iceberg_metadata.proofs.ListLemmas.{all_from, among_Decides}
use Rattle.iceberg_table.specs.Lists.{AreRows}
use Rattle.iceberg_table.specs.Manifests.{AreEntries}
use Rattle.iceberg_table.proofs.PlanLaws.{in_schemas}
use Rattle.target_core.specs.Conditions.{CanPublish}
use Rattle.target_core.specs.Views.{IsAdvanced, IsSchemaAfter, Origin, standing_of}
use Rattle.target_core.specs.declared.mark.Mark.{Mark}
use Rattle.iceberg_version.specs.Advance.{Advances, live_rows}
use Rattle.iceberg_version.specs.Carrying.{IsNextList, IsNextOf, parts_at, rows_at}
use Rattle.iceberg_version.specs.KeptEnd.{end_of, live_manifest, manifests_of, view_of}
use Rattle.iceberg_version.specs.Manifests.{AreListed, AreNextManifests, AreParts, LiveManifest, NextManifest, added_manifest, carried, has_rows, is_lost, new_entries, stays}
use Rattle.iceberg_version.specs.Schemas.{AreNextSchemas, Schemas}
use Rattle.iceberg_version.specs.Sound.{has_content, have_first_ids, is_under}
use Rattle.iceberg_version.specs.Writing.{front_in, mark_of, stated_behind}
use Rattle.iceberg_version.specs.Writing as writing
use Rattle.iceberg_version.specs.declared.carrying.Next.{Next}
use Rattle.iceberg_version.specs.declared.kept.IcebergKept.{IcebergKept}
use Rattle.iceberg_version.specs.declared.kept.KeptManifest.{KeptManifest}
use Rattle.iceberg_version.proofs.NextLemmas.{all_next}
use Rattle.iceberg_version.proofs.Shared.{each_length, in_map, of_map}
use Rattle.iceberg_commit.specs.Behind.{AreAddedParts, IsTableBehind}
use Rattle.iceberg_commit.specs.NewVersion.{IsNewVersion, KeepsRest}
use Rattle.iceberg_commit.specs.NextVersion.{AreListedBehind, HasCurrent, IsKeptBehind, IsNextVersion, OwnEachRow, VersionFiles, image}
use Rattle.iceberg_commit.specs.Texts.{IsShort}
use Rattle.iceberg_commit.specs.declared.version.NewVersion.{NewVersion}
use Rattle.iceberg_commit.proofs.AddedLemmas.{rows_cut}
use Rattle.iceberg_commit.proofs.ListedLemmas.{kept_are, listed_contents, listed_rows, next_once}

-- ---- the current schema

found_by : (b : Bool) (s t : HeldSchema) (o : Option HeldSchema) → (b ≡ true → s ≡ t) → (b ≡ false → o ≡ Some t) → cond b (Some s) o ≡ Some t
found_by true s t o here later = ap (λ (x : HeldSchema). Some x) (here refl)
found_by false s t o here later = later refl

-- of schemas of distinct ids each is held under its own
held_found : (ss : List HeldSchema) (t : HeldSchema) → are_distinct (map (λ s. s.0) ss) ≡ true → Contains ss t → held_schema ss t.0 ≡ Some t
held_found [] t distinct there = absurd (Contains-none t there)
held_found (s ∷ ss) t distinct there =
    let ids : List ℤ = map (λ (x : HeldSchema). x.0) ss in
    let parts = and_parts (not (is_among ids s.0)) (are_distinct ids) distinct in
    ⊎_elim
    (λ (same : s ≡ t). found_by (int_eq s.0 t.0) s t (held_schema ss t.0) (λ _. same) (λ other. absurd (false≢true (sym other ∙ (Decides-int_eq s.0 t.0).1 (ap (λ (x : HeldSchema). x.0) same)))))
    (λ (later : Contains ss t). found_by (int_eq s.0 t.0) s t (held_schema ss t.0)
    (λ is.
    let id : s.0 ≡ t.0 = (Decides-int_eq s.0 t.0).0 is in
    let among : is_among ids s.0 ≡ true = (among_Decides ids s.0).1 (subst (λ (i : ℤ). Contains ids i) (sym id) (in_map (λ (x : HeldSchema). x.0) ss t later)) in
    absurd (false≢true (sym (not-true (is_among ids s.0) parts.0) ∙ among)))
    (λ other. held_found ss t parts.1 later))
    (Contains-cases s ss t there)

current_there : (m : Metadata) (stated : ColumnTrees) (next : Schemas) → AreNextSchemas m stated next → Contains next.held next.current
current_there m stated next (inl keeps) = subst (λ (l : List HeldSchema). Contains l next.current) (sym keeps.held) (in_schemas m.schemas m.current_schema next.current keeps.current.held)
current_there m stated next (inr adds) = subst (λ (l : List HeldSchema). Contains l next.current) (sym adds.1.held) (Contains-append_right m.schemas (next.current ∷ []) next.current (Contains-head next.current []))

current_columns : (m : Metadata) (stated : ColumnTrees) (next : Schemas) → AreNextSchemas m stated next → next.current.1 ≡ wide_columns stated
current_columns m stated next (inl keeps) = keeps.current.columns
current_columns m stated next (inr adds) = ap (λ (s : HeldSchema). s.1) adds.1.current

-- the current schema that is kept, where the table goes on to these schemas
pub current_kept : (kept : IcebergKept) (m : Metadata) (stated : ColumnTrees) (next : Schemas) → AreNextSchemas m stated next → kept.metadata.schemas ≡ next.held → kept.metadata.current_schema ≡ next.current.0 → option_map (λ s. s.1) (current_schema kept.metadata) ≡ Some (wide_columns stated)
current_kept kept m stated next are held current =
    let first : have_first_ids next.held ≡ true = subst (λ (l : List HeldSchema). have_first_ids l ≡ true) held kept.schema_ids in
    let distinct = (and_parts (are_distinct (map (λ (s : HeldSchema). s.0) next.held)) (list_all (λ s. is_under (length next.held) s.0) next.held) first).0 in
    ap (option_map (λ (s : HeldSchema). s.1)) ((λ i. held_schema (held i) (current i)) ∙ held_found next.held next.current distinct (current_there m stated next are))
    ∙ ap (λ (cs : ColumnTrees). Some cs) (current_columns m stated next are)

-- ---- what the steps ask for

pub one_schema : (o : Option ColumnTrees) (a b : ColumnTrees) → o ≡ Some a → o ≡ Some b → a ≡ b
one_schema o a b is also = let both : Some a ≡ Some b = sym is ∙ also in cc

-- sorted and cut, the rows that a change adds are in its parts
pub added_parts : (change : Change) (added : List Row) (sorted sorted_slice : List (Bor Row)) (parts parts_slice : List (Bor (List (Bor Row)))) → added ≡ change.added → sorted_slice ≡ sorted → parts_slice ≡ parts
    → SameRows added (map (λ r. r.now) sorted) → IsInPathOrder (map (λ r. r.now) sorted) → AreParts MAX_MANIFEST_ENTRIES sorted_slice (map (λ p. p.now) parts) → AreAddedParts change (parts_at parts_slice)
added_parts change added sorted sorted_slice parts parts_slice added_is sorted_is parts_is same order cut =
    subst (λ (ps : List (Bor (List (Bor Row)))). AreAddedParts change (parts_at ps)) (sym parts_is) (record {
      added = map (λ (r : Bor Row). r.now) sorted;
      rows = subst (λ (l : List Row). SameRows l (map (λ r. r.now) sorted)) added_is same;
      order = order;
      cut = rows_cut sorted parts (subst (λ (l : List (Bor Row)). AreParts MAX_MANIFEST_ENTRIES l (map (λ p. p.now) parts)) sorted_is cut);
    })

-- and the kept manifests and these parts become the next ones
pub next_list : (kept : IcebergKept) (change : Change) (manifests : List KeptManifest) (removed : List (List ℕ)) (count : ℕ) (parts : List (Bor (List (Bor Row)))) (next next_slice : List Next) → manifests ≡ kept.manifests → removed ≡ change.removed → count ≡ length parts → next_slice ≡ next
    → IsNextList removed (map (live_manifest kept.links) manifests) count next → IsNextList change.removed (manifests_of kept) (length (parts_at parts)) next_slice
next_list kept change manifests removed count parts next next_slice manifests_are removed_are count_is next_is list =
    subst (λ (ns : List Next). IsNextList change.removed (manifests_of kept) (length (parts_at parts)) ns) (sym next_is)
    (subst (λ (n : ℕ). IsNextList change.removed (manifests_of kept) n next) (count_is ∙ sym (length-map parts rows_at))
    (subst (λ (paths : List (List ℕ)). IsNextList paths (manifests_of kept) count next) removed_are
    (subst (λ (ms : List KeptManifest). IsNextList removed (map (live_manifest kept.links) ms) count next) manifests_are list)))

-- ---- the list

stays_by : (b : Bool) (n : NextManifest) (m k : LiveManifest) → cond b n (stays k) ≡ stays m → (n ≡ stays m → ⊥) → k ≡ m
stays_by true n m k is other = absurd (other is)
stays_by false n m k is other = cc

-- what stays is a manifest that is kept, and has data or deletes
stays_content : (kept : IcebergKept) (front : List ℕ) (version : ℕ) (change : Change) (next : List NextManifest) → AreNextManifests front version (manifests_of kept) change next → (m : LiveManifest) → Contains next (stays m) → has_content m.info ≡ true
stays_content kept front version change next are m there =
    ⊎_elim
    (λ old.
    let from = of_map (carried front version change.removed) (filter has_rows (manifests_of kept)) (stays m) old in
    let same : from.0 ≡ m = stays_by (list_any (is_lost change.removed) from.0.rows) _ m from.0 from.2 (λ e. absurd cc) in
    let k = of_map (live_manifest kept.links) kept.manifests from.0 (Contains-filter has_rows (manifests_of kept) from.0 from.1).0 in
    let info : k.0.info ≡ m.info = ap (λ (x : LiveManifest). x.info) (k.2 ∙ same) in
    subst (λ (i : ManifestInfo). has_content i ≡ true) info (all_from (λ (x : KeptManifest). has_content x.info) kept.manifests k.0 kept.contents k.1))
    (λ added. let from = of_map (added_manifest front version) are.parts (stays m) added in let is : added_manifest front version from.0 ≡ stays m = from.2 in absurd cc)
    (Contains-append_cases (map (carried front version change.removed) (filter has_rows (manifests_of kept))) (map (added_manifest front version) are.parts) (stays m) (subst (λ (l : List NextManifest). Contains l (stays m)) are.is there))

module _ (kept : IcebergKept) (change : Change) (infos : List ManifestInfo) (listed : List LiveManifest) (list : AreListedBehind kept change infos listed) where
  pub listed_content : list_all has_content infos ≡ true
  listed_content =
      ap (list_all has_content) list.infos_are
      ∙ list_all-map has_content (λ (m : LiveManifest). m.info) listed
      ∙ listed_contents list.front kept.version 0 0 list.next list.texts listed (stays_content kept list.front kept.version change list.next list.next_are) list.are

  module _ (parts : List (List Row)) (next : List Next) (added : AreAddedParts change parts) (are : IsNextList change.removed (manifests_of kept) (length parts) next) where
    abbrev made : List NextManifest
    made = map (carried list.front kept.version change.removed) (filter has_rows (manifests_of kept)) ++ map (added_manifest list.front kept.version) parts

    made_next : AreNextManifests list.front kept.version (manifests_of kept) change made
    made_next = record { added = added.added; rows = added.rows; order = added.order; parts = parts; cut = added.cut; is = refl }

    pub listed_count : length infos ≡ length next
    listed_count =
        let one = ap length (next_once list.front kept.version (manifests_of kept) change made list.next made_next list.next_are) in
        let each = each_length (IsNextOf list.front kept.version change.removed (manifests_of kept) parts) next made (all_next list.front kept.version change.removed (manifests_of kept) parts next are) in
        let lens = ap length (listed_rows list.front kept.version 0 0 list.next list.texts listed list.are) in
        let a = length-map listed (λ (m : LiveManifest). m.rows) in
        let b = length-map list.next live_rows in
        let c = length-map listed (λ (m : LiveManifest). m.info) in
        let d = ap length list.infos_are in
        omega (arith, one, each, lens, a, b, c, d)

    pub kept_next : (mark : Mark) (behind : IcebergKept) → IsTableBehind kept.table change behind.table → behind.mark ≡ Some mark → behind.version ≡ kept.version → behind.metadata ≡ kept.metadata → map (λ m. m.info) behind.manifests ≡ infos
        → Advances change.removed kept.version kept.manifests parts next kept.links behind.links behind.manifests → IsKeptBehind kept change mark listed behind
    kept_next mark behind table marked version metadata infos_kept advances = record {
      table = table;
      marked = marked;
      version = version;
      metadata = metadata;
      manifests =
          kept_are list.front kept.version change kept.links behind.links kept.manifests behind.manifests added.added parts next added.rows added.order added.cut are advances
          list.next list.texts listed list.next_are list.are (infos_kept ∙ list.infos_are);
      own = λ before. record { distinct = advances.distinct; only = advances.own before.only };
    }

-- ---- what is kept alike

-- They keep the same, but for the mark.
pub record KeepAlike (a b : IcebergKept) : Type 0 where
  pub table : b.table ≡ a.table
  pub version : b.version ≡ a.version
  pub metadata : b.metadata ≡ a.metadata
  pub manifests : b.manifests ≡ a.manifests
  pub links : b.links ≡ a.links

module _ (a b : IcebergKept) (alike : KeepAlike a b) where
  same_manifests : manifests_of b ≡ manifests_of a
  same_manifests = λ i. map (live_manifest (alike.links i)) (alike.manifests i)

  pub list_alike : (removed : List (List ℕ)) (count : ℕ) (next : List Next) → IsNextList removed (manifests_of a) count next → IsNextList removed (manifests_of b) count next
  list_alike removed count next is = subst (λ (ms : List LiveManifest). IsNextList removed ms count next) (sym same_manifests) is

  pub listed_alike : (change : Change) (infos : List ManifestInfo) (listed : List LiveManifest) → AreListedBehind a change infos listed → AreListedBehind b change infos listed
  listed_alike change infos listed is = record {
    front = is.front;
    next = is.next;
    texts = is.texts;
    next_are =
        subst (λ (n : ℕ). AreNextManifests is.front n (manifests_of b) change is.next) (sym alike.version)
        (subst (λ (ms : List LiveManifest). AreNextManifests is.front a.version ms change is.next) (sym same_manifests) is.next_are);
    are = subst (λ (n : ℕ). AreListed is.front n 0 0 is.next is.texts listed) (sym alike.version) is.are;
    infos_are = is.infos_are;
  }

  pub behind_alike : (change : Change) (mark : Mark) (listed : List LiveManifest) (next : IcebergKept) → IsKeptBehind b change mark listed next → IsKeptBehind a change mark listed next
  behind_alike change mark listed next is = record {
    table = subst (λ (t : Table). IsTableBehind t change next.table) alike.table is.table;
    marked = is.marked;
    version = is.version ∙ alike.version;
    metadata = is.metadata ∙ alike.metadata;
    manifests = is.manifests;
    own = λ own. is.own (subst (OwnEachRow b.links) (sym alike.manifests) (subst (λ (links : OwnedRows). OwnEachRow links a.manifests) (sym alike.links) own));
  }

-- ---- the whole

schema_by : (o : Option ColumnTrees) (before after : ColumnTrees) → wide_columns before ≡ before → after ≡ wide_columns (unwrap_or o before) → IsSchemaAfter image o before after
schema_by None before after own is = is ∙ own
schema_by (Some stated) before after own is = ap (λ (cs : ColumnTrees). Some cs) (sym is)

module _ (kept mid : IcebergKept) (origin : Origin) (now : ℕ) (commit : Commit) (w : NewVersion) (new : IsNewVersion kept origin now commit w mid) (rest : KeepsRest kept mid) where
  abbrev stated : ColumnTrees
  stated = stated_behind (end_of kept) commit.change

  abbrev schemas : Schemas
  schemas = new.is.schemas

  metadata_is : mid.metadata ≡ writing.metadata_of (end_of kept) origin now commit schemas new.is.fields
  metadata_is = new.metadata_kept ∙ new.is.metadata

  pub has_current : HasCurrent mid commit.change
  has_current =
      current_kept mid kept.metadata stated schemas new.is.layout.schemas_are (ap (λ (m : Metadata). m.schemas) metadata_is) (ap (λ (m : Metadata). m.current_schema) metadata_is)
      ∙ ap (λ (t : Table). Some (wide_columns (unwrap_or commit.change.schema t.schema))) (sym rest.table)

  pub can_mid : CanPublish (view_of kept) commit → CanPublish (view_of mid) commit
  can_mid can = record {
    change = subst (λ (t : Table). CanApply t commit.change) (sym rest.table) can.change;
    after = λ table after. can.after table (subst (λ (t : Table). IsAfter t commit.change table) rest.table after);
  }

  pub begun_mid : 0 < mid.version
  begun_mid = let is = new.version_kept in omega (arith, is)

  manifests_mid : manifests_of mid ≡ manifests_of kept
  manifests_mid = λ i. map (live_manifest (rest.links i)) (rest.manifests i)

  pub listed_mid : AreListedBehind mid commit.change w.infos.items new.written.manifests
  listed_mid =
      let front = front_in (end_of kept) in
      let made = new.is.manifests in
      record {
        front = front;
        next = made.next;
        texts = new.written.texts;
        next_are =
            subst (λ (n : ℕ). AreNextManifests front n (manifests_of mid) commit.change made.next) (sym new.version_kept)
            (subst (λ (ms : List LiveManifest). AreNextManifests front (kept.version + 1) ms commit.change made.next) (sym manifests_mid) made.next_are);
        are = subst (λ (n : ℕ). AreListed front n 0 0 made.next new.written.texts new.written.manifests) (sym new.version_kept) made.listed;
        infos_are = new.infos;
      }

  module _ (mark : Mark) (mark_is : mark ≡ mark_of mid.version origin commit.position) (next : IcebergKept) (behind : IsKeptBehind mid commit.change mark new.written.manifests next) where
    table_behind : IsTableBehind kept.table commit.change next.table
    table_behind = subst (λ (t : Table). IsTableBehind t commit.change next.table) rest.table behind.table

    marked : next.mark ≡ Some (mark_of (kept.version + 1) origin commit.position)
    marked = behind.marked ∙ ap (λ (m : Mark). Some m) (mark_is ∙ ap (λ (n : ℕ). mark_of n origin commit.position) new.version_kept)

    advanced : IsAdvanced image origin (view_of kept) commit (view_of next)
    advanced = record {
      commits = behind.version ∙ new.version_kept;
      mark = ap (option_map standing_of) marked;
      rows = table_behind.rows;
      distinct = table_behind.distinct;
      partition = table_behind.partition;
      schema = schema_by commit.change.schema kept.table.schema next.table.schema ((columns_eq-Decides (wide_columns kept.table.schema) kept.table.schema).0 kept.own_image) table_behind.schema;
    }

    own_next : OwnEachRow kept.links kept.manifests → OwnEachRow next.links next.manifests
    own_next own = behind.own (subst (OwnEachRow mid.links) (sym rest.manifests) (subst (λ (links : OwnedRows). OwnEachRow links kept.manifests) (sym rest.links) own))

    pub next_is : (files : VersionFiles) → files.version ≡ mid.version → files.manifests ≡ w.manifests.items → files.list ≡ w.list → files.metadata ≡ w.metadata → IsNextVersion kept origin now commit files next
    next_is files version manifests list metadata = record {
      written = new.written;
      is = new.is;
      back = record {
        metadata = (new.again, ap read_metadata (sym new.metadata) ∙ new.metadata_back, new.same);
        mark = new.mark_back;
        list =
            subst (λ (bytes : List ℕ). AreRows bytes (map (λ m. m.info) new.written.manifests)) new.list
            (subst (λ (infos : List ManifestInfo). AreRows w.list infos) new.infos new.infos_back);
        manifests = subst (λ (texts : List (List ℕ)). AreEach (λ entries bytes. AreEntries new.is.columns bytes entries) (new_entries new.is.manifests.next) texts) new.manifests new.entries_back;
      };
      within = new.within;
      short = record {
        manifests_are = subst (λ (ts : List (List ℕ)). All IsShort ts) (sym manifests) new.short.manifests_are;
        list_is = subst IsShort (sym list) new.short.list_is;
        metadata_is = subst IsShort (sym metadata) new.short.metadata_is;
      };
      files = λ i. record { version = (version ∙ new.version_kept) i; manifests = (manifests ∙ new.manifests) i; list = (list ∙ new.list) i; metadata = (metadata ∙ new.metadata) i };
      advanced = advanced;
      version = behind.version ∙ new.version_kept;
      metadata = behind.metadata ∙ new.metadata_kept;
      mark = marked;
      manifests = behind.manifests;
      own = own_next;
    }
