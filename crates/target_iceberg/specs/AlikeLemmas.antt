-- What stands for the same files, with the same partition columns, refuses alike.
use Rattle.std.proofs.Common.{◌≡◌, ◌⊎◌, inl, inr, ⊎_elim, ℕ, List, [], ◌∷◌, map, Contains, Option, None, refl, sym, ap, subst, ◌∙◌}
use Rattle.std.specs.Prelude.{option_map, unwrap_or}
use Rattle.lake_store.specs.Disk.{Files}
use Rattle.table_history.proofs.RowListLemmas.{Contains-head}
use Rattle.table_history.specs.TypeTree.{ColumnTrees}
use Rattle.table_history.specs.declared.limit.LimitKind.{LimitKind}
use Rattle.table_history.specs.declared.limit.LimitKind.TheVariants.{File}
use Rattle.table_history.specs.declared.table.Change.{Change}
use Rattle.table_history.specs.declared.table.Commit.{Commit}
use Rattle.file_links.specs.Rows.{Entry, OwnedRows}
use Rattle.iceberg_manifest.specs.Lists.{AreEach}
use Rattle.iceberg_manifest.specs.declared.partition.PartColumn.{PartColumn}
use Rattle.iceberg_metadata.specs.Paths.{current_schema}
use Rattle.iceberg_metadata.specs.declared.metadata.Metadata.{Metadata}
use Rattle.iceberg_metadata.specs.declared.metadata.SpecField.{SpecField}
use Rattle.iceberg_table.specs.Files.{SaysMetadata}
use Rattle.iceberg_table.specs.declared.manifest.Manifest.{Manifest}
use Rattle.iceberg_version.specs.KeptEnd.{end_of, live_manifest, manifests_of, view_of}
use Rattle.iceberg_version.specs.Manifests.{LiveManifest}
use Rattle.iceberg_version.specs.Schemas.{AreNextSchemas, Schemas}
use Rattle.iceberg_version.specs.Writing.{AreWritten, HasLongList, HasLongManifest, HasLongText, IsLayout, IsLong, IsWritten, NewVersion, Passes, PassesAt, TableEnd, metadata_of, stated_behind}
use Rattle.iceberg_metadata.specs.Writing.{metadata_text}
use Rattle.iceberg_version.specs.declared.kept.IcebergKept.{IcebergKept}
use Rattle.iceberg_version.specs.declared.kept.KeptManifest.{KeptManifest}
use Rattle.target_core.specs.Views.{Origin, SameView, View, standing_of}
use Rattle.target_core.specs.declared.mark.Mark.{Mark}
use Rattle.target_core.specs.declared.target.TargetError.{TargetError}
use Rattle.target_core.proofs.Unpublished.{schema_of_absent}
use Rattle.target_iceberg.specs.Fitting.{HeldState, Unfit, state_of}
use Rattle.target_iceberg.specs.Kept.{HoldsEnd, IsFirst, IsKeptOf, StandsFor, held_of}
use Rattle.target_iceberg.specs.Reading.{IsOurs, Reads, SaysCurrent}
use Rattle.target_iceberg.specs.OnceLemmas.{metadata_once, says_once}
use Rattle.target_iceberg.specs.ViewLemmas.{absent_or_ours, one_view, ours_newest}
use Rattle.lake_basics.proofs.Options.{none_or_some}

-- ---- an end whatever its properties

abbrev Properties : Type 0
Properties = List (List ℕ × List ℕ)

-- the metadata with other properties
abbrev metadata_with : Metadata → Properties → Metadata
metadata_with m properties = record m { properties = properties }

abbrev end_with : TableEnd → Properties → TableEnd
end_with end properties = record end { metadata = metadata_with end.metadata properties }

-- ---- what a commit writes doesn't depend on the properties before it

next_schemas_with : (m : Metadata) (ps : Properties) (stated : ColumnTrees) (next : Schemas) → AreNextSchemas m stated next → AreNextSchemas (metadata_with m ps) stated next
next_schemas_with m ps stated next (inl h) = inl (record { current = record { held = h.current.held; columns = h.current.columns }; held = h.held; last_id = h.last_id })
next_schemas_with m ps stated next (inr h) = inr (
  λ current is. h.0 current (record { held = is.held; columns = is.columns }),
  record { ids = h.1.ids; are = h.1.are; current = h.1.current; held = h.1.held; last_id = h.1.last_id },
)

module _ (end : TableEnd) (ps : Properties) where
  layout_with : (change : Change) (schemas : Schemas) (fields : List SpecField) (columns : List PartColumn) → IsLayout end change schemas fields columns → IsLayout (end_with end ps) change schemas fields columns
  layout_with change schemas fields columns h = record { schemas_are = next_schemas_with end.metadata ps (stated_behind end change) schemas h.schemas_are; fields_are = h.fields_are; columns_are = h.columns_are }

  manifests_with : (change : Change) (schemas : Schemas) (fields : List SpecField) (columns : List PartColumn) (texts : List (List ℕ)) (manifests : List LiveManifest) → AreWritten end change schemas fields columns texts manifests → AreWritten (end_with end ps) change schemas fields columns texts manifests
  manifests_with change schemas fields columns texts manifests h = record { next = h.next; next_are = h.next_are; texts_are = h.texts_are; listed = h.listed }

  written_with : (origin : Origin) (now : ℕ) (commit : Commit) (written : NewVersion) → IsWritten end origin now commit written → IsWritten (end_with end ps) origin now commit written
  written_with origin now commit written h = record {
    schemas = h.schemas;
    fields = h.fields;
    columns = h.columns;
    layout = layout_with commit.change h.schemas h.fields h.columns h.layout;
    manifests = manifests_with commit.change h.schemas h.fields h.columns written.texts written.manifests h.manifests;
    list = h.list;
    metadata = h.metadata;
  }

  long_manifest_with : (change : Change) (schemas : Schemas) (fields : List SpecField) (columns : List PartColumn) → HasLongManifest end change schemas fields columns → HasLongManifest (end_with end ps) change schemas fields columns
  long_manifest_with change schemas fields columns h = record { next = h.next; next_are = h.next_are; entries = h.entries; new = h.new; bytes = h.bytes; text = h.text; long = h.long }

  long_list_with : (change : Change) (schemas : Schemas) (fields : List SpecField) (columns : List PartColumn) → HasLongList end change schemas fields columns → HasLongList (end_with end ps) change schemas fields columns
  long_list_with change schemas fields columns h = record { texts = h.texts; manifests = h.manifests; are = manifests_with change schemas fields columns h.texts h.manifests h.are; bytes = h.bytes; text = h.text; long = h.long }

  long_with : (origin : Origin) (now : ℕ) (commit : Commit) → HasLongText end origin now commit → HasLongText (end_with end ps) origin now commit
  long_with origin now commit h = record {
    schemas = h.schemas;
    fields = h.fields;
    columns = h.columns;
    layout = layout_with commit.change h.schemas h.fields h.columns h.layout;
    cause = ⊎_elim
        (λ manifest. inl (long_manifest_with commit.change h.schemas h.fields h.columns manifest))
        (λ (other : HasLongList end commit.change h.schemas h.fields h.columns ⊎ IsLong (metadata_text (metadata_of end origin now commit h.schemas h.fields))).
        inr (⊎_elim (λ list. inl (long_list_with commit.change h.schemas h.fields h.columns list)) (λ metadata. inr metadata) other))
        h.cause;
  }

  passes_at_with : (origin : Origin) (now : ℕ) (commit : Commit) (which : LimitKind) (number : ℕ) → PassesAt end origin now commit which number → PassesAt (end_with end ps) origin now commit which number
  passes_at_with origin now commit File number h = (h.0, long_with origin now commit h.1)
  passes_at_with origin now commit _ number h = h

  passes_with : (origin : Origin) (now : ℕ) (commits : List Commit) (which : LimitKind) (number : ℕ) → Passes end origin now commits which number → Passes (end_with end ps) origin now commits which number
  passes_with origin now [] which number h = h
  passes_with origin now (commit ∷ []) which number h = passes_at_with origin now commit which number h
  passes_with origin now (commit ∷ (next ∷ commits)) which number h = (h.0, written_with origin now commit h.0 h.1, h.2)

-- ---- what is kept of the newest version

-- a manifest that is read, with its live rows
abbrev live_of : Manifest → LiveManifest
live_of manifest = record { info = manifest.file.info; rows = map held_of manifest.rows }

kept_is : (links : OwnedRows) (manifest : Manifest) (kept : KeptManifest) → IsKeptOf links manifest kept → live_manifest links kept ≡ live_of manifest
kept_is links manifest kept h =
    let rows = ap (λ (o : Option (List Entry)). map (λ e. e.held) (unwrap_or o [])) h.owned ∙ h.same in
    let info = h.info in
    λ i. record { info = info i; rows = rows i }

manifests_are : (links : OwnedRows) (manifests : List Manifest) (kept : List KeptManifest) → AreEach (IsKeptOf links) manifests kept → map (live_manifest links) kept ≡ map live_of manifests
manifests_are links [] [] h = refl
manifests_are links [] (k ∷ kept) h = absurd h
manifests_are links (m ∷ manifests) [] h = absurd h
manifests_are links (m ∷ manifests) (k ∷ kept) h =
    let first = kept_is links m k h.0 in
    let rest = manifests_are links manifests kept h.1 in
    λ i. first i ∷ rest i

no_items : (manifests : List KeptManifest) → ((m : KeptManifest) → ¬ Contains manifests m) → manifests ≡ []
no_items [] none = refl
no_items (m ∷ manifests) none = absurd (none m (Contains-head m manifests))

-- Of what holds a newest version the files are ours.
pub held_ours : (files : Files) (kept : IcebergKept) → HoldsEnd files kept → Reads files (view_of kept) → IsOurs files (view_of kept)
held_ours files kept h (inl none) =
    let mark : (view_of kept).mark ≡ None = ap (λ (v : View). v.mark) none.1 in
    absurd (none_or_some (option_map standing_of kept.mark) (standing_of h.mark) mark (ap (λ (o : Option Mark). option_map standing_of o) h.marked))
held_ours files kept h (inr ours) = ours

-- of the views that the same files stand for, the schemas are one
pub one_schema : (files : Files) (v w : View) → Reads files v → Reads files w → v.table.schema ≡ w.table.schema
one_schema files v w h k = ⊎_elim (λ (same : SameView v w). same.schema) (λ none. schema_of_absent v none.0 ∙ sym (schema_of_absent w none.1)) (one_view files v w h k)

abbrev end_by : ℕ → Metadata → ColumnTrees → List (List ℕ) → List LiveManifest → TableEnd
end_by version metadata schema partition manifests = record { version = version; metadata = metadata; schema = schema; partition = partition; manifests = manifests }

module _ (files : Files) (kept other : IcebergKept) (reads : Reads files (view_of kept)) (too : Reads files (view_of other)) (partition : kept.table.partition ≡ other.table.partition) where
  schema : kept.table.schema ≡ other.table.schema
  schema = one_schema files (view_of kept) (view_of other) reads too

  ends_by : (ps : Properties) → kept.version ≡ other.version → metadata_with kept.metadata ps ≡ metadata_with other.metadata ps → manifests_of kept ≡ manifests_of other → end_with (end_of kept) ps ≡ end_with (end_of other) ps
  ends_by ps version metadata manifests =
      let names = partition in
      let columns = schema in
      λ i. end_by (version i) (metadata i) (columns i) (names i) (manifests i)

  first_ends : (id location : List ℕ) (ps : Properties) → IsFirst files id location kept → IsFirst files id location other → end_with (end_of kept) ps ≡ end_with (end_of other) ps
  first_ends id location ps a b =
      ends_by ps (a.version ∙ sym b.version) (ap (λ (m : Metadata). metadata_with m ps) (a.metadata ∙ sym b.metadata))
      (ap (λ (ms : List KeptManifest). map (live_manifest kept.links) ms) (no_items kept.manifests a.manifests) ∙ sym (ap (λ (ms : List KeptManifest). map (live_manifest other.links) ms) (no_items other.manifests b.manifests)))

  held_ends : (ps : Properties) → HoldsEnd files kept → HoldsEnd files other → end_with (end_of kept) ps ≡ end_with (end_of other) ps
  held_ends ps a b =
      let version : kept.version ≡ other.version = ours_newest files (view_of kept) (view_of other) (held_ours files kept a reads) (held_ours files other b too) in
      let metadata : a.metadata ≡ b.metadata = metadata_once files other.version a.metadata b.metadata (subst (λ (n : ℕ). SaysMetadata files n a.metadata) version a.says) b.says in
      let whole : metadata_with kept.metadata ps ≡ metadata_with other.metadata ps = ap (λ (m : Metadata). metadata_with m ps) (a.same.others ∙ metadata ∙ sym b.same.others) in
      ends_by ps version whole
      (manifests_are kept.links a.current.manifests kept.manifests a.manifests ∙ ap (λ (ms : List Manifest). map live_of ms) (one_manifests a.metadata b.metadata a.current b.current metadata) ∙ sym (manifests_are other.links b.current.manifests other.manifests b.manifests))
    where
      one_manifests : (m n : Metadata) (current : SaysCurrent files m) (now : SaysCurrent files n) → m ≡ n → current.manifests ≡ now.manifests
      one_manifests m n current now same = subst (λ (x : Metadata). (c : SaysCurrent files x) → current.manifests ≡ c.manifests) same (λ c. (says_once files m current c).manifests) now

pub one_end : (id location : List ℕ) (files : Files) (kept other : IcebergKept) (ps : Properties) → StandsFor id location kept files → StandsFor id location other files → kept.table.partition ≡ other.table.partition → end_with (end_of kept) ps ≡ end_with (end_of other) ps
one_end id location files kept other ps h k partition = by h.end k.end
  where
    by : IsFirst files id location kept ⊎ HoldsEnd files kept → IsFirst files id location other ⊎ HoldsEnd files other → end_with (end_of kept) ps ≡ end_with (end_of other) ps
    by (inl a) (inl b) = first_ends files kept other h.reads k.reads partition id location ps a b
    by (inl a) (inr b) = absurd (absent_or_ours files (view_of other) a.none (held_ours files other b k.reads))
    by (inr a) (inl b) = absurd (absent_or_ours files (view_of kept) b.none (held_ours files kept a h.reads))
    by (inr a) (inr b) = held_ends files kept other h.reads k.reads partition ps a b

-- ---- the laws

-- what commits are to fit, by an end
abbrev state_by : TableEnd → HeldState
state_by end = record {
  version = end.version;
  partition = end.partition;
  schema = end.schema;
  held = map (λ s. (s.0, s.1)) end.metadata.schemas;
  current = option_map (λ s. s.1) (current_schema end.metadata);
}

pub unfit_alike : (id location : List ℕ) (kept other : IcebergKept) (files : Files) (partition : List (List ℕ)) (commits : List Commit) (e : TargetError) → StandsFor id location kept files → StandsFor id location other files
    → kept.table.partition ≡ other.table.partition → Unfit (state_of kept) partition commits e → Unfit (state_of other) partition commits e
unfit_alike id location kept other files partition commits e h k same unfit =
    let states : state_of kept ≡ state_of other = ap state_by (one_end id location files kept other [] h k same) in
    subst (λ (state : HeldState). Unfit state partition commits e) states unfit

pub passes_alike : (id location : List ℕ) (kept other : IcebergKept) (files : Files) (origin : Origin) (now : ℕ) (commits : List Commit) (which : LimitKind) (number : ℕ) → StandsFor id location kept files → StandsFor id location other files
    → kept.table.partition ≡ other.table.partition → Passes (end_of kept) origin now commits which number → Passes (end_of other) origin now commits which number
passes_alike id location kept other files origin now commits which number h k same passes =
    let own = other.metadata.properties in
    subst (λ (end : TableEnd). Passes end origin now commits which number) (one_end id location files kept other own h k same) (passes_with (end_of kept) own origin now commits which number passes)
