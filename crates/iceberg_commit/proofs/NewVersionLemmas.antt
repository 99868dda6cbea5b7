-- A new version goes on from what is kept: its metadata can be written and kept, and what is written is the version.
use Rattle.std.proofs.Common.{◌≡◌, ◌⊎◌, ◌+◌, ◌<◌, ◌≤◌, ◌^◌, ℕ, ℤ, List, [], ◌∷◌, true, Option, refl, sym, ap, subst, ◌∙◌, arith}
use Rattle.std.specs.Prelude.{IfErr, IsErrAnd, Result}
use Rattle.serde_json.specs.Written.{compact_text}
use Rattle.lake_basics.specs.declared.limits.TheConstants.{MAX_ICEBERG_VERSION}
use Rattle.table_history.specs.TypeTree.{ColumnTrees}
use Rattle.table_history.specs.declared.limit.LimitKind.{LimitKind}
use Rattle.table_history.specs.declared.table.Commit.{Commit}
use Rattle.iceberg_metadata.specs.Writing.{IsWritable, metadata_text}
use Rattle.iceberg_metadata.specs.declared.metadata.Metadata.{Metadata}
use Rattle.iceberg_manifest.specs.declared.partition.PartColumn.{PartColumn}
use Rattle.target_core.specs.Conditions.{CanPublish}
use Rattle.target_core.specs.Mark.{IsMarkText, mark_data}
use Rattle.target_core.specs.Views.{Origin}
use Rattle.target_core.specs.declared.mark.Mark.{Mark}
use Rattle.target_core.specs.declared.target.TargetError.{TargetError}
use Rattle.target_core.specs.declared.target.TargetError.TheVariants.{Contested, Limit, Memory, StoreFault, Unsupported}
use Rattle.iceberg_version.specs.KeptEnd.{end_of, view_of}
use Rattle.iceberg_version.specs.Schemas.{with_schemas}
use Rattle.iceberg_version.specs.Sound.{IsSoundMetadata, have_first_ids, is_sound_metadata}
use Rattle.iceberg_version.specs.Writing.{AreColumns, HasLongList, HasLongManifest, IsLayout, IsLong, PassesAt, mark_of, metadata_of, snapshot_of, with_properties, with_snapshot, with_spec}
use Rattle.iceberg_version.specs.declared.kept.IcebergKept.{IcebergKept}
use Rattle.iceberg_version.proofs.HeldLemmas.{AreSoundNext, column_found, sound_next}
use Rattle.iceberg_commit.specs.NewVersion.{AreTextsBehind, ChangesKinds, HasColumns, HoldsCurrent, IsBehind, IsGoneOn, IsNewVersion, IsTextsRefusal, IsVersionRefusal, schema_behind}
use Rattle.iceberg_commit.specs.declared.version.NewVersion.{NewVersion}
use Rattle.iceberg_commit.proofs.MetadataLemmas.{sound_behind, writable}
use Rattle.iceberg_commit.proofs.NewListLemmas.{columns_kinds, columns_top, few_columns, own_columns, stated_size, stated_sound}
use Rattle.iceberg_commit.proofs.SoundLemmas.{sound_from, sound_to}
use Rattle.iceberg_commit.proofs.TextLemmas.{err_is}

-- ---- the metadata behind what is kept

pub few_versions : (before version : ℕ) → version ≡ before + 1 → version ≤ MAX_ICEBERG_VERSION → before + 1 < 2 ^ 64
few_versions before version next within = omega (arith, next, within)

pub gone_here : (kept : IcebergKept) (commit : Commit) (now place : ℕ) (mark : Mark) (new m : Metadata) (version : ℕ) → m ≡ kept.metadata → version ≡ kept.version + 1 → IsGoneOn m version kept.table commit mark now new place → IsGoneOn kept.metadata (kept.version + 1) kept.table commit mark now new place
gone_here kept commit now place mark new m version is numbered gone =
    subst (λ (x : Metadata). IsGoneOn x (kept.version + 1) kept.table commit mark now new place) is (subst (λ (n : ℕ). IsGoneOn m n kept.table commit mark now new place) numbered gone)

module _ (kept : IcebergKept) (commit : Commit) (can : CanPublish (view_of kept) commit) (same : ChangesKinds kept commit.change → ⊥) where
  before_sound : IsSoundMetadata kept.version kept.metadata
  before_sound = sound_from kept.version kept.metadata kept.metadata_sound

  abbrev stated : ColumnTrees
  stated = schema_behind kept.table commit.change

  pub has_columns : HasColumns kept.metadata (schema_behind kept.table commit.change) kept.table.partition
  has_columns schemas name are named = column_found kept.version kept.metadata stated schemas kept.schema_ids before_sound are (name ∷ []) (columns_top kept commit can same name named)

  module _ (now place : ℕ) (mark : Mark) (new : Metadata) (gone : IsGoneOn kept.metadata (kept.version + 1) kept.table commit mark now new place) (small : kept.version + 1 < 2 ^ 64) where
    sound : AreSoundNext kept.metadata stated gone.schemas
    sound =
        let schema = stated_sound kept commit can same in
        sound_next kept.version kept.metadata stated gone.schemas kept.schema_ids before_sound schema (gone.fits schema (stated_size kept commit can same)) gone.schemas_are

    pub can_write : IsWritable new
    can_write =
        subst IsWritable (sym gone.is)
        (writable kept.version kept.metadata before_sound stated gone.schemas sound kept.table.partition gone.fields gone.fields_are commit.change now mark small (few_columns kept commit can same) (own_columns kept commit can same) (columns_kinds kept commit can same))

    pub holds_current : HoldsCurrent kept.table commit.change new place
    holds_current = record {
      schema = gone.schemas.current;
      at = gone.at;
      image = sound.columns;
      fields = gone.fields;
      specs = ap (λ (x : Metadata). x.specs) gone.is;
      fields_are = gone.fields_are;
      count = gone.count;
    }

    pub new_sound : is_sound_metadata (kept.version + 1) new ≡ true
    new_sound =
        sound_to (kept.version + 1) new
        (subst (IsSoundMetadata (kept.version + 1)) (sym gone.is) (sound_behind kept.version kept.metadata before_sound stated gone.schemas sound kept.table.partition gone.fields gone.fields_are commit.change now mark small))

    pub new_ids : have_first_ids new.schemas ≡ true
    new_ids = ap (λ (x : Metadata). have_first_ids x.schemas) gone.is ∙ sound.first_ids

    pub is_behind : (given : IcebergKept) (version : ℕ) (parent : Option ℤ) → version ≡ given.version + 1 → kept.metadata.current_snapshot ≡ parent → IsBehind given kept.metadata new place version parent gone.schemas gone.fields
    is_behind given version parent next parent_is = record {
      location = sym (ap (λ (x : Metadata). x.location) gone.is);
      parent_is = parent_is;
      next = next;
      at = gone.at;
      specs = ap (λ (x : Metadata). x.specs) gone.is;
    }

    -- ---- what is written

    module _ (origin : Origin) (marked : mark ≡ mark_of (kept.version + 1) origin commit.position) where
      metadata_is : new ≡ metadata_of (end_of kept) origin now commit gone.schemas gone.fields
      metadata_is =
          gone.is
          ∙ ap (λ (k : Mark). with_properties (with_spec (with_snapshot (with_schemas kept.metadata gone.schemas) (snapshot_of kept.metadata (kept.version + 1) commit.change gone.schemas.current.0 now)) gone.fields) k gone.schemas.current) marked

      layout_is : (columns : List PartColumn) → AreColumns gone.schemas.current.1 kept.table.partition gone.fields columns → IsLayout (end_of kept) commit.change gone.schemas gone.fields columns
      layout_is columns are = record { schemas_are = gone.schemas_are; fields_are = gone.fields_are; columns_are = are }

      pub version_written : (w : NewVersion) (next : IcebergKept) → AreTextsBehind (end_of kept) commit.change new gone.schemas gone.fields w → next.version ≡ kept.version + 1 → next.metadata ≡ new → kept.version + 1 ≤ MAX_ICEBERG_VERSION → IsNewVersion kept origin now commit w next
      version_written w next texts numbered held within = record {
        written = record { texts = w.manifests.items; manifests = texts.listed; list = w.list; metadata = new };
        is = record {
          schemas = gone.schemas;
          fields = gone.fields;
          columns = texts.columns;
          layout = layout_is texts.columns texts.columns_are;
          manifests = texts.manifests;
          list = texts.list;
          metadata = metadata_is;
        };
        manifests = refl;
        infos = texts.infos;
        list = refl;
        metadata = texts.metadata_is;
        version_kept = numbered;
        metadata_kept = held;
        within = within;
        short = texts.short;
        entries_back = texts.entries_back;
        infos_back = texts.infos_back;
        again = texts.again;
        metadata_back = texts.metadata_back;
        same = texts.same;
        mark_back = subst (λ (k : Mark). IsMarkText (compact_text (mark_data k)) k) marked gone.reads_back;
      }

      texts_refusal : (e : TargetError) → IsTextsRefusal (end_of kept) commit.change new gone.schemas gone.fields e → IsVersionRefusal (PassesAt (end_of kept) origin now commit) e
      texts_refusal Memory told = tt
      texts_refusal StoreFault told = told
      texts_refusal Contested told = told
      texts_refusal (Limit which number) told =
          let long = told.2 in
          subst (λ (k : LimitKind). PassesAt (end_of kept) origin now commit k number) (sym told.0) (
            told.1,
            record {
              schemas = gone.schemas;
              fields = gone.fields;
              columns = long.0;
              layout = layout_is long.0 long.1;
              cause = subst (λ (x : Metadata). HasLongManifest (end_of kept) commit.change gone.schemas gone.fields long.0 ⊎ (HasLongList (end_of kept) commit.change gone.schemas gone.fields long.0 ⊎ IsLong (metadata_text x))) metadata_is long.2;
            },
          )
      texts_refusal (Unsupported feature path) told = told

      pub texts_refused : {X : Type 0} (r : Result X TargetError) (e : TargetError) → IsErrAnd r (λ f. f ≡ e) → IsTextsRefusal (end_of kept) commit.change new gone.schemas gone.fields e → IfErr r (IsVersionRefusal (PassesAt (end_of kept) origin now commit))
      texts_refused r e told refused = err_is r e (IsVersionRefusal (PassesAt (end_of kept) origin now commit)) told (texts_refusal e refused)
