-- The texts of a version are those behind its end.
use Rattle.std.specs.List.{All}
use Rattle.std.proofs.Common.{◌≡◌, inl, inr, ◌+◌, ℕ, ℤ, pos, List, [], ◌∷◌, map, get_or, Contains, IsSome, Option, Some, slice_get, refl, sym, ap, subst, ◌∙◌}
use Rattle.std.specs.Prelude.{IfErr, IsErrAnd, Result, is_some}
use Rattle.lake_basics.specs.declared.limits.TheConstants.{MAX_AVRO_VALUES}
use Rattle.avro_container.specs.Writing.{IsWritten as IsContainerWritten}
use Rattle.partition_map.specs.Columns.{column_kind}
use Rattle.table_history.specs.TypeTree.{ColumnTrees}
use Rattle.table_history.specs.declared.table.Change.{Change}
use Rattle.table_history.specs.declared.table.Commit.{Commit}
use Rattle.target_core.specs.Conditions.{CanPublish}
use Rattle.target_core.specs.declared.target.TargetError.{TargetError}
use Rattle.target_core.specs.declared.target.TargetError.TheVariants.{Contested, Limit, Memory, StoreFault, Unsupported}
use Rattle.iceberg_manifest.specs.Containers.{StandsFor}
use Rattle.iceberg_manifest.specs.Entry.{EntryData}
use Rattle.iceberg_manifest.specs.Lists.{AreEach}
use Rattle.iceberg_manifest.specs.ListWriting.{info_tree, list_meta, marker}
use Rattle.iceberg_metadata.specs.Location.{front_of}
use Rattle.iceberg_manifest.specs.Scans.{entries_of, infos_of}
use Rattle.iceberg_manifest.specs.WrittenTypes.{list_type}
use Rattle.iceberg_manifest.specs.declared.info.ManifestInfo.{ManifestInfo}
use Rattle.iceberg_metadata.specs.Schemas.{HeldSchema}
use Rattle.iceberg_metadata.specs.declared.metadata.Metadata.{Metadata}
use Rattle.iceberg_metadata.specs.declared.metadata.Spec.{Spec}
use Rattle.iceberg_metadata.specs.declared.metadata.SpecField.{SpecField}
use Rattle.iceberg_version.specs.KeptEnd.{end_with, manifests_of, view_of}
use Rattle.iceberg_version.specs.Manifests.{AreListed, AreNextManifests, LiveManifest, NextManifest, new_entries}
use Rattle.iceberg_commit.specs.NewVersion.{AreNextOf, AreTextsBehind, ChangesKinds, HasLongBehind, HoldsCurrent, IsBehind, IsLayoutOf, IsNewText, IsTextsRefusal, schema_behind}
use Rattle.iceberg_version.specs.Schemas.{AreSpecFields, FIRST_PARTITION_ID, Schemas}
use Rattle.iceberg_commit.specs.Texts.{AreTexts, IsListOf, IsMetadataIn, IsShort, IsTextIn, IsTextRefusal}
use Rattle.iceberg_version.specs.Writing.{AreColumns, AreWritten, HasLongList, HasLongManifest, IsLong, IsManifestText, TableEnd, spec_of}
use Rattle.iceberg_version.specs.declared.kept.IcebergKept.{IcebergKept}
use Rattle.iceberg_version.specs.declared.layout.Layout.{Layout}
use Rattle.iceberg_commit.specs.declared.new_list.NewList.{NewList}
use Rattle.iceberg_commit.specs.declared.version.NewVersion.{NewVersion}
use Rattle.iceberg_version.proofs.BehindLemmas.{wide_kind}
use Rattle.iceberg_commit.proofs.NewListLemmas.{columns_kinds}
use Rattle.iceberg_commit.proofs.TextLemmas.{err_is, kept_at}

-- ---- one by one

one_text : (layout : Layout) (current : HeldSchema) (partition : List (List ℕ)) (fields : List SpecField) → layout.schema.now ≡ current → layout.partition.now ≡ partition → layout.fields.now ≡ fields → (es : List EntryData) (t : List ℕ) → IsTextIn layout es t → IsManifestText current partition fields layout.columns.items es t
one_text layout current partition fields a b d es t text =
    subst (λ (s : HeldSchema). IsManifestText s partition fields layout.columns.items es t) a
    (subst (λ (ns : List (List ℕ)). IsManifestText layout.schema.now ns fields layout.columns.items es t) b
    (subst (λ (fs : List SpecField). IsManifestText layout.schema.now layout.partition.now fs layout.columns.items es t) d text.written))

each_text : (layout : Layout) (current : HeldSchema) (partition : List (List ℕ)) (fields : List SpecField) → layout.schema.now ≡ current → layout.partition.now ≡ partition → layout.fields.now ≡ fields → (es : List (List EntryData)) (ts : List (List ℕ)) → AreEach (IsTextIn layout) es ts → AreEach (IsManifestText current partition fields layout.columns.items) es ts
each_text layout current partition fields a b d [] [] are = tt
each_text layout current partition fields a b d [] (t ∷ ts) are = absurd are
each_text layout current partition fields a b d (e ∷ es) [] are = absurd are
each_text layout current partition fields a b d (e ∷ es) (t ∷ ts) are = (one_text layout current partition fields a b d e t are.0, each_text layout current partition fields a b d es ts are.1)

each_back : (layout : Layout) (es : List (List EntryData)) (ts : List (List ℕ)) → AreEach (IsTextIn layout) es ts → AreEach (λ entries bytes. StandsFor MAX_AVRO_VALUES (entries_of layout.columns.items) bytes entries) es ts
each_back layout [] [] are = tt
each_back layout [] (t ∷ ts) are = absurd are
each_back layout (e ∷ es) [] are = absurd are
each_back layout (e ∷ es) (t ∷ ts) are = (are.0.reads_back, each_back layout es ts are.1)

infos_trees : (ls : List LiveManifest) → map info_tree (map (λ (m : LiveManifest). m.info) ls) ≡ map (λ (m : LiveManifest). info_tree m.info) ls
infos_trees [] = refl
infos_trees (l ∷ ls) = ap (λ ts. info_tree l.info ∷ ts) (infos_trees ls)

-- ---- refusals

long_refused : (IsText : List ℕ → Type 0) (end : TableEnd) (change : Change) (m : Metadata) (schemas : Schemas) (fields : List SpecField) → ((bytes : List ℕ) → IsText bytes → IsLong bytes → HasLongBehind end change m schemas fields) → (e : TargetError) → IsTextRefusal IsText e → IsTextsRefusal end change m schemas fields e
long_refused IsText end change m schemas fields long Memory told = tt
long_refused IsText end change m schemas fields long StoreFault told = told
long_refused IsText end change m schemas fields long Contested told = told
long_refused IsText end change m schemas fields long (Limit which number) told = (told.0, told.1, long told.2.0 told.2.1 told.2.2)
long_refused IsText end change m schemas fields long (Unsupported feature path) told = told

-- ---- the layout of the texts

module _ (kept : IcebergKept) (commit : Commit) (can : CanPublish (view_of kept) commit) (same : ChangesKinds kept commit.change → ⊥) (m : Metadata) (place : ℕ) (holds : HoldsCurrent kept.table commit.change m place) where
  pub schema_read : (schemas : List HeldSchema) (schema : HeldSchema) → schemas ≡ m.schemas → schema ≡ get_or schemas place schema → schema ≡ holds.schema
  schema_read schemas schema same at = kept_at schemas place schema holds.schema at (ap (λ (l : List HeldSchema). slice_get l place) same ∙ holds.at)

  pub fields_read : (specs : List Spec) (spec : Spec) (fields : List SpecField) → specs ≡ m.specs → fields ≡ (get_or specs 0 spec).fields → fields ≡ holds.fields
  fields_read specs spec fields same at = at ∙ ap (λ (ss : List Spec). (get_or ss 0 spec).fields) (same ∙ holds.specs)

  pub kinds_here : (schema : HeldSchema) (names : List (List ℕ)) → schema ≡ holds.schema → names ≡ kept.table.partition → (name : List ℕ) → Contains names name → IsSome (column_kind schema.1 name)
  kinds_here schema names is_schema is_names name named =
      let stated : ColumnTrees = schema_behind kept.table commit.change in
      let e = ap (λ (x : HeldSchema). column_kind x.1 name) is_schema ∙ ap (λ (cs : ColumnTrees). column_kind cs name) holds.image ∙ wide_kind stated name in
      ap is_some e ∙ columns_kinds kept commit can same name (subst (λ (ns : List (List ℕ)). Contains ns name) is_names named)

  -- The layout is that of the version of this number.
  pub record IsLayoutHere (version : ℕ) (layout : Layout) : Type 0 where
    pub front : layout.front ≡ front_of m.location
    pub numbered : layout.version ≡ version
    pub schema_is : layout.schema.now ≡ holds.schema
    pub spec_is : layout.fields.now ≡ holds.fields
    pub is : IsLayoutOf kept.table commit.change layout

  pub layout_here : (version : ℕ) (layout : Layout) (schema : HeldSchema) (names : List (List ℕ)) (fields : List SpecField)
      → layout.front ≡ front_of m.location → layout.version ≡ version
      → layout.partition.now ≡ names → names ≡ kept.table.partition → layout.schema.now ≡ schema → schema ≡ holds.schema → layout.fields.now ≡ fields → fields ≡ holds.fields
      → AreColumns schema.1 names fields layout.columns.items → IsLayoutHere version layout
  layout_here version layout schema names fields front numbered a b c d e f columns = record {
    front = front;
    numbered = numbered;
    schema_is = c ∙ d;
    spec_is = e ∙ f;
    is = record {
      partition = a ∙ b;
      image = ap (λ (x : HeldSchema). x.1) (c ∙ d) ∙ holds.image;
      fields =
          subst (λ (x : HeldSchema). AreSpecFields x FIRST_PARTITION_ID kept.table.partition layout.fields.now) (sym (c ∙ d))
          (subst (λ (fs : List SpecField). AreSpecFields holds.schema FIRST_PARTITION_ID kept.table.partition fs) (sym (e ∙ f)) holds.fields_are);
      columns =
          subst (λ (x : HeldSchema). AreColumns x.1 kept.table.partition layout.fields.now layout.columns.items) (sym c)
          (subst (λ (ns : List (List ℕ)). AreColumns schema.1 ns layout.fields.now layout.columns.items) b
          (subst (λ (fs : List SpecField). AreColumns schema.1 names fs layout.columns.items) (sym e) columns));
    };
  }

  module _ (version : ℕ) (parent : Option ℤ) (before : Metadata) (schemas : Schemas) (fields : List SpecField) (behind : IsBehind kept before m place version parent schemas fields) where
    current_is : holds.schema ≡ schemas.current
    current_is = let q : Some holds.schema ≡ Some schemas.current = sym holds.at ∙ behind.at in cc

    fields_is : holds.fields ≡ fields
    fields_is = let q : spec_of holds.fields ∷ [] ≡ spec_of fields ∷ [] = sym holds.specs ∙ behind.specs in ap (λ (ss : List Spec). (get_or ss 0 (spec_of fields)).fields) q

    module _ (layout : Layout) (here : IsLayoutHere version layout) where
      next_behind : (next : List NextManifest) → AreNextOf kept layout commit.change next → AreNextManifests (front_of before.location) (kept.version + 1) (manifests_of kept) commit.change next
      next_behind next are =
          subst (λ (l : List ℕ). AreNextManifests l (kept.version + 1) (manifests_of kept) commit.change next) (here.front ∙ ap front_of (sym behind.location))
          (subst (λ (n : ℕ). AreNextManifests layout.front n (manifests_of kept) commit.change next) (here.numbered ∙ behind.next) are)

      columns_behind : AreColumns schemas.current.1 kept.table.partition fields layout.columns.items
      columns_behind =
          subst (λ (x : HeldSchema). AreColumns x.1 kept.table.partition fields layout.columns.items) (here.schema_is ∙ current_is)
          (subst (λ (fs : List SpecField). AreColumns layout.schema.now.1 kept.table.partition fs layout.columns.items) (here.spec_is ∙ fields_is) here.is.columns)

      abbrev written_behind : (next : List NextManifest) (ts : List (List ℕ)) (listed : List LiveManifest) → AreNextOf kept layout commit.change next → AreEach (IsTextIn layout) (new_entries next) ts → AreListed layout.front layout.version 0 0 next ts listed → AreWritten (end_with kept before) commit.change schemas fields layout.columns.items ts listed
      written_behind next ts listed are each told = record {
        next = next;
        next_are = next_behind next are;
        texts_are = each_text layout schemas.current kept.table.partition fields (here.schema_is ∙ current_is) here.is.partition (here.spec_is ∙ fields_is) (new_entries next) ts each;
        listed =
            subst (λ (l : List ℕ). AreListed l (kept.version + 1) 0 0 next ts listed) (here.front ∙ ap front_of (sym behind.location))
            (subst (λ (n : ℕ). AreListed layout.front n 0 0 next ts listed) (here.numbered ∙ behind.next) told);
      }

      list_behind : (infos : List ManifestInfo) (listed : List LiveManifest) (bytes : List ℕ) → infos ≡ map (λ (l : LiveManifest). l.info) listed → IsListOf infos version parent bytes → IsContainerWritten MAX_AVRO_VALUES bytes (list_meta (pos (kept.version + 1)) before.current_snapshot (pos (kept.version + 1))) list_type marker (map (λ (l : LiveManifest). info_tree l.info) listed)
      list_behind infos listed bytes are text =
          subst (λ ts. IsContainerWritten MAX_AVRO_VALUES bytes (list_meta (pos (kept.version + 1)) before.current_snapshot (pos (kept.version + 1))) list_type marker ts) (ap (map info_tree) are ∙ infos_trees listed)
          (subst (λ (p : Option ℤ). IsContainerWritten MAX_AVRO_VALUES bytes (list_meta (pos (kept.version + 1)) p (pos (kept.version + 1))) list_type marker (map info_tree infos)) (sym behind.parent_is)
          (subst (λ (n : ℕ). IsContainerWritten MAX_AVRO_VALUES bytes (list_meta (pos n) parent (pos n)) list_type marker (map info_tree infos)) behind.next text.written))

      pub texts_behind : (next : List NextManifest) (list : NewList) (w : NewVersion) → AreNextOf kept layout commit.change next → AreTexts layout next list → w.infos.items ≡ list.infos.items → w.manifests.items ≡ list.manifests.items → IsListOf list.infos.items version parent w.list → IsMetadataIn m w.metadata → IsShort w.list → IsShort w.metadata → AreTextsBehind (end_with kept before) commit.change m schemas fields w
      texts_behind next list w are texts is_infos is_manifests listed told list_short metadata_short =
          let each : AreEach (IsTextIn layout) (new_entries next) w.manifests.items = subst (λ (ts : List (List ℕ)). AreEach (IsTextIn layout) (new_entries next) ts) (sym is_manifests) texts.each in
          let ones : AreListed layout.front layout.version 0 0 next w.manifests.items texts.listed = subst (λ (ts : List (List ℕ)). AreListed layout.front layout.version 0 0 next ts texts.listed) (sym is_manifests) texts.are in
          record {
            columns = layout.columns.items;
            columns_are = columns_behind;
            listed = texts.listed;
            infos = is_infos ∙ texts.infos;
            manifests = written_behind next w.manifests.items texts.listed are each ones;
            list = list_behind list.infos.items texts.listed w.list texts.infos listed;
            metadata_is = told.written;
            short = record { manifests_are = subst (λ (ts : List (List ℕ)). All IsShort ts) (sym is_manifests) texts.short; list_is = list_short; metadata_is = metadata_short };
            entries_back = each_back layout (new_entries next) w.manifests.items each;
            infos_back = subst (λ (is : List ManifestInfo). StandsFor MAX_AVRO_VALUES infos_of w.list is) (sym is_infos) listed.reads_back;
            again = told.again;
            metadata_back = told.reads_back;
            same = told.same;
          }

      -- ---- why a text is refused

      long_manifest : (bytes : List ℕ) → IsNewText kept layout commit.change bytes → IsLong bytes → HasLongBehind (end_with kept before) commit.change m schemas fields
      long_manifest bytes text long =
          let one : HasLongManifest (end_with kept before) commit.change schemas fields layout.columns.items = record {
            next = text.0;
            next_are = next_behind text.0 text.2;
            entries = text.1;
            new = text.3;
            bytes = bytes;
            text = one_text layout schemas.current kept.table.partition fields (here.schema_is ∙ current_is) here.is.partition (here.spec_is ∙ fields_is) text.1 bytes text.4;
            long = long;
          } in
          (layout.columns.items, columns_behind, inl one)

      long_list : (next : List NextManifest) (list : NewList) → AreNextOf kept layout commit.change next → AreTexts layout next list → (bytes : List ℕ) → IsListOf list.infos.items version parent bytes → IsLong bytes → HasLongBehind (end_with kept before) commit.change m schemas fields
      long_list next list are texts bytes text long =
          let one : HasLongList (end_with kept before) commit.change schemas fields layout.columns.items = record {
            texts = list.manifests.items;
            manifests = texts.listed;
            are = written_behind next list.manifests.items texts.listed are texts.each texts.are;
            bytes = bytes;
            text = list_behind list.infos.items texts.listed bytes texts.infos text;
            long = long;
          } in
          (layout.columns.items, columns_behind, inr (inl one))

      long_metadata : (bytes : List ℕ) → IsMetadataIn m bytes → IsLong bytes → HasLongBehind (end_with kept before) commit.change m schemas fields
      long_metadata bytes text long = (layout.columns.items, columns_behind, inr (inr (subst IsLong text.written long)))

      pub manifest_refused : {X : Type 0} (r : Result X TargetError) (e : TargetError) → IsErrAnd r (λ f. f ≡ e) → IsTextRefusal (IsNewText kept layout commit.change) e → IfErr r (IsTextsRefusal (end_with kept before) commit.change m schemas fields)
      manifest_refused r e told refused = err_is r e (IsTextsRefusal (end_with kept before) commit.change m schemas fields) told (long_refused (IsNewText kept layout commit.change) (end_with kept before) commit.change m schemas fields long_manifest e refused)

      pub list_refused : {X : Type 0} (r : Result X TargetError) (e : TargetError) → IsErrAnd r (λ f. f ≡ e) → (next : List NextManifest) (list : NewList) → AreNextOf kept layout commit.change next → AreTexts layout next list → IsTextRefusal (IsListOf list.infos.items version parent) e → IfErr r (IsTextsRefusal (end_with kept before) commit.change m schemas fields)
      list_refused r e told next list are texts refused = err_is r e (IsTextsRefusal (end_with kept before) commit.change m schemas fields) told (long_refused (IsListOf list.infos.items version parent) (end_with kept before) commit.change m schemas fields (long_list next list are texts) e refused)

      pub metadata_refused : {X : Type 0} (r : Result X TargetError) (e : TargetError) → IsErrAnd r (λ f. f ≡ e) → IsTextRefusal (IsMetadataIn m) e → IfErr r (IsTextsRefusal (end_with kept before) commit.change m schemas fields)
      metadata_refused r e told refused = err_is r e (IsTextsRefusal (end_with kept before) commit.change m schemas fields) told (long_refused (IsMetadataIn m) (end_with kept before) commit.change m schemas fields long_metadata e refused)
