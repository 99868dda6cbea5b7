-- The commit that is written for a change, read again, is taken over the table before it and makes the table after the change.
use Rattle.std.proofs.Common.{◌≡◌, ◌⊎◌, inl, inr, ⊎_elim, ℕ, ◌<◌, ◌==◌, Bool, true, false, cond, get_or, List, [], ◌∷◌, ◌++◌, Contains, Option, Some, None, refl, sym, ap, subst, ◌∙◌, arith}
use Rattle.std.specs.Prelude.{◌↔◌, Ok, codes}
use Rattle.std.proofs.lemmas.List.Elements.{Contains-append_cases, Contains-append_left, Contains-append_right}
use Rattle.serde_json.specs.Written.{compact_text}
use Rattle.table_history.specs.History.{FitColumns}
use Rattle.table_history.specs.Row.{Row}
use Rattle.table_history.specs.Rows.{HasPath}
use Rattle.table_history.specs.Tables.{IsRowAfter}
use Rattle.table_history.specs.TypeTree.{ColumnTrees}
use Rattle.table_history.specs.declared.table.Commit.{Commit}
use Rattle.table_history.specs.declared.table.Table.{Table}
use Rattle.table_history.proofs.RowListLemmas.{Contains-none, Contains-head, Contains-tail, Contains-cases}
use Rattle.partition_map.specs.Columns.{HasOtherKind, LacksKinds, column_kind}
use Rattle.partition_map.specs.declared.kind.PartKind.{PartKind}
use Rattle.schema_delta.specs.Delta.{delta_schema_of}
use Rattle.schema_delta.specs.DeltaWriting.{delta_text}
use Rattle.delta_live.specs.Live.{AreRowsBehind, SpellsNoValue, ActsOn, AddsRow, AreValues, PartColumns, text_of, ArePartColumns}
use Rattle.delta_change.specs.Change.{ChangesPartition, HasOtherPartition, HasOtherReader, HasOtherValue, IsOutsideGrammar, MapsColumns, NeedsOtherFeature, known_features}
use Rattle.delta_change.proofs.SchemaTextLemmas.{spelled_good, spelled_type, spelled_field}
use Rattle.delta_log.specs.Commit.{file_path, file_paths}
use Rattle.delta_change.specs.TableBehind.{IsSchemaBehind, partition_behind, rows_before}
use Rattle.delta_text.specs.Writing.{SameCommit, SameFile, SameMeta}
use Rattle.delta_log.specs.declared.commit.DeltaCommit.{DeltaCommit}
use Rattle.delta_log.specs.declared.commit.FileAction.{FileAction}
use Rattle.delta_log.specs.declared.commit.FileAction.TheVariants as file
use Rattle.delta_log.specs.declared.commit.MetaData.{MetaData}
use Rattle.delta_log.specs.declared.commit.Protocol.{Protocol}
use Rattle.partition_map.specs.Stands.{DeltaStands}
use Rattle.table_history.specs.declared.row.PartValue.{PartValue}
use Rattle.target_core.specs.Mark.{mark_data}
use Rattle.target_delta.specs.Reading.{mark_setting}
use Rattle.delta_table.specs.Log.{IsStep}
use Rattle.target_core.specs.Changes.{IsGone}
use Rattle.target_core.specs.Conditions.{IsPublishable}
use Rattle.target_core.specs.Views.{Origin}
use Rattle.target_delta.specs.Writing.{IsAddOf, IsWritten, LogEnd, have_ntz, mark_of, meta_of, ntz_feature, ntz_protocol, plain_protocol, protocol_due, schema_behind}
use Rattle.target_delta.specs.LogLemmas.{one_columns}
use Rattle.target_delta.proofs.WrittenLemmas.{MetaAgain, adds_again, again_from, again_of, column_kind_there, columns_there, meta_again, only_row, only_setting, same_paths}

-- ---- paths and actions

removes_nothing : (columns : PartColumns) (path : List ℕ) (g : FileAction) (row : Row) → SameFile (file.Remove path) g → AddsRow columns g row → ⊥
removes_nothing columns path (file.Add q ws bytes records) row is adds = is
removes_nothing columns path (file.Remove q) row is adds = adds

pub path_there : (f : FileAction) (fs : List FileAction) → Contains fs f → Contains (file_paths fs) (file_path f)
path_there f [] there = absurd (Contains-none f there)
path_there f (x ∷ fs) there =
    ⊎_elim
    (λ (here : x ≡ f). subst (λ (p : List ℕ). Contains (file_path x ∷ file_paths fs) p) (ap file_path here) (Contains-head (file_path x) (file_paths fs)))
    (λ later. Contains-tail (file_path x) (file_paths fs) (file_path f) (path_there f fs later))
    (Contains-cases x fs f there)

pub path_from : (path : List ℕ) (fs : List FileAction) → Contains (file_paths fs) path → (f : FileAction) × Contains fs f × (file_path f ≡ path)
path_from path [] there = absurd (Contains-none path there)
path_from path (x ∷ fs) there =
    ⊎_elim
    (λ (here : file_path x ≡ path). (x, Contains-head x fs, here))
    (λ later. let found = path_from path fs later in (found.0, Contains-tail x fs found.0 found.1, found.2))
    (Contains-cases (file_path x) (file_paths fs) path there)

-- ---- the protocol that is written

pub due_first : (has : Bool) → protocol_due 0 false has ≡ None → ⊥
due_first true is = cc
due_first false is = cc

by_first : (b : Bool) (p : Protocol) → cond b (Some plain_protocol) None ≡ Some p → plain_protocol ≡ p
by_first true p is = cc
by_first false p is = absurd (cc)

pub due_is : (version : ℕ) (named has : Bool) (p : Protocol) → protocol_due version named has ≡ Some p → (plain_protocol ≡ p) ⊎ (ntz_protocol ≡ p)
due_is version true true p is = absurd (cc)
due_is version false true p is = inr (let same : ntz_protocol ≡ p = cc in same)
due_is version named false p is = inl (by_first (version == 0) p is)

one_feature : (names : List (List ℕ)) (name : List ℕ) → ntz_feature ∷ [] ≡ names → Contains names name → Contains known_features name
one_feature names name is there =
    let here : Contains (ntz_feature ∷ []) name = subst (λ (l : List (List ℕ)). Contains l name) (sym is) there in
    ⊎_elim
    (λ (same : ntz_feature ≡ name). subst (λ (n : List ℕ). Contains known_features n) same (Contains-tail (codes "columnMapping") (codes "deletionVectors" ∷ ntz_feature ∷ codes "v2Checkpoint" ∷ codes "vacuumProtocolCheck" ∷ []) ntz_feature (Contains-tail (codes "deletionVectors") (ntz_feature ∷ codes "v2Checkpoint" ∷ codes "vacuumProtocolCheck" ∷ []) ntz_feature (Contains-head ntz_feature (codes "v2Checkpoint" ∷ codes "vacuumProtocolCheck" ∷ [])))))
    (λ none. absurd (Contains-none name none))
    (Contains-cases ntz_feature [] name here)

other_setting : (text mode : List ℕ) (settings : List (List ℕ × List ℕ)) → settings ≡ (mark_setting, text) ∷ [] → Contains settings (codes "delta.columnMapping.mode", mode) → ⊥
other_setting text mode settings is there =
    ⊎_elim
    (λ (same : (mark_setting, text) ≡ (codes "delta.columnMapping.mode", mode)).
    let first : 108 ≡ 100 = ap (λ (p : List ℕ × List ℕ). get_or p.0 0 0) same in
    absurd (omega (arith, first)))
    (λ none. Contains-none (codes "delta.columnMapping.mode", mode) none)
    (Contains-cases (mark_setting, text) [] (codes "delta.columnMapping.mode", mode) (subst (λ (l : List (List ℕ × List ℕ)). Contains l (codes "delta.columnMapping.mode", mode)) is there))

value_at : (columns : PartColumns) (texts : List (List ℕ × Option (List ℕ))) (values : List PartValue) (column : List ℕ × PartKind) → AreValues columns texts values → Contains columns column → (v : PartValue) × DeltaStands column.1 (text_of column.0 texts) v
value_at [] texts values column h there = absurd (Contains-none column there)
value_at (c ∷ columns) texts [] column h there = absurd h
value_at (c ∷ columns) texts (v ∷ values) column h there =
    ⊎_elim
    (λ (here : c ≡ column). (v, subst (λ (d : List ℕ × PartKind). DeltaStands d.1 (text_of d.0 texts) v) here h.0))
    (λ later. value_at columns texts values column h.1 later)
    (Contains-cases c columns column there)

spells_some : (columns : PartColumns) (f : FileAction) (row : Row) (column : List ℕ × PartKind) → AddsRow columns f row → Contains columns column → SpellsNoValue column f → ⊥
spells_some columns (file.Add path values size count) row column adds there none = let v = value_at columns values row.values column adds.1 there in none v.0 v.1
spells_some columns (file.Remove path) row column adds there none = adds

removes_spell : (column : List ℕ × PartKind) (path : List ℕ) (g : FileAction) → SameFile (file.Remove path) g → SpellsNoValue column g → ⊥
removes_spell column path (file.Add q ws bytes records) is none = is
removes_spell column path (file.Remove q) is none = none

-- What stands before the commit, as far as it rests on it.
pub record StandsBefore (end : LogEnd) (base : Option Table) (commit : Commit) (next : Table) : Type 0 where
  -- nothing before the first version
  pub first : base ≡ None → (end.version ≡ 0) × (end.ntz ≡ false)
  pub held : (t : Table) → base ≡ Some t → (t.schema ≡ end.schema) × (t.partition ≡ end.partition) × (0 < end.version)
  pub schema : next.schema ≡ schema_behind end commit.change
  pub partition : next.partition ≡ end.partition
  pub distinct : (path : List ℕ) → Contains commit.change.removed path → HasPath (rows_before base) path
  pub new : (row : Row) → Contains commit.change.added row → HasPath (rows_before base) row.path → Contains commit.change.removed row.path
  pub rows : (row : Row) → Contains next.rows row ↔ IsRowAfter (rows_before base) commit.change.removed commit.change.added row
  pub publishable : IsPublishable next
  pub kinds : 0 < end.version → HasOtherKind end.schema next.schema end.partition → ⊥
  pub spells : delta_schema_of (delta_text next.schema) ≡ Ok next.schema

module _ (end : LogEnd) (origin : Origin) (commit : Commit) (written d : DeltaCommit) (w : IsWritten end origin commit written) (same : SameCommit written d)
    (base : Option Table) (next : Table) (before : StandsBefore end base commit next) where
  -- ---- the metadata

  pub again : MetaAgain (meta_of end origin commit) d.meta
  again = meta_again (meta_of end origin commit) d.meta (subst (λ (o : Option MetaData). SameMeta o d.meta) w.meta same.meta)

  pub spelled : delta_schema_of again.again.schema ≡ Ok next.schema
  spelled = ap delta_schema_of (sym again.schema ∙ ap delta_text (sym before.schema)) ∙ before.spells

  pub partition_is : partition_behind d.meta base ≡ next.partition
  partition_is = ap (λ (o : Option MetaData). partition_behind o base) again.is ∙ sym again.partition ∙ sym before.partition

  one_meta : (m : MetaData) → d.meta ≡ Some m → m ≡ again.again
  one_meta m is = let both : Some m ≡ Some again.again = sym is ∙ again.is in cc

  one_schema : (m : MetaData) (s : ColumnTrees) → d.meta ≡ Some m → delta_schema_of m.schema ≡ Ok s → s ≡ next.schema
  one_schema m s is spells =
      let both : Ok s ≡ Ok next.schema = sym spells ∙ ap (λ (n : MetaData). delta_schema_of n.schema) (one_meta m is) ∙ spelled in
      cc

  pub schema_is : IsSchemaBehind d.meta base next.schema
  schema_is = subst (λ (o : Option MetaData). IsSchemaBehind o base next.schema) (sym again.is) spelled

  behind_one : (s : ColumnTrees) → IsSchemaBehind d.meta base s → s ≡ next.schema
  behind_one s h =
      let here : delta_schema_of again.again.schema ≡ Ok s = subst (λ (o : Option MetaData). IsSchemaBehind o base s) again.is h in
      one_schema again.again s again.is here

  -- ---- the partition columns

  pub found : (columns : PartColumns) × ArePartColumns next.schema next.partition columns
  found = columns_there next.schema next.partition before.publishable.partition_kinds

  -- ---- the rows

  fit : (row : Row) → Contains commit.change.added row → FitColumns next.schema next.partition row.values
  fit row there = before.publishable.sound.values row ((before.rows row).1 (inl there))

  module _ (columns : PartColumns) (are : ArePartColumns next.schema next.partition columns) where
    pub added_again : (row : Row) → Contains commit.change.added row → (g : FileAction) × Contains d.files g × AddsRow columns g row
    added_again row there =
        let f = w.files.of_row row there in
        let within : Contains written.files f.0 = subst (λ (l : List FileAction). Contains l f.0) (sym w.files.split) (Contains-append_right w.files.removes w.files.adds f.0 f.1) in
        let g = again_of written.files d.files f.0 same.files within in
        (g.0, g.1, adds_again next.schema next.partition columns are before.publishable.partition_distinct row (fit row there) f.0 g.0 (subst (λ (p : List (List ℕ)). IsAddOf p row f.0) (sym before.partition) f.2) g.2)

    pub added_from : (g : FileAction) (row : Row) → Contains d.files g → AddsRow columns g row → Contains commit.change.added row
    added_from g row there adds =
        let f = again_from written.files d.files g same.files there in
        let within : Contains (w.files.removes ++ w.files.adds) f.0 = subst (λ (l : List FileAction). Contains l f.0) w.files.split f.1 in
        ⊎_elim
        (λ (left : Contains w.files.removes f.0).
        let gone = (w.files.gone f.0).0 left in
        absurd (removes_nothing columns gone.0 g row (subst (λ (z : FileAction). SameFile z g) gone.2 f.2) adds))
        (λ (right : Contains w.files.adds f.0).
        let from = w.files.from_row f.0 right in
        let add : IsAddOf next.partition from.0 f.0 = subst (λ (p : List (List ℕ)). IsAddOf p from.0 f.0) (sym before.partition) from.2 in
        let here = adds_again next.schema next.partition columns are before.publishable.partition_distinct from.0 (fit from.0 from.1) f.0 g add f.2 in
        subst (λ (r : Row). Contains commit.change.added r) (sym (only_row next.schema next.partition columns are before.publishable.partition_distinct from.0 (fit from.0 from.1) g row here adds)) from.1)
        (Contains-append_cases w.files.removes w.files.adds f.0 within)

    -- ---- paths with an action

    acts_there : (f : FileAction) → Contains written.files f → ActsOn (file_path f) d
    acts_there f there = subst (λ (l : List (List ℕ)). Contains l (file_path f)) (same_paths written.files d.files same.files) (path_there f written.files there)

    acts_on_added : (row : Row) → Contains commit.change.added row → ActsOn row.path d
    acts_on_added row there =
        let f = w.files.of_row row there in
        let within : Contains written.files f.0 = subst (λ (l : List FileAction). Contains l f.0) (sym w.files.split) (Contains-append_right w.files.removes w.files.adds f.0 f.1) in
        subst (λ (p : List ℕ). ActsOn p d) (ap file_path f.2.is) (acts_there f.0 within)

    acts_on_gone : (path : List ℕ) → IsGone commit.change path → ActsOn path d
    acts_on_gone path gone =
        let there = (w.files.gone (file.Remove path)).1 (path, gone, refl) in
        acts_there (file.Remove path) (subst (λ (l : List FileAction). Contains l (file.Remove path)) (sym w.files.split) (Contains-append_left w.files.removes w.files.adds (file.Remove path) there))

    -- a path with an action is gone or added
    acts_from : (path : List ℕ) → ActsOn path d → IsGone commit.change path ⊎ HasPath commit.change.added path
    acts_from path acts =
        let f = path_from path written.files (subst (λ (l : List (List ℕ)). Contains l path) (sym (same_paths written.files d.files same.files)) acts) in
        ⊎_elim
        (λ (left : Contains w.files.removes f.0). let gone = (w.files.gone f.0).0 left in inl (subst (λ (p : List ℕ). IsGone commit.change p) (sym (ap file_path gone.2) ∙ f.2) gone.1))
        (λ (right : Contains w.files.adds f.0). let from = w.files.from_row f.0 right in inr (from.0, from.1, sym (ap file_path from.2.is) ∙ f.2))
        (Contains-append_cases w.files.removes w.files.adds f.0 (subst (λ (l : List FileAction). Contains l f.0) w.files.split f.1))

    pub rows_are : AreRowsBehind columns (rows_before base) d next.rows
    rows_are = record {
      distinct = before.publishable.sound.distinct;
      rows = λ row. (
        λ there. ⊎_elim
            (λ (added : Contains commit.change.added row). inl (added_again row added))
            (λ (kept : Contains (rows_before base) row × ¬ Contains commit.change.removed row.path). inr (
              kept.0,
              λ acts. ⊎_elim
                  (λ (gone : IsGone commit.change row.path). kept.1 gone.0)
                  (λ (added : HasPath commit.change.added row.path). kept.1 (subst (λ (p : List ℕ). Contains commit.change.removed p) added.2 (before.new added.0 added.1 (row, kept.0, sym added.2))))
                  (acts_from row.path acts),
            ))
            ((before.rows row).0 there),
        λ behind. (before.rows row).1 (⊎_elim
            (λ (adds : (f : FileAction) × Contains d.files f × AddsRow columns f row). inl (added_from adds.0 row adds.1 adds.2))
            (λ (kept : Contains (rows_before base) row × ¬ ActsOn row.path d). inr (kept.0, λ removed. kept.1 (acts_on_gone row.path (removed, λ added. kept.1 (subst (λ (p : List ℕ). ActsOn p d) added.2 (acts_on_added added.0 added.1))))))
            behind),
      );
    }

    -- an add of the commit adds a row
    adds_some : (g : FileAction) (column : List ℕ × PartKind) → Contains d.files g → SpellsNoValue column g → (row : Row) × AddsRow columns g row
    adds_some g column there none =
        let f = again_from written.files d.files g same.files there in
        let within : Contains (w.files.removes ++ w.files.adds) f.0 = subst (λ (l : List FileAction). Contains l f.0) w.files.split f.1 in
        ⊎_elim
        (λ (left : Contains w.files.removes f.0).
        let gone = (w.files.gone f.0).0 left in
        absurd (removes_spell column gone.0 g (subst (λ (z : FileAction). SameFile z g) gone.2 f.2) none))
        (λ (right : Contains w.files.adds f.0).
        let from = w.files.from_row f.0 right in
        let add : IsAddOf next.partition from.0 f.0 = subst (λ (p : List (List ℕ)). IsAddOf p from.0 f.0) (sym before.partition) from.2 in
        (from.0, adds_again next.schema next.partition columns are before.publishable.partition_distinct from.0 (fit from.0 from.1) f.0 g add f.2))
        (Contains-append_cases w.files.removes w.files.adds f.0 within)

    pub no_other_value : HasOtherValue d base → ⊥
    no_other_value h =
        let schema : h.0 ≡ next.schema = behind_one h.0 h.2 in
        let theirs : ArePartColumns next.schema next.partition h.1 = subst (λ (p : List (List ℕ)). ArePartColumns next.schema p h.1) partition_is (subst (λ (s : ColumnTrees). ArePartColumns s (partition_behind d.meta base) h.1) schema h.3) in
        let one : h.1 ≡ columns = one_columns next.schema next.partition h.1 columns theirs are in
        let row = adds_some h.4 h.5 h.6 h.8 in
        spells_some columns h.4 row.0 h.5 row.1 (subst (λ (cs : PartColumns). Contains cs h.5) one h.7) h.8

  -- ---- the grammar

  pub protocol_is : d.protocol ≡ protocol_due end.version end.ntz (have_ntz (schema_behind end commit.change))
  protocol_is = sym same.protocol ∙ w.protocol

  pub meta_partition : (m : MetaData) → d.meta ≡ Some m → m.partition ≡ next.partition
  meta_partition m is = ap (λ (n : MetaData). n.partition) (one_meta m is) ∙ sym again.partition ∙ sym before.partition

  spells_it : (m : MetaData) → d.meta ≡ Some m → delta_schema_of m.schema ≡ Ok next.schema
  spells_it m is = ap (λ (n : MetaData). delta_schema_of n.schema) (one_meta m is) ∙ spelled

  pub in_grammar : IsOutsideGrammar d base → ⊥
  in_grammar (inl lacks) =
      let first = before.first lacks.0 in
      ⊎_elim
      (λ (none : d.protocol ≡ None). due_first (have_ntz (schema_behind end commit.change)) ((λ i. protocol_due (sym first.0 i) (sym first.1 i) (have_ntz (schema_behind end commit.change))) ∙ sym protocol_is ∙ none))
      (λ (none : d.meta ≡ None). let both : Some again.again ≡ None = sym again.is ∙ none in absurd (cc))
      lacks.1
  in_grammar (inr (inl bad)) = spelled_good bad.0.schema next.schema (spells_it bad.0 bad.1) bad.2
  in_grammar (inr (inr stray)) =
      let name : Contains next.partition stray.1 = subst (λ (p : List (List ℕ)). Contains p stray.1) (meta_partition stray.0 stray.2) stray.3 in
      let kind = before.publishable.partition_kinds stray.1 name in
      let both : Some kind.0 ≡ None = sym kind.2 ∙ spelled_field stray.0.schema next.schema (spells_it stray.0 stray.2) stray.1 stray.4 in
      absurd (cc)

  -- ---- the features

  no_other_reader : HasOtherReader d → ⊥
  no_other_reader h =
      ⊎_elim
      (λ (plain : plain_protocol ≡ h.0). h.2 (sym (ap (λ (p : Protocol). p.reader) plain)))
      (λ (ntz : ntz_protocol ≡ h.0). h.4 (sym (ap (λ (p : Protocol). p.reader) ntz)))
      (due_is end.version end.ntz (have_ntz (schema_behind end commit.change)) h.0 (sym protocol_is ∙ h.1))

  no_other_feature : NeedsOtherFeature d → ⊥
  no_other_feature h =
      ⊎_elim
      (λ (plain : plain_protocol ≡ h.0). let both : None ≡ Some h.1 = ap (λ (p : Protocol). p.reader_features) plain ∙ h.5 in absurd (cc))
      (λ (ntz : ntz_protocol ≡ h.0).
      let both : Some (ntz_feature ∷ []) ≡ Some h.1 = ap (λ (p : Protocol). p.reader_features) ntz ∙ h.5 in
      let names : ntz_feature ∷ [] ≡ h.1 = cc in
      h.7 (one_feature h.1 h.2 names h.6))
      (due_is end.version end.ntz (have_ntz (schema_behind end commit.change)) h.0 (sym protocol_is ∙ h.3))

  no_mapping : MapsColumns d → ⊥
  no_mapping h =
      let one : h.0 ≡ again.again = one_meta h.0 h.2 in
      let settings : again.again.configuration ≡ (mark_setting, compact_text (mark_data (mark_of end origin commit.position))) ∷ [] = only_setting (mark_setting, compact_text (mark_data (mark_of end origin commit.position))) again.again.configuration again.settings in
      other_setting (compact_text (mark_data (mark_of end origin commit.position))) h.1 h.0.configuration (ap (λ (m : MetaData). m.configuration) one ∙ settings) h.3

  no_other_partition : HasOtherPartition d base → ⊥
  no_other_partition h =
      let schema : h.0 ≡ next.schema = behind_one h.0 h.1 in
      let lacks : LacksKinds next.schema next.partition = subst (λ (p : List (List ℕ)). LacksKinds next.schema p) partition_is (subst (λ (s : ColumnTrees). LacksKinds s (partition_behind d.meta base)) schema h.2) in
      ⊎_elim
      (λ twice. twice before.publishable.partition_distinct)
      (λ (none : (name : List ℕ) × Contains next.partition name × (column_kind next.schema name ≡ None)).
      let kind = column_kind_there next.schema none.0 (before.publishable.partition_kinds none.0 none.1) in
      let both : Some kind.0 ≡ None = sym kind.1 ∙ none.2 in
      absurd (cc))
      lacks

  no_change : ChangesPartition d base → ⊥
  no_change h =
      let held = before.held h.0 h.3 in
      let partition : h.1.partition ≡ next.partition = meta_partition h.1 h.4 in
      let schema : h.2 ≡ next.schema = one_schema h.1 h.2 h.4 h.5 in
      ⊎_elim
      (λ other. other (partition ∙ before.partition ∙ sym held.1))
      (λ kinds. before.kinds held.2 (subst (λ (p : List (List ℕ)). HasOtherKind end.schema next.schema p) (partition ∙ before.partition) (subst (λ (s : ColumnTrees). HasOtherKind end.schema s h.1.partition) schema (subst (λ (s : ColumnTrees). HasOtherKind s h.2 h.1.partition) held.0 kinds))))
      h.6

  -- ---- the step

  pub step : IsStep d base next
  step = record {
    grammar = in_grammar;
    supported = (no_other_reader, (no_other_feature, (no_mapping, ((λ type. spelled_type type.0.schema next.schema (spells_it type.0 type.2) type.1 type.3), (no_other_partition, (no_change, (no_other_value found.0 found.1, tt)))))));
    schema = schema_is;
    partition = sym partition_is;
    columns = found.0;
    kinds = found.1;
    rows = rows_are found.0 found.1;
  }
