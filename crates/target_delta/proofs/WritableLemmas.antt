-- What is written for a change may be written: its actions are on distinct paths of the table, and aren't too many.
use Rattle.std.proofs.Common.{◌≡◌, ⊎_elim, ℕ, suc, ◌≤◌, Bool, false, List, [], ◌∷◌, ◌++◌, length, All, Contains, Option, Some, None, refl, sym, ap, subst, ◌∙◌, arith}
use Rattle.std.specs.Prelude.{IfSome}
use Rattle.std.specs.List.{IsDistinct}
use Rattle.std.specs.Str.{bytes_eq}
use Rattle.std.proofs.lemmas.Bool.{false≢true}
use Rattle.std.proofs.lemmas.List.{length-append}
use Rattle.lake_basics.specs.declared.limits.TheConstants.{MAX_ACTIONS, MAX_LIVE_FILES}
use Rattle.lake_basics.proofs.Texts.{fewer}
use Rattle.table_history.specs.Row.{Row}
use Rattle.table_history.specs.Rows.{HasPath, paths_of}
use Rattle.table_history.specs.declared.table.Change.{Change}
use Rattle.table_history.proofs.RowListLemmas.{Contains-paths}
use Rattle.table_history.proofs.TableLemmas.{distinct_order}
use Rattle.delta_log.specs.Commit.{file_path, file_paths}
use Rattle.delta_log.proofs.FilePathLemmas.{paths_append}
use Rattle.delta_log.specs.Sound.{HasNeededFeatures, HaveDistinctNames, IsSoundFile, IsWritable}
use Rattle.delta_log.specs.declared.commit.DeltaCommit.{DeltaCommit}
use Rattle.delta_log.specs.declared.commit.FileAction.{FileAction}
use Rattle.delta_log.specs.declared.commit.MetaData.{MetaData}
use Rattle.delta_log.specs.declared.commit.Protocol.{Protocol}
use Rattle.target_core.specs.declared.mark.Mark.{Mark}
use Rattle.serde_json.specs.Written.{compact_text}
use Rattle.target_core.specs.Changes.{IsGone}
use Rattle.target_core.specs.Mark.{mark_data}
use Rattle.target_core.proofs.RowPaths.{rows_length}
use Rattle.target_delta.specs.Reading.{mark_setting}
use Rattle.target_delta.specs.NewVersion.{IsWrittenOf}
use Rattle.target_delta.specs.Writing.{AreActions, LeavesAdded, have_ntz, ntz_protocol, plain_protocol, protocol_due}
use Rattle.target_delta.specs.declared.kept.DeltaKept.{DeltaKept}
use Rattle.target_delta.proofs.StepLemmas.{due_is, path_from}
use Rattle.delta_live.proofs.BehindLemmas.{distinct_both}

-- ---- the actions

paths_length : (fs : List FileAction) → length (file_paths fs) ≡ length fs
paths_length [] = refl
paths_length (f ∷ fs) = ap suc (paths_length fs)

module _ (partition : List (List ℕ)) (change : Change) (files : List FileAction) (are : AreActions partition change files) where
  remove_gone : (path : List ℕ) → Contains (file_paths are.removes) path → IsGone change path
  remove_gone path there =
      let from = path_from path are.removes there in
      let gone = (are.gone from.0).0 from.1 in
      subst (λ (p : List ℕ). IsGone change p) (sym (ap file_path gone.2) ∙ from.2) gone.1

  add_added : (path : List ℕ) → Contains (file_paths are.adds) path → HasPath change.added path
  add_added path there =
      let from = path_from path are.adds there in
      let row = are.from_row from.0 from.1 in
      (row.0, row.1, sym (ap file_path row.2.is) ∙ from.2)

  paths_are : file_paths files ≡ file_paths are.removes ++ file_paths are.adds
  paths_are = ap file_paths are.split ∙ paths_append are.removes are.adds

  pub actions_distinct : IsDistinct bytes_eq (file_paths files)
  actions_distinct = subst (λ (l : List (List ℕ)). IsDistinct bytes_eq l) (sym paths_are)
      (distinct_both (file_paths are.removes) (file_paths are.adds) (distinct_order (file_paths are.removes) are.removes_order) (distinct_order (file_paths are.adds) are.adds_order)
      (λ path removed added. (remove_gone path removed).1 (add_added path added)))

  pub actions_few : (rows : List Row) → LeavesAdded change.added rows → length rows ≤ MAX_LIVE_FILES → length change.removed ≤ MAX_LIVE_FILES → length files ≤ MAX_ACTIONS
  actions_few rows leaves few gone =
      let removes = fewer (file_paths are.removes) change.removed (distinct_order (file_paths are.removes) are.removes_order) (λ path there. (remove_gone path there).0) in
      let adds = fewer (file_paths are.adds) (paths_of rows) (distinct_order (file_paths are.adds) are.adds_order)
      (λ path there. let row = add_added path there in subst (λ (p : List ℕ). Contains (paths_of rows) p) row.2 (Contains-paths rows row.0 (leaves row.0 row.1))) in
      let all = ap length are.split in
      omega (arith, removes, adds, few, gone, all, length-append are.removes are.adds, paths_length are.removes, paths_length are.adds, rows_length rows)

-- ---- the commit

plain_needed : HasNeededFeatures plain_protocol
plain_needed three = absurd (false≢true three)

ntz_needed : HasNeededFeatures ntz_protocol
ntz_needed three = refl

needed : (version : ℕ) (named has : Bool) → IfSome (protocol_due version named has) HasNeededFeatures
needed version named has = go (protocol_due version named has) refl
  where
    go : (o : Option Protocol) → protocol_due version named has ≡ o → IfSome o HasNeededFeatures
    go None is = tt
    go (Some p) is = ⊎_elim
        (λ (plain : plain_protocol ≡ p). subst HasNeededFeatures plain plain_needed)
        (λ (ntz : ntz_protocol ≡ p). subst HasNeededFeatures ntz ntz_needed)
        (due_is version named has p is)

module _ (behind : DeltaKept) (change : Change) (mark : Mark) (written : DeltaCommit) (is : IsWrittenOf behind change mark written) where
  one_name : (o : Option MetaData) (m : MetaData) → o ≡ Some m → HaveDistinctNames m.configuration → IfSome o (λ n. HaveDistinctNames n.configuration)
  one_name None m same distinct = absurd (cc)
  one_name (Some n) m same distinct = let one : m ≡ n = cc in subst (λ (x : MetaData). HaveDistinctNames x.configuration) one distinct

  only_name : HaveDistinctNames ((mark_setting, compact_text (mark_data mark)) ∷ [])
  unfolding IsDistinct
  only_name = (tt, tt)

  pub writable : All IsSoundFile written.files → LeavesAdded change.added behind.table.rows → length behind.table.rows ≤ MAX_LIVE_FILES → length change.removed ≤ MAX_LIVE_FILES → IsWritable written
  writable sound leaves few gone = record {
    sound = record {
      files = sound;
      distinct = actions_distinct behind.table.partition change written.files is.files;
      configuration = one_name written.meta _ is.meta only_name;
    };
    protocol = subst (λ (o : Option Protocol). IfSome o HasNeededFeatures) (sym is.protocol) (needed behind.commits behind.names_ntz (have_ntz behind.table.schema));
    few = actions_few behind.table.partition change written.files is.files behind.table.rows leaves few gone;
  }
