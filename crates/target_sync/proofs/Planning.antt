-- A plan of what is due to a target.
use Rattle.std.proofs.Common.{◌≡◌, inl, inr, ◌<◌, ℕ, true, false, List, [], ◌∷◌, length, Option, Some, None, refl, sym, ap, subst, ◌∙◌}
use Rattle.std.specs.Prelude.{IfErr, Result, Ok, Err}
use Rattle.lake_store.specs.Disk.{Files}
use Rattle.source_core.specs.Answers.{IsReadRefusal}
use Rattle.source_core.specs.Since.{CanApplyAll}
use Rattle.source_core.specs.declared.error.SourceError.{SourceError}
use Rattle.source_core.specs.declared.head.Head.{Head}
use Rattle.source_core.specs.declared.since.Since.TheVariants.{Commits}
use Rattle.table_history.specs.Tables.{SameTable}
use Rattle.table_history.specs.TypeTree.{ColumnTrees}
use Rattle.table_history.specs.declared.kind.Kind.{Kind}
use Rattle.table_history.specs.declared.table.Commit.{Commit}
use Rattle.table_history.specs.declared.table.Table.{Table}
use Rattle.table_history.proofs.SameTableLemmas.{same_itself}
use Rattle.target_core.specs.Conditions.{CanPublishAll, GoesOn, IsPublishable}
use Rattle.target_core.specs.Views.{IsOfSource, IsUnpublished, Origin, View, absent}
use Rattle.target_sync.specs.Answered.{IsPlanRefusal, IsReadFault}
use Rattle.target_sync.specs.Applied.{answer_of_source}
use Rattle.target_sync.specs.Dues.{AreSinceMark, IsIdBehind, IsInFull, IsMarked, IsSinceFault, IsWhole, TakesCommits}
use Rattle.target_sync.specs.Plans.{IsDuePlan, IsFound, IsFoundInFull, IsFoundOfSource, IsFoundOurs, IsFullPlan, IsSinceMark, IsSincePlan, IsSoundPlan, IsStartOf}
use Rattle.target_sync.specs.Sources.{HasHead, SourceMeaning}
use Rattle.target_sync.specs.Targets.{IsStart, TargetFacts}
use Rattle.target_sync.specs.declared.plan.Mode.{Mode}
use Rattle.target_sync.specs.declared.plan.Mode.TheVariants as modes
use Rattle.target_sync.specs.declared.plan.Plan.{Plan}
use Rattle.target_sync.proofs.Histories.{id_whole, not_marked, unmarked}
use Rattle.target_sync.proofs.Running.{can_publish_since}

unpublished : (view : View) (partition : List (List ℕ)) → view ≡ absent partition → IsUnpublished view × (view.table.partition ≡ partition)
unpublished view partition is =
    let columns : view.table.partition ≡ partition = ap (λ (v : View). v.table.partition) is in
    (is ∙ ap absent (sym columns), columns)

module _ {K : Type 0} (view : K → View) (reads : Files → View → Type 0) (stands_for : K → Files → Type 0) where
  pub start_found : (source : Kind) (found : Option K) (partition : List (List ℕ)) (kept : K) → IsFoundOurs view source found → IsStartOf view reads stands_for found partition kept → IsStart source partition (view kept)
  start_found source None partition kept ours start = inl (unpublished (view kept) partition start.0)
  start_found source (Some found) partition kept ours start = inr (subst (λ (k : K). IsOfSource source (view k) × (0 < (view k).commits)) (sym start) ours)

  -- what is started from is gone on from
  pub goes_on_found : (source : Kind) (found : Option K) (partition : List (List ℕ)) (kept : K) → IsFoundOfSource view source found → IsStartOf view reads stands_for found partition kept → GoesOn source (view kept)
  goes_on_found source None partition kept ours start = inl (unpublished (view kept) partition start.0).0
  goes_on_found source (Some found) partition kept ours start = inr (subst (λ (k : K). IsOfSource source (view k)) (sym start) ours)

  -- without a mark the commits after it aren't taken
  pub not_taken_found : (source : SourceMeaning) (mode : Mode) (files : Files) (found : Option K) (partition : List (List ℕ)) (kept : K) → IsFoundInFull view source mode files found → IsStartOf view reads stands_for found partition kept
      → TakesCommits source mode files (view kept) → ⊥
  not_taken_found source mode files None partition kept full start takes = not_marked (view kept) (IsWhole source files) (unmarked (view kept) (unpublished (view kept) partition start.0).0) takes.1
  not_taken_found source mode files (Some found) partition kept full start takes = full (subst (λ (k : K). TakesCommits source mode files (view k)) start takes)

  pub stands_found : (files : Files) (found : Option K) (partition : List (List ℕ)) (kept : K) → IsFound reads stands_for files found → IsStartOf view reads stands_for found partition kept → stands_for kept files
  stands_found files None partition kept is start = start.1 files is
  stands_found files (Some found) partition kept is start = subst (λ (k : K). stands_for k files) (sym start) is

-- ---- refusals

-- another cause
pub if_err_as : {X : Type 0} (P Q : SourceError → Type 0) → ((e : SourceError) → P e → Q e) → (r : Result X SourceError) → IfErr r P → IfErr r Q
if_err_as P Q from (Ok value) is = is
if_err_as P Q from (Err e) is = from e is

-- a source's refusal, as that of planning
pub plan_refusal : {X : Type 0} (source : SourceMeaning) (target : TargetFacts) (mode : Mode) (files : Files) (r : Result X SourceError) → IfErr r (IsReadRefusal (IsReadFault source target mode files)) → IfErr (answer_of_source r) (IsPlanRefusal source target mode files)
plan_refusal source target mode files (Ok value) is = is
plan_refusal source target mode files (Err e) is = inr (e, refl, is)

-- what reading in full shows is what a sync that takes the whole table reads
pub full_fault : (source : SourceMeaning) (target : TargetFacts) (mode : Mode) (files : Files) (view : View) → HasHead source files → target.files.reads files view → GoesOn source.kind view → (TakesCommits source mode files view → ⊥)
    → (e : SourceError) → source.from_scratch files e → IsReadFault source target mode files e
full_fault source target mode files view has reads on not e fault = (has, (view, reads, (on, inr (not, fault))))

pub since_fault : (source : SourceMeaning) (target : TargetFacts) (files : Files) (view : View) → HasHead source files → target.files.reads files view → GoesOn source.kind view → (e : SourceError) → IsSinceFault source files view e → IsReadFault source target modes.Sync files e
since_fault source target files view has reads on e fault = (has, (view, reads, (on, inl (refl, fault))))

pub absent_fault : (source : SourceMeaning) (target : TargetFacts) (mode : Mode) (files : Files) → HasHead source files → target.files.reads files (absent []) → (e : SourceError) → source.from_scratch files e → IsReadFault source target mode files e
absent_fault source target mode files has reads e fault = full_fault source target mode files (absent []) has reads (inl refl) (λ takes. not_marked (absent []) (IsWhole source files) refl takes.1) e fault

-- ---- plans

-- One commit with the whole table is sound, and due where the commits since the mark aren't taken.
module _ {K : Type 0} (view : K → View) (stands_for : K → Files → Type 0) (source : SourceMeaning) (mode : Mode) (head : Head) (table : Table) (kept : K) (id : Option (List ℕ)) (plan : Plan K) (is : IsFullPlan view head table id kept plan) where
  pub full_sound : (image : ColumnTrees → Option ColumnTrees) (kind : Kind) → IsStart kind table.partition (view kept) → IsSoundPlan view image kind mode plan
  full_sound image kind start =
      let origin : Origin = record { source = kind; table = plan.table } in
      record {
        can = record {
          start = subst (λ (names : List (List ℕ)). IsStart kind names (view plan.kept)) (sym is.partition) (subst (λ (k : K). IsStart kind table.partition (view k)) (sym is.is_kept) start);
          can = λ columns.
              let same : (view kept).table.partition ≡ table.partition = subst (λ (k : K). (view k).table.partition ≡ plan.partition) is.is_kept columns ∙ is.partition in
              subst (λ (cs : List Commit). CanPublishAll image origin (view plan.kept) cs) (sym is.commits)
              (subst (λ (k : K). CanPublishAll image origin (view k) (is.commit ∷ [])) (sym is.is_kept) (is.can same, λ next step. tt));
        };
        one = λ full. ap (λ (cs : List Commit). length cs) is.commits;
        way = λ full. is.full;
        since = λ since. let no : true ≡ false = sym is.full ∙ since in absurd (cc no);
      }

  pub full_due : (files : Files) → stands_for kept files → source.is_table files table → IsIdBehind source files (view kept) head.table id → (TakesCommits source mode files (view kept) → ⊥) → IsDuePlan view stands_for source mode files head plan
  full_due files stands is_table is_id not =
      let Due : K → Type 0 = λ k. IsInFull source mode files (view k) head plan.partition plan.commits plan.full in
      let due : Due kept = record {
        not_since = not;
        table = table;
        is_table = is_table;
        commit = is.commit;
        only = is.commits;
        position = is.position;
        change = is.change;
        leads = is.leads;
        columns = is.partition;
        way = is.full;
      } in
      record {
        stands = subst (λ (k : K). stands_for k files) (sym is.is_kept) stands;
        is_id = subst (λ (k : K). IsIdBehind source files (view k) head.table plan.table) (sym is.is_kept) (subst (λ (o : Option (List ℕ)). IsIdBehind source files (view kept) head.table o) (sym is.id) is_id);
        way = inr (subst Due (sym is.is_kept) due);
      }

-- The commits since the mark are sound, and due.
module _ {K : Type 0} (view : K → View) (stands_for : K → Files → Type 0) (source : SourceMeaning) (head : Head) (kept : K) (commits : List Commit) (plan : Plan K) (is : IsSincePlan view head kept commits plan) where
  pub since_sound : (image : ColumnTrees → Option ColumnTrees) (kind : Kind)
      → ((table : Table) (held : ColumnTrees) → image table.schema ≡ Some held → IsPublishable table → IsPublishable (record { schema = held; partition = table.partition; rows = table.rows }))
      → IsOfSource kind (view kept) × (0 < (view kept).commits) → CanApplyAll (view kept).table commits → IsSoundPlan view image kind modes.Sync plan
  since_sound image kind held ours can =
      let origin : Origin = record { source = kind; table = plan.table } in
      record {
        can = record {
          start = inr (subst (λ (k : K). IsOfSource kind (view k) × (0 < (view k).commits)) (sym is.is_kept) ours);
          can = λ columns.
              subst (λ (cs : List Commit). CanPublishAll image origin (view plan.kept) cs) (sym is.commits)
              (subst (λ (k : K). CanPublishAll image origin (view k) commits) (sym is.is_kept) (can_publish_since image origin held (view kept) commits can));
        };
        one = λ full. let no : false ≡ true = sym is.full ∙ full in absurd (cc no);
        way = λ full. absurd (cc full);
        since = λ since. subst (λ (cs : List Commit). CanApplyAll (view plan.kept).table cs) (sym is.commits) (subst (λ (k : K). CanApplyAll (view k).table commits) (sym is.is_kept) can);
      }

  pub since_due : (files : Files) → stands_for kept files → IsSinceMark source files (view kept) (Commits commits) → IsDuePlan view stands_for source modes.Sync files head plan
  since_due files stands told =
      let whole : IsMarked (view kept) (IsWhole source files) = (told.0, told.1, told.2.0) in
      let Due : K → Type 0 = λ k. AreSinceMark source modes.Sync files (view k) plan.partition plan.commits plan.full in
      let base : Table = (view kept).table in
      let same : SameTable base base = same_itself base in
      let due : Due kept = record {
        sync = refl;
        marked = (told.0, told.1, (told.2.0, (base, same, subst (λ (cs : List Commit). source.is_since files told.0.to base cs) (sym is.commits) told.2.1)));
        columns = is.partition;
        way = is.full;
      } in
      record {
        stands = subst (λ (k : K). stands_for k files) (sym is.is_kept) stands;
        is_id = subst (λ (k : K). IsIdBehind source files (view k) head.table plan.table) (sym is.is_kept)
            (subst (λ (o : Option (List ℕ)). IsIdBehind source files (view kept) head.table o) (sym is.id) (id_whole source files (view kept) head.table whole));
        way = inl (subst Due (sym is.is_kept) due);
      }
