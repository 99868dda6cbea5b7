-- The commits that are planned for one target are due to another one of the same table at the same position.
use Rattle.std.proofs.Common.{◌≡◌, inl, inr, ⊎_elim, ◌<◌, ℕ, true, false, List, [], Contains, Option, Some, None, sym, ap, subst, ◌∙◌}
use Rattle.lake_store.specs.Disk.{Files}
use Rattle.source_core.specs.declared.head.Head.{Head}
use Rattle.table_history.specs.Rows.{SameRows}
use Rattle.table_history.specs.Tables.{LeadsTo}
use Rattle.table_history.specs.TypeTree.{ColumnTrees}
use Rattle.table_history.specs.declared.kind.Kind.{Kind}
use Rattle.table_history.specs.declared.row.FileRow.{FileRow}
use Rattle.table_history.specs.declared.table.Commit.{Commit}
use Rattle.table_history.specs.declared.table.Table.{Table}
use Rattle.table_history.proofs.RowListLemmas.{Contains-none}
use Rattle.table_history.proofs.SameTableLemmas.{same_table_back, same_through}
use Rattle.target_core.specs.Conditions.{IsPublishable}
use Rattle.target_core.specs.Views.{IsOfSource, Standing, View}
use Rattle.target_sync.specs.Dues.{AreSinceMark, IsIdBehind, IsInFull, IsWhole, TakesCommits}
use Rattle.target_sync.specs.Plans.{IsDuePlan, IsSincePlan, IsSoundPlan}
use Rattle.target_sync.specs.Shared.{IsDueToo, IsNotReachedToo}
use Rattle.target_sync.specs.Sources.{SourceMeaning}
use Rattle.target_sync.specs.Targets.{IsStart}
use Rattle.target_sync.specs.declared.plan.Mode.{Mode}
use Rattle.target_sync.specs.declared.plan.Plan.{Plan}
use Rattle.target_sync.proofs.Histories.{id_whole, one_standing, unmarked}
use Rattle.target_sync.proofs.Planning.{since_sound}
use Rattle.target_sync.proofs.Running.{can_apply_all_same}

-- what changes nothing leads to the same rows
pub same_rows : (held rows : List FileRow) (removed : List (List ℕ)) (added : List FileRow) → LeadsTo held removed added rows → removed ≡ [] → added ≡ [] → SameRows held rows
same_rows held rows removed added leads no_removed no_added row = (
  λ there. (leads row).0 (inr (there, λ gone. Contains-none row.path (subst (λ (l : List (List ℕ)). Contains l row.path) no_removed gone))),
  λ there. ⊎_elim (λ (new : Contains added row). absurd (Contains-none row (subst (λ (l : List FileRow). Contains l row) no_added new))) (λ (old : Contains held row × ¬ Contains removed row.path). old.0) ((leads row).1 there),
)

module _ {K L : Type 0} (view : K → View) (other : L → View) (source : SourceMeaning) (mode : Mode) (head : Head) (first : Plan K) (kept : L) (too : IsDueToo view other head first kept) (plan : Plan L) (is : IsSincePlan other head kept first.commits plan) where
  pub shared_sound : (image own_image : ColumnTrees → Option ColumnTrees) (kind : Kind) → IsSoundPlan view image kind mode first
      → ((table : Table) (held : ColumnTrees) → own_image table.schema ≡ Some held → IsPublishable table → IsPublishable (record { schema = held; partition = table.partition; rows = table.rows }))
      → IsOfSource kind (other kept) × (0 < (other kept).commits) → IsSoundPlan other own_image kind mode plan
  shared_sound image own_image kind sound held ours =
      let can = can_apply_all_same (view first.kept).table (other kept).table (same_table_back (other kept).table (view first.kept).table too.table) first.commits (sound.since too.since) in
      let own = since_sound other (λ k files. ⊥) source head kept first.commits plan is own_image kind held ours can in
      record {
        can = own.can;
        one = own.one;
        way = λ full. let no : false ≡ true = sym too.since ∙ sound.way full in absurd (cc no);
        since = own.since;
      }

  pub shared_due : (files : Files) (stands : K → Files → Type 0) (stands_other : L → Files → Type 0) → source.is_head files head → IsDuePlan view stands source mode files head first
      → stands_other kept files → IsOfSource source.kind (other kept) → IsDuePlan other stands_other source mode files head plan
  shared_due files stands stands_other is_head due stands_here ours =
      ⊎_elim
      (λ (since : AreSinceMark source mode files (view first.kept) first.partition first.commits first.full). moved since)
      (λ (whole : IsInFull source mode files (view first.kept) head first.partition first.commits first.full). let no : false ≡ true = sym too.since ∙ whole.way in absurd (cc no))
      due.way
    where
      moved : AreSinceMark source mode files (view first.kept) first.partition first.commits first.full → IsDuePlan other stands_other source mode files head plan
      moved since =
          let marks = too.marks in
          let standing = marks.other_standing in
          let one : since.marked.0 ≡ marks.standing = one_standing (view first.kept) since.marked.0 marks.standing since.marked.1 marks.mark in
          let position : since.marked.0.to ≡ standing.to = ap (λ (s : Standing). s.to) one ∙ sym marks.position in
          let format : standing.origin.source ≡ source.kind = ap (λ (s : Standing). s.origin.source) (one_standing (other kept) standing ours.0 marks.other_mark ours.1) ∙ ours.2 in
          let whole : IsWhole source files standing = (
            record { format = format; head = head; is_head = is_head; table = marks.other_table },
            subst (λ (p : List ℕ). source.reaches files p) position since.marked.2.0.1,
          ) in
          let base : Table = since.marked.2.1.0 in
          let Due : L → Type 0 = λ k. AreSinceMark source mode files (other k) plan.partition plan.commits plan.full in
          let due_here : Due kept = record {
            sync = since.sync;
            marked = (
              standing,
              marks.other_mark,
              (
                whole,
                (
                  base,
                  same_through (other kept).table (view first.kept).table base too.table since.marked.2.1.1,
                  subst (λ (cs : List Commit). source.is_since files standing.to base cs) (sym is.commits) (subst (λ (p : List ℕ). source.is_since files p base first.commits) position since.marked.2.1.2),
                ),
              ),
            );
            columns = is.partition;
            way = is.full;
          } in
          record {
            stands = subst (λ (k : L). stands_other k files) (sym is.is_kept) stands_here;
            is_id = subst (λ (k : L). IsIdBehind source files (other k) head.table plan.table) (sym is.is_kept)
                (subst (λ (o : Option (List ℕ)). IsIdBehind source files (other kept) head.table o) (sym is.id) (id_whole source files (other kept) head.table (standing, marks.other_mark, whole)));
            way = inl (subst Due (sym is.is_kept) due_here);
          }

-- The history since a position isn't whole for the other target too.
pub not_taken_too : {K L : Type 0} (view : K → View) (other : L → View) (source : SourceMeaning) (mode : Mode) (head : Head) (first : Plan K) (kept : L) → IsNotReachedToo view other head mode first kept → (files : Files) (stands : K → Files → Type 0)
    → source.is_head files head → (image : ColumnTrees → Option ColumnTrees) → IsSoundPlan view image source.kind mode first → IsDuePlan view stands source mode files head first → TakesCommits source mode files (other kept) → ⊥
not_taken_too view other source mode head first kept too files stands is_head image sound due takes =
    ⊎_elim
    (λ (since : AreSinceMark source mode files (view first.kept) first.partition first.commits first.full). let no : true ≡ false = sym too.full ∙ since.way in absurd (cc no))
    (λ (whole : IsInFull source mode files (view first.kept) head first.partition first.commits first.full). whole.not_since (too.sync, (too.marks.standing, too.marks.mark, reached)))
    due.way
  where
    format : IsStart source.kind first.partition (view first.kept) → too.marks.standing.origin.source ≡ source.kind
    format (inl none) = let no : ◌≡◌ {A = Option Standing} None (Some too.marks.standing) = sym (unmarked (view first.kept) none.0) ∙ too.marks.mark in absurd (cc no)
    format (inr ours) = ap (λ (s : Standing). s.origin.source) (one_standing (view first.kept) too.marks.standing ours.0.0 too.marks.mark ours.0.1) ∙ ours.0.2

    reached : IsWhole source files too.marks.standing
    reached = (
      record { format = format sound.can.start; head = head; is_head = is_head; table = too.marks.table },
      subst (λ (p : List ℕ). source.reaches files p) (ap (λ (s : Standing). s.to) (one_standing (other kept) takes.1.0 too.marks.other_standing takes.1.1 too.marks.other_mark) ∙ too.marks.position) takes.1.2.1,
    )
