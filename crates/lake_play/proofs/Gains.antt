-- What a sync has published when it returns.
use Rattle.std.proofs.Common.{◌≡◌, ◌⊎◌, inl, inr, ℕ, length, take, List, None, Some, Result, Ok, Err, refl, sym, ap, subst}
use Rattle.std.proofs.Math.Seq.{take-length}
use Rattle.lake_store.specs.Disk.{Disk, Files}
use Rattle.lake_store.specs.declared.store.Store.{Ghosts}
use Rattle.table_history.specs.declared.table.Commit.{Commit}
use Rattle.target_core.specs.Gained.{Gained}
use Rattle.target_core.specs.Views.{View}
use Rattle.target_core.specs.Written.{IsAsLeft}
use Rattle.target_sync.specs.Answered.{IsReady, IsReport, IsReported, IsSync, IsUndisturbed, Leaves, StopsSo}
use Rattle.target_sync.specs.Dues.{Due, origin_of}
use Rattle.target_sync.specs.Sources.{SourceMeaning}
use Rattle.target_sync.specs.Synced.{with_columns}
use Rattle.target_sync.specs.Targets.{TargetFacts}
use Rattle.target_sync.specs.declared.apply.Report.{Report}
use Rattle.target_sync.specs.declared.plan.Mode.{Mode}
use Rattle.target_sync.specs.declared.status.Status.{Status}

-- The target has gained so many of the commits that are due, and at each path that commits reach the files have just what these leave.
pub record HasCome (source : SourceMeaning) (target : TargetFacts) (mode : Mode) (now : ℕ) (start : View) (before after : Files) : Type 0 where
  pub due : Due source mode before start
  pub count : ℕ
  pub gained : Gained target.files (origin_of due) (with_columns due.partition start) before due.commits count after
  pub left : IsAsLeft target.files.reached (Leaves target None now before due.partition (origin_of due) (take count due.commits)) after

-- no file is another one, or some of the commits that are due have come
abbrev pub StaysOrComes : SourceMeaning → TargetFacts → Mode → ℕ → View → Files → Files → Type 0
StaysOrComes source target mode now start before after = (after ≡ before) ⊎ HasCome source target mode now start before after

module _ {S : Type 0} (store : Ghosts S) (tells : store.tells) (source : SourceMeaning) (target : TargetFacts) (mode : Mode) (now : ℕ) (old new : S) (answer : Result Report Status) (sync : IsSync store source target None mode now old new (Some answer))
    (undisturbed : IsUndisturbed (Some answer)) (start : View) (ready : IsReady source target (store.disk old).files start (target.files.settled (store.disk old))) where
  abbrev before : Files
  before = (store.disk old).files

  abbrev after : Files
  after = (store.disk new).files

  abbrev Ends : Type 0
  Ends = StaysOrComes source target mode now start before after

  done : (report : Report) → answer ≡ Ok report → Ends
  done report answered =
      let r : IsReport source target None mode now start (target.files.settled (store.disk old)) before after report =
      subst (λ (a : Result Report Status). IsReported source target None mode now start (target.files.settled (store.disk old)) before after (Some a)) answered (sync.reported tells start ready.reads ready.goes_on) in
      inr (record {
        due = r.due;
        count = length r.due.commits;
        gained = r.gained ready.settled;
        left = (
          after,
          subst (λ (cs : List Commit). Leaves target None now before r.due.partition (origin_of r.due) cs after) (sym (take-length r.due.commits)) (r.written ready.settled),
          λ path reached. refl,
        );
      })

  stopped_by : (e : Status) → StopsSo store source target None mode now start old new (Some (Err e)) → IsUndisturbed (Some (Err e)) → Ends
  stopped_by e (inl idle) alone = inl (ap (λ (d : Disk). d.files) idle.disk)
  stopped_by e (inr stopped) alone = let so_far = stopped.gained alone in inr (record { due = stopped.due; count = so_far.0; gained = so_far.3; left = so_far.4 })

  refused : (e : Status) → answer ≡ Err e → Ends
  refused e answered =
      stopped_by e
      (subst (λ (a : Result Report Status). StopsSo store source target None mode now start old new (Some a)) answered (sync.stopped tells start ready))
      (subst (λ (a : Result Report Status). IsUndisturbed (Some a)) answered undisturbed)

  by_answer : (a : Result Report Status) → answer ≡ a → Ends
  by_answer (Ok report) answered = done report answered
  by_answer (Err e) answered = refused e answered

  -- So a sync that isn't contested leaves a target that is absent or ours.
  pub stays_or_comes : Ends
  stays_or_comes = by_answer answer refl
