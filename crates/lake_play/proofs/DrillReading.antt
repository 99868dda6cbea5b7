-- Reading the source of a drill passes no number.
use Rattle.std.proofs.Common.{◌≡◌, inl, inr, ⊎_elim, ℕ, zero, suc, List, Some, sym, ap, subst, ◌∙◌, arith}
use Rattle.std.specs.Fmt.{decimal}
use Rattle.std.proofs.lemmas.Fmt.{decimal_injective}
use Rattle.std.proofs.lemmas.Option.{same_Some}
use Rattle.lake_store.specs.Disk.{Files}
use Rattle.table_history.specs.declared.kind.Kind.TheVariants.{Delta}
use Rattle.table_history.specs.declared.limit.LimitKind.{LimitKind}
use Rattle.table_history.specs.declared.table.Table.{Table}
use Rattle.conformance.specs.Drill.{AreSaid}
use Rattle.conformance.proofs.Bounds.{drill_history, entry_after}
use Rattle.conformance.proofs.Tables.{base_of, table_after}
use Rattle.source_core.specs.Histories.{IsLike, ShowsTable}
use Rattle.source_core.specs.declared.error.SourceError.TheVariants as source
use Rattle.source_delta.specs.LikeLemmas.{LikeBefore}
use Rattle.target_core.specs.Views.{Standing, View}
use Rattle.target_sync.specs.Answered.{IsSourceFault}
use Rattle.target_sync.specs.Dues.{IsSinceFault, TakesCommits}
use Rattle.target_sync.specs.Targets.{TargetFacts}
use Rattle.target_sync.specs.declared.plan.Mode.{Mode}
use Rattle.target_sync.specs.declared.plan.Mode.TheVariants as modes
use Rattle.target_sync.specs.declared.status.Side.TheVariants as side
use Rattle.target_sync.specs.declared.status.Status.TheVariants as status
use Rattle.lake_play.specs.Causes.{PassesNumber}
use Rattle.lake_play.specs.Formats.{from_delta}
use Rattle.lake_play.proofs.Causes.{Views, like_entry, shows_start}
use Rattle.lake_play.proofs.DrillLog.{AreFirst, IsDrillLog, at_head_small, drill_log, from_position_small, from_scratch_small}
use Rattle.lake_play.proofs.Places.{numbers_back}
use Rattle.target_hudi.specs.InspectLemmas.{none_is_some}

module _ (number : ℕ) (said : AreSaid number) (target : TargetFacts) (views : Views target) (mode : Mode) (now : ℕ) (commits : List (List ℕ)) (first : AreFirst number commits) (which : LimitKind) (n : ℕ) {files : Files}
    (passes : PassesNumber target mode now (drill_history number 200) commits files (status.Limit side.Source which n)) where
  log : IsDrillLog number files
  log = drill_log number files commits first passes.over.log

  since_by : (j : ℕ) (start : View) → ShowsTable Delta target.files.image (drill_history number 200) j start → IsSinceFault from_delta files start (source.Limit which n) → ⊥
  since_by zero start none since = none_is_some start since.0 none since.1
  since_by (suc k) start shows since =
      let at = numbers_back (entry_after number) 200 k shows.0 shows.1 in
      let one : since.0 ≡ shows.2.standing = same_Some since.0 shows.2.standing (sym since.1 ∙ shows.2.mark) in
      let to : since.0.to ≡ decimal k = ap (λ (s : Standing). s.to) one ∙ shows.2.position ∙ sym (ap (λ (e : List ℕ × Table). e.0) at.1) in
      let like : IsLike start.table (table_after number (suc k)) = subst (λ (t : Table). IsLike start.table t) (sym (ap (λ (e : List ℕ × Table). e.1) at.1)) (like_entry target views (drill_history number 200) files shows.0 start shows.2) in
      let small = at.0 in
      from_position_small number said files log since.0.to start.table which n
      (λ version less spelled.
      let same : k ≡ version = decimal_injective k version (omega (arith, small)) (omega (arith, less)) (sym to ∙ spelled) in
      subst (λ (v : ℕ). LikeBefore (Some start.table) (base_of number (suc v))) same like)
      since.2.1

  fault : IsSourceFault from_delta target mode files (source.Limit which n) → ⊥
  fault (inl head) = at_head_small number said files log which n head
  fault (inr read) =
      let start = read.1.0 in
      let stands = passes.over.stands in
      ⊎_elim
      (λ (since : (mode ≡ modes.Sync) × IsSinceFault from_delta files start (source.Limit which n)).
      since_by stands.j start (shows_start target views (drill_history number 200) files stands.j stands.at.view start stands.at.reads read.1.1 stands.at.shows) since.1)
      (λ (scratch : (¬ TakesCommits from_delta mode files start) × from_delta.from_scratch files (source.Limit which n)). from_scratch_small number said files log which n scratch.1)
      read.1.2.1

  pub source_within : ⊥
  source_within = fault passes.passes.1
