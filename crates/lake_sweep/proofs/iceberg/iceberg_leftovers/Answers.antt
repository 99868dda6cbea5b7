use Rattle.std.proofs.Common.{◌≡◌, inl, inr, codes, List, ℕ, Result, sym, subst, ◌∙◌}
use Rattle.std.specs.Prelude.{IfErr}
use Rattle.std.proofs.lemmas.Result.{err_from_is_err_and}
use Rattle.lake_store.specs.Disk.{Disk, names_in}
use Rattle.table_history.specs.declared.kind.Kind.TheVariants.{Iceberg}
use Rattle.iceberg_table.specs.Folder.{metadata_folder}
use Rattle.lake_sweep.specs.Picking.{ArePicked}
use Rattle.lake_sweep.specs.Reading.{IsFree, IsWhole}
use Rattle.lake_sweep.specs.Refusals.{AreAllVersionsRead, HasCause, HasFewVersions, HasManyNames, IsReachRefused, IsReadingRefused, ReachesFew}
use Rattle.lake_sweep.specs.declared.error.SweepError.{SweepError}
use Rattle.lake_sweep.proofs.CauseLaws.{cause_weaker}
use Rattle.lake_sweep.proofs.ReachLaws.{iceberg_plan}
use Rattle.lake_sweep.proofs.iceberg.iceberg_leftovers.Goals as goal

pub reached_by-requires : goal.reached_by-requires
reached_by-requires g c =
    let store = g.S.Store in
    record { names = λ told. subst (λ (d : Disk). c.as_slice.result.now ≡ names_in d.files metadata_folder) (sym (c.list_names.ensures.only_reads told).disk) (c.as_slice.ensures.value ∙ c.in_ok-names.ensures.names told) }

pub returns-clause-planned : goal.returns-clause-planned
returns-clause-planned g c told =
    let files = (g.S.Store.disk c.args.store.now).files in
    let whole = subst (λ (d : Disk). IsWhole d.files c.in_ok-reached.reached) (c.list_names.ensures.only_reads told).disk (c.in_ok-reached.ensures.whole told) in
    iceberg_plan files c.in_ok-reached.reached whole c.in_ok-paths.paths
    (subst (λ (l : List (List ℕ)). ArePicked (IsFree c.in_ok-reached.reached) (codes "metadata/") l c.in_ok-paths.paths) (c.as_slice-2.ensures.value ∙ c.in_ok-names.ensures.names told) c.in_ok-paths.ensures)

pub returns-clause-readable : goal.returns-clause-readable
returns-clause-readable g c told =
    let rest = subst (λ (d : Disk). HasFewVersions d.files × AreAllVersionsRead d.files × ReachesFew d.files) (c.list_names.ensures.only_reads told).disk (c.in_ok-reached.ensures.readable told) in
    (c.in_ok-names.ensures.few told, rest.0, rest.1, rest.2)

pub returns-in_err-names-clause-refused : goal.returns-in_err-names-clause-refused
returns-in_err-names-clause-refused g c told =
    let files = (g.S.Store.disk c.args.store.now).files in
    let P : SweepError → Type 0 = HasManyNames files metadata_folder in
    let Q : SweepError → Type 0 = IsReadingRefused Iceberg files in
    let exit = err_from_is_err_and c.from_residual.result c.from_residual.ensures.1 in
    subst (λ (r : Result (List (List ℕ)) SweepError). IfErr r (HasCause Q)) (sym exit.1)
    (cause_weaker P Q (λ e many. inl many) exit.0 (subst (HasCause P) (sym exit.2) (c.in_err-names.ensures.refused told)))

pub returns-in_err-reached-clause-refused : goal.returns-in_err-reached-clause-refused
returns-in_err-reached-clause-refused g c told =
    let store = g.S.Store in
    let files = (store.disk c.args.store.now).files in
    let P : SweepError → Type 0 = IsReachRefused files in
    let Q : SweepError → Type 0 = IsReadingRefused Iceberg files in
    let exit = err_from_is_err_and c.from_residual-in_err-reached.result c.from_residual-in_err-reached.ensures.1 in
    let there = subst (HasCause (IsReachRefused (store.disk c.list_names.new.store).files)) (sym exit.2) (c.in_err-reached.ensures.refused told) in
    subst (λ (r : Result (List (List ℕ)) SweepError). IfErr r (HasCause Q)) (sym exit.1)
    (cause_weaker P Q (λ e refused. inr (c.in_ok-names.ensures.few told, refused)) exit.0 (subst (λ (d : Disk). HasCause (IsReachRefused d.files) exit.0) (c.list_names.ensures.only_reads told).disk there))
