use Rattle.std.proofs.Common.{◌≡◌, ◌⊎◌, ℕ, List, sym, subst}
use Rattle.iceberg_table.specs.Errors.{error_at}
use Rattle.iceberg_table.specs.Files.{HoldsFile}
use Rattle.iceberg_table.specs.Folder.{version_path}
use Rattle.iceberg_table.specs.Refusals.{IsMetadataFault}
use Rattle.iceberg_table.specs.declared.error.IcebergError.TheVariants.{Memory}
use Rattle.iceberg_table.proofs.FaultLaws.{shows_refused}
use Rattle.iceberg_table.proofs.version.read_version.Goals as goal

pub returns-clause-refused : goal.returns-clause-refused
returns-clause-refused g c told =
    let files = (g.S.Store.disk c.args.store.now).files in
    let bytes = c.as_slice.result.now in
    let path = c.in_ok-path.ensures in
    let r = c.refusal.result in
    let is = subst (λ (p : List ℕ). (r ≡ Memory) ⊎ (r ≡ error_at p c.in-Err.error)) path c.refusal.ensures in
    let holds = subst (λ (p : List ℕ). HoldsFile files p bytes) path (subst (λ (bs : List ℕ). HoldsFile files c.in_ok-path.path bs) (sym c.as_slice.ensures.value) (c.in_ok-bytes.ensures.holds told)) in
    shows_refused files (version_path c.args.version) bytes IsMetadataFault c.in-Err.error r is holds c.in-Err.ensures.refused
