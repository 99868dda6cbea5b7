use Rattle.std.proofs.Common.{ℕ, List, sym, subst}
use Rattle.iceberg_live.specs.MetadataPaths.{IsMetadataPath}
use Rattle.lake_sweep.proofs.VersionLaws.{nothing_found}
use Rattle.lake_sweep.proofs.versions.list_path.Goals as goal

pub returns-in-Err-clause-found : goal.returns-in-Err-clause-found
returns-in-Err-clause-found c =
    let list = c.args.snapshot.now.list in
    let location = c.args.metadata.now.location in
    nothing_found location list c.in-Err.error c.nothing_at.result
    (λ path within. c.in-Err.ensures.only path (subst (λ (l : List ℕ). IsMetadataPath l list path) (sym c.as_str.ensures.value) within)) c.nothing_at.ensures.nothing
