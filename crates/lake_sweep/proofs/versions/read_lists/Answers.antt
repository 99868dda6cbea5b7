use Rattle.std.proofs.Common.{ℕ, List, Option, inr, Result, sym, ap, subst}
use Rattle.std.specs.Prelude.{IfErr, MatchOption}
use Rattle.std.proofs.lemmas.Result.{err_from_is_err_and}
use Rattle.iceberg_live.specs.MetadataPaths.{IsMetadataPath}
use Rattle.iceberg_manifest.specs.Lists.{AreEach}
use Rattle.iceberg_metadata.specs.declared.metadata.Snapshot.{Snapshot}
use Rattle.lake_sweep.specs.Refusals.{HasCause}
use Rattle.lake_sweep.specs.Versions.{IsVersionRefused, LacksList}
use Rattle.lake_sweep.specs.declared.error.SweepError.{SweepError}
use Rattle.lake_sweep.specs.declared.error.SweepError.TheVariants.{Foreign}
use Rattle.lake_sweep.specs.declared.versions.VersionLists.{VersionLists}
use Rattle.lake_sweep.proofs.RefusalLaws.{version_cause}
use Rattle.lake_sweep.proofs.versions.read_lists.Goals as goal

pub returns-in_err-metadata-clause-refused : goal.returns-in_err-metadata-clause-refused
returns-in_err-metadata-clause-refused g c told =
    let files = (g.S.Store.disk c.args.store.now).files in
    let P : SweepError → Type 0 = IsVersionRefused files c.args.version in
    let exit = err_from_is_err_and c.from_residual-in_err-metadata.result c.from_residual-in_err-metadata.ensures.1 in
    subst (λ (r : Result VersionLists SweepError). IfErr r (HasCause P)) (sym exit.1)
    (subst (HasCause P) (sym exit.2) (version_cause files c.args.version _ (c.in_err-metadata.ensures.refused told)))

pub returns-in-Some-clause-says : goal.returns-in-Some-clause-says
returns-in-Some-clause-says g c told =
    let m = c.in_ok-metadata.metadata in
    record {
      says = c.in_ok-metadata.ensures.says told;
      lists = subst (λ (o : Option (List (List ℕ))). MatchOption o (LacksList m) (AreEach (λ (s : Snapshot). IsMetadataPath m.location s.list) m.snapshots)) c.in-Some.is c.in_ok-paths.ensures.found;
    }

pub returns-in-None-clause-refused : goal.returns-in-None-clause-refused
returns-in-None-clause-refused g c told =
    let m = c.in_ok-metadata.metadata in
    let lacks = subst (λ (o : Option (List (List ℕ))). MatchOption o (LacksList m) (AreEach (λ (s : Snapshot). IsMetadataPath m.location s.list) m.snapshots)) c.in-None.is c.in_ok-paths.ensures.found in
    inr (m, c.in_ok-metadata.ensures.says told, lacks, ap (λ (p : List ℕ). Foreign p) c.in_ok-path.ensures)
