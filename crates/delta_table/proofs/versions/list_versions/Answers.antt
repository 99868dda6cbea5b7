use Rattle.std.proofs.Common.{ℕ, List, sym, subst}
use Rattle.lake_store.specs.Disk.{ListsFolder}
use Rattle.delta_table.specs.Versions.{HasVersion, IsNamed, log_folder}
use Rattle.delta_table.proofs.PathLaws.{held_named, named_held}
use Rattle.delta_table.proofs.VersionRuns.{held_alike}
use Rattle.delta_table.proofs.versions.list_versions.Goals as goal

pub returns-clause-found : goal.returns-clause-found
returns-clause-found g c told =
    let files = (g.S.Store.disk c.args.store.now).files in
    let names = c.as_slice.result.now in
    let lists = subst (λ (l : List (List ℕ)). ListsFolder files log_folder l) (sym c.as_slice.ensures.value) (c.in-Ok.ensures.listed told) in
    held_alike (IsNamed names) (HasVersion files) (named_held files names lists) (held_named files names lists) c.in_ok-versions_of.field-0 c.in_ok-versions_of.ensures
