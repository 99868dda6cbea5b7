use Rattle.std.proofs.Common.{◌≤◌, ℕ, List, Option, length, subst}
use Rattle.std.specs.Prelude.{MatchOption}
use Rattle.lake_basics.specs.declared.limits.TheConstants.{MAX_NAMES}
use Rattle.iceberg_table.specs.Folder.{HasVersion, IsNewest}
use Rattle.source_iceberg.proofs.Names.{names_told}
use Rattle.source_iceberg.proofs.newest.newest_version.Goals as goal

pub returns-in-Ok-clause-refused : goal.returns-in-Ok-clause-refused
returns-in-Ok-clause-refused g c told =
    let files = (g.S.Store.disk c.args.store.now).files in
    let none = subst (λ (o : Option ℕ). MatchOption o ((v : ℕ) → HasVersion files v → ⊥) (IsNewest (HasVersion files))) c.in-None.is (c.in-Ok.ensures.newest told) in
    let few = subst (λ (names : List (List ℕ)). length names ≤ MAX_NAMES) (c.in-Ok.ensures.names told) c.in-Ok.ensures.few in
    names_told files few none c.in-Ok.found.names (c.in-Ok.ensures.names told) c.names_error.result c.names_error.ensures.told
