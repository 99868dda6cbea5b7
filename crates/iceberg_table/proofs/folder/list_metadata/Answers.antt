use Rattle.std.proofs.Common.{ℕ, List, subst, ◌∙◌}
use Rattle.iceberg_table.specs.Folder.{IsNamed}
use Rattle.iceberg_table.proofs.FolderLaws.{IsNewestOf}
use Rattle.iceberg_table.proofs.folder.list_metadata.Goals as goal

pub returns-clause-newest : goal.returns-clause-newest
returns-clause-newest g c told = subst (λ (names : List (List ℕ)). IsNewestOf (IsNamed names) c.newest_of-newest.result) (c.as_slice.ensures.value ∙ c.in-Ok.ensures.names told) c.newest_of-newest.ensures
