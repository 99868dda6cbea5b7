-- What is kept of the manifests that are read, with one manifest more.
use Rattle.std.proofs.Common.{◌≡◌, Bool, true, List, [], ◌∷◌, ◌++◌, sym, ap, subst, ◌∙◌}
use Rattle.table_history.specs.Row.{Row}
use Rattle.table_history.specs.declared.table.Table.{Table}
use Rattle.table_history.proofs.RowListLemmas.{Contains-none}
use Rattle.iceberg_manifest.specs.ListWriting.{HasContent}
use Rattle.iceberg_manifest.specs.declared.partition.PartColumn.{PartColumn}
use Rattle.iceberg_table.specs.Kept.{IsMadeOf}
use Rattle.iceberg_table.specs.Kinds.{FitLive}
use Rattle.iceberg_table.specs.Tables.{IsTableOfRows, TakesNoDeletes, rows_in, rows_of}
use Rattle.iceberg_table.specs.declared.manifest.Manifest.{Manifest}
use Rattle.iceberg_table.specs.declared.snapshot.SnapshotTable.{SnapshotTable}
use Rattle.iceberg_table.proofs.EachLaws.{contents_push, fit_push, no_deletes_push, rows_more}

module _ (keep : Bool) (columns : List PartColumn) (empty : Table) where
  pub none_made : (t : SnapshotTable) → IsTableOfRows empty.schema empty.partition [] t.table → t.manifests ≡ [] → IsMadeOf keep columns empty [] t
  none_made t is none = record {
    table = is;
    fit = λ row there. absurd (Contains-none row there);
    no_deletes = λ r there. absurd (Contains-none r there);
    contents = λ r there. absurd (Contains-none r there);
    kept = λ k. none;
  }

  pub made_more : (read : List Manifest) (r : Manifest) (before after : SnapshotTable) → IsMadeOf keep columns empty read before → IsTableOfRows empty.schema empty.partition (rows_of read ++ rows_in r.rows) after.table
      → FitLive columns r.rows → TakesNoDeletes r → HasContent r.file.info → (keep ≡ true → after.manifests ≡ before.manifests ++ r ∷ []) → IsMadeOf keep columns empty (read ++ r ∷ []) after
  made_more read r before after made is fit none content kept = record {
    table = subst (λ (rows : List Row). IsTableOfRows empty.schema empty.partition rows after.table) (sym (rows_more read r)) is;
    fit = fit_push columns read r made.fit fit;
    no_deletes = no_deletes_push read r made.no_deletes none;
    contents = contents_push read r made.contents content;
    kept = λ k. kept k ∙ ap (λ (l : List Manifest). l ++ r ∷ []) (made.kept k);
  }
