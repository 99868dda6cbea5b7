-- The newest version of a table is one, a list has its rows once, and a snapshot has one table.
use Rattle.std.proofs.Common.{◌≡◌, ℕ, List, sym, ap, ◌∙◌, arith}
use Rattle.lake_basics.proofs.Options.{ok_once}
use Rattle.lake_store.specs.Disk.{Files}
use Rattle.table_history.specs.Tables.{SameTable}
use Rattle.table_history.specs.declared.table.Table.{Table}
use Rattle.avro_schema.specs.Tree.{SchemaTree}
use Rattle.avro_value.specs.ValueTree.{ValueTree}
use Rattle.avro_value.specs.declared.api.TheConstants.{MAX_VALUES}
use Rattle.avro_container.specs.Format.{Pairs}
use Rattle.avro_container.specs.Reading.{container_at}
use Rattle.avro_container.proofs.Containers.{container_again}
use Rattle.iceberg_manifest.specs.Scans.{infos_of}
use Rattle.iceberg_manifest.specs.declared.info.ManifestInfo.{ManifestInfo}
use Rattle.iceberg_metadata.specs.Schemas.{HeldSchema}
use Rattle.iceberg_metadata.specs.declared.metadata.Metadata.{Metadata}
use Rattle.iceberg_metadata.specs.declared.metadata.Snapshot.{Snapshot}
use Rattle.iceberg_columns.specs.declared.columns.SourceColumn.{SourceColumn}
use Rattle.iceberg_table.specs.Folder.{IsNewest}
use Rattle.iceberg_table.specs.Lists.{AreRows}
use Rattle.iceberg_table.specs.Plan.{names_of, snapshot_schema}
use Rattle.iceberg_table.specs.Snapshots.{IsTableOfSnapshot}
use Rattle.iceberg_table.proofs.LiveLaws.{columns_same}

pub newest_once : (Held : ℕ → Type 0) (v w : ℕ) → IsNewest Held v → IsNewest Held w → v ≡ w
newest_once Held v w a b =
    let up = b.last v a.there in
    let down = a.last w b.there in omega (arith, up, down)

-- ---- the rows of a list

abbrev Whole : Type 0
Whole = Pairs × SchemaTree × List ValueTree

pub rows_once : (bytes : List ℕ) (a b : List ManifestInfo) → AreRows bytes a → AreRows bytes b → a ≡ b
rows_once bytes a b h k =
    let one : Whole = (h.meta, h.schema, h.values) in
    let other : Whole = (k.meta, k.schema, k.values) in
    let whole : one ≡ other = ok_once (container_at MAX_VALUES bytes) one other (container_again MAX_VALUES bytes h.meta h.schema h.values h.container) (container_again MAX_VALUES bytes k.meta k.schema k.values k.container) in
    let same : infos_of h.schema h.values ≡ infos_of k.schema k.values = ap (λ (u : Whole). infos_of u.1 u.2) whole in
    ok_once (infos_of k.schema k.values) a b (sym same ∙ h.read) k.read

-- ---- a snapshot has one table

schema_same : (files : Files) (m : Metadata) (s : Snapshot) (a b : Table) (x : IsTableOfSnapshot files m s a) (y : IsTableOfSnapshot files m s b) → x.plan.schema ≡ y.plan.schema
schema_same files m s a b x y =
    let held : x.planned.held ≡ y.planned.held = ok_once (snapshot_schema m s) x.planned.held y.planned.held x.planned.named y.planned.named in
    x.planned.schema ∙ ap (λ (h : HeldSchema). h.1) held ∙ sym y.planned.schema

pub table_once : (files : Files) (m : Metadata) (s : Snapshot) (a b : Table) → IsTableOfSnapshot files m s a → IsTableOfSnapshot files m s b → SameTable a b
table_once files m s a b x y = record {
  rows = λ row. ((λ there. (y.rows row).1 ((x.rows row).0 there)), (λ there. (x.rows row).1 ((y.rows row).0 there)));
  partition = x.partition ∙ ap (λ (cs : List SourceColumn). names_of cs) (columns_same m s x.plan y.plan x.planned y.planned) ∙ sym y.partition;
  schema = x.schema ∙ schema_same files m s a b x y ∙ sym y.schema;
}
