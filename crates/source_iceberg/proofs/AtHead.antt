-- The head that the newest metadata says, and the table there.
use Rattle.std.proofs.Common.{◌≡◌, ◌⊎◌, ◌≤◌, inl, inr, ℕ, length, Some, None, Result, Ok, Err, sym, subst}
use Rattle.std.specs.Prelude.{IfErr, IfOk, OnOk}
use Rattle.std.specs.Fmt.{signed_decimal}
use Rattle.lake_basics.specs.declared.limits.TheConstants.{MAX_NAMES}
use Rattle.lake_store.specs.Disk.{Files, names_in}
use Rattle.table_history.specs.declared.table.Table.{Table}
use Rattle.iceberg_ancestry.specs.Ancestry.{held_at}
use Rattle.iceberg_metadata.specs.Schemas.{schema_ids}
use Rattle.iceberg_metadata.specs.declared.metadata.Metadata.{Metadata}
use Rattle.iceberg_metadata.specs.declared.metadata.Snapshot.{Snapshot}
use Rattle.iceberg_table.specs.Folder.{metadata_folder}
use Rattle.iceberg_table.specs.Snapshots.{IsReadAs, IsTableOfSnapshot}
use Rattle.iceberg_table.specs.declared.snapshot.SnapshotTable.{SnapshotTable}
use Rattle.source_core.specs.Answers.{IsHeadAnswer, IsHeadRefusal, IsReadRefusal}
use Rattle.source_core.specs.declared.error.SourceError.{SourceError}
use Rattle.source_core.specs.declared.error.SourceError.TheVariants.{Absent, Memory}
use Rattle.source_core.specs.declared.head.Head.{Head}
use Rattle.source_core.proofs.Answers.{weaker}
use Rattle.source_iceberg.specs.HeadLemmas.{none_current, not_absent, stands_for}
use Rattle.source_iceberg.specs.Heads.{IsAbsent, IsCurrent, IsIcebergHead, IsNewestMetadata, IsTableAtHead}
use Rattle.source_iceberg.specs.Reading.{IsRefusedSnapshot, ShowsAtHead, ShowsFromScratch}

module _ (files : Files) (version : ℕ) (m : Metadata) (newest : IsNewestMetadata files version m) where
  none_held : held_at m.snapshots m.current_snapshot ≡ None → IsAbsent files
  none_held none = inr (version, m, stands_for files version m newest, none_current m (schema_ids newest.says.read.readings) newest.says.read.text.consistent none)

  pub answered : (r : Result Head SourceError) → length (names_in files metadata_folder) ≤ MAX_NAMES
      → IfOk r (λ head. (s : Snapshot) × (held_at m.snapshots m.current_snapshot ≡ Some s) × (head.position ≡ signed_decimal s.id) × (head.pending ≡ None) × (head.table ≡ Some m.uuid))
      → IfErr r (λ e. (e ≡ Memory) ⊎ ((e ≡ Absent) × (held_at m.snapshots m.current_snapshot ≡ None)))
      → IsHeadAnswer (IsAbsent files) (IsIcebergHead files) (ShowsAtHead files) r
  answered (Ok head) few is none =
      let current : IsCurrent files version m is.0 = record { metadata = newest; held = is.1 } in (
        not_absent files version m is.0 current,
        record { version = version; metadata = m; snapshot = is.0; current = current; position = is.2; pending = is.3; table = is.4; few = few },
      )
  answered (Err e) few is (inl same) = subst (IsHeadRefusal (IsAbsent files) (ShowsAtHead files)) (sym same) tt
  answered (Err e) few is (inr none) = subst (IsHeadRefusal (IsAbsent files) (ShowsAtHead files)) (sym none.0) (none_held none.1)

  pub table_read : (s : Snapshot) → held_at m.snapshots m.current_snapshot ≡ Some s → (r : Result Table SourceError) → IfOk r (IsTableOfSnapshot files m s) → OnOk r ((t : SnapshotTable) × IsReadAs files m s t) → IfOk r (IsTableAtHead files)
  table_read s held (Ok t) is read = record { version = version; metadata = m; snapshot = s; current = record { metadata = newest; held = held }; is = is; read = read }
  table_read s held (Err e) is read = tt

  pub table_refused : (s : Snapshot) → held_at m.snapshots m.current_snapshot ≡ Some s → (e : SourceError) → IsReadRefusal (IsRefusedSnapshot files m version s) e → IsReadRefusal (ShowsFromScratch files) e
  table_refused s held e h =
      weaker (IsRefusedSnapshot files m version s) (ShowsFromScratch files) (λ d shown. inr (version, m, s, record { metadata = newest; held = held }, shown)) e h

-- what can't be isn't told
pub never : (Q : SourceError → Type 0) (e : SourceError) → IsReadRefusal (λ _. ⊥) e → IsReadRefusal Q e
never Q e h = weaker (λ _. ⊥) Q (λ d no. absurd no) e h
