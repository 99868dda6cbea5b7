-- What is read of a manifest, from its bytes.
use Rattle.std.proofs.Common.{◌≡◌, ◌≢◌, ◌⊎◌, [], pos, ℕ, ◌-◌, ◌^◌, ◌<◌, ◌≤◌, List, length, Result, Ok, Err, refl, sym, subst, ◌∙◌, inl, inr, ⊎_elim, arith}
use Rattle.std.specs.Prelude.{IfOk, IfErr}
use Rattle.std.proofs.lemmas.Option.{same_Some}
use Rattle.lake_basics.specs.declared.outcome.ReadError.{ReadError}
use Rattle.lake_basics.specs.declared.outcome.ReadError.TheVariants as read
use Rattle.lake_basics.specs.declared.limits.TheConstants.{MAX_FILE_BYTES}
use Rattle.lake_store.specs.Disk.{Files}
use Rattle.iceberg_manifest.specs.Entry.{EntryData}
use Rattle.iceberg_live.specs.LiveRows.{AreLiveRows}
use Rattle.iceberg_manifest.specs.declared.error.ManifestError.{ManifestError}
use Rattle.iceberg_manifest.specs.declared.error.ManifestError.TheVariants as manifest
use Rattle.iceberg_live.specs.declared.live.LiveRow.{LiveRow}
use Rattle.iceberg_manifest.specs.declared.partition.PartColumn.{PartColumn}
use Rattle.iceberg_manifest_feeding.specs.Order.{IsRefusedInOrder}
use Rattle.table_history.specs.First.{IsFirst, NoneOf}
use Rattle.iceberg_ancestry.specs.Ancestry.{FormsCycle}
use Rattle.iceberg_metadata.specs.Reading.{HasCause, IsRead, causes}
use Rattle.iceberg_metadata.specs.declared.metadata.Metadata.{Metadata}
use Rattle.iceberg_metadata.specs.declared.error.MetadataError.{MetadataError}
use Rattle.iceberg_metadata.specs.declared.error.MetadataError.TheVariants as metadata
use Rattle.iceberg_table.specs.Errors.{IsFault, manifest_fault, metadata_fault}
use Rattle.iceberg_table.specs.Refusals.{IsMetadataFault}
use Rattle.iceberg_table.specs.Files.{HoldsFile}
use Rattle.iceberg_table.specs.Kinds.{FitLive}
use Rattle.iceberg_table.specs.Manifests.{AreEntries, HasEntries, IsContent, IsEntriesFault, IsManifestFault, IsManifestOf}
use Rattle.iceberg_table.specs.declared.error.Fault.{Fault}
use Rattle.iceberg_table.specs.declared.list.ManifestFile.{ManifestFile}
use Rattle.iceberg_table.specs.declared.manifest.Content.{Content}
use Rattle.iceberg_table.specs.declared.manifest.Manifest.{Manifest}
use Rattle.iceberg_table.proofs.KindLaws.{live_fit}

-- a refusal below is want of memory, or a fault of its own
pub fault_by : (P : ManifestError → Type 0) (e : ManifestError) → (e ≡ manifest.Memory) ⊎ P e → IsFault (λ f. (d : ManifestError) × P d × (manifest_fault d ≡ read.Fault f)) (manifest_fault e)
fault_by P e is = ⊎_elim (λ m. subst (λ d. IsFault (λ f. (d : ManifestError) × P d × (manifest_fault d ≡ read.Fault f)) (manifest_fault d)) (sym m) tt) (λ p. by (manifest_fault e) refl p) is
  where
    by : (r : ReadError Fault) → manifest_fault e ≡ r → P e → IsFault (λ f. (d : ManifestError) × P d × (manifest_fault d ≡ read.Fault f)) r
    by read.Memory same p = tt
    by (read.Fault f) same p = (e, p, same)

pub fault_further : (P Q : Fault → Type 0) (e : ReadError Fault) → ((f : Fault) → P f → Q f) → IsFault P e → IsFault Q e
fault_further P Q read.Memory further shows = tt
fault_further P Q (read.Fault f) further shows = further f shows

module _ (location : List ℕ) (columns : List PartColumn) (file : ManifestFile) (bytes : List ℕ) (entries : List EntryData) (are : AreEntries columns bytes entries) where
  pub content_found : (r : Result Content (ReadError Fault)) → ((others : List EntryData) → AreEntries columns bytes others → entries ≡ others) → IfOk r (λ c. c.entries ≡ length entries) → IfOk r (λ c. AreLiveRows location file.info entries c.rows)
      → IfOk r (IsContent location columns file bytes)
  content_found (Ok c) only count rows = record { entries = entries; are = are; only = λ others says. sym (only others says); count = count; rows = rows }
  content_found (Err e) only count rows = tt

  pub content_fits : (r : Result Content (ReadError Fault)) → IfOk r (λ c. AreLiveRows location file.info entries c.rows) → IfOk r (λ c. FitLive columns c.rows)
  content_fits (Ok c) rows = live_fit location columns file.info bytes entries c.rows are rows
  content_fits (Err e) rows = tt

  pub content_refused : (before : ℕ) (r : Result Content (ReadError Fault)) → IfErr r (IsFault (IsEntriesFault location file before entries)) → IfErr r (IsFault (IsManifestFault location columns before file bytes))
  content_refused before (Ok c) refused = tt
  content_refused before (Err e) refused = fault_further (IsEntriesFault location file before entries) (IsManifestFault location columns before file bytes) e (λ f shows. inr (entries, are, shows)) refused

pub bytes_refused : (location : List ℕ) (columns : List PartColumn) (file : ManifestFile) (before : ℕ) (bytes : List ℕ) (e : ManifestError) → (e ≡ manifest.Memory) ⊎ IsRefusedInOrder columns bytes e
    → IsFault (IsManifestFault location columns before file bytes) (manifest_fault e)
bytes_refused location columns file before bytes e is =
    fault_further (λ f. (d : ManifestError) × IsRefusedInOrder columns bytes d × (manifest_fault d ≡ read.Fault f)) (IsManifestFault location columns before file bytes) (manifest_fault e) (λ f shows. inl shows)
    (fault_by (IsRefusedInOrder columns bytes) e is)

-- The bytes of a file that is read can be counted.
pub counted : (bytes : List ℕ) → length bytes ≤ MAX_FILE_BYTES → length bytes < 2 ^ 64 - 1
counted bytes short = omega (arith, short)

-- two readings of one file are one
pub held_once : (files : Files) (path a b : List ℕ) → HoldsFile files path a → HoldsFile files path b → a ≡ b
held_once files path a b ha hb = same_Some a b (sym ha ∙ hb)

pub data_read : (files : Files) (location : List ℕ) (columns : List PartColumn) (file : ManifestFile) (bytes : List ℕ) (c : Content) → HoldsFile files file.path bytes → IsContent location columns file bytes c
    → HasEntries files location columns (record { file = file; entries = c.entries; rows = c.rows })
data_read files location columns file bytes c holds is = record {
  entries = is.entries;
  says = record { bytes = bytes; holds = holds; are = is.are };
  only = λ others says. is.only others (subst (λ bs. AreEntries columns bs others) (held_once files file.path says.bytes bytes says.holds holds) says.are);
  count = is.count;
  rows = is.rows;
}

-- what metadata shows
metadata_by : (bytes : List ℕ) (e : MetadataError) (r : ReadError Fault) → metadata_fault e ≡ r → IsFirst (HasCause bytes) causes e → IsFault (IsMetadataFault bytes) r
metadata_by bytes e read.Memory same first = tt
metadata_by bytes e (read.Fault f) same first = inl (e, first, same)

pub metadata_shows : (bytes : List ℕ) (e : MetadataError) → (e ≡ metadata.Memory) ⊎ IsFirst (HasCause bytes) causes e → IsFault (IsMetadataFault bytes) (metadata_fault e)
metadata_shows bytes e is = ⊎_elim (λ m. subst (λ d. IsFault (IsMetadataFault bytes) (metadata_fault d)) (sym m) tt) (λ first. metadata_by bytes e (metadata_fault e) refl first) is

-- metadata that is read, in which a cycle is looked for
pub cycle_shows : (bytes : List ℕ) (m : Metadata) (e : MetadataError) → IsRead bytes m → NoneOf (HasCause bytes) causes → (e ≡ metadata.Memory) ⊎ (e ≡ metadata.Malformed) → (e ≡ metadata.Malformed → FormsCycle m) → IsFault (IsMetadataFault bytes) (metadata_fault e)
cycle_shows bytes m e is none which cycle =
    ⊎_elim
    (λ memory. subst (λ d. IsFault (IsMetadataFault bytes) (metadata_fault d)) (sym memory) tt)
    (λ malformed. subst (λ d. IsFault (IsMetadataFault bytes) (metadata_fault d)) (sym malformed) (inr (m, is, none, cycle malformed, refl)))
    which

-- a manifest of deletes, from which no row is taken
pub deletes_read : (files : Files) (location : List ℕ) (columns : List PartColumn) (file : ManifestFile) (r : Manifest) → r.file ≡ file → (file.info.content ≢ pos 0) → HasEntries files location columns r → (none : List LiveRow) → none ≡ []
    → IsManifestOf files location columns file (record { file = r.file; entries = r.entries; rows = none })
deletes_read files location columns file r same other has none is = (same, inr (other, (r.rows, has), is))

pub data_is : (files : Files) (location : List ℕ) (columns : List PartColumn) (file : ManifestFile) (r : Manifest) → r.file ≡ file → file.info.content ≡ pos 0 → HasEntries files location columns r → IsManifestOf files location columns file r
data_is files location columns file r same zero has = (same, inl (zero, has))
