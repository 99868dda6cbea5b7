-- What a manifest list says, from its bytes.
use Rattle.std.proofs.Common.{◌≡◌, ◌⊎◌, ℕ, List, Result, Ok, Err, sym, subst, ◌∙◌, inl}
use Rattle.std.specs.Prelude.{IfOk}
use Rattle.std.proofs.lemmas.List.{append_cancel_left}
use Rattle.lake_basics.specs.declared.outcome.ReadError.{ReadError}
use Rattle.lake_basics.specs.declared.outcome.ReadError.TheVariants as read
use Rattle.lake_store.specs.Disk.{Files}
use Rattle.avro_value.specs.declared.api.TheConstants.{MAX_VALUES}
use Rattle.iceberg_manifest.specs.Containers.{IsRefusedBy}
use Rattle.iceberg_manifest.specs.Lists.{AreEach}
use Rattle.iceberg_metadata.specs.Location.{front_of}
use Rattle.iceberg_live.specs.MetadataPaths.{IsMetadataPath}
use Rattle.iceberg_manifest.specs.Scans.{infos_of}
use Rattle.iceberg_manifest.specs.declared.error.ManifestError.{ManifestError}
use Rattle.iceberg_manifest.specs.declared.error.ManifestError.TheVariants as manifest
use Rattle.iceberg_manifest.specs.declared.info.ManifestInfo.{ManifestInfo}
use Rattle.iceberg_metadata.specs.declared.metadata.Metadata.{Metadata}
use Rattle.iceberg_table.specs.Errors.{IsFault, manifest_fault}
use Rattle.iceberg_table.specs.Files.{HoldsFile}
use Rattle.iceberg_table.specs.Lists.{AreRows, IsListFault, IsListed, SaysList}
use Rattle.iceberg_table.specs.declared.error.Fault.{Fault}
use Rattle.iceberg_table.specs.declared.list.ManifestFile.{ManifestFile}
use Rattle.iceberg_table.proofs.EachLaws.{each_once}
use Rattle.iceberg_table.proofs.ManifestLaws.{fault_by, fault_further, held_once}

pub rows_found : (m : Metadata) (bytes : List ℕ) (infos : List ManifestInfo) (r : Result (List ManifestFile) (ReadError Fault)) → AreRows bytes infos → ((others : List ManifestInfo) → AreRows bytes others → infos ≡ others) → IfOk r (AreEach (IsListed m) infos)
    → IfOk r (λ list. (infos : List ManifestInfo) × AreRows bytes infos × AreEach (IsListed m) infos list × ((others : List ManifestInfo) → AreRows bytes others → others ≡ infos))
rows_found m bytes infos (Ok list) rows only are = (infos, rows, are, λ others says. sym (only others says))
rows_found m bytes infos (Err e) rows only are = tt

pub list_refused : (m : Metadata) (bytes : List ℕ) (e : ManifestError) → (e ≡ manifest.Memory) ⊎ IsRefusedBy MAX_VALUES infos_of bytes e → IsFault (IsListFault m bytes) (manifest_fault e)
list_refused m bytes e is =
    fault_further (λ f. (d : ManifestError) × IsRefusedBy MAX_VALUES infos_of bytes d × (manifest_fault d ≡ read.Fault f)) (IsListFault m bytes) (manifest_fault e) (λ f shows. inl shows)
    (fault_by (IsRefusedBy MAX_VALUES infos_of bytes) e is)

-- a name is one path's
pub path_once : (location file p q : List ℕ) → IsMetadataPath location file p → IsMetadataPath location file q → p ≡ q
path_once location file p q a b = append_cancel_left (front_of location) p q (sym a.place ∙ b.place)

-- a row is one manifest's
pub listed_once : (m : Metadata) (info : ManifestInfo) (a b : ManifestFile) → IsListed m info a → IsListed m info b → a ≡ b
listed_once m info a b la lb =
    let path = path_once m.location info.manifest_path a.path b.path la.path lb.path in
    let row : a.info ≡ b.info = la.row ∙ sym lb.row in
    λ i. record { path = path i; info = row i }

-- a list says one thing
pub list_once : (files : Files) (m : Metadata) (path bytes : List ℕ) (infos : List ManifestInfo) (list : List ManifestFile) → HoldsFile files path bytes → ((others : List ManifestInfo) → AreRows bytes others → others ≡ infos) → AreEach (IsListed m) infos list
    → (others : List ManifestFile) → SaysList files m path others → others ≡ list
list_once files m path bytes infos list holds only are others says =
    let rows : AreRows bytes says.infos = subst (λ bs. AreRows bs says.infos) (held_once files path says.bytes bytes says.holds holds) says.rows in
    let theirs = subst (λ l. AreEach (IsListed m) l others) (only says.infos rows) says.listed in
    each_once (IsListed m) infos others list (listed_once m) theirs are
