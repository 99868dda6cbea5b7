-- What is said of an Iceberg table's files depends on the folder of its metadata alone.
use Rattle.std.proofs.Common.{◌≡◌, inl, inr, ◌<◌, ◌≤◌, ℕ, List, length, refl, sym, subst}
use Rattle.lake_basics.specs.declared.limits.TheConstants.{MAX_NAMES}
use Rattle.lake_store.specs.Disk.{Files, names_in}
use Rattle.table_history.specs.declared.table.Table.{Table}
use Rattle.iceberg_metadata.specs.declared.metadata.Metadata.{Metadata}
use Rattle.iceberg_metadata.specs.declared.metadata.Snapshot.{Snapshot}
use Rattle.iceberg_table.specs.Folder.{HasVersion, IsNamed, IsNewest, metadata_folder, version_path}
use Rattle.iceberg_table.specs.OwnFolder.{metadata_too, read_as_too, snapshot_refusal_too, table_too, version_refusal_too, version_within}
use Rattle.source_core.specs.declared.error.SourceError.{SourceError}
use Rattle.source_core.specs.declared.head.Head.{Head}
use Rattle.target_core.specs.Folders.{SameIn}
use Rattle.target_core.specs.FolderLemmas.{names_own, same_back}
use Rattle.std.proofs.Common.{◌∙◌}
use Rattle.source_iceberg.specs.Heads.{HasNoName, IsAbsent, IsCurrent, IsIcebergHead, IsNewestMetadata, IsTableAtHead, StandsForMetadata, StatesMetadata}
use Rattle.source_iceberg.specs.Reading.{HasFewNames, HasManyNames, HasOtherNames, IsRefusedSnapshot, IsRefusedVersion, ShowsAtHead, ShowsFromScratch, TellsNames}

names_same : (a b : Files) → SameIn metadata_folder a b → names_in b metadata_folder ≡ names_in a metadata_folder
names_same a b same = names_own metadata_folder (λ name. (name, refl)) a b same

few_own : (a b : Files) → SameIn metadata_folder a b → HasFewNames a → HasFewNames b
few_own a b same few = subst (λ (names : List (List ℕ)). length names ≤ MAX_NAMES) (sym (names_same a b same)) few

-- ---- the newest metadata

has_own : (a b : Files) → SameIn metadata_folder a b → (version : ℕ) → HasVersion a version → HasVersion b version
has_own a b same version h = subst (λ (names : List (List ℕ)). IsNamed names version) (sym (names_same a b same)) h

pub newest_own : (a b : Files) → SameIn metadata_folder a b → (version : ℕ) → IsNewest (HasVersion a) version → IsNewest (HasVersion b) version
newest_own a b same version h = subst (λ (names : List (List ℕ)). IsNewest (IsNamed names) version) (sym (names_same a b same)) h

pub newest_metadata_own : (a b : Files) → SameIn metadata_folder a b → (version : ℕ) (m : Metadata) → IsNewestMetadata a version m → IsNewestMetadata b version m
newest_metadata_own a b same version m h = record { newest = newest_own a b same version h.newest; says = metadata_too a b same version m h.says }

pub states_own : (a b : Files) → SameIn metadata_folder a b → (version : ℕ) (m : Metadata) → StatesMetadata a version m → StatesMetadata b version m
states_own a b same version m h = record {
  newest = newest_own a b same version h.newest;
  bytes = h.bytes;
  holds = same (version_path version) (version_within version) ∙ h.holds;
  readings = h.readings;
  text = h.text;
}

stands_own : (a b : Files) → SameIn metadata_folder a b → (version : ℕ) (m : Metadata) → StandsForMetadata a version m → StandsForMetadata b version m
unfolding states_own
stands_own a b same version m h = record { states = states_own a b same version m h.states; supported = h.supported }

pub absent_own : (a b : Files) → SameIn metadata_folder a b → IsAbsent a → IsAbsent b
absent_own a b same (inl h) = inl (record { versions = λ version has. h.versions version (has_own b a (same_back metadata_folder a b same) version has); names = subst HasNoName (sym (names_same a b same)) h.names })
absent_own a b same (inr h) = inr (h.0, h.1, stands_own a b same h.0 h.1 h.2, h.3)

current_own : (a b : Files) → SameIn metadata_folder a b → (version : ℕ) (m : Metadata) (s : Snapshot) → IsCurrent a version m s → IsCurrent b version m s
current_own a b same version m s h = record { metadata = newest_metadata_own a b same version m h.metadata; held = h.held }

pub head_own : (a b : Files) (head : Head) → SameIn metadata_folder a b → IsIcebergHead a head → IsIcebergHead b head
head_own a b head same h = record {
  version = h.version;
  metadata = h.metadata;
  snapshot = h.snapshot;
  current = current_own a b same h.version h.metadata h.snapshot h.current;
  position = h.position;
  pending = h.pending;
  table = h.table;
  few = few_own a b same h.few;
}

-- ---- the table

pub table_own : (a b : Files) (table : Table) → SameIn metadata_folder a b → IsTableAtHead a table → IsTableAtHead b table
table_own a b table same h = record {
  version = h.version;
  metadata = h.metadata;
  snapshot = h.snapshot;
  current = current_own a b same h.version h.metadata h.snapshot h.current;
  is = table_too a b same h.metadata h.snapshot table h.is;
  read = (h.read.0, read_as_too a b same h.metadata h.snapshot h.read.0 h.read.1);
}

-- ---- causes

pub refused_own : (a b : Files) → SameIn metadata_folder a b → (m : Metadata) (version : ℕ) (s : Snapshot) (e : SourceError) → IsRefusedSnapshot a m version s e → IsRefusedSnapshot b m version s e
refused_own a b same m version s e h = (h.0, snapshot_refusal_too a b same m version s h.0 h.1, h.2)

many_own : (a b : Files) → SameIn metadata_folder a b → (e : SourceError) → HasManyNames a e → HasManyNames b e
many_own a b same e h = (subst (λ (names : List (List ℕ)). MAX_NAMES < length names) (sym (names_same a b same)) h.0, h.1)

other_own : (a b : Files) → SameIn metadata_folder a b → (e : SourceError) → HasOtherNames a e → HasOtherNames b e
other_own a b same e h = (λ version has. h.0 version (has_own b a (same_back metadata_folder a b same) version has), subst (λ (names : List (List ℕ)). TellsNames names e) (sym (names_same a b same)) h.1)

version_own : (a b : Files) → SameIn metadata_folder a b → (version : ℕ) (e : SourceError) → IsRefusedVersion a version e → IsRefusedVersion b version e
version_own a b same version e h = (h.0, version_refusal_too a b same version h.0 h.1, h.2)

pub at_head_own : (a b : Files) (e : SourceError) → SameIn metadata_folder a b → ShowsAtHead a e → ShowsAtHead b e
at_head_own a b e same (inl h) = inl (many_own a b same e h)
at_head_own a b e same (inr (few, inl h)) = inr (few_own a b same few, inl (other_own a b same e h))
at_head_own a b e same (inr (few, inr h)) = inr (few_own a b same few, inr (h.0, newest_own a b same h.0 h.1, version_own a b same h.0 e h.2))

pub from_scratch_own : (a b : Files) (e : SourceError) → SameIn metadata_folder a b → ShowsFromScratch a e → ShowsFromScratch b e
from_scratch_own a b e same (inl h) = inl (at_head_own a b e same h)
from_scratch_own a b e same (inr h) = inr (h.0, h.1, h.2, current_own a b same h.0 h.1 h.2 h.3, refused_own a b same h.1 h.0 h.2 e h.4)
