-- What is said of an Iceberg target's files depends on its own folder alone.
use Rattle.std.proofs.Common.{◌≡◌, inl, inr, ℕ, ◌<◌, List, length, Option, sym, ap, subst}
use Rattle.std.specs.Prelude.{IsSome, filter_map, fold, max}
use Rattle.lake_basics.specs.declared.limits.TheConstants.{MAX_NAMES}
use Rattle.lake_store.specs.Disk.{Files}
use Rattle.table_history.specs.declared.kind.Kind.{Kind}
use Rattle.table_history.specs.declared.limit.LimitKind.{LimitKind}
use Rattle.table_history.specs.declared.table.Commit.{Commit}
use Rattle.iceberg_metadata.specs.declared.metadata.Metadata.{Metadata}
use Rattle.iceberg_table.specs.Folder.{HasVersion, IsNewest, metadata_folder, path_of}
use Rattle.iceberg_table.specs.OwnFolder.{metadata_too, snapshot_refusal_too, version_refusal_too}
use Rattle.iceberg_table.specs.declared.error.IcebergError.{IcebergError}
use Rattle.iceberg_version.specs.KeptEnd.{end_of}
use Rattle.iceberg_version.specs.Writing.{Passes}
use Rattle.iceberg_version.specs.declared.kept.IcebergKept.{IcebergKept}
use Rattle.target_core.specs.Folders.{SameIn}
use Rattle.target_core.specs.FolderLemmas.{names_own, same_back}
use Rattle.target_core.specs.Views.{Origin}
use Rattle.target_iceberg.specs.Inspecting.{IsCrowded, IsFirstStray, IsForeign, IsNewestRead, IsNotOurs, IsRefusedSnapshot, IsRefusedVersion, IsStray}
use Rattle.target_iceberg.specs.Reading.{commits_in, version_named}
use Rattle.target_iceberg.specs.SameLemmas.{newest_too}
use Rattle.target_iceberg.specs.SettledLemmas.{name_in, own_reached}

pub commits_own : (a b : Files) → SameIn metadata_folder a b → commits_in b ≡ commits_in a
commits_own a b same = ap (λ (names : List (List ℕ)). fold max 0 (filter_map version_named names)) (names_own metadata_folder name_in a b same)

-- The passed numbers are told by what is kept alone.
pub passes_own : (kept : IcebergKept) (a b : Files) (origin : Origin) (now : ℕ) (commits : List Commit) (which : LimitKind) (number : ℕ) → SameIn metadata_folder a b → Passes (end_of kept) origin now commits which number → Passes (end_of kept) origin now commits which number
passes_own kept a b origin now commits which number same passes = passes

-- ---- foreign

module _ (a b : Files) (same : SameIn metadata_folder a b) where
  newest_own : (version : ℕ) → IsNewest (HasVersion a) version → IsNewest (HasVersion b) version
  newest_own version h = newest_too a b (own_reached a b same) version h

  stray_own : (name : List ℕ) → IsStray a name → IsStray b name
  stray_own name h = record { proper = h.proper; there = subst (λ (o : Option (List ℕ)). IsSome o) (sym (same (path_of name) (name_in name))) h.there; other = h.other }

  refused_version_own : (version : ℕ) (e : IcebergError) → IsRefusedVersion a version e → IsRefusedVersion b version e
  refused_version_own version e h = (newest_own version h.0, version_refusal_too a b same version e h.1)

  newest_read_own : (version : ℕ) (m : Metadata) → IsNewestRead a version m → IsNewestRead b version m
  newest_read_own version m h = (newest_own version h.0, metadata_too a b same version m h.1)

  not_ours_own : (source : Kind) (path : List ℕ) → IsNotOurs source a path → IsNotOurs source b path
  not_ours_own source path h = record { version = h.version; metadata = h.metadata; newest = newest_read_own h.version h.metadata h.newest; is = h.is; cause = h.cause }

  refused_snapshot_own : (source : Kind) (e : IcebergError) → IsRefusedSnapshot source a e → IsRefusedSnapshot source b e
  refused_snapshot_own source e h = record {
    version = h.version;
    metadata = h.metadata;
    newest = newest_read_own h.version h.metadata h.newest;
    mark = h.mark;
    snapshot = h.snapshot;
    form = h.form;
    refused = snapshot_refusal_too a b same h.metadata h.version h.snapshot e h.refused;
  }

first_stray_own : (a b : Files) (path : List ℕ) → SameIn metadata_folder a b → IsFirstStray a path → IsFirstStray b path
first_stray_own a b path same h = record {
  versions = λ version there. h.versions version ((own_reached a b same).versions version there);
  name = h.name;
  is = h.is;
  stray = stray_own a b same h.name h.stray;
  first = λ other stray. h.first other (stray_own b a (same_back metadata_folder a b same) other stray);
}

pub foreign_own : (source : Kind) (a b : Files) (path : List ℕ) → SameIn metadata_folder a b → IsForeign source a path → IsForeign source b path
foreign_own source a b path same (inl h) = inl (first_stray_own a b path same h)
foreign_own source a b path same (inr (inl h)) = inr (inl (h.0, h.1, refused_version_own a b same h.0 h.1 h.2, h.3))
foreign_own source a b path same (inr (inr (inl h))) = inr (inr (inl (not_ours_own a b same source path h)))
foreign_own source a b path same (inr (inr (inr h))) = inr (inr (inr (h.0, refused_snapshot_own a b same source h.0 h.1, h.2)))

-- ---- numbers that are passed

pub crowded_own : (source : Kind) (a b : Files) (which : LimitKind) (number : ℕ) → SameIn metadata_folder a b → IsCrowded source a which number → IsCrowded source b which number
crowded_own source a b which number same (inl h) = inl (h.0, h.1, subst (λ (names : List (List ℕ)). MAX_NAMES < length names) (sym (names_own metadata_folder name_in a b same)) h.2)
crowded_own source a b which number same (inr (inl h)) = inr (inl (h.0, h.1, refused_version_own a b same h.0 h.1 h.2, h.3))
crowded_own source a b which number same (inr (inr h)) = inr (inr (h.0, refused_snapshot_own a b same source h.0 h.1, h.2))
