-- An Iceberg target without a file that no version reaches.
use Rattle.std.proofs.Common.{◌≡◌, inl, inr, ⊎_elim, ℕ, List, sym, ap, subst, ◌∙◌}
use Rattle.std.specs.Prelude.{IsSome, is_some}
use Rattle.std.specs.FinMap as map
use Rattle.lake_store.specs.Disk.{Files}
use Rattle.lake_store.proofs.DiskLaws.{get-remove_here, get-remove_other, path_cases}
use Rattle.lake_store.proofs.OrderLaws.{names_in_listed}
use Rattle.table_history.specs.declared.kind.Kind.TheVariants.{Iceberg}
use Rattle.hudi_commit.proofs.OrderlyLaws.{there_none}
use Rattle.iceberg_table.specs.Folder.{HasVersion, metadata_folder, path_of}
use Rattle.target_core.specs.Step.{IsBefore}
use Rattle.target_core.specs.Views.{View}
use Rattle.target_iceberg.specs.IcebergMeaning.{iceberg_meaning}
use Rattle.target_iceberg.specs.Reached as target
use Rattle.target_iceberg.specs.Reading.{IsAbsent, Reads}
use Rattle.target_iceberg.specs.SameLemmas.{SameReached, carried_too, ours_too}
use Rattle.target_leftovers.specs.Loose.{IsLoose}
use Rattle.target_leftovers.specs.Reached.{IsReached, NamesList, NamesManifest}

-- what the target reaches is reached
list_too : (files : Files) (path : List ℕ) → target.NamesList files path → NamesList files path
list_too files path h = record { version = h.version; there = h.there; bytes = h.bytes; holds = h.holds; readings = h.readings; metadata = h.metadata; text = h.text; snapshot = h.snapshot; held = h.held; is = h.is }

manifest_too : (files : Files) (path : List ℕ) → target.NamesManifest files path → NamesManifest files path
unfolding list_too
manifest_too files path h = record { list = h.list; names = list_too files h.list h.names; bytes = h.bytes; holds = h.holds; infos = h.infos; rows = h.rows; info = h.info; row = h.row; is = h.is }

reached_too : (files : Files) (path : List ℕ) → target.IsReached files path → IsReached files path
reached_too files path (target.IsReached.metadata version there is) = IsReached.metadata version there is
reached_too files path (target.IsReached.list h) = IsReached.list (list_too files path h)
reached_too files path (target.IsReached.manifest h) = IsReached.manifest (manifest_too files path h)

module _ (files : Files) (path : List ℕ) (loose : IsLoose Iceberg files path) where
  abbrev after : Files
  after = map.remove files path

  there_before : (q : List ℕ) → IsSome (map.get after q) → IsSome (map.get files q)
  there_before q found = ⊎_elim
      (λ (same : q ≡ path). there_none after q found (ap (map.get after) same ∙ get-remove_here files path))
      (λ other. ap is_some (sym (get-remove_other files path q other)) ∙ found)
      (path_cases q path)

  version_before : (version : ℕ) → HasVersion after version → HasVersion files version
  version_before version h =
      let is = ((names_in_listed after metadata_folder).members h.0).0 h.1 in
      (h.0, ((names_in_listed files metadata_folder).members h.0).1 (is.0, there_before (path_of h.0) is.1), h.2)

  same : SameReached files after
  same = record {
    files = λ q reached. get-remove_other files path q (λ is. loose.leftover.leftover.unreached (reached_too files path (subst (λ (p : List ℕ). target.IsReached files p) is reached)));
    versions = version_before;
  }

  absent_after : IsAbsent files → IsAbsent after
  absent_after h = record {
    versions = λ version there. h.versions version (version_before version there);
    names = λ name proper found. h.names name proper (there_before (path_of name) found);
  }

pub reads_without : (new : List ℕ) (files : Files) (view : View) (path : List ℕ) → Reads files view → IsLoose Iceberg files path → IsBefore (iceberg_meaning new) view files (map.remove files path)
reads_without new files view path (inl h) loose = record { reads = inl (absent_after files path loose h.0, h.1); earlier = λ c change m le carried. carried_too files (map.remove files path) (same files path loose) new c change m carried }
reads_without new files view path (inr h) loose = record { reads = inr (ours_too files (map.remove files path) (same files path loose) view h); earlier = λ c change m le carried. carried_too files (map.remove files path) (same files path loose) new c change m carried }
