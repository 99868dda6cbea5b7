-- What an Iceberg table's versions reach in files that have some of the others' files.
use Rattle.std.proofs.Common.{◌≡◌, ℕ, List, Option, refl, sym, ap, subst, ◌∙◌}
use Rattle.std.specs.Prelude.{IsSome}
use Rattle.std.specs.FinMap as map
use Rattle.lake_store.specs.Disk.{Files}
use Rattle.lake_store.proofs.OrderLaws.{names_in_listed}
use Rattle.iceberg_table.specs.Files.{HoldsFile}
use Rattle.iceberg_table.specs.Folder.{HasVersion, metadata_folder, path_of, version_path}
use Rattle.target_leftovers.specs.Reached.{IsReached, NamesList, NamesManifest}

-- what the second files hold at these paths the first ones do too
module _ (a b : Files) (among : List ℕ → Type 0) (same : (path bytes : List ℕ) → among path → HoldsFile b path bytes → HoldsFile a path bytes)
    (has : (version : ℕ) → HasVersion b version → HasVersion a version) (versions : (version : ℕ) → HasVersion b version → among (version_path version)) (lists : (path : List ℕ) → NamesList b path → among path) where
  list_named : (path : List ℕ) → NamesList b path → NamesList a path
  list_named path h = record {
    version = h.version;
    there = has h.version h.there;
    bytes = h.bytes;
    holds = same (version_path h.version) h.bytes (versions h.version h.there) h.holds;
    readings = h.readings;
    metadata = h.metadata;
    text = h.text;
    snapshot = h.snapshot;
    held = h.held;
    is = h.is;
  }

  manifest_named : (path : List ℕ) → NamesManifest b path → NamesManifest a path
  unfolding list_named
  manifest_named path h = record {
    list = h.list;
    names = list_named h.list h.names;
    bytes = h.bytes;
    holds = same h.list h.bytes (lists h.list h.names) h.holds;
    infos = h.infos;
    rows = h.rows;
    info = h.info;
    row = h.row;
    is = h.is;
  }

  reached_there : (path : List ℕ) → IsReached b path → IsReached a path
  reached_there path (IsReached.metadata version there is) = IsReached.metadata version (has version there) is
  reached_there path (IsReached.list h) = IsReached.list (list_named path h)
  reached_there path (IsReached.manifest h) = IsReached.manifest (manifest_named path h)

has_there : (a b : Files) (version : ℕ) → (there : HasVersion b version) → ((name : List ℕ) → IsSome (map.get b (path_of name)) → IsSome (map.get a (path_of name))) → HasVersion a version
has_there a b version there more =
    let is = ((names_in_listed b metadata_folder).members there.0).0 there.1 in
    (there.0, ((names_in_listed a metadata_folder).members there.0).1 (is.0, more there.0 is.1), there.2)

-- Fewer files reach no more.
pub reached_of_fewer : (a b : Files) → ((path bytes : List ℕ) → HoldsFile b path bytes → HoldsFile a path bytes) → ((path : List ℕ) → IsSome (map.get b path) → IsSome (map.get a path)) → (path : List ℕ) → IsReached b path → IsReached a path
reached_of_fewer a b same more path h =
    reached_there a b (λ path. Unit {0}) (λ path bytes among holds. same path bytes holds)
    (λ version there. has_there a b version there (λ name. more (path_of name))) (λ version there. tt) (λ path named. tt) path h

-- As long as what is reached stays, it is reached.
pub reached_stays : (a b : Files) → ((path : List ℕ) → IsReached a path → map.get b path ≡ map.get a path) → (path : List ℕ) → IsReached a path → IsReached b path
reached_stays a b same path h =
    let version_is : (version : ℕ) → HasVersion a version → map.get b (version_path version) ≡ map.get a (version_path version) = λ version there. same (version_path version) (IsReached.metadata version there refl) in
    reached_there b a (λ path. IsReached a path) (λ path bytes reached holds. same path reached ∙ holds)
    (λ version there.
    let is = ((names_in_listed a metadata_folder).members there.0).0 there.1 in
    (there.0, ((names_in_listed b metadata_folder).members there.0).1 (is.0, subst (λ (o : Option (List ℕ)). IsSome o) (sym (ap (map.get b) (ap path_of there.2.spelled) ∙ version_is version there ∙ ap (map.get a) (sym (ap path_of there.2.spelled)))) is.1), there.2))
    (λ version there. IsReached.metadata version there refl) (λ path named. IsReached.list named) path h
