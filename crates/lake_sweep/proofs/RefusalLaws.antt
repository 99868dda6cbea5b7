-- Why an Iceberg table's versions aren't read.
use Rattle.std.proofs.Common.{◌≡◌, ◌⊎◌, inl, ℕ, suc, ◌+◌, ◌<◌, List, ◌∷◌, ◌++◌, length, map, take, drop, get_or, Contains, refl, sym, ap, ◌∙◌, drop-cons}
use Rattle.std.specs.Prelude.{◌↔◌}
use Rattle.std.specs.List.Sorted.{IsStrictlySortedBy}
use Rattle.std.specs.Ordering.{nat_cmp}
use Rattle.std.proofs.lemmas.List.{take-append-drop}
use Rattle.std.proofs.lemmas.List.Elements.{Contains-append_right, Contains-get_or}
use Rattle.lake_store.specs.Disk.{Files}
use Rattle.iceberg_metadata.specs.declared.metadata.Metadata.{Metadata}
use Rattle.iceberg_table.specs.Errors.{IsFileFault, IsRefusal}
use Rattle.iceberg_table.specs.Folder.{HasVersion, version_path}
use Rattle.iceberg_table.specs.Lists.{IsListFault}
use Rattle.iceberg_table.specs.Refusals.{IsMetadataFault}
use Rattle.iceberg_table.specs.declared.error.Fault.TheVariants as fault
use Rattle.iceberg_table.specs.declared.error.IcebergError.{IcebergError}
use Rattle.iceberg_table.specs.declared.error.IcebergError.TheVariants as iceberg
use Rattle.lake_sweep.specs.Reading.{HasRead, HasReadVersions, ListOf, list_at}
use Rattle.lake_sweep.specs.Refusals.{HasCause}
use Rattle.lake_sweep.specs.Told.{told_of}
use Rattle.lake_sweep.specs.Versions.{HasListRefused, IsFirstRefused, IsListRefused, IsOneRefused, IsVersionRefused}
use Rattle.lake_sweep.specs.declared.error.SweepError.{SweepError}
use Rattle.lake_sweep.specs.declared.reached.Reached.{Reached}
use Rattle.lake_sweep.proofs.ReadingLaws.{mapped_in, version_read}
use Rattle.lake_sweep.proofs.VersionLaws.{earlier_before}

-- ---- what is told of a refusal has its cause

module _ (Shows : IcebergError → Type 0) (P : SweepError → Type 0) (so : (told : IcebergError) → Shows told → P (told_of told)) where
  pub told_cause : (told : IcebergError) → IsRefusal Shows told → HasCause P (told_of told)
  told_cause iceberg.Memory h = tt
  told_cause iceberg.StoreFault h = tt
  told_cause iceberg.ManyNames h = so iceberg.ManyNames h
  told_cause (iceberg.Missing path) h = so (iceberg.Missing path) h
  told_cause (iceberg.Large path) h = so (iceberg.Large path) h
  told_cause (iceberg.Refused path fault.Malformed) h = so (iceberg.Refused path fault.Malformed) h
  told_cause (iceberg.Refused path (fault.Unsupported feature)) h = so (iceberg.Refused path (fault.Unsupported feature)) h
  told_cause (iceberg.Refused path (fault.Limit which)) h = so (iceberg.Refused path (fault.Limit which)) h

pub version_cause : (files : Files) (version : ℕ) (told : IcebergError) → IsRefusal (IsFileFault files (version_path version) IsMetadataFault) told → HasCause (IsVersionRefused files version) (told_of told)
version_cause files version told h = told_cause (IsFileFault files (version_path version) IsMetadataFault) (IsVersionRefused files version) (λ other shows. inl (other, shows, refl)) told h

pub list_cause : (files : Files) (m : Metadata) (path : List ℕ) (told : IcebergError) → IsRefusal (IsFileFault files path (IsListFault m)) told → HasCause (IsListRefused files m path) (told_of told)
list_cause files m path told h = told_cause (IsFileFault files path (IsListFault m)) (IsListRefused files m path) (λ other shows. (other, shows, refl)) told h

-- ---- the first file at fault

-- a version's list at a place, where those before it were read
pub one_refused : (files : Files) (lists : List ListOf) (m : Metadata) (paths : List (List ℕ)) (i : ℕ) (p : List ℕ) (r : Reached) → HasRead files (lists ++ map (list_at m) (take i paths)) r
    → i < length paths → p ≡ get_or paths i p → (e : SweepError) → IsListRefused files m p e → IsOneRefused files m paths e
one_refused files lists m paths i p r has lt is e refused = record {
  front = take i paths;
  path = p;
  behind = drop (suc i) paths;
  split = sym (take-append-drop i paths) ∙ ap (λ (l : List (List ℕ)). take i paths ++ l) (drop-cons paths i p lt ∙ ap (λ (q : List ℕ). q ∷ drop (suc i) paths) (sym is));
  before = λ q there. has.read (list_at m q) (Contains-append_right lists (map (list_at m) (take i paths)) (list_at m q) (mapped_in m (take i paths) q there));
  refused = refused;
}

-- a version at a place, where those before it were read
pub first_refused : (files : Files) (versions : List ℕ) (i : ℕ) (r : Reached) → IsStrictlySortedBy nat_cmp versions → ((v : ℕ) → Contains versions v ↔ HasVersion files v) → i < length versions → HasReadVersions files (take i versions) r
    → (e : SweepError) → IsVersionRefused files (get_or versions i 0) e ⊎ HasListRefused files (get_or versions i 0) e → IsFirstRefused files e
first_refused files versions i r rising all lt has e refused = record {
  version = get_or versions i 0;
  there = (all (get_or versions i 0)).0 (Contains-get_or versions i 0 lt);
  before = λ w low there. version_read files (take i versions) r has w (earlier_before versions i rising lt w ((all w).1 there) low);
  refused = refused;
}
