-- What is said of a Delta target's files depends on its own folder alone.
use Rattle.std.proofs.Common.{◌≡◌, inl, inr, ℕ, suc, ◌<◌, List, length, Option, Some, sym, ap, subst}
use Rattle.std.specs.Prelude.{IsSome, filter_map}
use Rattle.lake_store.specs.Disk.{Files}
use Rattle.lake_basics.specs.declared.limits.TheConstants.{MAX_COMMITS, MAX_NAMES}
use Rattle.table_history.specs.declared.kind.Kind.{Kind}
use Rattle.table_history.specs.declared.limit.LimitKind.{LimitKind}
use Rattle.table_history.specs.declared.table.Table.{Table}
use Rattle.delta_table.specs.Log.{IsStep, IsTaken}
use Rattle.delta_table.specs.SameVersions.{has_too, large_too, log_too, own_versions, says_too, unreadable_too}
use Rattle.delta_table.specs.Versions.{log_folder}
use Rattle.target_core.specs.Folders.{SameIn}
use Rattle.target_core.specs.FolderLemmas.{names_own, same_back}
use Rattle.target_delta.specs.Inspecting.{GoesPast, IsCrowded, IsFaulty, IsFirstFaulty, IsFirstStray, IsForeign, IsStray, IsUnmarked, PassesIn}
use Rattle.target_delta.specs.Names.{path_of}
use Rattle.target_delta.specs.Reading.{commits_in, version_named}
use Rattle.target_delta.specs.NameLemmas.{name_in}
use Rattle.target_delta.specs.ReadingLemmas.{marked_too, versions_too}

pub commits_own : (a b : Files) → SameIn log_folder a b → commits_in b ≡ commits_in a
commits_own a b same = ap (λ (names : List (List ℕ)). length (filter_map version_named names)) (names_own log_folder name_in a b same)

-- ---- foreign

stray_own : (a b : Files) → SameIn log_folder a b → (name : List ℕ) → IsStray a name → IsStray b name
stray_own a b same name h = record { proper = h.proper; there = subst (λ (o : Option (List ℕ)). IsSome o) (sym (same (path_of name) (name_in name))) h.there; other = h.other }

faulty_own : (a b : Files) → SameIn log_folder a b → (version : ℕ) (base : Option Table) → IsFaulty a version base → IsFaulty b version base
faulty_own a b same version base (inl missing) = inl (λ has. missing (has_too b a (own_versions b a (same_back log_folder a b same)) version has))
faulty_own a b same version base (inr (e, fault, inl h)) = inr (e, fault, inl (unreadable_too a b (own_versions a b same) version e h))
faulty_own a b same version base (inr (e, fault, inr h)) = inr (e, fault, inr (h.0, says_too a b (own_versions a b same) version h.0 h.1, h.2))

first_stray_own : (a b : Files) (path : List ℕ) → SameIn log_folder a b → IsFirstStray a path → IsFirstStray b path
first_stray_own a b path same h = record {
  versions = λ version has. h.versions version (has_too b a (own_versions b a (same_back log_folder a b same)) version has);
  name = h.name;
  is = h.is;
  stray = stray_own a b same h.name h.stray;
  first = λ other stray. h.first other (stray_own b a (same_back log_folder a b same) other stray);
}

first_faulty_own : (a b : Files) (path : List ℕ) → SameIn log_folder a b → IsFirstFaulty a path → IsFirstFaulty b path
first_faulty_own a b path same h = record {
  version = h.version;
  named = h.named;
  base = h.base;
  log = log_too a b (own_versions a b same) IsStep h.version h.base h.log;
  later = h.later;
  within = h.within;
  there = has_too a b (own_versions a b same) h.later h.there;
  faulty = faulty_own a b same h.version h.base h.faulty;
}

unmarked_own : (source : Kind) (a b : Files) (path : List ℕ) → SameIn log_folder a b → IsUnmarked source a path → IsUnmarked source b path
unmarked_own source a b path same h = record {
  newest = h.newest;
  named = h.named;
  versions = versions_too a b (own_versions a b same) (suc h.newest) h.versions;
  table = h.table;
  log = log_too a b (own_versions a b same) IsStep (suc h.newest) (Some h.table) h.log;
  unmarked = λ standing marked. h.unmarked standing (marked_too b a (own_versions b a (same_back log_folder a b same)) h.newest standing marked);
}

pub foreign_own : (source : Kind) (a b : Files) (path : List ℕ) → SameIn log_folder a b → IsForeign source a path → IsForeign source b path
foreign_own source a b path same (inl h) = inl (first_stray_own a b path same h)
foreign_own source a b path same (inr (inl h)) = inr (inl (first_faulty_own a b path same h))
foreign_own source a b path same (inr (inr h)) = inr (inr (unmarked_own source a b path same h))

-- ---- numbers that are passed

passes_in_own : (a b : Files) → SameIn log_folder a b → (version : ℕ) (base : Option Table) (which : LimitKind) (number : ℕ) → PassesIn a version base which number → PassesIn b version base which number
passes_in_own a b same version base which number (inl h) = inl (h.0, h.1, large_too a b (own_versions a b same) version h.2)
passes_in_own a b same version base which number (inr (is, inl h)) = inr (is, inl (unreadable_too a b (own_versions a b same) version _ h))
passes_in_own a b same version base which number (inr (is, inr h)) = inr (is, inr (h.0, says_too a b (own_versions a b same) version h.0 h.1, h.2))

past_own : (a b : Files) → SameIn log_folder a b → (count : ℕ) → GoesPast a count → GoesPast b count
past_own a b same count h = record { table = h.table; log = log_too a b (own_versions a b same) IsTaken count h.table h.log; next = has_too a b (own_versions a b same) count h.next }

pub crowded_own : (a b : Files) (which : LimitKind) (number : ℕ) → SameIn log_folder a b → IsCrowded a which number → IsCrowded b which number
crowded_own a b which number same (inl h) = inl (h.0, h.1, subst (λ (names : List (List ℕ)). MAX_NAMES < length names) (sym (names_own log_folder name_in a b same)) h.2)
crowded_own a b which number same (inr (inl h)) = inr (inl (h.0, h.1, past_own a b same MAX_COMMITS h.2))
crowded_own a b which number same (inr (inr h)) = inr (inr (h.0, h.1, h.2, log_too a b (own_versions a b same) IsTaken h.0 h.1 h.3, passes_in_own a b same h.0 h.1 which number h.4))
