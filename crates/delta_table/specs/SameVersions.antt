-- What a log says depends on its versions alone.
use Rattle.std.proofs.Common.{◌≡◌, inl, inr, ℕ, zero, suc, List, Option, sym, ◌∙◌, ⊎_elim}
use Rattle.std.specs.FinMap as map
use Rattle.lake_store.specs.Disk.{Files}
use Rattle.lake_store.specs.Runs.{IsIn}
use Rattle.table_history.specs.Row.{Row}
use Rattle.table_history.specs.declared.table.Table.{Table}
use Rattle.delta_live.specs.Live.{PartColumns}
use Rattle.delta_log.specs.declared.commit.DeltaCommit.{DeltaCommit}
use Rattle.delta_log.specs.declared.error.DeltaError.{DeltaError}
use Rattle.delta_table.specs.Log.{HasLiveRows, IsLiveBefore, IsLogBy, IsTaken, SaysCommit}
use Rattle.delta_table.specs.Refusals.{IsLarge, IsLogRefusal, IsStepRefusal, IsUnfit, IsUnreadable, StopsAt}
use Rattle.delta_table.specs.Versions.{HasVersion, HoldsVersion, IsVersionPath, log_folder}
use Rattle.delta_table.specs.declared.error.LogError.{LogError}
use Rattle.delta_table.specs.declared.error.LogError.TheVariants as error

-- The two have the same versions.
abbrev pub SameVersions : Files → Files → Type 0
SameVersions a b = (path : List ℕ) (version : ℕ) → IsVersionPath path version → map.get b path ≡ map.get a path

pub versions_sym : (a b : Files) → SameVersions a b → SameVersions b a
versions_sym a b same path version is = sym (same path version is)

pub version_in : (path : List ℕ) (version : ℕ) → IsVersionPath path version → IsIn log_folder path
version_in path version p = (p.name, p.split)

-- All versions lie in the log's folder.
pub own_versions : (a b : Files) → ((path : List ℕ) → IsIn log_folder path → map.get b path ≡ map.get a path) → SameVersions a b
own_versions a b same path version is = same path (version_in path version is)

module _ (a b : Files) (same : SameVersions a b) where
  pub holds_too : (version : ℕ) (bytes : List ℕ) → HoldsVersion a version bytes → HoldsVersion b version bytes
  holds_too version bytes h = record { path = h.path; is = h.is; there = same h.path version h.is ∙ h.there }

  pub has_too : (version : ℕ) → HasVersion a version → HasVersion b version
  has_too version h = (h.0, holds_too version h.0 h.1)

  pub says_too : (version : ℕ) (c : DeltaCommit) → SaysCommit a version c → SaysCommit b version c
  says_too version c h = record { bytes = h.bytes; holds = holds_too version h.bytes h.holds; readable = h.readable }

  pub log_too : (Taken : DeltaCommit → Option Table → Table → Type 0) (n : ℕ) (table : Option Table) → IsLogBy Taken a n table → IsLogBy Taken b n table
  log_too Taken zero table h = h
  log_too Taken (suc n) table h = (h.0, log_too Taken n h.0 h.1, h.2, says_too n h.2 h.3, h.4, h.5, h.6)

-- live rows
module _ (a b : Files) (same : SameVersions a b) where
  live_too : (count : ℕ) (columns : PartColumns) (row : Row) → IsLiveBefore a count columns row → IsLiveBefore b count columns row
  live_too count columns row h = record {
    version = h.version;
    within = h.within;
    commit = h.commit;
    says = says_too a b same h.version h.commit h.says;
    action = h.action;
    acts = h.acts;
    adds = h.adds;
    newest = λ later c after before said. h.newest later c after before (says_too b a (versions_sym a b same) later c said);
  }

pub live_rows_too : (a b : Files) → SameVersions a b → (count : ℕ) (table : Table) → HasLiveRows a count table → HasLiveRows b count table
live_rows_too a b same count table h = record {
  columns = h.columns;
  kinds = h.kinds;
  rows = λ row. (
    (λ there. live_too a b same count h.columns row ((h.rows row).0 there)),
    (λ live. (h.rows row).1 (live_too b a (versions_sym a b same) count h.columns row live)),
  );
}

-- refusals
module _ (a b : Files) (same : SameVersions a b) where
  lacks_too : (version : ℕ) → ¬ HasVersion a version → ¬ HasVersion b version
  lacks_too version none has = none (has_too b a (versions_sym a b same) version has)

  pub large_too : (version : ℕ) → IsLarge a version → IsLarge b version
  large_too version h = (h.0, holds_too a b same version h.0 h.1, h.2, h.3)

  pub unreadable_too : (version : ℕ) (e : DeltaError) → IsUnreadable a version e → IsUnreadable b version e
  unreadable_too version e h = (h.0, holds_too a b same version h.0 h.1, h.2, h.3)

  pub unfit_too : (version : ℕ) (base : Option Table) (e : DeltaError) → IsUnfit a version base e → IsUnfit b version base e
  unfit_too version base e h = (h.0, says_too a b same version h.0 h.1, h.2)

  step_too : (version : ℕ) (base : Option Table) (e : LogError) → IsStepRefusal a version base e → IsStepRefusal b version base e
  step_too version base error.Memory h = h
  step_too version base error.StoreFault h = h
  step_too version base error.ManyNames h = h
  step_too version base error.ManyCommits h = h
  step_too version base (error.Missing v) h = (h.0, lacks_too version h.1)
  step_too version base (error.Large v) h = (h.0, large_too version h.1)
  step_too version base (error.Refused v e) h = (h.0, ⊎_elim (λ unread. inl (unreadable_too version e unread)) (λ unfit. inr (unfit_too version base e unfit)) h.1)

  stops_too : (newest : ℕ) (e : LogError) → StopsAt a newest e → StopsAt b newest e
  stops_too newest e h = (h.0, h.1, h.2, log_too a b same IsTaken h.0 h.1 h.3, step_too h.0 h.1 e h.4)

  pub log_refusal_too : (newest : ℕ) (e : LogError) → IsLogRefusal a newest e → IsLogRefusal b newest e
  log_refusal_too newest error.Memory h = h
  log_refusal_too newest error.StoreFault h = h
  log_refusal_too newest error.ManyNames h = h
  log_refusal_too newest error.ManyCommits h = h
  log_refusal_too newest (error.Missing v) h = (h.0, stops_too newest (error.Missing v) h.1)
  log_refusal_too newest (error.Large v) h = (h.0, stops_too newest (error.Large v) h.1)
  log_refusal_too newest (error.Refused v e) h = (h.0, stops_too newest (error.Refused v e) h.1)
