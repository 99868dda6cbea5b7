-- What is said of a Delta table's files depends on its log's folder alone.
use Rattle.std.proofs.Common.{◌≡◌, inl, inr, ◌+◌, ◌<◌, ◌≤◌, ℕ, zero, suc, List, [], ◌∷◌, length, Option, Some, None, refl, sym, subst}
use Rattle.lake_basics.specs.declared.limits.TheConstants.{MAX_NAMES}
use Rattle.lake_store.specs.Disk.{Files, names_in}
use Rattle.table_history.specs.declared.table.Commit.{Commit}
use Rattle.table_history.specs.declared.table.Table.{Table}
use Rattle.delta_log.specs.declared.commit.DeltaCommit.{DeltaCommit}
use Rattle.delta_table.specs.Log.{IsTaken, SaysCommit}
use Rattle.delta_table.specs.Refusals.{IsVersionRefusal}
use Rattle.delta_table.specs.SameVersions.{has_too, large_too, live_rows_too, log_refusal_too, log_too, own_versions, says_too, unreadable_too}
use Rattle.delta_table.specs.Versions.{HasVersion, log_folder}
use Rattle.delta_table.specs.declared.error.LogError.{LogError}
use Rattle.delta_table.specs.declared.error.LogError.TheVariants as log
use Rattle.source_core.specs.declared.error.SourceError.{SourceError}
use Rattle.source_core.specs.declared.head.Head.{Head}
use Rattle.target_core.specs.Folders.{SameIn}
use Rattle.target_core.specs.FolderLemmas.{names_own, same_back}
use Rattle.source_delta.specs.Heads.{IsAbsent, IsDeltaHead, IsNewest, IsTableAtHead, IsTableId}
use Rattle.source_delta.specs.Reading.{HasEach, HasFewNames, HasManyNames, IsLastMissing, IsRefusedLog, LacksVersion, ShowsAtHead, ShowsFromScratch}
use Rattle.source_delta.specs.Since.{AreCommits, HaveActions, IsCommitOf, IsReached, IsRefusedBehind, IsSince, Reaches, ShowsFromPosition, StopsBehind}

has_own : (a b : Files) → SameIn log_folder a b → (version : ℕ) → HasVersion a version → HasVersion b version
has_own a b same version has = has_too a b (own_versions a b same) version has

has_back : (a b : Files) → SameIn log_folder a b → (version : ℕ) → HasVersion b version → HasVersion a version
has_back a b same version has = has_own b a (same_back log_folder a b same) version has

-- ---- the head

pub absent_own : (a b : Files) → SameIn log_folder a b → IsAbsent a → IsAbsent b
absent_own a b same none version has = none version (has_back a b same version has)

newest_own : (a b : Files) (newest : ℕ) → SameIn log_folder a b → IsNewest a newest → IsNewest b newest
newest_own a b newest same is = record { there = has_own a b same newest is.there; last = λ version has. is.last version (has_back a b same version has) }

id_own : (a b : Files) (id : Option (List ℕ)) → SameIn log_folder a b → IsTableId a id → IsTableId b id
id_own a b None same none = λ has. none (has_back a b same 0 has)
id_own a b (Some id) same h =
    let versions = own_versions a b same in
    (h.0, h.1, h.2, says_too a b versions 0 h.0 h.3, h.4, h.5, log_too a b versions IsTaken 1 (Some h.2) h.6)

log_names : (a b : Files) → SameIn log_folder a b → names_in b log_folder ≡ names_in a log_folder
log_names a b same = names_own log_folder (λ name. (name, refl)) a b same

few_own : (a b : Files) → SameIn log_folder a b → HasFewNames a → HasFewNames b
few_own a b same few = subst (λ (names : List (List ℕ)). length names ≤ MAX_NAMES) (sym (log_names a b same)) few

pub head_own : (a b : Files) (head : Head) → SameIn log_folder a b → IsDeltaHead a head → IsDeltaHead b head
head_own a b head same h = record {
  newest = h.newest;
  is = newest_own a b h.newest same h.is;
  position = h.position;
  pending = h.pending;
  table = id_own a b head.table same h.table;
  few = few_own a b same h.few;
}

-- ---- the table

pub table_own : (a b : Files) (table : Table) → SameIn log_folder a b → IsTableAtHead a table → IsTableAtHead b table
table_own a b table same h =
    let versions = own_versions a b same in
    record {
      newest = h.newest;
      is = newest_own a b h.newest same h.is;
      log = log_too a b versions IsTaken (h.newest + 1) (Some table) h.log;
      live = live_rows_too a b versions (h.newest + 1) table h.live;
    }

-- ---- causes

many_own : (a b : Files) (e : SourceError) → SameIn log_folder a b → HasManyNames a e → HasManyNames b e
many_own a b e same h = (subst (λ (names : List (List ℕ)). MAX_NAMES < length names) (sym (log_names a b same)) h.0, h.1)

refused_own : (a b : Files) (newest : ℕ) (e : SourceError) → SameIn log_folder a b → IsRefusedLog a newest e → IsRefusedLog b newest e
refused_own a b newest e same h = (h.0, log_refusal_too a b (own_versions a b same) newest h.0 h.1, h.2)

missing_own : (a b : Files) (newest version : ℕ) → SameIn log_folder a b → IsLastMissing a newest version → IsLastMissing b newest version
missing_own a b newest version same h = record { within = h.within; missing = λ has. h.missing (has_back a b same version has); behind = λ later after up. has_own a b same later (h.behind later after up) }

lacks_own : (a b : Files) (newest : ℕ) (e : SourceError) → SameIn log_folder a b → LacksVersion a newest e → LacksVersion b newest e
lacks_own a b newest e same h = (h.0, h.1, missing_own a b newest h.0 same h.2, h.3, h.4)

each_own : (a b : Files) (newest : ℕ) → SameIn log_folder a b → HasEach a newest → HasEach b newest
each_own a b newest same each version within = has_own a b same version (each version within)

pub at_head_own : (a b : Files) (e : SourceError) → SameIn log_folder a b → ShowsAtHead a e → ShowsAtHead b e
at_head_own a b e same (inl h) = inl (many_own a b e same h)
at_head_own a b e same (inr (few, first)) = inr (few_own a b same few, (has_own a b same 0 first.0, refused_own a b 0 e same first.1))

pub from_scratch_own : (a b : Files) (e : SourceError) → SameIn log_folder a b → ShowsFromScratch a e → ShowsFromScratch b e
from_scratch_own a b e same (inl h) = inl (many_own a b e same h)
from_scratch_own a b e same (inr (few, newest, is, inl h)) = inr (few_own a b same few, newest, newest_own a b newest same is, inl (lacks_own a b newest e same h))
from_scratch_own a b e same (inr (few, newest, is, inr h)) = inr (few_own a b same few, newest, newest_own a b newest same is, inr (each_own a b newest same h.0, refused_own a b newest e same h.1))

-- ---- the commits since a position

module _ (a b : Files) (same : SameIn log_folder a b) where
  says_own : (version : ℕ) (c : DeltaCommit) → SaysCommit a version c → SaysCommit b version c
  says_own version c h = says_too a b (own_versions a b same) version c h

  is_reached_own : (position : List ℕ) (version newest : ℕ) → IsReached a position version newest → IsReached b position version newest
  is_reached_own position version newest h = record { spelled = h.spelled; is = newest_own a b newest same h.is; within = h.within; later = λ v behind up. has_own a b same v (h.later v behind up) }

  commit_own : (version : ℕ) (before : Table) (commit : Commit) (after : Table) → IsCommitOf a version before commit after → IsCommitOf b version before commit after
  commit_own version before commit after h = record { says = h.says; read = says_own version h.says h.read; made = h.made; leads = h.leads }

  commits_own : (commits : List Commit) (version : ℕ) (before last : Table) → AreCommits a version before commits last → AreCommits b version before commits last
  commits_own [] version before last h = h
  commits_own (commit ∷ commits) version before last h = (h.0, commit_own (version + 1) before commit h.0 h.1, commits_own commits (version + 1) h.0 last h.2)

  actions_own : (version count actions : ℕ) → HaveActions a version count actions → HaveActions b version count actions
  actions_own version zero actions h = h
  actions_own version (suc count) actions h = (h.0, actions_own version count h.0 h.1, h.2, says_own (version + suc count) h.2 h.3, h.4)

  version_refusal_own : (version : ℕ) (e : LogError) → IsVersionRefusal a version e → IsVersionRefusal b version e
  version_refusal_own version log.Memory h = h
  version_refusal_own version log.StoreFault h = h
  version_refusal_own version log.ManyNames h = h
  version_refusal_own version log.ManyCommits h = h
  version_refusal_own version (log.Missing v) h = (h.0, λ has. h.1 (has_back a b same version has))
  version_refusal_own version (log.Large v) h = (h.0, large_too a b (own_versions a b same) version h.1)
  version_refusal_own version (log.Refused v e) h = (h.0, unreadable_too a b (own_versions a b same) version e h.1)

  refused_behind_own : (version : ℕ) (before : Table) (actions : ℕ) (e : SourceError) → IsRefusedBehind a version before actions e → IsRefusedBehind b version before actions e
  refused_behind_own version before actions e (inl h) = inl (h.0, version_refusal_own version h.0 h.1, h.2)
  refused_behind_own version before actions e (inr h) = inr (h.0, says_own version h.0 h.1, h.2)

  stops_own : (version newest : ℕ) (base : Table) (e : SourceError) → StopsBehind a version newest base e → StopsBehind b version newest base e
  stops_own version newest base e h = record {
    commits = h.commits;
    before = h.before;
    are = commits_own h.commits version base h.before h.are;
    actions = h.actions;
    counted = actions_own version (length h.commits) h.actions h.counted;
    few_actions = h.few_actions;
    within = h.within;
    refused = refused_behind_own (version + length h.commits + 1) h.before h.actions e h.refused;
  }

pub reaches_own : (a b : Files) (position : List ℕ) → SameIn log_folder a b → Reaches a position → Reaches b position
reaches_own a b position same h = (h.0, h.1, is_reached_own a b same position h.0 h.1 h.2)

pub since_own : (a b : Files) (position : List ℕ) (base : Table) (commits : List Commit) → SameIn log_folder a b → IsSince a position base commits → IsSince b position base commits
since_own a b position base commits same h = record {
  version = h.version;
  spelled = h.spelled;
  newest = newest_own a b (h.version + length commits) same h.newest;
  few = h.few;
  last = h.last;
  are = commits_own a b same commits h.version base h.last h.are;
  actions = h.actions;
  counted = actions_own a b same h.version (length commits) h.actions h.counted;
  few_actions = h.few_actions;
}

pub from_position_own : (a b : Files) (position : List ℕ) (base : Table) (e : SourceError) → SameIn log_folder a b → ShowsFromPosition a position base e → ShowsFromPosition b position base e
from_position_own a b position base e same (version, newest, is, inl h) = (version, newest, is_reached_own a b same position version newest is, inl h)
from_position_own a b position base e same (version, newest, is, inr h) = (version, newest, is_reached_own a b same position version newest is, inr (h.0, stops_own a b same version newest base e h.1))
