-- The history of a Delta table that its log still holds (Delta protocol, "Delta Log Entries" and "Action Reconciliation").
use Rattle.std.specs.Prelude.{◌≡◌, ◌≤◌, ◌+◌, ℕ, zero, suc, List, length, slice_get, Option, Some, None, option_map}
use Rattle.std.specs.Fmt.{decimal}
use Rattle.lake_store.specs.Disk.{Files}
use Rattle.table_history.specs.First.{NoneOf}
use Rattle.table_history.specs.History.{History}
use Rattle.table_history.specs.declared.limit.LimitKind.{LimitKind}
use Rattle.table_history.specs.declared.table.Table.{Table}
use Rattle.delta_change.specs.Change.{HasLargeSchema, IsOutsideGrammar, Shows, commit_features}
use Rattle.delta_log.specs.declared.commit.DeltaCommit.{DeltaCommit}
use Rattle.delta_table.specs.Log.{IsStep, SaysCommit}
use Rattle.delta_table.specs.Versions.{AreVersions, HasVersion}
use Rattle.delta_table.specs.declared.versions.Versions.{Versions}

-- the table before this version: that of the version before it, and before version 0 none
abbrev pub table_before : History → ℕ → Option Table
table_before history zero = None
table_before history (suc version) = option_map (λ entry. entry.1) (slice_get history version)

-- The commit is in its grammar over the table before it, and shows no feature. Numbers are no matter, but those of a schema: past one of them its text
-- isn't read as a schema.
pub record IsReadableOver (c : DeltaCommit) (base : Option Table) : Type 0 where
  pub grammar : ¬ IsOutsideGrammar c base
  pub supported : NoneOf (Shows c base) commit_features
  pub schema : (which : LimitKind) → ¬ HasLargeSchema c which

-- There is one table for each version up to the newest, whose position is the version in decimal. The versions from the first on from which none is
-- missing are kept: where the commit of one of them can be read over the table before it, the version's table is what the commit makes of that one.
-- Where it can't, and of the tables of versions that aren't kept, nothing is said.
pub record HoldsHistory (files : Files) (history : History) : Type 0 where
  pub kept : Versions
  pub are : AreVersions (HasVersion files) kept
  pub count : length history ≡ kept.newest + 1
  pub positions : (version : ℕ) (entry : List ℕ × Table) → slice_get history version ≡ Some entry → entry.0 ≡ decimal version
  pub tables : (version : ℕ) (entry : List ℕ × Table) (c : DeltaCommit) → kept.first ≤ version → slice_get history version ≡ Some entry
      → SaysCommit files version c → IsReadableOver c (table_before history version) → IsStep c (table_before history version) entry.1
