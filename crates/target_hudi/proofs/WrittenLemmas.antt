-- What is written for a commit, by its parts.
use Rattle.std.proofs.Common.{◌≡◌, ℕ, ◌+◌, ◌≤◌, List, length, All, Contains, Option, Some, sym, ap, subst, arith}
use Rattle.std.specs.Prelude.{◌↔◌}
use Rattle.std.specs.List.Sorted.{IsSorted, IsStrictlySortedBy}
use Rattle.serde_json.specs.Written.{compact_text}
use Rattle.lake_basics.specs.declared.limits.TheConstants.{MAX_ACTIONS}
use Rattle.table_history.specs.Row.{Row}
use Rattle.table_history.specs.Rows.{HasPath}
use Rattle.table_history.specs.TypeTree.{ColumnTrees}
use Rattle.table_history.specs.declared.table.Change.{Change}
use Rattle.table_history.specs.declared.table.Commit.{Commit}
use Rattle.hudi_instant.specs.InstantText.{IsSoundStat, IsWritable, replaced_cmp, stat_cmp}
use Rattle.hudi_instant.specs.declared.instant.Stat.{Stat}
use Rattle.target_core.specs.Mark.{mark_data}
use Rattle.target_core.specs.Views.{Origin}
use Rattle.target_hudi.specs.Writing.{IsStatedText, IsWrittenOver, LeavesAdded, LosesRemoved, mark_of, replaced_of, stat_of}
use Rattle.target_hudi.proofs.ReplacedLemmas.{ids_gone}

abbrev AreStats : List ℕ → List Stat → List Row → Type 0
AreStats instant stats added = (s : Stat) → Contains stats s ↔ ((row : Row) × Contains added row × (s ≡ stat_of instant row))

abbrev AreIds : List (List ℕ × List ℕ) → List Row → List (List ℕ) → Type 0
AreIds ids rows removed = (p : List ℕ × List ℕ) → Contains ids p ↔ ((path : List ℕ) × (Contains removed path × (HasPath rows path → ⊥)) × (p ≡ replaced_of path))

pub written_is : (schema : ColumnTrees) (origin : Origin) (instant : List ℕ) (commit : Commit) (rows added : List Row) (removed : List (List ℕ)) (stats stats' : List Stat) (ids ids' : List (List ℕ × List ℕ)) (text : Option (List ℕ)) (mark : List ℕ)
    → LeavesAdded commit.change.added rows → LosesRemoved commit.change rows → added ≡ commit.change.added → removed ≡ commit.change.removed → stats' ≡ stats → ids' ≡ ids
    → AreStats instant stats added → IsStrictlySortedBy stat_cmp stats → AreIds ids rows removed → IsStrictlySortedBy replaced_cmp ids
    → IsStatedText schema text → mark ≡ compact_text (mark_data (mark_of instant origin commit.position))
    → IsWrittenOver schema origin instant commit (record { stats = stats'; replaced = ids'; schema = text; mark = Some mark })
written_is schema origin instant commit rows added removed stats stats' ids ids' text mark leaves loses added_is removed_is stats_is ids_is stats_are stats_order ids_are ids_order stated marked =
    let all_stats = subst (λ (l : List Stat). AreStats instant l commit.change.added) (sym stats_is) (subst (λ (l : List Row). AreStats instant stats l) added_is stats_are) in
    let all_ids = subst (λ (l : List (List ℕ × List ℕ)). AreIds l rows commit.change.removed) (sym ids_is) (subst (λ (l : List (List ℕ)). AreIds ids rows l) removed_is ids_are) in
    record {
      stats = all_stats;
      stats_order = subst (λ (l : List Stat). IsStrictlySortedBy stat_cmp l) (sym stats_is) stats_order;
      replaced = ids_gone commit.change rows ids' leaves loses all_ids;
      replaced_order = subst (λ (l : List (List ℕ × List ℕ)). IsStrictlySortedBy replaced_cmp l) (sym ids_is) ids_order;
      stated = stated;
      mark = ap Some marked;
    }

-- and it may be written
pub writable_is : (change : Change) (added : List Row) (removed : List (List ℕ)) (stats stats' : List Stat) (ids ids' : List (List ℕ × List ℕ)) (text mark : Option (List ℕ))
    → length change.added + length change.removed ≤ MAX_ACTIONS → added ≡ change.added → removed ≡ change.removed → stats' ≡ stats → ids' ≡ ids
    → All IsSoundStat stats → length stats ≡ length added → IsSorted stat_cmp stats → length ids ≤ length removed → IsSorted replaced_cmp ids
    → IsWritable (record { stats = stats'; replaced = ids'; schema = text; mark = mark })
writable_is change added removed stats stats' ids ids' text mark few added_is removed_is stats_is ids_is sound stats_len stats_order ids_few ids_order = record {
  sound = record {
    stats = subst (λ (l : List Stat). All IsSoundStat l) (sym stats_is) sound;
    few = omega (arith, few, ap length added_is, ap length removed_is, ap length stats_is, ap length ids_is, stats_len, ids_few);
  };
  stats = subst (λ (l : List Stat). IsSorted stat_cmp l) (sym stats_is) stats_order;
  replaced = subst (λ (l : List (List ℕ × List ℕ)). IsSorted replaced_cmp l) (sym ids_is) ids_order;
}
