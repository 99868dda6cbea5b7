-- Blocks one after another: what is counted, and what holds so far.
use Rattle.std.proofs.Common.{◌≡◌, ◌⊎◌, inl, inr, ⊎_elim, ℕ, suc, ◌+◌, ◌<◌, ◌≤◌, Bool, true, false, sym, subst, arith}
use Rattle.std.proofs.lemmas.Bool.{cases_eq}
use Rattle.lake_store.specs.Disk.{Disk, Files}
use Rattle.lake_store.specs.Runs.{OnlyReads}
use Rattle.lake_store.specs.declared.store.Store.{Ghosts}
use Rattle.lake_store.proofs.RunLaws.{NowOnly, reading_begins}
use Rattle.delta_compact.specs.Blocks.{IsCompacted, IsWithin}
use Rattle.delta_compact.specs.Compacting.{AreBlocksOf, AreCompacted, Compacts, CompactsUpTo, HaveCompactions, IsCompactedOver, NoBlock, StopsBefore}
use Rattle.delta_compact.specs.Joinable.{IsJoinable}
use Rattle.delta_compact.specs.Refusals.{AreJoinable, HasCause, HasStale, IsStale, IsUnjoinable}
use Rattle.delta_compact.specs.Steps.{IsCounted, IsToldStale, IsWritten}
use Rattle.delta_compact.specs.declared.compacting.Counts.{Counts}
use Rattle.delta_compact.specs.declared.error.CompactFault.{CompactFault}
use Rattle.delta_compact.proofs.Joins.{cause_by, not_unjoinable}
use Rattle.delta_compact.proofs.Moments.{compacted_on, compacts_behind, compacts_further, has_back, has_on, held_on, reading_compacts, stale_back, stale_on}

-- ---- how many blocks

pub block_under : (newest blocks block : ℕ) → AreBlocksOf newest blocks → block < blocks → IsWithin newest block
block_under newest blocks block are under = let all = are.all in omega (arith, all, under)

pub under_block : (newest blocks block : ℕ) → AreBlocksOf newest blocks → IsWithin newest block → block < blocks
under_block newest blocks block are within = let last = are.last in omega (arith, last, within)

-- ---- how many were there

pub kept_more : (files : Files) (block : ℕ) (written : Bool) (before after : Counts) → HaveCompactions files block before.kept → IsWritten files block written → IsCounted written before after → HaveCompactions files (block + 1) after.kept
kept_more files block true before after have none counted = let next : suc block ≡ block + 1 = omega arith in subst (λ n. HaveCompactions files n after.kept) next (before.kept, have, inr (none, counted.1))
kept_more files block false before after have some counted = let next : suc block ≡ block + 1 = omega arith in subst (λ n. HaveCompactions files n after.kept) next (before.kept, have, inl (some, counted.1))

pub counted_more : (block : ℕ) (written : Bool) (before after : Counts) → before.written + before.kept ≡ block → IsCounted written before after → after.written + after.kept ≡ block + 1
counted_more block true before after is counted = let w = counted.0 in let k = counted.1 in omega (arith, is, w, k)
counted_more block false before after is counted = let w = counted.0 in let k = counted.1 in omega (arith, is, w, k)

-- ---- so far

-- Each block before this one has a log compaction that agrees, and none was stale. Nothing else has changed.
pub record IsSoFar {S : Type 0} (store : Ghosts S) (old : S) (block : ℕ) (counts : Counts) (now : S) : Type 0 where
  pub compacts : Compacts store (λ b. b < block) NoBlock old now
  pub compacted : (b : ℕ) → b < block → IsCompacted (store.disk now).files b
  pub fresh : (b : ℕ) → b < block → IsStale (store.disk old).files b → ⊥
  pub kept : HaveCompactions (store.disk old).files block counts.kept

pub under_more : (b block : ℕ) → b < block + 1 → (b ≡ block) ⊎ (b < block)
under_more b block under = ⊎_elim inl (λ (apart : b ≡ block → ⊥). inr (omega (arith, under, apart))) (cases_eq b block)

module _ {S : Type 0} (store : Ghosts S) (old : S) where
  pub so_far_begins : NowOnly store → (counts : Counts) → counts.kept ≡ 0 → store.tells → IsSoFar store old 0 counts old
  so_far_begins only_now counts none told = record {
    compacts = reading_compacts store (λ b. b < 0) NoBlock old old (reading_begins store only_now old told);
    compacted = λ b under. absurd (omega (arith, under));
    fresh = λ b under. absurd (omega (arith, under));
    kept = none;
  }

  module _ (block : ℕ) (counts : Counts) (mid : S) (so_far : IsSoFar store old block counts mid) where
    abbrev before : Disk
    before = store.disk old

    abbrev over : IsCompactedOver (λ b. b < block) NoBlock before (store.disk mid)
    over = so_far.compacts.disk

    not_under : block < block → ⊥
    not_under under = omega (arith, under)

    -- of the block nothing has changed
    pub written_before : (written : Bool) → IsWritten (store.disk mid).files block written → IsWritten before.files block written
    written_before true none = λ has. none (has_on (λ b. b < block) NoBlock before (store.disk mid) over block has)
    written_before false some = has_back (λ b. b < block) before (store.disk mid) over block not_under some

    pub joinable_now : IsJoinable before.files block → IsJoinable (store.disk mid).files block
    joinable_now h = record {
      commits = h.commits;
      held = held_on (λ b. b < block) NoBlock before (store.disk mid) over block h.commits h.held;
      short = h.short;
      said = h.said;
      taken = h.taken;
      entries = h.entries;
      newest = h.newest;
      few = h.few;
    }

    pub so_far_more : (new : S) (written : Bool) (after : Counts) (Taken : ℕ → Type 0) → ((b : ℕ) → Taken b → ⊥) → store.tells → IsCompacted (store.disk new).files block → IsWritten (store.disk mid).files block written → (IsStale (store.disk mid).files block → ⊥)
        → Compacts store (λ b. b ≡ block) Taken mid new → IsCounted written counts after → IsSoFar store old (block + 1) after new
    so_far_more new written after Taken none told compacted is_written fresh more counted = record {
      compacts = compacts_further store (λ b. b < block) (λ b. b ≡ block) (λ b. b < block + 1) Taken NoBlock (λ b under. omega (arith, under)) (λ b is. omega (arith, is)) none old mid new told so_far.compacts more;
      compacted = λ b under. ⊎_elim
          (λ (here : b ≡ block). subst (IsCompacted (store.disk new).files) (sym here) compacted)
          (λ earlier. compacted_on (λ b. b ≡ block) Taken (store.disk mid) (store.disk new) more.disk b (so_far.compacted b earlier))
          (under_more b block under);
      fresh = λ b under. ⊎_elim
          (λ (here : b ≡ block). subst (λ n. IsStale before.files n → ⊥) (sym here) (λ stale. fresh (stale_on (λ b. b < block) NoBlock before (store.disk mid) over block stale)))
          (so_far.fresh b)
          (under_more b block under);
      kept = kept_more before.files block written counts after so_far.kept (written_before written is_written) counted;
    }

    -- a refusal at the block
    pub so_far_refused : (new : S) (Taken : ℕ → Type 0) (Contest : Type 0) → ((b : ℕ) → Taken b → (b ≡ block) × Contest) → store.tells → Compacts store (λ b. b ≡ block) Taken mid new → CompactsUpTo store block Contest old new
    so_far_refused new Taken Contest to told more = record {
      compacts = compacts_further store (λ b. b < block) (λ b. b ≡ block) (λ b. b ≤ block) Taken (λ b. (b ≡ block) × Contest) (λ b under. omega (arith, under)) (λ b is. omega (arith, is)) to old mid new told so_far.compacts more;
      earlier = λ b under. compacted_on (λ b. b ≡ block) Taken (store.disk mid) (store.disk new) more.disk b (so_far.compacted b under);
    }

    -- one at which nothing is done
    pub so_far_stopped : (new : S) → store.tells → OnlyReads store mid new → StopsBefore store block old new
    so_far_stopped new told only = record {
      compacts = compacts_further store (λ b. b < block) NoBlock (λ b. b < block) NoBlock NoBlock (λ b under. under) (λ b none. absurd none) (λ b none. none) old mid new told so_far.compacts (reading_compacts store NoBlock NoBlock mid new only);
      earlier = λ b under. compacted_on NoBlock NoBlock (store.disk mid) (store.disk new) (reading_compacts store NoBlock NoBlock mid new only).disk b (so_far.compacted b under);
    }

    pub stale_told : (newest : ℕ) → IsWithin newest block → AreJoinable before.files newest → (e : CompactFault)
        → HasCause (λ f. IsUnjoinable (store.disk mid).files block f ⊎ IsToldStale (store.disk mid).files block f) e → HasCause (HasStale before.files newest) e
    stale_told newest within joinable e h = cause_by (λ f. IsUnjoinable (store.disk mid).files block f ⊎ IsToldStale (store.disk mid).files block f) (HasStale before.files newest)
        (λ f why. ⊎_elim
        (λ refused. inl (not_unjoinable (store.disk mid).files block (joinable_now (joinable block within)) f refused))
        (λ (stale : IsToldStale (store.disk mid).files block f). inr (
          block,
          stale.1,
          within,
          so_far.fresh,
          stale_back (λ b. b < block) before (store.disk mid) over block not_under stale.0,
          stale.2,
          stale.3,
        ))
        why)
        e h

  -- all blocks
  pub all_compacted : (newest blocks : ℕ) (counts : Counts) (now : S) → AreBlocksOf newest blocks → counts.written + counts.kept ≡ blocks → IsSoFar store old blocks counts now
      → AreCompacted (store.disk old).files (store.disk now).files newest counts.written counts.kept
  all_compacted newest blocks counts now are sum so_far = record {
    fresh = λ b within. so_far.fresh b (under_block newest blocks b are within);
    compacted = λ b within. so_far.compacted b (under_block newest blocks b are within);
    blocks = blocks;
    are = are;
    kept_there = so_far.kept;
    others = sum;
  }

  pub all_compacts : (block : ℕ) (counts : Counts) (now : S) (Contest : Type 0) → store.tells → IsSoFar store old block counts now → NowOnly store → CompactsUpTo store block Contest old now
  all_compacts block counts now Contest told so_far only_now = record {
    compacts = compacts_further store (λ b. b < block) NoBlock (λ b. b ≤ block) NoBlock (λ b. (b ≡ block) × Contest) (λ b under. omega (arith, under)) (λ b none. absurd none) (λ b never. absurd never) old now now told so_far.compacts
        (reading_compacts store NoBlock NoBlock now now (reading_begins store only_now now told));
    earlier = so_far.compacted;
  }

-- where nothing is done
pub reads_up_to : {S : Type 0} (store : Ghosts S) (Contest : Type 0) (old new : S) → OnlyReads store old new → CompactsUpTo store 0 Contest old new
reads_up_to store Contest old new only = record { compacts = reading_compacts store _ _ old new only; earlier = λ b under. absurd (omega (arith, under)) }

-- what is done behind a reading
module _ {S : Type 0} (store : Ghosts S) (old mid new : S) (told : store.tells) (only : OnlyReads store old mid) where
  pub up_to_behind : (end : ℕ) (Contest Wider : Type 0) → (Contest → Wider) → CompactsUpTo store end Contest mid new → CompactsUpTo store end Wider old new
  up_to_behind end Contest Wider wider run = record {
    compacts = compacts_behind store (λ b. b ≤ end) (λ b. (b ≡ end) × Contest) (λ b. (b ≡ end) × Wider) (λ b h. (h.0, wider h.1)) old mid new told only run.compacts;
    earlier = run.earlier;
  }

  pub stops_behind : (end : ℕ) → StopsBefore store end mid new → StopsBefore store end old new
  stops_behind end run = record {
    compacts = compacts_behind store (λ b. b < end) NoBlock NoBlock (λ b none. none) old mid new told only run.compacts;
    earlier = run.earlier;
  }
