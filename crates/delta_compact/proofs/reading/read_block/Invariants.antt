use Rattle.std.proofs.Common.{◌≡◌, ◌≤◌, ◌+◌, ◌*◌, length}
use Rattle.lake_basics.specs.declared.limits.TheConstants.{MAX_FILE_BYTES}
use Rattle.lake_store.specs.Runs.{FailsBy, IsUncontestedBy, OnlyReads}
use Rattle.delta_compact.specs.Blocks.{HoldVersions}
use Rattle.delta_compact.specs.Joinable.{whole_length}
use Rattle.delta_compact.proofs.reading.read_block.Given as goal

abbrev pub invariant-loop-version : goal.invariant-loop-version
invariant-loop-version g l =
    let store = g.S.Store in
    record {
      within : l.version ≤ 10 * l.block + 10;
      count : 10 * l.block + length l.commits.items ≡ l.version;
      long : l.length ≡ whole_length l.commits.items;
      short : l.length ≤ MAX_FILE_BYTES;
      held : store.tells → HoldVersions (store.disk l.fn.store).files (10 * l.block) l.commits.items;
      reads : store.tells → OnlyReads store l.fn.store l.store;
      cause : FailsBy store l.fn.store l.store ⊥;
      contest : IsUncontestedBy store l.fn.store l.store ⊥;
    }
