use Rattle.std.proofs.Common.{◌≡◌, ◌⊎◌, ◌≤◌, ℕ, List, Option, Some, None, inl, inr, sym, ap, subst, ◌∙◌, ⊎_elim, arith, ◌<◌}
use Rattle.std.proofs.lemmas.Result.{err_from_is_err_and}
use Rattle.std.specs.Prelude.{IfErr, IfSome, IsErrOf, length}
use Rattle.std.specs.FinMap as map
use Rattle.std.proofs.lemmas.Option.{none-some, same_Some}
use Rattle.lake_basics.specs.declared.limits.TheConstants.{MAX_DELTA_VERSION, MAX_FILE_BYTES}
use Rattle.lake_store.specs.Disk.{Disk, Files}
use Rattle.lake_store.proofs.RunLaws.{reading_further}
use Rattle.delta_log.specs.declared.commit.DeltaCommit.{DeltaCommit}
use Rattle.delta_compaction.specs.Agreeing.{Agrees}
use Rattle.delta_compaction.specs.Taken.{AreTaken}
use Rattle.delta_compact.specs.Blocks.{HasCompaction, HoldsBlock, IsBlockPath, IsCompacted, IsWithin}
use Rattle.delta_compact.specs.Refusals.{HasCause, HaveManyActions, IsLong, IsStale, IsUnjoinable, IsUnjoined}
use Rattle.delta_compact.specs.Steps.{IsToldStale}
use Rattle.delta_compact.specs.declared.error.CompactFault.{CompactFault}
use Rattle.delta_compact.specs.declared.error.CompactFault.TheVariants.{Contested, Stale}
use Rattle.delta_compact.proofs.Causes.{contest_behind, contest_of_none, err_back, err_once, err_same, uncontested_further}
use Rattle.delta_compact.proofs.Held.{block_once}
use Rattle.delta_compact.proofs.Joins.{cause_weaker, joins_fresh}
use Rattle.delta_compact.proofs.Moments.{compacts_behind, reading_compacts}
use Rattle.delta_compact.proofs.Paths.{one_path}
use Rattle.delta_compact.proofs.publishing.compact_block.Goals as goal

abbrev Why : Files → ℕ → CompactFault → Type 0
Why files block e = IsUnjoinable files block e ⊎ IsToldStale files block e

-- where no file is there under the block's path
lacks : (files : Files) (block : ℕ) (path : List ℕ) → IsWithin MAX_DELTA_VERSION block → IsBlockPath path block → map.get files path ≡ None → HasCompaction files block → ⊥
lacks files block path within is none has =
    let held = has.1 in none-some has.0 (sym none ∙ ap (map.get files) (one_path block path held.path within is held.is) ∙ held.there)

-- a file that agrees and isn't too large isn't stale
not_stale : (files : Files) (block : ℕ) (path bytes : List ℕ) (commits : List (List ℕ)) → IsWithin MAX_DELTA_VERSION block → IsBlockPath path block → map.get files path ≡ Some bytes → length bytes ≤ MAX_FILE_BYTES
    → HoldsBlock files block commits → Agrees bytes commits → IsStale files block → ⊥
not_stale files block path bytes commits within is there short held agrees stale =
    let same : bytes ≡ stale.bytes = same_Some bytes stale.bytes (sym there ∙ ap (map.get files) (one_path block path stale.there.path within is stale.there.is) ∙ stale.there.there) in
    ⊎_elim
    (λ (long : MAX_FILE_BYTES < length stale.bytes). let len : length bytes ≡ length stale.bytes = ap length same in omega (arith, len, short, long))
    (λ (other : (xs : List (List ℕ)) × HoldsBlock files block xs × (Agrees stale.bytes xs → ⊥)).
    other.2 (subst (λ (b : List ℕ). Agrees b other.0) same (subst (λ (xs : List (List ℕ)). Agrees bytes xs) (block_once files block commits other.0 held other.1) agrees)))
    stale.cause

-- ---- the commits can't be read together

pub returns-in_err-commits-clause-compacts : goal.returns-in_err-commits-clause-compacts
returns-in_err-commits-clause-compacts g c told = reading_compacts g.S.Store _ _ c.args.store.now c.read_block.new.store (c.in_err-commits.ensures.only_reads told)

pub returns-in_err-commits-clause-refused : goal.returns-in_err-commits-clause-refused
returns-in_err-commits-clause-refused g c told =
    let files = (g.S.Store.disk c.args.store.now).files in
    let block = c.args.block in
    let exit = err_from_is_err_and c.from_residual.result c.from_residual.ensures.1 in
    subst (λ r. IfErr r (HasCause (Why files block))) (sym exit.1)
    (subst (HasCause (Why files block)) (sym exit.2)
    (cause_weaker (λ e. (commits : List (List ℕ)) × HoldsBlock files block commits × IsLong commits e) (Why files block) (λ e h. inl (h.0, h.1, inl h.2)) c.in_err-commits.field-0.0 (c.in_err-commits.ensures.refused told)))

pub returns-in_err-commits-clause-contest : goal.returns-in_err-commits-clause-contest
returns-in_err-commits-clause-contest g c =
    let exit = err_from_is_err_and c.from_residual.result c.from_residual.ensures.1 in
    contest_of_none g.S.Store.contests g.S.Store.may_contest c.args.store.now c.read_block.new.store _ (IsErrOf c.from_residual.result Contested) c.in_err-commits.ensures.contest
    (λ told. c.in_err-commits.ensures.contest.never (err_back c.from_residual.result exit.0 c.in_err-commits.field-0.0 Contested exit.1 exit.2 told))

pub returns-in_err-path-clause-compacts : goal.returns-in_err-path-clause-compacts
returns-in_err-path-clause-compacts g c told = reading_compacts g.S.Store _ _ c.args.store.now c.read_block.new.store (c.in_ok-commits.ensures.only_reads told)

-- ---- the log compaction can't be read

pub returns-in_err-bytes-clause-compacts : goal.returns-in_err-bytes-clause-compacts
returns-in_err-bytes-clause-compacts g c told =
    let store = g.S.Store in
    reading_compacts store _ _ c.args.store.now c.read_compaction.new.store
    (reading_further store c.args.store.now c.read_block.new.store c.read_compaction.new.store c.in_ok-commits.ensures.only_reads c.in_err-bytes.ensures.only_reads told)

pub returns-in_err-bytes-clause-refused : goal.returns-in_err-bytes-clause-refused
returns-in_err-bytes-clause-refused g c told =
    let files = (g.S.Store.disk c.args.store.now).files in
    let block = c.args.block in
    let path = c.in_ok-path.path in
    let exit = err_from_is_err_and c.from_residual-in_err-bytes.result c.from_residual-in_err-bytes.ensures.1 in
    let e = c.in_err-bytes.field-0.0 in
    let why = subst (λ (d : Disk). HasCause (λ f. IsStale d.files block × (f ≡ Stale path)) e) (c.in_ok-commits.ensures.only_reads told).disk (c.in_err-bytes.ensures.refused told) in
    subst (λ r. IfErr r (HasCause (Why files block))) (sym exit.1)
    (subst (HasCause (Why files block)) (sym exit.2)
    (cause_weaker (λ f. IsStale files block × (f ≡ Stale path)) (Why files block) (λ f h. inr (h.0, path, c.in_ok-path.ensures, h.1)) e why))

pub returns-in_err-bytes-clause-contest : goal.returns-in_err-bytes-clause-contest
returns-in_err-bytes-clause-contest g c =
    let store = g.S.Store in
    let exit = err_from_is_err_and c.from_residual-in_err-bytes.result c.from_residual-in_err-bytes.ensures.1 in
    let run = uncontested_further store.contests store.may_contest c.args.store.now c.read_block.new.store c.read_compaction.new.store _ _ ⊥ c.in_ok-commits.ensures.contest c.in_err-bytes.ensures.contest (λ never. absurd never) in
    contest_of_none store.contests store.may_contest c.args.store.now c.read_compaction.new.store ⊥ (IsErrOf c.from_residual-in_err-bytes.result Contested) run
    (λ told. c.in_err-bytes.ensures.contest.never (err_back c.from_residual-in_err-bytes.result exit.0 c.in_err-bytes.field-0.0 Contested exit.1 exit.2 told))

-- ---- it is there

pub returns-in_err-judge_compaction-in-Some-clause-compacts : goal.returns-in_err-judge_compaction-in-Some-clause-compacts
returns-in_err-judge_compaction-in-Some-clause-compacts g c told =
    let store = g.S.Store in
    reading_compacts store _ _ c.args.store.now c.read_compaction.new.store
    (reading_further store c.args.store.now c.read_block.new.store c.read_compaction.new.store c.in_ok-commits.ensures.only_reads c.in_ok-bytes.ensures.only_reads told)

pub returns-in_err-judge_compaction-in-Some-clause-refused : goal.returns-in_err-judge_compaction-in-Some-clause-refused
returns-in_err-judge_compaction-in-Some-clause-refused g c told =
    let files = (g.S.Store.disk c.args.store.now).files in
    let block = c.args.block in
    let path = c.in_ok-path.path in
    let bytes = c.in-Some.bytes in
    let commits = c.in_ok-commits.commits.items in
    let held = c.in_ok-commits.ensures.held told in
    let found = subst (λ (o : Option (List ℕ)). o ≡ map.get (g.S.Store.disk c.read_block.new.store).files path) c.in-Some.is (c.in_ok-bytes.ensures.found told) in
    let there : map.get files path ≡ Some bytes = subst (λ (d : Disk). map.get d.files path ≡ Some bytes) (c.in_ok-commits.ensures.only_reads told).disk (sym found) in
    let exit = err_from_is_err_and c.from_residual-in_err-judge_compaction-in-Some.result c.from_residual-in_err-judge_compaction-in-Some.ensures.1 in
    let e = c.in_err-judge_compaction-in-Some.field-0.0 in
    let text = c.as_slice.ensures.value in
    let list = c.as_slice-in-Some.ensures.value in
    let why = subst (λ (b : List ℕ). HasCause (λ f. IsUnjoined block commits f ⊎ ((Agrees b commits → ⊥) × (f ≡ Stale path))) e) text
    (subst (λ (xs : List (List ℕ)). HasCause (λ f. IsUnjoined block xs f ⊎ ((Agrees c.as_slice.result.now xs → ⊥) × (f ≡ Stale path))) e) list c.in_err-judge_compaction-in-Some.ensures.refused) in
    subst (λ r. IfErr r (HasCause (Why files block))) (sym exit.1)
    (subst (HasCause (Why files block)) (sym exit.2)
    (cause_weaker (λ f. IsUnjoined block commits f ⊎ ((Agrees bytes commits → ⊥) × (f ≡ Stale path))) (Why files block)
    (λ f h. ⊎_elim (λ unjoined. inl (commits, held, inr (c.in_ok-commits.ensures.short, inl unjoined)))
    (λ stale. inr (record { bytes = bytes; there = record { path = path; is = c.in_ok-path.ensures; there = there }; cause = inr (commits, held, stale.0) }, path, c.in_ok-path.ensures, stale.1)) h) e why))

pub returns-in_err-judge_compaction-in-Some-clause-contest : goal.returns-in_err-judge_compaction-in-Some-clause-contest
returns-in_err-judge_compaction-in-Some-clause-contest g c =
    let store = g.S.Store in
    let exit = err_from_is_err_and c.from_residual-in_err-judge_compaction-in-Some.result c.from_residual-in_err-judge_compaction-in-Some.ensures.1 in
    let e = c.in_err-judge_compaction-in-Some.field-0.0 in
    let run = uncontested_further store.contests store.may_contest c.args.store.now c.read_block.new.store c.read_compaction.new.store _ _ ⊥ c.in_ok-commits.ensures.contest c.in_ok-bytes.ensures.contest (λ never. absurd never) in
    contest_of_none store.contests store.may_contest c.args.store.now c.read_compaction.new.store ⊥ (IsErrOf c.from_residual-in_err-judge_compaction-in-Some.result Contested) run
    (λ told. let is : e ≡ Contested = err_once e Contested (err_back c.from_residual-in_err-judge_compaction-in-Some.result exit.0 e Contested exit.1 exit.2 told) in c.in_err-judge_compaction-in-Some.ensures.fault.1 is)

pub returns-in-Some-clause-compacted : goal.returns-in-Some-clause-compacted
returns-in-Some-clause-compacted g c told =
    let files = (g.S.Store.disk c.args.store.now).files in
    let path = c.in_ok-path.path in
    let bytes = c.in-Some.bytes in
    let commits = c.in_ok-commits.commits.items in
    let held = c.in_ok-commits.ensures.held told in
    let found = subst (λ (o : Option (List ℕ)). o ≡ map.get (g.S.Store.disk c.read_block.new.store).files path) c.in-Some.is (c.in_ok-bytes.ensures.found told) in
    let there : map.get files path ≡ Some bytes = subst (λ (d : Disk). map.get d.files path ≡ Some bytes) (c.in_ok-commits.ensures.only_reads told).disk (sym found) in
    let agrees = subst (λ (b : List ℕ). Agrees b commits) c.as_slice.ensures.value (subst (λ (xs : List (List ℕ)). Agrees c.as_slice.result.now xs) c.as_slice-in-Some.ensures.value c.in_ok-judge_compaction-in-Some.ensures.agrees) in
    let taken = subst (λ (xs : List (List ℕ)). (said : List DeltaCommit) × AreTaken xs said) c.as_slice-in-Some.ensures.value c.in_ok-judge_compaction-in-Some.ensures.taken in
    let all = (reading_further g.S.Store c.args.store.now c.read_block.new.store c.read_compaction.new.store c.in_ok-commits.ensures.only_reads c.in_ok-bytes.ensures.only_reads told).disk in
    subst (λ (d : Disk). IsCompacted d.files c.args.block) (sym all)
    (record { commits = commits; held = held; said = taken.0; taken = taken.1; text = bytes; there = record { path = path; is = c.in_ok-path.ensures; there = there }; agrees = agrees })

pub returns-in-Some-clause-fresh : goal.returns-in-Some-clause-fresh
returns-in-Some-clause-fresh g c told =
    let files = (g.S.Store.disk c.args.store.now).files in
    let path = c.in_ok-path.path in
    let bytes = c.in-Some.bytes in
    let commits = c.in_ok-commits.commits.items in
    let held = c.in_ok-commits.ensures.held told in
    let found = subst (λ (o : Option (List ℕ)). o ≡ map.get (g.S.Store.disk c.read_block.new.store).files path) c.in-Some.is (c.in_ok-bytes.ensures.found told) in
    let there : map.get files path ≡ Some bytes = subst (λ (d : Disk). map.get d.files path ≡ Some bytes) (c.in_ok-commits.ensures.only_reads told).disk (sym found) in
    let short : length bytes ≤ MAX_FILE_BYTES = subst (λ (o : Option (List ℕ)). IfSome o (λ b. length b ≤ MAX_FILE_BYTES)) c.in-Some.is c.in_ok-bytes.ensures.short in
    let agrees = subst (λ (b : List ℕ). Agrees b commits) c.as_slice.ensures.value (subst (λ (xs : List (List ℕ)). Agrees c.as_slice.result.now xs) c.as_slice-in-Some.ensures.value c.in_ok-judge_compaction-in-Some.ensures.agrees) in
    not_stale files c.args.block path bytes commits c.requires.within c.in_ok-path.ensures there short held agrees

pub returns-in-Some-clause-written : goal.returns-in-Some-clause-written
returns-in-Some-clause-written g c told =
    let files = (g.S.Store.disk c.args.store.now).files in
    let path = c.in_ok-path.path in
    let bytes = c.in-Some.bytes in
    let found = subst (λ (o : Option (List ℕ)). o ≡ map.get (g.S.Store.disk c.read_block.new.store).files path) c.in-Some.is (c.in_ok-bytes.ensures.found told) in
    let there : map.get files path ≡ Some bytes = subst (λ (d : Disk). map.get d.files path ≡ Some bytes) (c.in_ok-commits.ensures.only_reads told).disk (sym found) in
    (bytes, record { path = path; is = c.in_ok-path.ensures; there = there })

pub returns-in-Some-clause-compacts : goal.returns-in-Some-clause-compacts
returns-in-Some-clause-compacts g c told =
    let store = g.S.Store in
    reading_compacts store _ _ c.args.store.now c.read_compaction.new.store
    (reading_further store c.args.store.now c.read_block.new.store c.read_compaction.new.store c.in_ok-commits.ensures.only_reads c.in_ok-bytes.ensures.only_reads told)

pub returns-in-Some-clause-contest : goal.returns-in-Some-clause-contest
returns-in-Some-clause-contest g c =
    let store = g.S.Store in
    let run = uncontested_further store.contests store.may_contest c.args.store.now c.read_block.new.store c.read_compaction.new.store _ _ ⊥ c.in_ok-commits.ensures.contest c.in_ok-bytes.ensures.contest (λ never. absurd never) in
    contest_of_none store.contests store.may_contest c.args.store.now c.read_compaction.new.store ⊥ _ run (λ contested. cc)

-- ---- it isn't there

pub publish_block-requires-clause-held : goal.publish_block-requires-clause-held
publish_block-requires-clause-held g c told =
    let all = (reading_further g.S.Store c.args.store.now c.read_block.new.store c.read_compaction.new.store c.in_ok-commits.ensures.only_reads c.in_ok-bytes.ensures.only_reads told).disk in
    subst (λ (xs : List (List ℕ)). HoldsBlock (g.S.Store.disk c.read_compaction.new.store).files c.args.block xs) (sym c.as_slice-in-None.ensures.value)
    (subst (λ (d : Disk). HoldsBlock d.files c.args.block c.in_ok-commits.commits.items) (sym all) (c.in_ok-commits.ensures.held told))

pub publish_block-requires-clause-free : goal.publish_block-requires-clause-free
publish_block-requires-clause-free g c told =
    let found = subst (λ (o : Option (List ℕ)). o ≡ map.get (g.S.Store.disk c.read_block.new.store).files c.in_ok-path.path) c.in-None.is (c.in_ok-bytes.ensures.found told) in
    subst (λ (d : Disk). map.get d.files c.in_ok-path.path ≡ None) (sym (c.in_ok-bytes.ensures.only_reads told).disk) (sym found)

pub returns-in_err-publish_block-in-None-clause-compacts : goal.returns-in_err-publish_block-in-None-clause-compacts
returns-in_err-publish_block-in-None-clause-compacts g c told =
    let store = g.S.Store in
    let only = reading_further store c.args.store.now c.read_block.new.store c.read_compaction.new.store c.in_ok-commits.ensures.only_reads c.in_ok-bytes.ensures.only_reads told in
    let exit = err_from_is_err_and c.from_residual-in_err-publish_block-in-None.result c.from_residual-in_err-publish_block-in-None.ensures.1 in
    compacts_behind store _ _ (λ b. (b ≡ c.args.block) × IsErrOf c.from_residual-in_err-publish_block-in-None.result Contested) (λ b h. (h.0, err_same c.from_residual-in_err-publish_block-in-None.result exit.0 c.in_err-publish_block-in-None.field-0.0 Contested exit.1 exit.2 h.1))
    c.args.store.now c.read_compaction.new.store c.publish_block.new.store told only (c.in_err-publish_block-in-None.ensures.compacts told)

pub returns-in_err-publish_block-in-None-clause-refused : goal.returns-in_err-publish_block-in-None-clause-refused
returns-in_err-publish_block-in-None-clause-refused g c told =
    let files = (g.S.Store.disk c.args.store.now).files in
    let block = c.args.block in
    let commits = c.in_ok-commits.commits.items in
    let held = c.in_ok-commits.ensures.held told in
    let exit = err_from_is_err_and c.from_residual-in_err-publish_block-in-None.result c.from_residual-in_err-publish_block-in-None.ensures.1 in
    let e = c.in_err-publish_block-in-None.field-0.0 in
    let why = subst (λ (xs : List (List ℕ)). HasCause (λ f. IsUnjoined block xs f ⊎ HaveManyActions xs f) e) c.as_slice-in-None.ensures.value c.in_err-publish_block-in-None.ensures.refused in
    subst (λ r. IfErr r (HasCause (Why files block))) (sym exit.1)
    (subst (HasCause (Why files block)) (sym exit.2)
    (cause_weaker (λ f. IsUnjoined block commits f ⊎ HaveManyActions commits f) (Why files block) (λ f h. inl (commits, held, inr (c.in_ok-commits.ensures.short, h))) e why))

pub returns-in_err-publish_block-in-None-clause-contest : goal.returns-in_err-publish_block-in-None-clause-contest
returns-in_err-publish_block-in-None-clause-contest g c =
    let store = g.S.Store in
    let exit = err_from_is_err_and c.from_residual-in_err-publish_block-in-None.result c.from_residual-in_err-publish_block-in-None.ensures.1 in
    let e = c.in_err-publish_block-in-None.field-0.0 in
    let run = uncontested_further store.contests store.may_contest c.args.store.now c.read_block.new.store c.read_compaction.new.store _ _ ⊥ c.in_ok-commits.ensures.contest c.in_ok-bytes.ensures.contest (λ never. absurd never) in
    contest_behind store.contests store.may_contest c.args.store.now c.read_compaction.new.store c.publish_block.new.store ⊥ _ (IsErrOf c.from_residual-in_err-publish_block-in-None.result Contested) run c.in_err-publish_block-in-None.ensures.contest
    (err_back c.from_residual-in_err-publish_block-in-None.result exit.0 e Contested exit.1 exit.2) (err_same c.from_residual-in_err-publish_block-in-None.result exit.0 e Contested exit.1 exit.2)

pub returns-clause-fresh : goal.returns-clause-fresh
returns-clause-fresh g c told stale =
    let files = (g.S.Store.disk c.args.store.now).files in
    let found = subst (λ (o : Option (List ℕ)). o ≡ map.get (g.S.Store.disk c.read_block.new.store).files c.in_ok-path.path) c.in-None.is (c.in_ok-bytes.ensures.found told) in
    let none = subst (λ (d : Disk). map.get d.files c.in_ok-path.path ≡ None) (c.in_ok-commits.ensures.only_reads told).disk (sym found) in
    lacks files c.args.block c.in_ok-path.path c.requires.within c.in_ok-path.ensures none (stale.bytes, stale.there)

pub returns-clause-written : goal.returns-clause-written
returns-clause-written g c told =
    let files = (g.S.Store.disk c.args.store.now).files in
    let found = subst (λ (o : Option (List ℕ)). o ≡ map.get (g.S.Store.disk c.read_block.new.store).files c.in_ok-path.path) c.in-None.is (c.in_ok-bytes.ensures.found told) in
    let none = subst (λ (d : Disk). map.get d.files c.in_ok-path.path ≡ None) (c.in_ok-commits.ensures.only_reads told).disk (sym found) in
    lacks files c.args.block c.in_ok-path.path c.requires.within c.in_ok-path.ensures none

pub returns-clause-compacts : goal.returns-clause-compacts
returns-clause-compacts g c told =
    let store = g.S.Store in
    let only = reading_further store c.args.store.now c.read_block.new.store c.read_compaction.new.store c.in_ok-commits.ensures.only_reads c.in_ok-bytes.ensures.only_reads told in
    compacts_behind store _ _ _ (λ b h. let contested = h.1 in absurd (cc)) c.args.store.now c.read_compaction.new.store c.publish_block.new.store told only (c.in_ok-publish_block-in-None.ensures.compacts told)

pub returns-clause-contest : goal.returns-clause-contest
returns-clause-contest g c =
    let store = g.S.Store in
    let run = uncontested_further store.contests store.may_contest c.args.store.now c.read_block.new.store c.read_compaction.new.store _ _ ⊥ c.in_ok-commits.ensures.contest c.in_ok-bytes.ensures.contest (λ never. absurd never) in
    contest_behind store.contests store.may_contest c.args.store.now c.read_compaction.new.store c.publish_block.new.store ⊥ _ _ run c.in_ok-publish_block-in-None.ensures.contest (λ contested. cc) (λ contested. cc)

-- ---- nothing is written where one is stale

pub returns-in_err-commits-clause-unwritten : goal.returns-in_err-commits-clause-unwritten
returns-in_err-commits-clause-unwritten g c told path is = c.in_err-commits.ensures.only_reads told

pub returns-in_err-path-clause-unwritten : goal.returns-in_err-path-clause-unwritten
returns-in_err-path-clause-unwritten g c told path is = c.in_ok-commits.ensures.only_reads told

pub returns-in_err-bytes-clause-unwritten : goal.returns-in_err-bytes-clause-unwritten
returns-in_err-bytes-clause-unwritten g c told path is =
    reading_further g.S.Store c.args.store.now c.read_block.new.store c.read_compaction.new.store c.in_ok-commits.ensures.only_reads c.in_err-bytes.ensures.only_reads told

pub returns-in_err-judge_compaction-in-Some-clause-unwritten : goal.returns-in_err-judge_compaction-in-Some-clause-unwritten
returns-in_err-judge_compaction-in-Some-clause-unwritten g c told path is =
    reading_further g.S.Store c.args.store.now c.read_block.new.store c.read_compaction.new.store c.in_ok-commits.ensures.only_reads c.in_ok-bytes.ensures.only_reads told

pub returns-in_err-publish_block-in-None-clause-unwritten : goal.returns-in_err-publish_block-in-None-clause-unwritten
returns-in_err-publish_block-in-None-clause-unwritten g c told path is =
    let result = c.from_residual-in_err-publish_block-in-None.result in
    let exit = err_from_is_err_and result c.from_residual-in_err-publish_block-in-None.ensures.1 in
    let e = c.in_err-publish_block-in-None.field-0.0 in
    let stale : e ≡ Stale path = err_once e (Stale path) (err_back result exit.0 e (Stale path) exit.1 exit.2 is) in
    absurd (joins_fresh c.args.block c.as_slice-in-None.result.now path (subst (HasCause (λ f. IsUnjoined c.args.block c.as_slice-in-None.result.now f ⊎ HaveManyActions c.as_slice-in-None.result.now f)) stale c.in_err-publish_block-in-None.ensures.refused))
