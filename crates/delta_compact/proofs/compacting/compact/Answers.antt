use Rattle.std.proofs.Common.{◌≡◌, ◌+◌, ℕ, inl, inr, sym, subst, arith}
use Rattle.std.proofs.lemmas.Result.{err_from_is_err_and}
use Rattle.std.specs.Prelude.{IfErr, IsErrOf}
use Rattle.lake_store.specs.Disk.{Disk, Files}
use Rattle.lake_store.specs.Runs.{OnlyReads}
use Rattle.lake_store.proofs.RunLaws.{reading_further}
use Rattle.table_history.specs.declared.table.Table.{Table}
use Rattle.delta_table.specs.Log.{IsTaken}
use Rattle.source_delta.specs.Reading.{HasEach}
use Rattle.source_delta.specs.SinceLemmas.{one_newest}
use Rattle.delta_compact.specs.Compacting.{AreCompacted}
use Rattle.delta_compact.specs.Refusals.{AreJoinable, HasCause, HasStale, HasUnjoinable, IsEarly, IsRefused, IsUnread, IsWhole}
use Rattle.delta_compact.specs.declared.error.CompactFault.{CompactFault}
use Rattle.delta_compact.specs.declared.error.CompactFault.TheVariants.{Memory, Absent, Malformed, Unsupported, Limit, Contested, Stale, StoreFault}
use Rattle.delta_compact.proofs.Causes.{contest_behind, contest_of_none, err_back, err_once, err_same, uncontested_further}
use Rattle.delta_compact.proofs.Held.{logged}
use Rattle.delta_compact.proofs.Joins.{cause_weaker, source_fresh, unjoinable_fresh}
use Rattle.delta_compact.proofs.Counting.{reads_up_to, stops_behind, up_to_behind}
use Rattle.delta_compact.proofs.compacting.compact.Goals as goal

-- each version of a whole log is there
each_there : (files : Files) (newest : ℕ) (table : Table) → IsWhole files newest table → HasEach files newest
each_there files newest table whole version within =
    let same = one_newest files newest whole.head.newest whole.is whole.head.is in
    logged IsTaken files (whole.head.newest + 1) _ whole.head.log version (omega (arith, same, within))

pub judge_blocks-requires-clause-there : goal.judge_blocks-requires-clause-there
judge_blocks-requires-clause-there g c told =
    let whole = c.in_ok-log.ensures.whole told in
    subst (λ (d : Disk). HasEach d.files c.in_ok-log.log.newest) (sym (c.in_ok-log.ensures.only_reads told).disk) (each_there (g.S.Store.disk c.args.store.now).files c.in_ok-log.log.newest whole.0 whole.1)

not_early : (files : Files) (newest : ℕ) (e : CompactFault) → HasCause (HasStale files newest) e → IsEarly e → ⊥
not_early files newest Memory h early = early
not_early files newest StoreFault h early = early
not_early files newest Contested h early = early
not_early files newest Absent h early = let is = h.6 in absurd (cc)
not_early files newest (Malformed path) h early = let is = h.6 in absurd (cc)
not_early files newest (Unsupported feature path) h early = let is = h.6 in absurd (cc)
not_early files newest (Limit which number) h early = let is = h.6 in absurd (cc)
not_early files newest (Stale path) h early = early

-- ---- the log can't be read whole

pub returns-in_err-log-clause-compacts : goal.returns-in_err-log-clause-compacts
returns-in_err-log-clause-compacts g c told = (0, reads_up_to g.S.Store _ c.args.store.now c.read_whole.new.store (c.in_err-log.ensures.only_reads told))

pub returns-in_err-log-clause-refused : goal.returns-in_err-log-clause-refused
returns-in_err-log-clause-refused g c told =
    let files = (g.S.Store.disk c.args.store.now).files in
    let exit = err_from_is_err_and c.from_residual.result c.from_residual.ensures.1 in
    subst (λ r. IfErr r (HasCause (IsRefused files))) (sym exit.1)
    (subst (HasCause (IsRefused files)) (sym exit.2) (cause_weaker (IsUnread files) (IsRefused files) (λ e h. inl h) c.in_err-log.field-0.0 (c.in_err-log.ensures.refused told)))

pub returns-in_err-log-clause-early : goal.returns-in_err-log-clause-early
returns-in_err-log-clause-early g c told =
    let exit = err_from_is_err_and c.from_residual.result c.from_residual.ensures.1 in
    subst (λ r. IfErr r (λ e. IsEarly e → OnlyReads g.S.Store c.args.store.now c.read_whole.new.store)) (sym exit.1) (λ early. c.in_err-log.ensures.only_reads told)

pub returns-in_err-log-clause-contest : goal.returns-in_err-log-clause-contest
returns-in_err-log-clause-contest g c =
    let exit = err_from_is_err_and c.from_residual.result c.from_residual.ensures.1 in
    contest_of_none g.S.Store.contests g.S.Store.may_contest c.args.store.now c.read_whole.new.store _ (IsErrOf c.from_residual.result Contested) c.in_err-log.ensures.contest
    (λ told. c.in_err-log.ensures.contest.never (err_back c.from_residual.result exit.0 c.in_err-log.field-0.0 Contested exit.1 exit.2 told))

-- ---- a block can't be joined

pub returns-in_err-judge_blocks-clause-contest : goal.returns-in_err-judge_blocks-clause-contest
returns-in_err-judge_blocks-clause-contest g c =
    let store = g.S.Store in
    let exit = err_from_is_err_and c.from_residual-in_err-judge_blocks.result c.from_residual-in_err-judge_blocks.ensures.1 in
    let e = c.in_err-judge_blocks.field-0.0 in
    let run = uncontested_further store.contests store.may_contest c.args.store.now c.read_whole.new.store c.judge_blocks.new.store _ _ ⊥ c.in_ok-log.ensures.contest c.in_err-judge_blocks.ensures.contest (λ never. absurd never) in
    contest_of_none store.contests store.may_contest c.args.store.now c.judge_blocks.new.store ⊥ (IsErrOf c.from_residual-in_err-judge_blocks.result Contested) run
    (λ told. c.in_err-judge_blocks.ensures.contest.never (err_back c.from_residual-in_err-judge_blocks.result exit.0 e Contested exit.1 exit.2 told))

pub returns-in_err-judge_blocks-clause-compacts : goal.returns-in_err-judge_blocks-clause-compacts
returns-in_err-judge_blocks-clause-compacts g c told =
    let store = g.S.Store in
    let only = reading_further store c.args.store.now c.read_whole.new.store c.judge_blocks.new.store c.in_ok-log.ensures.only_reads c.in_err-judge_blocks.ensures.only_reads in
    (0, reads_up_to store _ c.args.store.now c.judge_blocks.new.store (only told))

pub returns-in_err-judge_blocks-clause-refused : goal.returns-in_err-judge_blocks-clause-refused
returns-in_err-judge_blocks-clause-refused g c told =
    let files = (g.S.Store.disk c.args.store.now).files in
    let newest = c.in_ok-log.log.newest in
    let whole = c.in_ok-log.ensures.whole told in
    let exit = err_from_is_err_and c.from_residual-in_err-judge_blocks.result c.from_residual-in_err-judge_blocks.ensures.1 in
    let e = c.in_err-judge_blocks.field-0.0 in
    let why = subst (λ (d : Disk). HasCause (HasUnjoinable d.files newest) e) (c.in_ok-log.ensures.only_reads told).disk (c.in_err-judge_blocks.ensures.refused told) in
    subst (λ r. IfErr r (HasCause (IsRefused files))) (sym exit.1)
    (subst (HasCause (IsRefused files)) (sym exit.2) (cause_weaker (HasUnjoinable files newest) (IsRefused files) (λ f h. inr (newest, whole.0, whole.1, inl h)) e why))

pub returns-in_err-judge_blocks-clause-early : goal.returns-in_err-judge_blocks-clause-early
returns-in_err-judge_blocks-clause-early g c told =
    let store = g.S.Store in
    let only = reading_further store c.args.store.now c.read_whole.new.store c.judge_blocks.new.store c.in_ok-log.ensures.only_reads c.in_err-judge_blocks.ensures.only_reads in
    let exit = err_from_is_err_and c.from_residual-in_err-judge_blocks.result c.from_residual-in_err-judge_blocks.ensures.1 in
    subst (λ r. IfErr r (λ e. IsEarly e → OnlyReads store c.args.store.now c.judge_blocks.new.store)) (sym exit.1) (λ early. only told)

-- ---- a log compaction is stale, or can't be written

pub compact_blocks-requires-clause-joinable : goal.compact_blocks-requires-clause-joinable
compact_blocks-requires-clause-joinable g c told =
    subst (λ (d : Disk). AreJoinable d.files c.in_ok-log.log.newest) (sym (c.in_ok-judge_blocks.ensures.only_reads told).disk) (c.in_ok-judge_blocks.ensures.joinable told)

pub returns-in_err-counts-clause-compacts : goal.returns-in_err-counts-clause-compacts
returns-in_err-counts-clause-compacts g c told =
    let store = g.S.Store in
    let only = reading_further store c.args.store.now c.read_whole.new.store c.judge_blocks.new.store c.in_ok-log.ensures.only_reads c.in_ok-judge_blocks.ensures.only_reads in
    let exit = err_from_is_err_and c.from_residual-in_err-counts.result c.from_residual-in_err-counts.ensures.1 in
    let run = c.in_err-counts.ensures.compacts told in
    (run.0, up_to_behind store c.args.store.now c.judge_blocks.new.store c.compact_blocks.new.store told (only told) run.0 _ (IsErrOf c.from_residual-in_err-counts.result Contested) (err_same c.from_residual-in_err-counts.result exit.0 c.in_err-counts.field-0.0 Contested exit.1 exit.2) run.1)

pub returns-in_err-counts-clause-refused : goal.returns-in_err-counts-clause-refused
returns-in_err-counts-clause-refused g c told =
    let store = g.S.Store in
    let files = (store.disk c.args.store.now).files in
    let newest = c.in_ok-log.log.newest in
    let only = reading_further store c.args.store.now c.read_whole.new.store c.judge_blocks.new.store c.in_ok-log.ensures.only_reads c.in_ok-judge_blocks.ensures.only_reads in
    let whole = c.in_ok-log.ensures.whole told in
    let joinable = subst (λ (d : Disk). AreJoinable d.files newest) (c.in_ok-log.ensures.only_reads told).disk (c.in_ok-judge_blocks.ensures.joinable told) in
    let exit = err_from_is_err_and c.from_residual-in_err-counts.result c.from_residual-in_err-counts.ensures.1 in
    let e = c.in_err-counts.field-0.0 in
    let why = subst (λ (d : Disk). HasCause (HasStale d.files newest) e) (only told).disk (c.in_err-counts.ensures.refused told) in
    subst (λ r. IfErr r (HasCause (IsRefused files))) (sym exit.1)
    (subst (HasCause (IsRefused files)) (sym exit.2) (cause_weaker (HasStale files newest) (IsRefused files) (λ f h. inr (newest, whole.0, whole.1, inr (joinable, h))) e why))

pub returns-in_err-counts-clause-early : goal.returns-in_err-counts-clause-early
returns-in_err-counts-clause-early g c told =
    let store = g.S.Store in
    let exit = err_from_is_err_and c.from_residual-in_err-counts.result c.from_residual-in_err-counts.ensures.1 in
    let e = c.in_err-counts.field-0.0 in
    subst (λ r. IfErr r (λ f. IsEarly f → OnlyReads store c.args.store.now c.compact_blocks.new.store)) (sym exit.1)
    (λ early. absurd (not_early (store.disk c.judge_blocks.new.store).files c.in_ok-log.log.newest e (c.in_err-counts.ensures.refused told) (subst IsEarly exit.2 early)))

pub returns-in_err-counts-clause-contest : goal.returns-in_err-counts-clause-contest
returns-in_err-counts-clause-contest g c =
    let store = g.S.Store in
    let exit = err_from_is_err_and c.from_residual-in_err-counts.result c.from_residual-in_err-counts.ensures.1 in
    let before = uncontested_further store.contests store.may_contest c.args.store.now c.read_whole.new.store c.judge_blocks.new.store _ _ ⊥ c.in_ok-log.ensures.contest c.in_ok-judge_blocks.ensures.contest (λ never. absurd never) in
    contest_behind store.contests store.may_contest c.args.store.now c.judge_blocks.new.store c.compact_blocks.new.store ⊥ _ (IsErrOf c.from_residual-in_err-counts.result Contested) before c.in_err-counts.ensures.contest
    (err_back c.from_residual-in_err-counts.result exit.0 c.in_err-counts.field-0.0 Contested exit.1 exit.2) (err_same c.from_residual-in_err-counts.result exit.0 c.in_err-counts.field-0.0 Contested exit.1 exit.2)

-- ---- all is done

pub returns-clause-done : goal.returns-clause-done
returns-clause-done g c told =
    let store = g.S.Store in
    let newest = c.in_ok-log.log.newest in
    let counts = c.in_ok-counts.counts in
    let new = c.compact_blocks.new.store in
    let only = reading_further store c.args.store.now c.read_whole.new.store c.judge_blocks.new.store c.in_ok-log.ensures.only_reads c.in_ok-judge_blocks.ensures.only_reads in
    let whole = c.in_ok-log.ensures.whole told in
    record {
      table = whole.0;
      whole = whole.1;
      files = whole.2;
      joinable = subst (λ (d : Disk). AreJoinable d.files newest) (c.in_ok-log.ensures.only_reads told).disk (c.in_ok-judge_blocks.ensures.joinable told);
      blocks = subst (λ (d : Disk). AreCompacted d.files (store.disk new).files newest counts.written counts.kept) (only told).disk (c.in_ok-counts.ensures.compacted told);
    }

pub returns-clause-compacts : goal.returns-clause-compacts
returns-clause-compacts g c told =
    let store = g.S.Store in
    let only = reading_further store c.args.store.now c.read_whole.new.store c.judge_blocks.new.store c.in_ok-log.ensures.only_reads c.in_ok-judge_blocks.ensures.only_reads in
    let run = c.in_ok-counts.ensures.compacts told in
    (run.0, up_to_behind store c.args.store.now c.judge_blocks.new.store c.compact_blocks.new.store told (only told) run.0 _ _ (λ contested. absurd (cc)) run.1)

pub returns-clause-contest : goal.returns-clause-contest
returns-clause-contest g c =
    let store = g.S.Store in
    let before = uncontested_further store.contests store.may_contest c.args.store.now c.read_whole.new.store c.judge_blocks.new.store _ _ ⊥ c.in_ok-log.ensures.contest c.in_ok-judge_blocks.ensures.contest (λ never. absurd never) in
    contest_behind store.contests store.may_contest c.args.store.now c.judge_blocks.new.store c.compact_blocks.new.store ⊥ _ _ before c.in_ok-counts.ensures.contest (λ contested. cc) (λ contested. cc)

-- ---- which one is stale

pub returns-in_err-log-clause-stale : goal.returns-in_err-log-clause-stale
returns-in_err-log-clause-stale g c told path block stale is =
    let result = c.from_residual.result in
    let exit = err_from_is_err_and result c.from_residual.ensures.1 in
    let e = c.in_err-log.field-0.0 in
    let same : e ≡ Stale path = err_once e (Stale path) (err_back result exit.0 e (Stale path) exit.1 exit.2 stale) in
    let why = subst (HasCause (IsUnread (g.S.Store.disk c.args.store.now).files)) same (c.in_err-log.ensures.refused told) in
    absurd (source_fresh why.0 path why.2)

pub returns-in_err-judge_blocks-clause-stale : goal.returns-in_err-judge_blocks-clause-stale
returns-in_err-judge_blocks-clause-stale g c told path block stale is =
    let result = c.from_residual-in_err-judge_blocks.result in
    let exit = err_from_is_err_and result c.from_residual-in_err-judge_blocks.ensures.1 in
    let e = c.in_err-judge_blocks.field-0.0 in
    let same : e ≡ Stale path = err_once e (Stale path) (err_back result exit.0 e (Stale path) exit.1 exit.2 stale) in
    let files = (g.S.Store.disk c.read_whole.new.store).files in
    let why = subst (HasCause (HasUnjoinable files c.in_ok-log.log.newest)) same (c.in_err-judge_blocks.ensures.refused told) in
    absurd (unjoinable_fresh files why.0 path why.3)

pub returns-in_err-counts-clause-stale : goal.returns-in_err-counts-clause-stale
returns-in_err-counts-clause-stale g c told path block stale is =
    let store = g.S.Store in
    let result = c.from_residual-in_err-counts.result in
    let exit = err_from_is_err_and result c.from_residual-in_err-counts.ensures.1 in
    let only = reading_further store c.args.store.now c.read_whole.new.store c.judge_blocks.new.store c.in_ok-log.ensures.only_reads c.in_ok-judge_blocks.ensures.only_reads in
    stops_behind store c.args.store.now c.judge_blocks.new.store c.compact_blocks.new.store told (only told) block
    (c.in_err-counts.ensures.stale told path block (err_back result exit.0 c.in_err-counts.field-0.0 (Stale path) exit.1 exit.2 stale) is)
