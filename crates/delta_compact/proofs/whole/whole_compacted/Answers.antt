use Rattle.std.proofs.Common.{◌≡◌, ◌+◌, ◌-◌, ℕ, List, Option, inl, inr, refl, sym, subst, arith}
use Rattle.std.proofs.lemmas.Result.{err_from_is_err_and}
use Rattle.std.specs.Prelude.{IfErr, IfOk, MatchOption}
use Rattle.lake_store.specs.Disk.{Disk}
use Rattle.lake_store.proofs.RunLaws.{reading_further}
use Rattle.table_history.specs.declared.feature.Feature.TheVariants.{NeedsCheckpoint}
use Rattle.delta_table.specs.Versions.{IsVersionPath}
use Rattle.source_core.specs.declared.error.SourceError.TheVariants as source
use Rattle.source_delta.specs.Reading.{HasEach, IsLastMissing}
use Rattle.delta_compact.specs.Refusals.{HasCause}
use Rattle.delta_compact.specs.Whole.{AllCompacted, IsOfReading, IsTableBefore, IsUnreadUpTo, StopsAtPart}
use Rattle.delta_compact.specs.declared.error.CompactFault.{CompactFault}
use Rattle.delta_compact.specs.declared.error.CompactFault.TheVariants.{Unsupported}
use Rattle.delta_compact.proofs.Causes.{fault_further, uncontested_further}
use Rattle.delta_compact.proofs.Joins.{cause_weaker}
use Rattle.delta_compact.proofs.Refused.{blocks_there, errs, plain_cause, plain_reading}
use Rattle.delta_compact.proofs.whole.whole_compacted.Goals as goal

pub missing_version-requires-clause-before : goal.missing_version-requires-clause-before
missing_version-requires-clause-before g c told version early =
    let all = c.block_count.ensures.all in
    blocks_there (g.S.Store.disk c.args.store.now).files c.args.head (c.requires.compacted told) (omega (arith, c.if-head-gt-MAX_DELTA_VERSION.false)) c.block_count.result c.block_count.ensures version (omega (arith, early, all))

pub returns-in_err-version-clause-refused : goal.returns-in_err-version-clause-refused
returns-in_err-version-clause-refused g c told =
    let files = (g.S.Store.disk c.args.store.now).files in
    let exit = err_from_is_err_and c.from_residual.result c.from_residual.ensures.1 in
    subst (λ r. IfErr r (HasCause (IsUnreadUpTo files c.args.head))) (sym exit.1)
    (subst (HasCause (IsUnreadUpTo files c.args.head)) (sym exit.2) (plain_cause (IsUnreadUpTo files c.args.head) c.in_err-version.field-0.0 c.in_err-version.ensures.refused))

pub returns-in_err-version-clause-never : goal.returns-in_err-version-clause-never
returns-in_err-version-clause-never g c =
    let exit = err_from_is_err_and c.from_residual.result c.from_residual.ensures.1 in
    subst (λ r. IfErr r IsOfReading) (sym exit.1) (subst IsOfReading (sym exit.2) (plain_reading c.in_err-version.field-0.0 c.in_err-version.ensures.refused))

pub read_parts-requires-clause-compacted : goal.read_parts-requires-clause-compacted
read_parts-requires-clause-compacted g c told = subst (λ (d : Disk). AllCompacted d.files c.args.head) (sym (c.in_ok-version.ensures.only_reads told).disk) (c.requires.compacted told)

pub read_parts-requires-clause-each : goal.read_parts-requires-clause-each
read_parts-requires-clause-each g c told =
    let files = (g.S.Store.disk c.args.store.now).files in
    subst (λ (d : Disk). HasEach d.files c.args.head) (sym (c.in_ok-version.ensures.only_reads told).disk)
    (subst (λ (o : Option ℕ). MatchOption o (HasEach files c.args.head) (IsLastMissing files c.args.head)) c.in-None.is (c.in_ok-version.ensures.missing told))

pub returns-in-Some-clause-refused : goal.returns-in-Some-clause-refused
returns-in-Some-clause-refused g c told =
    let files = (g.S.Store.disk c.args.store.now).files in
    let head = c.args.head in
    let v = c.in-Some.version in
    let missing = subst (λ (o : Option ℕ). MatchOption o (HasEach files head) (IsLastMissing files head)) c.in-Some.is (c.in_ok-version.ensures.missing told) in
    cause_weaker (λ (e : CompactFault). (path : List ℕ) × IsVersionPath path v × (e ≡ Unsupported NeedsCheckpoint path)) (IsUnreadUpTo files head)
    (λ e h. inr (inl (source.Unsupported NeedsCheckpoint h.0, (v, h.0, missing, h.1, refl), h.2))) c.unsupported.result c.unsupported.ensures.told

pub returns-in-None-clause-table : goal.returns-in-None-clause-table
returns-in-None-clause-table g c told =
    subst (λ (d : Disk). IfOk c.read_parts.result (IsTableBefore d.files (c.args.head + 1))) (c.in_ok-version.ensures.only_reads told).disk (c.read_parts.ensures.table told)

pub returns-in-None-clause-refused : goal.returns-in-None-clause-refused
returns-in-None-clause-refused g c told =
    let files = (g.S.Store.disk c.args.store.now).files in
    let head = c.args.head in
    let each = subst (λ (o : Option ℕ). MatchOption o (HasEach files head) (IsLastMissing files head)) c.in-None.is (c.in_ok-version.ensures.missing told) in
    errs c.read_parts.result (StopsAtPart files head) (IsUnreadUpTo files head)
    (λ e h. cause_weaker (StopsAtPart files head) (IsUnreadUpTo files head) (λ f stops. inr (inr (each, stops))) e h)
    (subst (λ (d : Disk). IfErr c.read_parts.result (HasCause (StopsAtPart d.files head))) (c.in_ok-version.ensures.only_reads told).disk (c.read_parts.ensures.refused told))

pub returns-in-None-clause-only_reads : goal.returns-in-None-clause-only_reads
returns-in-None-clause-only_reads g c = reading_further g.S.Store c.args.store.now c.missing_version.new.store c.read_parts.new.store c.in_ok-version.ensures.only_reads c.read_parts.ensures.only_reads

pub returns-in-None-clause-cause : goal.returns-in-None-clause-cause
returns-in-None-clause-cause g c = fault_further g.S.Store.faults g.S.Store.may_fail c.args.store.now c.missing_version.new.store c.read_parts.new.store _ _ _ c.in_ok-version.ensures.cause c.read_parts.ensures.cause (λ is. is)

pub returns-in-None-clause-contest : goal.returns-in-None-clause-contest
returns-in-None-clause-contest g c = uncontested_further g.S.Store.contests g.S.Store.may_contest c.args.store.now c.missing_version.new.store c.read_parts.new.store _ _ _ c.in_ok-version.ensures.contest c.read_parts.ensures.contest (λ is. is)
