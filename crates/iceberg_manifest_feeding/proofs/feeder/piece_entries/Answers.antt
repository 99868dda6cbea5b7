use Rattle.std.proofs.Common.{map, sym, subst}
use Rattle.std.proofs.lemmas.Result.{err_from_is_err_and}
use Rattle.lake_basics.specs.Outcome.{FailsUnlessMemory, GivesUnlessMemory}
use Rattle.avro_value.specs.ValueTree.{value_tree}
use Rattle.avro_feeding.specs.Calls.{has_read}
use Rattle.avro_feeding.specs.Feeding.{fed}
use Rattle.iceberg_manifest.specs.Errors.{is_memory}
use Rattle.iceberg_manifest.specs.declared.error.ManifestError.{ManifestError}
use Rattle.iceberg_manifest_feeding.specs.Steps.{Entries, entries_in}
use Rattle.iceberg_manifest_feeding.proofs.CallLaws.{all_read, last_refused, state_stays}
use Rattle.iceberg_manifest_feeding.proofs.feeder.piece_entries.Goals as goal

pub returns-in_err-feed-clause-gives : goal.returns-in_err-feed-clause-gives
returns-in_err-feed-clause-gives c =
    let columns = c.args.columns.now in
    let old = has_read c.args.feeder.now in
    let first = c.in_ok-values.ensures.0 in
    let exit = err_from_is_err_and c.from_residual-in_err-feed.result c.from_residual-in_err-feed.ensures.1 in
    let refused = last_refused columns old c.args.piece.now (has_read c.feed.new.feeder) _ (map value_tree c.in_ok-values.values) c.in_ok-entries.entries first.0 c.schema.ensures first.1 c.in_ok-entries.ensures _ c.in_err-feed.ensures.1 in
    subst (λ (r : Entries). GivesUnlessMemory is_memory (λ es. es) r (entries_in columns (fed old c.args.piece.now))) (sym exit.1)
    (subst (λ (e : ManifestError). FailsUnlessMemory (is_memory e) e (entries_in columns (fed old c.args.piece.now))) (sym exit.2) refused)

pub returns-clause-gives : goal.returns-clause-gives
returns-clause-gives c =
    let first = c.in_ok-values.ensures.0 in
    all_read c.args.columns.now (has_read c.args.feeder.now) c.args.piece.now (has_read c.feed.new.feeder) _ (map value_tree c.in_ok-values.values) c.in_ok-entries.entries first.0 c.schema.ensures first.1 c.in_ok-entries.ensures _ c.in_ok-feed.ensures.0.1

pub returns-clause-state : goal.returns-clause-state
returns-clause-state c = state_stays c.args.columns.now (has_read c.args.feeder.now) c.args.piece.now (has_read c.feed.new.feeder) _ c.in_ok-values.ensures.0.0 c.in_ok-feed.ensures.0.0
