use Rattle.std.proofs.Common.{ap, length}
use Rattle.iceberg_version.proofs.FreshLemmas.{fresh_contents, fresh_metadata, fresh_owners, fresh_paths, fresh_rows, fresh_table}
use Rattle.iceberg_version.proofs.fresh.fresh_kept.Goals as goal

pub invariant_of-result-clause-metadata_sound : goal.invariant_of-result-clause-metadata_sound
invariant_of-result-clause-metadata_sound c = fresh_metadata _ _ c.no_version.result c.no_version.ensures

pub invariant_of-result-clause-contents : goal.invariant_of-result-clause-contents
invariant_of-result-clause-contents c = fresh_contents c.new.result c.new.ensures

pub invariant_of-result-clause-begun : goal.invariant_of-result-clause-begun
invariant_of-result-clause-begun c = λ first. ap length c.new.ensures

pub invariant_of-result-clause-table_sound : goal.invariant_of-result-clause-table_sound
invariant_of-result-clause-table_sound c = fresh_table c.args.partition.now c.in_ok-empty.field-0 c.in_ok-empty.ensures

pub invariant_of-result-clause-rows_linked : goal.invariant_of-result-clause-rows_linked
invariant_of-result-clause-rows_linked c = fresh_rows c.in_ok-empty.field-0.rows c.new-2.result c.new-2.ensures.owners

pub invariant_of-result-clause-own_paths : goal.invariant_of-result-clause-own_paths
invariant_of-result-clause-own_paths c = fresh_paths c.new-2.result c.new-2.ensures.owners

pub invariant_of-result-clause-own_owners : goal.invariant_of-result-clause-own_owners
invariant_of-result-clause-own_owners c = fresh_owners c.new.result c.new.ensures
