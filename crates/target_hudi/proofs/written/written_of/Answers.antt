use Rattle.std.proofs.Common.{ℕ, List, Contains, subst}
use Rattle.std.specs.Option.{option_copied}
use Rattle.table_history.specs.Row.{Row}
use Rattle.target_hudi.proofs.WrittenLemmas.{writable_is, written_is}
use Rattle.target_hudi.proofs.written.written_of.Goals as goal

pub stats_of-requires-clause-paths : goal.stats_of-requires-clause-paths
stats_of-requires-clause-paths c = λ row there. c.requires.added_paths row (subst (λ (l : List Row). Contains l row) c.as_slice.ensures there)

pub replaced_ids-requires-clause-paths : goal.replaced_ids-requires-clause-paths
replaced_ids-requires-clause-paths c = λ path there. c.requires.paths path (subst (λ (l : List (List ℕ)). Contains l path) c.as_slice-2.ensures there)

pub returns-clause-is : goal.returns-clause-is
returns-clause-is c =
    written_is c.args.schema.now (record { source = c.args.source; table = option_copied c.args.table }) c.args.instant.now c.args.commit.now c.args.after.now c.as_slice.result.now c.as_slice-2.result.now
    c.in_ok-stats.stats.items c.from_vec.result c.in_ok-replaced.replaced.items c.from_vec-2.result c.in_ok-schema.schema c.in_ok-mark.mark
    c.requires.leaves c.requires.loses c.as_slice.ensures c.as_slice-2.ensures c.from_vec.ensures c.from_vec-2.ensures
    c.in_ok-stats.ensures.stats c.in_ok-stats.ensures.order c.in_ok-replaced.ensures.ids c.in_ok-replaced.ensures.order c.in_ok-schema.ensures.stated c.in_ok-mark.ensures.text

pub returns-clause-writable : goal.returns-clause-writable
returns-clause-writable c =
    writable_is c.args.commit.now.change c.as_slice.result.now c.as_slice-2.result.now c.in_ok-stats.stats.items c.from_vec.result c.in_ok-replaced.replaced.items c.from_vec-2.result _ _
    c.requires.few c.as_slice.ensures c.as_slice-2.ensures c.from_vec.ensures c.from_vec-2.ensures
    c.in_ok-stats.ensures.sound c.in_ok-stats.ensures.len c.in_ok-stats.ensures.sorted c.in_ok-replaced.ensures.few c.in_ok-replaced.ensures.sorted
