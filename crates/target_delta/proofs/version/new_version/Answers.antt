use Rattle.target_delta.proofs.NewVersionLemmas.{can_add, held_either, leaves_added, loses_removed, removed_few, removed_paths}
use Rattle.target_delta.proofs.version.new_version.Goals as goal

pub invariant_of-kept : goal.invariant_of-kept
invariant_of-kept c = record { rows_held = held_either c.args.kept.now c.args.commit.now c.requires.can c.apply.new.self c.apply.result c.apply.ensures.ok c.apply.ensures.err }

pub text_of-requires-clause-leaves : goal.text_of-requires-clause-leaves
text_of-requires-clause-leaves c = leaves_added c.args.kept.now.table c.apply.new.self c.args.commit.now c.in_ok-apply.ensures.ok

pub text_of-requires-clause-loses : goal.text_of-requires-clause-loses
text_of-requires-clause-loses c = loses_removed c.args.kept.now.table c.apply.new.self c.args.commit.now c.in_ok-apply.ensures.ok

pub text_of-requires-clause-fit : goal.text_of-requires-clause-fit
text_of-requires-clause-fit c = can_add c.args.kept.now c.args.commit.now c.requires.can c.apply.new.self c.in_ok-apply.ensures.ok c.requires.fits

pub text_of-requires-clause-paths : goal.text_of-requires-clause-paths
text_of-requires-clause-paths c = removed_paths c.args.kept.now c.args.commit.now c.requires.can

pub text_of-requires-clause-few : goal.text_of-requires-clause-few
text_of-requires-clause-few c = removed_few c.args.kept.now c.args.commit.now c.requires.can
