use Rattle.target_hudi.proofs.NewInstantLemmas.{held_either}
use Rattle.target_hudi.proofs.RankLemmas.{one_more, real_still}
use Rattle.target_hudi.proofs.new_instant.go_on.Goals as goal

pub invariant_of-kept : goal.invariant_of-kept
invariant_of-kept c = record {
  newest_real = λ last same. real_still c.args.time last same c.requires.real;
  rows_held = held_either c.args.kept.now c.args.commit.now c.requires.can c.apply.new.self c.apply.result c.apply.ensures.ok c.apply.ensures.err;
  commits_bounded = one_more c.args.kept.now.commits c.args.kept.now.newest c.args.time c.args.kept.now.commits_bounded c.requires.later;
  begun = λ none. absurd (cc none);
}
