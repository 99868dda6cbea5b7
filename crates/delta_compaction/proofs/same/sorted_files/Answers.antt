use Rattle.std.proofs.Common.{rules, subst, sym}
use Rattle.std.specs.List.{IsDistinct}
use Rattle.std.specs.Str.{bytes_eq}
use Rattle.std.proofs.lemmas.List.Sorted.{answers_always}
use Rattle.delta_log.specs.Commit.{file_paths}
use Rattle.delta_compaction.proofs.SameLemmas.{file_below, file_below-order, files_rise}
use Rattle.delta_compaction.proofs.same.sorted_files.Goals as goal

pub returns-clause-order : goal.returns-clause-order
returns-clause-order c =
    files_rise c.into_vec-sorted.result.items c.sort_by.new.self.items c.in_ok-sort_by.ensures.permutation (subst (λ l. IsDistinct bytes_eq (file_paths l)) (sym c.into_vec-sorted.ensures) c.requires)
    (c.in_ok-sort_by.ensures.sorted file_below file_below-order (answers_always _ _ _ (λ f a r f' h. search rules)))
