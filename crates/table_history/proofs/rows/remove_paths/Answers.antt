use Rattle.std.proofs.Common.{◌≡◌, None, cond, ◌||◌, take, sym, ap, ◌∙◌, arith}
use Rattle.std.specs.List.{list_any}
use Rattle.std.specs.Str.{bytes_eq}
use Rattle.std.proofs.lemmas.Cmp.{nat_list_eq_equiv}
use Rattle.std.proofs.lemmas.List.Folds.{list_any_more}
use Rattle.table_history.specs.Rows.{row_at}
use Rattle.table_history.proofs.RowListLemmas.{removed_step}
use Rattle.table_history.proofs.RowSetLemmas.{row_at-swap_remove, distinct_paths}
use Rattle.table_history.proofs.rows.remove_paths.Goals as goal

pub loop-path-preserved : goal.loop-path-preserved
loop-path-preserved c = record {
  lookups = λ p.
      let path = c.path-item.result in
      let old = c.loop-path.rows.keys in
      let gone = list_any (bytes_eq p) (take c.loop-path.path-index c.args.paths.now) in
      let first = row_at c.args.rows.now.keys p in
      let bytes : c.as_bytes.result.now ≡ path = c.as_bytes.ensures.value in
      row_at-swap_remove old c.swap_remove.new.self.keys c.as_bytes.result.now c.swap_remove.ensures.keys c.swap_remove.ensures.updates.1 (distinct_paths old c.loop-path.invariant.unique) p
      ∙ ap (λ b. cond b None (row_at old p)) (nat_list_eq_equiv.symm c.as_bytes.result.now p ∙ ap (bytes_eq p) bytes)
      ∙ ap (cond (bytes_eq p path) None) (c.loop-path.invariant.lookups p)
      ∙ removed_step (bytes_eq p path) gone first
      ∙ ap (λ b. cond (gone || b) None first) (ap (bytes_eq p) c.path-item.is)
      ∙ ap (λ b. cond b None first) (sym (list_any_more (bytes_eq p) c.args.paths.now c.loop-path.path-index path (omega arith)));
  room = omega arith;
  unique = c.swap_remove.ensures.unique;
}
