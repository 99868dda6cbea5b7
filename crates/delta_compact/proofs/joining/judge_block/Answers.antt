use Rattle.std.proofs.Common.{◌⊎◌, ℕ, List, inl, inr, sym, subst}
use Rattle.std.proofs.lemmas.Result.{err_from_is_err_and}
use Rattle.std.specs.Prelude.{IfErr}
use Rattle.delta_compact.specs.Blocks.{HoldsBlock}
use Rattle.delta_compact.specs.Refusals.{HasCause, HaveManyActions, IsLong, IsUnjoinable, IsUnjoined}
use Rattle.delta_compact.proofs.Joins.{cause_weaker}
use Rattle.delta_compact.proofs.joining.judge_block.Goals as goal

pub returns-in_err-commits-clause-refused : goal.returns-in_err-commits-clause-refused
returns-in_err-commits-clause-refused g c told =
    let files = (g.S.Store.disk c.args.store.now).files in
    let exit = err_from_is_err_and c.from_residual.result c.from_residual.ensures.1 in
    subst (λ r. IfErr r (HasCause (IsUnjoinable files c.args.block))) (sym exit.1)
    (subst (HasCause (IsUnjoinable files c.args.block)) (sym exit.2)
    (cause_weaker (λ e. (commits : List (List ℕ)) × HoldsBlock files c.args.block commits × IsLong commits e) (IsUnjoinable files c.args.block) (λ e h. (h.0, h.1, inl h.2)) c.in_err-commits.field-0.0 (c.in_err-commits.ensures.refused told)))

pub returns-in_err-block_lines-clause-refused : goal.returns-in_err-block_lines-clause-refused
returns-in_err-block_lines-clause-refused g c told =
    let files = (g.S.Store.disk c.args.store.now).files in
    let block = c.args.block in
    let commits = c.in_ok-commits.commits.items in
    let exit = err_from_is_err_and c.from_residual-in_err-block_lines.result c.from_residual-in_err-block_lines.ensures.1 in
    let e = c.in_err-block_lines.field-0.0 in
    let why = subst (λ (l : List (List ℕ)). HasCause (λ e. IsUnjoined block l e ⊎ HaveManyActions l e) e) c.as_slice.ensures.value c.in_err-block_lines.ensures.refused in
    subst (λ r. IfErr r (HasCause (IsUnjoinable files block))) (sym exit.1)
    (subst (HasCause (IsUnjoinable files block)) (sym exit.2)
    (cause_weaker (λ e. IsUnjoined block commits e ⊎ HaveManyActions commits e) (IsUnjoinable files block)
    (λ e h. (commits, c.in_ok-commits.ensures.held told, inr (c.in_ok-commits.ensures.short, h))) e why))
