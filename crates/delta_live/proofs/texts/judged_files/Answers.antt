use Rattle.std.proofs.Common.{Contains, All, take, sym, subst, arith}
use Rattle.std.proofs.lemmas.List.Elements.{All-push}
use Rattle.std.proofs.lemmas.Result.{err_from_is_err_and}
use Rattle.table_history.specs.declared.feature.Feature.TheVariants.{PartitionValue}
use Rattle.delta_log.specs.declared.commit.FileAction.{FileAction}
use Rattle.delta_live.specs.RowSteps.{kind_in, FileStands, FileFails}
use Rattle.delta_live.proofs.ValueLemmas.{tells_more}
use Rattle.delta_live.proofs.texts.judged_files.Goals as goal
use Rattle.lake_basics.proofs.Lists.{last_of, there_at}

pub returns-in_err-judged_file-clause-refused : goal.returns-in_err-judged_file-clause-refused
returns-in_err-judged_file-clause-refused c =
    let p = err_from_is_err_and c.from_residual.result c.from_residual.ensures.1 in
    rw (p.1, p.2) (tells_more PartitionValue _
    ((file : FileAction) × Contains c.args.files.now file × FileFails (kind_in c.args.kinds.now) file)
    (λ fails. (c.file-item.result, there_at c.args.files.now c.loop-file.file-index c.file-item.result (omega arith) c.file-item.is, fails)) _ c.in_err-judged_file.ensures.refused)

pub loop-file-preserved : goal.loop-file-preserved
loop-file-preserved c =
    subst (All (FileStands (kind_in c.args.kinds.now))) (sym (last_of c.args.files.now c.loop-file.file-index c.file-item.result (omega arith) c.file-item.is))
    (All-push (FileStands (kind_in c.args.kinds.now)) (take c.loop-file.file-index c.args.files.now) c.file-item.result c.loop-file.invariant c.in_ok-judged_file.ensures.ok)
