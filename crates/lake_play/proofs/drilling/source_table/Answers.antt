use Rattle.std.proofs.Common.{Err, inl, ap, subst, sym, ◌∙◌}
use Rattle.std.specs.Prelude.{IfErr, IfOk}
use Rattle.lake_store.specs.Disk.{Disk}
use Rattle.source_core.specs.declared.error.SourceError.{SourceError}
use Rattle.source_delta.specs.Heads.{IsDeltaHead, IsTableAtHead}
use Rattle.lake_play.specs.Drilled.{IsTableRefusal}
use Rattle.lake_play.proofs.Reading.{on_ok_of, table_refused}
use Rattle.lake_play.proofs.drilling.source_table.Goals as goal

pub whole-requires : goal.whole-requires
whole-requires c told = subst (λ (d : Disk). IsDeltaHead d.files c.in-Ok.head) (sym (c.in-Ok.ensures.only_reads tt).disk) (c.in-Ok.ensures.head tt).1

pub returns-in-Ok-clause-head : goal.returns-in-Ok-clause-head
returns-in-Ok-clause-head c = on_ok_of c.whole.result (c.in-Ok.head, (c.in-Ok.ensures.head tt).1)

pub returns-in-Ok-clause-table : goal.returns-in-Ok-clause-table
returns-in-Ok-clause-table c = subst (λ (d : Disk). IfOk c.whole.result (IsTableAtHead d.files)) (c.in-Ok.ensures.only_reads tt).disk (c.whole.ensures.table tt)

pub returns-in-Ok-clause-refused : goal.returns-in-Ok-clause-refused
returns-in-Ok-clause-refused c =
    subst (λ (d : Disk). IfErr c.whole.result (IsTableRefusal d.files)) (c.in-Ok.ensures.only_reads tt).disk (table_refused _ c.whole.result (c.whole.ensures.refused tt) c.whole.ensures.cause.allowed)

pub returns-in-Ok-clause-still : goal.returns-in-Ok-clause-still
returns-in-Ok-clause-still c = (c.whole.ensures.only_reads tt).disk ∙ (c.in-Ok.ensures.only_reads tt).disk

pub returns-in-Err-clause-refused : goal.returns-in-Err-clause-refused
returns-in-Err-clause-refused c = (inl (c.in-Err.ensures.head tt), λ fault. c.in-Err.ensures.cause.allowed (ap (λ (e : SourceError). Err e) fault))

pub returns-in-Err-clause-still : goal.returns-in-Err-clause-still
returns-in-Err-clause-still c = (c.in-Err.ensures.only_reads tt).disk
