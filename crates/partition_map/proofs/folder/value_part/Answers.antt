use Rattle.std.proofs.Common.{None, Some, lit<}
use Rattle.std.proofs.lemmas.Bool.{not-false}
use Rattle.partition_map.proofs.FolderLemmas.{no_part, other_part, found_part, part_means}
use Rattle.partition_map.proofs.folder.value_part.Goals as goal

pub returns-in-None-clause-value : goal.returns-in-None-clause-value
returns-in-None-clause-value c =
    no_part c.args.style c.args.column.now c.args.component.now (not-false _ c.if-not-style.false) (c.in-None.ensures.byte (lit< tt) (λ w o h. h))

pub returns-in-None-clause-meaning : goal.returns-in-None-clause-meaning
returns-in-None-clause-meaning c =
    part_means c.args.style c.args.column.now c.args.component.now None
    (no_part c.args.style c.args.column.now c.args.component.now (not-false _ c.if-not-style.false) (c.in-None.ensures.byte (lit< tt) (λ w o h. h)))

pub returns-then-branch-clause-meaning : goal.returns-then-branch-clause-meaning
returns-then-branch-clause-meaning c =
    let cut = c.in-Some.ensures.byte (lit< tt) (λ w o h. h) in
    part_means c.args.style c.args.column.now c.args.component.now (Some c.in-Some.part)
    (found_part c.args.style c.args.column.now c.args.component.now c.in-Some.name.now c.in-Some.part.now c.in_ok-is_name_of-in-Some.field-0 (not-false _ c.if-not-style.false)
    cut.0 cut.1 cut.2 c.in_ok-is_name_of-in-Some.ensures c.if-branch.true)

pub returns-else-branch-clause-meaning : goal.returns-else-branch-clause-meaning
returns-else-branch-clause-meaning c =
    let cut = c.in-Some.ensures.byte (lit< tt) (λ w o h. h) in
    part_means c.args.style c.args.column.now c.args.component.now None
    (other_part c.args.style c.args.column.now c.args.component.now c.in-Some.name.now c.in_ok-is_name_of-in-Some.field-0 (not-false _ c.if-not-style.false)
    cut.0 c.in_ok-is_name_of-in-Some.ensures c.if-branch.false)
