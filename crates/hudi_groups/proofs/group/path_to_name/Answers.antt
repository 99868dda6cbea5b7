use Rattle.std.proofs.Common.{◌-◌, ap, ◌∙◌, take, drop, arith}
use Rattle.hudi_groups.specs.Group.{joined}
use Rattle.hudi_groups.proofs.GroupLemmas.{joined_whole}
use Rattle.hudi_groups.proofs.group.path_to_name.Goals as goal

pub returns-then-start-gt1 : goal.returns-then-start-gt1
returns-then-start-gt1 c =
    let path = c.args.path.now in
    joined_whole path c.name_start-start.result c.if-start-gt1.true c.name_start-start.ensures.within (c.name_start-start.ensures.slash (omega (arith, c.if-start-gt1.true)))
    ∙ ap (λ s. joined (take (s - 1) path) (drop s path)) c.name_start-start.ensures.start
