use Rattle.std.proofs.Common.{◌||◌, ap, ◌∙◌}
use Rattle.std.specs.Str.{bytes_eq}
use Rattle.hudi_groups.specs.GroupSets.{Groups, has_group}
use Rattle.hudi_groups.proofs.GroupSetLemmas.{has_group-insert}
use Rattle.hudi_groups.proofs.index.one_more.Goals as goal

pub returns : goal.returns
returns c = λ p.
    has_group-insert c.args.path c.deref_mut.result.now c.insert.new.self c.in_ok-insert.ensures.updates p
    ∙ ap (λ (s : Groups). bytes_eq p c.args.path || has_group s p) c.deref_mut.ensures.value
