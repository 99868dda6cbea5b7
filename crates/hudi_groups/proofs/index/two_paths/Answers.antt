use Rattle.std.proofs.Common.{◌||◌, ap, ◌∙◌}
use Rattle.std.specs.List.{list_any}
use Rattle.std.specs.Str.{bytes_eq}
use Rattle.hudi_groups.specs.GroupSets.{Groups, has_group}
use Rattle.hudi_groups.proofs.GroupSetLemmas.{has_group-insert}
use Rattle.hudi_groups.proofs.index.two_paths.Goals as goal

pub returns : goal.returns
returns c = λ p.
    let path = c.args.path in
    let other = c.args.other in
    ap (λ (s : Groups). has_group s p) c.in_ok-new.ensures.ok
    ∙ has_group-insert other c.insert.new.self c.insert-2.new.self c.in_ok-insert-2.ensures.updates p
    ∙ ap (λ b. bytes_eq p other || b) (has_group-insert path c.new-paths.result c.insert.new.self c.in_ok-insert.ensures.updates p)
    ∙ ap (λ l. bytes_eq p other || (bytes_eq p path || list_any (bytes_eq p) l)) c.new-paths.ensures.empty
