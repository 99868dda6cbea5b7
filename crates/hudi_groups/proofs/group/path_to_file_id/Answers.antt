use Rattle.std.proofs.Common.{◌≡◌, ◌==◌, ◌-◌, ap, ◌∙◌, take, drop, arith}
use Rattle.std.specs.List.{position_or_len}
use Rattle.std.proofs.lemmas.List.{take_rest}
use Rattle.hudi_groups.specs.Group.{joined}
use Rattle.hudi_groups.proofs.GroupLemmas.{joined_behind}
use Rattle.hudi_groups.proofs.group.path_to_file_id.Goals as goal

pub returns-then-start-gt1 : goal.returns-then-start-gt1
returns-then-start-gt1 c =
    let path = c.args.path.now in
    let start = c.name_start-start.result in
    let id : c.id_len.result ≡ position_or_len (λ b. b == 95) (drop start path) = c.id_len.ensures.id ∙ ap (position_or_len (λ b. b == 95)) (take_rest path start) in
    joined_behind path start c.id_len.result c.if-start-gt1.true c.name_start-start.ensures.within (c.name_start-start.ensures.slash (omega (arith, c.if-start-gt1.true)))
    ∙ ap (λ n. joined (take (start - 1) path) (take n (drop start path))) id
    ∙ ap (λ s. joined (take (s - 1) path) (take (position_or_len (λ b. b == 95) (drop s path)) (drop s path))) c.name_start-start.ensures.start
