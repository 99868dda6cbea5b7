use Rattle.std.proofs.Common.{◌≡◌, ℕ, List, Option, cond, sym, subst}
use Rattle.std.specs.Str.{bytes_eq}
use Rattle.hudi_groups.specs.declared.index.Paths.{Paths}
use Rattle.hudi_groups.specs.GroupIndex.{has_path, is_among}
use Rattle.hudi_groups.proofs.GroupIndexLemmas.{group_put}
use Rattle.hudi_groups.proofs.index.put_group.Goals as goal

pub returns : goal.returns
returns c =
    let g = c.args.group in
    let all = c.insert.new.self in
    subst (λ (o : Option Paths). (q p : List ℕ) → has_path all q p ≡ cond (bytes_eq g q) (is_among p o) (has_path c.args.index q p)) (sym c.in-Some.is)
    (group_put g c.args.index all c.in-Some.paths c.in_ok-insert.ensures.updates.1 c.in_ok-insert.ensures.updates.3)
