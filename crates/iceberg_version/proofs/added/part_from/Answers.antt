use Rattle.std.proofs.Common.{◌≡◌, ◌+◌, ◌-◌, ap, arith, drop, take}
use Rattle.iceberg_version.proofs.PartLemmas.{part_is}
use Rattle.iceberg_version.proofs.added.part_from.Goals as goal

pub returns : goal.returns
returns c =
    let size = c.min-size.result in
    let cut : c.args.start + size - c.args.start ≡ size = omega arith in
    let ys = drop c.args.start c.args.rows.now in
    part_is c.args.rows.now c.args.start size (take (c.args.start + size - c.args.start) ys) c.requires c.min-size.ensures (ap (λ n. take n ys) cut)
