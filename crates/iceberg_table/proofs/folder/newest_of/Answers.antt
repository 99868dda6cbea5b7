use Rattle.std.proofs.Common.{◌≡◌, ◌<◌, ◌+◌, ℕ, Option, [], get_or, length, sym, subst, ◌∙◌, arith}
use Rattle.std.proofs.lemmas.List.{get_or_default}
use Rattle.iceberg_table.proofs.FolderLaws.{IsNamedBefore, IsNewestOf, seen_all, seen_more}
use Rattle.iceberg_table.proofs.folder.newest_of.Goals as goal

pub loop-name-preserved : goal.loop-name-preserved
loop-name-preserved c =
    let names = c.args.names.now in
    let i = c.loop-name.name-index in
    let here : i < length names = c.loop-name-test.true in
    let name = c.as_bytes.result.now in
    let is : get_or names i [] ≡ name = get_or_default names i [] c.name-item.result here ∙ sym c.name-item.is ∙ sym c.as_bytes.ensures.value in
    record {
      within = omega (arith, here);
      seen = subst (λ (o : Option ℕ). IsNewestOf (IsNamedBefore names (i + 1)) o) (sym c.newer-newest.ensures) (seen_more names i here name is c.loop-name.newest c.version_of_name.result c.loop-name.invariant.seen c.version_of_name.ensures);
    }

pub returns : goal.returns
returns c = seen_all c.args.names.now c.loop-name.name-index c.loop-name.newest (let past = c.loop-name-test.false in omega (arith, past)) c.loop-name.invariant.within c.loop-name.invariant.seen
