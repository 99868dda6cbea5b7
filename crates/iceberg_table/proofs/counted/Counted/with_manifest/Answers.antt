use Rattle.std.proofs.Common.{◌≡◌, ◌+◌, true, false, arith, refl, sym, ◌∙◌}
use Rattle.iceberg_table.proofs.CountLaws.{counts_more}
use Rattle.iceberg_table.proofs.counted.Counted.with_manifest.Goals as goal
use Rattle.lake_basics.proofs.Texts.{key_put}

pub returns-then-contains-clause-counts : goal.returns-then-contains-clause-counts
returns-then-contains-clause-counts c = λ read counts.
    let entries = c.args.self.entries in
    let same : entries ≡ entries + 0 = omega arith in
    counts_more read c.args.manifest.now c.args.self c.args.self true counts (sym c.contains.ensures ∙ c.if-contains.true) refl same

pub returns-clause-counts : goal.returns-clause-counts
returns-clause-counts c = λ read counts.
    let new = sym c.contains.ensures ∙ c.if-contains.false in
    counts_more read c.args.manifest.now c.args.self _ false counts new (key_put c.args.self.paths.keys _ c.args.manifest.now.file.path c.in_ok-copy.field-0 c.in_ok-copy.ensures new c.in_ok-insert.ensures.keys) refl
