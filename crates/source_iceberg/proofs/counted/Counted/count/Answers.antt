use Rattle.std.proofs.Common.{◌≡◌, ◌<◌, ◌+◌, true, false, arith, refl, sym, ◌∙◌}
use Rattle.lake_basics.specs.declared.limits.TheConstants.{MAX_ACTIONS}
use Rattle.lake_basics.proofs.Texts.{key_put}
use Rattle.source_iceberg.proofs.CountLaws.{counts_more, many_here}
use Rattle.source_iceberg.proofs.counted.Counted.count.Goals as goal

pub returns-then-contains-clause-counts : goal.returns-then-contains-clause-counts
returns-then-contains-clause-counts c = λ read counts.
    let entries = c.args.self.now.entries in
    let same : entries ≡ entries + 0 = omega arith in
    counts_more read c.args.manifest.now c.args.self.now c.args.self.now true counts (sym c.contains.ensures ∙ c.if-contains.true) refl same

pub returns-then-manifest-self-clause-many : goal.returns-then-manifest-self-clause-many
returns-then-manifest-self-clause-many c = λ read counts.
    let within = c.requires in
    let past = c.if-manifest-self.true in
    let many : MAX_ACTIONS < c.args.self.now.entries + c.args.manifest.now.entries = omega (arith, within, past) in
    many_here read c.args.manifest.now c.args.self.now counts (sym c.contains.ensures ∙ c.if-contains.false) many c.limit.result c.limit.ensures

pub returns-clause-counts : goal.returns-clause-counts
returns-clause-counts c = λ read counts.
    let new = sym c.contains.ensures ∙ c.if-contains.false in
    counts_more read c.args.manifest.now c.args.self.now _ false counts new (key_put c.args.self.now.paths.keys _ c.args.manifest.now.file.path c.in_ok-copy.field-0 c.in_ok-copy.ensures new c.in_ok-insert.ensures.keys) refl
