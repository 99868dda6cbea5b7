use Rattle.std.proofs.Common.{sym, subst, ◌∙◌}
use Rattle.std.proofs.lemmas.Bool.{false≢true}
use Rattle.target_iceberg.specs.Leftovers.{IsLeftoverName}
use Rattle.target_iceberg.proofs.NameLemmas.{all_of, first_of, one_more}
use Rattle.target_iceberg.proofs.names.first_stray.Goals as goal

pub returns-then-not-is_leftover : goal.returns-then-not-is_leftover
returns-then-not-is_leftover c =
    first_of c.args.names.now c.loop-name.name-index c.loop-name.invariant c.name-item.result c.loop-name-test.true c.name-item.is
    (λ leftover. false≢true (sym c.if-not-is_leftover.true ∙ c.is_leftover.ensures.1 (subst IsLeftoverName (sym c.as_bytes.ensures.value) leftover)))

pub loop-name-preserved : goal.loop-name-preserved
loop-name-preserved c =
    one_more c.args.names.now c.loop-name.name-index c.loop-name.invariant c.name-item.result c.loop-name-test.true c.name-item.is
    (subst IsLeftoverName c.as_bytes.ensures.value (c.is_leftover.ensures.0 c.if-not-is_leftover.false))

pub returns : goal.returns
returns c = all_of c.args.names.now c.loop-name.name-index c.loop-name.invariant c.loop-name-test.false
