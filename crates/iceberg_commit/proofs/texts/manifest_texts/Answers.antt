use Rattle.std.proofs.Common.{List, get_or, sym}
use Rattle.std.proofs.lemmas.List.{get_or_default}
use Rattle.iceberg_version.specs.declared.carrying.Next.{Next}
use Rattle.iceberg_version.specs.declared.carrying.Next.TheVariants.{Stays}
use Rattle.iceberg_commit.proofs.TextLemmas.{all_come, more_come, refusal_among}
use Rattle.iceberg_commit.proofs.texts.manifest_texts.Goals as goal

pub returns-in_err-push_next-clause-refusal : goal.returns-in_err-push_next-clause-refusal
returns-in_err-push_next-clause-refusal c =
    let next : List Next = c.args.next.now in
    let one : Next = get_or next c.loop-one.one-index (Stays 0) in
    let at = get_or_default next c.loop-one.one-index (Stays 0) one c.loop-one-test.true in
    refusal_among c.from_residual-in_err-push_next.result c.args.layout.now c.args.before.now next c.loop-one.one-index one c.in_err-push_next.field-0.0 c.loop-one-test.true at c.from_residual-in_err-push_next.ensures.1 c.in_err-push_next.ensures.refusal

pub loop-one-preserved : goal.loop-one-preserved
loop-one-preserved c =
    let next : List Next = c.args.next.now in
    let one : Next = get_or next c.loop-one.one-index (Stays 0) in
    let at = get_or_default next c.loop-one.one-index (Stays 0) one c.loop-one-test.true in
    more_come c.args.layout.now c.args.before.now next c.loop-one.one-index one c.loop-one.list c.push_next.new.list c.loop-one-test.true at (c.requires.can one (c.loop-one.one-index, c.loop-one-test.true, sym at)) c.in_ok-push_next.ensures.adds c.loop-one.invariant

pub returns-clause-texts : goal.returns-clause-texts
returns-clause-texts c = all_come c.args.layout.now c.args.before.now c.args.next.now c.loop-one.one-index c.loop-one.list c.loop-one-test.false c.loop-one.invariant
