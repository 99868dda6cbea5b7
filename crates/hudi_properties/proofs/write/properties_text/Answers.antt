use Rattle.std.proofs.Common.{◌≡◌, ap, subst, ◌∙◌, take}
use Rattle.std.proofs.lemmas.List.{take_all}
use Rattle.std.specs.List.{AllByRecursion}
use Rattle.hudi_properties.specs.Pairs.{properties_of}
use Rattle.hudi_properties.specs.Written.{properties_text, IsUtf8Pair}
use Rattle.hudi_properties.proofs.ReadLemmas.{texts_again, texts_more, utf8_more}
use Rattle.hudi_properties.proofs.write.properties_text.Goals as goal

pub loop-key-preserved : goal.loop-key-preserved
loop-key-preserved c = record {
  text = texts_more c.as_slice-key-items.result.now c.loop-key.key-index c.loop-key-item.result _ _ c.loop-key-test.true c.loop-key-item.is c.loop-key.invariant.text c.in_ok-push_pair.ensures.text;
  utf8 = utf8_more c.as_slice-key-items.result.now c.loop-key.key-index c.loop-key-item.result c.loop-key-test.true c.loop-key-item.is c.loop-key.invariant.utf8 c.in_ok-push_pair.ensures.utf8;
}

pub returns-clause-reads_back : goal.returns-clause-reads_back
returns-clause-reads_back c =
    let all : take c.loop-key.key-index c.as_slice-key-items.result.now ≡ c.args.pairs.now = take_all _ _ c.loop-key-test.false ∙ c.as_slice-key-items.ensures in
    ap properties_of (c.from_vec.ensures ∙ c.loop-key.invariant.text ∙ ap properties_text all) ∙ texts_again c.args.pairs.now (subst (AllByRecursion IsUtf8Pair) all c.loop-key.invariant.utf8)
