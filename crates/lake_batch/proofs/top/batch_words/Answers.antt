use Rattle.std.proofs.Common.{rules, ◌≡◌, ◌∙◌, length, sym, subst, arith}
use Rattle.std.specs.Prelude.{codes}
use Rattle.table_history.specs.Path.{IsPath}
use Rattle.lake_batch.proofs.TopLaws.{word_is}
use Rattle.lake_batch.proofs.top.batch_words.Goals as goal

pub returns : goal.returns
returns c =
    let three : length c.args.words.now ≡ 3 = omega arith in
    let verb : c.as_str.result.now ≡ codes "batch" = search rules in
    record {
      place_is = c.in_ok-place.ensures;
      three = three;
      verb = word_is c.args.words.now 1 c.verb-item.result (codes "batch") (omega (arith, three)) c.verb-item.is (sym verb ∙ c.as_str.ensures.value);
      file_is = word_is c.args.words.now 2 c.file-item.result c.as_str-2.result.now (omega (arith, three)) c.file-item.is c.as_str-2.ensures.value;
      path = subst IsPath (c.as_bytes.ensures.value ∙ c.as_str-else-ne.ensures.value ∙ sym c.as_str-2.ensures.value) (c.path_form.ensures.form.0 c.if-not-path_form.false);
    }
