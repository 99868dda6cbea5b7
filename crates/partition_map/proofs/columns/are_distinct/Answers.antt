use Rattle.std.proofs.Common.{◌≡◌, true, false, refl, sym, ap, ◌∙◌}
use Rattle.std.proofs.lemmas.List.{take_all}
use Rattle.avro_schema.specs.Names.{are_distinct}
use Rattle.avro_schema.proofs.Repeats.{seen_again, seen_more, texts_more}
use Rattle.partition_map.proofs.ColumnLemmas.{distinct_exactly}
use Rattle.partition_map.proofs.columns.are_distinct.Goals as goal

pub returns-then-not-branch : goal.returns-then-not-branch
returns-then-not-branch c =
    let value : false ≡ are_distinct c.args.names.now = seen_again c.args.names.now _ c.name-item.result c.as_str.result _ _ c.loop-name-test.true c.name-item.is c.as_str.ensures.value c.loop-name.invariant.read c.in_ok-insert.ensures.added c.if-not-branch.true in
    let exactly = distinct_exactly c.args.names.now in
    record {
      value = value;
      distinct = (λ t. exactly.0 (sym value ∙ t), λ d. value ∙ exactly.1 d);
    }

pub loop-name-preserved : goal.loop-name-preserved
loop-name-preserved c = record {
  read = texts_more c.args.names.now _ c.name-item.result c.as_str.result _ _ _ c.loop-name-test.true c.name-item.is c.as_str.ensures.value c.loop-name.invariant.read c.in_ok-insert.ensures.added c.if-not-branch.false c.in_ok-insert.ensures.keys;
  distinct = seen_more c.args.names.now _ c.name-item.result c.as_str.result _ _ c.loop-name-test.true c.name-item.is c.as_str.ensures.value c.loop-name.invariant.read c.loop-name.invariant.distinct c.in_ok-insert.ensures.added c.if-not-branch.false;
}

pub returns : goal.returns
returns c =
    let value : true ≡ are_distinct c.args.names.now =
    sym (ap are_distinct (sym (take_all c.loop-name.name-index c.args.names.now c.loop-name-test.false)) ∙ c.loop-name.invariant.distinct) in
    let exactly = distinct_exactly c.args.names.now in
    record {
      value = value;
      distinct = (λ t. exactly.0 (sym value), λ d. refl);
    }
