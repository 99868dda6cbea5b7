use Rattle.std.proofs.Common.{◌≡◌, ◌≤◌, true, false, map, take, sym, ap, ◌∙◌, subst}
use Rattle.std.proofs.lemmas.List.{take_all}
use Rattle.avro_schema.specs.Names.{are_distinct}
use Rattle.avro_schema.proofs.Repeats.{seen_again, seen_more, texts_more}
use Rattle.partition_map.proofs.ColumnLemmas.{distinct_exactly}
use Rattle.lake_batch.specs.Batch.{folder_of}
use Rattle.lake_batch.proofs.BatchFolders.{folder_at, folder_length, folder_within}
use Rattle.lake_batch.proofs.batch.distinct_folders.Goals as goal

pub returns-then-not-branch : goal.returns-then-not-branch
returns-then-not-branch c =
    let tables = c.args.tables.now in
    let again : false ≡ are_distinct (map folder_of tables) = seen_again (map folder_of tables) _ (c.item-item.result).folder c.as_bytes.result _ _ (folder_within tables _ c.loop-item-test.true) (folder_at tables _ c.item-item.result c.loop-item-test.true c.item-item.is) c.as_bytes.ensures.value c.loop-item.invariant.read c.in_ok-insert.ensures.added c.if-not-branch.true in
    λ distinct. let both : false ≡ true = again ∙ (distinct_exactly (map folder_of tables)).1 distinct in absurd (cc both)

pub loop-item-preserved : goal.loop-item-preserved
loop-item-preserved c =
    let tables = c.args.tables.now in
    record {
      read = texts_more (map folder_of tables) _ (c.item-item.result).folder c.as_bytes.result _ _ _ (folder_within tables _ c.loop-item-test.true) (folder_at tables _ c.item-item.result c.loop-item-test.true c.item-item.is) c.as_bytes.ensures.value c.loop-item.invariant.read c.in_ok-insert.ensures.added c.if-not-branch.false c.in_ok-insert.ensures.keys;
      distinct = seen_more (map folder_of tables) _ (c.item-item.result).folder c.as_bytes.result _ _ (folder_within tables _ c.loop-item-test.true) (folder_at tables _ c.item-item.result c.loop-item-test.true c.item-item.is) c.as_bytes.ensures.value c.loop-item.invariant.read c.loop-item.invariant.distinct c.in_ok-insert.ensures.added c.if-not-branch.false;
    }

pub returns : goal.returns
returns c =
    let tables = c.args.tables.now in
    let whole : take c.loop-item.item-index (map folder_of tables) ≡ map folder_of tables =
    take_all c.loop-item.item-index (map folder_of tables) (subst (λ n. n ≤ c.loop-item.item-index) (sym (folder_length tables)) c.loop-item-test.false) in
    ((distinct_exactly (map folder_of tables)).0 (sym (ap are_distinct whole) ∙ c.loop-item.invariant.distinct), c.loop-item.invariant.read ∙ whole)
