use Rattle.std.proofs.Common.{List, Ok, ap, map, ◌∙◌, rules}
use Rattle.std.specs.List.{zip}
use Rattle.std.specs.declared.alloc.AllocError.{AllocError}
use Rattle.std.proofs.lemmas.Iterator.{YieldsList-from_map, YieldsList-from_zip, items_from_collect}
use Rattle.std.proofs.lemmas.Iterator.Adapters.{YieldsList-from_vec}
use Rattle.std.proofs.lemmas.Iterator.Consumers.{YieldsList-at}
use Rattle.table_history.specs.declared.row.FileRow.{FileRow}
use Rattle.hudi_files.specs.Values.{with_values}
use Rattle.hudi_files.proofs.rows.with_values.Goals as goal

pub returns : goal.returns
returns c =
    let files = c.into_vec.result.items in
    let values = c.args.values.items in
    let first = YieldsList-at c.zip.ensures.first (YieldsList-from_vec files c.into_iter.ensures.rest cc) in
    let second = YieldsList-from_vec values c.zip.ensures.second.0 cc in
    let pairs = YieldsList-at c.map.ensures.source (YieldsList-from_zip first second) in
    c.from_vec.ensures
    ∙ items_from_collect {E = AllocError} (Ok c.in_ok-rows.rows) c.in_ok-rows.ensures.ran (YieldsList-from_map _ with_values pairs c.map.ensures.closure (λ x r q k. search rules))
    ∙ ap (λ (l : List FileRow). map with_values (zip l values)) c.into_vec.ensures
