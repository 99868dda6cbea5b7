use Rattle.std.proofs.Common.{◌≡◌, List, length, map, take, ◌+◌, sym, ap, subst, ◌∙◌, arith}
use Rattle.std.proofs.lemmas.List.{length_push}
use Rattle.std.specs.List.{zip}
use Rattle.table_history.specs.declared.row.FileRow.{FileRow}
use Rattle.table_history.specs.declared.row.PartValue.{PartValue}
use Rattle.hudi_files.specs.Values.{HaveValues, value_parts, with_values}
use Rattle.hudi_files.proofs.FolderLemmas.{parts_counted}
use Rattle.hudi_files.proofs.ValueLemmas.{values_more}
use Rattle.hudi_files.proofs.rows.all_values.Goals as goal

pub values_of-requires : goal.values_of-requires
values_of-requires c = record { counted = parts_counted c.args.style c.args.names.now c.args.kinds.now c.as_str.result.now c.in_ok-folder-2.folder.parts c.in_ok-folder-2.ensures.parts c.requires }

pub loop-file-preserved : goal.loop-file-preserved
loop-file-preserved c =
    let style = c.args.style in
    let names = c.args.names.now in
    let kinds = c.args.kinds.now in
    let files = c.args.files.now in
    let i = c.loop-file.file-index in
    let file = c.file-item.result in
    let folder = c.in_ok-folder-2 in
    let path : c.as_str.result.now ≡ file.path = c.as_str.ensures.value ∙ ap (λ (r : FileRow). r.path) c.file.view_is in
    let has = c.in_ok-values_of.ensures.ok names (folder.ensures.parts ∙ ap (value_parts style names) path) in
    record {
      values = subst (λ (l : List (List PartValue)). HaveValues style names kinds (take (i + 1) files) (map with_values (zip (take (i + 1) files) l))) (sym c.in_ok-push.ensures.items) (values_more style names kinds files c.loop-file.all.items i file c.in_ok-values_of.field-0 (omega arith) c.file-item.is c.loop-file.invariant.counted c.loop-file.invariant.values has);
      counted = ap length c.in_ok-push.ensures.items ∙ length_push c.loop-file.all.items c.in_ok-values_of.field-0 ∙ ap (λ n. n + 1) c.loop-file.invariant.counted;
      folder = folder.ensures.parts ∙ ap (value_parts style names) (sym folder.ensures.path);
    }
