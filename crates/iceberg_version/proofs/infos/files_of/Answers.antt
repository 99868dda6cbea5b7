use Rattle.std.proofs.Common.{List, length, map, pos, ap, ◌∙◌, w32, arith}
use Rattle.std.proofs.lemmas.Int.{to_z_pos}
use Rattle.std.proofs.lemmas.List.{take_all}
use Rattle.iceberg_manifest_writing.specs.RowEntries.{entry_in, status_number}
use Rattle.iceberg_manifest_writing.specs.declared.row_entry.RowEntry.{RowEntry}
use Rattle.iceberg_version.specs.Manifests.{of_status}
use Rattle.iceberg_version.proofs.infos.files_of.Goals as goal

pub returns : goal.returns
returns c = λ front.
    let all = take_all c.loop-entry.entry-index c.args.entries.now c.loop-entry-test.false in
    to_z_pos w32 c.loop-entry.count (omega arith) ∙ ap pos (c.loop-entry.invariant.1 front ∙ ap (λ (rows : List RowEntry). length (of_status (status_number c.args.status) (map (entry_in front) rows))) all)
