use Rattle.std.proofs.Common.{◌≡◌, ◌<◌, ◌^◌, ◌++◌, List, ap, map, not, ◌∙◌}
use Rattle.std.proofs.lemmas.List.{map-append}
use Rattle.file_links.specs.declared.slots.Held.{Held}
use Rattle.iceberg_manifest.specs.Entry.{EntryData}
use Rattle.iceberg_manifest_writing.specs.RowEntries.{entry_in}
use Rattle.iceberg_version.specs.KeptEnd.{held_rows}
use Rattle.iceberg_version.specs.Manifests.{deleted_entry, existing_entry, is_lost, left, lost}
use Rattle.iceberg_version.proofs.RewritingLemmas.{of_passing, rows_now}
use Rattle.iceberg_version.proofs.rewriting.rewritten_entries.Goals as goal

pub existing_entries-requires : goal.existing_entries-requires
existing_entries-requires c = of_passing (λ (h : Held). h.born < 2 ^ 63) (λ held. not (is_lost c.args.before.now.removed.now held)) (held_rows c.args.before.now.links.now c.args.owner) c.as_slice.result.now c.requires.born (ap rows_now c.as_slice.ensures.value ∙ c.in_ok-rows.ensures.left)

pub deleted_entries-requires : goal.deleted_entries-requires
deleted_entries-requires c = of_passing (λ (h : Held). h.born < 2 ^ 63) (is_lost c.args.before.now.removed.now) (held_rows c.args.before.now.links.now c.args.owner) c.as_slice-2.result.now c.requires.born (ap rows_now c.as_slice-2.ensures.value ∙ c.in_ok-rows.ensures.lost)

pub returns : goal.returns
returns c = λ front.
    let removed = c.args.before.now.removed.now in
    let rows = held_rows c.args.before.now.links.now c.args.owner in
    let existing : map (entry_in front) c.in_ok-entries.entries.items ≡ map (existing_entry front) (left removed rows) = c.in_ok-entries.ensures front ∙ ap (map (existing_entry front)) (ap rows_now c.as_slice.ensures.value ∙ c.in_ok-rows.ensures.left) in
    let deleted : map (entry_in front) c.in_ok-deleted.deleted.items ≡ map (deleted_entry front c.args.version) (lost removed rows) = c.in_ok-deleted.ensures front ∙ ap (map (deleted_entry front c.args.version)) (ap rows_now c.as_slice-2.ensures.value ∙ c.in_ok-rows.ensures.lost) in
    ap (map (entry_in front)) c.in_ok-append.ensures.items ∙ map-append (entry_in front) c.in_ok-entries.entries.items c.in_ok-deleted.deleted.items ∙ ap (λ (es : List EntryData). es ++ map (entry_in front) c.in_ok-deleted.deleted.items) existing ∙ ap (λ (es : List EntryData). map (existing_entry front) (left removed rows) ++ es) deleted
