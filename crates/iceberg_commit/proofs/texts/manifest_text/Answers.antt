use Rattle.std.proofs.Common.{List, map, of_z, rules, to_z, w32}
use Rattle.std.proofs.lemmas.Int.{to_z-of_z}
use Rattle.iceberg_manifest.specs.Entry.{EntryData}
use Rattle.iceberg_manifest_writing.specs.RowEntries.{entry_in}
use Rattle.iceberg_commit.specs.Texts.{IsTextIn}
use Rattle.iceberg_commit.proofs.TextLemmas.{kept_is, long_is, text_in}
use Rattle.iceberg_commit.proofs.texts.manifest_text.Goals as goal

pub returns-in-Ok-clause-text : goal.returns-in-Ok-clause-text
returns-in-Ok-clause-text c =
    let layout = c.args.layout.now in
    let entries : List EntryData = map (entry_in layout.front) c.args.entries.now in
    let id = to_z-of_z w32 layout.schema.now.0 (search rules) in
    let text : IsTextIn layout entries c.in-Ok.bytes = text_in layout entries c.in-Ok.bytes c.as_slice.result.now (to_z w32 (of_z w32 layout.schema.now.0)) c.as_slice.ensures.value id c.in-Ok.ensures.written c.in-Ok.ensures.reads_back in
    kept_is c.within.result c.in-Ok.bytes (IsTextIn layout entries) c.within.ensures.same text

pub returns-in-Ok-clause-refusal : goal.returns-in-Ok-clause-refusal
returns-in-Ok-clause-refusal c =
    let layout = c.args.layout.now in
    let entries : List EntryData = map (entry_in layout.front) c.args.entries.now in
    let id = to_z-of_z w32 layout.schema.now.0 (search rules) in
    let text : IsTextIn layout entries c.in-Ok.bytes = text_in layout entries c.in-Ok.bytes c.as_slice.result.now (to_z w32 (of_z w32 layout.schema.now.0)) c.as_slice.ensures.value id c.in-Ok.ensures.written c.in-Ok.ensures.reads_back in
    long_is c.within.result c.in-Ok.bytes (IsTextIn layout entries) c.within.ensures.long text
