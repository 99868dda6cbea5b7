use Rattle.std.proofs.Common.{arith}
use Rattle.target_iceberg.proofs.KeptLemmas.{all_contents, all_linked, few_rows, held_rows, own_image, row_count, rows_linked, rows_there, sound_metadata, sound_owners}
use Rattle.target_iceberg.proofs.LinkLemmas.{own_paths}
use Rattle.target_iceberg.proofs.inspect.kept_of.Goals as goal

pub link_all-requires-clause-few : goal.link_all-requires-clause-few
link_all-requires-clause-few c = let count = row_count c.args.read c.requires.rows in let len = c.len-rows.ensures in omega (arith, count, len)

pub invariant_of-result : goal.invariant_of-result
invariant_of-result c =
    let read = c.args.read in
    let made = c.in_ok-linked.linked in
    let linked = c.in_ok-linked.ensures in
    let first = c.requires.first in
    record {
      rows_held = held_rows read.table c.requires.table;
      schema_ids = c.requires.form.schema_ids;
      own_image = own_image read.table.schema c.requires.image;
      owners = sound_owners read.manifests made.manifests made.links linked (few_rows read c.requires.rows c.requires.table);
      linked = all_linked read.manifests made.manifests made.links linked read.table.rows (rows_there read c.requires.rows);
      metadata_sound = sound_metadata c.args.version c.args.metadata c.requires.writable c.requires.form;
      begun = λ none. absurd (omega (arith, first, none));
      contents = all_contents read.manifests made.manifests made.links linked c.requires.contents;
      table_sound = ∣ c.requires.table.sound ∣₁;
      rows_linked = ∣ rows_linked read.manifests made.manifests made.links linked read.table.rows (rows_there read c.requires.rows) ∣₁;
      own_paths = own_paths read.manifests made.manifests made.links linked c.requires.rows.distinct;
      own_owners = ∣ linked.own.distinct ∣₁;
    }
