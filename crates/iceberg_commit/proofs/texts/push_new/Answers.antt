use Rattle.std.proofs.Common.{◌≡◌, List, length, map, rules}
use Rattle.iceberg_manifest.specs.Entry.{EntryData}
use Rattle.iceberg_manifest_writing.specs.RowEntries.{entry_in}
use Rattle.iceberg_commit.proofs.TextLemmas.{info_behind}
use Rattle.iceberg_commit.proofs.texts.push_new.Goals as goal

pub returns-clause-adds : goal.returns-clause-adds
returns-clause-adds c =
    let layout = c.args.layout.now in
    let entries : List EntryData = map (entry_in layout.front) c.args.entries.now in
    let counted : c.len-number.result ≡ length c.args.list.now.manifests.items = search rules in
    let placed : c.len-place.result ≡ length c.args.list.now.infos.items = search rules in
    record {
      bytes = c.in_ok-bytes.bytes;
      info = c.in_ok-info.info;
      text = c.in_ok-bytes.ensures.text;
      short = c.in_ok-bytes.ensures.short;
      info_is = info_behind layout entries c.in_ok-bytes.bytes c.args.list.now c.len-number.result c.len-place.result c.in_ok-info.info counted placed c.in_ok-info.ensures;
      manifests = c.in_ok-push-2.ensures.items;
      infos = c.in_ok-push.ensures.items;
    }
