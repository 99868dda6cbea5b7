use Rattle.std.proofs.Common.{[], List, arith, map}
use Rattle.table_history.specs.Row.{Row}
use Rattle.iceberg_version.specs.Manifests.{born_at}
use Rattle.iceberg_version.proofs.AdvanceLemmas.{adds_more, begins, fresh_behind}
use Rattle.iceberg_version.proofs.advancing.add_rows.Goals as goal

pub add_owner-owner-requires : goal.add_owner-owner-requires
add_owner-owner-requires c = omega (arith, c.in_ok-reserve.ensures.ok.owner_room)

pub insert_rows-requires : goal.insert_rows-requires
insert_rows-requires c =
    let rows : List Row = map (λ r. r.now) c.args.rows.now in
    let begun = begins c.add_owner-owner.result c.in-Ok.count c.args.links.now c.reserve.new.self c.add_owner-owner.new.self c.in_ok-reserve.ensures.ok c.add_owner-owner.ensures in
    record {
      owner = begun.appends.there;
      room = omega (arith, c.in-Ok.ensures, c.in_ok-reserve.ensures.ok.room, c.add_owner-owner.ensures.room);
      fresh = fresh_behind c.add_owner-owner.result c.args.version c.args.links.now c.add_owner-owner.new.self [] rows c.requires begun.appends;
    }

pub returns : goal.returns
returns c =
    let begun = begins c.add_owner-owner.result c.in-Ok.count c.args.links.now c.reserve.new.self c.add_owner-owner.new.self c.in_ok-reserve.ensures.ok c.add_owner-owner.ensures in
    adds_more c.add_owner-owner.result (map (born_at c.args.version) (map (λ r. r.now) c.args.rows.now)) c.args.links.now c.add_owner-owner.new.self c.insert_rows.new.links begun c.in_ok-insert_rows.ensures
