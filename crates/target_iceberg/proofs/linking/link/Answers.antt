use Rattle.std.proofs.Common.{refl}
use Rattle.target_iceberg.proofs.LinkLemmas.{kept_by, was_held}
use Rattle.target_iceberg.proofs.linking.link.Goals as goal

pub hold_rows-requires-clause-apart : goal.hold_rows-requires-clause-apart
hold_rows-requires-clause-apart c = λ path holds. c.requires.apart path (was_held c.args.links.now c.add_owner-owner.new.self c.add_owner-owner.result c.add_owner-owner.ensures path holds)

pub returns : goal.returns
returns c = kept_by c.args.links.now c.add_owner-owner.new.self c.hold_rows.new.links c.add_owner-owner.result c.args.manifest c.add_owner-owner.ensures (record { info = c.args.manifest.file.info; owner = c.add_owner-owner.result }) refl refl c.hold_rows.ensures
