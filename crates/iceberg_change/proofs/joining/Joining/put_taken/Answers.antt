use Rattle.std.proofs.Common.{refl}
use Rattle.iceberg_change.proofs.JoiningLaws.{joined_kept, manifest_moved}
use Rattle.iceberg_change.proofs.joining.Joining.put_taken.Goals as goal

pub returns-clause-joined : goal.returns-clause-joined
returns-clause-joined c = λ columns rows fit is.
    let put = c.in_ok-put.ensures in
    joined_kept columns rows c.args.self.now c.put.new.self c.args.manifest (record { file = c.args.file; entries = c.args.manifest.entries; rows = c.args.manifest.rows }) refl put.manifests put.held put.came (put.counts is.counts) fit is

pub returns-clause-next : goal.returns-clause-next
returns-clause-next c = λ files location columns of. record {
  manifest = record { file = c.args.file; entries = c.args.manifest.entries; rows = c.args.manifest.rows };
  manifests = c.in_ok-put.ensures.manifests;
  is = manifest_moved files location columns c.args.manifest.file c.args.file (c.names_same.ensures c.if-not-names_same.false) c.args.manifest.entries c.args.manifest.rows of;
}
