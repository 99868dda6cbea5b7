use Rattle.std.proofs.Common.{◌≤◌, ◌+◌, List, sym, subst}
use Rattle.lake_basics.specs.declared.limits.TheConstants.{MAX_ACTIONS}
use Rattle.iceberg_table.specs.Counted.{AreFew, Counts, before_of}
use Rattle.iceberg_table.specs.declared.counted.Counted.{Counted}
use Rattle.iceberg_table.specs.declared.manifest.Manifest.{Manifest}
use Rattle.iceberg_change.proofs.joining.Joining.put.Goals as goal

pub with_manifest-requires : goal.with_manifest-requires
with_manifest-requires c = subst (λ (k : Counted). before_of c.args.manifest.file.path k + c.args.manifest.entries ≤ MAX_ACTIONS) (sym c.replace-counted.ensures.value) c.requires

pub returns-clause-counts : goal.returns-clause-counts
returns-clause-counts c = λ counts.
    let was = c.args.self.now.manifests in
    subst (λ (l : List Manifest). Counts l c.in_ok-counted.counted) (sym c.in_ok-push.ensures.ok) (c.in_ok-counted.ensures.counts was (subst (Counts was) (sym c.replace-counted.ensures.value) counts))

pub returns-clause-few : goal.returns-clause-few
returns-clause-few c = λ few. c.in_ok-counted.ensures.few (subst AreFew (sym c.replace-counted.ensures.value) few)
