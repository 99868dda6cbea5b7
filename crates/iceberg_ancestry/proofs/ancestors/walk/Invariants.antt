use Rattle.std.specs.BTreeMap.{btree_map_len}
use Rattle.iceberg_ancestry.specs.Ancestry.{LeadsTo}
use Rattle.iceberg_ancestry.proofs.AncestryLemmas.{HoldsOthers}
use Rattle.iceberg_ancestry.proofs.ancestors.walk.Given as goal

abbrev pub invariant-loop-snapshot : goal.invariant-loop-snapshot
invariant-loop-snapshot l = record {
  chain : LeadsTo l.snapshots l.fn.start l.found l.next;
  left : HoldsOthers l.left l.found l.snapshots;
}

abbrev pub decreases-loop-snapshot : goal.decreases-loop-snapshot
decreases-loop-snapshot l = btree_map_len l.left
