use Rattle.std.proofs.Common.{◌≡◌, ◌++◌, map, take}
use Rattle.std.specs.List.{concat}
use Rattle.lake_store.specs.Cause.{HasFault}
use Rattle.sync_driver.specs.Lines.{removed_line}
use Rattle.sync_driver.proofs.sweeping.put_removed_paths.Given as goal

abbrev pub invariant-loop-path : goal.invariant-loop-path
invariant-loop-path g l =
    let sink = g.O.Sink in
    record {
      so_far : sink.tells → sink.output l.out ≡ sink.output l.fn.out ++ concat (map (λ path. removed_line l.target path) (take l.path-index l.paths));
      cause : HasFault sink.faults sink.may_fail l.fn.out l.out ⊥;
    }
