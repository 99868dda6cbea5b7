use Rattle.std.proofs.Common.{◌≡◌, map}
use Rattle.delta_log.specs.declared.commit.FileAction.TheVariants as file
use Rattle.target_delta.proofs.actions.removes_of.Given as goal

abbrev pub invariant-loop-path : goal.invariant-loop-path
invariant-loop-path l = l.files.items ≡ map file.Remove l.yielded
