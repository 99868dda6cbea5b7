use Rattle.delta_table.proofs.VersionRuns.{IsRunBefore}
use Rattle.delta_table.proofs.versions.last_run.Given as goal

abbrev pub invariant-loop-version : goal.invariant-loop-version
invariant-loop-version l = IsRunBefore l.versions l.version-index l.newest l.first
