use Rattle.std.proofs.Common.{ap, ◌∙◌}
use Rattle.hudi_table.specs.Instants.{path_of}
use Rattle.target_hudi.proofs.inspect.mark_in.Goals as goal

pub returns-in-Some-clause-mark : goal.returns-in-Some-clause-mark
returns-in-Some-clause-mark c = rw c.in-Some.is at c.in_ok-mark.ensures

pub returns-in_ok-timeline_path-in-None-clause-stop :
    goal.returns-in_ok-timeline_path-in-None-clause-stop
returns-in_ok-timeline_path-in-None-clause-stop c = (c.in_ok-timeline_path-in-None.ensures ∙ ap path_of c.as_str.ensures.value, rw c.in-None.is at c.in_ok-mark.ensures)
