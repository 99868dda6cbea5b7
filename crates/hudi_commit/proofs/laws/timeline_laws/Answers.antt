use Rattle.hudi_commit.proofs.NameLaws.{completed_no_leftover}
use Rattle.hudi_commit.proofs.OrderlyLaws.{read_alike}
use Rattle.hudi_commit.proofs.StepLaws.{alike_same, folder_crash_stands}
use Rattle.hudi_commit.proofs.laws.timeline_laws.Goals as goal

pub returns-clause-reading_lemma : goal.returns-clause-reading_lemma
returns-clause-reading_lemma c = read_alike

pub returns-clause-alike_is_same : goal.returns-clause-alike_is_same
returns-clause-alike_is_same c a b alike = alike_same a b alike completed_no_leftover

pub returns-clause-crash_is_safe : goal.returns-clause-crash_is_safe
returns-clause-crash_is_safe c base disk stands image may = folder_crash_stands base disk stands image may
