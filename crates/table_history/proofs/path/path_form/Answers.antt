use Rattle.std.proofs.Common.{rules}
use Rattle.std.proofs.lemmas.Bool.Decides.{same_from_decides}
use Rattle.table_history.proofs.PathTests.{path_decided}
use Rattle.table_history.proofs.path.path_form.Goals as goal

pub returns-then-bytes-le-MAX_PATH_BYTES-clause-test : goal.returns-then-bytes-le-MAX_PATH_BYTES-clause-test
returns-then-bytes-le-MAX_PATH_BYTES-clause-test c = same_from_decides _ _ (search rules) (path_decided c.args.bytes.now)

pub returns-else-bytes-le-MAX_PATH_BYTES-clause-test : goal.returns-else-bytes-le-MAX_PATH_BYTES-clause-test
returns-else-bytes-le-MAX_PATH_BYTES-clause-test c = same_from_decides _ _ (search rules) (path_decided c.args.bytes.now)
