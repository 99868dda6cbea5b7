-- What is seen of a target of which nothing is published.
use Rattle.std.proofs.Common.{◌≡◌, ap}
use Rattle.target_core.specs.Views.{IsUnpublished, View, absent}

pub no_commits : (view : View) → IsUnpublished view → view.commits ≡ 0
no_commits view is = ap (λ (v : View). v.commits) is

pub schema_of_absent : (view : View) → IsUnpublished view → view.table.schema ≡ (absent view.table.partition).table.schema
schema_of_absent view is = ap (λ (v : View). v.table.schema) is
