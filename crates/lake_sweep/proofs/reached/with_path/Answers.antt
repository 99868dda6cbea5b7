use Rattle.std.proofs.Common.{◌≡◌, ◌⊎◌, ℕ, List, Contains, subst}
use Rattle.std.specs.Prelude.{◌↔◌}
use Rattle.lake_sweep.proofs.SetLaws.{put_distinct, put_members}
use Rattle.lake_sweep.proofs.reached.with_path.Goals as goal

pub returns-clause-members : goal.returns-clause-members
returns-clause-members c other =
    subst (λ (p : List ℕ). Contains c.insert.new.self.keys other ↔ (Contains c.args.before.keys other ⊎ (other ≡ p))) c.in_ok-copy.ensures
    (put_members c.args.before.keys c.in_ok-copy.field-0 c.insert.new.self.keys c.in_ok-insert.ensures.keys other)

pub returns-clause-distinct : goal.returns-clause-distinct
returns-clause-distinct c distinct = put_distinct c.args.before.keys c.in_ok-copy.field-0 c.insert.new.self.keys c.in_ok-insert.ensures.keys distinct
