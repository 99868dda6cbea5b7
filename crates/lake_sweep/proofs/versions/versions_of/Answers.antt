use Rattle.lake_sweep.proofs.VersionLaws.{same_versions, sorted_once}
use Rattle.lake_sweep.proofs.versions.versions_of.Goals as goal

pub returns-clause-rising : goal.returns-clause-rising
returns-clause-rising c = sorted_once c.in_ok-versions.versions.items c.sort_unstable.new.self.items c.dedup.new.self.items c.sort_unstable.ensures.permutation c.dedup.ensures.filtered c.sort_unstable.ensures.sorted

pub returns-clause-members : goal.returns-clause-members
returns-clause-members c version =
    let same = same_versions c.in_ok-versions.versions.items c.sort_unstable.new.self.items c.dedup.new.self.items c.sort_unstable.ensures.permutation c.dedup.ensures.filtered version in
    (λ within. (c.in_ok-versions.ensures version).0 (same.0 within), λ named. same.1 ((c.in_ok-versions.ensures version).1 named))
