use Rattle.std.proofs.Common.{ℕ, List, subst}
use Rattle.iceberg_metadata.specs.VersionName.{IsVersionName}
use Rattle.lake_sweep.proofs.VersionLaws.{with_none, with_one}
use Rattle.lake_sweep.proofs.versions.with_named.Goals as goal

pub returns-in_default : goal.returns-in_default
returns-in_default c =
    with_none c.args.name.now c.args.versions.items (subst (λ (n : List ℕ). (v : ℕ) → ¬ IsVersionName n v) c.as_bytes.ensures.value c.in_default.ensures)

pub returns : goal.returns
returns c =
    with_one c.args.name.now c.args.versions.items c.push.new.self.items c.in-Some.version (subst (λ (n : List ℕ). IsVersionName n c.in-Some.version) c.as_bytes.ensures.value c.in-Some.ensures) c.in_ok-push.ensures.items
