use Rattle.std.proofs.Common.{◌≡◌, ℕ, true, subst, arith}
use Rattle.std.specs.Prelude.{nat_eq}
use Rattle.std.proofs.lemmas.Bool.Decides.{nat_tests}
use Rattle.delta_log.specs.VersionName.{IsVersionName}
use Rattle.delta_table.proofs.PathLaws.{one_version}
use Rattle.target_delta.proofs.inspect.is_of_version.Goals as goal
use Rattle.lake_basics.proofs.Numbers.{same_nat}

same_test : (a b : ℕ) → a ≡ b → nat_eq a b ≡ true
same_test a b same = grind (arith, nat_tests)

pub returns-in-Some : goal.returns-in-Some
returns-in-Some c = (
  λ same. subst (λ (n : ℕ). IsVersionName c.args.name.now n) (same_nat c.in-Some.named c.args.version same) c.in-Some.ensures,
  λ is. same_test c.in-Some.named c.args.version (one_version c.args.name.now c.in-Some.named c.args.version c.in-Some.ensures is),
)
