use Rattle.std.proofs.Common.{Some, ◌≡◌, ◌++◌, ◌<◌, ◌^◌, codes, ap, ◌∙◌, arith}
use Rattle.std.proofs.lemmas.Bool.Decides.{Decides-eqb}
use Rattle.std.proofs.lemmas.Slice.Eq.{strip_suffix_is}
use Rattle.iceberg_metadata.proofs.NameLemmas.{split_decimal}
use Rattle.iceberg_metadata.proofs.name.version_of_rest.Goals as goal

pub returns-then-version-gt-MAX_ICEBERG_VERSION : goal.returns-then-version-gt-MAX_ICEBERG_VERSION
returns-then-version-gt-MAX_ICEBERG_VERSION c =
    let split : c.args.rest.now ≡ c.in_ok-digits.digits.now ++ codes ".metadata.json" = strip_suffix_is Decides-eqb c.args.rest.now (codes ".metadata.json") (Some c.in_ok-digits.digits) c.in_ok-digits.ensures.cases in
    let more : 2147483647 < c.in_ok-version.version = c.if-version-gt-MAX_ICEBERG_VERSION.true in
    let small : c.in_ok-version.version < 2 ^ 32 = c.in_ok-version.ensures.0 in
    λ v within is. let same = split_decimal c.args.rest.now c.in_ok-digits.digits.now (codes ".metadata.json") c.in_ok-version.version v split c.in_ok-version.ensures.1 small (omega (arith, within)) is in
    omega (arith, same, within, more)

pub returns : goal.returns
returns c =
    let split : c.args.rest.now ≡ c.in_ok-digits.digits.now ++ codes ".metadata.json" = strip_suffix_is Decides-eqb c.args.rest.now (codes ".metadata.json") (Some c.in_ok-digits.digits) c.in_ok-digits.ensures.cases in
    (c.if-version-gt-MAX_ICEBERG_VERSION.false, split ∙ ap (λ ds. ds ++ codes ".metadata.json") c.in_ok-version.ensures.1)
