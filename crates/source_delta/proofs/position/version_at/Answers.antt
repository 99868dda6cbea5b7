use Rattle.std.proofs.Common.{◌≡◌, ℕ, Some, sym, ap, ◌∙◌, arith}
use Rattle.std.proofs.lemmas.Fmt.{parse-decimal}
use Rattle.std.specs.Prelude.{Ok}
use Rattle.source_delta.proofs.position.version_at.Goals as goal
use Rattle.source_delta.specs.SinceLemmas.{small}

pub returns-in_default-clause-known : goal.returns-in_default-clause-known
returns-in_default-clause-known c = λ version within is.
    let parsed = parse-decimal 64 version c.args.position.now c.parse.result (small version within) (small version within) is c.parse.ensures.value.0 in
    let no = c.in_default.is in
    absurd (cc)

pub returns-then-version-gt-MAX_DELTA_VERSION-clause-known : goal.returns-then-version-gt-MAX_DELTA_VERSION-clause-known
returns-then-version-gt-MAX_DELTA_VERSION-clause-known c = λ version within is.
    let parsed = parse-decimal 64 version c.args.position.now c.parse.result (small version within) (small version within) is c.parse.ensures.value.0 in
    let both : Ok version ≡ Ok c.in-Ok.version = sym parsed ∙ c.in-Ok.is in
    let same : version ≡ c.in-Ok.version = cc in
    absurd (omega (arith, same, within, c.if-version-gt-MAX_DELTA_VERSION.true))

pub returns-clause-known : goal.returns-clause-known
returns-clause-known c = λ version within is.
    let parsed = parse-decimal 64 version c.args.position.now c.parse.result (small version within) (small version within) is c.parse.ensures.value.0 in
    let both : Ok version ≡ Ok c.in-Ok.version = sym parsed ∙ c.in-Ok.is in
    let same : c.in-Ok.version ≡ version = cc in
    ap (λ (n : ℕ). Some n) same
