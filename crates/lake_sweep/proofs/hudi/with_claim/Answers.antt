use Rattle.std.proofs.Common.{◌++◌, [], ◌∷◌, inl, inr, List, ℕ, false, refl, sym, ap, subst, ◌∙◌}
use Rattle.std.proofs.lemmas.Bool.{false≢true}
use Rattle.hudi_names.specs.Time.{IsDigits}
use Rattle.lake_sweep.proofs.hudi.with_claim.Goals as goal

pub returns-then-not-is_claim_name-clause-found : goal.returns-then-not-is_claim_name-clause-found
returns-then-not-is_claim_name-clause-found g c told =
    inl (λ digits. false≢true (sym c.if-not-is_claim_name.true ∙ c.is_claim_name.ensures.1 (subst IsDigits (sym c.as_bytes.ensures.value) digits)), refl)

pub returns-clause-found : goal.returns-clause-found
returns-clause-found g c told =
    inr (
      subst IsDigits c.as_bytes.ensures.value (c.is_claim_name.ensures.0 c.if-not-is_claim_name.false),
      (c.in_ok-pending.pending, c.in_ok-pending.ensures.found told, c.in_ok-push.ensures.ok ∙ ap (λ (p : List ℕ). c.in_ok-pending.pending ++ p ∷ []) c.in_ok-claim.ensures),
    )
