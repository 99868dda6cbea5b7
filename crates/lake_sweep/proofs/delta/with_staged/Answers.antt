use Rattle.std.proofs.Common.{◌++◌, [], ◌∷◌, inl, List, ℕ, ap, subst, ◌∙◌}
use Rattle.target_leftovers.specs.Names.{IsDeltaName}
use Rattle.lake_sweep.proofs.delta.with_staged.Goals as goal

pub returns : goal.returns
returns c = inl (
  subst IsDeltaName c.as_bytes.ensures.value (c.is_delta_name.ensures.0 c.if-not-is_delta_name.false),
  c.in_ok-push.ensures.ok ∙ ap (λ (p : List ℕ). c.args.paths ++ p ∷ []) c.in_ok-path.ensures,
)
