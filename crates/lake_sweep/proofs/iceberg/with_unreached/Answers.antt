use Rattle.std.proofs.Common.{◌++◌, [], ◌∷◌, inl, inr, ℕ, List, false, Contains, refl, sym, ap, subst, ◌∙◌}
use Rattle.std.proofs.lemmas.Bool.{false≢true}
use Rattle.iceberg_table.specs.Folder.{path_of}
use Rattle.target_leftovers.specs.Names.{IsIcebergName}
use Rattle.lake_sweep.proofs.iceberg.with_unreached.Goals as goal

pub returns-then-not-is_iceberg_name : goal.returns-then-not-is_iceberg_name
returns-then-not-is_iceberg_name c =
    inr (λ free. false≢true (sym c.if-not-is_iceberg_name.true ∙ c.is_iceberg_name.ensures.1 (subst IsIcebergName (sym c.as_bytes.ensures.value) free.0)), refl)

pub returns-then-contains : goal.returns-then-contains
returns-then-contains c =
    let at = c.in_ok-path.ensures ∙ ap path_of c.as_str.ensures.value in
    inr (λ free. free.1 (subst (λ (p : List ℕ). Contains c.args.reached.now.paths.keys p) at (c.contains.ensures.0 c.if-contains.true)), refl)

pub returns : goal.returns
returns c =
    let keys = c.args.reached.now.paths.keys in
    let at = c.in_ok-path.ensures ∙ ap path_of c.as_str.ensures.value in
    inl (
      (
        subst IsIcebergName c.as_bytes.ensures.value (c.is_iceberg_name.ensures.0 c.if-not-is_iceberg_name.false),
        λ there. false≢true (sym c.if-contains.false ∙ c.contains.ensures.1 (subst (λ (p : List ℕ). Contains keys p) (sym at) there)),
      ),
      c.in_ok-push.ensures.ok ∙ ap (λ (p : List ℕ). c.args.paths ++ p ∷ []) at,
    )
