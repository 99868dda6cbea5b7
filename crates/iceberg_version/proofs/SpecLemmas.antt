-- The fields of a partition spec.
use Rattle.std.proofs.Common.{◌≡◌, ◌+◌, ◌<◌, ℕ, List, [], ◌∷◌, ◌++◌, take, get_or, length, sym, ap, subst, ◌∙◌, arith, suc}
use Rattle.std.proofs.lemmas.List.{length-take, take_more}
use Rattle.iceberg_metadata.specs.Paths.{path_ids}
use Rattle.iceberg_metadata.specs.Schemas.{HeldSchema}
use Rattle.iceberg_metadata.specs.declared.metadata.SpecField.{SpecField}
use Rattle.iceberg_version.specs.Schemas.{AreSpecFields, IsSpecField}

pushed : (schema : HeldSchema) (k : ℕ) (names : List (List ℕ)) (fields : List SpecField) (name : List ℕ) (f : SpecField) → AreSpecFields schema k names fields → IsSpecField (path_ids schema) (k + length names) name f → AreSpecFields schema k (names ++ name ∷ []) (fields ++ f ∷ [])
pushed schema k [] [] name f are is = (subst (λ (n : ℕ). IsSpecField (path_ids schema) n name f) (let e : k + 0 ≡ k = omega arith in e) is, tt)
pushed schema k [] (g ∷ gs) name f are is = absurd are
pushed schema k (n ∷ ns) [] name f are is = absurd are
pushed schema k (n ∷ ns) (g ∷ gs) name f are is = (are.0, pushed schema (k + 1) ns gs name f are.1 (subst (λ (i : ℕ). IsSpecField (path_ids schema) i name f) (let e : k + suc (length ns) ≡ k + 1 + length ns = omega arith in e) is))

pub spec_more : (schema : HeldSchema) (k i : ℕ) (names : List (List ℕ)) (fields after : List SpecField) (name : List ℕ) (f : SpecField) → i < length names → name ≡ get_or names i name → AreSpecFields schema k (take i names) fields → IsSpecField (path_ids schema) (k + i) name f → after ≡ fields ++ f ∷ [] → AreSpecFields schema k (take (i + 1) names) after
spec_more schema k i names fields after name f within at are is pushes =
    let more : take (i + 1) names ≡ take i names ++ name ∷ [] = take_more names i name within ∙ ap (λ (n : List ℕ). take i names ++ n ∷ []) (sym at) in
    let l = length-take i names in
    let len : k + i ≡ k + length (take i names) = omega arith in
    let all = pushed schema k (take i names) fields name f are (subst (λ (n : ℕ). IsSpecField (path_ids schema) n name f) len is) in
    subst (λ (fs : List SpecField). AreSpecFields schema k (take (i + 1) names) fs) (sym pushes) (subst (λ (ns : List (List ℕ)). AreSpecFields schema k ns (fields ++ f ∷ [])) (sym more) all)
