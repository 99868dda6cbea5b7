-- What is written, by the names of its parts.
use Rattle.std.proofs.Common.{◌≡◌, ℕ, List, Result, Ok, Err, subst}
use Rattle.std.specs.Prelude.{IfOk}
use Rattle.avro_schema.specs.Tree.{SchemaTree}
use Rattle.avro_value.specs.ValueTree.{ValueTree}
use Rattle.avro_container.specs.Format.{Pairs}
use Rattle.avro_container.specs.Writing.{IsWritten}
use Rattle.iceberg_manifest.specs.declared.error.ManifestError.{ManifestError}

pub written_as : (limit : ℕ) (r : Result (List ℕ) ManifestError) (meta named : Pairs) (m : List ℕ) (t u : SchemaTree) (vs ws : List ValueTree) → meta ≡ named → t ≡ u → vs ≡ ws → IfOk r (λ b. IsWritten limit b meta t m vs) → IfOk r (λ b. IsWritten limit b named u m ws)
written_as limit (Err e) meta named m t u vs ws is same values w = tt
written_as limit (Ok b) meta named m t u vs ws is same values w =
    subst (λ (ps : Pairs). IsWritten limit b ps u m ws) is
    (subst (λ (x : SchemaTree). IsWritten limit b meta x m ws) same
    (subst (λ (us : List ValueTree). IsWritten limit b meta t m us) values w))
