use Rattle.std.proofs.Common.{◌≡◌, ◌++◌, ◌∷◌, drop}
use Rattle.avro_container.specs.Format.{schema_name, codec_name, null_codec}
use Rattle.avro_container.proofs.write.with_schema.Given as goal

abbrev pub invariant-loop-pair : goal.invariant-loop-pair
invariant-loop-pair l = l.pairs.items ++ drop l.pair-index l.meta ≡ (codec_name, null_codec) ∷ (schema_name, l.fn.schema) ∷ l.meta
