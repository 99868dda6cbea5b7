use Rattle.std.proofs.Common.{refl, sym, ◌∙◌, inr}
use Rattle.avro_feeding.proofs.HeaderLemmas.{other_codec_so}
use Rattle.avro_feeding.proofs.header.judged.Goals as goal

pub returns-then-is_err : goal.returns-then-is_err
returns-then-is_err c = (refl, inr (refl, other_codec_so _ c.codec.result (sym c.is_err.ensures.value ∙ c.if-is_err.true) c.codec.ensures))
