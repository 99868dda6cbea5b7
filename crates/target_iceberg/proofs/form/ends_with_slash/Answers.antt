use Rattle.std.proofs.Common.{◌∷◌, []}
use Rattle.std.proofs.lemmas.Bool.Decides.{Decides-eqb}
use Rattle.std.proofs.lemmas.Slice.Eq.{strip_suffix_is}
use Rattle.target_iceberg.proofs.FormLemmas.{slash_by}
use Rattle.target_iceberg.proofs.form.ends_with_slash.Goals as goal

pub returns : goal.returns
returns c = slash_by c.as_bytes.result.now c.args.location.now c.as_bytes.ensures.value c.strip_suffix.result (strip_suffix_is Decides-eqb c.as_bytes.result.now (47 ∷ []) c.strip_suffix.result c.strip_suffix.ensures.cases) c.is_some.result c.is_some.ensures
