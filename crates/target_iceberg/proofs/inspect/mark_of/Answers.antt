use Rattle.std.proofs.Common.{List, ℕ, Some, ap, sym, ◌∙◌}
use Rattle.iceberg_version.specs.Writing.{mark_property}
use Rattle.target_iceberg.specs.Reading.{property}
use Rattle.target_iceberg.proofs.SeenLemmas.{mark_read}
use Rattle.target_iceberg.proofs.inspect.mark_of.Goals as goal

pub returns : goal.returns
returns c =
    let found = sym (ap (λ (t : List ℕ). Some t) c.as_str.ensures.value ∙ c.in-Some.ensures ∙ ap (property mark_property) c.as_slice.ensures) in
    mark_read c.args.metadata.now c.as_str.result.now found c.read_mark.result c.read_mark.ensures
