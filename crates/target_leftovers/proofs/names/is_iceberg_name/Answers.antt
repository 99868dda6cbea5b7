use Rattle.std.proofs.Common.{sym, ◌∙◌}
use Rattle.std.proofs.lemmas.Bool.{false≢true}
use Rattle.target_leftovers.specs.Names.{IsIcebergName}
use Rattle.target_leftovers.proofs.NameLemmas.{list_name, manifest_left, staged_name}
use Rattle.target_leftovers.proofs.names.is_iceberg_name.Goals.{then-is_numbered, else-is_numbered}
use Rattle.target_leftovers.proofs.names.is_iceberg_name.Goals as goal

pub returns-then-is_numbered-2 : goal.returns-then-is_numbered-2
returns-then-is_numbered-2 c =
    let name = c.args.name.now in
    let leftover : IsIcebergName name = elim c.if-is_numbered.branch [
      | then-is_numbered w ↦ staged_name name (c.is_numbered.ensures.0 w.if-is_numbered.true)
      | else-is_numbered w ↦ list_name name (w.is_numbered-else-is_numbered.ensures.0 (sym w.value-is ∙ c.if-is_numbered-2.true))
    ] in
    (λ _. leftover, λ _. c.if-is_numbered-2.true)

pub returns-else-is_numbered-2 : goal.returns-else-is_numbered-2
returns-else-is_numbered-2 c =
    elim c.if-is_numbered.branch [
      | then-is_numbered w ↦ absurd (false≢true (sym c.if-is_numbered-2.false ∙ w.value-is ∙ w.if-is_numbered.true))
      | else-is_numbered w ↦
          manifest_left c.args.name.now c.is_numbered.result w.is_numbered-else-is_numbered.result c.is_manifest.result c.is_numbered.ensures w.is_numbered-else-is_numbered.ensures c.is_manifest.ensures
          w.if-is_numbered.false (sym w.value-is ∙ c.if-is_numbered-2.false)
    ]
