use Rattle.std.proofs.Common.{List, ℤ, ap, sym, subst, ◌∙◌, rules, to_z, w32}
use Rattle.std.proofs.lemmas.Int.{to_z-of_z}
use Rattle.iceberg_metadata.specs.Paths.{held_schema}
use Rattle.std.specs.Prelude.{◌↔◌, IsTrue}
use Rattle.std.specs.List.{zip}
use Rattle.std.specs.Option.{option_copied}
use Rattle.schema_map.specs.Paths.{Path, column_paths}
use Rattle.iceberg_metadata.specs.declared.metadata.SpecField.{SpecField}
use Rattle.iceberg_version.specs.Schemas.{FIRST_PARTITION_ID}
use Rattle.target_iceberg.specs.FormSteps.{AreFields}
use Rattle.target_iceberg.proofs.FormLemmas.{spec_by}
use Rattle.target_iceberg.proofs.form.has_own_spec.Goals as goal

pub returns : goal.returns
returns c =
    let paths = c.as_slice.ensures.value ∙ c.in_ok-paths.ensures in
    let one = subst (λ (l : List Path). IsTrue c.are_fields.result ↔ AreFields (zip l c.as_slice-2.result.now) FIRST_PARTITION_ID c.default_fields.result.now) paths c.are_fields.ensures in
    let two = subst (λ (l : List ℤ). IsTrue c.are_fields.result ↔ AreFields (zip (column_paths c.in-Some.schema.now.1) l) FIRST_PARTITION_ID c.default_fields.result.now) c.as_slice-2.ensures one in
    let three = subst (λ (l : List SpecField). IsTrue c.are_fields.result ↔ AreFields (zip (column_paths c.in-Some.schema.now.1) c.in-Some.schema.now.2) FIRST_PARTITION_ID l) c.default_fields.ensures two in
    spec_by c.args.metadata.now c.in-Some.schema.now (ap (held_schema c.args.metadata.now.schemas) (sym (to_z-of_z w32 c.args.metadata.now.current_schema (search rules))) ∙ sym c.held_schema.ensures ∙ ap option_copied c.in-Some.is) (sym (to_z-of_z w32 c.args.metadata.now.default_spec (search rules)) ∙ ap (to_z w32) c.if-metadata-ne0.false) c.are_fields.result three
