use Rattle.std.proofs.Common.{◌≡◌, List, ℕ, ◌++◌, take, ap, subst, ◌∙◌}
use Rattle.std.specs.Prelude.{IfOk}
use Rattle.sha1.specs.Sha1.{sha1}
use Rattle.uuid.specs.Parts.{with_variant, with_version}
use Rattle.uuid.specs.Text.{hyphenated_text, lower}
use Rattle.uuid.specs.declared.Variant.TheVariants.{RFC4122}
use Rattle.uuid.specs.declared.Version.TheVariants.{Sha1}
use Rattle.target_iceberg.specs.TableId.{id_name, table_id, url_namespace}
use Rattle.target_iceberg.proofs.target.table_id.Goals as goal

pub returns : goal.returns
unfolding table_id
returns c =
    let name : c.as_bytes.result.now ≡ id_name c.args.location.now = c.as_bytes.ensures.value ∙ c.in_ok-name.ensures.ok in
    let uuid = c.hyphenated.ensures ∙ c.new_v5-uuid.ensures.value ∙ ap (λ (n : List ℕ). with_version (with_variant (take 16 (sha1 (url_namespace ++ n))) RFC4122) Sha1) name in
    let text : c.encode_lower.result.now ≡ table_id c.args.location.now = c.encode_lower.ensures.text ∙ ap (hyphenated_text lower) uuid in
    subst (λ (x : List ℕ). IfOk c.from_str.result (λ t. t ≡ x)) text c.from_str.ensures
