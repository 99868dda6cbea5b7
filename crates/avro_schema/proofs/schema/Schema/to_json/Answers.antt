use Rattle.std.proofs.Common.{◌≡◌, ◌≤◌, ℕ, List, [], Some, ap, sym, subst, ◌∙◌}
use Rattle.serde_json.specs.View.{view}
use Rattle.serde_json.specs.Data.{Data, depth}
use Rattle.serde_json.specs.Read.{max_depth}
use Rattle.serde_json.specs.Written.{compact_text, has_float}
use Rattle.avro_schema.specs.Tree.{tree_of}
use Rattle.avro_schema.specs.Writing.{Written, schema_json, json_of}
use Rattle.avro_schema.proofs.Flat.{flat_schema}
use Rattle.avro_schema.proofs.Plain.{plain_is_spelled}
use Rattle.avro_schema.proofs.Texts.{spelled_text}
use Rattle.avro_schema.proofs.schema.Schema.to_json.Goals as goal

pub returns-clause-text : goal.returns-clause-text
returns-clause-text c =
    let e : view c.in_ok-value.value ≡ json_of (tree_of c.args.self.now) = ap (λ (w : Written Data). w.0) c.in_ok-value.ensures ∙ ap (λ (ks : List (List ℕ)). (schema_json (tree_of c.args.self.now) [] ks).0) c.new-names.ensures.empty in
    c.in_ok-text_of_json.ensures.text (ap has_float e ∙ flat_schema (tree_of c.args.self.now) [] []) ∙ ap compact_text e

pub returns-clause-reads_back : goal.returns-clause-reads_back
returns-clause-reads_back c = λ s.
    let e : view c.in_ok-value.value ≡ json_of (tree_of c.args.self.now) = ap (λ (w : Written Data). w.0) c.in_ok-value.ensures ∙ ap (λ (ks : List (List ℕ)). (schema_json (tree_of c.args.self.now) [] ks).0) c.new-names.ensures.empty in
    let P : Data → Type 0 = λ d. depth d ≤ max_depth in
    spelled_text _ (tree_of c.args.self.now) (c.in_ok-text_of_json.ensures.reads_back (subst P (sym e) s.shallow) ∙ ap Some e) s

pub returns-clause-plain : goal.returns-clause-plain
returns-clause-plain c = plain_is_spelled (tree_of c.args.self.now)

pub returns-in_err-value-clause-plain : goal.returns-in_err-value-clause-plain
returns-in_err-value-clause-plain c = plain_is_spelled (tree_of c.args.self.now)

pub returns-in_err-text_of_json-clause-plain : goal.returns-in_err-text_of_json-clause-plain
returns-in_err-text_of_json-clause-plain c = plain_is_spelled (tree_of c.args.self.now)
