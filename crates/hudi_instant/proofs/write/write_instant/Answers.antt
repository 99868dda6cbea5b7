use Rattle.std.proofs.Common.{◌++◌, ◌∷◌, [], ℕ, List, false, ap, ◌∙◌, rules}
use Rattle.std.specs.Prelude.{codes}
use Rattle.std.proofs.lemmas.Result.{on_ok_weaker}
use Rattle.json.specs.Token.{Token, begin_object, end_object, key, string, boolean}
use Rattle.json.specs.Tree.{json_tokens}
use Rattle.serde_json.specs.Data.{object}
use Rattle.serde_json.specs.Written.{outline}
use Rattle.json_reading.proofs.Grown.{first, more}
use Rattle.hudi_instant.specs.declared.instant.Stat.{Stat}
use Rattle.hudi_instant.specs.InstantText.{stat_data, id_data, partition_of, replaced_partition, runs_by, extra_data}
use Rattle.hudi_instant.specs.InstantTokens.{run_members}
use Rattle.hudi_instant.proofs.TokenLemmas.{regrouped}
use Rattle.hudi_instant.proofs.write.write_instant.Goals as goal

abbrev id_tokens : List (List ℕ × List ℕ) → List Token
id_tokens ps = json_tokens (outline (object (run_members id_data (runs_by replaced_partition ps))))

abbrev stat_tokens : List Stat → List Token
stat_tokens ss = json_tokens (outline (object (run_members stat_data (runs_by partition_of ss))))

pub returns-clause-tokens : goal.returns-clause-tokens
returns-clause-tokens c =
    let instant = c.args.instant.now in
    let ids = c.in_ok-write_arrays.ensures.tokens ∙ ap (λ ps. c.key-3.new.self.tokens ++ id_tokens ps) c.as_slice.ensures in
    let stats = c.in_ok-write_arrays-2.ensures.tokens ∙ ap (λ ss. c.key-4.new.self.tokens ++ stat_tokens ss) c.as_slice-2.ensures in
    let opened = first c.args.out.now.tokens c.begin_object.new.self.tokens (begin_object ∷ []) c.in_ok-begin_object.ensures.ok in
    let compacted = more _ _ _ _ _ (more _ _ _ _ _ opened c.in_ok-key.ensures.ok) c.in_ok-boolean.ensures.ok in
    let extra = more _ _ _ _ _ (more _ _ _ _ _ compacted c.in_ok-key-2.ensures.ok) c.in_ok-write_extra.ensures.tokens in
    let operation = more _ _ _ _ _ extra c.in_ok-write_text.ensures.tokens in
    let replaced = more _ _ _ _ _ (more _ _ _ _ _ operation c.in_ok-key-3.ensures.ok) ids in
    let written = more _ _ _ _ _ (more _ _ _ _ _ replaced c.in_ok-key-4.ensures.ok) stats in
    let whole =
    regrouped (json_tokens (outline (extra_data instant.mark instant.schema))) (key (codes "operationType") ∷ string (codes "INSERT_OVERWRITE") ∷ []) (key (codes "partitionToReplaceFileIds") ∷ []) (id_tokens instant.replaced)
    (key (codes "partitionToWriteStats") ∷ []) (stat_tokens instant.stats) (end_object ∷ []) in
    on_ok_weaker c.end_object.result
    (λ last. (more _ _ _ _ _ written last).is ∙ ap (λ ts. c.args.out.now.tokens ++ begin_object ∷ key (codes "compacted") ∷ boolean false ∷ key (codes "extraMetadata") ∷ ts) whole) c.end_object.ensures.ok

pub returns-clause-before : goal.returns-clause-before
returns-clause-before c = on_ok_weaker c.end_object.result (λ _. search rules) c.end_object.ensures.ok
