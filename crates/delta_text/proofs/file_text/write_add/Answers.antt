use Rattle.std.proofs.Common.{◌++◌, ◌∷◌, [], decimal, true, ap, ◌∙◌}
use Rattle.std.specs.Prelude.{codes}
use Rattle.std.proofs.lemmas.Result.{on_ok_weaker}
use Rattle.json.specs.Token.{begin_object, end_object, key, string, number, boolean}
use Rattle.json.specs.Tree.{json_tokens}
use Rattle.serde_json.specs.Data.{object}
use Rattle.serde_json.specs.Written.{outline}
use Rattle.json_reading.proofs.Grown.{first, more}
use Rattle.delta_text.specs.Tokens.{values_members}
use Rattle.delta_text.proofs.TokenLemmas.{regrouped}
use Rattle.delta_text.proofs.file_text.write_add.Goals as goal

pub returns-clause-tokens : goal.returns-clause-tokens
returns-clause-tokens c =
    let opened = first c.args.out.now.tokens c.begin_object.new.self.tokens (begin_object ∷ []) c.in_ok-begin_object.ensures.ok in
    let named = more _ _ _ _ _ (more _ _ _ _ _ opened c.in_ok-key.ensures.ok) c.in_ok-begin_object-2.ensures.ok in
    let changed = more _ _ _ _ _ (more _ _ _ _ _ named c.in_ok-key-2.ensures.ok) c.in_ok-boolean.ensures.ok in
    let timed = more _ _ _ _ _ changed c.in_ok-write_number.ensures.tokens in
    let values = more _ _ _ _ _ (more _ _ _ _ _ timed c.in_ok-key-3.ensures.ok) c.in_ok-write_values.ensures.tokens in
    let path = more _ _ _ _ _ values c.in_ok-write_text.ensures.tokens in
    let size = more _ _ _ _ _ path c.in_ok-write_number-2.ensures.tokens in
    let stats = more _ _ _ _ _ size c.in_ok-write_text-2.ensures.tokens in
    let closed = more _ _ _ _ _ stats c.in_ok-end_object.ensures.ok in
    let whole =
    regrouped (json_tokens (outline (object (values_members c.args.values.now.entries)))) (key (codes "path") ∷ string c.args.uri.now ∷ []) (key (codes "size") ∷ number (decimal c.args.size) ∷ [])
    (key (codes "stats") ∷ string c.args.stats.now ∷ []) (end_object ∷ []) (end_object ∷ []) in
    on_ok_weaker c.end_object-2.result
    (λ last. (more _ _ _ _ _ closed last).is
    ∙ ap (λ ts. c.args.out.now.tokens ++ begin_object ∷ key (codes "add") ∷ begin_object ∷ key (codes "dataChange") ∷ boolean true ∷ key (codes "modificationTime") ∷ number (decimal c.args.now_ms) ∷ key (codes "partitionValues") ∷ ts) whole) c.end_object-2.ensures.ok
