use Rattle.std.proofs.Common.{◌++◌, ap, ◌∙◌}
use Rattle.json.specs.Print.{print}
use Rattle.json.specs.Tree.{json_tokens}
use Rattle.json_reading.specs.Json.{json}
use Rattle.serde_json.specs.Written.{outline}
use Rattle.hudi_instant.specs.InstantTokens.{written_data}
use Rattle.hudi_instant.proofs.TokenLemmas.{printed_text, printed_json}
use Rattle.hudi_instant.proofs.write.instant_bytes.Goals as goal

pub returns-clause-text : goal.returns-clause-text
returns-clause-text c =
    let tokens = c.in_ok-write_instant.ensures.tokens ∙ ap (λ ts. ts ++ json_tokens (outline (written_data c.args.instant.now))) c.new-out.ensures.tokens in
    let before = c.in_ok-write_instant.ensures.before ∙ c.new-out.ensures.before ∙ c.new-text.ensures.items in
    c.into_inner.ensures.items ∙ ap (λ xs. xs ++ print c.write_instant.new.out.tokens) before ∙ printed_text _ _ tokens c.requires

pub returns-clause-reads_back : goal.returns-clause-reads_back
returns-clause-reads_back c =
    let tokens = c.in_ok-write_instant.ensures.tokens ∙ ap (λ ts. ts ++ json_tokens (outline (written_data c.args.instant.now))) c.new-out.ensures.tokens in
    let before = c.in_ok-write_instant.ensures.before ∙ c.new-out.ensures.before ∙ c.new-text.ensures.items in
    ap json (c.into_inner.ensures.items ∙ ap (λ xs. xs ++ print c.write_instant.new.out.tokens) before)
    ∙ printed_json _ _ _ tokens c.into_inner.ensures.reads_back c.into_inner.ensures.utf8 c.requires
