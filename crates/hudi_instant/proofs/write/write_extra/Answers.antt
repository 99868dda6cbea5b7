use Rattle.std.proofs.Common.{◌++◌, ◌∷◌, [], ap, ◌∙◌, rules}
use Rattle.std.proofs.lemmas.Result.{on_ok_weaker}
use Rattle.json.specs.Token.{begin_object}
use Rattle.json_reading.proofs.Grown.{first, more}
use Rattle.hudi_instant.proofs.TokenLemmas.{extra_tokens}
use Rattle.hudi_instant.proofs.write.write_extra.Goals as goal

pub returns-clause-tokens : goal.returns-clause-tokens
returns-clause-tokens c =
    let opened = first c.args.out.now.tokens c.begin_object.new.self.tokens (begin_object ∷ []) c.in_ok-begin_object.ensures.ok in
    let mark = more _ _ _ _ _ opened c.in_ok-write_text_if_any.ensures.tokens in
    let schema = more _ _ _ _ _ mark c.in_ok-write_text_if_any-2.ensures.tokens in
    let whole = ap (λ ts. c.args.out.now.tokens ++ ts) (extra_tokens c.args.instant.now.mark c.args.instant.now.schema) in
    on_ok_weaker c.end_object.result (λ last. (more _ _ _ _ _ schema last).is ∙ whole) c.end_object.ensures.ok

pub returns-clause-before : goal.returns-clause-before
returns-clause-before c = on_ok_weaker c.end_object.result (λ _. search rules) c.end_object.ensures.ok
