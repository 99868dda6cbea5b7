use Rattle.std.proofs.Common.{[], ◌∷◌, rules}
use Rattle.std.proofs.lemmas.Result.{on_ok_weaker}
use Rattle.json.specs.Token.{begin_object}
use Rattle.json_reading.proofs.Grown.{first, more}
use Rattle.hudi_instant.proofs.TokenLemmas.{more_text}
use Rattle.hudi_instant.proofs.write.StatInPartition.write.Goals as goal

pub returns-clause-tokens : goal.returns-clause-tokens
returns-clause-tokens c =
    let opened = first c.args.out.now.tokens c.begin_object.new.self.tokens (begin_object ∷ []) c.in_ok-begin_object.ensures.ok in
    let file_id = more_text _ _ _ _ _ _ _ opened c.in_ok-write_text.ensures.tokens c.as_str.ensures.value in
    let size = more _ _ _ _ _ file_id c.in_ok-write_number.ensures.tokens in
    let deletes = more _ _ _ _ _ size c.in_ok-write_number-2.ensures.tokens in
    let inserts = more _ _ _ _ _ deletes c.in_ok-write_number-3.ensures.tokens in
    let updates = more _ _ _ _ _ inserts c.in_ok-write_number-4.ensures.tokens in
    let writes = more _ _ _ _ _ updates c.in_ok-write_number-5.ensures.tokens in
    let partition = more_text _ _ _ _ _ _ _ writes c.in_ok-write_text-2.ensures.tokens c.as_str-2.ensures.value in
    let path = more_text _ _ _ _ _ _ _ partition c.in_ok-write_text-3.ensures.tokens c.as_str-3.ensures.value in
    let previous = more _ _ _ _ _ path c.in_ok-write_text-4.ensures.tokens in
    let bytes = more _ _ _ _ _ previous c.in_ok-write_number-6.ensures.tokens in
    let errors = more _ _ _ _ _ bytes c.in_ok-write_number-7.ensures.tokens in on_ok_weaker c.end_object.result (λ last. (more _ _ _ _ _ errors last).is) c.end_object.ensures.ok

pub returns-clause-before : goal.returns-clause-before
returns-clause-before c = on_ok_weaker c.end_object.result (λ _. search rules) c.end_object.ensures.ok
