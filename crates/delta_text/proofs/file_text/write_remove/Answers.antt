use Rattle.std.proofs.Common.{◌∷◌, []}
use Rattle.std.proofs.lemmas.Result.{on_ok_weaker}
use Rattle.json.specs.Token.{begin_object}
use Rattle.json_reading.proofs.Grown.{first, more}
use Rattle.delta_text.proofs.file_text.write_remove.Goals as goal

pub returns-clause-tokens : goal.returns-clause-tokens
returns-clause-tokens c =
    let opened = first c.args.out.now.tokens c.begin_object.new.self.tokens (begin_object ∷ []) c.in_ok-begin_object.ensures.ok in
    let named = more _ _ _ _ _ (more _ _ _ _ _ opened c.in_ok-key.ensures.ok) c.in_ok-begin_object-2.ensures.ok in
    let changed = more _ _ _ _ _ (more _ _ _ _ _ named c.in_ok-key-2.ensures.ok) c.in_ok-boolean.ensures.ok in
    let deleted = more _ _ _ _ _ changed c.in_ok-write_number.ensures.tokens in
    let path = more _ _ _ _ _ deleted c.in_ok-write_text.ensures.tokens in
    let closed = more _ _ _ _ _ path c.in_ok-end_object.ensures.ok in on_ok_weaker c.end_object-2.result (λ last. (more _ _ _ _ _ closed last).is) c.end_object-2.ensures.ok
