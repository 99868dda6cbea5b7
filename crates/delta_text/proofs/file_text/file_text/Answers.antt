use Rattle.std.proofs.Common.{◌≡◌, ◌++◌, ap, subst, ◌∙◌}
use Rattle.std.specs.Str.{IsUtf8}
use Rattle.json.specs.Print.{print}
use Rattle.json.specs.Tree.{json_tokens}
use Rattle.serde_json.specs.Written.{compact_text, outline}
use Rattle.delta_text.specs.Writing.{file_data}
use Rattle.delta_text.proofs.TokenLemmas.{printed_text, file_again}
use Rattle.delta_text.proofs.file_text.file_text.Goals as goal

pub returns-clause-text : goal.returns-clause-text
returns-clause-text c =
    let written = c.in_ok-write_file.ensures in
    let tokens = written.tokens ∙ ap (λ ts. ts ++ json_tokens (outline (file_data c.args.now_ms c.args.file.now))) c.new-out.ensures.tokens in
    let before = written.before ∙ c.new-out.ensures.before ∙ c.in_ok-with_capacity.ensures.items in
    c.into_inner.ensures.items ∙ ap (λ xs. xs ++ print c.write_file.new.out.tokens) before ∙ printed_text _ _ tokens

pub returns-clause-reads_back : goal.returns-clause-reads_back
returns-clause-reads_back c =
    let written = c.in_ok-write_file.ensures in
    let tokens = written.tokens ∙ ap (λ ts. ts ++ json_tokens (outline (file_data c.args.now_ms c.args.file.now))) c.new-out.ensures.tokens in
    let printed : print c.write_file.new.out.tokens ≡ compact_text (file_data c.args.now_ms c.args.file.now) = printed_text _ _ tokens in
    record { line = file_again c.args.now_ms c.args.file.now written.small (subst IsUtf8 printed c.into_inner.ensures.utf8); stats = written.stats; uri = written.uri }
