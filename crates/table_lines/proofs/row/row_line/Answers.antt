use Rattle.std.proofs.Common.{◌++◌, ◌∷◌, [], List, ℕ, sym, ap, ◌∙◌}
use Rattle.json.specs.Print.{print}
use Rattle.json.specs.Token.{Token}
use Rattle.json.specs.Tree.{json_tokens}
use Rattle.serde_json.specs.Written.{outline}
use Rattle.serde_json.proofs.Texts.{print-outline}
use Rattle.table_lines.specs.TableLines.{row_data}
use Rattle.table_lines.proofs.RowTexts.{shown-row}
use Rattle.table_lines.proofs.row.row_line.Goals as goal

pub returns : goal.returns
returns c =
    let row = c.args.row.now in
    let before = c.in_ok-write_row.ensures.before ∙ c.new-out.ensures.before ∙ c.in_ok-room.ensures.items in
    let tokens = c.in_ok-write_row.ensures.tokens ∙ ap (λ (ts : List Token). ts ++ json_tokens (outline (row_data row))) c.new-out.ensures.tokens in
    let text = ap print tokens ∙ print-outline (row_data row) ∙ sym (shown-row row) in
    c.in_ok-push.ensures.items
    ∙ ap (λ (l : List ℕ). l ++ 10 ∷ []) (c.into_inner-line.ensures.items ∙ ap (λ (l : List ℕ). l ++ print c.write_row.new.out.tokens) before ∙ text)
