-- Bytes as JSON, by the text that they are.
use Rattle.std.proofs.Common.{◌≡◌, ℕ, List, None, Result, sym, ap, subst, ◌∙◌}
use Rattle.std.proofs.lemmas.Str.{is_utf8-from_IsUtf8}
use Rattle.std.specs.Str.{IsUtf8}
use Rattle.serde_json.specs.Read.{read}
use Rattle.lake_basics.specs.Outcome.{Gives, required}
use Rattle.lake_basics.specs.declared.outcome.ReadError.{ReadError}
use Rattle.json_reading.specs.Json.{json}
use Rattle.json_reading.proofs.Laws.{json_refused}
use Rattle.json_outline.specs.View.{view}
use Rattle.json_outline.specs.declared.node.Node.{Node}

json_read : (text bytes : List ℕ) → text ≡ bytes → IsUtf8 bytes → read text ≡ json bytes
json_read text bytes same utf8 = ap read same ∙ sym (rw (is_utf8-from_IsUtf8 bytes utf8))

pub json_no_text : (bytes : List ℕ) → (IsUtf8 bytes → ⊥) → json bytes ≡ None
json_no_text bytes wrong = json_refused bytes (λ utf8. absurd (wrong utf8))

pub gives_json : {F : Type 0} (result : Result Node (ReadError F)) (fault : F) (text bytes : List ℕ) → text ≡ bytes → IsUtf8 bytes
    → Gives view result (required fault (read text)) → Gives view result (required fault (json bytes))
gives_json result fault text bytes same utf8 = subst (λ o. Gives view result (required fault o)) (json_read text bytes same utf8)
