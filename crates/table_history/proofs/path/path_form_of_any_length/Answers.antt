use Rattle.std.proofs.Common.{◌≡◌, ◌&&◌, sym, ap, ◌∙◌}
use Rattle.std.specs.Str.{is_utf8}
use Rattle.std.proofs.Math.Bool.{and-true}
use Rattle.std.proofs.lemmas.Bool.{false≢true, and_parts}
use Rattle.std.proofs.lemmas.Bool.Decides.{same_from_decides}
use Rattle.std.proofs.lemmas.Str.{IsUtf8-from_is_utf8, is_utf8-from_IsUtf8}
use Rattle.table_history.proofs.PathTests.{path_of_any_length_decided}
use Rattle.table_history.proofs.path.path_form_of_any_length.Goals as goal

pub returns-then-has_plain_segments-clause-test : goal.returns-then-has_plain_segments-clause-test
returns-then-has_plain_segments-clause-test c =
    let bytes = c.args.bytes.now in
    let utf8 : c.is_utf8.result ≡ is_utf8 bytes = same_from_decides _ _ c.is_utf8.ensures (IsUtf8-from_is_utf8 bytes, is_utf8-from_IsUtf8 bytes) in
    utf8 ∙ sym (and-true (is_utf8 bytes)) ∙ ap (λ plain. is_utf8 bytes && plain) (sym c.if-has_plain_segments.true ∙ c.has_plain_segments.ensures)

pub returns-else-has_plain_segments-clause-form : goal.returns-else-has_plain_segments-clause-form
returns-else-has_plain_segments-clause-form c = (
  λ is. absurd (false≢true (sym c.if-has_plain_segments.false ∙ is)),
  λ form. c.has_plain_segments.ensures ∙ (and_parts _ _ ((path_of_any_length_decided c.args.bytes.now).1 form)).1,
)
