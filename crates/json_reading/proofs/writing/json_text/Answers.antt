use Rattle.std.proofs.lemmas.Str.{IsUtf8-string_bytes}
use Rattle.json_reading.proofs.Laws.{json_read}
use Rattle.json_reading.proofs.writing.json_text.Goals as goal

pub returns-clause-reads_back : goal.returns-clause-reads_back
returns-clause-reads_back c =
    λ whole shallow.
    let utf8 = IsUtf8-string_bytes c.in_ok-to_string.field-0 in
    rw (c.in_ok-to_string.ensures.text whole) at (json_read _ _ utf8 (c.in_ok-to_string.ensures.reads_back shallow))
