use Rattle.std.proofs.lemmas.Str.{IsUtf8-string_bytes}
use Rattle.json_reading.proofs.Laws.{json_read}
use Rattle.avro_schema.proofs.text.text_of_json.Goals as goal

pub returns-clause-reads_back : goal.returns-clause-reads_back
returns-clause-reads_back c = λ shallow. rw (c.from_vec.ensures, c.into_bytes.ensures.value) (json_read _ _ (IsUtf8-string_bytes c.in_ok-text.text) (c.in_ok-text.ensures.reads_back shallow))
