use Rattle.avro_schema.proofs.write.put_logical.Goals as goal

pub returns-in-Some : goal.returns-in-Some
returns-in-Some c = rw (c.in-Some.is, ← c.as_str.ensures.value) c.put_text.ensures
