use Rattle.std.proofs.Common.{◌≡◌, ◌∙◌, map, take, sym}
use Rattle.std.specs.List.{list_any}
use Rattle.std.specs.Str.{bytes_eq}
use Rattle.avro_schema.proofs.Repeats.{any_text}
use Rattle.lake_batch.proofs.batch.stands_before.Goals as goal

pub returns-then-path-place-eq47 : goal.returns-then-path-place-eq47
returns-then-path-place-eq47 c =
    let any : c.contains.result ≡ list_any (bytes_eq (take c.args.place c.args.path.now)) (map (λ s. s.now) c.args.folders.now.keys) =
    c.contains.ensures ∙ any_text (take c.args.place c.args.path.now) c.args.folders.now.keys in
    (λ t. (c.if-path-place-eq47.true, sym any ∙ t), λ both. any ∙ both.1)
