use Rattle.std.proofs.Common.{of_z, rules, to_z, w64, ◌∙◌}
use Rattle.std.proofs.lemmas.Int.{to_z-of_z}
use Rattle.iceberg_commit.specs.Texts.{IsListOf}
use Rattle.iceberg_commit.proofs.TextLemmas.{list_in, long_is}
use Rattle.iceberg_commit.proofs.texts.list_text.Goals as goal

pub returns-in-Ok-clause-refusal : goal.returns-in-Ok-clause-refusal
returns-in-Ok-clause-refusal c =
    let id = to_z-of_z w64 c.from-snapshot.result (search rules) in
    long_is c.within.result c.in-Ok.bytes (IsListOf c.args.infos.now c.args.version c.args.parent) c.within.ensures.long
    (list_in c.args.infos.now c.args.version c.args.parent c.in-Ok.bytes (to_z w64 (of_z w64 c.from-snapshot.result)) (id ∙ c.from-snapshot.ensures) c.in-Ok.ensures.written c.in-Ok.ensures.reads_back)
