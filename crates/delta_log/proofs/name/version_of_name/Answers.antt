use Rattle.std.proofs.Common.{refl, ◌∙◌}
use Rattle.std.proofs.lemmas.Bool.{false≢true}
use Rattle.delta_log.proofs.VersionLemmas.{parts_of, named_by}
use Rattle.delta_log.proofs.name.version_of_name.Goals as goal

pub returns-then-name-ne25 : goal.returns-then-name-ne25
returns-then-name-ne25 c = λ v h. c.if-name-ne25.true (parts_of c.args.name.now v h).len

pub returns-then-not-is_json_suffix : goal.returns-then-not-is_json_suffix
returns-then-not-is_json_suffix c = λ v h. false≢true (c.if-not-is_json_suffix.ensures.1 (c.split_at.ensures.back ∙ (parts_of c.args.name.now v h).suffix))

pub returns : goal.returns
returns c =
    named_by c.args.name.now c.split_at.result.0.now c.split_at.result.1.now c.version_of_digits.result c.split_at.ensures.front c.split_at.ensures.back (c.if-not-is_json_suffix.ensures.0 refl) c.version_of_digits.ensures
