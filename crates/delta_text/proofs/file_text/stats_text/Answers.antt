use Rattle.std.proofs.Common.{◌≡◌, ◌++◌, ◌∷◌, [], decimal, string_bytes, subst, ◌∙◌, arith, rules}
use Rattle.std.proofs.lemmas.Str.{IsUtf8-string_bytes}
use Rattle.std.specs.Prelude.{codes}
use Rattle.std.specs.Str.{IsUtf8}
use Rattle.delta_text.proofs.TokenLemmas.{stats_again, stats_written}
use Rattle.delta_text.proofs.file_text.stats_text.Goals as goal

pub returns-clause-text : goal.returns-clause-text
returns-clause-text c =
    let whole : string_bytes c.push_str-3.new.self ≡ ((123 ∷ 34 ∷ (codes "numRecords" ++ 34 ∷ 58 ∷ [])) ++ decimal c.args.count) ++ 125 ∷ [] = search rules in
    whole ∙ stats_written c.args.count

pub returns-clause-reads_back : goal.returns-clause-reads_back
returns-clause-reads_back c =
    let whole : string_bytes c.push_str-3.new.self ≡ ((123 ∷ 34 ∷ (codes "numRecords" ++ 34 ∷ 58 ∷ [])) ++ decimal c.args.count) ++ 125 ∷ [] = search rules in
    stats_again c.args.count (omega (arith, c.ranges.count.fits)) (subst IsUtf8 (whole ∙ stats_written c.args.count) (IsUtf8-string_bytes c.push_str-3.new.self))
