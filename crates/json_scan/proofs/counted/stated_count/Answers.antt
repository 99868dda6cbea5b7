use Rattle.std.proofs.Common.{◌≡◌, Some, None, option_map, MatchResult}
use Rattle.json.specs.Lex.{tokens}
use Rattle.serde_json.specs.Read.{read}
use Rattle.json_scan.specs.Passing.{whole_object, named_whole}
use Rattle.json_scan.proofs.Whole.{told_gives}
use Rattle.json_scan.proofs.counted.stated_count.Goals as goal

pub returns : goal.returns
returns g c =
    let text = c.args.text.now in
    let name = c.args.name.now in
    let found = c.whole_in_object.result in
    let seen : MatchResult found (λ n. option_map (named_whole name) (whole_object (tokens text)) ≡ Some n) (λ e. whole_object (tokens text) ≡ None) = rw (← c.in_ok-reader.ensures.ok) c.whole_in_object.ensures in
    record { read = told_gives c.args.fault name c.told.result found (read text) seen c.told.ensures.read; small = c.told.ensures.small }
