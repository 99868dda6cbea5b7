use Rattle.std.proofs.Common.{not, length, refl, ap, ◌∙◌}
use Rattle.memchr.specs.Find.{Passes, is_byte3}
use Rattle.partition_map.proofs.UriLemmas.{nowhere_from_none, percent_decode-same, is_well_escaped-literal}
use Rattle.partition_map.proofs.uri.is_literal.Goals as goal

pub returns-clause-escapes : goal.returns-clause-escapes
returns-clause-escapes c = λ none.
    let uri = c.args.uri.now in
    is_well_escaped-literal uri (nowhere_from_none (Passes (is_byte3 63 35 37) uri) 0 (length uri) c.memchr3.result (c.is_none.ensures ∙ ap not none) c.memchr3.ensures)

pub returns-clause-same : goal.returns-clause-same
returns-clause-same c = λ none.
    let uri = c.args.uri.now in
    percent_decode-same (is_byte3 63 35 37) refl uri (nowhere_from_none (Passes (is_byte3 63 35 37) uri) 0 (length uri) c.memchr3.result (c.is_none.ensures ∙ ap not none) c.memchr3.ensures)
