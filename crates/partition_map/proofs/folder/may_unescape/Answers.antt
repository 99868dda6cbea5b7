use Rattle.std.proofs.Common.{length, refl, sym, ap, ◌∙◌}
use Rattle.std.proofs.lemmas.Bool.{cond-true}
use Rattle.memchr.specs.Find.{Passes, is_byte}
use Rattle.percent_encoding.specs.Percent.{percent_decode}
use Rattle.partition_map.proofs.UriLemmas.{nowhere_from_none, percent_decode-same}
use Rattle.partition_map.proofs.folder.may_unescape.Goals as goal

pub returns-then-style-clause-same : goal.returns-then-style-clause-same
returns-then-style-clause-same c = λ none.
    let bytes = c.as_bytes.result.now in
    let same = c.as_bytes.ensures.value in
    let decoded = percent_decode-same (is_byte 37) refl bytes (nowhere_from_none (Passes (is_byte 37) bytes) 0 (length bytes) c.memchr.result (sym c.is_some.ensures ∙ none) c.memchr.ensures) in
    cond-true c.args.style.url_encode _ _ c.if-style.true ∙ ap percent_decode (sym same) ∙ decoded ∙ same
