use Rattle.std.proofs.Common.{Err, sym, ap, subst, ◌∙◌}
use Rattle.percent_encoding.specs.Percent.{percent_decode}
use Rattle.partition_map.specs.declared.error.PartError.TheVariants.{OutsideTable, BadPath}
use Rattle.partition_map.specs.UriPath.{is_outside, is_well_escaped, uri_path, path_place, GivesPath}
use Rattle.partition_map.proofs.UriLemmas.{uri_path-outside, uri_path-bad_escape, reading, names, refuses}
use Rattle.partition_map.proofs.uri.decode_uri_path.Goals as goal
use Rattle.partition_map.proofs.uri.decode_uri_path.Goals.{After-literal_path, After-place_path}

pub returns-then-is_outside-clause-refused : goal.returns-then-is_outside-clause-refused
returns-then-is_outside-clause-refused c =
    refuses c.args.uri.now (Err OutsideTable) (uri_path-outside c.args.uri.now (ap is_outside (sym c.as_bytes-bytes.ensures.value) ∙ sym c.if-is_outside.ensures))

gives_literal : (c : After-literal_path) → GivesPath (uri_path c.args.uri.now) c.literal_path.result
gives_literal c =
    let uri = c.args.uri.now in
    let same = sym c.as_bytes-bytes.ensures.value in
    let escapes = ap is_well_escaped same ∙ c.is_literal.ensures.escapes c.if-is_literal.true in
    let decoded = ap percent_decode same ∙ c.is_literal.ensures.same c.if-is_literal.true ∙ sym same in
    reading uri c.literal_path.result (ap is_outside same ∙ sym c.if-is_outside.ensures) escapes (subst (λ p. GivesPath (path_place p) c.literal_path.result) (sym decoded) c.literal_path.ensures)

pub returns-then-is_literal-clause-ok : goal.returns-then-is_literal-clause-ok
returns-then-is_literal-clause-ok c = names c.args.uri.now c.literal_path.result (gives_literal c)

pub returns-then-is_literal-clause-refused : goal.returns-then-is_literal-clause-refused
returns-then-is_literal-clause-refused c = refuses c.args.uri.now c.literal_path.result (gives_literal c)

pub returns-then-not-is_well_escaped-clause-refused : goal.returns-then-not-is_well_escaped-clause-refused
returns-then-not-is_well_escaped-clause-refused c =
    let same = sym c.as_bytes-bytes.ensures.value in
    refuses c.args.uri.now (Err BadPath)
    (uri_path-bad_escape c.args.uri.now (ap is_outside same ∙ sym c.if-is_outside.ensures) (ap is_well_escaped same ∙ sym c.if-not-is_well_escaped.ensures))

gives : (c : After-place_path) → GivesPath (uri_path c.args.uri.now) c.place_path.result
gives c =
    let same = sym c.as_bytes-bytes.ensures.value in
    let path = c.in_ok-unescaped.ensures ∙ ap percent_decode c.as_bytes-bytes.ensures.value in
    reading c.args.uri.now c.place_path.result (ap is_outside same ∙ sym c.if-is_outside.ensures) (ap is_well_escaped same ∙ sym c.if-not-is_well_escaped.ensures)
    (subst (λ p. GivesPath (path_place p) c.place_path.result) path c.place_path.ensures)

pub returns-clause-ok : goal.returns-clause-ok
returns-clause-ok c = names c.args.uri.now c.place_path.result (gives c)

pub returns-clause-refused : goal.returns-clause-refused
returns-clause-refused c = refuses c.args.uri.now c.place_path.result (gives c)
