use Rattle.std.proofs.Common.{All, sym, subst, arith}
use Rattle.std.proofs.lemmas.List.Elements.{All-from_get_or}
use Rattle.percent_encoding.proofs.PercentLemmas.{IsByte}
use Rattle.partition_map.specs.Uri.{NamesPath}
use Rattle.partition_map.proofs.UriLemmas.{NamesPath-escaped_path, uri_path-NamesPath}
use Rattle.partition_map.proofs.uri.encode_uri_path.Goals as goal

pub returns-clause-names : goal.returns-clause-names
returns-clause-names c = λ is.
    let path = c.args.path.now in
    let bytes : All IsByte path = All-from_get_or IsByte path 0 (λ i within. omega (arith, c.type_inv.path i)) in
    subst (λ t. NamesPath t path) (sym c.in_ok-escaped.ensures) (NamesPath-escaped_path path bytes is)

pub returns-clause-reads_back : goal.returns-clause-reads_back
returns-clause-reads_back c = λ is.
    let path = c.args.path.now in
    let bytes : All IsByte path = All-from_get_or IsByte path 0 (λ i within. omega (arith, c.type_inv.path i)) in
    uri_path-NamesPath c.in_ok-escaped.field-0 path (subst (λ t. NamesPath t path) (sym c.in_ok-escaped.ensures) (NamesPath-escaped_path path bytes is))
