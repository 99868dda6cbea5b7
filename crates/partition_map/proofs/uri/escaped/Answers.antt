use Rattle.std.proofs.Common.{◌≡◌, sym, ap, subst, ◌∙◌, IfOk}
use Rattle.std.specs.List.{list_all}
use Rattle.partition_map.specs.Uri.{escaped_path, is_plain}
use Rattle.partition_map.proofs.UriLemmas.{escaped_path-plain}
use Rattle.partition_map.proofs.uri.escaped.Goals as goal

pub returns-then-are_plain : goal.returns-then-are_plain
returns-then-are_plain c =
    let path = c.args.path.now in
    let plain : escaped_path path ≡ path = escaped_path-plain path (ap (list_all is_plain) (sym c.as_bytes.ensures.value) ∙ sym c.are_plain.ensures ∙ c.if-are_plain.true) in
    subst (λ bytes. IfOk c.from_str.result (λ t. t ≡ bytes)) (sym plain) c.from_str.ensures
