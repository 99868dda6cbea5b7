use Rattle.std.proofs.Common.{◌+◌, ◌++◌, ◌∷◌, [], get_or, drop, map, ap, ◌∙◌, arith}
use Rattle.std.specs.Option.{option_copied, option_map}
use Rattle.std.proofs.lemmas.List.{map-append}
use Rattle.hudi_files.specs.Values.{component_parts}
use Rattle.partition_map.specs.Folder.{value_part}
use Rattle.hudi_files.proofs.ValueLemmas.{now_of, no_text, parts_end, parts_goes}
use Rattle.hudi_files.proofs.rows.component_parts.Goals as goal

pub returns-in-None : goal.returns-in-None
returns-in-None c =
    let names = c.args.names.now in
    let components = c.args.components.now in
    let place = c.loop-place.place in
    parts_end c.args.style names components place c.index-names-place.result no_text (option_copied c.in_ok-value_part.field-0) (omega arith) c.requires c.index-names-place.is
    (c.in_ok-value_part.ensures.value ∙ ap (λ n. value_part c.args.style n (get_or components place no_text).now) c.as_str.ensures.value)
    (map now_of c.loop-place.parts.items) (component_parts c.args.style names (map now_of components)) c.loop-place.invariant (ap option_copied c.in-None.is)

pub loop-place-preserved : goal.loop-place-preserved
loop-place-preserved c =
    let names = c.args.names.now in
    let components = c.args.components.now in
    let place = c.loop-place.place in
    let rest = component_parts c.args.style (drop (place + 1) names) (drop (place + 1) (map now_of components)) in
    ap (λ front. option_map (λ more. front ++ more) rest) (ap (map now_of) c.in_ok-push-in-Some.ensures.items ∙ map-append now_of c.loop-place.parts.items (c.in-Some.part ∷ []))
    ∙ parts_goes c.args.style names components place c.index-names-place.result no_text (option_copied c.in_ok-value_part.field-0) (omega arith) c.requires c.index-names-place.is
    (c.in_ok-value_part.ensures.value ∙ ap (λ n. value_part c.args.style n (get_or components place no_text).now) c.as_str.ensures.value)
    (map now_of c.loop-place.parts.items) (component_parts c.args.style names (map now_of components)) c.in-Some.part.now c.loop-place.invariant (ap option_copied c.in-Some.is)
