use Rattle.std.proofs.Common.{◌≡◌, Some, map, sym, subst, ◌∙◌, rules}
use Rattle.std.proofs.lemmas.Result.{IfErr-weaker}
use Rattle.hudi_files.specs.Values.{value_parts, PartsStand, SpellsNoValues}
use Rattle.hudi_files.proofs.FolderLemmas.{shows_row}
use Rattle.hudi_files.proofs.ValueLemmas.{now_of, shows_weaker}
use Rattle.hudi_files.proofs.rows.values_of.Goals as goal

pub returns-clause-refused : goal.returns-clause-refused
returns-clause-refused c = λ names spells.
    let style = c.args.style in
    let kinds = c.args.kinds.now in
    let file = c.args.file.now in
    let parts = c.in_ok-parts.parts.now.items in
    let spelled : value_parts style names file.path ≡ Some (map now_of parts) = sym spells ∙ search rules in
    IfErr-weaker c.part_values.result _ _
    (λ e shows. shows_row style names kinds file e (shows_weaker _ (SpellsNoValues style names kinds file.path)
    (λ none. record {
      parts = map now_of parts;
      spelled = spelled;
      none = λ vs h. none vs (subst (λ l. PartsStand style kinds (map now_of l) vs) (sym c.as_slice.ensures.value) h);
    })
    e shows))
    c.part_values.ensures.refused
