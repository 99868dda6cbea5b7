use Rattle.std.proofs.Common.{◌≡◌, ℕ, List, Option, Err, refl, sym, ap, ◌∙◌, subst}
use Rattle.std.specs.Option.{option_copied}
use Rattle.partition_map.specs.Stands.{DeltaStands}
use Rattle.delta_live.specs.Live.{text_of}
use Rattle.delta_live.proofs.rows.value_of.Goals as goal

pub returns-in-Err-BadValue-clause-refused : goal.returns-in-Err-BadValue-clause-refused
returns-in-Err-BadValue-clause-refused c =
    let text : option_copied c.text_of.result ≡ text_of c.args.column.now.0 c.args.texts.now = c.text_of.ensures ∙ ap (λ (n : List ℕ). text_of n c.args.texts.now) c.as_str.ensures.value in (
      refl,
      refl,
      λ v stands. c.in-Err-BadValue.ensures.bad.0 (ap Err c.in-Err-BadValue.field-0-is) v (subst (λ (t : Option (List ℕ)). DeltaStands c.args.column.now.1 t v) (sym text) stands),
    )
