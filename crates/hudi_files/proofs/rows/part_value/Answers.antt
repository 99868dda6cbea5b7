use Rattle.std.proofs.Common.{◌≡◌, Some, Err, refl, sym, ap, ◌∙◌, subst}
use Rattle.std.specs.Cow.{cow_str_bytes}
use Rattle.std.specs.Option.{option_map}
use Rattle.partition_map.specs.Folder.{unescaped_text}
use Rattle.partition_map.specs.Stands.{HiveStands}
use Rattle.hudi_files.proofs.rows.part_value.Goals as goal

pub returns-in-Err-BadValue-clause-refused : goal.returns-in-Err-BadValue-clause-refused
returns-in-Err-BadValue-clause-refused c =
    let spelled : unescaped_text c.args.style c.args.part.now ≡ Some (cow_str_bytes c.in-Some.text) = sym c.in_ok-text.ensures ∙ ap (option_map cow_str_bytes) c.in-Some.is in (
      refl,
      λ v stands.
          let same : stands.0 ≡ cow_str_bytes c.in-Some.text = cc (sym stands.1 ∙ spelled) in
          c.in-Err-BadValue.ensures.bad.0 (ap Err c.in-Err-BadValue.field-0-is) v (subst (λ text. HiveStands c.args.kind text v) (same ∙ sym c.as_str.ensures.value) stands.2),
    )
