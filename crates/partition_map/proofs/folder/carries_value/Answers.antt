use Rattle.std.specs.Option.{option_copied}
use Rattle.std.proofs.Common.{IsTrue, ◌↔◌, sym, ap, ◌∙◌}
use Rattle.std.proofs.lemmas.Bool.{false≢true}
use Rattle.std.proofs.lemmas.Result.{IfOk-weaker}
use Rattle.partition_map.specs.Folder.{PartCarries, CarriesValue}
use Rattle.partition_map.proofs.FolderLemmas.{carries_no_part, carries_part}
use Rattle.partition_map.proofs.folder.carries_value.Goals as goal

pub returns-in-None : goal.returns-in-None
returns-in-None c = (
  λ f. absurd (false≢true f),
  λ h. absurd (carries_no_part c.args.column.now c.args.component.now c.args.value.now (sym (ap option_copied c.in-None.is) ∙ c.in_ok-value_part.ensures.value) h),
)

pub returns-in-Some : goal.returns-in-Some
returns-in-Some c =
    IfOk-weaker c.part_carries.result (λ b. IsTrue b ↔ PartCarries c.in-Some.part.now c.args.value.now) (λ b. IsTrue b ↔ CarriesValue c.args.column.now c.args.component.now c.args.value.now)
    (λ b says. carries_part c.args.column.now c.args.component.now c.args.value.now c.in-Some.part.now b (sym (ap option_copied c.in-Some.is) ∙ c.in_ok-value_part.ensures.value) says)
    c.part_carries.ensures
