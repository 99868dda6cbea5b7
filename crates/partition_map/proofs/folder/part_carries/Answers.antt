use Rattle.std.specs.Cow.{cow_str_bytes}
use Rattle.std.proofs.Common.{option_map, IsTrue, ◌↔◌, sym, ap, subst, ◌∙◌}
use Rattle.std.proofs.lemmas.Bool.{false≢true}
use Rattle.partition_map.specs.Stands.{StandsInFolder}
use Rattle.partition_map.proofs.FolderLemmas.{carries_no_text, carries_text}
use Rattle.partition_map.proofs.folder.part_carries.Goals as goal

pub returns-in-None : goal.returns-in-None
returns-in-None c = (
  λ f. absurd (false≢true f),
  λ h. absurd (carries_no_text c.args.part.now c.args.value.now (sym (ap (option_map cow_str_bytes) c.in-None.is) ∙ c.in_ok-unescape.ensures) h),
)

pub returns-in-Some : goal.returns-in-Some
returns-in-Some c =
    carries_text c.args.part.now c.args.value.now _ c.stands_in_folder.result (sym (ap (option_map cow_str_bytes) c.in-Some.is) ∙ c.in_ok-unescape.ensures)
    (subst (λ l. IsTrue c.stands_in_folder.result ↔ StandsInFolder l c.args.value.now) c.as_str.ensures.value c.stands_in_folder.ensures)
