use Rattle.std.specs.Borrow.{Bor}
use Rattle.std.proofs.Common.{ℕ, List, IsTrue, ◌↔◌, option_map, map, sym, ap, subst, ◌∙◌}
use Rattle.std.proofs.lemmas.Result.{IfOk-weaker}
use Rattle.partition_map.specs.Folder.{texts_of, EachCarries, CarriesValues}
use Rattle.partition_map.proofs.FolderLemmas.{now_of, carries_last}
use Rattle.partition_map.proofs.folder.path_carries.Goals as goal

pub returns-in-Some : goal.returns-in-Some
returns-in-Some c =
    IfOk-weaker c.each_carries.result
    (λ b. IsTrue b ↔ EachCarries c.args.columns.now (map now_of c.as_slice.result.now) c.args.values.now)
    (λ b. IsTrue b ↔ CarriesValues c.args.path.now c.args.columns.now c.args.values.now)
    (λ b says. carries_last c.args.path.now c.args.columns.now c.args.values.now (texts_of c.in-Some.components) b
    (sym (ap (option_map texts_of) c.in-Some.is) ∙ c.in_ok-last_components.ensures.value)
    (subst (λ (l : List (Bor (List ℕ))). IsTrue b ↔ EachCarries c.args.columns.now (map now_of l) c.args.values.now) c.as_slice.ensures.value says))
    c.each_carries.ensures
