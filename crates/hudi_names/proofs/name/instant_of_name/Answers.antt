use Rattle.std.proofs.Common.{sym, ◌∙◌}
use Rattle.hudi_names.proofs.NameLemmas.{named_exactly, none_exactly}
use Rattle.hudi_names.proofs.name.instant_of_name.Goals as goal

pub returns-clause-named : goal.returns-clause-named
returns-clause-named c = λ digits action state known.
    let exactly = named_exactly c.args.name.now digits action state known in
    let value = c.parts_of_name.ensures in
    (λ h. exactly.0 (sym value ∙ h), λ i. value ∙ exactly.1 i)

pub returns-clause-none : goal.returns-clause-none
returns-clause-none c =
    let exactly = none_exactly c.args.name.now in
    let value = c.parts_of_name.ensures in
    (λ h. exactly.0 (sym value ∙ h), λ none. value ∙ exactly.1 none)
