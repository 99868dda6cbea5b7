use Rattle.std.proofs.Common.{◌≡◌, ◌∙◌, ℕ, List, None, Option, ap, subst, sym}
use Rattle.std.proofs.lemmas.Option.{none-some}
use Rattle.table_history.specs.Tables.{IsAfter, empty_table}
use Rattle.table_history.specs.declared.table.Table.{Table}
use Rattle.delta_change.specs.TableBehind.{partition_behind, table_before}
use Rattle.delta_log.specs.declared.commit.MetaData.{MetaData}
use Rattle.delta_table.proofs.LogLaws.{step_made}
use Rattle.delta_table.proofs.log.first_log.Goals as goal

pub returns-clause-taken : goal.returns-clause-taken
returns-clause-taken c =
    let change = c.in_ok-change.change in
    let before : c.in_ok-table.table ≡ table_before c.args.commit None =
    c.in_ok-table.ensures ∙ ap (λ (p : List (List ℕ)). empty_table p) c.as_slice.ensures ∙ ap (λ (m : Option MetaData). empty_table (partition_behind m None)) (sym c.in-Some.is) in (
      step_made c.args.commit None change c.apply.new.self c.in_ok-change.ensures.grammar c.in_ok-change.ensures.supported c.in_ok-change.ensures.found
          (subst (λ (t : Table). IsAfter t change c.apply.new.self) before c.in_ok-apply.ensures.ok),
      c.in_ok-change.ensures.follows,
    )

pub returns-clause-sound : goal.returns-clause-sound
returns-clause-sound c =
    let change = c.in_ok-change.change in
    let before : c.in_ok-table.table ≡ table_before c.args.commit None =
    c.in_ok-table.ensures ∙ ap (λ (p : List (List ℕ)). empty_table p) c.as_slice.ensures ∙ ap (λ (m : Option MetaData). empty_table (partition_behind m None)) (sym c.in-Some.is) in
    c.in_ok-change.ensures.goes_on.leaves (λ t is. absurd (none-some t is)) _ (subst (λ (t : Table). IsAfter t change c.apply.new.self) before c.in_ok-apply.ensures.ok)
