-- The newest row of each file group.
use Rattle.std.proofs.Common.{◌≡◌, Bool, false, List, [], ◌∷◌, ◌++◌, Contains, sym, ap, subst, ◌∙◌, ⊎_elim}
use Rattle.std.specs.List.{list_any}
use Rattle.std.proofs.lemmas.Bool.{cases_Bool, cond-true, cond-false, false≢true}
use Rattle.std.proofs.lemmas.List.Elements.{Contains-append_right}
use Rattle.table_history.specs.declared.row.FileRow.{FileRow}
use Rattle.table_history.proofs.RowListLemmas.{Contains-none, Contains-head, Contains-tail, Contains-cases}
use Rattle.hudi_groups.specs.declared.form.Form.{Form}
use Rattle.hudi_groups.specs.Files.{group_name}
use Rattle.hudi_groups.specs.GroupSets.{is_row_of_group, newest_rows, IsNewestOfGroup}
use Rattle.hudi_groups.proofs.AnyLemmas.{any_from, any_none}
use Rattle.hudi_groups.proofs.GroupSetLemmas.{row_in_group, group_has_row}

pub newest_from : (form : Form) (rows : List FileRow) (row : FileRow) → Contains (newest_rows form rows) row → IsNewestOfGroup form rows row
newest_from form [] row h = absurd (Contains-none row h)
newest_from form (r ∷ rs) row h =
    let more : Bool = list_any (is_row_of_group form (group_name form r.path)) rs in
    let behind : Contains (newest_rows form rs) row → IsNewestOfGroup form (r ∷ rs) row = λ later.
    let rest = newest_from form rs row later in
    record { before = r ∷ rest.before; after = rest.after; split = ap (λ l. r ∷ l) rest.split; last = rest.last } in
    ⊎_elim
    (λ yes. behind (subst (λ l. Contains l row) (cond-true more (newest_rows form rs) (r ∷ newest_rows form rs) yes) h))
    (λ no. ⊎_elim
    (λ e. record {
      before = [];
      after = rs;
      split = ap (λ w. w ∷ rs) e;
      last = λ later there same. false≢true (sym no ∙ any_from (is_row_of_group form (group_name form r.path)) rs later there (group_has_row form (group_name form r.path) later (ap (λ w. group_name form w.path) e ∙ same)));
    })
    behind
    (Contains-cases r (newest_rows form rs) row (subst (λ l. Contains l row) (cond-false more (newest_rows form rs) (r ∷ newest_rows form rs) no) h)))
    (cases_Bool more)

newest_at : (form : Form) (before after : List FileRow) (row : FileRow) → ((later : FileRow) → Contains after later → group_name form row.path ≡ group_name form later.path → ⊥)
    → Contains (newest_rows form (before ++ row ∷ after)) row
newest_at form [] after row last =
    let no : list_any (is_row_of_group form (group_name form row.path)) after ≡ false =
    any_none (is_row_of_group form (group_name form row.path)) after (λ later there t. last later there (row_in_group form (group_name form row.path) later t)) in
    subst (λ l. Contains l row) (sym (cond-false (list_any (is_row_of_group form (group_name form row.path)) after) (newest_rows form after) (row ∷ newest_rows form after) no)) (Contains-head row (newest_rows form after))
newest_at form (b ∷ bs) after row last =
    let rows = bs ++ row ∷ after in
    let rest : Contains (newest_rows form rows) row = newest_at form bs after row last in
    ⊎_elim
    (λ yes. subst (λ l. Contains l row) (sym (cond-true (list_any (is_row_of_group form (group_name form b.path)) rows) (newest_rows form rows) (b ∷ newest_rows form rows) yes)) rest)
    (λ no. subst (λ l. Contains l row) (sym (cond-false (list_any (is_row_of_group form (group_name form b.path)) rows) (newest_rows form rows) (b ∷ newest_rows form rows) no)) (Contains-tail b (newest_rows form rows) row rest))
    (cases_Bool (list_any (is_row_of_group form (group_name form b.path)) rows))

pub newest_to : (form : Form) (rows : List FileRow) (row : FileRow) → IsNewestOfGroup form rows row → Contains (newest_rows form rows) row
newest_to form rows row n = subst (λ l. Contains (newest_rows form l) row) (sym n.split) (newest_at form n.before n.after row n.last)

pub newest_there : (form : Form) (rows : List FileRow) (row : FileRow) → Contains (newest_rows form rows) row → Contains rows row
newest_there form rows row h =
    let n = newest_from form rows row h in
    subst (λ l. Contains l row) (sym n.split) (Contains-append_right n.before (row ∷ n.after) row (Contains-head row n.after))
