use Rattle.std.proofs.Common.{◌≡◌, [], ◌∷◌, ◌++◌, reverse, not, ◌||◌, sym, ap, ◌∙◌}
use Rattle.std.specs.List.{list_any}
use Rattle.std.specs.Str.{bytes_eq}
use Rattle.std.proofs.lemmas.Bool.{cond-true, cond-false}
use Rattle.std.proofs.lemmas.List.{append_assoc}
use Rattle.table_history.specs.declared.row.FileRow.{FileRow}
use Rattle.hudi_groups.specs.Files.{group_name}
use Rattle.hudi_groups.specs.GroupSets.{is_row_of_group, newest_rows}
use Rattle.hudi_groups.proofs.GroupSetLemmas.{has_group-insert, newest_step}
use Rattle.hudi_groups.proofs.groups.newest_rows.Goals as goal
use Rattle.lake_basics.proofs.Lists.{empty_of}

pub loop-row-preserved : goal.loop-row-preserved
loop-row-preserved c =
    let form = c.args.form.now in
    let row = c.in-Some.row in
    let inv = c.loop-row.invariant in
    let rest = inv.0 in
    let key = c.in_ok-group.group in
    let key_is : key ≡ group_name form row.path = c.in_ok-group.ensures ∙ c.group_name.ensures ∙ ap (group_name form) (c.as_bytes.ensures.value ∙ ap (λ (r : FileRow). r.path) c.row.view_is) in
    let added_is : c.in_ok-insert.field-0 ≡ not (list_any (is_row_of_group form (group_name form row.path)) rest) =
    c.in_ok-insert.ensures.added ∙ ap not (inv.3 key ∙ ap (λ q. list_any (is_row_of_group form q) rest) key_is) in (
      row ∷ rest,
      sym (append_assoc c.pop.new.self.items (row ∷ []) rest) ∙ ap (λ l. l ++ rest) (sym c.in-Some.ensures.items) ∙ inv.1,
      newest_step form row rest c.loop-row.newest.items c.loop-row.newest.items c.in_ok-insert.field-0 added_is inv.2 (sym (cond-false c.in_ok-insert.field-0 _ _ c.if-branch.false)),
      λ q. has_group-insert key c.loop-row.groups c.insert.new.self c.in_ok-insert.ensures.updates q ∙ (λ i. bytes_eq q (key_is i) || inv.3 q i),
    )

pub loop-row-preserved-in-Continue-branch-3 : goal.loop-row-preserved-in-Continue-branch-3
loop-row-preserved-in-Continue-branch-3 c =
    let form = c.args.form.now in
    let row = c.in-Some.row in
    let inv = c.loop-row.invariant in
    let rest = inv.0 in
    let key = c.in_ok-group.group in
    let key_is : key ≡ group_name form row.path = c.in_ok-group.ensures ∙ c.group_name.ensures ∙ ap (group_name form) (c.as_bytes.ensures.value ∙ ap (λ (r : FileRow). r.path) c.row.view_is) in
    let added_is : c.in_ok-insert.field-0 ≡ not (list_any (is_row_of_group form (group_name form row.path)) rest) =
    c.in_ok-insert.ensures.added ∙ ap not (inv.3 key ∙ ap (λ q. list_any (is_row_of_group form q) rest) key_is) in (
      row ∷ rest,
      sym (append_assoc c.pop.new.self.items (row ∷ []) rest) ∙ ap (λ l. l ++ rest) (sym c.in-Some.ensures.items) ∙ inv.1,
      newest_step form row rest c.loop-row.newest.items c.push.new.self.items c.in_ok-insert.field-0 added_is inv.2 (c.in_ok-push.ensures.items ∙ sym (cond-true c.in_ok-insert.field-0 _ _ c.if-branch.true)),
      λ q. has_group-insert key c.loop-row.groups c.insert.new.self c.in_ok-insert.ensures.updates q ∙ (λ i. bytes_eq q (key_is i) || inv.3 q i),
    )

pub returns : goal.returns
returns c =
    let form = c.args.form.now in
    let inv = c.loop-row.invariant in
    let none = rw c.in_default.is at c.pop.ensures.cases in
    let empty : c.loop-row.left.items ≡ [] = empty_of c.loop-row.left.items (sym c.loop-row.left.ok.0 ∙ none.0) in
    let all : inv.0 ≡ c.args.rows = ap (λ l. l ++ inv.0) (sym empty) ∙ inv.1 ∙ c.into_vec-left.ensures in
    record {
      rows = inv.2 ∙ ap (λ rows. reverse (newest_rows form rows)) all;
      groups = λ q. inv.3 q ∙ ap (list_any (is_row_of_group form q)) all;
    }
