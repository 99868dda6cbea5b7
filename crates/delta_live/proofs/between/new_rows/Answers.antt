use Rattle.std.proofs.Common.{◌≡◌, ◌∷◌, [], ◌++◌, sym, ap, ◌∙◌}
use Rattle.std.proofs.lemmas.List.{append_assoc}
use Rattle.delta_live.proofs.BehindLemmas.{fresh_one, all_looked, fresh_rows, fresh_distinct}
use Rattle.delta_live.proofs.between.new_rows.Goals as goal

pub loop-row-preserved : goal.loop-row-preserved
loop-row-preserved c =
    let before = c.args.before.now in
    let row = c.in-Some.row in
    let inv = c.loop-row.invariant in (
      row ∷ inv.0,
      sym (append_assoc c.pop.new.self.items (row ∷ []) inv.0) ∙ ap (λ l. l ++ inv.0) (sym c.in-Some.ensures.items) ∙ inv.1,
      fresh_one before inv.0 c.loop-row.new.rows.items c.in_ok-new.new.rows.items row c.in_ok-new.ensures.rows inv.2,
      c.in_ok-new.ensures.replaced inv.3,
    )

pub returns-clause-rows : goal.returns-clause-rows
returns-clause-rows c =
    let inv = c.loop-row.invariant in
    let none = rw c.in_default.is at c.pop.ensures.cases in
    let all : inv.0 ≡ c.args.rows.items = all_looked c.loop-row.rows.items inv.0 c.args.rows.items (sym c.loop-row.rows.ok.0 ∙ none.0) inv.1 in
    fresh_rows c.args.before.now c.args.rows.items c.loop-row.new.rows.items (rw (sym all) inv.2)

pub returns-clause-distinct : goal.returns-clause-distinct
returns-clause-distinct c =
    let inv = c.loop-row.invariant in
    let none = rw c.in_default.is at c.pop.ensures.cases in
    let all : inv.0 ≡ c.args.rows.items = all_looked c.loop-row.rows.items inv.0 c.args.rows.items (sym c.loop-row.rows.ok.0 ∙ none.0) inv.1 in
    fresh_distinct c.args.before.now c.args.rows.items c.loop-row.new.rows.items c.requires (rw (sym all) inv.2)
