use Rattle.std.proofs.Common.{◌≡◌, ◌+◌, [], ◌∷◌, ◌++◌, Bool, true, false, not, Some, cond, map, filter, take, slice_get, refl, sym, ap, ◌∙◌, subst, arith}
use Rattle.std.proofs.lemmas.List.{map-append, append-nil, take_all}
use Rattle.std.specs.Borrow.{Bor}
use Rattle.std.specs.Option.{option_copied}
use Rattle.table_history.specs.declared.row.FileRow.{FileRow}
use Rattle.table_history.specs.Rows.{HasDistinctPaths}
use Rattle.table_history.proofs.RowListLemmas.{lacks, lacks-answer, filter_step, Contains-lacking, distinct_filter}
use Rattle.table_history.proofs.rows.FileRows.unsorted_missing_from.Goals as goal
use Rattle.table_history.proofs.rows.FileRows.unsorted_missing_from.Goals.{Joined-not-contains, After-loop-place, then-not-contains+in_ok-push, else-not-contains}

step : (c : Joined-not-contains) (b : Bool) → c.contains.result ≡ not b → filter (lacks c.args.other.now) (take (c.loop-place.place + 1) c.args.self.now)
    ≡ filter (lacks c.args.other.now) (take c.loop-place.place c.args.self.now) ++ cond b (c.unwrap-row.result.now ∷ []) []
step c b is =
    let row = c.unwrap-row.result.now in
    let here : slice_get c.args.self.now c.loop-place.place ≡ Some row = sym c.at.ensures ∙ ap option_copied c.unwrap-row.ensures in
    filter_step (lacks c.args.other.now) c.args.self.now c.loop-place.place row b (omega arith) here (lacks-answer c.args.other.now row c.contains.result c.contains.ensures ∙ ap not is ∙ twice b)
  where
    twice : (b : Bool) → not (not b) ≡ b
    twice true = refl
    twice false = refl

pub loop-place-preserved : goal.loop-place-preserved
loop-place-preserved c =
    elim c.if-not-contains.branch [
      | then-not-contains+in_ok-push w ↦ ap (λ v. map (λ (r : Bor FileRow). r.now) v.items) w.missing-is ∙ ap (map (λ (r : Bor FileRow). r.now)) w.in_ok-push.ensures.items
          ∙ map-append (λ r. r.now) c.loop-place.missing.items (c.unwrap-row.result ∷ [])
          ∙ ap (λ l. l ++ c.unwrap-row.result.now ∷ []) c.loop-place.invariant
          ∙ sym (step c true w.if-not-contains.true)
      | else-not-contains w ↦ ap (λ v. map (λ (r : Bor FileRow). r.now) v.items) w.missing-is
          ∙ c.loop-place.invariant
          ∙ sym (append-nil _)
          ∙ sym (step c false w.if-not-contains.false)
    ]

all : (c : After-loop-place) → map (λ r. r.now) c.loop-place.missing.items ≡ filter (lacks c.args.other.now) c.args.self.now
all c = c.loop-place.invariant ∙ ap (filter (lacks c.args.other.now)) (take_all c.loop-place.place c.args.self.now (omega arith))

pub returns-clause-rows : goal.returns-clause-rows
returns-clause-rows c = rw (all c) (Contains-lacking c.args.self.now c.args.other.now)

pub returns-clause-distinct : goal.returns-clause-distinct
returns-clause-distinct c = subst HasDistinctPaths (sym (all c)) (distinct_filter (lacks c.args.other.now) c.args.self.now c.len-place-end.ensures.distinct)
