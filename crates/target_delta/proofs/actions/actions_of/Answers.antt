use Rattle.std.proofs.Common.{◌≡◌, Bor, List, ℕ, ◌++◌, All, Contains, map, sym, ap, subst, ◌∙◌}
use Rattle.std.specs.Prelude.{◌↔◌}
use Rattle.std.proofs.lemmas.List.Elements.{All-append}
use Rattle.table_history.specs.Row.{Row}
use Rattle.table_history.specs.Rows.{HasPath, SameRows}
use Rattle.delta_log.specs.Sound.{IsSoundFile}
use Rattle.delta_log.specs.declared.commit.FileAction.{FileAction}
use Rattle.delta_log.specs.declared.commit.FileAction.TheVariants as file
use Rattle.target_delta.specs.Writing.{AreAdds}
use Rattle.target_delta.proofs.ActionLemmas.{actions_are, removes_sound, rows_now}
use Rattle.target_delta.proofs.actions.actions_of.Goals as goal

same_too : (given added : List Row) (rows items : List (Bor Row)) → given ≡ added → rows ≡ items → SameRows given (rows_now items) → SameRows added (rows_now rows)
same_too given added rows items is there h = subst (λ (l : List Row). SameRows l (rows_now rows)) is (subst (λ (l : List (Bor Row)). SameRows given (rows_now l)) (sym there) h)

lost_too : (lost removed paths : List (List ℕ)) (rows : List Row) → removed ≡ paths → ((path : List ℕ) → Contains lost path ↔ (Contains removed path × (HasPath rows path → ⊥))) → (path : List ℕ) → Contains lost path ↔ (Contains paths path × (HasPath rows path → ⊥))
lost_too lost removed paths rows is h = subst (λ (l : List (List ℕ)). (path : List ℕ) → Contains lost path ↔ (Contains l path × (HasPath rows path → ⊥))) is h

pub adds_of-requires : goal.adds_of-requires
adds_of-requires c = λ row there.
    let same = same_too c.as_slice-2.result.now c.args.change.now.added c.as_slice-3.result.now c.in_ok-rows.rows.items c.as_slice-2.ensures c.as_slice-3.ensures.value c.in_ok-rows.ensures.rows in
    c.requires.fit row ((same row).1 there)

pub returns-clause-actions : goal.returns-clause-actions
returns-clause-actions c =
    let partition = c.args.partition.now in
    let change = c.args.change.now in
    let rows = c.in_ok-rows.rows.items in
    let adds = c.in_ok-adds.adds.items in
    let same = same_too c.as_slice-2.result.now change.added rows rows c.as_slice-2.ensures (λ i. rows) c.in_ok-rows.ensures.rows in
    let lost = lost_too c.in_ok-lost.lost.items c.as_slice.result.now change.removed c.args.after.now c.as_slice.ensures c.in_ok-lost.ensures.paths in
    let added = subst (λ (l : List (Bor Row)). AreAdds partition (rows_now l) adds) c.as_slice-3.ensures.value c.in_ok-adds.ensures.adds in
    actions_are partition change c.args.after.now (rows_now rows) c.in_ok-lost.lost.items adds c.from_vec.result
    c.requires.leaves c.requires.loses lost c.in_ok-lost.ensures.order same c.in_ok-rows.ensures.order added
    (c.from_vec.ensures ∙ c.in_ok-append.ensures.items ∙ ap (λ (l : List FileAction). l ++ adds) c.in_ok-files.ensures)

pub returns-clause-sound : goal.returns-clause-sound
returns-clause-sound c = λ removed rows distinct.
    let change = c.args.change.now in
    let lost = c.in_ok-lost.lost.items in
    let adds = c.in_ok-adds.adds.items in
    let same = same_too c.as_slice-2.result.now change.added c.as_slice-3.result.now c.in_ok-rows.rows.items c.as_slice-2.ensures c.as_slice-3.ensures.value c.in_ok-rows.ensures.rows in
    let gone = lost_too lost c.as_slice.result.now change.removed c.args.after.now c.as_slice.ensures c.in_ok-lost.ensures.paths in
    subst (λ (l : List FileAction). All IsSoundFile l) (sym (c.from_vec.ensures ∙ c.in_ok-append.ensures.items ∙ ap (λ (l : List FileAction). l ++ adds) c.in_ok-files.ensures))
    (All-append IsSoundFile (map file.Remove lost) adds (removes_sound lost (λ path there. removed path ((gone path).0 there).0))
    (c.in_ok-adds.ensures.sound (λ row there. rows row (c.requires.leaves row ((same row).1 there))) distinct))
