use Rattle.std.proofs.Common.{◌≡◌, ◌≤◌, ◌<◌, ◌+◌, ◌∷◌, ◌++◌, [], List, length, drop, take, arith, ap, sym, subst, ◌∙◌}
use Rattle.std.proofs.lemmas.List.{drop_more, take_all, take_more}
use Rattle.iceberg_metadata.specs.declared.metadata.Snapshot.{Snapshot}
use Rattle.source_iceberg.specs.Later.{HasNone}
use Rattle.source_iceberg.proofs.LaterLaws.{first_place, none_pushed}
use Rattle.source_iceberg.proofs.later.place_of.Goals as goal

pub returns-then-branch : goal.returns-then-branch
returns-then-branch c =
    let xs = c.args.snapshots.now in
    let i = c.loop-place.place in
    let x = c.index-snapshots-place.result in
    let within : i < length xs = omega arith in
    let at : drop i xs ≡ x ∷ drop (i + 1) xs = drop_more xs i x within ∙ ap (λ (y : Snapshot). y ∷ drop (i + 1) xs) (sym c.index-snapshots-place.is) in
    first_place xs c.args.position.now i x at c.loop-place.invariant c.in_ok-is_at.ensures c.if-branch.true

pub loop-place-preserved : goal.loop-place-preserved
loop-place-preserved c =
    let xs = c.args.snapshots.now in
    let i = c.loop-place.place in
    let x = c.index-snapshots-place.result in
    let within : i < length xs = omega arith in
    let longer : take (i + 1) xs ≡ take i xs ++ x ∷ [] = take_more xs i x within ∙ ap (λ (y : Snapshot). take i xs ++ y ∷ []) (sym c.index-snapshots-place.is) in
    subst (λ (l : List Snapshot). HasNone l c.args.position.now) (sym longer) (none_pushed (take i xs) x c.args.position.now c.loop-place.invariant c.in_ok-is_at.ensures c.if-branch.false)

pub returns : goal.returns
returns c =
    let past : length c.args.snapshots.now ≤ c.loop-place.place = omega arith in
    subst (λ (l : List Snapshot). HasNone l c.args.position.now) (take_all c.loop-place.place c.args.snapshots.now past) c.loop-place.invariant
