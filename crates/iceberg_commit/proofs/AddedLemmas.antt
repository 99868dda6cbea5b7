-- The rows of parts are the parts of the rows.
use Rattle.std.proofs.Common.{◌≡◌, ◌≢◌, ℕ, Bor, List, [], ◌∷◌, drop, length, map, refl, sym, ap, subst, ◌∙◌, arith}
use Rattle.std.proofs.lemmas.List.{drop-map, take-map}
use Rattle.lake_basics.specs.declared.limits.TheConstants.{MAX_MANIFEST_ENTRIES}
use Rattle.table_history.specs.Row.{Row}
use Rattle.iceberg_version.specs.Carrying.{parts_at}
use Rattle.iceberg_version.specs.Manifests.{AreParts}

map_twice : {X Y Z : Type 0} (g : Y → Z) (f : X → Y) (xs : List X) → map g (map f xs) ≡ map (λ x. g (f x)) xs
map_twice g f [] = refl
map_twice g f (x ∷ xs) = ap (λ rest. g (f x) ∷ rest) (map_twice g f xs)

map_some : {X Y : Type 0} (f : X → Y) (xs : List X) → xs ≢ [] → map f xs ≢ []
map_some f [] some = λ none. some refl
map_some f (x ∷ xs) some = λ none. let e = ap length none in absurd (omega arith)

parts_map : {X Y : Type 0} (f : X → Y) (size : ℕ) (xs : List X) (parts : List (List X)) → AreParts size xs parts → AreParts size (map f xs) (map (map f) parts)
parts_map {Y = Y} f size xs [] none = ap (map f) none
parts_map {Y = Y} f size xs (part ∷ parts) cut = (map_some f xs cut.0, ap (map f) cut.1 ∙ sym (take-map f size xs), subst (λ (ys : List Y). AreParts size ys (map (map f) parts)) (sym (drop-map f size xs)) (parts_map f size (drop size xs) parts cut.2))

-- the rows of parts are the parts of the rows
pub rows_cut : (rows : List (Bor Row)) (parts : List (Bor (List (Bor Row)))) → AreParts MAX_MANIFEST_ENTRIES rows (map (λ p. p.now) parts) → AreParts MAX_MANIFEST_ENTRIES (map (λ r. r.now) rows) (parts_at parts)
rows_cut rows parts cut =
    let now : Bor Row → Row = λ r. r.now in
    let of : Bor (List (Bor Row)) → List (Bor Row) = λ p. p.now in
    subst (λ (ps : List (List Row)). AreParts MAX_MANIFEST_ENTRIES (map now rows) ps) (map_twice (map now) of parts) (parts_map now MAX_MANIFEST_ENTRIES rows (map of parts) cut)
