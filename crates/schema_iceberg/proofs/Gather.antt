-- A loop that gathers columns and their ids: what it has, before what the rest gives.
use Rattle.std.proofs.Common.{◌≡◌, List, [], ◌∷◌, ◌++◌, Result, Ok, Err, refl, append_assoc}
use Rattle.std.proofs.lemmas.List.{append-nil}
use Rattle.std.specs.Prelude.{ℤ}
use Rattle.serde_json.specs.Data.{Data}
use Rattle.table_history.specs.TypeTree.{ColumnTree}
use Rattle.lake_basics.specs.Outcome.{◌>>=◌}
use Rattle.schema_iceberg.specs.Iceberg.{each_with_ids}

abbrev pub with_both : {E : Type 0} → List ColumnTree → List ℤ → Result (List ColumnTree × List ℤ) E → Result (List ColumnTree × List ℤ) E
with_both columns ids reading = do
  rest ← reading
  Ok (columns ++ rest.0, ids ++ rest.1)

pub with_both-none : {E : Type 0} (reading : Result (List ColumnTree × List ℤ) E) → with_both [] [] reading ≡ reading
with_both-none (Ok p) = refl
with_both-none (Err e) = refl

pub with_both-end : {E : Type 0} (columns : List ColumnTree) (ids : List ℤ) → with_both {E = E} columns ids (Ok ([], [])) ≡ Ok (columns, ids)
with_both-end columns ids = rw (append-nil columns, append-nil ids)

joined : {E : Type 0} (columns : List ColumnTree) (ids inner : List ℤ) (c : ColumnTree) (reading : Result (List ColumnTree × List ℤ) E) → with_both (columns ++ c ∷ []) (ids ++ inner) reading ≡ with_both columns ids (reading >>= λ others. Ok (c ∷ others.0, inner ++ others.1))
joined columns ids inner c (Ok p) = rw (append_assoc columns (c ∷ []) p.0, append_assoc ids inner p.1)
joined columns ids inner c (Err e) = refl

pub with_both-push : {E : Type 0} (f : Data → Result (ColumnTree × List ℤ) E) (columns : List ColumnTree) (ids inner : List ℤ) (d : Data) (ds : List Data) (c : ColumnTree) → f d ≡ Ok (c, inner) → with_both (columns ++ c ∷ []) (ids ++ inner) (each_with_ids f ds) ≡ with_both columns ids (each_with_ids f (d ∷ ds))
with_both-push f columns ids inner d ds c is = rw is (joined columns ids inner c (each_with_ids f ds))

pub with_both-stop : {E : Type 0} (f : Data → Result (ColumnTree × List ℤ) E) (columns : List ColumnTree) (ids : List ℤ) (d : Data) (ds : List Data) (e : E) → f d ≡ Err e → with_both columns ids (each_with_ids f (d ∷ ds)) ≡ Err e
with_both-stop f columns ids d ds e is = rw is
