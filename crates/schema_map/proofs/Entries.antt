-- A loop that writes columns: what it has written, before what it writes of the rest.
use Rattle.std.proofs.Common.{◌≡◌, List, [], ◌∷◌, ◌++◌, ap, append_assoc}
use Rattle.std.proofs.lemmas.List.{append-nil}
use Rattle.serde_json.specs.Data.{Data}

module _ {X : Type 0} where
  abbrev pub written_before : List Data → List Data × X → List Data × X
  written_before front rest = (front ++ rest.0, rest.1)

  pub written_before-push : (front : List Data) (d : Data) (ds : List Data) (left : X) → written_before (front ++ d ∷ []) (ds, left) ≡ written_before front (d ∷ ds, left)
  written_before-push front d ds left = ap (λ es. (es, left)) (append_assoc front (d ∷ []) ds)

  pub written_before-end : (front : List Data) (left : X) → written_before front ([], left) ≡ (front, left)
  written_before-end front left = ap (λ es. (es, left)) (append-nil front)
