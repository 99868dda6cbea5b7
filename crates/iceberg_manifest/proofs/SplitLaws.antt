-- A list that is cut at an item, where there is one of each item.
use Rattle.std.proofs.Common.{◌≡◌, List, [], ◌∷◌, ◌++◌, refl, ap}
use Rattle.iceberg_manifest.specs.Lists.{AreEach}

-- what is found of a front of a list, and of the item behind it
pub record Split {A B : Type 0} (P : A → B → Type 0) (front : List A) (item : A) (ys : List B) : Type 0 where
  pub found : List B
  pub one : B
  pub rest : List B
  pub is : ys ≡ found ++ one ∷ rest
  pub are : AreEach P front found
  pub here : P item one

pub split_each : {A B : Type 0} (P : A → B → Type 0) (front : List A) (item : A) (behind : List A) (ys : List B) → AreEach P (front ++ item ∷ behind) ys → Split P front item ys
split_each P [] item behind [] are = absurd are
split_each P [] item behind (y ∷ ys) are = record { found = []; one = y; rest = ys; is = refl; are = tt; here = are.0 }
split_each P (x ∷ front) item behind [] are = absurd are
split_each {A} {B} P (x ∷ front) item behind (y ∷ ys) are =
    let s = split_each P front item behind ys are.1 in
    record { found = y ∷ s.found; one = s.one; rest = s.rest; is = ap (λ (l : List B). y ∷ l) s.is; are = (are.0, s.are); here = s.here }
