-- When folders stand twice, or lie in one another.
use Rattle.std.proofs.Common.{◌≡◌, ℕ, zero, suc, ◌+◌, ◌<◌, Bool, true, false, List, [], ◌∷◌, ◌++◌, length, get_or, take, drop, map, refl, sym, ◌∙◌, ap, subst, arith, ◌≤◌, ◌⊎◌, ⊎_elim}
use Rattle.std.specs.Prelude.{All, Contains, ◌↔◌}
use Rattle.std.specs.List.{IsDistinct, list_any}
use Rattle.std.specs.Str.{bytes_eq}
use Rattle.std.proofs.lemmas.List.Folds.{list_any_at}
use Rattle.std.proofs.lemmas.Slice.Eq.{bytes_eq-Decides}
use Rattle.lake_batch.specs.Batch.{AreApart, LiesInOne, folder_of}
use Rattle.lake_batch.specs.declared.batch.Item.{Item}
use Rattle.lake_basics.proofs.Texts.{contains_from_any}
use Rattle.lake_basics.proofs.Numbers.{less_or_at}

-- the folder of the table at a place
pub folder_within : (items : List Item) (i : ℕ) → i < length items → i < length (map folder_of items)
folder_within [] i within = absurd (omega arith)
folder_within (item ∷ items) zero within = omega arith
folder_within (item ∷ items) (suc i) within = let more = folder_within items i (omega arith) in omega (arith, more)

pub folder_at : (items : List Item) (i : ℕ) (item : Item) → i < length items → item ≡ get_or items i item → item.folder ≡ get_or (map folder_of items) i item.folder
folder_at [] i item within at = absurd (omega arith)
folder_at (first ∷ items) zero item within at = ap folder_of at
folder_at (first ∷ items) (suc i) item within at = folder_at items i item (omega arith) at

pub folder_length : (items : List Item) → length (map folder_of items) ≡ length items
folder_length [] = refl
folder_length (item ∷ items) = ap suc (folder_length items)

-- a folder is that of some table
pub of_table : (items : List Item) (folder : List ℕ) (i : ℕ) → i < length (map folder_of items) → (d : Item) → get_or (map folder_of items) i folder ≡ (get_or items i d).folder
of_table [] folder i within d = absurd (omega arith)
of_table (item ∷ items) folder zero within d = refl
of_table (item ∷ items) folder (suc i) within d = of_table items folder i (omega arith) d

pub any_from_contains : (x : List ℕ) (xs : List (List ℕ)) → Contains xs x → list_any (bytes_eq x) xs ≡ true
any_from_contains x xs within = list_any_at (bytes_eq x) xs within.0 x within.1 (ap (bytes_eq x) within.2 ∙ (bytes_eq-Decides x x).1 refl)

-- a path that has a slash at a place lies in what is before it
split_at : (path : List ℕ) (i : ℕ) → i < length path → get_or path i 0 ≡ 47 → path ≡ take i path ++ 47 ∷ drop (suc i) path
split_at [] i within slash = absurd (omega arith)
split_at (b ∷ path) zero within slash = ap (λ c. c ∷ path) slash
split_at (b ∷ path) (suc i) within slash = ap (λ l. b ∷ l) (split_at path i (omega arith) slash)

pub lies_here : (folders : List (List ℕ)) (path : List ℕ) (i : ℕ) → i < length path → get_or path i 0 ≡ 47 → list_any (bytes_eq (take i path)) folders ≡ true → LiesInOne folders path
lies_here folders path i within slash any = (take i path, contains_from_any (take i path) folders any, (drop (suc i) path, split_at path i within slash))

-- no slash has one of the folders before it
abbrev pub NoneBefore : List (List ℕ) → List ℕ → ℕ → Type 0
NoneBefore folders path i = (j : ℕ) → j < i → get_or path j 0 ≡ 47 → list_any (bytes_eq (take j path)) folders ≡ true → ⊥

pub none_more : (folders : List (List ℕ)) (path : List ℕ) (i : ℕ) → NoneBefore folders path i → (get_or path i 0 ≡ 47 → list_any (bytes_eq (take i path)) folders ≡ true → ⊥) → NoneBefore folders path (i + 1)
none_more folders path i before here j within slash any = ⊎_elim
    (λ (less : j < i). before j less slash any)
    (λ (same : j ≡ i). here (ap (λ k. get_or path k 0) (sym same) ∙ slash) (ap (λ k. list_any (bytes_eq (take k path)) folders) (sym same) ∙ any))
    (less_or_at j i within)

slash_behind : (folder rest : List ℕ) → get_or (folder ++ 47 ∷ rest) (length folder) 0 ≡ 47
slash_behind [] rest = refl
slash_behind (b ∷ folder) rest = slash_behind folder rest

front_is : (folder rest : List ℕ) → take (length folder) (folder ++ 47 ∷ rest) ≡ folder
front_is [] rest = refl
front_is (b ∷ folder) rest = ap (λ l. b ∷ l) (front_is folder rest)

shorter : (folder rest : List ℕ) → length folder < length (folder ++ 47 ∷ rest)
shorter [] rest = omega arith
shorter (b ∷ folder) rest = let more = shorter folder rest in omega (arith, more)

pub lies_in_none : (folders : List (List ℕ)) (path : List ℕ) → NoneBefore folders path (length path) → LiesInOne folders path → ⊥
lies_in_none folders path none lies =
    let folder = lies.0 in
    let rest = lies.2.0 in
    let is : path ≡ folder ++ 47 ∷ rest = lies.2.1 in
    none (length folder) (subst (λ (p : List ℕ). length folder < length p) (sym is) (shorter folder rest))
    (ap (λ (p : List ℕ). get_or p (length folder) 0) is ∙ slash_behind folder rest)
    (ap (λ (p : List ℕ). list_any (bytes_eq (take (length folder) p)) folders) is ∙ ap (λ (f : List ℕ). list_any (bytes_eq f) folders) (front_is folder rest) ∙ any_from_contains folder folders lies.1)

pub none_at_end : (folders : List (List ℕ)) (path : List ℕ) (i : ℕ) → length path ≤ i → NoneBefore folders path i → NoneBefore folders path (length path)
none_at_end folders path i end before j within slash any = before j (omega (arith, end, within)) slash any

-- ---- loops over tables

-- so far it holds of each
abbrev pub SoFar : (Item → Type 0) → List Item → ℕ → Type 0
SoFar P items i = (k : ℕ) (d : Item) → k < i → P (get_or items k d)

same_at : (items : List Item) (i : ℕ) (c d : Item) → i < length items → get_or items i c ≡ get_or items i d
same_at [] i c d within = absurd (omega arith)
same_at (item ∷ items) zero c d within = refl
same_at (item ∷ items) (suc i) c d within = same_at items i c d (omega arith)

pub so_far_more : (P : Item → Type 0) (items : List Item) (i : ℕ) (item : Item) → i < length items → item ≡ get_or items i item → SoFar P items i → P item → SoFar P items (i + 1)
so_far_more P items i item within at before here k d less = ⊎_elim
    (λ (earlier : k < i). before k d earlier)
    (λ (same : k ≡ i). subst P (at ∙ same_at items i item d within ∙ ap (λ n. get_or items n d) (sym same)) here)
    (less_or_at k i less)

pub so_far_all : (P : Item → Type 0) (items : List Item) (i : ℕ) → length items ≤ i → SoFar P items i → All P items
so_far_all P items i end before k d within = before k d (omega (arith, end, within))

-- of the tables' folders none lies in one
pub none_of_folders : (P : List ℕ → Type 0) (items : List Item) → All (λ item. ¬ P item.folder) items → (folder : List ℕ) → Contains (map folder_of items) folder → P folder → ⊥
none_of_folders P [] none folder within lies = let less = within.1 in absurd (omega arith)
none_of_folders P (item ∷ items) none folder within lies =
    none within.0 item (subst (λ n. within.0 < n) (folder_length (item ∷ items)) within.1)
    (subst P (sym within.2 ∙ of_table (item ∷ items) folder within.0 within.1 item) lies)

pub contains_folder : (items : List Item) (i : ℕ) (item : Item) → i < length items → item ≡ get_or items i item → Contains (map folder_of items) item.folder
contains_folder items i item within at = (i, folder_within items i within, sym (folder_at items i item within at))

-- where no folder stands twice, they lie apart just where no table's folder lies in one of them
pub apart_by : (items : List Item) (keys : List (List ℕ)) (r : Bool) → IsDistinct bytes_eq (map folder_of items) → keys ≡ map folder_of items → ((r ≡ true) ↔ All (λ item. ¬ LiesInOne keys item.folder) items) → (r ≡ true) ↔ AreApart (map folder_of items)
apart_by items keys r distinct same beside = (
  (λ t. record {
    distinct = distinct;
    outside = none_of_folders (LiesInOne (map folder_of items)) items (subst (λ (ks : List (List ℕ)). All (λ (item : Item). ¬ LiesInOne ks item.folder) items) same (beside.0 t));
  }),
  (λ apart. beside.1 (λ k d within lies. apart.outside (get_or items k d).folder
      (contains_folder items k (get_or items k d) within (same_at items k d (get_or items k d) within))
      (subst (λ (ks : List (List ℕ)). LiesInOne ks (get_or items k d).folder) same lies))),
)

-- where one stands twice, they don't
pub not_apart : (items : List Item) → (IsDistinct bytes_eq (map folder_of items) → ⊥) → (false ≡ true) ↔ AreApart (map folder_of items)
not_apart items twice = ((λ t. absurd (cc t)), (λ apart. absurd (twice apart.distinct)))
