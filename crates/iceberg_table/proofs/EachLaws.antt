-- What is found of each item of a list, item by item.
use Rattle.std.proofs.Common.{◌≡◌, List, [], ◌∷◌, ◌++◌, Contains, length, refl, sym, ap, subst, ◌∙◌, ⊎_elim, append_assoc, append-nil, arith}
use Rattle.std.proofs.lemmas.Grind.{flat_map-append}
use Rattle.std.proofs.lemmas.List.Elements.{Contains-append_cases, Contains-append_right}
use Rattle.table_history.proofs.RowListLemmas.{Contains-cases, Contains-head, Contains-none, Contains-tail}
use Rattle.table_history.specs.declared.row.FileRow.{FileRow}
use Rattle.iceberg_manifest.specs.ListWriting.{HasContent}
use Rattle.iceberg_manifest.specs.Lists.{AreEach}
use Rattle.iceberg_live.specs.declared.live.LiveRow.{LiveRow}
use Rattle.iceberg_manifest.specs.declared.partition.PartColumn.{PartColumn}
use Rattle.iceberg_table.specs.Kinds.{FitLive, FitRows, FitsColumns}
use Rattle.iceberg_table.specs.Tables.{AreOfContents, TakeNoDeletes, TakesNoDeletes, rows_in, rows_of}
use Rattle.iceberg_table.specs.declared.manifest.Manifest.{Manifest}

pub each_push : {A B : Type 0} (P : A → B → Type 0) (xs : List A) (ys : List B) (x : A) (y : B) → AreEach P xs ys → P x y → AreEach P (xs ++ x ∷ []) (ys ++ y ∷ [])
each_push P [] [] x y are one = (one, tt)
each_push P [] (z ∷ ys) x y are one = absurd are
each_push P (w ∷ xs) [] x y are one = absurd are
each_push P (w ∷ xs) (z ∷ ys) x y are one = (are.0, each_push P xs ys x y are.1 one)

-- where there is one for each, each item has its own
pub each_of : {A B : Type 0} (P : A → B → Type 0) (xs : List A) (ys : List B) (x : A) → AreEach P xs ys → Contains xs x → (y : B) × Contains ys y × P x y
each_of P [] ys x are there = absurd (Contains-none x there)
each_of P (w ∷ xs) [] x are there = absurd are
each_of P (w ∷ xs) (z ∷ ys) x are there =
    ⊎_elim
    (λ same. (z, Contains-head z ys, subst (λ v. P v z) same are.0))
    (λ later. let rest = each_of P xs ys x are.1 later in (rest.0, Contains-tail z ys rest.0 rest.1, rest.2))
    (Contains-cases w xs x there)

pub each_back : {A B : Type 0} (P : A → B → Type 0) (xs : List A) (ys : List B) (y : B) → AreEach P xs ys → Contains ys y → (x : A) × Contains xs x × P x y
each_back P xs [] y are there = absurd (Contains-none y there)
each_back P [] (z ∷ ys) y are there = absurd are
each_back P (w ∷ xs) (z ∷ ys) y are there =
    ⊎_elim
    (λ same. (w, Contains-head w xs, subst (λ v. P w v) same are.0))
    (λ later. let rest = each_back P xs ys y are.1 later in (rest.0, Contains-tail w xs rest.0 rest.1, rest.2))
    (Contains-cases z ys y there)

-- items one by one are one list at most, where each has one at most
pub each_once : {A B : Type 0} (P : A → B → Type 0) (xs : List A) (ys zs : List B) → ((x : A) (y z : B) → P x y → P x z → y ≡ z) → AreEach P xs ys → AreEach P xs zs → ys ≡ zs
each_once P [] [] [] once a b = refl
each_once P [] [] (z ∷ zs) once a b = absurd b
each_once P [] (y ∷ ys) zs once a b = absurd a
each_once P (x ∷ xs) [] zs once a b = absurd a
each_once P (x ∷ xs) (y ∷ ys) [] once a b = absurd b
each_once P (x ∷ xs) (y ∷ ys) (z ∷ zs) once a b =
    let one = once x y z a.0 b.0 in
    let more = each_once P xs ys zs once a.1 b.1 in
    ap (λ w. w ∷ ys) one ∙ ap (λ l. z ∷ l) more

-- ---- manifests

in_rows : (columns : List PartColumn) (rows : List LiveRow) → FitLive columns rows → FitRows columns (rows_in rows)
in_rows columns [] fit row there = absurd (Contains-none row there)
in_rows columns (l ∷ rows) fit row there =
    ⊎_elim
    (λ same. subst (FitsColumns columns) same (fit l (Contains-head l rows)))
    (λ later. in_rows columns rows (λ live h. fit live (Contains-tail l rows live h)) row later)
    (Contains-cases l.row (rows_in rows) row there)

-- the rows of one manifest more
pub rows_more : (rs : List Manifest) (r : Manifest) → rows_of (rs ++ r ∷ []) ≡ rows_of rs ++ rows_in r.rows
rows_more rs r = flat_map-append (λ (m : Manifest). rows_in m.rows) rs (r ∷ []) ∙ ap (λ l. rows_of rs ++ l) (append-nil (rows_in r.rows))

pub fit_push : (columns : List PartColumn) (rs : List Manifest) (r : Manifest) → FitRows columns (rows_of rs) → FitLive columns r.rows → FitRows columns (rows_of (rs ++ r ∷ []))
fit_push columns rs r before here row there =
    ⊎_elim (λ was. before row was) (λ new. in_rows columns r.rows here row new) (Contains-append_cases (rows_of rs) (rows_in r.rows) row (subst (λ (l : List FileRow). Contains l row) (rows_more rs r) there))

pub no_deletes_push : (rs : List Manifest) (r : Manifest) → TakeNoDeletes rs → TakesNoDeletes r → TakeNoDeletes (rs ++ r ∷ [])
no_deletes_push rs r before here m there =
    ⊎_elim (λ was. before m was)
    (λ new. ⊎_elim (λ same. subst TakesNoDeletes same here) (λ none. absurd (Contains-none m none)) (Contains-cases r [] m new))
    (Contains-append_cases rs (r ∷ []) m there)

pub contents_push : (rs : List Manifest) (r : Manifest) → AreOfContents rs → HasContent r.file.info → AreOfContents (rs ++ r ∷ [])
contents_push rs r before here m there =
    ⊎_elim (λ was. before m was)
    (λ new. ⊎_elim (λ same. subst (λ (n : Manifest). HasContent n.file.info) same here) (λ none. absurd (Contains-none m none)) (Contains-cases r [] m new))
    (Contains-append_cases rs (r ∷ []) m there)

-- ---- a list from its front

-- what is left of a list is nothing
pub left_none : {A : Type 0} (xs front rest : List A) → xs ≡ front ++ rest → length rest ≡ 0 → xs ≡ front
left_none xs front [] split none = split ∙ append-nil front
left_none xs front (x ∷ rest) split none = absurd (omega (arith, none))

pub left_next : {A : Type 0} (xs front rest more : List A) (x : A) → xs ≡ front ++ rest → rest ≡ x ∷ more → xs ≡ front ++ x ∷ more
left_next xs front rest more x split next = split ∙ ap (λ l. front ++ l) next

pub left_moved : {A : Type 0} (xs front more : List A) (x : A) → xs ≡ front ++ x ∷ more → xs ≡ (front ++ x ∷ []) ++ more
left_moved xs front more x split = split ∙ sym (append_assoc front (x ∷ []) more)

pub in_list : {A : Type 0} (xs front more : List A) (x : A) → xs ≡ front ++ x ∷ more → Contains xs x
in_list xs front more x split = subst (λ l. Contains l x) (sym split) (Contains-append_right front (x ∷ more) x (Contains-head x more))
