-- The manifests that are held, when one of them is taken out.
use Rattle.std.proofs.Common.{◌≡◌, ◌<◌, ◌+◌, ℕ, zero, suc, List, [], ◌∷◌, ◌++◌, Contains, Option, None, Some, get_or, length, map, slice_get, take, refl, sym, ap, subst, ◌∙◌, ⊎_elim, append_assoc}
use Rattle.std.specs.Prelude.{IfSome, slice_set}
use Rattle.std.specs.List.Sorted.{IsPermutation}
use Rattle.std.proofs.lemmas.List.{map-append, take_more}
use Rattle.std.proofs.lemmas.List.Sorted.{IsPermutation-append, IsPermutation-append_comm, IsPermutation-refl, IsPermutation-trans}
use Rattle.std.proofs.lemmas.Option.{same_Some}
use Rattle.table_history.specs.declared.row.FileRow.{FileRow}
use Rattle.table_history.proofs.RowListLemmas.{Contains-cases, Contains-head, Contains-none, Contains-tail}
use Rattle.iceberg_table.specs.Tables.{rows_in, rows_of}
use Rattle.iceberg_table.specs.declared.manifest.Manifest.{Manifest}
use Rattle.iceberg_table.proofs.EachLaws.{left_none}
use Rattle.iceberg_change.specs.Behind.{slot_rows, slots_rows}

-- the first two of three parts change places
pub swapped : (xs ys zs : List FileRow) → IsPermutation (xs ++ (ys ++ zs)) (ys ++ (xs ++ zs))
swapped xs ys zs =
    subst (λ l. IsPermutation l (ys ++ (xs ++ zs))) (append_assoc xs ys zs)
    (subst (IsPermutation ((xs ++ ys) ++ zs)) (append_assoc ys xs zs) (IsPermutation-append (xs ++ ys) (ys ++ xs) zs zs (IsPermutation-append_comm xs ys) (IsPermutation-refl zs)))

pub emptied_rows : (slots after : List (Option Manifest)) (i : ℕ) (r : Option Manifest) → slice_get slots i ≡ Some r → after ≡ slice_set slots i None → IsPermutation (slots_rows slots) (slot_rows r ++ slots_rows after)
emptied_rows slots after i r at is = subst (λ l. IsPermutation (slots_rows slots) (slot_rows r ++ slots_rows l)) (sym is) (by slots i at)
  where
    by : (xs : List (Option Manifest)) (k : ℕ) → slice_get xs k ≡ Some r → IsPermutation (slots_rows xs) (slot_rows r ++ slots_rows (slice_set xs k None))
    by [] k at = absurd (cc)
    by (x ∷ xs) zero at = subst (λ (o : Option Manifest). IsPermutation (slot_rows x ++ slots_rows xs) (slot_rows o ++ slots_rows xs)) (same_Some x r at) (IsPermutation-refl (slot_rows x ++ slots_rows xs))
    by (x ∷ xs) (suc k) at =
        let rest = slots_rows (slice_set xs k None) in
        IsPermutation-trans (slot_rows x ++ slots_rows xs) (slot_rows x ++ (slot_rows r ++ rest)) (slot_rows r ++ (slot_rows x ++ rest))
        (IsPermutation-append (slot_rows x) (slot_rows x) (slots_rows xs) (slot_rows r ++ rest) (IsPermutation-refl (slot_rows x)) (by xs k at))
        (swapped (slot_rows x) (slot_rows r) rest)

pub emptied_left : (slots after : List (Option Manifest)) (i : ℕ) (m : Manifest) → after ≡ slice_set slots i None → Contains after (Some m) → Contains slots (Some m)
emptied_left slots after i m is there = by slots i (subst (λ (l : List (Option Manifest)). Contains l (Some m)) is there)
  where
    none_some : None ≡ Some m → ⊥
    none_some e = cc

    by : (xs : List (Option Manifest)) (k : ℕ) → Contains (slice_set xs k None) (Some m) → Contains xs (Some m)
    by [] k there = there
    by (x ∷ xs) zero there = ⊎_elim (λ same. absurd (none_some same)) (λ later. Contains-tail x xs (Some m) later) (Contains-cases None xs (Some m) there)
    by (x ∷ xs) (suc k) there =
        ⊎_elim (λ same. subst (Contains (x ∷ xs)) same (Contains-head x xs)) (λ later. Contains-tail x xs (Some m) (by xs k later)) (Contains-cases x (slice_set xs k None) (Some m) there)

pub at_slot : (slots : List (Option Manifest)) (i : ℕ) (r : Option Manifest) → slice_get slots i ≡ Some r → Contains slots r
at_slot [] i r at = absurd (cc)
at_slot (x ∷ xs) zero r at = subst (Contains (x ∷ xs)) (same_Some x r at) (Contains-head x xs)
at_slot (x ∷ xs) (suc k) r at = Contains-tail x xs r (at_slot xs k r at)

-- ---- at the beginning

pub filled_rows : (ms : List Manifest) → slots_rows (map Some ms) ≡ rows_of ms
filled_rows [] = refl
filled_rows (m ∷ ms) = ap (λ (l : List FileRow). rows_in m.rows ++ l) (filled_rows ms)

pub filled_with : (ms : List Manifest) (m : Manifest) → Contains (map Some ms) (Some m) → Contains ms m
filled_with [] m there = absurd (Contains-none (Some m) there)
filled_with (x ∷ ms) m there = ⊎_elim (λ same. subst (Contains (x ∷ ms)) (same_Some x m same) (Contains-head x ms)) (λ later. Contains-tail x ms m (filled_with ms m later)) (Contains-cases (Some x) (map Some ms) (Some m) there)

pub some_held : (slots : List (Option Manifest)) (i : ℕ) (r : Option Manifest) → slice_get slots i ≡ Some r → IfSome r (λ m. Contains slots (Some m))
some_held slots i None at = tt
some_held slots i (Some m) at = at_slot slots i (Some m) at

-- one manifest more has a slot
pub filled_more : (all front rest more : List Manifest) (m : Manifest) (slots after : List (Option Manifest)) → all ≡ front ++ rest → rest ≡ m ∷ more → slots ≡ map Some front → after ≡ slots ++ Some m ∷ [] → (now : List Manifest) × (all ≡ now ++ more) × (after ≡ map Some now)
filled_more all front rest more m slots after split next so_far is = (
  front ++ m ∷ [],
  split ∙ ap (λ (l : List Manifest). front ++ l) next ∙ sym (append_assoc front (m ∷ []) more),
  is ∙ ap (λ (l : List (Option Manifest)). l ++ Some m ∷ []) so_far ∙ sym (map-append (λ (x : Manifest). Some x) front (m ∷ [])),
)

pub filled_all : (all front rest : List Manifest) (slots : List (Option Manifest)) → all ≡ front ++ rest → length rest ≡ 0 → slots ≡ map Some front → slots ≡ map Some all
filled_all all front rest slots split none so_far = so_far ∙ ap (λ (l : List Manifest). map Some l) (sym (left_none all front rest split none))

-- ---- the rows of slots, one after another

-- one row more behind those of a front
pub pushed_more : {A B : Type 0} (f : A → B) (front rows new : List B) (items : List A) (i : ℕ) (row : B) (item : A) → i < length items → item ≡ get_or items i item → new ≡ rows ++ row ∷ [] → row ≡ f item → rows ≡ front ++ map f (take i items) → new ≡ front ++ map f (take (i + 1) items)
pushed_more {A} {B} f front rows new items i row item within at put same so_far =
    put
    ∙ (λ j. so_far j ++ same j ∷ [])
    ∙ append_assoc front (map f (take i items)) (f item ∷ [])
    ∙ ap (λ l. front ++ l) (sym (map-append f (take i items) (item ∷ [])) ∙ ap (λ (x : A). map f (take i items ++ x ∷ [])) at ∙ ap (map f) (sym (take_more items i item within)))

-- one row more behind those that were moved
pub moved_more : {A B : Type 0} (f : A → B) (rows new all : List B) (rest more : List A) (item : A) → rest ≡ item ∷ more → new ≡ rows ++ f item ∷ [] → rows ++ map f rest ≡ all → new ++ map f more ≡ all
moved_more {A} {B} f rows new all rest more item next put so_far = ap (λ l. l ++ map f more) put ∙ append_assoc rows (f item ∷ []) (map f more) ∙ sym (ap (λ (l : List A). rows ++ map f l) next) ∙ so_far

-- the rows of one slot more
pub slots_more : (rest more : List (Option Manifest)) (slot : Option Manifest) (rows new all : List FileRow) → rest ≡ slot ∷ more → new ≡ rows ++ slot_rows slot → rows ++ slots_rows rest ≡ all → new ++ slots_rows more ≡ all
slots_more rest more slot rows new all next put so_far =
    ap (λ l. l ++ slots_rows more) put ∙ append_assoc rows (slot_rows slot) (slots_rows more) ∙ sym (ap (λ (l : List (Option Manifest)). rows ++ slots_rows l) next) ∙ so_far
