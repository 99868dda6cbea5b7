-- Versions one after another, with their bytes.
use Rattle.std.proofs.Common.{◌≡◌, ℕ, zero, suc, ◌+◌, ◌*◌, ◌<◌, ◌≤◌, List, [], ◌∷◌, ◌++◌, length, Option, Bool, true, false, cond, refl, sym, ap, subst, ◌∙◌, ⊎_elim, arith}
use Rattle.std.proofs.lemmas.Bool.{cases_eq}
use Rattle.std.proofs.lemmas.List.Sums.{sum_by-cons}
use Rattle.lake_store.specs.Disk.{Files}
use Rattle.table_history.specs.declared.table.Table.{Table}
use Rattle.delta_log.specs.declared.commit.DeltaCommit.{DeltaCommit}
use Rattle.delta_table.specs.Log.{IsLogBy}
use Rattle.delta_table.specs.SameVersions.{SameVersions, holds_too}
use Rattle.delta_table.specs.Versions.{HasVersion, HoldsVersion}
use Rattle.delta_table.proofs.PathLaws.{bytes_once}
use Rattle.delta_compact.specs.Blocks.{HoldVersions, HoldsBlock}
use Rattle.delta_compact.specs.Joinable.{ended_length, ends_line, whole_length}

-- ---- one list

pub held_once : (files : Files) (version : ℕ) (xs ys : List (List ℕ)) → length xs ≡ length ys → HoldVersions files version xs → HoldVersions files version ys → xs ≡ ys
held_once files version [] [] len hx hy = refl
held_once files version [] (y ∷ ys) len hx hy = absurd (omega (arith, len))
held_once files version (x ∷ xs) [] len hx hy = absurd (omega (arith, len))
held_once files version (x ∷ xs) (y ∷ ys) len hx hy =
    ap (λ z. z ∷ xs) (bytes_once files version x y hx.0 hy.0) ∙ ap (λ zs. y ∷ zs) (held_once files (version + 1) xs ys (omega (arith, len)) hx.1 hy.1)

pub block_once : (files : Files) (block : ℕ) (xs ys : List (List ℕ)) → HoldsBlock files block xs → HoldsBlock files block ys → xs ≡ ys
block_once files block xs ys hx hy = held_once files (10 * block) xs ys (hx.count ∙ sym hy.count) hx.there hy.there

-- ---- the same versions in other files

held_too : (a b : Files) → SameVersions a b → (version : ℕ) (xs : List (List ℕ)) → HoldVersions a version xs → HoldVersions b version xs
held_too a b same version [] h = tt
held_too a b same version (x ∷ xs) h = (holds_too a b same version x h.0, held_too a b same (version + 1) xs h.1)

pub block_too : (a b : Files) → SameVersions a b → (block : ℕ) (xs : List (List ℕ)) → HoldsBlock a block xs → HoldsBlock b block xs
block_too a b same block xs h = record { count = h.count; there = held_too a b same (10 * block) xs h.there }

-- ---- where each is there

pub held_from : (files : Files) (version count : ℕ) → ((v : ℕ) → version ≤ v → v < version + count → HasVersion files v) → (xs : List (List ℕ)) × (length xs ≡ count) × HoldVersions files version xs
held_from files version zero each = ([], refl, tt)
held_from files version (suc count) each =
    let here = each version (omega arith) (omega arith) in
    let rest = held_from files (version + 1) count (λ v low high. each v (omega (arith, low)) (omega (arith, high))) in
    (here.0 ∷ rest.0, ap suc rest.1, (here.1, rest.2))

pub block_from : (files : Files) (block newest : ℕ) → 10 * block + 9 ≤ newest → ((v : ℕ) → v ≤ newest → HasVersion files v) → (xs : List (List ℕ)) × HoldsBlock files block xs
block_from files block newest within each =
    let all = held_from files (10 * block) 10 (λ v low high. each v (omega (arith, high, within))) in
    (all.0, record { count = all.1; there = all.2 })

pub block_at : (files : Files) (block : ℕ) (xs : List (List ℕ)) (version : ℕ) → HoldsBlock files block xs → 10 * block ≤ version → version < 10 * block + 10 → HasVersion files version
block_at files block xs version h low high = at (10 * block) xs h.there low (let count = h.count in omega (arith, count, high))
  where
    at : (first : ℕ) (ys : List (List ℕ)) → HoldVersions files first ys → first ≤ version → version < first + length ys → HasVersion files version
    at first [] held under over = absurd (omega (arith, under, over))
    at first (y ∷ ys) held under over = ⊎_elim
        (λ (here : first ≡ version). subst (HasVersion files) here (y, held.0))
        (λ (later : first ≡ version → ⊥). at (first + 1) ys held.1 (omega (arith, under, later)) (omega (arith, over)))
        (cases_eq first version)

-- ---- one more

pub held_more : (files : Files) (version : ℕ) (xs : List (List ℕ)) (x : List ℕ) → HoldVersions files version xs → HoldsVersion files (version + length xs) x → HoldVersions files version (xs ++ x ∷ [])
held_more files version [] x h here = (subst (λ v. HoldsVersion files v x) (omega arith) here, tt)
held_more files version (y ∷ xs) x h here =
    let place : version + length (y ∷ xs) ≡ version + 1 + length xs = omega arith in
    (h.0, held_more files (version + 1) xs x h.1 (subst (λ v. HoldsVersion files v x) place here))

-- ---- bytes together

whole_step : (y : List ℕ) (ys : List (List ℕ)) → whole_length (y ∷ ys) ≡ ended_length y + whole_length ys
whole_step y ys = sum_by-cons ended_length y ys

pub length_more : (xs : List (List ℕ)) (x : List ℕ) → whole_length (xs ++ x ∷ []) ≡ whole_length xs + ended_length x
length_more [] x = whole_step x [] ∙ omega arith
length_more (y ∷ xs) x =
    let rest = length_more xs x in
    let whole = whole_step y (xs ++ x ∷ []) in
    let part = whole_step y xs in
    omega (arith, rest, whole, part)

-- the first of them have no more bytes than all
pub length_part : (files : Files) (version : ℕ) (xs ys : List (List ℕ)) → length xs ≤ length ys → HoldVersions files version xs → HoldVersions files version ys → whole_length xs ≤ whole_length ys
length_part files version [] ys len hx hy = omega arith
length_part files version (x ∷ xs) [] len hx hy = absurd (omega (arith, len))
length_part files version (x ∷ xs) (y ∷ ys) len hx hy =
    let same : ended_length x ≡ ended_length y = ap ended_length (bytes_once files version x y hx.0 hy.0) in
    let rest = length_part files (version + 1) xs ys (omega (arith, len)) hx.1 hy.1 in
    let mine = whole_step x xs in
    let theirs = whole_step y ys in
    omega (arith, same, rest, mine, theirs)

ended_long : (x : List ℕ) → length x ≤ ended_length x
ended_long x = by (ends_line x)
  where
    by : (b : Bool) → length x ≤ cond b (length x) (length x + 1)
    by true = omega arith
    by false = omega arith

-- nor does one of them
pub length_one : (files : Files) (version : ℕ) (ys : List (List ℕ)) (at : ℕ) (x : List ℕ) → version ≤ at → at < version + length ys → HoldVersions files version ys → HoldsVersion files at x → length x ≤ whole_length ys
length_one files version [] at x low high hy hx = absurd (omega (arith, low, high))
length_one files version (y ∷ ys) at x low high hy hx = ⊎_elim
    (λ (here : version ≡ at).
    let same : y ≡ x = bytes_once files at y x (subst (λ v. HoldsVersion files v y) here hy.0) hx in
    let long = ended_long y in
    let len : length y ≡ length x = ap length same in
    let whole = whole_step y ys in
    omega (arith, long, len, whole))
    (λ (later : version ≡ at → ⊥).
    let rest = length_one files (version + 1) ys at x (omega (arith, low, later)) (omega (arith, high)) hy.1 hx in
    let whole = whole_step y ys in
    omega (arith, rest, whole))
    (cases_eq version at)

-- ---- a log that is read

-- Each of its versions is there.
pub logged : (Taken : DeltaCommit → Option Table → Table → Type 0) (files : Files) (count : ℕ) (last : Option Table) → IsLogBy Taken files count last → (version : ℕ) → version < count → HasVersion files version
logged Taken files zero last log version under = absurd (omega (arith, under))
logged Taken files (suc count) last log version under = ⊎_elim
    (λ (here : version ≡ count). subst (HasVersion files) (sym here) (log.3.bytes, log.3.holds))
    (λ (other : version ≡ count → ⊥). logged Taken files count log.0 log.1 version (omega (arith, under, other)))
    (cases_eq version count)
