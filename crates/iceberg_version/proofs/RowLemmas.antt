-- The rows of an owner, as they are met one by one.
use Rattle.std.proofs.Common.{◌≡◌, ◌+◌, ◌-◌, ◌<◌, ℕ, Bool, true, false, not, zero, suc, List, [], ◌∷◌, ◌++◌, Bor, Option, Some, None, IsSome, cond, take, length, map, refl, sym, ap, subst, ◌∙◌, arith, slice_get}
use Rattle.std.specs.Prelude.{option_map, unwrap_or}
use Rattle.std.specs.List.{filter}
use Rattle.std.proofs.lemmas.Bool.{false≢true}
use Rattle.std.proofs.lemmas.List.{append-nil, length-append, map-append, take_more}
use Rattle.std.proofs.lemmas.List.Elements.{filter-append}
use Rattle.std.proofs.lemmas.Option.{get_or_from_slice_get, slice_get_within}
use Rattle.file_links.specs.Rows.{Entry, Holds, HoldsJust, IsBehind, IsFirstOf, IsHeld, OwnedRows, rows_of, slot_at}
use Rattle.file_links.specs.declared.slots.Held.{Held}
use Rattle.iceberg_version.specs.KeptEnd.{held_rows}
use Rattle.iceberg_version.specs.Manifests.{is_lost, left as left_of, lost as lost_of}
use Rattle.iceberg_version.specs.Removed.{MarksLost, is_marked}

-- the entries of an owner, none where it isn't there
abbrev pub entries_of : OwnedRows → ℕ → List Entry
entries_of links owner = unwrap_or (rows_of links owner) []

abbrev rows_now : List (Bor Held) → List Held
rows_now rows = map (λ (r : Bor Held). r.now) rows

-- so many of the first rows of an owner
abbrev first_held : OwnedRows → ℕ → ℕ → List Held
first_held links owner count = map (λ (e : Entry). e.held) (take count (entries_of links owner))

-- These are of the first rows of the owner those that stay and those that are removed, and the slot behind them.
abbrev pub IsParted : OwnedRows → ℕ → List (List ℕ) → List (Bor Held) → List (Bor Held) → Option ℕ → Type 0
IsParted links owner removed left lost place =
    (map (λ (r : Bor Held). r.now) left ≡ left_of removed (map (λ (e : Entry). e.held) (take (length left + length lost) (entries_of links owner))))
    × (map (λ (r : Bor Held). r.now) lost ≡ lost_of removed (map (λ (e : Entry). e.held) (take (length left + length lost) (entries_of links owner))))
    × (place ≡ slot_at (entries_of links owner) (length left + length lost))

there_by : (o : Option (List Entry)) → IsSome o → o ≡ Some (unwrap_or o [])
there_by None h = absurd (false≢true h)
there_by (Some rows) h = refl

pub there : (links : OwnedRows) (owner : ℕ) → IsSome (rows_of links owner) → rows_of links owner ≡ Some (entries_of links owner)
there links owner h = there_by (rows_of links owner) h

abbrev EntryAt : List Entry → ℕ → ℕ → Type 0
EntryAt es k slot = (e : Entry) × (slice_get es k ≡ Some e) × (e.slot ≡ slot)

entry_by : (es : List Entry) (k slot : ℕ) (o : Option Entry) → slice_get es k ≡ o → Some slot ≡ option_map (λ e. e.slot) o → EntryAt es k slot
entry_by es k slot None at is = cc
entry_by es k slot (Some e) at is = (e, at, let h = is in cc)

entry_at : (es : List Entry) (k slot : ℕ) → Some slot ≡ slot_at es k → EntryAt es k slot
entry_at es k slot is = entry_by es k slot (slice_get es k) refl is

holds_entry : (links : OwnedRows) (owner k slot : ℕ) (e : Entry) → IsSome (rows_of links owner) → slice_get (entries_of links owner) k ≡ Some e → e.slot ≡ slot → Holds links slot e.held
holds_entry links owner k slot e h at is =
    (owner, (entries_of links owner, there links owner h, (k, slice_get_within (entries_of links owner) k e at, get_or_from_slice_get (entries_of links owner) k e (record { slot = slot; held = e.held }) at ∙ ap (λ (s : ℕ). record { slot = s; held = e.held }) is)))

pub parted_first : (links : OwnedRows) (owner : ℕ) (removed : List (List ℕ)) (left lost : List (Bor Held)) (place : Option ℕ) → IsSome (rows_of links owner) → left ≡ [] → lost ≡ [] → IsFirstOf links owner place → IsParted links owner removed left lost place
parted_first links owner removed left lost place h no_left no_lost first =
    subst (λ (rs : List (Bor Held)). IsParted links owner removed rs lost place) (sym no_left)
    (subst (λ (rs : List (Bor Held)). IsParted links owner removed [] rs place) (sym no_lost) (refl, refl, first (entries_of links owner) (there links owner h)))

-- ---- one row more

passes_last : (p : Held → Bool) (rows : List Held) (row : Held) → p row ≡ true → filter p (rows ++ row ∷ []) ≡ filter p rows ++ row ∷ []
passes_last p rows row passes = filter-append p rows (row ∷ []) ∙ ap (λ b. filter p rows ++ cond b (row ∷ []) []) passes

fails_last : (p : Held → Bool) (rows : List Held) (row : Held) → p row ≡ false → filter p (rows ++ row ∷ []) ≡ filter p rows
fails_last p rows row fails = filter-append p rows (row ∷ []) ∙ ap (λ b. filter p rows ++ cond b (row ∷ []) []) fails ∙ append-nil (filter p rows)

module _ (links : OwnedRows) (owner : ℕ) (removed : List (List ℕ)) (left lost : List (Bor Held)) (place : Option ℕ) (slot : ℕ) (h : IsSome (rows_of links owner)) (parted : IsParted links owner removed left lost place) (is : place ≡ Some slot) where
  abbrev es : List Entry
  es = entries_of links owner

  abbrev count : ℕ
  count = length left + length lost

  found : EntryAt es count slot
  found = entry_at es count slot (sym is ∙ parted.2)

  within : count < length es
  within = slice_get_within es count found.0 found.1

  pub slot_held : IsHeld links slot
  slot_held = (found.0.held, holds_entry links owner count slot found.0 h found.1 found.2)

  pub fewer : (now : ℕ) → now ≡ count + 1 → length es - now < length es - count
  fewer now is = let w = within in omega arith

  module _ (row : Bor Held) (just : HoldsJust links slot row.now) where
    held_more : first_held links owner (count + 1) ≡ first_held links owner count ++ row.now ∷ []
    unfolding found slot_held
    held_more =
        let e = found.0 in
        let same : e.held ≡ row.now = just.only e.held slot_held.1 in
        let more : take (count + 1) es ≡ take count es ++ e ∷ [] = take_more es count e within ∙ ap (λ (x : Entry). take count es ++ x ∷ []) (get_or_from_slice_get es count e e found.1) in
        ap (map (λ (x : Entry). x.held)) more ∙ map-append (λ (x : Entry). x.held) (take count es) (e ∷ []) ∙ ap (λ (x : Held). first_held links owner count ++ x ∷ []) same

    module _ (marks : List Bool) (next : Option ℕ) (marked : MarksLost links removed marks) (behind : IsBehind links slot next) where
      next_at : (now : ℕ) → now ≡ count + 1 → next ≡ slot_at es now
      next_at now n = behind owner count es (there links owner h) (sym parted.2 ∙ is) ∙ ap (slot_at es) (sym n)

      abbrev Steps : List (Bor Held) → List (Bor Held) → Type 0
      Steps after_left after_lost = (length after_left + length after_lost ≡ count + 1) × IsParted links owner removed after_left after_lost next

      left_here : (after : List (Bor Held)) → is_marked marks slot ≡ false → after ≡ left ++ row ∷ [] → Steps after lost
      left_here after unmarked pushes =
          let l = ap length pushes ∙ length-append left (row ∷ []) in
          let n : length after + length lost ≡ count + 1 = omega arith in
          let hs : first_held links owner (length after + length lost) ≡ first_held links owner count ++ row.now ∷ [] = ap (first_held links owner) n ∙ held_more in
          let stays : is_lost removed row.now ≡ false = sym (marked slot row.now just) ∙ unmarked in (
            n,
            (
              ap rows_now pushes ∙ map-append (λ (r : Bor Held). r.now) left (row ∷ []) ∙ ap (λ (xs : List Held). xs ++ row.now ∷ []) parted.0 ∙ sym (passes_last (λ held. not (is_lost removed held)) (first_held links owner count) row.now (ap not stays)) ∙ ap (left_of removed) (sym hs),
              parted.1 ∙ sym (fails_last (is_lost removed) (first_held links owner count) row.now stays) ∙ ap (lost_of removed) (sym hs),
              next_at (length after + length lost) n,
            ),
          )

      lost_here : (after : List (Bor Held)) → is_marked marks slot ≡ true → after ≡ lost ++ row ∷ [] → Steps left after
      lost_here after is_so pushes =
          let l = ap length pushes ∙ length-append lost (row ∷ []) in
          let n : length left + length after ≡ count + 1 = omega arith in
          let hs : first_held links owner (length left + length after) ≡ first_held links owner count ++ row.now ∷ [] = ap (first_held links owner) n ∙ held_more in
          let goes : is_lost removed row.now ≡ true = sym (marked slot row.now just) ∙ is_so in (
            n,
            (
              parted.0 ∙ sym (fails_last (λ held. not (is_lost removed held)) (first_held links owner count) row.now (ap not goes)) ∙ ap (left_of removed) (sym hs),
              ap rows_now pushes ∙ map-append (λ (r : Bor Held). r.now) lost (row ∷ []) ∙ ap (λ (xs : List Held). xs ++ row.now ∷ []) parted.1 ∙ sym (passes_last (is_lost removed) (first_held links owner count) row.now goes) ∙ ap (lost_of removed) (sym hs),
              next_at (length left + length after) n,
            ),
          )

      pub one_left : (after_left after_lost : List (Bor Held)) → is_marked marks slot ≡ false → after_left ≡ left ++ row ∷ [] → after_lost ≡ lost → Steps after_left after_lost
      one_left after_left after_lost unmarked pushes same = subst (λ (rs : List (Bor Held)). Steps after_left rs) (sym same) (left_here after_left unmarked pushes)

      pub one_lost : (after_left after_lost : List (Bor Held)) → is_marked marks slot ≡ true → after_left ≡ left → after_lost ≡ lost ++ row ∷ [] → Steps after_left after_lost
      one_lost after_left after_lost is_so same pushes = subst (λ (rs : List (Bor Held)). Steps rs after_lost) (sym same) (lost_here after_lost is_so pushes)

-- ---- all of them

all_taken : (es : List Entry) (k : ℕ) → None ≡ slot_at es k → take k es ≡ es
all_taken [] zero none = refl
all_taken [] (suc k) none = refl
all_taken (e ∷ es) zero none = cc
all_taken (e ∷ es) (suc k) none = ap (λ (xs : List Entry). e ∷ xs) (all_taken es k none)

pub parted_all : (links : OwnedRows) (owner : ℕ) (removed : List (List ℕ)) (left lost : List (Bor Held)) (place : Option ℕ) → IsParted links owner removed left lost place → place ≡ None → (rows_now left ≡ left_of removed (held_rows links owner)) × (rows_now lost ≡ lost_of removed (held_rows links owner))
parted_all links owner removed left lost place parted none =
    let all : first_held links owner (length left + length lost) ≡ held_rows links owner = ap (map (λ (e : Entry). e.held)) (all_taken (entries_of links owner) (length left + length lost) (sym none ∙ parted.2)) in
    (parted.0 ∙ ap (left_of removed) all, parted.1 ∙ ap (lost_of removed) all)
