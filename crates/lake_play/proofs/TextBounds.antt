-- How long the JSON is at most that targets write, by its members.
use Rattle.std.proofs.Common.{◌≡◌, ℕ, ◌+◌, ◌*◌, ◌^◌, ◌≤◌, ◌<◌, ℤ, pos, List, [], ◌∷◌, length, map, Contains, Option, Some, None, Ordering, Less, Equal, Greater, refl, sym, ap, subst, arith}
use Rattle.std.specs.Cmp.Lexicographic.{slice_cmp}
use Rattle.std.specs.Ordering.{match_ordering, nat_cmp}
use Rattle.serde_json.specs.Data.{Data, number, Members, no_members, member, put}
use Rattle.serde_json.specs.Find.{of_integer}
use Rattle.serde_json.specs.View.{items_of}
use Rattle.json_reading.specs.Json.{members_with, text_or_null_data}
use Rattle.table_history.specs.Words.{kind_word}
use Rattle.table_history.specs.declared.kind.Kind.TheVariants.{Delta}
use Rattle.table_history.proofs.RowListLemmas.{Contains-head, Contains-tail}
use Rattle.conformance.proofs.Texts.{most_bytes, most_of_items, most_of_members}
use Rattle.target_core.specs.Mark.{mark_data}
use Rattle.target_core.specs.Views.{Origin}
use Rattle.target_core.specs.declared.mark.Mark.{Mark}
use Rattle.lake_basics.proofs.Texts.{digits_most}

-- ---- objects

by_order : (o : Ordering) (most : ℕ) (a b c : Members) → most_of_members a ≤ most → most_of_members b ≤ most → most_of_members c ≤ most → most_of_members (match_ordering o a b c) ≤ most
by_order Less most a b c x y z = x
by_order Equal most a b c x y z = y
by_order Greater most a b c x y z = z

pub put_most : (k : List ℕ) (d : Data) (ms : Members) → most_of_members (put k d ms) ≤ most_of_members ms + (4 + (6 * length k + most_bytes d))
put_most k d no_members = omega arith
put_most k d (member l e ms) =
    let rest = put_most k d ms in
    by_order (slice_cmp nat_cmp k l) (most_of_members (member l e ms) + (4 + (6 * length k + most_bytes d))) (member k d (member l e ms)) (member l d ms) (member l e (put k d ms)) (omega arith) (omega arith) (omega (arith, rest))

module _ {A : Type 0} (f : A → Data) where
  abbrev pub pairs_most : List (List ℕ × A) → ℕ
  pairs_most [] = 0
  pairs_most (p ∷ ps) = (4 + (6 * length p.0 + most_bytes (f p.1))) + pairs_most ps

  pub with_most : (ps : List (List ℕ × A)) (ms : Members) → most_of_members (members_with f ps ms) ≤ most_of_members ms + pairs_most ps
  with_most [] ms = omega arith
  with_most (p ∷ ps) ms =
      let one = put_most p.0 (f p.1) ms in
      let rest = with_most ps (put p.0 (f p.1) ms) in
      omega (arith, one, rest)

  -- so many items of so many bytes each
  pub items_most : (each : ℕ) (xs : List A) → ((x : A) → Contains xs x → most_bytes (f x) ≤ each) → most_of_items (items_of (map f xs)) ≤ 1 + (1 + each) * length xs
  items_most each [] few = omega arith
  items_most each (x ∷ xs) few =
      let one = few x (Contains-head x xs) in
      let rest = items_most each xs (λ y there. few y (Contains-tail x xs y there)) in
      let times : (1 + each) * length (x ∷ xs) ≡ (1 + each) + (1 + each) * length xs = omega arith in
      omega (arith, one, rest, times)

-- ---- numbers

-- a whole number of at most 15 digits
abbrev pub IsShortNumber : ℤ → Type 0
IsShortNumber z = (n : ℕ) × (z ≡ pos n) × (n < 10 ^ 15)

pub whole_most : (z : ℤ) → IsShortNumber z → most_bytes (number (of_integer z)) ≤ 15
whole_most z (n, is, lt) = subst (λ (w : ℤ). most_bytes (number (of_integer w)) ≤ 15) (sym is) (digits_most n lt)

-- ---- marks

-- The origin is a Delta source, whose table has a short id, if any.
pub record IsShortOrigin (origin : Origin) : Type 0 where
  pub source : origin.source ≡ Delta
  pub table : (id : List ℕ) → origin.table ≡ Some id → length id ≤ 100

id_text_most : (table : Option (List ℕ)) → ((id : List ℕ) → table ≡ Some id → length id ≤ 100) → most_bytes (text_or_null_data table) ≤ 700
id_text_most None short = omega arith
id_text_most (Some id) short = let few = short id refl in omega (arith, few)

abbrev mark_by : Origin → List ℕ → List ℕ → Mark
mark_by origin at position = record { at = at; source = origin.source; to = position; table = origin.table }

pub mark_most : (origin : Origin) (at position : List ℕ) → length at ≤ 20 → length position ≤ 15 → IsShortOrigin origin → most_bytes (mark_data (mark_by origin at position)) ≤ 5000
mark_most origin at position long short is =
    let table = id_text_most origin.table is.table in
    let word : length (kind_word origin.source) ≡ 5 = ap (λ k. length (kind_word k)) is.source in
    let digits = digits_most 2 (omega arith) in
    omega (arith, long, short, table, word, digits)
