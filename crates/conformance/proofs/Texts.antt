-- How long a text of JSON is at most.
use Rattle.std.proofs.Common.{◌≡◌, ℕ, ◌+◌, ◌*◌, ◌≤◌, ◌/◌, ◌%◌, Bool, true, false, cond, List, [], ◌∷◌, ◌++◌, length, nat_lt, arith}
use Rattle.std.specs.Prelude.{flat_map}
use Rattle.std.specs.List.{AllByRecursion}
use Rattle.std.specs.Char.{digit_char}
use Rattle.std.proofs.lemmas.List.{length-append}
use Rattle.json.specs.Print.{escape, escape_byte, escape_letter, quoted}
use Rattle.serde_json.specs.Data.{Data, null, boolean, number, string, array, object, Items, no_items, item, Members, no_members, member}
use Rattle.serde_json.specs.Written.{compact_text, items_text, members_text, comma_if, number_text}

-- ---- strings

escape_byte_most : (x : ℕ) → length (escape_byte x) ≤ 6
unfolding escape_byte
escape_byte_most x = by (nat_lt 0 (escape_letter x)) (nat_lt x 32)
  where
    by : (a b : Bool) → length (cond a (92 ∷ escape_letter x ∷ []) (cond b (92 ∷ 117 ∷ 48 ∷ 48 ∷ digit_char (x / 16) ∷ digit_char (x % 16) ∷ []) (x ∷ []))) ≤ 6
    by true b = omega arith
    by false true = omega arith
    by false false = omega arith

escape_most : (s : List ℕ) → length (escape s) ≤ 6 * length s
escape_most [] = omega arith
escape_most (x ∷ s) =
    let both = length-append (escape_byte x) (escape s) in
    let one = escape_byte_most x in
    let rest = escape_most s in
    omega (arith, both, one, rest)

quoted_most : (s : List ℕ) → length (quoted s) ≤ 2 + 6 * length s
quoted_most s = let both = length-append (escape s) (34 ∷ []) in let most = escape_most s in omega (arith, both, most)

-- ---- values

-- more bytes than the text has, at six for each byte of a string
abbrev mutual
  pub most_bytes : Data → ℕ
  most_bytes null = 4
  most_bytes (boolean b) = 5
  most_bytes (number n) = length (number_text n)
  most_bytes (string s) = 2 + 6 * length s
  most_bytes (array ds) = 1 + most_of_items ds
  most_bytes (object ms) = 1 + most_of_members ms

  pub most_of_items : Items → ℕ
  most_of_items no_items = 1
  most_of_items (item d ds) = 1 + (most_bytes d + most_of_items ds)

  pub most_of_members : Members → ℕ
  most_of_members no_members = 1
  most_of_members (member k d ms) = 4 + (6 * length k + (most_bytes d + most_of_members ms))

comma_most : (b : Bool) → length (comma_if b) ≤ 1
comma_most true = omega arith
comma_most false = omega arith

mutual
  pub compact_most : (d : Data) → length (compact_text d) ≤ most_bytes d
  compact_most null = omega arith
  compact_most (boolean true) = omega arith
  compact_most (boolean false) = omega arith
  compact_most (number n) = omega arith
  compact_most (string s) = quoted_most s
  compact_most (array ds) = let rest = items_most false ds in omega (arith, rest)
  compact_most (object ms) = let rest = members_most false ms in omega (arith, rest)

  items_most : (later : Bool) (ds : Items) → length (items_text later ds) ≤ most_of_items ds
  items_most later no_items = omega arith
  items_most later (item d ds) =
      let first = length-append (comma_if later) (compact_text d ++ items_text true ds) in
      let second = length-append (compact_text d) (items_text true ds) in
      let comma = comma_most later in
      let one = compact_most d in
      let rest = items_most true ds in
      omega (arith, first, second, comma, one, rest)

  members_most : (later : Bool) (ms : Members) → length (members_text later ms) ≤ most_of_members ms
  members_most later no_members = omega arith
  members_most later (member k d ms) =
      let first = length-append (comma_if later) (quoted k ++ 58 ∷ (compact_text d ++ members_text true ms)) in
      let second = length-append (quoted k) (58 ∷ (compact_text d ++ members_text true ms)) in
      let third = length-append (compact_text d) (members_text true ms) in
      let comma = comma_most later in
      let name = quoted_most k in
      let one = compact_most d in
      let rest = members_most true ms in
      omega (arith, first, second, third, comma, name, one, rest)

-- ---- texts joined

pub joined_most : {X : Type 0} (f : X → List ℕ) (most : ℕ) (xs : List X) → AllByRecursion (λ x. length (f x) ≤ most) xs → length (flat_map f xs) ≤ most * length xs
joined_most f most [] each = omega arith
joined_most f most (x ∷ xs) each =
    let both = length-append (f x) (flat_map f xs) in
    let one = each.0 in
    let rest = joined_most f most xs each.1 in
    let times : most * length (x ∷ xs) ≡ most + most * length xs = omega arith in
    omega (arith, both, one, rest, times)
