-- The JSON of a commit's lines: its text has no newline, it holds no float, it is shallow, and its objects are read again.
use Rattle.std.proofs.Common.{◌≡◌, ℕ, zero, suc, ◌/◌, ◌%◌, ℤ, pos, negsuc, List, [], ◌∷◌, ◌++◌, Bool, true, false, cond, Ordering, Less, Equal, Greater, Result, Ok, Err, refl, sym, ◌∙◌, nat_lt, nat_cmp, arith, max}
use Rattle.std.proofs.lemmas.Grind.{common_steps}
use Rattle.std.proofs.lemmas.List.Folds.{list_any-append}
use Rattle.std.specs.Prelude.{◌==◌, decimal}
use Rattle.std.specs.BTreeMap.{insert_entry}
use Rattle.std.specs.Cmp.Lexicographic.{slice_cmp}
use Rattle.std.specs.Fmt.{digits, digits_onto, digit_glyph, signed_decimal}
use Rattle.std.specs.List.{list_any}
use Rattle.std.specs.Ordering.{match_ordering}
use Rattle.json.specs.Print.{escape_letter, escape_byte, escape, quoted}
use Rattle.std.specs.Char.{digit_char}
use Rattle.std.proofs.lemmas.Bool.{or_from, or_parts}
use Rattle.serde_json.specs.Data.{Data, null, boolean, number, string, array, object, unsigned, negative, float, Items, no_items, item, Members, no_members, member, put, depth, members_depth}
use Rattle.serde_json.specs.Written.{compact_text, items_text, members_text, comma_if, has_float, members_have_float}
use Rattle.delta_log.specs.declared.error.LineFault.{LineFault}
use Rattle.lake_basics.specs.Outcome.{◌>>=◌, each}
use Rattle.json_reading.specs.Json.{pairs, members_with}
use Rattle.delta_log.specs.Grammar.{keyed}
use Rattle.delta_log.specs.Judging.{is_newline}
use Rattle.delta_text.specs.Writing.{pairs_with}
use Rattle.delta_log.proofs.EachLemmas.{Splits, split_each, each_cons}

-- ---- no newline

abbrev pub is_line : List ℕ → Type 0
is_line s = list_any is_newline s ≡ false

pub is_line-append : (s t : List ℕ) → is_line s → is_line t → is_line (s ++ t)
is_line-append s t one other = list_any-append is_newline s t ∙ or_from _ _ one other

glyph : (d : ℕ) → is_newline (digit_glyph false d) ≡ false
glyph d = grind (arith, common_steps)

is_line-digits_onto : (k n : ℕ) (acc : List ℕ) → is_line acc → is_line (digits_onto k 10 false n acc)
is_line-digits_onto zero n acc line = line
is_line-digits_onto (suc k) n acc line =
    let more : is_line (digit_glyph false (n % 10) ∷ acc) = or_from _ _ (glyph (n % 10)) line in
    elim (n / 10 == 0) as (λ b. is_line (cond b (digit_glyph false (n % 10) ∷ acc) (digits_onto k 10 false (n / 10) (digit_glyph false (n % 10) ∷ acc)))) [ true ↦ more | false ↦ is_line-digits_onto k (n / 10) _ more ]

is_line-decimal : (n : ℕ) → is_line (decimal n)
unfolding digits
is_line-decimal n = is_line-digits_onto 64 n [] refl

digit : (d : ℕ) → is_newline (digit_char d) ≡ false
digit d = grind (arith, common_steps)

letter : (x : ℕ) → is_newline (escape_letter x) ≡ false
letter x = grind (arith, common_steps)

plain : (x : ℕ) (b : Bool) → nat_lt x 32 ≡ b → is_line (cond b (92 ∷ 117 ∷ 48 ∷ 48 ∷ digit_char (x / 16) ∷ digit_char (x % 16) ∷ []) (x ∷ []))
plain x true low = or_from _ _ (digit (x / 16)) (or_from _ _ (digit (x % 16)) refl)
plain x false high = or_from _ _ (grind (arith, common_steps)) refl

is_line-escape_byte : (x : ℕ) → is_line (escape_byte x)
unfolding escape_byte
is_line-escape_byte x =
    elim (nat_lt 0 (escape_letter x)) as (λ b. is_line (cond b (92 ∷ escape_letter x ∷ []) (cond (nat_lt x 32) (92 ∷ 117 ∷ 48 ∷ 48 ∷ digit_char (x / 16) ∷ digit_char (x % 16) ∷ []) (x ∷ [])))) [
      | true ↦ or_from _ _ (letter x) refl
      | false ↦ plain x (nat_lt x 32) refl
    ]

is_line-escape : (s : List ℕ) → is_line (escape s)
is_line-escape [] = refl
is_line-escape (x ∷ s) = is_line-append (escape_byte x) (escape s) (is_line-escape_byte x) (is_line-escape s)

is_line-quoted : (s : List ℕ) → is_line (quoted s)
is_line-quoted s = is_line-append (escape s) (34 ∷ []) (is_line-escape s) refl

is_line-signed_decimal : (z : ℤ) → is_line (signed_decimal z)
is_line-signed_decimal (pos n) = is_line-decimal n
is_line-signed_decimal (negsuc n) = is_line-decimal (suc n)

is_line-comma_if : (b : Bool) → is_line (comma_if b)
is_line-comma_if true = refl
is_line-comma_if false = refl

-- a compact text stands on one line
mutual
  pub is_line-compact_text : (d : Data) → is_line (compact_text d)
  is_line-compact_text null = refl
  is_line-compact_text (boolean true) = refl
  is_line-compact_text (boolean false) = refl
  is_line-compact_text (number (unsigned n)) = is_line-decimal n
  is_line-compact_text (number (negative z)) = is_line-signed_decimal z
  is_line-compact_text (number (float x)) = refl
  is_line-compact_text (string s) = is_line-quoted s
  is_line-compact_text (array ds) = is_line-items_text false ds
  is_line-compact_text (object ms) = is_line-members_text false ms

  is_line-items_text : (later : Bool) (ds : Items) → is_line (items_text later ds)
  is_line-items_text later no_items = refl
  is_line-items_text later (item d ds) = is_line-append (comma_if later) _ (is_line-comma_if later) (is_line-append (compact_text d) _ (is_line-compact_text d) (is_line-items_text true ds))

  is_line-members_text : (later : Bool) (ms : Members) → is_line (members_text later ms)
  is_line-members_text later no_members = refl
  is_line-members_text later (member k d ms) =
      is_line-append (comma_if later) _ (is_line-comma_if later)
      (is_line-append (quoted k) _ (is_line-quoted k) (is_line-append (compact_text d) _ (is_line-compact_text d) (is_line-members_text true ms)))

-- ---- flat members

-- members without floats and without parts
pub record AreFlat (ms : Members) : Type 0 where
  pub no_float : members_have_float ms ≡ false
  pub shallow : members_depth ms ≡ 0

pub record IsFlat (d : Data) : Type 0 where
  pub no_float : has_float d ≡ false
  pub shallow : depth d ≡ 0

cons_flat : (k : List ℕ) (d : Data) (ms : Members) → IsFlat d → AreFlat ms → AreFlat (member k d ms)
cons_flat k d ms flat more = record { no_float = or_from _ _ flat.no_float more.no_float; shallow = omega (arith, flat.shallow, more.shallow) }

head_flat : (k : List ℕ) (d : Data) (ms : Members) → AreFlat (member k d ms) → IsFlat d
head_flat k d ms flat = record { no_float = (or_parts _ _ flat.no_float).0; shallow = let h : max (depth d) (members_depth ms) ≡ 0 = flat.shallow in omega (arith, h) }

tail_flat : (k : List ℕ) (d : Data) (ms : Members) → AreFlat (member k d ms) → AreFlat ms
tail_flat k d ms flat = record { no_float = (or_parts _ _ flat.no_float).1; shallow = let h : max (depth d) (members_depth ms) ≡ 0 = flat.shallow in omega (arith, h) }

put_flat : (k : List ℕ) (d : Data) (ms : Members) → IsFlat d → AreFlat ms → AreFlat (put k d ms)
put_flat k d no_members flat all = cons_flat k d no_members flat all
put_flat k d (member l e ms) flat all =
    elim (slice_cmp nat_cmp k l) as (λ o. AreFlat (match_ordering o (member k d (member l e ms)) (member l d ms) (member l e (put k d ms)))) [
      | Less ↦ cons_flat k d (member l e ms) flat all
      | Equal ↦ cons_flat l d ms flat (tail_flat l e ms all)
      | Greater ↦ cons_flat l e _ (head_flat l e ms all) (put_flat k d ms flat (tail_flat l e ms all))
    ]

pub members_with_flat : {A : Type 0} (shown : A → Data) → ((x : A) → IsFlat (shown x)) → (ps : List (List ℕ × A)) (ms : Members) → AreFlat ms → AreFlat (members_with shown ps ms)
members_with_flat shown each_flat [] ms flat = flat
members_with_flat shown each_flat (p ∷ ps) ms flat = members_with_flat shown each_flat ps _ (put_flat p.0 (shown p.1) ms (each_flat p.1) flat)

-- ---- pairs are read again, in the order of their names

keyed_at : {A : Type 0} (g : Data → Result A LineFault) (k : List ℕ) (d : Data) (v : A) → g d ≡ Ok v → keyed g (k, d) ≡ Ok (k, v)
keyed_at g k d v is = rw is

Keys : {A : Type 0} → (Data → Result A LineFault) → List ℕ → Data → List ℕ × A → Type 0
Keys {A} g k d w = (u : A) × (g d ≡ Ok u) × (w ≡ (k, u))

keyed_from : {A : Type 0} (g : Data → Result A LineFault) (k : List ℕ) (d : Data) (w : List ℕ × A) (r : Result A LineFault) → g d ≡ r → (r >>= λ value. Ok (k, value)) ≡ Ok w → Keys g k d w
unfolding Keys
keyed_from g k d w (Ok u) is e = (u, is, sym (cc))
keyed_from g k d w (Err f) is e = absurd (cc)

module _ {A : Type 0} (g : Data → Result A LineFault) where
  first_put : (k : List ℕ) (d : Data) (v : A) (vs : List (List ℕ × A)) → g d ≡ Ok v → each (keyed g) [] ≡ Ok vs → each (keyed g) ((k, d) ∷ []) ≡ Ok (insert_entry (slice_cmp nat_cmp) vs k v)
  first_put k d v [] is all = each_cons (keyed g) (k, d) [] (k, v) [] (keyed_at g k d v is) refl
  first_put k d v (w ∷ ws) is all = absurd (cc)

  put_at : (o : Ordering) (k l : List ℕ) (d e : Data) (ms : Members) (v u : A) (ws : List (List ℕ × A)) → g d ≡ Ok v → g e ≡ Ok u → each (keyed g) (pairs ms) ≡ Ok ws
      → each (keyed g) (pairs (put k d ms)) ≡ Ok (insert_entry (slice_cmp nat_cmp) ws k v)
      → each (keyed g) (pairs (match_ordering o (member k d (member l e ms)) (member l d ms) (member l e (put k d ms))))
      ≡ Ok (match_ordering o ((k, v) ∷ (l, u) ∷ ws) ((l, v) ∷ ws) ((l, u) ∷ insert_entry (slice_cmp nat_cmp) ws k v))
  put_at Less k l d e ms v u ws new old others later = each_cons (keyed g) (k, d) ((l, e) ∷ pairs ms) (k, v) ((l, u) ∷ ws) (keyed_at g k d v new) (each_cons (keyed g) (l, e) (pairs ms) (l, u) ws (keyed_at g l e u old) others)
  put_at Equal k l d e ms v u ws new old others later = each_cons (keyed g) (l, d) (pairs ms) (l, v) ws (keyed_at g l d v new) others
  put_at Greater k l d e ms v u ws new old others later = each_cons (keyed g) (l, e) (pairs (put k d ms)) (l, u) (insert_entry (slice_cmp nat_cmp) ws k v) (keyed_at g l e u old) later

  pub each-put : (k : List ℕ) (d : Data) (v : A) (ms : Members) (vs : List (List ℕ × A)) → g d ≡ Ok v → each (keyed g) (pairs ms) ≡ Ok vs → each (keyed g) (pairs (put k d ms)) ≡ Ok (insert_entry (slice_cmp nat_cmp) vs k v)
  unfolding Splits Keys
  each-put k d v no_members vs is all = first_put k d v vs is all
  each-put k d v (member l e ms) vs is all =
      let parts = split_each (keyed g) (l, e) (pairs ms) vs all in
      let key = keyed_from g l e parts.0 (g e) refl parts.2 in
      let whole : vs ≡ (l, key.0) ∷ parts.1 = cc in
      rw whole (put_at (slice_cmp nat_cmp k l) k l d e ms v key.0 parts.1 is key.1 parts.3 (each-put k d v ms parts.1 is parts.3))

  pub each-members_with : (shown : A → Data) → ((x : A) → g (shown x) ≡ Ok x) → (ps : List (List ℕ × A)) (ms : Members) (vs : List (List ℕ × A)) → each (keyed g) (pairs ms) ≡ Ok vs → each (keyed g) (pairs (members_with shown ps ms)) ≡ Ok (pairs_with ps vs)
  each-members_with shown again [] ms vs all = all
  each-members_with shown again (p ∷ ps) ms vs all = each-members_with shown again ps _ _ (each-put p.0 (shown p.1) p.1 ms vs (again p.1) all)
