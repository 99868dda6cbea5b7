-- The tokens of a row's JSON, and that each byte of its text is printed as it is.
use Rattle.std.proofs.Common.{◌≡◌, ℕ, zero, suc, ◌/◌, ◌%◌, ℤ, pos, negsuc, List, [], ◌∷◌, ◌++◌, Bool, true, false, cond, map, refl, ap₂, ◌∙◌, nat_lt, arith}
use Rattle.std.proofs.lemmas.Grind.{common_steps}
use Rattle.std.proofs.lemmas.List.{map-append}
use Rattle.std.specs.Prelude.{◌==◌, decimal}
use Rattle.std.specs.Char.{digit_char}
use Rattle.std.specs.Fmt.{digits, digits_onto, digit_glyph, signed_decimal}
use Rattle.json.specs.Print.{escape_letter, escape_byte, escape, quoted}
use Rattle.serde_json.specs.Find.{of_integer}
use Rattle.serde_json.specs.View.{items_of}
use Rattle.serde_json.specs.Written.{number_text, compact_text, items_text}
use Rattle.table_history.specs.Row.{Row}
use Rattle.table_history.specs.declared.row.PartValue.{PartValue}
use Rattle.table_history.specs.declared.row.PartValue.TheVariants as value
use Rattle.table_lines.specs.Lines.{printed}
use Rattle.table_lines.specs.TableLines.{value_data, row_data}

pub number_text-of_integer : (z : ℤ) → signed_decimal z ≡ number_text (of_integer z)
number_text-of_integer (pos n) = refl
number_text-of_integer (negsuc n) = refl

-- ---- printed as it is

abbrev IsShown : List ℕ → Type 0
IsShown s = map printed s ≡ s

shown-cons : (x : ℕ) (s : List ℕ) → printed x ≡ x → IsShown s → IsShown (x ∷ s)
shown-cons x s one rest = ap₂ (λ y t. y ∷ t) one rest

shown-append : (s t : List ℕ) → IsShown s → IsShown t → IsShown (s ++ t)
shown-append s t one other = map-append printed s t ∙ ap₂ (λ a b. a ++ b) one other

glyph : (d : ℕ) → printed (digit_glyph false d) ≡ digit_glyph false d
glyph d = grind (arith, common_steps)

shown-digits_onto : (k n : ℕ) (acc : List ℕ) → IsShown acc → IsShown (digits_onto k 10 false n acc)
shown-digits_onto zero n acc shown = shown
shown-digits_onto (suc k) n acc shown =
    let more : IsShown (digit_glyph false (n % 10) ∷ acc) = shown-cons _ acc (glyph (n % 10)) shown in
    elim (n / 10 == 0) as (λ b. IsShown (cond b (digit_glyph false (n % 10) ∷ acc) (digits_onto k 10 false (n / 10) (digit_glyph false (n % 10) ∷ acc)))) [ true ↦ more | false ↦ shown-digits_onto k (n / 10) _ more ]

shown-decimal : (n : ℕ) → IsShown (decimal n)
unfolding digits
shown-decimal n = shown-digits_onto 64 n [] refl

shown-integer : (z : ℤ) → IsShown (number_text (of_integer z))
shown-integer (pos n) = shown-decimal n
shown-integer (negsuc n) = shown-cons 45 _ refl (shown-decimal (suc n))

digit : (d : ℕ) → printed (digit_char d) ≡ digit_char d
digit d = grind (arith, common_steps)

letter : (x : ℕ) → nat_lt 0 (escape_letter x) ≡ true → printed (escape_letter x) ≡ escape_letter x
letter x some = grind (arith, common_steps)

plain : (x : ℕ) (b : Bool) → nat_lt x 32 ≡ b → IsShown (cond b (92 ∷ 117 ∷ 48 ∷ 48 ∷ digit_char (x / 16) ∷ digit_char (x % 16) ∷ []) (x ∷ []))
plain x true low = shown-append (92 ∷ 117 ∷ 48 ∷ 48 ∷ []) _ refl (shown-cons _ _ (digit (x / 16)) (shown-cons _ _ (digit (x % 16)) refl))
plain x false high = shown-cons x [] (grind (arith, common_steps)) refl

either : (x : ℕ) (b : Bool) → nat_lt 0 (escape_letter x) ≡ b → IsShown (cond b (92 ∷ escape_letter x ∷ []) (cond (nat_lt x 32) (92 ∷ 117 ∷ 48 ∷ 48 ∷ digit_char (x / 16) ∷ digit_char (x % 16) ∷ []) (x ∷ [])))
either x true some = shown-cons 92 _ refl (shown-cons _ [] (letter x some) refl)
either x false none = plain x (nat_lt x 32) refl

shown-escape_byte : (x : ℕ) → IsShown (escape_byte x)
unfolding escape_byte
shown-escape_byte x = either x (nat_lt 0 (escape_letter x)) refl

shown-escape : (s : List ℕ) → IsShown (escape s)
shown-escape [] = refl
shown-escape (x ∷ s) = shown-append (escape_byte x) (escape s) (shown-escape_byte x) (shown-escape s)

shown-quoted : (s : List ℕ) → IsShown (quoted s)
shown-quoted s = shown-cons 34 _ refl (shown-append (escape s) (34 ∷ []) (shown-escape s) refl)

shown-value : (v : PartValue) → IsShown (compact_text (value_data v))
shown-value value.Null = refl
shown-value (value.Boolean true) = refl
shown-value (value.Boolean false) = refl
shown-value (value.Int n) = shown-integer n
shown-value (value.Long n) = shown-integer n
shown-value (value.Text text) = shown-quoted text
shown-value (value.Date days) = shown-integer days

shown-item : (first : List ℕ) (v : PartValue) (rest : List ℕ) → IsShown first → IsShown rest → IsShown (first ++ (compact_text (value_data v) ++ rest))
shown-item first v rest before behind = shown-append first _ before (shown-append (compact_text (value_data v)) rest (shown-value v) behind)

shown-later : (vs : List PartValue) → IsShown (items_text true (items_of (map value_data vs)))
shown-later [] = refl
shown-later (v ∷ vs) = shown-item (44 ∷ []) v _ refl (shown-later vs)

shown-values : (vs : List PartValue) → IsShown (items_text false (items_of (map value_data vs)))
shown-values [] = refl
shown-values (v ∷ vs) = shown-item [] v _ refl (shown-later vs)

-- the text of a row's JSON
pub shown-row : (row : Row) → map printed (compact_text (row_data row)) ≡ compact_text (row_data row)
shown-row row =
    let values = shown-append (44 ∷ 91 ∷ []) _ refl (shown-append _ (93 ∷ []) (shown-values row.values) refl) in
    let size = shown-cons 44 _ refl (shown-append (decimal row.size) _ (shown-decimal row.size) values) in
    let count = shown-cons 44 _ refl (shown-append (decimal row.count) _ (shown-decimal row.count) size) in shown-cons 91 _ refl (shown-append (quoted row.path) _ (shown-quoted row.path) count)
