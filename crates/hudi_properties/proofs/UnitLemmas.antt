-- The text that bytes with escapes spell is just the one that is read.
use Rattle.std.proofs.Common.{◌≡◌, ◌⊎◌, inl, inr, ℕ, zero, suc, ◌+◌, ◌*◌, List, [], ◌∷◌, ◌++◌, map, Option, Some, None, Bool, true, false, cond, not, refl, sym, ap, subst, ◌∙◌, append_assoc, arith}
use Rattle.std.specs.Prelude.{◌==◌, option_and_then, option_to_list, is_some}
use Rattle.std.specs.Char.{is_digit, digit_value}
use Rattle.std.specs.Char.Utf16.{utf16_chars, has_unpaired_surrogate, utf16_lossy_chars}
use Rattle.std.specs.List.{AllZip, concat, list_any}
use Rattle.std.specs.Option.{unwrap_or}
use Rattle.std.specs.Str.{encode_utf8_all}
use Rattle.std.proofs.lemmas.Bool.Decides.{nat_tests}
use Rattle.std.proofs.lemmas.List.{append-nil}
use Rattle.std.proofs.lemmas.Option.{same_Some}
use Rattle.hudi_properties.specs.declared.escape.Escape.{Escape}
use Rattle.hudi_properties.specs.declared.escape.Escape.TheVariants.{Outside, Backslash, Hex}
use Rattle.hudi_properties.specs.Escapes.{named, with_digit, step, units_from, utf16_text, unescaped}
use Rattle.hudi_properties.specs.Grammar.{IsHexDigit, Spells, SpellUnits, AreUnitsOf, SpellsText}
use Rattle.hudi_properties.proofs.EscapeLemmas.{with_units, with_units-none, units_step, units_stop}
use Rattle.hudi_properties.proofs.ReadLemmas.{none_unpaired, same_chars}
use Rattle.hudi_properties.proofs.WrittenLemmas.{layers}

-- ---- one byte

-- what stands in front of a byte that is read in this state
abbrev Before : Escape → List ℕ → Type 0
Before Outside front = front ≡ []
Before Backslash front = front ≡ 92 ∷ []
Before (Hex zero v) front = (front ≡ 92 ∷ 117 ∷ []) × (v ≡ 0)
Before (Hex (suc zero) v) front = (a : ℕ) × (front ≡ 92 ∷ 117 ∷ a ∷ []) × IsHexDigit a × (v ≡ digit_value a)
Before (Hex (suc (suc zero)) v) front = (a : ℕ) × (b : ℕ) × (front ≡ 92 ∷ 117 ∷ a ∷ b ∷ []) × IsHexDigit a × IsHexDigit b × (v ≡ digit_value a * 16 + digit_value b)
Before (Hex (suc (suc (suc zero))) v) front =
    (a : ℕ) × (b : ℕ) × (c : ℕ) × (front ≡ 92 ∷ 117 ∷ a ∷ b ∷ c ∷ []) × IsHexDigit a × IsHexDigit b × IsHexDigit c × (v ≡ (digit_value a * 16 + digit_value b) * 16 + digit_value c)
Before (Hex (suc (suc (suc (suc n)))) v) front = ⊥

-- The byte stands in front of the next one, or it ends the spelling of a unit.
abbrev Moves : List ℕ → ℕ → Escape → Option ℕ → Type 0
Moves front b next None = Before next (front ++ b ∷ [])
Moves front b next (Some u) = (next ≡ Outside) × Spells (front ++ b ∷ []) u

abbrev Advances : List ℕ → ℕ → Escape × Option ℕ → Type 0
Advances front b r = Moves front b r.0 r.1

outside_by : (b : ℕ) (x : Bool) → (b == 92) ≡ x → (r : Escape × Option ℕ) → cond x (Some (Backslash, None)) (Some (Outside, Some b)) ≡ Some r → Advances [] b r
outside_by b true is r e = let same : b ≡ 92 = grind (arith, nat_tests) in subst (Advances [] b) (same_Some (Backslash, None) r e) (ap (λ c. c ∷ []) same)
outside_by b false is r e = subst (Advances [] b) (same_Some (Outside, Some b) r e) (refl, inl (refl, λ same. absurd (grind (arith, nat_tests))))

backslash_by : (b : ℕ) (x : Bool) → (b == 117) ≡ x → (r : Escape × Option ℕ) → cond x (Some (Hex 0 0, None)) (Some (Outside, Some (named b))) ≡ Some r → Advances (92 ∷ []) b r
backslash_by b true is r e = let same : b ≡ 117 = grind (arith, nat_tests) in subst (Advances (92 ∷ []) b) (same_Some (Hex 0 0, None) r e) (ap (λ c. 92 ∷ c ∷ []) same, refl)
backslash_by b false is r e = subst (Advances (92 ∷ []) b) (same_Some (Outside, Some (named b)) r e) (refl, inr (inl (b, refl, (λ same. absurd (grind (arith, nat_tests))), refl)))

-- a hex digit behind others
hex_by : (d v b : ℕ) (front : List ℕ) (x : Bool) → is_digit b 16 ≡ x → (r : Escape × Option ℕ) → cond x (with_digit d (v * 16 + digit_value b)) None ≡ Some r → Before (Hex d v) front → Advances front b r
hex_by d v b front false is r e before = absurd (cc)
hex_by zero v b front true is r e before =
    let value : v * 16 + digit_value b ≡ digit_value b = rw before.1 (omega arith) in
    subst (Advances front b) (same_Some (Hex 1 (v * 16 + digit_value b), None) r e) (b, ap (λ f. f ++ b ∷ []) before.0, is, value)
hex_by (suc zero) v b front true is r e (a, at, da, is_v) =
    subst (Advances front b) (same_Some (Hex 2 (v * 16 + digit_value b), None) r e) (a, b, ap (λ f. f ++ b ∷ []) at, da, is, ap (λ w. w * 16 + digit_value b) is_v)
hex_by (suc (suc zero)) v c front true is r e (a, b, at, da, db, is_v) =
    subst (Advances front c) (same_Some (Hex 3 (v * 16 + digit_value c), None) r e) (a, b, c, ap (λ f. f ++ c ∷ []) at, da, db, is, ap (λ w. w * 16 + digit_value c) is_v)
hex_by (suc (suc (suc zero))) v d front true is r e (a, b, c, at, da, db, dc, is_v) =
    subst (Advances front d) (same_Some (Outside, Some (v * 16 + digit_value d)) r e)
    (refl, inr (inr (record { a = a; b = b; c = c; d = d; spelled = ap (λ f. f ++ d ∷ []) at; digits = (da, db, dc, is); value = ap (λ w. w * 16 + digit_value d) is_v })))
hex_by (suc (suc (suc (suc n)))) v d front true is r e before = absurd before

advance : (state : Escape) (b : ℕ) (front : List ℕ) (r : Escape × Option ℕ) → Before state front → step state b ≡ Some r → Advances front b r
advance Outside b front r before e = subst (λ f. Advances f b r) (sym before) (outside_by b (b == 92) refl r e)
advance Backslash b front r before e = subst (λ f. Advances f b r) (sym before) (backslash_by b (b == 117) refl r e)
advance (Hex d v) b front r before e = hex_by d v b front (is_digit b 16) refl r e before

-- ---- all bytes

units_parts : (front : List ℕ) (o : Option (List ℕ)) (units : List ℕ) → with_units front o ≡ Some units → (rest : List ℕ) × (o ≡ Some rest) × (units ≡ front ++ rest)
units_parts front None units e = absurd (cc)
units_parts front (Some rest) units e = (rest, refl, sym (same_Some (front ++ rest) units e))

one_byte : (state next : Escape) (b : ℕ) (bs : List ℕ) (unit : Option ℕ) → step state b ≡ Some (next, unit) → units_from state (b ∷ bs) ≡ with_units (option_to_list unit) (units_from next bs)
one_byte state next b bs unit is = sym (with_units-none (units_from state (b ∷ bs))) ∙ sym (units_step state next b bs unit [] is)

more_units : (piece bytes units : List ℕ) (u : ℕ) → Spells piece u → SpellUnits bytes units → SpellUnits (piece ++ bytes) (u ∷ units)
more_units piece bytes units u spells h = record {
  pieces = piece ∷ h.pieces;
  end = h.end;
  split = ap (λ l. piece ++ l) h.split ∙ sym (append_assoc piece (concat h.pieces) h.end);
  each = (spells, h.each);
  lone = h.lone;
}

no_units : (bytes : List ℕ) → (bytes ≡ []) ⊎ (bytes ≡ 92 ∷ []) → SpellUnits bytes []
no_units bytes lone = record { pieces = []; end = bytes; split = refl; each = tt; lone = lone }

-- what is so of the bytes behind
abbrev Later : List ℕ → Type 0
Later bs = (s : Escape) (f us : List ℕ) → Before s f → units_from s bs ≡ Some us → SpellUnits (f ++ bs) us

spelled : (bytes : List ℕ) (state : Escape) (front units : List ℕ) → Before state front → units_from state bytes ≡ Some units → SpellUnits (front ++ bytes) units
unfolding units_from
spelled [] Outside front units before e =
    subst (SpellUnits (front ++ [])) (same_Some [] units e) (no_units (front ++ []) (inl (append-nil front ∙ before)))
spelled [] Backslash front units before e =
    subst (SpellUnits (front ++ [])) (same_Some [] units e) (no_units (front ++ []) (inr (append-nil front ∙ before)))
spelled [] (Hex d v) front units before e = absurd (cc)
spelled (b ∷ bs) state front units before e = by (λ s f us h g. spelled bs s f us h g) (step state b) refl
  where
    moved : Later bs → (next : Escape) (unit : Option ℕ) → step state b ≡ Some (next, unit) → (rest : List ℕ) → units_from next bs ≡ Some rest → units ≡ option_to_list unit ++ rest → Moves front b next unit → SpellUnits (front ++ b ∷ bs) units
    moved later next None is rest more whole moves =
        subst (SpellUnits (front ++ b ∷ bs)) (sym whole) (subst (λ l. SpellUnits l rest) (append_assoc front (b ∷ []) bs) (later next (front ++ b ∷ []) rest moves more))
    moved later next (Some u) is rest more whole moves =
        let behind = later next [] rest (subst (λ s. Before s []) (sym moves.0) refl) more in
        subst (SpellUnits (front ++ b ∷ bs)) (sym whole) (subst (λ l. SpellUnits l (u ∷ rest)) (append_assoc front (b ∷ []) bs) (more_units (front ++ b ∷ []) bs rest u moves.1 behind))

    by : Later bs → (o : Option (Escape × Option ℕ)) → step state b ≡ o → SpellUnits (front ++ b ∷ bs) units
    by later None is = let none = sym (with_units-none (units_from state (b ∷ bs))) ∙ units_stop state b bs [] is in absurd (cc)
    by later (Some r) is =
        let parts = units_parts (option_to_list r.1) (units_from r.0 bs) units (sym (one_byte state r.0 b bs r.1 is) ∙ e) in
        moved later r.0 r.1 is parts.0 parts.1 parts.2 (advance state b front r before is)

-- ---- what bytes spell is read

piece_units : (piece rest : List ℕ) (u : ℕ) → Spells piece u → units_from Outside (piece ++ rest) ≡ with_units (u ∷ []) (units_from Outside rest)
unfolding units_from
piece_units piece rest u (inl h) =
    let other = h.1 in
    let no : (u == 92) ≡ false = grind (arith, nat_tests, other) in
    let one : step Outside u ≡ Some (Outside, Some u) = rw no refl in
    ap (λ l. units_from Outside (l ++ rest)) h.0 ∙ one_byte Outside Outside u rest (Some u) one
piece_units piece rest u (inr (inl (c, is, other, named_by))) =
    let no : (c == 117) ≡ false = grind (arith, nat_tests, other) in
    let one : step Backslash c ≡ Some (Outside, Some (named c)) = rw no refl in
    ap (λ l. units_from Outside (l ++ rest)) is ∙ one_byte Outside Backslash 92 (c ∷ rest) None refl ∙ with_units-none (units_from Backslash (c ∷ rest))
    ∙ one_byte Backslash Outside c rest (Some (named c)) one ∙ ap (λ w. with_units (w ∷ []) (units_from Outside rest)) (sym named_by)
piece_units piece rest u (inr (inr h)) =
    let same = h.value in
    let value : (((0 * 16 + digit_value h.a) * 16 + digit_value h.b) * 16 + digit_value h.c) * 16 + digit_value h.d ≡ u = omega (arith, same) in
    let all : units_from Outside (92 ∷ 117 ∷ h.a ∷ h.b ∷ h.c ∷ h.d ∷ rest) ≡ with_units (u ∷ []) (units_from Outside rest) =
    rw (h.digits.0, h.digits.1, h.digits.2, h.digits.3, value) (layers u (units_from Outside rest)) in
    ap (λ l. units_from Outside (l ++ rest)) h.spelled ∙ all

pieces_units : (pieces : List (List ℕ)) (units end : List ℕ) → AllZip Spells pieces units → (end ≡ []) ⊎ (end ≡ 92 ∷ []) → units_from Outside (concat pieces ++ end) ≡ Some units
unfolding units_from
pieces_units [] [] end h (inl is) = ap (units_from Outside) is
pieces_units [] [] end h (inr is) = ap (units_from Outside) is
pieces_units [] (u ∷ units) end h lone = absurd h
pieces_units (piece ∷ pieces) [] end h lone = absurd h
pieces_units (piece ∷ pieces) (u ∷ units) end h lone =
    ap (units_from Outside) (append_assoc piece (concat pieces) end) ∙ piece_units piece (concat pieces ++ end) u h.0 ∙ ap (with_units (u ∷ [])) (pieces_units pieces units end h.1 lone)

units_once : (bytes units : List ℕ) → SpellUnits bytes units → units_from Outside bytes ≡ Some units
units_once bytes units h = ap (units_from Outside) h.split ∙ pieces_units h.pieces units h.end h.each h.lone

-- ---- characters

all_there : (os : List (Option ℕ)) → list_any (λ o. not (is_some o)) os ≡ false → os ≡ map Some (map (λ o. unwrap_or o 0xFFFD) os)
all_there [] e = refl
all_there (None ∷ os) e = absurd (cc)
all_there (Some c ∷ os) e = ap (λ l. Some c ∷ l) (all_there os e)

text_by : (units text : List ℕ) (x : Bool) → has_unpaired_surrogate units ≡ x → cond x None (Some (encode_utf8_all (utf16_lossy_chars units))) ≡ Some text → AreUnitsOf units text
text_by units text true unpaired e = absurd (cc)
text_by units text false paired e =
    record { chars = utf16_lossy_chars units; utf16 = all_there (utf16_chars units) paired; utf8 = sym (same_Some (encode_utf8_all (utf16_lossy_chars units)) text e) }

units_text : (units text : List ℕ) → AreUnitsOf units text → utf16_text units ≡ Some text
units_text units text h =
    let paired : has_unpaired_surrogate units ≡ false = ap (list_any (λ o. not (is_some o))) h.utf16 ∙ none_unpaired h.chars in
    let chars : utf16_lossy_chars units ≡ h.chars = ap (map (λ o. unwrap_or o 0xFFFD)) h.utf16 ∙ same_chars h.chars in
    rw (paired, chars) (ap Some (sym h.utf8))

then_some : {A B : Type 0} (o : Option A) (f : A → Option B) (y : B) → option_and_then f o ≡ Some y → (x : A) × (o ≡ Some x) × (f x ≡ Some y)
then_some None f y e = absurd (cc)
then_some (Some x) f y e = (x, refl, e)

pub text_is : (bytes text : List ℕ) → unescaped bytes ≡ Some text → SpellsText bytes text
unfolding unescaped
text_is bytes text e =
    let parts = then_some (units_from Outside bytes) utf16_text text e in
    (parts.0, spelled bytes Outside [] parts.0 refl parts.1, text_by parts.0 text (has_unpaired_surrogate parts.0) refl parts.2)

pub text_once : (bytes text : List ℕ) → SpellsText bytes text → unescaped bytes ≡ Some text
unfolding unescaped
text_once bytes text h = ap (option_and_then utf16_text) (units_once bytes h.0 h.1) ∙ units_text h.0 text h.2
