-- Escaped texts, read again.
use Rattle.std.proofs.Common.{◌≡◌, ℕ, ◌+◌, ◌-◌, ◌*◌, ◌/◌, ◌%◌, ◌<◌, ◌≤◌, List, [], ◌∷◌, ◌++◌, length, Option, Some, None, Bool, true, false, nat_lt, nat_le, refl, sym, ap, subst, ◌∙◌, append_assoc, arith}
use Rattle.std.specs.Prelude.{◌==◌, ◌&&◌, ◌||◌}
use Rattle.std.specs.Char.{is_digit, digit_value}
use Rattle.std.specs.Char.Escape.{encode_utf16}
use Rattle.std.specs.Fmt.{digit_glyph}
use Rattle.std.proofs.lemmas.Bool.Decides.{nat_tests}
use Rattle.std.proofs.lemmas.Grind.{common_steps}
use Rattle.hudi_properties.specs.declared.escape.Escape.TheVariants.{Outside}
use Rattle.hudi_properties.specs.Escapes.{named, units_from}
use Rattle.hudi_properties.specs.Lines.{escapes, is_white, is_line_end, onto_first, lines_after, ends_escaped}
use Rattle.hudi_properties.specs.Pairs.{is_key_end, key_len}
use Rattle.hudi_properties.specs.Written.{is_marked, name_of, escaped_unit, escaped_far, escaped_other, escaped_char}
use Rattle.hudi_properties.proofs.EscapeLemmas.{with_units, with_units-none}

abbrev pub onto_front : List ℕ → List (List ℕ) → List (List ℕ)
onto_front [] lines = lines
onto_front (b ∷ p) lines = onto_first b (onto_front p lines)

-- what begins neither white space nor a comment
abbrev pub IsStart : List ℕ → Type 0
IsStart [] = Unit {0}
IsStart (b ∷ bs) = (is_white b ≡ false) × (((b == 35) || (b == 33)) ≡ false)

-- A piece of an escaped text spells these units, whatever follows, and ends no key, no line and no escape.
pub record IsPiece (p us : List ℕ) : Type 0 where
  pub units : (rest : List ℕ) → units_from Outside (p ++ rest) ≡ with_units us (units_from Outside rest)
  pub key : (rest : List ℕ) → key_len false (p ++ rest) ≡ length p + key_len false rest
  pub ends : (rest : List ℕ) → ends_escaped false (p ++ rest) ≡ ends_escaped false rest
  pub lines : (rest : List ℕ) → lines_after false (p ++ rest) ≡ onto_front p (lines_after false rest)
  pub start : (rest : List ℕ) → IsStart rest → IsStart (p ++ rest)

with_units-append : (us vs : List ℕ) (o : Option (List ℕ)) → with_units us (with_units vs o) ≡ with_units (us ++ vs) o
with_units-append us vs None = refl
with_units-append us vs (Some ws) = ap Some (sym (append_assoc us vs ws))

onto_front-append : (p q : List ℕ) (lines : List (List ℕ)) → onto_front p (onto_front q lines) ≡ onto_front (p ++ q) lines
onto_front-append [] q lines = refl
onto_front-append (b ∷ p) q lines = ap (onto_first b) (onto_front-append p q lines)

length-both : (p q : List ℕ) → length (p ++ q) ≡ length p + length q
length-both [] q = sym (omega arith)
length-both (b ∷ p) q = rw (length-both p q) (omega arith)

pub piece_none : IsPiece [] []
piece_none = record {
  units = λ rest. sym (with_units-none (units_from Outside rest));
  key = λ rest. omega arith;
  ends = λ rest. refl;
  lines = λ rest. refl;
  start = λ rest h. h;
}

pub piece_append : (p q us vs : List ℕ) → IsPiece p us → IsPiece q vs → IsPiece (p ++ q) (us ++ vs)
piece_append p q us vs first second = record {
  units = λ rest. ap (units_from Outside) (append_assoc p q rest) ∙ first.units (q ++ rest) ∙ ap (with_units us) (second.units rest) ∙ with_units-append us vs (units_from Outside rest);
  key = λ rest.
      let a = first.key (q ++ rest) in let b = second.key rest in
      let len = length-both p q in
      ap (key_len false) (append_assoc p q rest) ∙ (let e : key_len false (p ++ (q ++ rest)) ≡ length (p ++ q) + key_len false rest = omega (arith, a, b, len) in e);
  ends = λ rest. ap (ends_escaped false) (append_assoc p q rest) ∙ first.ends (q ++ rest) ∙ second.ends rest;
  lines = λ rest. ap (lines_after false) (append_assoc p q rest) ∙ first.lines (q ++ rest) ∙ ap (onto_front p) (second.lines rest) ∙ onto_front-append p q (lines_after false rest);
  start = λ rest h. subst IsStart (sym (append_assoc p q rest)) (first.start (q ++ rest) (second.start rest h));
}

-- a character that stands as it is
pub piece_plain : (c : ℕ) → (c == 92) ≡ false → is_key_end c ≡ false → is_line_end c ≡ false → ((c == 35) || (c == 33)) ≡ false → is_white c ≡ false → IsPiece (c ∷ []) (c ∷ [])
unfolding units_from
piece_plain c slash key_end line_end comment white = record {
  units = λ rest. rw slash;
  key = λ rest. rw (key_end, slash);
  ends = λ rest. ap (λ b. ends_escaped b rest) slash;
  lines = λ rest. rw line_end;
  start = λ rest h. (white, comment);
}

pub piece_marked : (x u : ℕ) → (x == 117) ≡ false → named x ≡ u → is_line_end x ≡ false → IsPiece (92 ∷ x ∷ []) (u ∷ [])
unfolding units_from
piece_marked x u unit name line_end = record {
  units = λ rest. rw (unit, name) (with_units-none (with_units (u ∷ []) (units_from Outside rest)));
  key = λ rest. grind (arith, common_steps);
  ends = λ rest. refl;
  lines = λ rest. rw line_end;
  start = λ rest h. (refl, refl);
}

-- ---- hex digits

pub record IsHexOf (h d : ℕ) : Type 0 where
  pub digit : is_digit h 16 ≡ true
  pub value : digit_value h ≡ d
  pub slash : (h == 92) ≡ false
  pub key_end : is_key_end h ≡ false
  pub line_end : is_line_end h ≡ false

hex_of : (d : ℕ) → d < 16 → IsHexOf (digit_glyph true d) d
hex_of d h = record {
  digit = grind (arith, nat_tests);
  value = grind (arith, nat_tests);
  slash = grind (arith, nat_tests);
  key_end = grind (arith, nat_tests);
  line_end = grind (arith, nat_tests);
}

pub layers : (u : ℕ) (o : Option (List ℕ)) → with_units [] (with_units [] (with_units [] (with_units [] (with_units [] (with_units (u ∷ []) o))))) ≡ with_units (u ∷ []) o
layers u None = refl
layers u (Some us) = refl

hex_piece : (a b c d w x y z u : ℕ) → IsHexOf a w → IsHexOf b x → IsHexOf c y → IsHexOf d z → (((0 * 16 + w) * 16 + x) * 16 + y) * 16 + z ≡ u → IsPiece (92 ∷ 117 ∷ a ∷ b ∷ c ∷ d ∷ []) (u ∷ [])
unfolding units_from
hex_piece a b c d w x y z u ha hb hc hd is = record {
  units = λ rest. rw (ha.digit, hb.digit, hc.digit, hd.digit, ha.value, hb.value, hc.value, hd.value, is) (layers u (units_from Outside rest));
  key = λ rest. rw (ha.key_end, ha.slash, hb.key_end, hb.slash, hc.key_end, hc.slash, hd.key_end, hd.slash) (omega arith);
  ends = λ rest. let e : escapes (escapes (escapes (a == 92) b) c) d ≡ false = rw (ha.slash, hb.slash, hc.slash, hd.slash) in ap (λ f. ends_escaped f rest) e;
  lines = λ rest. rw (ha.line_end, hb.line_end, hc.line_end, hd.line_end);
  start = λ rest h. (refl, refl);
}

pub piece_unit : (u : ℕ) → u < 65536 → IsPiece (escaped_unit u) (u ∷ [])
piece_unit u small =
    hex_piece _ _ _ _ (u / 4096) (u / 256 % 16) (u / 16 % 16) (u % 16) u (hex_of (u / 4096) (omega arith)) (hex_of (u / 256 % 16) (omega arith)) (hex_of (u / 16 % 16) (omega arith)) (hex_of (u % 16) (omega arith)) (omega arith)

-- ---- characters

piece_far : (r : Bool) (c : ℕ) → nat_lt c 65536 ≡ r → c < 0x11_0000 → IsPiece (escaped_far c) (encode_utf16 c)
piece_far true c near scalar = rw near (piece_unit c (grind (arith, nat_tests)))
piece_far false c near scalar =
    let far : 65536 ≤ c = grind (arith, nat_tests) in
    rw near (piece_append _ _ _ _ (piece_unit (0xD800 + (c - 0x1_0000) / 1024) (omega arith)) (piece_unit (0xDC00 + (c - 0x1_0000) % 1024) (omega arith)))

single : (c : ℕ) → c < 65536 → encode_utf16 c ≡ c ∷ []
single c h = let near : nat_lt c 65536 ≡ true = grind (arith, nat_tests) in rw near

record IsName (c n : ℕ) : Type 0 where
  value : named n ≡ c
  unit : (n == 117) ≡ false
  line_end : is_line_end n ≡ false
  small : c < 32

name_by : (t l r f : Bool) (c n : ℕ) → (c == 9) ≡ t → (c == 10) ≡ l → (c == 13) ≡ r → (c == 12) ≡ f → name_of c ≡ Some n → IsName c n
name_by true l r f c n a b d e is = let g : Some 116 ≡ Some n = sym (rw a) ∙ is in let same : 116 ≡ n = cc in let nine : c ≡ 9 = grind (arith, nat_tests) in
    subst (λ k. IsName c k) same (record { value = sym nine; unit = refl; line_end = refl; small = omega arith })
name_by false true r f c n a b d e is = let g : Some 110 ≡ Some n = sym (rw (a, b)) ∙ is in let same : 110 ≡ n = cc in let ten : c ≡ 10 = grind (arith, nat_tests) in
    subst (λ k. IsName c k) same (record { value = sym ten; unit = refl; line_end = refl; small = omega arith })
name_by false false true f c n a b d e is = let g : Some 114 ≡ Some n = sym (rw (a, b, d)) ∙ is in let same : 114 ≡ n = cc in let is_13 : c ≡ 13 = grind (arith, nat_tests) in
    subst (λ k. IsName c k) same (record { value = sym is_13; unit = refl; line_end = refl; small = omega arith })
name_by false false false true c n a b d e is = let g : Some 102 ≡ Some n = sym (rw (a, b, d, e)) ∙ is in let same : 102 ≡ n = cc in let is_12 : c ≡ 12 = grind (arith, nat_tests) in
    subst (λ k. IsName c k) same (record { value = sym is_12; unit = refl; line_end = refl; small = omega arith })
name_by false false false false c n a b d e is = let g : name_of c ≡ None = rw (a, b, d, e) in absurd (cc)

char_by_print : (r : Bool) (c : ℕ) → (nat_le 32 c && nat_le c 126) ≡ r → is_marked c ≡ false → c < 0x11_0000 → IsPiece (escaped_other c None) (encode_utf16 c)
char_by_print true c printable unmarked scalar =
    let low : 32 ≤ c = grind (arith, nat_tests) in
    let high : c ≤ 126 = grind (arith, nat_tests) in
    rw (printable, single c (omega arith))
    (piece_plain c (grind (arith, nat_tests)) (grind (arith, nat_tests)) (grind (arith, nat_tests)) (grind (arith, nat_tests)) (grind (arith, nat_tests)))
char_by_print false c printable unmarked scalar = rw printable (piece_far (nat_lt c 65536) c refl scalar)

char_by_name : (o : Option ℕ) (c : ℕ) → name_of c ≡ o → is_marked c ≡ false → c < 0x11_0000 → IsPiece (escaped_other c o) (encode_utf16 c)
char_by_name None c is unmarked scalar = char_by_print (nat_le 32 c && nat_le c 126) c refl unmarked scalar
char_by_name (Some n) c is unmarked scalar =
    let name = name_by (c == 9) (c == 10) (c == 13) (c == 12) c n refl refl refl refl is in
    rw (single c (omega (arith, name.small))) (piece_marked n c name.unit name.value name.line_end)

char_by_mark : (r : Bool) (c : ℕ) → is_marked c ≡ r → c < 0x11_0000 → IsPiece (escaped_char c) (encode_utf16 c)
char_by_mark true c marked scalar =
    let low : 32 ≤ c = grind (arith, nat_tests) in
    let high : c ≤ 92 = grind (arith, nat_tests) in
    rw (marked, single c (omega arith)) (piece_marked c c (grind (arith, nat_tests)) (grind (arith, nat_tests)) (grind (arith, nat_tests)))
char_by_mark false c marked scalar = rw marked (char_by_name (name_of c) c refl marked scalar)

pub piece_char : (c : ℕ) → c < 0x11_0000 → IsPiece (escaped_char c) (encode_utf16 c)
piece_char c scalar = char_by_mark (is_marked c) c refl scalar
