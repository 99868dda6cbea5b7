-- Properties that were written, read again.
use Rattle.std.proofs.Common.{◌≡◌, ℕ, ◌+◌, ◌-◌, ◌/◌, ◌%◌, ◌<◌, ◌≤◌, List, [], ◌∷◌, ◌++◌, length, get_or, take, drop, map, Some, None, Ok, Bool, true, false, cond, not, nat_lt, refl, sym, ap, subst, ◌∙◌, append_assoc, arith, inl, inr, ◌⊎◌}
use Rattle.std.specs.Prelude.{◌==◌, take_while, filter, is_some}
use Rattle.std.specs.Option.{unwrap_or}
use Rattle.std.specs.Char.{IsScalar}
use Rattle.std.specs.Char.Escape.{encode_utf16}
use Rattle.std.specs.Char.Utf16.{utf16_chars, lone_unit_char, surrogate_pair_char, has_unpaired_surrogate, utf16_lossy_chars}
use Rattle.std.specs.List.{flat_map, list_any, AllByRecursion}
use Rattle.std.specs.Str.{chars, IsUtf8, all_scalars}
use Rattle.std.proofs.lemmas.Bool.Decides.{nat_tests}
use Rattle.std.proofs.lemmas.Grind.{flat_map-append}
use Rattle.std.proofs.lemmas.List.{append-nil, take_more}
use Rattle.std.proofs.lemmas.List.Sums.{take_while-cons}
use Rattle.std.proofs.lemmas.Str.{encodes-chars, scalars-chars, utf16_chars-nil, utf16_chars_lone, utf16_chars_pair}
use Rattle.std.proofs.lemmas.Bool.{and_parts}
use Rattle.hudi_properties.specs.declared.escape.Escape.TheVariants.{Outside}
use Rattle.hudi_properties.specs.Escapes.{units_from, utf16_text, unescaped}
use Rattle.hudi_properties.specs.Lines.{is_white, onto_first, lines_after, natural_lines, ends_escaped, trimmed, is_comment, is_continued, stepped, logical_from, logical_lines}
use Rattle.lake_basics.specs.Outcome.{each}
use Rattle.lake_basics.proofs.Lists.{take_front}
use Rattle.hudi_properties.specs.Pairs.{key_len, value_of, pair_of, pair_at, is_filled, in_order, properties_of}
use Rattle.hudi_properties.specs.Written.{escaped_char, escaped, pair_text, properties_text, IsUtf8Pair}
use Rattle.hudi_properties.proofs.WrittenLemmas.{IsPiece, IsStart, onto_front, piece_none, piece_append, piece_char}

scalar_small : (c : ℕ) → IsScalar c → c < 0x11_0000
scalar_small c is = grind (arith, nat_tests)

pub pieces : (cs : List ℕ) → all_scalars cs ≡ true → IsPiece (flat_map escaped_char cs) (flat_map encode_utf16 cs)
pieces [] h = piece_none
pieces (c ∷ cs) h = let parts = and_parts _ _ h in piece_append _ _ _ _ (piece_char c (scalar_small c parts.0)) (pieces cs parts.1)

-- ---- units are the characters' again

near_chars : (c : ℕ) (us : List ℕ) → c < 65536 → IsScalar c → utf16_chars (encode_utf16 c ++ us) ≡ Some c ∷ utf16_chars us
near_chars c us h is =
    let near : nat_lt c 65536 ≡ true = grind (arith, nat_tests) in
    let range : (c < 0xD800) ⊎ (0xE000 ≤ c) = grind (arith, nat_tests) in
    let lone : lone_unit_char c ≡ Some c = grind (arith, nat_tests) in
    rw near (utf16_chars_lone c us (λ pair. elim range [ inl low ↦ omega (arith, low, pair.0) | inr high ↦ omega (arith, high, pair.1) ]) ∙ rw lone)

far_chars : (c : ℕ) (us : List ℕ) → 65536 ≤ c → c < 0x11_0000 → utf16_chars (encode_utf16 c ++ us) ≡ Some c ∷ utf16_chars us
far_chars c us h small =
    let far : nat_lt c 65536 ≡ false = grind (arith, nat_tests) in
    let same : surrogate_pair_char (0xD800 + (c - 65536) / 0x400) (0xDC00 + (c - 65536) % 0x400) ≡ c = omega arith in
    rw far (utf16_chars_pair (0xD800 + (c - 65536) / 0x400) (0xDC00 + (c - 65536) % 0x400) us (omega arith, omega arith, omega arith, omega arith) ∙ rw same)

char_again : (r : Bool) (c : ℕ) (us : List ℕ) → nat_lt c 65536 ≡ r → IsScalar c → utf16_chars (encode_utf16 c ++ us) ≡ Some c ∷ utf16_chars us
char_again true c us near is = near_chars c us (grind (arith, nat_tests)) is
char_again false c us near is = far_chars c us (grind (arith, nat_tests)) (scalar_small c is)

chars_again : (cs : List ℕ) → all_scalars cs ≡ true → utf16_chars (flat_map encode_utf16 cs) ≡ map Some cs
chars_again [] h = utf16_chars-nil
chars_again (c ∷ cs) h = let parts = and_parts _ _ h in char_again (nat_lt c 65536) c (flat_map encode_utf16 cs) refl parts.0 ∙ ap (λ l. Some c ∷ l) (chars_again cs parts.1)

pub none_unpaired : (cs : List ℕ) → list_any (λ o. not (is_some o)) (map Some cs) ≡ false
none_unpaired [] = refl
none_unpaired (c ∷ cs) = none_unpaired cs

pub same_chars : (cs : List ℕ) → map (λ o. unwrap_or o 0xFFFD) (map Some cs) ≡ cs
same_chars [] = refl
same_chars (c ∷ cs) = ap (λ l. c ∷ l) (same_chars cs)

text_again : (text : List ℕ) → IsUtf8 text → utf16_text (flat_map encode_utf16 (chars text)) ≡ Some text
text_again text utf8 =
    let again = chars_again (chars text) (scalars-chars text utf8) in
    let paired : has_unpaired_surrogate (flat_map encode_utf16 (chars text)) ≡ false = ap (list_any (λ o. not (is_some o))) again ∙ none_unpaired (chars text) in
    let lossy : utf16_lossy_chars (flat_map encode_utf16 (chars text)) ≡ chars text = ap (map (λ o. unwrap_or o 0xFFFD)) again ∙ same_chars (chars text) in
    rw (paired, lossy) (ap Some (encodes-chars text utf8))

pub unescaped_again : (text : List ℕ) → IsUtf8 text → unescaped (escaped text) ≡ Some text
unfolding unescaped units_from
unescaped_again text utf8 =
    let piece = pieces (chars text) (scalars-chars text utf8) in
    let us = flat_map encode_utf16 (chars text) in
    let units : units_from Outside (escaped text) ≡ Some us = ap (units_from Outside) (sym (append-nil (escaped text))) ∙ piece.units [] ∙ ap Some (append-nil us) in
    rw units (text_again text utf8)

-- ---- lines

drop_front : (xs ys : List ℕ) → drop (length xs) (xs ++ ys) ≡ ys
drop_front [] ys = refl
drop_front (x ∷ xs) ys = drop_front xs ys

trimmed_start : (bs : List ℕ) → IsStart bs → trimmed bs ≡ bs
trimmed_start [] h = refl
trimmed_start (b ∷ bs) h =
    let none : length (cond (is_white b) (b ∷ take_while is_white bs) []) ≡ 0 = rw (h.0) in
    let len : length (take_while is_white (b ∷ bs)) ≡ 0 = ap length (take_while-cons is_white b bs) ∙ none in ap (λ n. drop n (b ∷ bs)) len

no_comment : (bs : List ℕ) → IsStart bs → is_comment bs ≡ false
no_comment [] h = refl
no_comment (b ∷ bs) h = h.1

abbrev line_of : List ℕ → List ℕ → List ℕ
line_of key value = escaped key ++ (61 ∷ escaped value)

piece_of : (text : List ℕ) → IsUtf8 text → IsPiece (escaped text) (flat_map encode_utf16 (chars text))
piece_of text utf8 = pieces (chars text) (scalars-chars text utf8)

start_of : (text : List ℕ) → IsUtf8 text → IsStart (escaped text)
start_of text utf8 = subst IsStart (append-nil (escaped text)) ((piece_of text utf8).start [] tt)

pair_again : (key value : List ℕ) → IsUtf8 key → IsUtf8 value → pair_of (line_of key value) ≡ Some (key, value)
unfolding pair_of
pair_again key value k v =
    let piece = piece_of key k in
    let len : key_len false (line_of key value) ≡ length (escaped key) = piece.key (61 ∷ escaped value) ∙ (let e : length (escaped key) + 0 ≡ length (escaped key) = omega arith in e) in
    let front : take (key_len false (line_of key value)) (line_of key value) ≡ escaped key = ap (λ n. take n (line_of key value)) len ∙ take_front (escaped key) (61 ∷ escaped value) in
    let behind : drop (key_len false (line_of key value)) (line_of key value) ≡ 61 ∷ escaped value = ap (λ n. drop n (line_of key value)) len ∙ drop_front (escaped key) (61 ∷ escaped value) in
    let of_value : value_of (drop (key_len false (line_of key value)) (line_of key value)) ≡ escaped value = ap value_of behind ∙ trimmed_start (escaped value) (start_of value v) in
    rw (front, of_value, unescaped_again key k, unescaped_again value v)

onto_front-line : (p l : List ℕ) (ls : List (List ℕ)) → onto_front p (l ∷ ls) ≡ (p ++ l) ∷ ls
onto_front-line [] l ls = refl
onto_front-line (b ∷ p) l ls = ap (onto_first b) (onto_front-line p l ls)

lines_again : (key value rest : List ℕ) → IsUtf8 key → IsUtf8 value → lines_after false (pair_text (key, value) ++ rest) ≡ line_of key value ∷ lines_after false rest
lines_again key value rest k v =
    let ek = escaped key in
    let ev = escaped value in
    let placed : pair_text (key, value) ++ rest ≡ ek ++ (61 ∷ (ev ++ (10 ∷ rest))) =
    append_assoc ek (61 ∷ (ev ++ (10 ∷ []))) rest ∙ ap (λ l. ek ++ (61 ∷ l)) (append_assoc ev (10 ∷ []) rest) in
    let second : lines_after false (ev ++ (10 ∷ rest)) ≡ ev ∷ lines_after false rest =
    (piece_of value v).lines (10 ∷ rest) ∙ onto_front-line ev [] (lines_after false rest) ∙ ap (λ l. l ∷ lines_after false rest) (append-nil ev) in
    ap (lines_after false) placed ∙ (piece_of key k).lines (61 ∷ (ev ++ (10 ∷ rest))) ∙ ap (λ ls. onto_front ek (onto_first 61 ls)) second ∙ onto_front-line ek (61 ∷ ev) (lines_after false rest)

whole_step : (n : ℕ) (key value : List ℕ) → IsUtf8 key → IsUtf8 value → stepped n None (line_of key value) ≡ record { whole = Some (record { number = n; content = line_of key value }); front = None }
whole_step n key value k v =
    let start : IsStart (line_of key value) = (piece_of key k).start (61 ∷ escaped value) (refl, refl) in
    let trim = trimmed_start (line_of key value) start in
    let comment = no_comment (line_of key value) start in
    let value_end : ends_escaped false (escaped value) ≡ false = ap (ends_escaped false) (sym (append-nil (escaped value))) ∙ (piece_of value v).ends [] in
    let goes_on : is_continued (line_of key value) ≡ false = (piece_of key k).ends (61 ∷ escaped value) ∙ value_end in
    rw (trim, comment, goes_on)

filled_by : (xs ys : List ℕ) → (length (xs ++ (61 ∷ ys)) == 0) ≡ false
filled_by [] ys = grind (arith, nat_tests)
filled_by (x ∷ xs) ys = grind (arith, nat_tests)

filled : (key value : List ℕ) → (length (line_of key value) == 0) ≡ false
filled key value = filled_by (escaped key) (escaped value)

line_step : (n : ℕ) (p : List ℕ × List ℕ) (ps : List (List ℕ × List ℕ)) (lines : List (List ℕ)) → IsUtf8Pair p → each pair_at (filter is_filled (logical_from (n + 1) None lines)) ≡ Ok ps
    → each pair_at (filter is_filled (logical_from n None (line_of p.0 p.1 ∷ lines))) ≡ Ok (p ∷ ps)
unfolding logical_from
line_step n p ps lines utf8 rest =
    let step = whole_step n p.0 p.1 utf8.0 utf8.1 in
    rw (step, filled p.0 p.1, pair_again p.0 p.1 utf8.0 utf8.1, rest)

all_again : (n : ℕ) (ps : List (List ℕ × List ℕ)) → AllByRecursion IsUtf8Pair ps → each pair_at (filter is_filled (logical_from n None (lines_after false (properties_text ps)))) ≡ Ok ps
unfolding logical_from
all_again n [] h = refl
all_again n (p ∷ ps) h =
    ap (λ lines. each pair_at (filter is_filled (logical_from n None lines))) (lines_again p.0 p.1 (properties_text ps) h.0.0 h.0.1)
    ∙ line_step n p ps (lines_after false (properties_text ps)) h.0 (all_again (n + 1) ps h.1)

pub texts_again : (ps : List (List ℕ × List ℕ)) → AllByRecursion IsUtf8Pair ps → properties_of (properties_text ps) ≡ Ok (in_order ps)
unfolding properties_of logical_lines natural_lines
texts_again ps h = rw (all_again 1 ps h)

-- ---- one pair more

one_more : (ps : List (List ℕ × List ℕ)) (i : ℕ) (p : List ℕ × List ℕ) → i < length ps → p ≡ get_or ps i p → take (i + 1) ps ≡ take i ps ++ p ∷ []
one_more ps i p within is = take_more ps i p within ∙ ap (λ x. take i ps ++ x ∷ []) (sym is)

pub texts_more : (ps : List (List ℕ × List ℕ)) (i : ℕ) (p : List ℕ × List ℕ) (old new : List ℕ) → i < length ps → p ≡ get_or ps i p → old ≡ properties_text (take i ps) → new ≡ old ++ pair_text p → new ≡ properties_text (take (i + 1) ps)
texts_more ps i p old new within is so_far more =
    more ∙ ap (λ o. o ++ pair_text p) so_far ∙ ap (λ t. properties_text (take i ps) ++ t) (sym (append-nil (pair_text p)))
    ∙ sym (flat_map-append pair_text (take i ps) (p ∷ [])) ∙ ap properties_text (sym (one_more ps i p within is))

all_push : (ps : List (List ℕ × List ℕ)) (p : List ℕ × List ℕ) → AllByRecursion IsUtf8Pair ps → IsUtf8Pair p → AllByRecursion IsUtf8Pair (ps ++ p ∷ [])
all_push [] p h more = (more, tt)
all_push (x ∷ xs) p h more = (h.0, all_push xs p h.1 more)

pub utf8_more : (ps : List (List ℕ × List ℕ)) (i : ℕ) (p : List ℕ × List ℕ) → i < length ps → p ≡ get_or ps i p → AllByRecursion IsUtf8Pair (take i ps) → IsUtf8Pair p → AllByRecursion IsUtf8Pair (take (i + 1) ps)
utf8_more ps i p within is so_far more = subst (AllByRecursion IsUtf8Pair) (sym (one_more ps i p within is)) (all_push (take i ps) p so_far more)
