-- Relative URIs: what the tests say is what the relations say, and what is escaped is read again.
use Rattle.std.specs.Char.{is_digit, is_ascii_alphabetic}
use Rattle.std.specs.Fmt.{digit_glyph}
use Rattle.std.specs.List.{list_all, slice_split, prefix_len, take_while}
use Rattle.std.proofs.lemmas.List.{get_or_past, get_or-drop, get_or-take, take-append-drop}
use Rattle.std.proofs.lemmas.List.Splits.{slice_split-cons_yes}
use Rattle.std.proofs.lemmas.List.Prefix.{front_fits, front_rest, front_reads}
use Rattle.std.proofs.lemmas.List.Sums.{prefix_len_is, prefix_len_passes}
use Rattle.std.proofs.lemmas.List.Folds.{length-prefix_len}
use Rattle.lake_basics.specs.declared.limits.TheConstants.{MAX_PATH_BYTES}
use Rattle.table_history.specs.Path.{IsPath, IsPathOfAnyLength, IsSegment, is_slash, is_path, is_path_of_any_length}
use Rattle.std.proofs.Common.{Option, Some, None, is_some, Bool, Result, Ok, Err, IfOk, IfErr, ◌+◌, ◌/◌, ◌%◌, zero, suc, ◌≤◌, ◌≡◌, ◌≢◌, inl, inr, ℕ, ◌<◌, true, false, List, [], ◌∷◌, ◌++◌, length, take, drop, get_or, All, refl, sym, ap, subst, ◌∙◌, ⊎_elim, arith, drop-cons}
use Rattle.std.specs.Prelude.{not, ◌||◌, ◌==◌, nat_lt, nat_le}
use Rattle.std.proofs.lemmas.Bool.{cases_Bool, cases_lt, cond-true, cond-false, true≢false, and_parts, and_from, or_cases, or_left, or_right, eqb-true, eq-eqb, ltb-true, lt-ltb, not-true, and_left, and_right, lt-leb, not_from_false, false_from_ne_true}
use Rattle.std.proofs.lemmas.Bool.Decides.{nat_tests}
use Rattle.std.proofs.lemmas.List.Elements.{All-nil, All-cons, All-get_or, All-from_get_or, All-head, All-tail}
use Rattle.memchr.specs.Find.{IsFirst, Nowhere, Passes, is_byte3}
use Rattle.percent_encoding.specs.Percent.{percent_encode_byte, percent_decode}
use Rattle.percent_encoding.proofs.PercentLemmas.{percent_decode-nil, percent_decode_not_percent, percent_decode-percent_encode_byte, IsByte}
use Rattle.table_history.proofs.PathTests.{path_decided, path_of_any_length_decided}
use Rattle.partition_map.specs.Uri.{is_plain, escaped_byte, escaped_path, is_scheme_byte, HasScheme, IsOutside, HasHexPair, IsPathByte, IsWellEscaped, NamesPath, BreaksLengthAlone, NamesNoPath, ExplainsRefusal}
use Rattle.partition_map.specs.UriPath.{UriPath, inside_table, too_long, outside_table, no_path, has_scheme, is_outside, begins_hex, is_path_byte, is_well_escaped, path_place, uri_path, RefusesPath, GivesPath}
use Rattle.partition_map.specs.declared.error.PartError.{PartError}
use Rattle.partition_map.specs.declared.error.PartError.TheVariants.{Memory, OutsideTable, BadPath, TooLong, BadValue, ValueForm}

-- ---- a scheme
colon_at : (uri : List ℕ) → has_scheme uri ≡ true → (is_ascii_alphabetic (get_or uri 0 0) ≡ true) × (get_or uri (prefix_len is_scheme_byte uri) 0 ≡ 58)
colon_at uri h =
    let parts = and_parts (is_ascii_alphabetic (get_or uri 0 0)) (get_or uri (length (take_while is_scheme_byte uri)) 0 == 58) h in
    (parts.0, subst (λ k. get_or uri k 0 ≡ 58) (length-prefix_len is_scheme_byte uri) (eqb-true _ 58 parts.1))

scheme_letter : (uri : List ℕ) (n : ℕ) → is_ascii_alphabetic (get_or uri 0 0) ≡ true → get_or uri n 0 ≡ 58 → is_ascii_alphabetic (get_or (take n uri) 0 0) ≡ true
scheme_letter uri zero letter at = absurd (true≢false (sym letter ∙ ap is_ascii_alphabetic at))
scheme_letter uri (suc n) letter at = ap is_ascii_alphabetic (get_or-take (suc n) uri 0 0 (omega arith)) ∙ letter

HasScheme-from_test : (uri : List ℕ) → has_scheme uri ≡ true → HasScheme uri
HasScheme-from_test uri h =
    let n = prefix_len is_scheme_byte uri in
    let parts = colon_at uri h in
    let at : get_or uri n 0 ≡ 58 = parts.1 in
    let within : n < length uri = ⊎_elim (λ lt. lt) (λ past. absurd (omega (arith, get_or_past uri n 0 past, at))) (cases_lt n (length uri)) in
    let passes : (k : ℕ) → k < length (take n uri) → is_scheme_byte (get_or (take n uri) k 0) ≡ true =
    λ k small.
    let before : k < n = omega (arith, small, length-prefix_len is_scheme_byte uri) in
    ap is_scheme_byte (get_or-take n uri k 0 before) ∙ prefix_len_passes is_scheme_byte uri k 0 before in
    record {
      scheme = take n uri;
      rest = drop (suc n) uri;
      split = sym (take-append-drop n uri) ∙ ap (λ l. take n uri ++ l) (drop-cons uri n 0 within ∙ ap (λ b. b ∷ drop (suc n) uri) at);
      letter = scheme_letter uri n parts.0 at;
      bytes = All-from_get_or (λ b. is_scheme_byte b ≡ true) (take n uri) 0 passes;
    }

first_letter : (uri scheme rest : List ℕ) → uri ≡ scheme ++ 58 ∷ rest → is_ascii_alphabetic (get_or scheme 0 0) ≡ true → is_ascii_alphabetic (get_or uri 0 0) ≡ true
first_letter uri [] rest split letter = absurd (true≢false (sym letter))
first_letter uri (b ∷ scheme) rest split letter = ap (λ l. is_ascii_alphabetic (get_or l 0 0)) split ∙ letter

test-from_HasScheme : (uri : List ℕ) → HasScheme uri → has_scheme uri ≡ true
test-from_HasScheme uri h =
    let n = length h.scheme in
    let at : get_or uri n 0 ≡ 58 = ap (λ k. get_or uri k 0) (let e : n ≡ n + 0 = omega arith in e) ∙ sym (get_or-drop n uri 0 0) ∙ ap (λ l. get_or l 0 0) (front_rest uri h.scheme (58 ∷ h.rest) h.split) in
    let passes : (k : ℕ) → k < n → is_scheme_byte (get_or uri k 0) ≡ true =
    λ k small. ap is_scheme_byte (front_reads 0 uri h.scheme (58 ∷ h.rest) h.split k small) ∙ All-get_or (λ b. is_scheme_byte b ≡ true) h.scheme k 0 small h.bytes in
    let len : prefix_len is_scheme_byte uri ≡ n = prefix_len_is is_scheme_byte uri n 0 (front_fits uri h.scheme (58 ∷ h.rest) h.split) passes (λ within. ap is_scheme_byte at) in
    let stops : get_or uri (length (take_while is_scheme_byte uri)) 0 ≡ 58 = ap (λ k. get_or uri k 0) (length-prefix_len is_scheme_byte uri ∙ len) ∙ at in
    and_from _ _ (first_letter uri h.scheme h.rest h.split h.letter) (eq-eqb _ 58 stops)

IsOutside-from_test : (uri : List ℕ) → is_outside uri ≡ true → IsOutside uri
IsOutside-from_test uri h =
    ⊎_elim (λ slash. inl (eqb-true (get_or uri 0 0) 47 slash)) (λ scheme. inr (HasScheme-from_test uri scheme)) (or_cases (get_or uri 0 0 == 47) (has_scheme uri) h)

test-from_IsOutside : (uri : List ℕ) → IsOutside uri → is_outside uri ≡ true
test-from_IsOutside uri h =
    ⊎_elim (λ slash. or_left (get_or uri 0 0 == 47) (has_scheme uri) (eq-eqb _ 47 slash)) (λ scheme. or_right (get_or uri 0 0 == 47) (has_scheme uri) (test-from_HasScheme uri scheme)) h

not_outside : (uri : List ℕ) → is_outside uri ≡ false → IsOutside uri → ⊥
not_outside uri h outside = true≢false (sym (test-from_IsOutside uri outside) ∙ h)

-- ---- escapes
pair_next : (b : ℕ) (uri : List ℕ) (i : ℕ) → HasHexPair uri i → HasHexPair (b ∷ uri) (suc i)
pair_next b uri i h = record {
  room = omega (arith, h.room);
  high = subst (λ k. is_digit (get_or (b ∷ uri) k 0) 16 ≡ true) (let e : suc (i + 1) ≡ suc i + 1 = omega arith in e) h.high;
  low = subst (λ k. is_digit (get_or (b ∷ uri) k 0) 16 ≡ true) (let e : suc (i + 2) ≡ suc i + 2 = omega arith in e) h.low;
}

pair_rest : (b : ℕ) (uri : List ℕ) (i : ℕ) → HasHexPair (b ∷ uri) (suc i) → HasHexPair uri i
pair_rest b uri i h = record {
  room = omega (arith, h.room);
  high = subst (λ k. is_digit (get_or (b ∷ uri) k 0) 16 ≡ true) (let e : suc i + 1 ≡ suc (i + 1) = omega arith in e) h.high;
  low = subst (λ k. is_digit (get_or (b ∷ uri) k 0) 16 ≡ true) (let e : suc i + 2 ≡ suc (i + 2) = omega arith in e) h.low;
}

byte_next : (b : ℕ) (uri : List ℕ) (i : ℕ) → IsPathByte uri i → IsPathByte (b ∷ uri) (suc i)
byte_next b uri i h = record { no_query = h.no_query; no_fragment = h.no_fragment; escape = λ e. pair_next b uri i (h.escape e) }

byte_rest : (b : ℕ) (uri : List ℕ) (i : ℕ) → IsPathByte (b ∷ uri) (suc i) → IsPathByte uri i
byte_rest b uri i h = record { no_query = h.no_query; no_fragment = h.no_fragment; escape = λ e. pair_rest b uri i (h.escape e) }

pair_from_test : (b : ℕ) (uri : List ℕ) → begins_hex uri ≡ true → HasHexPair (b ∷ uri) 0
pair_from_test b uri h =
    let parts = and_parts (nat_lt 1 (length uri)) _ h in
    let digits = and_parts (is_digit (get_or uri 0 0) 16) (is_digit (get_or uri 1 0) 16) parts.1 in
    record { room = omega (arith, ltb-true 1 (length uri) parts.0); high = digits.0; low = digits.1 }

test-from_pair : (b : ℕ) (uri : List ℕ) → HasHexPair (b ∷ uri) 0 → begins_hex uri ≡ true
test-from_pair b uri h =
    and_from (nat_lt 1 (length uri)) _ (lt-ltb 1 (length uri) (omega (arith, h.room))) (and_from (is_digit (get_or uri 0 0) 16) (is_digit (get_or uri 1 0) 16) h.high h.low)

byte_from_test : (b : ℕ) (uri : List ℕ) → is_path_byte b uri ≡ true → IsPathByte (b ∷ uri) 0
byte_from_test b uri h =
    let parts = and_parts (not ((b == 63) || (b == 35))) (not (b == 37) || begins_hex uri) h in
    let plain : ((b == 63) || (b == 35)) ≡ false = not-true _ parts.0 in
    record {
      no_query = λ e. true≢false (sym (or_left (b == 63) (b == 35) (eq-eqb b 63 e)) ∙ plain);
      no_fragment = λ e. true≢false (sym (or_right (b == 63) (b == 35) (eq-eqb b 35 e)) ∙ plain);
      escape = λ e.
          ⊎_elim (λ other. absurd (true≢false (sym (eq-eqb b 37 e) ∙ not-true (b == 37) other))) (λ hex. pair_from_test b uri hex)
          (or_cases (not (b == 37)) (begins_hex uri) parts.1);
    }

test-from_byte : (b : ℕ) (uri : List ℕ) → IsPathByte (b ∷ uri) 0 → is_path_byte b uri ≡ true
test-from_byte b uri h =
    let plain : ((b == 63) || (b == 35)) ≡ false =
    false_from_ne_true _ (λ t. ⊎_elim (λ e. h.no_query (eqb-true b 63 e)) (λ e. h.no_fragment (eqb-true b 35 e)) (or_cases (b == 63) (b == 35) t)) in
    let escape : (not (b == 37) || begins_hex uri) ≡ true =
    ⊎_elim
    (λ e. or_right (not (b == 37)) (begins_hex uri) (test-from_pair b uri (h.escape (eqb-true b 37 e))))
    (λ other. or_left (not (b == 37)) (begins_hex uri) (not_from_false (b == 37) other))
    (cases_Bool (b == 37)) in
    and_from _ _ (not_from_false _ plain) escape

well_escaped_cons : (b : ℕ) (uri : List ℕ) → IsPathByte (b ∷ uri) 0 → IsWellEscaped uri → (i : ℕ) → i < length (b ∷ uri) → IsPathByte (b ∷ uri) i
well_escaped_cons b uri first rest zero within = first
well_escaped_cons b uri first rest (suc i) within = byte_next b uri i (rest i (omega (arith, within)))

pub IsWellEscaped-from_test : (uri : List ℕ) → is_well_escaped uri ≡ true → IsWellEscaped uri
IsWellEscaped-from_test [] h = λ i within. absurd (omega (arith, within))
IsWellEscaped-from_test (b ∷ uri) h =
    let parts = and_parts (is_path_byte b uri) (is_well_escaped uri) h in
    well_escaped_cons b uri (byte_from_test b uri parts.0) (IsWellEscaped-from_test uri parts.1)

pub test-from_IsWellEscaped : (uri : List ℕ) → IsWellEscaped uri → is_well_escaped uri ≡ true
test-from_IsWellEscaped [] h = refl
test-from_IsWellEscaped (b ∷ uri) h =
    and_from (is_path_byte b uri) (is_well_escaped uri) (test-from_byte b uri (h 0 (omega arith))) (test-from_IsWellEscaped uri (λ i within. byte_rest b uri i (h (suc i) (omega (arith, within)))))

-- ---- bytes that stand for themselves
pub nowhere_from_none : (P : ℕ → Type 0) (i j : ℕ) (place : Option ℕ) → is_some place ≡ false → IsFirst P i j place → Nowhere P i j
nowhere_from_none P i j None some found = found
nowhere_from_none P i j (Some k) some found = absurd (true≢false some)

nowhere_rest : (test : ℕ → Bool) (b : ℕ) (bytes : List ℕ) → Nowhere (Passes test (b ∷ bytes)) 0 (length (b ∷ bytes)) → Nowhere (Passes test bytes) 0 (length bytes)
nowhere_rest test b bytes none = λ k _ within. none (suc k) (omega arith) (omega (arith, within))

-- bytes without `%` are their own decoding
pub percent_decode-same : (test : ℕ → Bool) → test 37 ≡ true → (bytes : List ℕ) → Nowhere (Passes test bytes) 0 (length bytes) → percent_decode bytes ≡ bytes
percent_decode-same test percent [] none = percent_decode-nil
percent_decode-same test percent (b ∷ bytes) none =
    percent_decode_not_percent b bytes (λ is. none 0 (omega arith) (omega arith) (ap test is ∙ percent))
    ∙ ap (λ l. b ∷ l) (percent_decode-same test percent bytes (nowhere_rest test b bytes none))

-- without `?`, `#` and `%` nothing is escaped badly
pub is_well_escaped-literal : (bytes : List ℕ) → Nowhere (Passes (is_byte3 63 35 37) bytes) 0 (length bytes) → is_well_escaped bytes ≡ true
is_well_escaped-literal [] none = refl
is_well_escaped-literal (b ∷ bytes) none =
    let other : (c : ℕ) → is_byte3 63 35 37 c ≡ true → b ≢ c = λ c special is. none 0 (omega arith) (omega arith) (ap (is_byte3 63 35 37) is ∙ special) in
    let byte : IsPathByte (b ∷ bytes) 0 = record { no_query = other 63 refl; no_fragment = other 35 refl; escape = λ is. absurd (other 37 refl is) } in
    and_from (is_path_byte b bytes) (is_well_escaped bytes) (test-from_byte b bytes byte) (is_well_escaped-literal bytes (nowhere_rest (is_byte3 63 35 37) b bytes none))

-- ---- the function, by its cases
pub uri_path-outside : (uri : List ℕ) → is_outside uri ≡ true → uri_path uri ≡ outside_table
uri_path-outside uri h = cond-true (is_outside uri) _ _ h

pub uri_path-bad_escape : (uri : List ℕ) → is_outside uri ≡ false → is_well_escaped uri ≡ false → uri_path uri ≡ no_path
uri_path-bad_escape uri h w = cond-false (is_outside uri) _ _ h ∙ cond-false (is_well_escaped uri) _ _ w

pub uri_path-place : (uri : List ℕ) → is_outside uri ≡ false → is_well_escaped uri ≡ true → uri_path uri ≡ path_place (percent_decode uri)
uri_path-place uri h w = cond-false (is_outside uri) _ _ h ∙ cond-true (is_well_escaped uri) _ _ w

pub path_place-inside : (path : List ℕ) → is_path path ≡ true → path_place path ≡ inside_table path
path_place-inside path h = cond-true (is_path path) _ _ h

pub path_place-too_long : (path : List ℕ) → is_path path ≡ false → is_path_of_any_length path ≡ true → path_place path ≡ too_long path
path_place-too_long path h any = cond-false (is_path path) _ _ h ∙ cond-true (is_path_of_any_length path) _ _ any

pub path_place-none : (path : List ℕ) → is_path path ≡ false → is_path_of_any_length path ≡ false → path_place path ≡ no_path
path_place-none path h none = cond-false (is_path path) _ _ h ∙ cond-false (is_path_of_any_length path) _ _ none

-- the same by what is known of a text without escapes
pub no_path_at : (path : List ℕ) → (IsPathOfAnyLength path → ⊥) → path_place path ≡ no_path
no_path_at path none =
    let loose : is_path_of_any_length path ≡ false = false_from_ne_true (is_path_of_any_length path) (λ t. none ((path_of_any_length_decided path).0 t)) in
    path_place-none path (and_right (nat_le (length path) MAX_PATH_BYTES) (is_path_of_any_length path) loose) loose

pub too_long_at : (path : List ℕ) → IsPathOfAnyLength path → MAX_PATH_BYTES < length path → path_place path ≡ too_long path
too_long_at path form long =
    path_place-too_long path (and_left (nat_le (length path) MAX_PATH_BYTES) (is_path_of_any_length path) (lt-leb (length path) MAX_PATH_BYTES long)) ((path_of_any_length_decided path).1 form)

-- what the relations say of a URI that names this
abbrev pub MeansPath : List ℕ → UriPath → Type 0
MeansPath uri (inside_table path) = NamesPath uri path
MeansPath uri (too_long path) = BreaksLengthAlone uri path
MeansPath uri outside_table = IsOutside uri
MeansPath uri no_path = NamesNoPath uri

place_means : (uri : List ℕ) → is_outside uri ≡ false → is_well_escaped uri ≡ true → MeansPath uri (path_place (percent_decode uri))
place_means uri h w =
    let path = percent_decode uri in
    let well : IsWellEscaped uri = IsWellEscaped-from_test uri w in
    ⊎_elim
    (λ is. subst (MeansPath uri) (sym (path_place-inside path is)) (record {
      relative = not_outside uri h;
      well_escaped = well;
      decodes = refl;
      is_path = (path_decided path).0 is;
    }))
    (λ not_path. ⊎_elim
    (λ any. subst (MeansPath uri) (sym (path_place-too_long path not_path any)) (record {
      relative = not_outside uri h;
      well_escaped = well;
      decodes = refl;
      any_length = (path_of_any_length_decided path).0 any;
      long = λ is. true≢false (sym ((path_decided path).1 is) ∙ not_path);
    }))
    (λ none. subst (MeansPath uri) (sym (path_place-none path not_path none)) (record {
      relative = not_outside uri h;
      none = λ _ is. true≢false (sym ((path_of_any_length_decided path).1 is) ∙ none);
    }))
    (cases_Bool (is_path_of_any_length path)))
    (cases_Bool (is_path path))

pub uri_path_means : (uri : List ℕ) → MeansPath uri (uri_path uri)
uri_path_means uri =
    ⊎_elim
    (λ h. subst (MeansPath uri) (sym (uri_path-outside uri h)) (IsOutside-from_test uri h))
    (λ h. ⊎_elim
    (λ w. subst (MeansPath uri) (sym (uri_path-place uri h w)) (place_means uri h w))
    (λ w. subst (MeansPath uri) (sym (uri_path-bad_escape uri h w)) (record {
      relative = not_outside uri h;
      none = λ well _. true≢false (sym (test-from_IsWellEscaped uri well) ∙ w);
    }))
    (cases_Bool (is_well_escaped uri)))
    (cases_Bool (is_outside uri))

-- ---- the law between the function and the relations
pub NamesPath-uri_path : (uri path : List ℕ) → uri_path uri ≡ inside_table path → NamesPath uri path
NamesPath-uri_path uri path is = subst (MeansPath uri) is (uri_path_means uri)

pub uri_path-NamesPath : (uri path : List ℕ) → NamesPath uri path → uri_path uri ≡ inside_table path
uri_path-NamesPath uri path h =
    let outside : is_outside uri ≡ false = false_from_ne_true (is_outside uri) (λ t. h.relative (IsOutside-from_test uri t)) in
    let well : is_well_escaped uri ≡ true = test-from_IsWellEscaped uri h.well_escaped in
    uri_path-place uri outside well ∙ ap path_place (sym h.decodes) ∙ path_place-inside path ((path_decided path).1 h.is_path)

pub names : (uri : List ℕ) (r : Result (List ℕ) PartError) → GivesPath (uri_path uri) r → IfOk r (NamesPath uri)
names uri (Ok path) h = NamesPath-uri_path uri path h
names uri (Err e) h = tt

explains : (uri : List ℕ) (e : PartError) → RefusesPath (uri_path uri) e → ExplainsRefusal uri e
explains uri Memory h = tt
explains uri OutsideTable h = subst (MeansPath uri) h (uri_path_means uri)
explains uri BadPath h = subst (MeansPath uri) h (uri_path_means uri)
explains uri TooLong h = (h.0, subst (MeansPath uri) h.1 (uri_path_means uri))
explains uri BadValue h = absurd h
explains uri ValueForm h = absurd h

pub refuses : (uri : List ℕ) (r : Result (List ℕ) PartError) → GivesPath (uri_path uri) r → IfErr r (ExplainsRefusal uri)
refuses uri (Ok path) h = tt
refuses uri (Err e) h = explains uri e h

pub reading : (uri : List ℕ) (r : Result (List ℕ) PartError) → is_outside uri ≡ false → is_well_escaped uri ≡ true → GivesPath (path_place (percent_decode uri)) r → GivesPath (uri_path uri) r
reading uri r h w gives = subst (λ place. GivesPath place r) (sym (uri_path-place uri h w)) gives

-- ---- what is escaped
plain_no_percent : (b : ℕ) → is_plain b ≡ true → b ≢ 37
plain_no_percent b h e = true≢false (sym h ∙ ap is_plain e)

escaped_plain : (b : ℕ) → is_plain b ≡ true → escaped_byte b ≡ b ∷ []
escaped_plain b t = cond-true (is_plain b) (b ∷ []) (percent_encode_byte b) t

escaped_other : (b : ℕ) → is_plain b ≡ false → escaped_byte b ≡ percent_encode_byte b
escaped_other b f = cond-false (is_plain b) (b ∷ []) (percent_encode_byte b) f

pub escaped_path-plain : (bs : List ℕ) → list_all is_plain bs ≡ true → escaped_path bs ≡ bs
escaped_path-plain [] all = refl
escaped_path-plain (b ∷ bs) all =
    let parts = and_parts (is_plain b) (list_all is_plain bs) all in
    ap (λ front. front ++ escaped_path bs) (escaped_plain b parts.0) ∙ ap (λ l. b ∷ l) (escaped_path-plain bs parts.1)

pub percent_decode-escaped_path : (bs : List ℕ) → All IsByte bs → percent_decode (escaped_path bs) ≡ bs
percent_decode-escaped_path [] h = percent_decode-nil
percent_decode-escaped_path (b ∷ bs) h =
    let rest = percent_decode-escaped_path bs (All-tail IsByte b bs h) in
    let small : b < 256 = All-head IsByte b bs h in
    ⊎_elim
    (λ t. ap (λ front. percent_decode (front ++ escaped_path bs)) (escaped_plain b t)
    ∙ percent_decode_not_percent b (escaped_path bs) (plain_no_percent b t) ∙ ap (λ l. b ∷ l) rest)
    (λ f. ap (λ front. percent_decode (front ++ escaped_path bs)) (escaped_other b f)
    ∙ percent_decode-percent_encode_byte b (escaped_path bs) small ∙ ap (λ l. b ∷ l) rest)
    (cases_Bool (is_plain b))

-- a hex digit, which is none of the bytes that a URI gives a meaning
record IsHex (c : ℕ) : Type 0 where
  hex : is_digit c 16 ≡ true
  from_zero : 48 ≤ c
  no_colon : c ≢ 58
  no_question : c ≢ 63

glyph : (d : ℕ) → d < 16 → IsHex (digit_glyph true d)
glyph d h = record {
  hex = grind (arith, nat_tests);
  from_zero = grind (arith, nat_tests);
  no_colon = grind (arith, nat_tests);
  no_question = grind (arith, nat_tests);
}

-- a byte of an escaped text
abbrev IsUriByte : ℕ → Type 0
IsUriByte c = (c ≢ 58) × (c ≢ 63) × (c ≢ 35)

plain_byte : (b : ℕ) → is_plain b ≡ true → IsUriByte b
plain_byte b h = (λ e. true≢false (sym h ∙ ap is_plain e), λ e. true≢false (sym h ∙ ap is_plain e), λ e. true≢false (sym h ∙ ap is_plain e))

hex_byte : (c : ℕ) → IsHex c → IsUriByte c
hex_byte c h = (h.no_colon, h.no_question, λ e. absurd (omega (arith, h.from_zero, e)))

hex_no_percent : (c : ℕ) → IsHex c → c ≢ 37
hex_no_percent c h e = absurd (omega (arith, h.from_zero, e))

escape_shape : (b : ℕ) → percent_encode_byte b ≡ 37 ∷ digit_glyph true (b / 16 % 16) ∷ digit_glyph true (b % 16) ∷ []
unfolding percent_encode_byte
escape_shape b = refl

percent_byte : IsUriByte 37
percent_byte = (λ e. absurd (omega (arith, e)), λ e. absurd (omega (arith, e)), λ e. absurd (omega (arith, e)))

-- a byte that isn't `?`, `#` or `%` may stand in front
before_escaped : (c : ℕ) (uri : List ℕ) → IsUriByte c → c ≢ 37 → is_well_escaped uri ≡ true → is_well_escaped (c ∷ uri) ≡ true
before_escaped c uri plain other rest =
    and_from (is_path_byte c uri) (is_well_escaped uri) (test-from_byte c uri (record { no_query = plain.1; no_fragment = plain.2; escape = λ e. absurd (other e) })) rest

-- and so may an escape
before_escape : (high low : ℕ) (uri : List ℕ) → IsHex high → IsHex low → is_well_escaped uri ≡ true → is_well_escaped (37 ∷ high ∷ low ∷ uri) ≡ true
before_escape high low uri h l rest =
    let pair : HasHexPair (37 ∷ high ∷ low ∷ uri) 0 = record { room = omega arith; high = h.hex; low = l.hex } in
    let byte : IsPathByte (37 ∷ high ∷ low ∷ uri) 0 = record { no_query = percent_byte.1; no_fragment = percent_byte.2; escape = λ _. pair } in
    and_from (is_path_byte 37 (high ∷ low ∷ uri)) (is_well_escaped (high ∷ low ∷ uri)) (test-from_byte 37 (high ∷ low ∷ uri) byte)
    (before_escaped high (low ∷ uri) (hex_byte high h) (hex_no_percent high h) (before_escaped low uri (hex_byte low l) (hex_no_percent low l) rest))

is_well_escaped-escaped_path : (bs : List ℕ) → is_well_escaped (escaped_path bs) ≡ true
is_well_escaped-escaped_path [] = refl
is_well_escaped-escaped_path (b ∷ bs) =
    let rest = is_well_escaped-escaped_path bs in
    let high : IsHex (digit_glyph true (b / 16 % 16)) = glyph (b / 16 % 16) (omega arith) in
    let low : IsHex (digit_glyph true (b % 16)) = glyph (b % 16) (omega arith) in
    ⊎_elim
    (λ t. subst (λ front. is_well_escaped (front ++ escaped_path bs) ≡ true) (sym (escaped_plain b t)) (before_escaped b (escaped_path bs) (plain_byte b t) (plain_no_percent b t) rest))
    (λ f. subst (λ front. is_well_escaped (front ++ escaped_path bs) ≡ true) (sym (escaped_other b f ∙ escape_shape b)) (before_escape _ _ (escaped_path bs) high low rest))
    (cases_Bool (is_plain b))

All-escaped_path : (bs : List ℕ) → All IsUriByte (escaped_path bs)
All-escaped_path [] = All-nil IsUriByte
All-escaped_path (b ∷ bs) =
    let rest = All-escaped_path bs in
    let high = digit_glyph true (b / 16 % 16) in
    let low = digit_glyph true (b % 16) in
    ⊎_elim
    (λ t. subst (λ front. All IsUriByte (front ++ escaped_path bs)) (sym (escaped_plain b t)) (All-cons IsUriByte b (escaped_path bs) (plain_byte b t) rest))
    (λ f. subst (λ front. All IsUriByte (front ++ escaped_path bs)) (sym (escaped_other b f ∙ escape_shape b))
    (All-cons IsUriByte 37 (high ∷ low ∷ escaped_path bs) percent_byte (All-cons IsUriByte high (low ∷ escaped_path bs) (hex_byte high (glyph _ (omega arith))) (All-cons IsUriByte low (escaped_path bs) (hex_byte low (glyph _ (omega arith))) rest))))
    (cases_Bool (is_plain b))

-- a path begins with a byte that is no `/`
first_byte : (path : List ℕ) → All IsSegment (slice_split is_slash path) → get_or (escaped_path path) 0 0 ≢ 47
first_byte [] segments e = absurd (omega (arith, e))
first_byte (b ∷ bs) segments e =
    ⊎_elim
    (λ t.
    let slash : b ≡ 47 = ap (λ front. get_or (front ++ escaped_path bs) 0 0) (sym (escaped_plain b t)) ∙ e in
    let parts : slice_split is_slash (b ∷ bs) ≡ [] ∷ slice_split is_slash bs = slice_split-cons_yes is_slash b bs (ap is_slash slash) in
    (All-head IsSegment [] (slice_split is_slash bs) (subst (All IsSegment) parts segments)).filled refl)
    (λ f.
    let wrong : 37 ≡ 47 = ap (λ front. get_or (front ++ escaped_path bs) 0 0) (sym (escaped_other b f ∙ escape_shape b)) ∙ e in absurd (omega (arith, wrong)))
    (cases_Bool (is_plain b))

no_scheme : (path : List ℕ) → HasScheme (escaped_path path) → ⊥
no_scheme path h =
    let uri = escaped_path path in
    let n = length h.scheme in
    let at : get_or uri n 0 ≡ 58 = ap (λ k. get_or uri k 0) (let e : n ≡ n + 0 = omega arith in e) ∙ sym (get_or-drop n uri 0 0) ∙ ap (λ l. get_or l 0 0) (front_rest uri h.scheme (58 ∷ h.rest) h.split) in
    ⊎_elim (λ within. (All-get_or IsUriByte uri n 0 within (All-escaped_path path)).0 at) (λ past. absurd (omega (arith, get_or_past uri n 0 past, at))) (cases_lt n (length uri))

-- the escaped path names the path
pub NamesPath-escaped_path : (path : List ℕ) → All IsByte path → IsPath path → NamesPath (escaped_path path) path
NamesPath-escaped_path path bytes is = record {
  relative = λ outside. ⊎_elim (λ slash. first_byte path is.form.segments slash) (λ scheme. no_scheme path scheme) outside;
  well_escaped = IsWellEscaped-from_test (escaped_path path) (is_well_escaped-escaped_path path);
  decodes = sym (percent_decode-escaped_path path bytes);
  is_path = is;
}
