-- The pairs that are read are just those of a properties text, and what is refused has a first line at fault.
use Rattle.std.proofs.Common.{◌≡◌, ℕ, List, [], ◌∷◌, ◌++◌, take, drop, Option, Some, None, option_map, false, Result, Ok, Err, refl, sym, ap, subst, ◌∙◌}
use Rattle.std.specs.Prelude.{option_and_then, filter, IfOk, IfErr}
use Rattle.std.specs.List.{AllZip}
use Rattle.std.proofs.lemmas.Option.{same_Some}
use Rattle.lake_basics.specs.Outcome.{◌>>=◌, each}
use Rattle.hudi_names.specs.declared.error.HudiError.{HudiError}
use Rattle.hudi_names.specs.declared.error.HudiError.TheVariants as errors
use Rattle.hudi_names.specs.Errors.{Gives}
use Rattle.hudi_properties.specs.declared.line.LogicalLine.{LogicalLine}
use Rattle.hudi_properties.specs.Escapes.{unescaped}
use Rattle.hudi_properties.specs.Lines.{natural_lines, logical_lines}
use Rattle.hudi_properties.specs.Pairs.{key_len, value_of, pair_of, required_at, pair_at, in_order, is_filled, properties_of}
use Rattle.hudi_properties.specs.Grammar.{AreLogicalLines, GivesPair, LineGives, AreFilledLines, AreProperties, IsFirstFault, IsRefusal}
use Rattle.hudi_properties.proofs.KeptLemmas.{kept_last, last_kept}
use Rattle.hudi_properties.proofs.NaturalLemmas.{natural_once, natural_are}
use Rattle.hudi_properties.proofs.LogicalLemmas.{logical_once, logical_are}
use Rattle.hudi_properties.proofs.KeyLemmas.{key_once, key_is, element_once, element_is}
use Rattle.hudi_properties.proofs.UnitLemmas.{text_once, text_is}

-- ---- one line

ok_same : {A : Type 0} (x y : A) → ◌≡◌ {A = Result A HudiError} (Ok x) (Ok y) → x ≡ y
ok_same x y e = cc

two_parts : (k v : Option (List ℕ)) (pair : List ℕ × List ℕ) → option_and_then (λ key. option_map (λ value. (key, value)) v) k ≡ Some pair → (k ≡ Some pair.0) × (v ≡ Some pair.1)
two_parts None v pair e = absurd (cc)
two_parts (Some key) None pair e = absurd (cc)
two_parts (Some key) (Some value) pair e =
    let same : (key, value) ≡ pair = same_Some (key, value) pair e in
    (ap (λ (p : List ℕ × List ℕ). Some p.0) same, ap (λ (p : List ℕ × List ℕ). Some p.1) same)

pair_is : (line : List ℕ) (pair : List ℕ × List ℕ) → pair_of line ≡ Some pair → GivesPair line pair
unfolding pair_of
pair_is line pair e =
    let key = take (key_len false line) line in
    let behind = drop (key_len false line) line in
    let parts = two_parts (unescaped key) (unescaped (value_of behind)) pair e in
    record {
      key = key;
      behind = behind;
      element = value_of behind;
      ends = key_is line;
      follows = element_is behind;
      key_text = text_is key pair.0 parts.0;
      element_text = text_is (value_of behind) pair.1 parts.1;
    }

pair_once : (line : List ℕ) (pair : List ℕ × List ℕ) → GivesPair line pair → pair_of line ≡ Some pair
unfolding pair_of
pair_once line pair h =
    let cut = key_once line h.key h.behind h.ends in
    let key : unescaped (take (key_len false line) line) ≡ Some pair.0 = ap unescaped cut.0 ∙ text_once h.key pair.0 h.key_text in
    let element : unescaped (value_of (drop (key_len false line) line)) ≡ Some pair.1 =
    ap unescaped (ap value_of cut.1 ∙ element_once h.behind h.element h.follows) ∙ text_once h.element pair.1 h.element_text in
    rw (key, element) refl

line_by : (n : ℕ) (o : Option (List ℕ × List ℕ)) (pair : List ℕ × List ℕ) → required_at n o ≡ Ok pair → o ≡ Some pair
line_by n None pair e = absurd (cc)
line_by n (Some p) pair e = ap Some (ok_same p pair e)

line_is : (line : LogicalLine) (pair : List ℕ × List ℕ) → pair_at line ≡ Ok pair → LineGives line pair
line_is line pair e = pair_is line.content pair (line_by line.number (pair_of line.content) pair e)

line_once : (line : LogicalLine) (pair : List ℕ × List ℕ) → LineGives line pair → pair_at line ≡ Ok pair
line_once line pair h = ap (required_at line.number) (pair_once line.content pair h)

line_fault : (n : ℕ) (o : Option (List ℕ × List ℕ)) (e : HudiError) → required_at n o ≡ Err e → e ≡ errors.Malformed n
line_fault n None e is = let same : errors.Malformed n ≡ e = cc in sym same
line_fault n (Some p) e is = absurd (cc)

-- ---- all lines

-- what reading lines gives: their pairs, or the first that gives none
LinesGive : List LogicalLine → Result (List (List ℕ × List ℕ)) HudiError → Type 0
LinesGive lines (Ok pairs) = AllZip LineGives lines pairs
LinesGive lines (Err e) =
    (front : List LogicalLine) × (line : LogicalLine) × (rest : List LogicalLine) × (before : List (List ℕ × List ℕ)) × (lines ≡ front ++ line ∷ rest) × AllZip LineGives front before
    × ((pair : List ℕ × List ℕ) → LineGives line pair → ⊥) × (e ≡ errors.Malformed line.number)

give_more : (line : LogicalLine) (lines : List LogicalLine) (pair : List ℕ × List ℕ) (r : Result (List (List ℕ × List ℕ)) HudiError) → LineGives line pair → LinesGive lines r → LinesGive (line ∷ lines) (r >>= λ pairs. Ok (pair ∷ pairs))
unfolding LinesGive
give_more line lines pair (Ok pairs) one rest = (one, rest)
give_more line lines pair (Err e) one (front, stop, behind, before, split, given, none, is) = (line ∷ front, stop, behind, pair ∷ before, ap (λ ls. line ∷ ls) split, (one, given), none, is)

give_by : (line : LogicalLine) (lines : List LogicalLine) (r : Result (List ℕ × List ℕ) HudiError) → pair_at line ≡ r → LinesGive lines (each pair_at lines) → LinesGive (line ∷ lines) (r >>= λ pair. each pair_at lines >>= λ pairs. Ok (pair ∷ pairs))
unfolding LinesGive
give_by line lines (Ok pair) is rest = give_more line lines pair (each pair_at lines) (line_is line pair is) rest
give_by line lines (Err e) is rest =
    ([], line, lines, [], refl, tt, (λ pair gives. let read = line_once line pair gives in cc), line_fault line.number (pair_of line.content) e is)

lines_give : (lines : List LogicalLine) → LinesGive lines (each pair_at lines)
unfolding LinesGive
lines_give [] = tt
lines_give (line ∷ lines) = give_by line lines (pair_at line) refl (lines_give lines)

lines_once : (lines : List LogicalLine) (pairs : List (List ℕ × List ℕ)) → AllZip LineGives lines pairs → each pair_at lines ≡ Ok pairs
lines_once [] [] h = refl
lines_once [] (pair ∷ pairs) h = absurd h
lines_once (line ∷ lines) [] h = absurd h
lines_once (line ∷ lines) (pair ∷ pairs) h = rw (line_once line pair h.0, lines_once lines pairs h.1) refl

-- ---- the text

filled_are : (bytes : List ℕ) → AreFilledLines bytes (filter is_filled (logical_lines bytes))
filled_are bytes = record { natural = natural_lines bytes; logical = logical_lines bytes; cut = natural_are bytes; joined = logical_are bytes; are = refl }

filled_once : (bytes : List ℕ) (lines : List LogicalLine) → AreFilledLines bytes lines → filter is_filled (logical_lines bytes) ≡ lines
filled_once bytes lines h =
    let natural = natural_once bytes h.natural h.cut in
    ap (filter is_filled) (logical_once bytes h.logical (subst (λ ls. AreLogicalLines ls h.logical) (sym natural) h.joined)) ∙ sym h.are

-- what reading a text gives
pub TextGives : List ℕ → Result (List (List ℕ × List ℕ)) HudiError → Type 0
TextGives bytes (Ok pairs) = AreProperties bytes pairs
TextGives bytes (Err e) = IsRefusal bytes e

text_by : (bytes : List ℕ) (r : Result (List (List ℕ × List ℕ)) HudiError) → LinesGive (filter is_filled (logical_lines bytes)) r → TextGives bytes (r >>= λ pairs. Ok (in_order pairs))
unfolding LinesGive TextGives
text_by bytes (Ok pairs) h = record { lines = filter is_filled (logical_lines bytes); given = pairs; filled = filled_are bytes; each = h; kept = kept_last pairs }
text_by bytes (Err e) (front, line, rest, before, split, given, none, is) =
    let first : IsFirstFault bytes line.number = record {
      front = front;
      line = line;
      rest = rest;
      before = before;
      filled = subst (AreFilledLines bytes) split (filled_are bytes);
      each = given;
      none = none;
      number = refl;
    } in
    subst (IsRefusal bytes) (sym is) first

pub text_gives : (bytes : List ℕ) → TextGives bytes (properties_of bytes)
unfolding properties_of
text_gives bytes = text_by bytes (each pair_at (filter is_filled (logical_lines bytes))) (lines_give (filter is_filled (logical_lines bytes)))

-- A properties text that gives these pairs is read as them.
pub properties_once : (bytes : List ℕ) (pairs : List (List ℕ × List ℕ)) → AreProperties bytes pairs → properties_of bytes ≡ Ok pairs
unfolding properties_of
properties_once bytes pairs h =
    let lines = filled_once bytes h.lines h.filled in
    let given : each pair_at (filter is_filled (logical_lines bytes)) ≡ Ok h.given = ap (each pair_at) lines ∙ lines_once h.lines h.given h.each in
    rw given (ap Ok (sym (last_kept h.given pairs h.kept)))

-- What is read are the pairs of a properties text.
pub properties_are : (bytes : List ℕ) (pairs : List (List ℕ × List ℕ)) → properties_of bytes ≡ Ok pairs → AreProperties bytes pairs
unfolding TextGives
properties_are bytes pairs is = subst (TextGives bytes) is (text_gives bytes)

-- ---- answers

pub found_by : (bytes : List ℕ) (r : Result (List (List ℕ × List ℕ)) HudiError) → Gives r (properties_of bytes) → IfOk r (λ pairs. AreProperties bytes pairs)
found_by bytes (Ok pairs) gives = properties_are bytes pairs gives
found_by bytes (Err e) gives = tt

pub only_by : (bytes : List ℕ) (r : Result (List (List ℕ × List ℕ)) HudiError) → Gives r (properties_of bytes) → (pairs : List (List ℕ × List ℕ)) → AreProperties bytes pairs → Gives r (Ok pairs)
only_by bytes r gives pairs h = subst (Gives r) (properties_once bytes pairs h) gives

pub fault_by : (bytes : List ℕ) (r : Result (List (List ℕ × List ℕ)) HudiError) → Gives r (properties_of bytes) → IfErr r (IsRefusal bytes)
unfolding TextGives
fault_by bytes (Ok pairs) gives = tt
fault_by bytes (Err errors.Memory) gives = tt
fault_by bytes (Err (errors.Malformed n)) gives = subst (TextGives bytes) gives (text_gives bytes)
fault_by bytes (Err (errors.Unsupported feature)) gives = subst (TextGives bytes) gives (text_gives bytes)
fault_by bytes (Err (errors.Limit which)) gives = subst (TextGives bytes) gives (text_gives bytes)
