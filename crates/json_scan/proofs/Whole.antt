-- The object that a whole text is, and the count that it states.
use Rattle.std.proofs.Common.{◌≡◌, ℕ, ℤ, pos, negsuc, List, [], ◌∷◌, length, Bool, false, true≢false, Option, Some, None, option_map, option_and_then, Result, Ok, Err, MatchResult, if◌then◌else◌, refl, sym, ap, subst, ◌∙◌, arith}
use Rattle.std.specs.Prelude.{is_some}
use Rattle.json.specs.Token.{Token}
use Rattle.json.specs.declared.reader.Invalid.{Invalid}
use Rattle.json.specs.Json as json
use Rattle.json.specs.Json.{parse_map, if_last, items, members, value}
use Rattle.json.proofs.Grammar.{value_is, value-begin_array, value-begin_object}
use Rattle.serde_json.specs.Data.{Num, Data, null, boolean, number, string, array, object, Items, Members}
use Rattle.serde_json.specs.Find.{get, get_member, as_i64, as_number, as_object}
use Rattle.serde_json.specs.Read.{number_of, of_json, of_items, converted}
use Rattle.lake_basics.specs.Outcome.{◌>>=◌, required, Gives}
use Rattle.lake_basics.specs.declared.outcome.ReadError.{ReadError}
use Rattle.json_reading.specs.Json.{count, count_member}
use Rattle.json_reading.specs.Json as members_of
use Rattle.json_reading.proofs.Turns.{converted_some, converted-object, refused}
use Rattle.json_scan.specs.Passing.{passed, passed_members, begins_object, whole_object, named_whole, kept}
use Rattle.json_scan.specs.Stated.{told}
use Rattle.json_scan.proofs.Named.{kept_some}

abbrev pub whole : Option (json.Json × List Token) → Option Data
whole o = option_and_then of_json (option_and_then (λ p. if_last p.0 p.1) o)

whole_read : (o : Option (json.Json × List Token)) (d : Data) → converted of_json o ≡ Some (d, []) → whole o ≡ Some d
whole_read o d e = let j = converted_some of_json o d [] e in ap whole j.1 ∙ j.2

whole_and_more : (o : Option (json.Json × List Token)) (d : Data) (t : Token) (r : List Token) → converted of_json o ≡ Some (d, t ∷ r) → whole o ≡ None
whole_and_more o d t r e = ap whole (converted_some of_json o d (t ∷ r) e).1

whole_refused : (o : Option (json.Json × List Token)) → converted of_json o ≡ None → whole o ≡ None
whole_refused None e = refl
whole_refused (Some (j, [])) e = refused [] (of_json j) e
whole_refused (Some (j, t ∷ r)) e = refl

-- ---- an object that opens

opened : (ts r : List Token) → ts ≡ Token.begin_object ∷ r → passed 127 ts ≡ parse_map object (passed_members 126 r)
opened ts r e = ap (converted of_json) (ap (value 127) e ∙ value-begin_object 127 r (omega arith)) ∙ converted-object (members (value 126) (length r) r)

pub object_read : (name : List ℕ) (n : Option (Option ℤ)) (ts r : List Token) → ts ≡ Token.begin_object ∷ r → kept (named_whole name) (passed_members 126 r) ≡ Some (n, [])
    → option_map (named_whole name) (whole_object ts) ≡ Some n
object_read name n ts r e k =
    let m = kept_some (named_whole name) (passed_members 126 r) n [] k in
    let w : whole (value 127 ts) ≡ Some (object m.0) = whole_read (value 127 ts) (object m.0) (opened ts r e ∙ ap (parse_map object) m.1) in
    ap (λ d. option_map (named_whole name) (option_and_then as_object d)) w ∙ ap Some m.2

pub object_and_more : (n : Option (Option ℤ)) (name : List ℕ) (ts r s : List Token) → ts ≡ Token.begin_object ∷ r → kept (named_whole name) (passed_members 126 r) ≡ Some (n, s) → (s ≡ [] → ⊥) → whole_object ts ≡ None
object_and_more n name ts r [] e k more = absurd (more refl)
object_and_more n name ts r (t ∷ s) e k more =
    let m = kept_some (named_whole name) (passed_members 126 r) n (t ∷ s) k in
    ap (option_and_then as_object) (whole_and_more (value 127 ts) (object m.0) t s (opened ts r e ∙ ap (parse_map object) m.1))

pub object_refused : (ts r : List Token) → ts ≡ Token.begin_object ∷ r → passed_members 126 r ≡ None → whole_object ts ≡ None
object_refused ts r e none = ap (option_and_then as_object) (whole_refused (value 127 ts) (opened ts r e ∙ ap (parse_map object) none))

-- ---- anything else

abbrev as_whole_object : Option (json.Json × List Token) → Option Members
as_whole_object o = option_and_then as_object (whole o)

no_items_object : (x : Option Items) → option_and_then as_object (option_map array x) ≡ None
no_items_object None = refl
no_items_object (Some ds) = refl

no_number_object : (x : Option Num) → option_and_then as_object (option_map number x) ≡ None
no_number_object None = refl
no_number_object (Some n) = refl

array_alone : (o : Option (json.Items × List Token)) → as_whole_object (parse_map json.array o) ≡ None
array_alone None = refl
array_alone (Some (js, [])) = no_items_object (of_items js)
array_alone (Some (js, t ∷ r)) = refl

string_alone : (s : List ℕ) (ts : List Token) → as_whole_object (Some (json.string s, ts)) ≡ None
string_alone s [] = refl
string_alone s (t ∷ r) = refl

number_alone : (s : List ℕ) (ts : List Token) → as_whole_object (Some (json.number s, ts)) ≡ None
number_alone s [] = no_number_object (number_of s)
number_alone s (t ∷ r) = refl

boolean_alone : (b : Bool) (ts : List Token) → as_whole_object (Some (json.boolean b, ts)) ≡ None
boolean_alone b [] = refl
boolean_alone b (t ∷ r) = refl

null_alone : (ts : List Token) → as_whole_object (Some (json.null, ts)) ≡ None
null_alone [] = refl
null_alone (t ∷ r) = refl

pub not_object : (ts : List Token) → begins_object ts ≡ false → whole_object ts ≡ None
not_object [] e = ap as_whole_object (value_is 127 [])
not_object (Token.begin_object ∷ ts) e = absurd (true≢false e)
not_object (Token.end_object ∷ ts) e = ap as_whole_object (value_is 127 (Token.end_object ∷ ts))
not_object (Token.begin_array ∷ ts) e = ap as_whole_object (value-begin_array 127 ts (omega arith)) ∙ array_alone (items (value 126) (length ts) ts)
not_object (Token.end_array ∷ ts) e = ap as_whole_object (value_is 127 (Token.end_array ∷ ts))
not_object (Token.key s ∷ ts) e = ap as_whole_object (value_is 127 (Token.key s ∷ ts))
not_object (Token.string s ∷ ts) e = ap as_whole_object (value_is 127 (Token.string s ∷ ts)) ∙ string_alone s ts
not_object (Token.number s ∷ ts) e = ap as_whole_object (value_is 127 (Token.number s ∷ ts)) ∙ number_alone s ts
not_object (Token.boolean b ∷ ts) e = ap as_whole_object (value_is 127 (Token.boolean b ∷ ts)) ∙ boolean_alone b ts
not_object (Token.null ∷ ts) e = ap as_whole_object (value_is 127 (Token.null ∷ ts)) ∙ null_alone ts
not_object (Token.bad ∷ ts) e = ap as_whole_object (value_is 127 (Token.bad ∷ ts))

-- ---- what is stated

module _ {E : Type 0} (fault : E) (name : List ℕ) where
  abbrev pub stated_in : Option Data → Result (Option ℕ) E
  stated_in o = do
    d ← required fault o
    members ← required fault (as_object d)
    if is_some (get name d) then required fault (option_map Some (count_member name d)) else Ok None

  told_whole : (d : Data) (w : Option ℤ) → option_and_then as_i64 (as_number d) ≡ w → required fault (option_map Some (count d)) ≡ told fault (Ok (Some w))
  told_whole d None e = rw e
  told_whole d (Some (pos n)) e = rw e
  told_whole d (Some (negsuc n)) e = rw e

  told_member : (m : Option Data) → (if is_some m then required fault (option_map Some (option_and_then count m)) else Ok None) ≡ told fault (Ok (option_map members_of.whole m))
  told_member None = refl
  told_member (Some d) = told_whole d (members_of.whole d) refl

  no_object_stated : (o : Option Data) → option_and_then as_object o ≡ None → Err fault ≡ stated_in o
  no_object_stated None e = refl
  no_object_stated (Some null) e = refl
  no_object_stated (Some (boolean b)) e = refl
  no_object_stated (Some (number n)) e = refl
  no_object_stated (Some (string s)) e = refl
  no_object_stated (Some (array ds)) e = refl
  no_object_stated (Some (object ms)) e = absurd (cc)

  object_stated : (o : Option Data) (n : Option (Option ℤ)) → option_map (named_whole name) (option_and_then as_object o) ≡ Some n → told fault (Ok n) ≡ stated_in o
  object_stated None n e = absurd (cc)
  object_stated (Some null) n e = absurd (cc)
  object_stated (Some (boolean b)) n e = absurd (cc)
  object_stated (Some (number m)) n e = absurd (cc)
  object_stated (Some (string s)) n e = absurd (cc)
  object_stated (Some (array ds)) n e = absurd (cc)
  object_stated (Some (object ms)) n e = let same : named_whole name ms ≡ n = cc in ap (λ m. told fault (Ok m)) (sym same) ∙ sym (told_member (get_member name ms))

  told_stated : (found : Result (Option (Option ℤ)) Invalid) (o : Option Data)
      → MatchResult found (λ n. option_map (named_whole name) (option_and_then as_object o) ≡ Some n) (λ e. option_and_then as_object o ≡ None) → told fault found ≡ stated_in o
  told_stated (Ok n) o e = object_stated o n e
  told_stated (Err i) o e = no_object_stated o e

  pub told_gives : (result : Result (Option ℕ) (ReadError E)) (found : Result (Option (Option ℤ)) Invalid) (o : Option Data)
      → MatchResult found (λ n. option_map (named_whole name) (option_and_then as_object o) ≡ Some n) (λ e. option_and_then as_object o ≡ None)
      → Gives (λ (n : Option ℕ). n) result (told fault found) → Gives (λ (n : Option ℕ). n) result (stated_in o)
  told_gives result found o e = subst (Gives (λ (n : Option ℕ). n) result) (told_stated found o e)
