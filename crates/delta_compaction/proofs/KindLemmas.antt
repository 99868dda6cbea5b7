-- What becomes of a line, against what it is about.
use Rattle.std.proofs.Common.{◌≡◌, ◌≢◌, ◌⊎◌, inl, inr, ⊎_elim, ℕ, ◌+◌, ◌<◌, ◌≤◌, ◌||◌, List, [], ◌∷◌, map, length, codes, Option, Some, None, Bool, true, false, cond, not, Ordering, Less, Equal, Greater, Contains, refl, sym, ap, subst, ◌∙◌, arith, nat_cmp}
use Rattle.std.specs.Prelude.{filter, option_and_then}
use Rattle.std.specs.List.{list_any}
use Rattle.std.specs.Ordering.{match_ordering}
use Rattle.std.specs.Cmp.Lexicographic.{slice_cmp}
use Rattle.std.specs.Str.{bytes_eq}
use Rattle.std.proofs.lemmas.Bool.{cases_Bool}
use Rattle.std.proofs.lemmas.Cmp.{nat_list_eq_equiv}
use Rattle.std.proofs.lemmas.Map.Lookups.{exact_bytes}
use Rattle.std.proofs.lemmas.Map.Views.{Contains-from_any, list_any-from_Contains}
use Rattle.std.proofs.lemmas.Slice.Eq.{bytes_eq-Decides}
use Rattle.serde_json.specs.Data.{Data, null, boolean, number, string, array, object, Members, no_members, member}
use Rattle.serde_json.specs.Find.{get_member}
use Rattle.json_reading.specs.Json.{present, text_member, pairs}
use Rattle.table_history.proofs.RowListLemmas.{Contains-none, Contains-one, Contains-head, Contains-tail, Contains-cases}
use Rattle.partition_map.specs.UriPath.{UriPath, inside_table, too_long, outside_table, no_path, uri_path}
use Rattle.delta_log.proofs.StepLemmas.{decoded}
use Rattle.delta_compaction.specs.declared.key.LineKey.{LineKey}
use Rattle.delta_compaction.specs.declared.key.LineKey.TheVariants as key
use Rattle.delta_compaction.specs.declared.kind.LineKind.TheVariants as kind
use Rattle.delta_compaction.specs.Kinds.{file_kind, has_stray, is_known, is_stray, json_kind, kind_by, line_kind, member_kind, named_kind, object_kind, uri_kind}
use Rattle.delta_compaction.specs.Lines.{ActsOnUri, HasMember, IsAbout, IsStray, is_member, is_null, known_members, line_json, member_names}
use Rattle.lake_basics.proofs.Texts.{bytes_apart}

-- ---- known names

or_nothing : (b : Bool) → b ≡ (b || false)
or_nothing true = refl
or_nothing false = refl

known_list : (name : List ℕ) → is_known name ≡ list_any (bytes_eq name) known_members
known_list name =
    ap (λ b. bytes_eq name (codes "protocol") || (bytes_eq name (codes "metaData") || (bytes_eq name (codes "add") || (bytes_eq name (codes "remove")
    || (bytes_eq name (codes "txn") || (bytes_eq name (codes "domainMetadata") || (bytes_eq name (codes "commitInfo") || b))))))) (or_nothing (bytes_eq name (codes "cdc")))

known_in : (name : List ℕ) → is_known name ≡ true → Contains known_members name
known_in name known = Contains-from_any (λ x y same. (bytes_eq-Decides x y).0 same) name known_members (sym (known_list name) ∙ known)

in_known : (name : List ℕ) → Contains known_members name → is_known name ≡ true
in_known name there = known_list name ∙ list_any-from_Contains nat_list_eq_equiv name known_members there

-- ---- members that aren't null

abbrev Pairs : Type 0
Pairs = List (List ℕ × Data)

abbrev names : Pairs → List (List ℕ)
names ps = map (λ p. p.0) (filter is_member ps)

-- one member was seen before
abbrev seen_count : Bool → ℕ
seen_count true = 1
seen_count false = 0

-- There is a name that isn't known, or there are two members.
abbrev Strays : Bool → Pairs → Type 0
Strays seen ps = ((name : List ℕ) × Contains (names ps) name × (Contains known_members name → ⊥)) ⊎ (1 < seen_count seen + length (names ps))

-- All names are known, and there is one member at most.
abbrev Fits : Bool → Pairs → Type 0
Fits seen ps = ((name : List ℕ) → Contains (names ps) name → Contains known_members name) × (seen_count seen + length (names ps) ≤ 1)

names_null : (p : List ℕ × Data) (ps : Pairs) → is_null p.1 ≡ true → names (p ∷ ps) ≡ names ps
names_null p ps is = rw is refl

names_more : (p : List ℕ × Data) (ps : Pairs) → is_null p.1 ≡ false → names (p ∷ ps) ≡ p.0 ∷ names ps
names_more p ps is = rw is refl

strays_skip : (seen : Bool) (p : List ℕ × Data) (ps : Pairs) → is_null p.1 ≡ true → Strays seen ps → Strays seen (p ∷ ps)
strays_skip seen p ps is (inl other) = inl (other.0, subst (λ l. Contains l other.0) (sym (names_null p ps is)) other.1, other.2)
strays_skip seen p ps is (inr two) = inr (subst (λ l. 1 < seen_count seen + length l) (sym (names_null p ps is)) two)

strays_more : (p : List ℕ × Data) (ps : Pairs) → is_null p.1 ≡ false → Strays true ps → Strays false (p ∷ ps)
strays_more p ps is (inl other) = inl (other.0, subst (λ l. Contains l other.0) (sym (names_more p ps is)) (Contains-tail p.0 (names ps) other.0 other.1), other.2)
strays_more p ps is (inr two) = inr (subst (λ l. 1 < 0 + length l) (sym (names_more p ps is)) (omega (arith, two)))

strays_here : (seen : Bool) (p : List ℕ × Data) (ps : Pairs) → is_null p.1 ≡ false → (seen || not (is_known p.0)) ≡ true → Strays seen (p ∷ ps)
strays_here true p ps is odd = inr (subst (λ l. 1 < 1 + length l) (sym (names_more p ps is)) (omega arith))
strays_here false p ps is odd =
    let unknown : is_known p.0 ≡ false = flip (is_known p.0) odd in
    inl (p.0, subst (λ l. Contains l p.0) (sym (names_more p ps is)) (Contains-head p.0 (names ps)), λ there. let holds = in_known p.0 there in absurd (cc))
  where
    flip : (b : Bool) → (false || not b) ≡ true → b ≡ false
    flip true e = absurd (cc)
    flip false e = refl

has_stray-true : (seen : Bool) (ps : Pairs) → has_stray seen ps ≡ true → Strays seen ps
has_stray-true seen [] is = absurd (cc)
has_stray-true seen (p ∷ ps) is = by_null (is_null p.1) refl (has_stray-true seen ps) (has_stray-true true ps) is
  where
    by_seen : (s : Bool) → is_null p.1 ≡ false → (has_stray true ps ≡ true → Strays true ps) → (s || not (is_known p.0)) ≡ false → has_stray true ps ≡ true → Strays s (p ∷ ps)
    by_seen true here rest fails more = absurd (cc)
    by_seen false here rest fails more = strays_more p ps here (rest more)

    by_odd : (odd : Bool) → is_null p.1 ≡ false → (has_stray true ps ≡ true → Strays true ps) → (seen || not (is_known p.0)) ≡ odd → cond odd true (has_stray true ps) ≡ true → Strays seen (p ∷ ps)
    by_odd true here rest e h = strays_here seen p ps here e
    by_odd false here rest e h = by_seen seen here rest e h

    by_null : (b : Bool) → is_null p.1 ≡ b → (has_stray seen ps ≡ true → Strays seen ps) → (has_stray true ps ≡ true → Strays true ps) → cond b (has_stray seen ps) (cond (seen || not (is_known p.0)) true (has_stray true ps)) ≡ true → Strays seen (p ∷ ps)
    by_null true e same rest h = strays_skip seen p ps e (same h)
    by_null false e same rest h = by_odd (seen || not (is_known p.0)) e rest refl h

fits_skip : (seen : Bool) (p : List ℕ × Data) (ps : Pairs) → is_null p.1 ≡ true → Fits seen ps → Fits seen (p ∷ ps)
fits_skip seen p ps is h = subst (λ l. ((name : List ℕ) → Contains l name → Contains known_members name) × (seen_count seen + length l ≤ 1)) (sym (names_null p ps is)) h

fits_more : (p : List ℕ × Data) (ps : Pairs) → is_null p.1 ≡ false → is_known p.0 ≡ true → Fits true ps → Fits false (p ∷ ps)
fits_more p ps is known h = subst (λ l. ((name : List ℕ) → Contains l name → Contains known_members name) × (0 + length l ≤ 1)) (sym (names_more p ps is))
    ((λ name there. ⊎_elim (λ here. subst (Contains known_members) here (known_in p.0 known)) (h.0 name) (Contains-cases p.0 (names ps) name there)), (let few = h.1 in omega (arith, few)))

has_stray-false : (seen : Bool) (ps : Pairs) → has_stray seen ps ≡ false → Fits seen ps
has_stray-false true [] is = (λ name there. absurd (Contains-none name there), omega arith)
has_stray-false false [] is = (λ name there. absurd (Contains-none name there), omega arith)
has_stray-false seen (p ∷ ps) is = by_null (is_null p.1) refl (has_stray-false seen ps) (has_stray-false true ps) is
  where
    by_odd : (s k : Bool) → is_null p.1 ≡ false → (has_stray true ps ≡ false → Fits true ps) → is_known p.0 ≡ k → cond (s || not k) true (has_stray true ps) ≡ false → Fits s (p ∷ ps)
    by_odd true k here rest e h = absurd (cc)
    by_odd false false here rest e h = absurd (cc)
    by_odd false true here rest e h = fits_more p ps here e (rest h)

    by_null : (b : Bool) → is_null p.1 ≡ b → (has_stray seen ps ≡ false → Fits seen ps) → (has_stray true ps ≡ false → Fits true ps) → cond b (has_stray seen ps) (cond (seen || not (is_known p.0)) true (has_stray true ps)) ≡ false → Fits seen (p ∷ ps)
    by_null true e same rest h = fits_skip seen p ps e (same h)
    by_null false e same rest h = by_odd seen (is_known p.0) e rest refl h

-- ---- a member that is there

-- the value, unless it is null
abbrev unless : Data → Option Data
unless d = present [] (object (member [] d no_members))

not_null : (d m : Data) → unless d ≡ Some m → is_null d ≡ false
not_null null m e = absurd (cc)
not_null (boolean b) m e = refl
not_null (number n) m e = refl
not_null (string s) m e = refl
not_null (array ds) m e = refl
not_null (object ms) m e = refl

names_wider : (p : List ℕ × Data) (ps : Pairs) (name : List ℕ) → Contains (names ps) name → Contains (names (p ∷ ps)) name
names_wider p ps name there = ⊎_elim
    (λ none. subst (λ l. Contains l name) (sym (names_null p ps none)) there)
    (λ some. subst (λ l. Contains l name) (sym (names_more p ps some)) (Contains-tail p.0 (names ps) name there))
    (cases_Bool (is_null p.1))

present_named : (name : List ℕ) (ms : Members) (m : Data) → present name (object ms) ≡ Some m → Contains (names (pairs ms)) name
present_named name no_members m e = absurd (cc)
present_named name (member l d ms) m e = by (slice_cmp nat_cmp name l) refl (present_named name ms m) e
  where
    by : (o : Ordering) → slice_cmp nat_cmp name l ≡ o → (present name (object ms) ≡ Some m → Contains (names (pairs ms)) name) → option_and_then unless (match_ordering o (get_member name ms) (Some d) (get_member name ms)) ≡ Some m → Contains (names ((l, d) ∷ pairs ms)) name
    by Less is rest h = names_wider (l, d) (pairs ms) name (rest h)
    by Greater is rest h = names_wider (l, d) (pairs ms) name (rest h)
    by Equal is rest h =
        let same : l ≡ name = sym (exact_bytes name l is) in
        subst (λ x. Contains x name) (sym (names_more (l, d) (pairs ms) (not_null d m h))) (subst (λ x. Contains (x ∷ names (pairs ms)) name) (sym same) (Contains-head name (names (pairs ms))))

alone : (xs : List (List ℕ)) (a b : List ℕ) → length xs ≤ 1 → Contains xs a → Contains xs b → a ≡ b
alone [] a b few one other = absurd (Contains-none a one)
alone (x ∷ []) a b few one other = sym (Contains-one x a one) ∙ Contains-one x b other
alone (x ∷ y ∷ xs) a b few one other = absurd (omega (arith, few))

module _ (ms : Members) (plain : has_stray false (pairs ms) ≡ false) where
  few_names : length (names (pairs ms)) ≤ 1
  few_names = let few = (has_stray-false false (pairs ms) plain).1 in omega (arith, few)

  none_by : (o : Option Data) (name other : List ℕ) (m : Data) → present name (object ms) ≡ Some m → name ≢ other → present other (object ms) ≡ o → o ≡ None
  none_by None name other m one bytes_apart is = refl
  none_by (Some n) name other m one bytes_apart is = absurd (bytes_apart (alone (names (pairs ms)) name other few_names (present_named name ms m one) (present_named other ms n is)))

  none_other : (name other : List ℕ) (m : Data) → present name (object ms) ≡ Some m → name ≢ other → present other (object ms) ≡ None
  none_other name other m one bytes_apart = none_by (present other (object ms)) name other m one bytes_apart refl

abbrev IsObject : Data → Type 0
IsObject d = (ms : Members) × (d ≡ object ms)

object_of : (name : List ℕ) (d m : Data) → present name d ≡ Some m → IsObject d
object_of name null m e = absurd (cc)
object_of name (boolean b) m e = absurd (cc)
object_of name (number n) m e = absurd (cc)
object_of name (string s) m e = absurd (cc)
object_of name (array ds) m e = absurd (cc)
object_of name (object ms) m e = (ms, refl)

kind_same : (a b c d e f a' b' c' d' e' f' : Option Data) → a ≡ a' → b ≡ b' → c ≡ c' → d ≡ d' → e ≡ e' → f ≡ f' → kind_by a b c d e f ≡ kind_by a' b' c' d' e' f'
kind_same a b c d e f a' b' c' d' e' f' p q r s t u = rw (p, q, r, s, t, u) refl

-- ---- an object without a stray member

pub object_plain : (d : Data) (ms : Members) → d ≡ object ms → has_stray false (pairs ms) ≡ false → member_kind d ≡ object_kind d
unfolding object_kind
object_plain d ms is plain = subst (λ x. member_kind x ≡ object_kind x) (sym is) (ap (λ b. cond b kind.Stray (member_kind (object ms))) (sym plain))

-- ---- lines that aren't stray

is_plain : (line : List ℕ) (d : Data) (ms : Members) → line_json line ≡ Some d → d ≡ object ms → is_stray (line_kind line) ≡ false → (has_stray false (pairs ms) ≡ false) × (line_kind line ≡ member_kind (object ms))
unfolding line_kind object_kind
is_plain line d ms is same plain =
    let whole : line_kind line ≡ object_kind (object ms) = ap json_kind is ∙ ap object_kind same in
    by (has_stray false (pairs ms)) refl whole plain
  where
    by : (b : Bool) → has_stray false (pairs ms) ≡ b → line_kind line ≡ cond b kind.Stray (member_kind (object ms)) → is_stray (line_kind line) ≡ false → (has_stray false (pairs ms) ≡ false) × (line_kind line ≡ member_kind (object ms))
    by true e h f = let odd : is_stray (line_kind line) ≡ true = ap is_stray h in absurd (cc)
    by false e h f = (e, h)

module _ (line : List ℕ) (plain : is_stray (line_kind line) ≡ false) (d : Data) (is : line_json line ≡ Some d) (ms : Members) (same : d ≡ object ms) where
  fits : has_stray false (pairs ms) ≡ false
  fits = (is_plain line d ms is same plain).0

  kind_is : line_kind line ≡ member_kind (object ms)
  kind_is = (is_plain line d ms is same plain).1

  here : (name : List ℕ) (m : Data) → present name d ≡ Some m → present name (object ms) ≡ Some m
  here name m e = ap (present name) (sym same) ∙ e

  none_beside : (name other : List ℕ) (m : Data) → present name d ≡ Some m → name ≢ other → present other (object ms) ≡ None
  none_beside name other m e bytes_apart = none_other ms fits name other m (here name m e) bytes_apart

  protocol_kind : (m : Data) → present (codes "protocol") d ≡ Some m → line_kind line ≡ kind.Kept key.Protocol
  protocol_kind m e = kind_is ∙ kind_same _ _ _ _ _ _ (Some m) _ _ _ _ _ (here (codes "protocol") m e) refl refl refl refl refl

  meta_kind : (m : Data) → present (codes "metaData") d ≡ Some m → line_kind line ≡ kind.Kept key.MetaData
  meta_kind m e = kind_is ∙ kind_same _ _ _ _ _ _ None (Some m) _ _ _ _ (none_beside (codes "metaData") (codes "protocol") m e (bytes_apart _ _ refl)) (here (codes "metaData") m e) refl refl refl refl

  add_kind : (m : Data) → present (codes "add") d ≡ Some m → line_kind line ≡ uri_kind (text_member (codes "path") m)
  add_kind m e = kind_is ∙ kind_same _ _ _ _ _ _ None None (Some m) _ _ _
      (none_beside (codes "add") (codes "protocol") m e (bytes_apart _ _ refl)) (none_beside (codes "add") (codes "metaData") m e (bytes_apart _ _ refl)) (here (codes "add") m e) refl refl refl

  remove_kind : (m : Data) → present (codes "remove") d ≡ Some m → line_kind line ≡ uri_kind (text_member (codes "path") m)
  remove_kind m e = kind_is ∙ kind_same _ _ _ _ _ _ None None None (Some m) _ _
      (none_beside (codes "remove") (codes "protocol") m e (bytes_apart _ _ refl)) (none_beside (codes "remove") (codes "metaData") m e (bytes_apart _ _ refl)) (none_beside (codes "remove") (codes "add") m e (bytes_apart _ _ refl))
      (here (codes "remove") m e) refl refl

  transaction_kind : (m : Data) → present (codes "txn") d ≡ Some m → line_kind line ≡ named_kind (λ app. key.Transaction app) (text_member (codes "appId") m)
  transaction_kind m e = kind_is ∙ kind_same _ _ _ _ _ _ None None None None (Some m) _
      (none_beside (codes "txn") (codes "protocol") m e (bytes_apart _ _ refl)) (none_beside (codes "txn") (codes "metaData") m e (bytes_apart _ _ refl)) (none_beside (codes "txn") (codes "add") m e (bytes_apart _ _ refl))
      (none_beside (codes "txn") (codes "remove") m e (bytes_apart _ _ refl)) (here (codes "txn") m e) refl

  domain_kind : (m : Data) → present (codes "domainMetadata") d ≡ Some m → line_kind line ≡ named_kind (λ name. key.Domain name) (text_member (codes "domain") m)
  domain_kind m e = kind_is ∙ kind_same _ _ _ _ _ _ None None None None None (Some m)
      (none_beside (codes "domainMetadata") (codes "protocol") m e (bytes_apart _ _ refl)) (none_beside (codes "domainMetadata") (codes "metaData") m e (bytes_apart _ _ refl))
      (none_beside (codes "domainMetadata") (codes "add") m e (bytes_apart _ _ refl)) (none_beside (codes "domainMetadata") (codes "remove") m e (bytes_apart _ _ refl))
      (none_beside (codes "domainMetadata") (codes "txn") m e (bytes_apart _ _ refl)) (here (codes "domainMetadata") m e)

-- what a line is about is what it is kept as, where its URI is that of a path
abbrev HasPlace : List ℕ → Type 0
HasPlace line = (uri : List ℕ) → ActsOnUri line uri → (path : List ℕ) × (uri_path uri ≡ inside_table path)

pub about_kind : (line : List ℕ) → is_stray (line_kind line) ≡ false → ((uri : List ℕ) → ActsOnUri line uri → (path : List ℕ) × (uri_path uri ≡ inside_table path)) → (k : LineKey) → IsAbout line k → line_kind line ≡ kind.Kept k
about_kind line plain placed key.Protocol (m, (d, is, e)) = let o = object_of (codes "protocol") d m e in protocol_kind line plain d is o.0 o.1 m e
about_kind line plain placed key.MetaData (m, (d, is, e)) = let o = object_of (codes "metaData") d m e in meta_kind line plain d is o.0 o.1 m e
about_kind line plain placed (key.Transaction app) (m, (d, is, e), named) = let o = object_of (codes "txn") d m e in transaction_kind line plain d is o.0 o.1 m e ∙ ap (named_kind (λ a. key.Transaction a)) named
about_kind line plain placed (key.Domain domain) (m, (d, is, e), named) = let o = object_of (codes "domainMetadata") d m e in domain_kind line plain d is o.0 o.1 m e ∙ ap (named_kind (λ a. key.Domain a)) named
about_kind line plain placed (key.File path) (uri, acts, decodes) =
    let place = placed uri acts in
    let same : place.0 ≡ path = decoded uri place.0 place.1 ∙ sym decodes in
    let is_file : uri_kind (Some uri) ≡ kind.Kept (key.File path) = ap file_kind place.1 ∙ ap (λ p. kind.Kept (key.File p)) same in
    by acts.0 acts.1 acts.2 is_file
  where
    by : (m : Data) → HasMember line (codes "add") m ⊎ HasMember line (codes "remove") m → text_member (codes "path") m ≡ Some uri → uri_kind (Some uri) ≡ kind.Kept (key.File path) → line_kind line ≡ kind.Kept (key.File path)
    by m (inl (d, is, e)) named h = let o = object_of (codes "add") d m e in add_kind line plain d is o.0 o.1 m e ∙ ap uri_kind named ∙ h
    by m (inr (d, is, e)) named h = let o = object_of (codes "remove") d m e in remove_kind line plain d is o.0 o.1 m e ∙ ap uri_kind named ∙ h

-- ---- what a line that is kept is about

module _ (line : List ℕ) (ms : Members) (is : line_json line ≡ Some (object ms)) where
  abbrev IsHere : List ℕ → Option Data → Type 0
  IsHere name o = present name (object ms) ≡ o

  member_here : (name : List ℕ) (m : Data) → present name (object ms) ≡ Some m → HasMember line name m
  member_here name m e = (object ms, is, e)

  about_place : (uri : List ℕ) (place : UriPath) (k : LineKey) → uri_path uri ≡ place → file_kind place ≡ kind.Kept k → ActsOnUri line uri → IsAbout line k
  about_place uri (inside_table path) k at kept acts = let same : key.File path ≡ k = cc in subst (IsAbout line) same (uri, acts, decoded uri path at)
  about_place uri (too_long path) k at kept acts = absurd (cc)
  about_place uri outside_table k at kept acts = absurd (cc)
  about_place uri no_path k at kept acts = absurd (cc)

  about_uri : (m : Data) (o : Option (List ℕ)) (k : LineKey) → text_member (codes "path") m ≡ o → uri_kind o ≡ kind.Kept k → HasMember line (codes "add") m ⊎ HasMember line (codes "remove") m → IsAbout line k
  about_uri m None k named kept has = absurd (cc)
  about_uri m (Some uri) k named kept has = about_place uri (uri_path uri) k refl kept (m, has, named)

  about_app : (m : Data) (o : Option (List ℕ)) (k : LineKey) → text_member (codes "appId") m ≡ o → named_kind (λ app. key.Transaction app) o ≡ kind.Kept k → HasMember line (codes "txn") m → IsAbout line k
  about_app m None k named kept has = absurd (cc)
  about_app m (Some app) k named kept has = let same : key.Transaction app ≡ k = cc in subst (IsAbout line) same (m, has, named)

  about_domain : (m : Data) (o : Option (List ℕ)) (k : LineKey) → text_member (codes "domain") m ≡ o → named_kind (λ name. key.Domain name) o ≡ kind.Kept k → HasMember line (codes "domainMetadata") m → IsAbout line k
  about_domain m None k named kept has = absurd (cc)
  about_domain m (Some name) k named kept has = let same : key.Domain name ≡ k = cc in subst (IsAbout line) same (m, has, named)

  about_by : (a b c d e f : Option Data) (k : LineKey) → present (codes "protocol") (object ms) ≡ a → present (codes "metaData") (object ms) ≡ b → present (codes "add") (object ms) ≡ c → present (codes "remove") (object ms) ≡ d
      → present (codes "txn") (object ms) ≡ e → present (codes "domainMetadata") (object ms) ≡ f → kind_by a b c d e f ≡ kind.Kept k → IsAbout line k
  about_by (Some m) b c d e f k p q r s t u kept = let same : key.Protocol ≡ k = cc in subst (IsAbout line) same (m, member_here (codes "protocol") m p)
  about_by None (Some m) c d e f k p q r s t u kept = let same : key.MetaData ≡ k = cc in subst (IsAbout line) same (m, member_here (codes "metaData") m q)
  about_by None None (Some m) d e f k p q r s t u kept = about_uri m (text_member (codes "path") m) k refl kept (inl (member_here (codes "add") m r))
  about_by None None None (Some m) e f k p q r s t u kept = about_uri m (text_member (codes "path") m) k refl kept (inr (member_here (codes "remove") m s))
  about_by None None None None (Some m) f k p q r s t u kept = about_app m (text_member (codes "appId") m) k refl kept (member_here (codes "txn") m t)
  about_by None None None None None (Some m) k p q r s t u kept = about_domain m (text_member (codes "domain") m) k refl kept (member_here (codes "domainMetadata") m u)
  about_by None None None None None None k p q r s t u kept = absurd (cc)

  about_object : (b : Bool) (k : LineKey) → cond b kind.Stray (member_kind (object ms)) ≡ kind.Kept k → IsAbout line k
  about_object true k kept = absurd (cc)
  about_object false k kept = about_by (present (codes "protocol") (object ms)) (present (codes "metaData") (object ms)) (present (codes "add") (object ms)) (present (codes "remove") (object ms))
      (present (codes "txn") (object ms)) (present (codes "domainMetadata") (object ms)) k refl refl refl refl refl refl kept

about_data : (line : List ℕ) (d : Data) (k : LineKey) → line_json line ≡ Some d → object_kind d ≡ kind.Kept k → IsAbout line k
unfolding object_kind
about_data line null k is kept = absurd (cc)
about_data line (boolean b) k is kept = absurd (cc)
about_data line (number n) k is kept = absurd (cc)
about_data line (string s) k is kept = absurd (cc)
about_data line (array ds) k is kept = absurd (cc)
about_data line (object ms) k is kept = about_object line ms is (has_stray false (pairs ms)) k kept

about_json : (line : List ℕ) (o : Option Data) (k : LineKey) → line_json line ≡ o → json_kind o ≡ kind.Kept k → IsAbout line k
about_json line None k is kept = absurd (cc)
about_json line (Some d) k is kept = about_data line d k is kept

pub kind_about : (line : List ℕ) (k : LineKey) → line_kind line ≡ kind.Kept k → IsAbout line k
unfolding line_kind
kind_about line k kept = about_json line (line_json line) k refl kept

-- ---- stray lines

module _ (line : List ℕ) (ms : Members) (is : line_json line ≡ Some (object ms)) where
  stray_app : (m : Data) (o : Option (List ℕ)) → text_member (codes "appId") m ≡ o → is_stray (named_kind (λ app. key.Transaction app) o) ≡ true → present (codes "txn") (object ms) ≡ Some m → IsStray line
  stray_app m None named odd e = (object ms, is, inr (inr (inl (m, e, named))))
  stray_app m (Some app) named odd e = absurd (cc)

  stray_domain : (m : Data) (o : Option (List ℕ)) → text_member (codes "domain") m ≡ o → is_stray (named_kind (λ name. key.Domain name) o) ≡ true → present (codes "domainMetadata") (object ms) ≡ Some m → IsStray line
  stray_domain m None named odd e = (object ms, is, inr (inr (inr (m, e, named))))
  stray_domain m (Some name) named odd e = absurd (cc)

  never_place : (place : UriPath) → is_stray (file_kind place) ≡ true → ⊥
  never_place (inside_table path) odd = absurd (cc)
  never_place (too_long path) odd = absurd (cc)
  never_place outside_table odd = absurd (cc)
  never_place no_path odd = absurd (cc)

  never_uri : (o : Option (List ℕ)) → is_stray (uri_kind o) ≡ true → ⊥
  never_uri None odd = absurd (cc)
  never_uri (Some uri) odd = never_place (uri_path uri) odd

  stray_by : (a b c d e f : Option Data) → present (codes "txn") (object ms) ≡ e → present (codes "domainMetadata") (object ms) ≡ f → is_stray (kind_by a b c d e f) ≡ true → IsStray line
  stray_by (Some m) b c d e f t u odd = absurd (cc)
  stray_by None (Some m) c d e f t u odd = absurd (cc)
  stray_by None None (Some m) d e f t u odd = absurd (never_uri (text_member (codes "path") m) odd)
  stray_by None None None (Some m) e f t u odd = absurd (never_uri (text_member (codes "path") m) odd)
  stray_by None None None None (Some m) f t u odd = stray_app m (text_member (codes "appId") m) refl odd t
  stray_by None None None None None (Some m) t u odd = stray_domain m (text_member (codes "domain") m) refl odd u
  stray_by None None None None None None t u odd = absurd (cc)

  stray_object : (b : Bool) → has_stray false (pairs ms) ≡ b → is_stray (cond b kind.Stray (member_kind (object ms))) ≡ true → IsStray line
  stray_object true e odd = ⊎_elim
      (λ (other : (name : List ℕ) × Contains (names (pairs ms)) name × (Contains known_members name → ⊥)). (object ms, is, inl other))
      (λ (two : 1 < 0 + length (names (pairs ms))). let more : 1 < length (names (pairs ms)) = omega (arith, two) in (object ms, is, inr (inl more)))
      (has_stray-true false (pairs ms) e)
  stray_object false e odd =
      stray_by (present (codes "protocol") (object ms)) (present (codes "metaData") (object ms)) (present (codes "add") (object ms)) (present (codes "remove") (object ms))
      (present (codes "txn") (object ms)) (present (codes "domainMetadata") (object ms)) refl refl odd

stray_data : (line : List ℕ) (d : Data) → line_json line ≡ Some d → is_stray (object_kind d) ≡ true → IsStray line
unfolding object_kind
stray_data line null is odd = absurd (cc)
stray_data line (boolean b) is odd = absurd (cc)
stray_data line (number n) is odd = absurd (cc)
stray_data line (string s) is odd = absurd (cc)
stray_data line (array ds) is odd = absurd (cc)
stray_data line (object ms) is odd = stray_object line ms is (has_stray false (pairs ms)) refl odd

stray_json : (line : List ℕ) (o : Option Data) → line_json line ≡ o → is_stray (json_kind o) ≡ true → IsStray line
stray_json line None is odd = absurd (cc)
stray_json line (Some d) is odd = stray_data line d is odd

pub stray_line : (line : List ℕ) → is_stray (line_kind line) ≡ true → IsStray line
unfolding line_kind
stray_line line odd = stray_json line (line_json line) refl odd

-- ---- and lines that are none

no_names : (d : Data) (name : List ℕ) → Contains (member_names d) name → IsObject d
no_names null name there = absurd (Contains-none name there)
no_names (boolean b) name there = absurd (Contains-none name there)
no_names (number n) name there = absurd (Contains-none name there)
no_names (string s) name there = absurd (Contains-none name there)
no_names (array ds) name there = absurd (Contains-none name there)
no_names (object ms) name there = (ms, refl)

long_object : (d : Data) → 1 < length (member_names d) → IsObject d
long_object null two = absurd (omega (arith, two))
long_object (boolean b) two = absurd (omega (arith, two))
long_object (number n) two = absurd (omega (arith, two))
long_object (string s) two = absurd (omega (arith, two))
long_object (array ds) two = absurd (omega (arith, two))
long_object (object ms) two = (ms, refl)

pub plain_line : (line : List ℕ) → is_stray (line_kind line) ≡ false → IsStray line → ⊥
plain_line line plain (d, is, inl (name, there, unknown)) =
    let o = no_names d name there in
    unknown ((has_stray-false false (pairs o.0) (fits line plain d is o.0 o.1)).0 name (subst (λ x. Contains (member_names x) name) o.1 there))
plain_line line plain (d, is, inr (inl two)) =
    let o = long_object d two in
    let few = (has_stray-false false (pairs o.0) (fits line plain d is o.0 o.1)).1 in
    let more : 1 < length (names (pairs o.0)) = subst (λ x. 1 < length (member_names x)) o.1 two in
    omega (arith, few, more)
plain_line line plain (d, is, inr (inr (inl (m, e, none)))) =
    let o = object_of (codes "txn") d m e in
    let odd : is_stray (line_kind line) ≡ true = ap is_stray (transaction_kind line plain d is o.0 o.1 m e ∙ ap (named_kind (λ a. key.Transaction a)) none) in
    absurd (cc)
plain_line line plain (d, is, inr (inr (inr (m, e, none)))) =
    let o = object_of (codes "domainMetadata") d m e in
    let odd : is_stray (line_kind line) ≡ true = ap is_stray (domain_kind line plain d is o.0 o.1 m e ∙ ap (named_kind (λ a. key.Domain a)) none) in
    absurd (cc)
