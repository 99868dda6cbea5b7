-- Partition values in folders: what the functions give is what the relations say.
use Rattle.std.specs.Borrow.{Bor}
use Rattle.std.specs.Option.{option_copied}
use Rattle.std.specs.Prelude.{not, ◌&&◌, nat_le, if◌then◌else◌, MatchBool, IsUtf8}
use Rattle.std.specs.List.{slice_split, list_any, position_or_len, before_first, after_first}
use Rattle.std.specs.Str.{bytes_eq, is_utf8}
use Rattle.std.specs.Cmp.Lexicographic.{bytes_decides}
use Rattle.std.proofs.Common.{◌≡◌, ◌↔◌, ℕ, suc, ◌+◌, ◌-◌, ◌<◌, ◌≤◌, Bool, true, false, List, [], ◌∷◌, ◌++◌, length, map, take, drop, get_or, Option, None, Some, IsTrue, refl, sym, ap, subst, ◌∙◌, ⊎_elim, arith, drop-cons, length-append, length-drop}
use Rattle.std.proofs.lemmas.Bool.{true≢false, cases_Bool, cases_lt, cond-true, cond-false, and_parts, and_from, and_left, and_right, or_from, or_parts, not_from_true, not_from_false, eqb-true, leb-true, le-leb, ne_eqb, false_from_ne_true}
use Rattle.std.proofs.lemmas.List.{get_or-drop, get_or-take, take-append-drop, take-map, drop-map, length-map}
use Rattle.std.proofs.lemmas.List.Prefix.{front_rest, front_reads, end_rest}
use Rattle.std.proofs.lemmas.List.Sums.{prefix_len-le-length, position_or_len_is, fails_before_first, passes_at_first, split_at_first}
use Rattle.std.proofs.lemmas.List.Folds.{length-prefix_len}
use Rattle.std.proofs.Math.Seq.{take-append_seam}
use Rattle.std.proofs.lemmas.Str.{IsUtf8-from_is_utf8, is_utf8-from_IsUtf8}
use Rattle.percent_encoding.specs.Percent.{percent_decode}
use Rattle.table_history.specs.Path.{is_slash}
use Rattle.table_history.specs.declared.row.PartValue.{PartValue}
use Rattle.partition_map.specs.declared.folder.FolderStyle.{FolderStyle}
use Rattle.partition_map.specs.Stands.{StandsInFolder}
use Rattle.partition_map.specs.Folder.{is_equals, folder_components, last_components, unescaped_bytes, unescaped_text, IsNamedPart, IsValuePart, IsValuePartOrNone, named_part, value_part, hive_folders, PartCarries, CarriesValue, EachCarries, CarriesValues}

abbrev pub now_of : Bor (List ℕ) → List ℕ
now_of part = part.now

-- ---- the components of a folder
pub all_but_last : (path : List ℕ) (parts rest : List (Bor (List ℕ))) (n : ℕ) → map now_of parts ≡ slice_split is_slash path → n ≡ length parts → rest ≡ take (n - 1) parts
    → map now_of rest ≡ folder_components path
all_but_last path parts rest n cut len is =
    let count : n ≡ length (slice_split is_slash path) = len ∙ sym (length-map parts now_of) ∙ ap length cut in
    ap (map now_of) is ∙ sym (take-map now_of (n - 1) parts) ∙ ap (take (n - 1)) cut ∙ ap (λ k. take (k - 1) (slice_split is_slash path)) count

pub last_is : (path : List ℕ) (count : ℕ) (parts last : List (Bor (List ℕ))) (n : ℕ) → map now_of parts ≡ folder_components path → n ≡ length parts → count ≤ n → last ≡ drop (n - count) parts
    → Some (map now_of last) ≡ last_components count path
last_is path count parts last n all len fits is =
    let whole : n ≡ length (folder_components path) = len ∙ sym (length-map parts now_of) ∙ ap length all in
    let rest : map now_of last ≡ drop (length (folder_components path) - count) (folder_components path) =
    ap (map now_of) is ∙ sym (drop-map now_of (n - count) parts) ∙ ap (drop (n - count)) all ∙ ap (λ k. drop (k - count) (folder_components path)) whole in
    ap Some rest ∙ sym (cond-true _ _ _ (le-leb count (length (folder_components path)) (omega (arith, fits, whole))))

-- ---- the first `=`
pub none_equals : (xs : List ℕ) → position_or_len is_equals xs ≡ length xs → list_any is_equals xs ≡ false
none_equals [] h = refl
none_equals (x ∷ xs) h =
    ⊎_elim
    (λ t. let e : position_or_len is_equals (x ∷ xs) ≡ 0 = cond-false (not (is_equals x)) _ _ (not_from_true (is_equals x) t) in absurd (omega (arith, h, e)))
    (λ f. let e : position_or_len is_equals (x ∷ xs) ≡ 1 + position_or_len is_equals xs = cond-true (not (is_equals x)) _ _ (not_from_false (is_equals x) f) in
    or_from (is_equals x) (list_any is_equals xs) f (none_equals xs (omega (arith, h, e))))
    (cases_Bool (is_equals x))

no_equals : (xs : List ℕ) → list_any is_equals xs ≡ false → position_or_len is_equals xs ≡ length xs
no_equals [] h = refl
no_equals (x ∷ xs) h =
    let parts = or_parts (is_equals x) (list_any is_equals xs) h in
    let e : position_or_len is_equals (x ∷ xs) ≡ 1 + position_or_len is_equals xs = cond-true (not (is_equals x)) _ _ (not_from_false (is_equals x) parts.0) in
    omega (arith, e, no_equals xs parts.1)

equals_within : (xs : List ℕ) → list_any is_equals xs ≡ true → position_or_len is_equals xs < length xs
equals_within xs h =
    ⊎_elim (λ lt. lt)
    (λ past. absurd (true≢false (sym h ∙ none_equals xs (omega (arith, past, prefix_len-le-length (λ x. not (is_equals x)) xs)))))
    (cases_lt (position_or_len is_equals xs) (length xs))

has_equals : (xs : List ℕ) → position_or_len is_equals xs < length xs → list_any is_equals xs ≡ true
has_equals xs within =
    ⊎_elim (λ t. t) (λ f. absurd (omega (arith, within, no_equals xs f))) (cases_Bool (list_any is_equals xs))

-- ---- a named part
module _ (style : FolderStyle) (column component part : List ℕ) where
  unnamed : list_any is_equals component ≡ false → named_part style column component ≡ None
  unnamed none = cond-false _ _ _ (and_left (list_any is_equals component) _ none)

  IsNamedPart-from_test : named_part style column component ≡ Some part → IsNamedPart style column component part
  IsNamedPart-from_test is =
      ⊎_elim
      (λ t.
      let parts = and_parts (list_any is_equals component) (bytes_eq (unescaped_bytes style (before_first is_equals component)) column) t in
      let within : position_or_len is_equals component < length component = equals_within component parts.0 in
      let after : after_first is_equals component ≡ part = let e : Some (after_first is_equals component) ≡ Some part = sym (cond-true _ _ _ t) ∙ is in cc in
      let sign : get_or component (position_or_len is_equals component) 0 ≡ 61 = eqb-true _ 61 (passes_at_first is_equals component 0 within) in
      record {
        name = before_first is_equals component;
        split = split_at_first is_equals component 0 within ∙ (λ i. before_first is_equals component ++ sign i ∷ after i);
        first = λ c.
            let k = c.0 in
            let before : k < position_or_len is_equals component = omega (arith, c.1, length-prefix_len (λ x. not (is_equals x)) component) in
            let at : get_or component k 61 ≡ 61 = sym (get_or-take (position_or_len is_equals component) component k 61 before) ∙ c.2 in
            true≢false (sym (ap is_equals at) ∙ fails_before_first is_equals component k 61 before);
        unescapes = (bytes_decides (unescaped_bytes style (before_first is_equals component)) column).0 parts.1;
      })
      (λ f. let e : None ≡ Some part = sym (cond-false _ _ _ f) ∙ is in absurd cc)
      (cases_Bool (list_any is_equals component && bytes_eq (unescaped_bytes style (before_first is_equals component)) column))

  named_part-IsNamedPart : IsNamedPart style column component part → named_part style column component ≡ Some part
  named_part-IsNamedPart h =
      let n = length h.name in
      let behind : drop n component ≡ 61 ∷ part = front_rest component h.name (61 ∷ part) h.split in
      let at : get_or component n 61 ≡ 61 = ap (λ k. get_or component k 61) (let e : n ≡ n + 0 = omega arith in e) ∙ sym (get_or-drop n component 0 61) ∙ ap (λ l. get_or l 0 61) behind in
      let within : n < length component = omega (arith, ap length h.split, length-append h.name (61 ∷ part)) in
      let fails : (k : ℕ) → k < n → is_equals (get_or component k 61) ≡ false =
      λ k small. ne_eqb _ 61 (λ e. h.first (k, small, sym (front_reads 61 component h.name (61 ∷ part) h.split k small) ∙ e)) in
      let first : position_or_len is_equals component ≡ n = position_or_len_is is_equals component n 61 (omega (arith, within)) fails (λ _. ap is_equals at) in
      let name : before_first is_equals component ≡ h.name = ap (λ k. take k component) first ∙ ap (take n) h.split ∙ take-append_seam h.name (61 ∷ part) in
      let rest : after_first is_equals component ≡ part =
      let e : 61 ∷ part ≡ get_or component n 61 ∷ drop (suc n) component = sym behind ∙ drop-cons component n 61 within in
      let tail : drop (suc n) component ≡ part = cc in ap (λ k. drop k component) (let m : position_or_len is_equals component + 1 ≡ suc n = omega (arith, first) in m) ∙ tail in
      cond-true _ _ _ (and_from (list_any is_equals component) _ (has_equals component (omega (arith, first, within))) ((bytes_decides _ column).1 (ap (unescaped_bytes style) name ∙ h.unescapes))) ∙ ap Some rest

-- by the style
styled : (b : Bool) (named : Option (List ℕ)) (component part : List ℕ) (P : Type 0) → (named ≡ Some part) ↔ P → ((if b then named else Some component) ≡ Some part) ↔ MatchBool b P (part ≡ component)
styled true named component part P says = says
styled false named component part P says = (λ e. cc, λ e. ap Some (sym e))

pub value_part_says : (style : FolderStyle) (column component part : List ℕ) → (value_part style column component ≡ Some part) ↔ IsValuePart style column component part
value_part_says style column component part =
    styled style.hive_style (named_part style column component) component part (IsNamedPart style column component part)
    (IsNamedPart-from_test style column component part, named_part-IsNamedPart style column component part)

-- a part that is found is the value's, and where none is found there is none
pub part_means : (style : FolderStyle) (column component : List ℕ) (r : Option (Bor (List ℕ))) → option_copied r ≡ value_part style column component
    → IsValuePartOrNone style column component r
part_means style column component None is = λ part h. let e : None ≡ Some part = is ∙ (value_part_says style column component part).1 h in absurd cc
part_means style column component (Some part) is = (value_part_says style column component part.now).0 (sym is)

pub no_part : (style : FolderStyle) (column component : List ℕ) → style.hive_style ≡ true → position_or_len is_equals component ≡ length component → None ≡ value_part style column component
no_part style column component hive none = sym (cond-true style.hive_style _ _ hive ∙ unnamed style column component [] (none_equals component none))

pub other_part : (style : FolderStyle) (column component name : List ℕ) (b : Bool) → style.hive_style ≡ true → name ≡ before_first is_equals component → b ≡ bytes_eq (unescaped_bytes style name) column → b ≡ false
    → None ≡ value_part style column component
other_part style column component name b hive is named other =
    let test : bytes_eq (unescaped_bytes style (before_first is_equals component)) column ≡ false = ap (λ l. bytes_eq (unescaped_bytes style l) column) (sym is) ∙ sym named ∙ other in
    sym (cond-true style.hive_style _ _ hive ∙ cond-false _ _ _ (and_right (list_any is_equals component) _ test))

pub found_part : (style : FolderStyle) (column component name part : List ℕ) (b : Bool) → style.hive_style ≡ true → name ≡ before_first is_equals component → part ≡ after_first is_equals component
    → position_or_len is_equals component < length component → b ≡ bytes_eq (unescaped_bytes style name) column → b ≡ true → Some part ≡ value_part style column component
found_part style column component name part b hive is is' within named same =
    let test : bytes_eq (unescaped_bytes style (before_first is_equals component)) column ≡ true = ap (λ l. bytes_eq (unescaped_bytes style l) column) (sym is) ∙ sym named ∙ same in
    ap Some is' ∙ sym (cond-true style.hive_style _ _ hive ∙ cond-true _ _ _ (and_from (list_any is_equals component) _ (has_equals component within) test))

-- ---- unescaping
pub unescaped_same : (style : FolderStyle) (part : List ℕ) → unescaped_bytes style part ≡ part → IsUtf8 part → Some part ≡ unescaped_text style part
unescaped_same style part same utf8 =
    sym (cond-true _ _ _ (is_utf8-from_IsUtf8 _ (subst IsUtf8 (sym same) utf8)) ∙ ap Some same)

pub unescaped_some : (style : FolderStyle) (part text : List ℕ) → style.url_encode ≡ true → text ≡ percent_decode part → IsUtf8 (percent_decode part) → Some text ≡ unescaped_text style part
unescaped_some style part text encoded is utf8 =
    let same : unescaped_bytes style part ≡ percent_decode part = cond-true style.url_encode _ _ encoded in
    sym (cond-true _ _ _ (is_utf8-from_IsUtf8 _ (subst IsUtf8 (sym same) utf8)) ∙ ap Some (same ∙ sym is))

pub unescaped_none : (style : FolderStyle) (part : List ℕ) → style.url_encode ≡ true → (IsUtf8 (percent_decode part) → ⊥) → None ≡ unescaped_text style part
unescaped_none style part encoded other =
    let same : unescaped_bytes style part ≡ percent_decode part = cond-true style.url_encode _ _ encoded in
    sym (cond-false _ _ _ (false_from_ne_true _ (λ t. other (subst IsUtf8 same (IsUtf8-from_is_utf8 _ t)))))

-- ---- one component
module _ (part : List ℕ) (value : PartValue) where
  pub carries_no_text : None ≡ unescaped_text hive_folders part → PartCarries part value → ⊥
  carries_no_text is h =
      let some : unescaped_text hive_folders part ≡ Some (unescaped_bytes hive_folders part) = cond-true _ _ _ (is_utf8-from_IsUtf8 _ h.utf8) in
      let wrong : None ≡ Some (unescaped_bytes hive_folders part) = is ∙ some in absurd cc

  pub carries_text : (text : List ℕ) (b : Bool) → Some text ≡ unescaped_text hive_folders part → IsTrue b ↔ StandsInFolder text value → IsTrue b ↔ PartCarries part value
  carries_text text b is says =
      ⊎_elim
      (λ t.
      let same : text ≡ unescaped_bytes hive_folders part = let e : Some text ≡ Some (unescaped_bytes hive_folders part) = is ∙ cond-true _ _ _ t in cc in (
        λ h. record { utf8 = IsUtf8-from_is_utf8 _ t; stands = subst (λ l. StandsInFolder l value) same (says.0 h) },
        λ h. says.1 (subst (λ l. StandsInFolder l value) (sym same) h.stands),
      ))
      (λ f. let e : Some text ≡ None = is ∙ cond-false _ _ _ f in absurd cc)
      (cases_Bool (is_utf8 (unescaped_bytes hive_folders part)))

module _ (column component : List ℕ) (value : PartValue) where
  pub carries_no_part : None ≡ value_part hive_folders column component → CarriesValue column component value → ⊥
  carries_no_part is h =
      let wrong : None ≡ Some h.part = is ∙ (value_part_says hive_folders column component h.part).1 h.named in absurd cc

  pub carries_part : (part : List ℕ) (b : Bool) → Some part ≡ value_part hive_folders column component → IsTrue b ↔ PartCarries part value → IsTrue b ↔ CarriesValue column component value
  carries_part part b is says = (
    λ h. record { part = part; named = (value_part_says hive_folders column component part).0 (sym is); carries = says.0 h },
    λ h.
        let other : value_part hive_folders column component ≡ Some h.part = (value_part_says hive_folders column component h.part).1 h.named in
        let same : h.part ≡ part = let e : Some h.part ≡ Some part = sym other ∙ sym is in cc in
        says.1 (subst (λ l. PartCarries l value) same h.carries),
  )

-- ---- all components
pub too_few : (columns components : List (List ℕ)) (values : List PartValue) → length values < length columns → EachCarries columns components values → ⊥
too_few [] components values few h = absurd (omega (arith, few))
too_few (column ∷ columns) [] values few h = h
too_few (column ∷ columns) (component ∷ components) [] few h = h
too_few (column ∷ columns) (component ∷ components) (value ∷ values) few h = too_few columns components values (omega (arith, few)) h.1

-- the components from a place on spell their values
abbrev pub RestCarries : List (List ℕ) → List (Bor (List ℕ)) → List PartValue → ℕ → Type 0
RestCarries columns components values i = EachCarries (drop i columns) (map now_of (drop i components)) (drop i values)

cons_step : (columns : List (List ℕ)) (components : List (Bor (List ℕ))) (values : List PartValue)
    → (c : List ℕ) (cs : List (List ℕ)) (p : Bor (List ℕ)) (ps : List (Bor (List ℕ))) (v : PartValue) (vs : List PartValue) → columns ≡ c ∷ cs → components ≡ p ∷ ps → values ≡ v ∷ vs
    → EachCarries columns (map now_of components) values ↔ (CarriesValue c p.now v × EachCarries cs (map now_of ps) vs)
cons_step columns components values c cs p ps v vs e f g = (
  λ h. subst (λ l. EachCarries l (map now_of (p ∷ ps)) (v ∷ vs)) e (subst (λ l. EachCarries columns (map now_of l) (v ∷ vs)) f (subst (λ l. EachCarries columns (map now_of components) l) g h)),
  λ h. subst (λ l. EachCarries columns (map now_of components) l) (sym g) (subst (λ l. EachCarries columns (map now_of l) (v ∷ vs)) (sym f) (subst (λ l. EachCarries l (map now_of (p ∷ ps)) (v ∷ vs)) (sym e) h)),
)

cut_at : {X : Type 0} (xs : List X) (i : ℕ) (x : X) → i < length xs → get_or xs i x ≡ x → drop i xs ≡ x ∷ drop (i + 1) xs
cut_at xs i x within is = drop-cons xs i x within ∙ ap (λ y. y ∷ drop (suc i) xs) is ∙ ap (λ k. x ∷ drop k xs) (let e : suc i ≡ i + 1 = omega arith in e)

pub rest_step : (columns : List (List ℕ)) (components : List (Bor (List ℕ))) (values : List PartValue) (i : ℕ) (column : List ℕ) (component : Bor (List ℕ)) (value : PartValue)
    → i < length columns → i < length components → i < length values → get_or columns i column ≡ column → get_or components i component ≡ component → get_or values i value ≡ value
    → RestCarries columns components values i ↔ (CarriesValue column component.now value × RestCarries columns components values (i + 1))
rest_step columns components values i column component value c p v c_is p_is v_is =
    cons_step (drop i columns) (drop i components) (drop i values) column (drop (i + 1) columns) component (drop (i + 1) components) value (drop (i + 1) values)
    (cut_at columns i column c c_is) (cut_at components i component p p_is) (cut_at values i value v v_is)

-- ---- the last components
module _ (path : List ℕ) (columns : List (List ℕ)) (values : List PartValue) where
  pub carries_too_deep : None ≡ last_components (length columns) path → CarriesValues path columns values → ⊥
  carries_too_deep is h =
      let fits : length columns ≤ length (folder_components path) = omega (arith, ap length h.last, length-append h.front h.components, h.count) in
      let some : last_components (length columns) path ≡ Some (drop (length (folder_components path) - length columns) (folder_components path)) = cond-true _ _ _ (le-leb _ _ fits) in
      let wrong : None ≡ Some (drop (length (folder_components path) - length columns) (folder_components path)) = is ∙ some in absurd cc

  pub carries_last : (components : List (List ℕ)) (b : Bool) → Some components ≡ last_components (length columns) path → IsTrue b ↔ EachCarries columns components values → IsTrue b ↔ CarriesValues path columns values
  carries_last components b is says =
      let n = length columns in
      let all = folder_components path in
      ⊎_elim
      (λ t.
      let fits : n ≤ length all = leb-true n (length all) t in
      let same : components ≡ drop (length all - n) all = let e : Some components ≡ Some (drop (length all - n) all) = is ∙ cond-true _ _ _ t in cc in (
        λ h. record {
          front = take (length all - n) all;
          components = components;
          last = sym (take-append-drop (length all - n) all) ∙ ap (λ l. take (length all - n) all ++ l) (sym same);
          count = ap length same ∙ length-drop (length all - n) all ∙ (let e : length all - (length all - n) ≡ n = omega arith in e);
          spelled = says.0 h;
        },
        λ h.
            let rest : drop (length all - length h.components) all ≡ h.components = end_rest all h.components h.front h.last in
            let others : h.components ≡ components = sym rest ∙ ap (λ k. drop (length all - k) all) h.count ∙ sym same in
            says.1 (subst (λ l. EachCarries columns l values) others h.spelled),
      ))
      (λ f. let e : Some components ≡ None = is ∙ cond-false _ _ _ f in absurd cc)
      (cases_Bool (nat_le n (length all)))
