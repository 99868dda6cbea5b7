-- A folder spells one list of values at most.
use Rattle.std.proofs.Common.{◌≡◌, ℕ, zero, suc, ◌+◌, ◌<◌, List, [], ◌∷◌, ◌++◌, length, take, drop, get_or, map, zip, Option, Some, None, Bor, refl, sym, ap, subst, ◌∙◌, arith}
use Rattle.std.specs.Option.{option_map, option_and_then}
use Rattle.std.proofs.lemmas.List.{append_assoc, take_more, drop_more, length-take, length-map, get_or-map}
use Rattle.table_history.specs.declared.row.FileRow.{FileRow}
use Rattle.table_history.specs.declared.row.PartValue.{PartValue}
use Rattle.partition_map.specs.declared.kind.PartKind.{PartKind}
use Rattle.partition_map.specs.declared.folder.FolderStyle.{FolderStyle}
use Rattle.partition_map.specs.Stands.{HiveStands}
use Rattle.partition_map.proofs.StandsLemmas.{hive_same}
use Rattle.partition_map.specs.Folder.{value_part, last_components}
use Rattle.hudi_names.specs.declared.error.HudiError.{HudiError}
use Rattle.hudi_names.specs.declared.error.HudiError.TheVariants.{Memory, Malformed, Unsupported, Limit}
use Rattle.hudi_files.specs.Values.{PartStands, PartsStand, HasValues, HaveValues, ShowsNoValue, component_parts, value_parts, with_values}

pub part_same : (style : FolderStyle) (kind : PartKind) (part : List ℕ) (v w : PartValue) → PartStands style kind part v → PartStands style kind part w → v ≡ w
part_same style kind part v w h k =
    let same : h.0 ≡ k.0 = cc (sym h.1 ∙ k.1) in hive_same kind k.0 v w (subst (λ text. HiveStands kind text v) same h.2) k.2

pub parts_same : (style : FolderStyle) (kinds : List PartKind) (parts : List (List ℕ)) (vs ws : List PartValue) → PartsStand style kinds parts vs → PartsStand style kinds parts ws → vs ≡ ws
parts_same style [] parts vs ws h k = h ∙ sym k
parts_same style (kind ∷ kinds) [] vs ws h k = absurd h
parts_same style (kind ∷ kinds) (part ∷ parts) vs ws h k =
    h.4 ∙ (λ i. part_same style kind part h.0 k.0 h.2 k.2 i ∷ parts_same style kinds parts h.1 k.1 h.3 k.3 i) ∙ sym k.4

row_same : (style : FolderStyle) (names : List (List ℕ)) (kinds : List PartKind) (file r s : FileRow) → HasValues style names kinds file r → HasValues style names kinds file s → r ≡ s
row_same style names kinds file r s h k =
    let parts : h.parts ≡ k.parts = cc (sym h.spelled ∙ k.spelled) in
    let values : r.values ≡ s.values = parts_same style kinds k.parts r.values s.values (subst (λ ps. PartsStand style kinds ps r.values) parts h.values) k.values in
    λ i. record {
      path = (h.path ∙ sym k.path) i;
      values = values i;
      count = (h.count ∙ sym k.count) i;
      size = (h.size ∙ sym k.size) i;
    }

pub rows_same : (style : FolderStyle) (names : List (List ℕ)) (kinds : List PartKind) (files rows rows' : List FileRow) → HaveValues style names kinds files rows → HaveValues style names kinds files rows' → rows ≡ rows'
rows_same style names kinds [] rows rows' h k = h ∙ sym k
rows_same style names kinds (file ∷ files) rows rows' h k =
    h.4 ∙ (λ i. row_same style names kinds file h.0 k.0 h.2 k.2 i ∷ rows_same style names kinds files h.1 k.1 h.3 k.3 i) ∙ sym k.4

-- ---- one more value, and one more row
pub part_pushed : (style : FolderStyle) (kinds : List PartKind) (parts : List (List ℕ)) (vs : List PartValue) (kind : PartKind) (part : List ℕ) (v : PartValue)
    → PartsStand style kinds parts vs → length kinds ≡ length parts → PartStands style kind part v → PartsStand style (kinds ++ kind ∷ []) (parts ++ part ∷ []) (vs ++ v ∷ [])
part_pushed style [] [] vs kind part v h len stands = (v, [], stands, refl, ap (λ l. l ++ v ∷ []) h)
part_pushed style [] (p ∷ ps) vs kind part v h len stands = absurd (omega (arith, len))
part_pushed style (k ∷ ks) [] vs kind part v h len stands = absurd h
part_pushed style (k ∷ ks) (p ∷ ps) vs kind part v h len stands =
    (h.0, h.1 ++ v ∷ [], h.2, part_pushed style ks ps h.1 kind part v h.3 (omega (arith, len)) stands, ap (λ l. l ++ v ∷ []) h.4)

pub row_pushed : (style : FolderStyle) (names : List (List ℕ)) (kinds : List PartKind) (files rows : List FileRow) (file row : FileRow)
    → HaveValues style names kinds files rows → HasValues style names kinds file row → HaveValues style names kinds (files ++ file ∷ []) (rows ++ row ∷ [])
row_pushed style names kinds [] rows file row h has = (row, [], has, refl, ap (λ l. l ++ row ∷ []) h)
row_pushed style names kinds (f ∷ fs) rows file row h has = (h.0, h.1 ++ row ∷ [], h.2, row_pushed style names kinds fs h.1 file row h.3 has, ap (λ l. l ++ row ∷ []) h.4)

pub values_pushed : (files : List FileRow) (values : List (List PartValue)) (file : FileRow) (vs : List PartValue) → length files ≡ length values
    → map with_values (zip files values) ++ with_values (file, vs) ∷ [] ≡ map with_values (zip (files ++ file ∷ []) (values ++ vs ∷ []))
values_pushed [] [] file vs same = refl
values_pushed [] (w ∷ ws) file vs same = absurd (omega (arith, same))
values_pushed (f ∷ fs) [] file vs same = absurd (omega (arith, same))
values_pushed (f ∷ fs) (w ∷ ws) file vs same = ap (λ l. with_values (f, w) ∷ l) (values_pushed fs ws file vs (omega (arith, same)))

-- ---- the same by places of the lists
abbrev pub now_of : Bor (List ℕ) → List ℕ
now_of part = part.now

-- what stands in for a text past the end of a list
abbrev pub no_text : Bor (List ℕ)
no_text = record { ref_ptr = (0, 0); now = [] }

take_both : {X : Type 0} (xs : List X) (i : ℕ) (d : X) → i < length xs → take i xs ++ get_or xs i d ∷ [] ≡ take (i + 1) xs
take_both xs i d within = sym (take_more xs i d within)

at_map : (parts : List (Bor (List ℕ))) (i : ℕ) (d : Bor (List ℕ)) → i < length parts → get_or (map now_of parts) i [] ≡ (get_or parts i d).now
at_map parts i d within = get_or-map now_of parts i d [] within

pub parts_more : (style : FolderStyle) (kinds : List PartKind) (parts : List (Bor (List ℕ))) (vs : List PartValue) (i : ℕ) (k : PartKind) (d : Bor (List ℕ)) (v : PartValue)
    → length kinds ≡ length parts → i < length kinds → PartsStand style (take i kinds) (take i (map now_of parts)) vs → PartStands style (get_or kinds i k) (get_or parts i d).now v
    → PartsStand style (take (i + 1) kinds) (take (i + 1) (map now_of parts)) (vs ++ v ∷ [])
parts_more style kinds parts vs i k d v len within h stands =
    let names = map now_of parts in
    let inside : i < length names = omega (arith, length-map parts now_of) in
    let part : get_or names i [] ≡ (get_or parts i d).now = at_map parts i d (omega arith) in
    subst (λ l. PartsStand style l (take (i + 1) names) (vs ++ v ∷ [])) (take_both kinds i k within)
    (subst (λ l. PartsStand style (take i kinds ++ get_or kinds i k ∷ []) l (vs ++ v ∷ [])) (take_both names i [] inside)
    (part_pushed style (take i kinds) (take i names) vs (get_or kinds i k) (get_or names i []) v h (omega (arith, length-take i kinds, length-take i names, length-map parts now_of))
    (subst (λ p. PartStands style (get_or kinds i k) p v) (sym part) stands)))

part_at : (style : FolderStyle) (kinds : List PartKind) (parts : List (List ℕ)) (vs : List PartValue) (i : ℕ) (k : PartKind) → i < length kinds → PartsStand style kinds parts vs → (v : PartValue) × PartStands style (get_or kinds i k) (get_or parts i []) v
part_at style [] parts vs i k within h = absurd (omega (arith, within))
part_at style (x ∷ xs) [] vs i k within h = absurd h
part_at style (x ∷ xs) (p ∷ ps) vs zero k within h = (h.0, h.2)
part_at style (x ∷ xs) (p ∷ ps) vs (suc i) k within h = part_at style xs ps h.1 i k (omega (arith, within)) h.3

pub no_values_at : (style : FolderStyle) (kinds : List PartKind) (parts : List (Bor (List ℕ))) (i : ℕ) (k : PartKind) (d : Bor (List ℕ)) → length kinds ≡ length parts → i < length kinds
    → ((v : PartValue) → PartStands style (get_or kinds i k) (get_or parts i d).now v → ⊥) → (vs : List PartValue) → PartsStand style kinds (map now_of parts) vs → ⊥
no_values_at style kinds parts i k d len within none vs h =
    let found = part_at style kinds (map now_of parts) vs i k within h in
    none found.0 (subst (λ p. PartStands style (get_or kinds i k) p found.0) (at_map parts i d (omega arith)) found.1)

pub shows_weaker : (P Q : Type 0) → (P → Q) → (e : HudiError) → ShowsNoValue P e → ShowsNoValue Q e
shows_weaker P Q f Memory h = tt
shows_weaker P Q f (Malformed line) h = absurd h
shows_weaker P Q f (Unsupported feature) h = (h.0, f h.1)
shows_weaker P Q f (Limit which) h = absurd h

-- ---- the parts of a folder's components
front_more : (front : List (List ℕ)) (p : List ℕ) (o : Option (List (List ℕ))) → option_map (λ rest. (front ++ p ∷ []) ++ rest) o ≡ option_map (λ rest. front ++ rest) (option_map (λ rest. p ∷ rest) o)
front_more front p None = refl
front_more front p (Some rest) = ap Some (append_assoc front (p ∷ []) rest)

module _ (style : FolderStyle) (names : List (List ℕ)) (components : List (Bor (List ℕ))) (i : ℕ) (name : List ℕ) (d : Bor (List ℕ)) (found : Option (List ℕ))
    (within : i < length names) (len : length names ≡ length components) (is : name ≡ get_or names i name) (says : found ≡ value_part style name (get_or components i d).now) where
  parts_step : component_parts style (drop i names) (drop i (map now_of components))
      ≡ option_and_then (λ part. option_map (λ parts. part ∷ parts) (component_parts style (drop (i + 1) names) (drop (i + 1) (map now_of components)))) found
  parts_step =
      let all = map now_of components in
      let inside : i < length all = omega (arith, length-map components now_of) in
      let here : drop i names ≡ name ∷ drop (i + 1) names = drop_more names i name within ∙ ap (λ n. n ∷ drop (i + 1) names) (sym is) in
      let there : drop i all ≡ (get_or components i d).now ∷ drop (i + 1) all = drop_more all i [] inside ∙ ap (λ n. n ∷ drop (i + 1) all) (at_map components i d (omega arith)) in
      (λ j. component_parts style (here j) (there j))
      ∙ ap (option_and_then (λ part. option_map (λ parts. part ∷ parts) (component_parts style (drop (i + 1) names) (drop (i + 1) all)))) (sym says)

  pub parts_end : (front : List (List ℕ)) (whole : Option (List (List ℕ))) → option_map (λ rest. front ++ rest) (component_parts style (drop i names) (drop i (map now_of components))) ≡ whole → found ≡ None → None ≡ whole
  parts_end front whole inv none = ap (option_map (λ rest. front ++ rest)) (sym (parts_step ∙ ap (option_and_then (λ part. option_map (λ parts. part ∷ parts) (component_parts style (drop (i + 1) names) (drop (i + 1) (map now_of components))))) none)) ∙ inv

  pub parts_goes : (front : List (List ℕ)) (whole : Option (List (List ℕ))) (p : List ℕ) → option_map (λ rest. front ++ rest) (component_parts style (drop i names) (drop i (map now_of components))) ≡ whole → found ≡ Some p
      → option_map (λ rest. (front ++ p ∷ []) ++ rest) (component_parts style (drop (i + 1) names) (drop (i + 1) (map now_of components))) ≡ whole
  parts_goes front whole p inv some =
      front_more front p (component_parts style (drop (i + 1) names) (drop (i + 1) (map now_of components)))
      ∙ ap (option_map (λ rest. front ++ rest)) (sym (parts_step ∙ ap (option_and_then (λ part. option_map (λ parts. part ∷ parts) (component_parts style (drop (i + 1) names) (drop (i + 1) (map now_of components))))) some))
      ∙ inv

pub component_parts-length : (style : FolderStyle) (names components parts : List (List ℕ)) → component_parts style names components ≡ Some parts → length parts ≡ length names
component_parts-length style [] components parts h = let e : parts ≡ [] = cc (h) in ap length e
component_parts-length style (n ∷ ns) [] parts h = absurd cc
component_parts-length style (n ∷ ns) (c ∷ cs) parts h = by (component_parts-length style ns cs) (value_part style n c) (component_parts style ns cs) refl h
  where
    by : ((ps : List (List ℕ)) → component_parts style ns cs ≡ Some ps → length ps ≡ length ns) → (a : Option (List ℕ)) (r : Option (List (List ℕ))) → component_parts style ns cs ≡ r
        → option_and_then (λ part. option_map (λ ps. part ∷ ps) r) a ≡ Some parts → length parts ≡ length (n ∷ ns)
    by rest None r is e = absurd cc
    by rest (Some p) None is e = absurd cc
    by rest (Some p) (Some ps) is e = let same : p ∷ ps ≡ parts = cc in ap length (sym same) ∙ ap suc (rest ps is)

pub value_parts-length : (style : FolderStyle) (names : List (List ℕ)) (path : List ℕ) (parts : List (List ℕ)) → value_parts style names path ≡ Some parts → length parts ≡ length names
value_parts-length style names path parts h = by (last_components (length names) path) h
  where
    by : (o : Option (List (List ℕ))) → option_and_then (component_parts style names) o ≡ Some parts → length parts ≡ length names
    by None e = absurd cc
    by (Some components) e = component_parts-length style names components parts e

pub values_more : (style : FolderStyle) (names : List (List ℕ)) (kinds : List PartKind) (files : List FileRow) (values : List (List PartValue)) (i : ℕ) (file : FileRow) (vs : List PartValue)
    → i < length files → file ≡ get_or files i file → length values ≡ i → HaveValues style names kinds (take i files) (map with_values (zip (take i files) values))
    → HasValues style names kinds file (with_values (file, vs)) → HaveValues style names kinds (take (i + 1) files) (map with_values (zip (take (i + 1) files) (values ++ vs ∷ [])))
values_more style names kinds files values i file vs within is counted h has =
    let front = take i files in
    subst (λ l. HaveValues style names kinds l (map with_values (zip l (values ++ vs ∷ [])))) (ap (λ f. front ++ f ∷ []) is ∙ take_both files i file within)
    (subst (HaveValues style names kinds (front ++ file ∷ [])) (values_pushed front values file vs (omega (arith, length-take i files)))
    (row_pushed style names kinds front (map with_values (zip front values)) file (with_values (file, vs)) h has))
