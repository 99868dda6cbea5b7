-- The first feature that is told is the first that the properties show.
use Rattle.std.proofs.Common.{◌≡◌, ◌≢◌, ◌⊎◌, inl, inr, ⊎_elim, ℕ, ◌-◌, List, [], ◌∷◌, ◌++◌, length, take, codes, Option, Some, None, option_map, Bool, true, false, cond, not, Result, Ok, Err, refl, sym, ap, subst, ◌∙◌, reverse, All, Contains, arith}
use Rattle.std.specs.Prelude.{find, nat_eq, ◌||◌, IfOk, IfErr}
use Rattle.std.specs.List.{ends_with}
use Rattle.std.specs.Option.{option_or}
use Rattle.std.specs.Str.{bytes_eq, str_eq_ignore_ascii_case, str_to_ascii_lowercase}
use Rattle.std.specs.Bool.{Decides}
use Rattle.std.proofs.lemmas.Bool.Decides.{not_from_Decides, Decides-eqb, Decides-like, Decides-not, Decides-or}
use Rattle.std.proofs.lemmas.List.{reverse-append}
use Rattle.std.proofs.lemmas.Option.{same_Some}
use Rattle.std.proofs.lemmas.List.Elements.{All-nil, All-cons, All-head, All-tail}
use Rattle.std.proofs.lemmas.List.Folds.{find-append}
use Rattle.std.proofs.lemmas.Slice.Eq.{bytes_eq-Decides, ends_is}
use Rattle.table_history.proofs.RowListLemmas.{Contains-one, Contains-cases}
use Rattle.table_history.specs.First.{IsFirst, NoneOf}
use Rattle.table_history.specs.declared.feature.Feature.{Feature}
use Rattle.table_history.specs.declared.feature.Feature.TheVariants.{HudiType, HudiVersion, FileFormat, KeyGenerator}
use Rattle.table_history.proofs.FirstLemmas.{none_first}
use Rattle.hudi_names.specs.declared.error.HudiError.{HudiError}
use Rattle.hudi_names.specs.declared.error.HudiError.TheVariants as errors
use Rattle.hudi_names.specs.Errors.{Gives}
use Rattle.hudi_properties.specs.declared.table.HudiTable.{HudiTable}
use Rattle.hudi_properties.specs.TableProperties.{property, is_word, shows_hudi_type, shows_hudi_version, is_other_format, shows_file_format, is_custom_class, is_custom_generator, shows_key_generator, first_feature, table_of, unless_shown, checked_table}
use Rattle.hudi_properties.proofs.WhiteLemmas.{denied}
use Rattle.hudi_properties.specs.TableFeatures.{HasValue, IsInAnyCase, custom_classes, EndsIn, Shows, table_features, ShowNone, IsTableRefusal}

abbrev Pairs : Type 0
Pairs = List (List ℕ × List ℕ)

-- ---- the value of a key

-- The value of later pairs goes before that of an earlier one.
abbrev chosen : Option (List ℕ) → Bool → List ℕ → Option (List ℕ)
chosen (Some later) is_key value = Some later
chosen None is_key value = cond is_key (Some value) None

chosen_by : (o : Option (List ℕ × List ℕ)) (t : Bool) (p : List ℕ × List ℕ) → option_map (λ (q : List ℕ × List ℕ). q.1) (option_or o (cond t (Some p) None)) ≡ chosen (option_map (λ (q : List ℕ × List ℕ). q.1) o) t p.1
chosen_by (Some q) t p = refl
chosen_by None true p = refl
chosen_by None false p = refl

property_more : (key : List ℕ) (p : List ℕ × List ℕ) (ps : Pairs) → property key (p ∷ ps) ≡ chosen (property key ps) (bytes_eq p.0 key) p.1
property_more key p ps =
    let test : List ℕ × List ℕ → Bool = λ q. bytes_eq q.0 key in
    ap (λ (l : Pairs). option_map (λ (q : List ℕ × List ℕ). q.1) (find test l)) (reverse-append (p ∷ []) ps)
    ∙ ap (option_map (λ (q : List ℕ × List ℕ). q.1)) (find-append test (reverse ps) (p ∷ [])) ∙ chosen_by (find test (reverse ps)) (bytes_eq p.0 key) p

none_value : (key : List ℕ) (ps : Pairs) → All (λ p. p.0 ≢ key) ps → property key ps ≡ None
none_value key [] all = refl
none_value key (p ∷ ps) all =
    property_more key p ps ∙ ap (λ o. chosen o (bytes_eq p.0 key) p.1) (none_value key ps (All-tail (λ q. q.0 ≢ key) p ps all))
    ∙ ap (λ t. chosen None t p.1) (denied (bytes_eq p.0 key) (bytes_eq-Decides p.0 key) (All-head (λ q. q.0 ≢ key) p ps all))

value_by : (key value : List ℕ) (front later : Pairs) → All (λ p. p.0 ≢ key) later → property key (front ++ (key, value) ∷ later) ≡ Some value
value_by key value [] later last =
    property_more key (key, value) later ∙ ap (λ o. chosen o (bytes_eq key key) value) (none_value key later last) ∙ ap (λ t. chosen None t value) ((bytes_eq-Decides key key).1 refl)
value_by key value (p ∷ front) later last =
    property_more key p (front ++ (key, value) ∷ later) ∙ ap (λ o. chosen o (bytes_eq p.0 key) p.1) (value_by key value front later last)

value_of : (key value : List ℕ) (pairs : Pairs) → HasValue pairs key value → property key pairs ≡ Some value
value_of key value pairs h = ap (property key) h.split ∙ value_by key value h.front h.later h.last

none_by : (key : List ℕ) (ps : Pairs) → property key ps ≡ None → All (λ p. p.0 ≢ key) ps
none_by key [] e = All-nil (λ p. p.0 ≢ key)
none_by key (p ∷ ps) e = by (property key ps) (bytes_eq p.0 key) refl refl (sym (property_more key p ps) ∙ e) (none_by key ps)
  where
    by : (o : Option (List ℕ)) (t : Bool) → property key ps ≡ o → bytes_eq p.0 key ≡ t → chosen o t p.1 ≡ None → (property key ps ≡ None → All (λ q. q.0 ≢ key) ps) → All (λ q. q.0 ≢ key) (p ∷ ps)
    by (Some v) t later is f rest = absurd (cc)
    by None true later is f rest = absurd (cc)
    by None false later is f rest = All-cons (λ q. q.0 ≢ key) p ps (λ same. let yes = (bytes_eq-Decides p.0 key).1 same in cc) (rest later)

value_is : (key value : List ℕ) (pairs : Pairs) → property key pairs ≡ Some value → HasValue pairs key value
value_is key value [] e = absurd (cc)
value_is key value (p ∷ ps) e = by (property key ps) (bytes_eq p.0 key) refl refl (sym (property_more key p ps) ∙ e) (λ is. value_is key value ps is)
  where
    by : (o : Option (List ℕ)) (t : Bool) → property key ps ≡ o → bytes_eq p.0 key ≡ t → chosen o t p.1 ≡ Some value → (property key ps ≡ Some value → HasValue ps key value) → HasValue (p ∷ ps) key value
    by (Some v) t later is f rest = let h = rest (later ∙ f) in record { front = p ∷ h.front; later = h.later; split = ap (λ l. p ∷ l) h.split; last = h.last }
    by None true later is f rest =
        let same = (bytes_eq-Decides p.0 key).0 is in
        let value_same = same_Some p.1 value f in
        record { front = []; later = ps; split = λ i. (same i, value_same i) ∷ ps; last = none_by key ps later }
    by None false later is f rest = absurd (cc)

-- ---- tests

word_by : (o : Option (List ℕ)) (word : List ℕ) → Decides (is_word o word) (o ≡ Some word)
word_by None word = ((λ e. absurd (cc)), λ e. absurd (cc))
word_by (Some value) word = let d = bytes_eq-Decides value word in ((λ e. ap Some (d.0 e)), λ e. d.1 (same_Some value word e))

word_decides : (key word : List ℕ) (pairs : Pairs) → Decides (is_word (property key pairs) word) (HasValue pairs key word)
word_decides key word pairs = let d = word_by (property key pairs) word in ((λ e. value_is key word pairs (d.0 e)), λ h. d.1 (value_of key word pairs h))

neither_decides : {P Q : Type 0} (x y : Bool) → Decides x P → Decides y Q → Decides (not (x || y)) ((P → ⊥) × (Q → ⊥))
neither_decides x y p q =
    Decides-like (not (x || y)) (λ deny. ((λ h. deny (inl h)), (λ h. deny (inr h)))) (λ deny. ⊎_elim deny.0 deny.1) (Decides-not (x || y) (Decides-or x y p q))

-- what is there and isn't this word in any letter case
case_by : (o : Option (List ℕ)) (key : List ℕ) (pairs : Pairs) → property key pairs ≡ o → Decides (is_other_format o) ((format : List ℕ) × HasValue pairs key format × (IsInAnyCase format (codes "PARQUET") → ⊥))
case_by None key pairs is = ((λ e. absurd (cc)), λ h. let there = value_of key h.0 pairs h.1 in absurd (cc))
case_by (Some format) key pairs is =
    let d = Decides-not (str_eq_ignore_ascii_case format (codes "PARQUET")) (bytes_eq-Decides (str_to_ascii_lowercase format) (str_to_ascii_lowercase (codes "PARQUET"))) in (
      (λ e. (format, value_is key format pairs is, d.0 e)),
      λ h. let there = value_of key h.0 pairs h.1 in let same : h.0 ≡ format = same_Some h.0 format (sym there ∙ is) in d.1 (subst (λ x. IsInAnyCase x (codes "PARQUET") → ⊥) same h.2),
    )

end_decides : (name ending : List ℕ) → Decides (ends_with nat_eq name ending) (EndsIn name ending)
end_decides name ending =
    let d = ends_is Decides-eqb name ending (ends_with nat_eq name ending) refl in
    ((λ e. (take (length name - length ending) name, d.0 e)), λ h. d.1 h.0 h.1)

abbrev EndsInOne : List ℕ → Type 0
EndsInOne name =
    ((EndsIn name (codes "TimestampBasedKeyGenerator") ⊎ EndsIn name (codes "TimestampBasedAvroKeyGenerator")) ⊎ EndsIn name (codes "CustomKeyGenerator")) ⊎ EndsIn name (codes "CustomAvroKeyGenerator")

class_decides : (name : List ℕ) → Decides (is_custom_class name) (EndsInOne name)
class_decides name =
    Decides-or _ _ (Decides-or _ _ (Decides-or _ _ (end_decides name (codes "TimestampBasedKeyGenerator")) (end_decides name (codes "TimestampBasedAvroKeyGenerator"))) (end_decides name (codes "CustomKeyGenerator")))
    (end_decides name (codes "CustomAvroKeyGenerator"))

abbrev HasEnding : List ℕ → Type 0
HasEnding name = (ending : List ℕ) × Contains custom_classes ending × EndsIn name ending

ending_of : (name : List ℕ) → EndsInOne name → HasEnding name
ending_of name (inl (inl (inl h))) = (codes "TimestampBasedKeyGenerator", (0, omega arith, refl), h)
ending_of name (inl (inl (inr h))) = (codes "TimestampBasedAvroKeyGenerator", (1, omega arith, refl), h)
ending_of name (inl (inr h)) = (codes "CustomKeyGenerator", (2, omega arith, refl), h)
ending_of name (inr h) = (codes "CustomAvroKeyGenerator", (3, omega arith, refl), h)

one_of : (name : List ℕ) → HasEnding name → EndsInOne name
one_of name (ending, there, h) =
    ⊎_elim (λ e. inl (inl (inl (subst (EndsIn name) (sym e) h))))
    (λ more. ⊎_elim (λ e. inl (inl (inr (subst (EndsIn name) (sym e) h))))
    (λ others. ⊎_elim (λ e. inl (inr (subst (EndsIn name) (sym e) h))) (λ last. inr (subst (EndsIn name) (sym (Contains-one (codes "CustomAvroKeyGenerator") ending last)) h))
    (Contains-cases (codes "CustomKeyGenerator") (codes "CustomAvroKeyGenerator" ∷ []) ending others))
    (Contains-cases (codes "TimestampBasedAvroKeyGenerator") (codes "CustomKeyGenerator" ∷ codes "CustomAvroKeyGenerator" ∷ []) ending more))
    (Contains-cases (codes "TimestampBasedKeyGenerator") (codes "TimestampBasedAvroKeyGenerator" ∷ codes "CustomKeyGenerator" ∷ codes "CustomAvroKeyGenerator" ∷ []) ending there)

generator_by : (o : Option (List ℕ)) (key : List ℕ) (pairs : Pairs) → property key pairs ≡ o
    → Decides (is_custom_generator o) ((name : List ℕ) × (ending : List ℕ) × HasValue pairs key name × Contains custom_classes ending × EndsIn name ending)
generator_by None key pairs is = ((λ e. absurd (cc)), λ h. let there = value_of key h.0 pairs h.2 in absurd (cc))
generator_by (Some class) key pairs is =
    let d = class_decides class in (
      (λ e. let ending = ending_of class (d.0 e) in (class, ending.0, value_is key class pairs is, ending.1, ending.2)),
      λ h.
          let there = value_of key h.0 pairs h.2 in
          let same : h.0 ≡ class = same_Some h.0 class (sym there ∙ is) in
          d.1 (subst EndsInOne same (one_of h.0 (h.1, h.3, h.4))),
    )

-- ---- the first feature

-- what is told, and what holds
Tells : (Feature → Type 0) → Option Feature → Type 0
Tells P None = NoneOf P table_features
Tells P (Some feature) = IsFirst P table_features feature

module _ (P : Feature → Type 0) where
  told_by : (a b c d : Bool) → Decides a (P HudiType) → Decides b (P HudiVersion) → Decides c (P FileFormat) → Decides d (P KeyGenerator)
      → Tells P (cond a (Some HudiType) (cond b (Some HudiVersion) (cond c (Some FileFormat) (cond d (Some KeyGenerator) None))))
  unfolding Tells
  told_by true b c d p q r s = inl (refl, p.0 refl)
  told_by false true c d p q r s = inr (not_from_Decides false p refl, inl (refl, q.0 refl))
  told_by false false true d p q r s = inr (not_from_Decides false p refl, inr (not_from_Decides false q refl, inl (refl, r.0 refl)))
  told_by false false false true p q r s = inr (not_from_Decides false p refl, inr (not_from_Decides false q refl, inr (not_from_Decides false r refl, inl (refl, s.0 refl))))
  told_by false false false false p q r s = (not_from_Decides false p refl, (not_from_Decides false q refl, (not_from_Decides false r refl, (not_from_Decides false s refl, tt))))

first_told : (pairs : Pairs) → Tells (Shows pairs) (first_feature pairs)
first_told pairs =
    told_by (Shows pairs) (shows_hudi_type pairs) (shows_hudi_version pairs) (shows_file_format pairs) (shows_key_generator pairs)
    (Decides-not (is_word (property (codes "hoodie.table.type") pairs) (codes "COPY_ON_WRITE")) (word_decides (codes "hoodie.table.type") (codes "COPY_ON_WRITE") pairs))
    (neither_decides (is_word (property (codes "hoodie.table.version") pairs) (codes "5")) (is_word (property (codes "hoodie.table.version") pairs) (codes "6"))
    (word_decides (codes "hoodie.table.version") (codes "5") pairs) (word_decides (codes "hoodie.table.version") (codes "6") pairs))
    (case_by (property (codes "hoodie.table.base.file.format") pairs) (codes "hoodie.table.base.file.format") pairs refl)
    (generator_by (property (codes "hoodie.table.keygenerator.class") pairs) (codes "hoodie.table.keygenerator.class") pairs refl)

-- ---- answers

Checks : Pairs → Result HudiTable HudiError → Type 0
Checks pairs (Ok table) = ShowNone pairs × (table ≡ table_of pairs)
Checks pairs (Err e) = IsTableRefusal pairs e

checks_by : (pairs : Pairs) (o : Option Feature) → Tells (Shows pairs) o → Checks pairs (unless_shown o (table_of pairs))
unfolding Tells Checks
checks_by pairs None none = (none, refl)
checks_by pairs (Some feature) first = first

checks : (pairs : Pairs) → Checks pairs (checked_table pairs)
checks pairs = checks_by pairs (first_feature pairs) (first_told pairs)

pub checked_is : (pairs : Pairs) (r : Result HudiTable HudiError) → Gives r (checked_table pairs) → IfOk r (λ table. ShowNone pairs × (table ≡ table_of pairs))
unfolding Checks
checked_is pairs (Ok table) gives = subst (Checks pairs) gives (checks pairs)
checked_is pairs (Err e) gives = tt

whole_by : (pairs : Pairs) (o : Option Feature) → Tells (Shows pairs) o → ShowNone pairs → unless_shown o (table_of pairs) ≡ Ok (table_of pairs)
unfolding Tells
whole_by pairs None told none = refl
whole_by pairs (Some feature) told none = absurd (none_first (Shows pairs) table_features feature none told)

pub checked_once : (pairs : Pairs) (r : Result HudiTable HudiError) → Gives r (checked_table pairs) → ShowNone pairs → Gives r (Ok (table_of pairs))
checked_once pairs r gives none = subst (Gives r) (whole_by pairs (first_feature pairs) (first_told pairs) none) gives

pub refused_by : (pairs : Pairs) (r : Result HudiTable HudiError) → Gives r (checked_table pairs) → IfErr r (IsTableRefusal pairs)
unfolding Checks
refused_by pairs (Ok table) gives = tt
refused_by pairs (Err errors.Memory) gives = tt
refused_by pairs (Err (errors.Malformed n)) gives = subst (Checks pairs) gives (checks pairs)
refused_by pairs (Err (errors.Unsupported feature)) gives = subst (Checks pairs) gives (checks pairs)
refused_by pairs (Err (errors.Limit which)) gives = subst (Checks pairs) gives (checks pairs)
