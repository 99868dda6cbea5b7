-- What stands at one place by itself, as a fact of the JSON there.
use Rattle.std.proofs.Common.{◌≡◌, ◌⊎◌, ℕ, Bool, true, false, ◌&&◌, cond, List, [], ◌∷◌, map, Option, Some, None, is_some, Result, Ok, Err, codes, refl, sym, ap, subst, ◌∙◌, inl, inr, ⊎_elim}
use Rattle.std.specs.Prelude.{unwrap_or}
use Rattle.std.specs.List.{IsDistinct}
use Rattle.std.specs.Str.{bytes_eq}
use Rattle.std.proofs.lemmas.Bool.{and_cases, cases_Bool, false≢true}
use Rattle.std.proofs.lemmas.Slice.Eq.{bytes_eq-Decides}
use Rattle.avro_schema.specs.Names.{are_distinct}
use Rattle.lake_basics.specs.Outcome.{◌>>=◌, required, each}
use Rattle.lake_basics.proofs.Options.{some_or_none}
use Rattle.json_reading.specs.Json.{text_member, bool_member, list_member, items}
use Rattle.partition_map.proofs.ColumnLemmas.{distinct_exactly}
use Rattle.serde_json.specs.Data.{Data, null, boolean, number, string, array, object, Items}
use Rattle.serde_json.specs.Find.{get}
use Rattle.table_history.specs.TypeTree.{TypeTree}
use Rattle.schema_map.specs.Among.{IsNoneOf, IsAmong}
use Rattle.schema_delta.specs.DeltaRefusal.{IsBadDeltaField, HasBadDeltaFields, IsBadDeltaType, IsOtherDeltaType}
use Rattle.schema_delta.specs.DeltaSpelling.{IsDeltaType}
use Rattle.schema_map.specs.Places.{IsNamed, field_names}
use Rattle.schema_map.specs.Shared.{column_name}
use Rattle.schema_map.proofs.Failing.{each_failed, not_word}
use Rattle.schema_map.proofs.Places.{named_word}
use Rattle.delta_outline.specs.declared.fault.OutlineFault.{OutlineFault}
use Rattle.delta_outline.specs.declared.fault.OutlineFault.TheVariants as fault
use Rattle.delta_outline.specs.declared.form.Form.TheVariants.{Known, Other, Malformed}
use Rattle.delta_outline.specs.Forms.{is_known_word, form_if, form_of_word, field_name, names_form, listed_form, list_form, map_form, named_form, nested_form, own_form}
use Rattle.delta_outline.proofs.WordLemmas.{known_type, type_known}

-- ---- forms apart

known_bad : Known ≡ Malformed → ⊥
known_bad e = absurd cc

other_bad : Other ≡ Malformed → ⊥
other_bad e = absurd cc

known_other : Known ≡ Other → ⊥
known_other e = absurd cc

bad_other : Malformed ≡ Other → ⊥
bad_other e = absurd cc

form_not_other : (b : Bool) → form_if b ≡ Other → ⊥
form_not_other true e = known_other e
form_not_other false e = bad_other e

form_bad : (b : Bool) → form_if b ≡ Malformed → b ≡ false
form_bad true e = absurd (known_bad e)
form_bad false e = refl

-- ---- what is there

gone : {A : Type 0} (o : Option A) → is_some o ≡ false → o ≡ None
gone None e = refl
gone (Some x) e = absurd (false≢true (sym e))

one_gone : (a : Option Bool) (b : Option Data) → (a ≡ None) ⊎ (b ≡ None) → (is_some a && is_some b) ≡ false
one_gone None b h = refl
one_gone (Some x) None h = refl
one_gone (Some x) (Some y) h = absurd (⊎_elim (λ e. some_or_none (Some x) x refl e) (λ e. some_or_none (Some y) y refl e) h)

some_gone : (a : Option Bool) (b c : Option Data) → (a ≡ None) ⊎ ((b ≡ None) ⊎ (c ≡ None)) → (is_some a && (is_some b && is_some c)) ≡ false
some_gone None b c h = refl
some_gone (Some x) None c h = refl
some_gone (Some x) (Some y) None h = refl
some_gone (Some x) (Some y) (Some z) h = absurd (⊎_elim (λ e. some_or_none (Some x) x refl e) (λ more. ⊎_elim (λ e. some_or_none (Some y) y refl e) (λ e. some_or_none (Some z) z refl e) more) h)

other_word : (w name : List ℕ) → (Some w ≡ Some name → ⊥) → bytes_eq w name ≡ false
other_word w name other = ⊎_elim (λ t. absurd (other (ap Some ((bytes_eq-Decides w name).0 t)))) (λ f. f) (cases_Bool (bytes_eq w name))

-- ---- fields

field_by : Option (List ℕ) → Option Bool → Option Data → Result (List ℕ) OutlineFault
field_by (Some name) (Some nullable) (Some kind) = Ok name
field_by _ _ _ = Err fault.Malformed

field_is : (d : Data) → field_name d ≡ field_by (text_member (codes "name") d) (bool_member (codes "nullable") d) (get (codes "type") d)
unfolding field_name field_by
field_is d = by (text_member (codes "name") d) (bool_member (codes "nullable") d) (get (codes "type") d)
  where
    by : (a : Option (List ℕ)) (b : Option Bool) (c : Option Data) → (required fault.Malformed a >>= λ name. required fault.Malformed b >>= λ nullable. required fault.Malformed c >>= λ kind. Ok name) ≡ field_by a b c
    by None b c = refl
    by (Some x) None c = refl
    by (Some x) (Some y) None = refl
    by (Some x) (Some y) (Some z) = refl

fails_by : (a : Option (List ℕ)) (b : Option Bool) (c : Option Data) (e : OutlineFault) → field_by a b c ≡ Err e → (a ≡ None) ⊎ ((b ≡ None) ⊎ (c ≡ None))
unfolding field_by
fails_by None b c e h = inl refl
fails_by (Some x) None c e h = inr (inl refl)
fails_by (Some x) (Some y) None e h = inr (inr refl)
fails_by (Some x) (Some y) (Some z) e h = absurd cc

pub field_fails : (d : Data) (e : OutlineFault) → field_name d ≡ Err e → IsBadDeltaField d
field_fails d e h = fails_by (text_member (codes "name") d) (bool_member (codes "nullable") d) (get (codes "type") d) e (sym (field_is d) ∙ h)

bad_by : (a : Option (List ℕ)) (b : Option Bool) (c : Option Data) → (a ≡ None) ⊎ ((b ≡ None) ⊎ (c ≡ None)) → field_by a b c ≡ Err fault.Malformed
unfolding field_by
bad_by None b c h = refl
bad_by (Some x) None c h = refl
bad_by (Some x) (Some y) None h = refl
bad_by (Some x) (Some y) (Some z) h = absurd (⊎_elim (λ e. some_or_none (Some x) x refl e) (λ more. ⊎_elim (λ e. some_or_none (Some y) y refl e) (λ e. some_or_none (Some z) z refl e) more) h)

bad_field : (d : Data) → IsBadDeltaField d → field_name d ≡ Err fault.Malformed
bad_field d bad = field_is d ∙ bad_by (text_member (codes "name") d) (bool_member (codes "nullable") d) (get (codes "type") d) bad

reads_by : (a : Option (List ℕ)) (b : Option Bool) (c : Option Data) (name : List ℕ) → field_by a b c ≡ Ok name → a ≡ Some name
unfolding field_by
reads_by None b c name h = absurd cc
reads_by (Some x) None c name h = absurd cc
reads_by (Some x) (Some y) None name h = absurd cc
reads_by (Some x) (Some y) (Some z) name h = cc

pub field_reads : (d : Data) (name : List ℕ) → field_name d ≡ Ok name → text_member (codes "name") d ≡ Some name
field_reads d name h = reads_by (text_member (codes "name") d) (bool_member (codes "nullable") d) (get (codes "type") d) name (sym (field_is d) ∙ h)

-- one of them that is bad
pub bad_among : (ds : List Data) (field : Data) → IsAmong field ds → IsBadDeltaField field → (e : OutlineFault) × (each field_name ds ≡ Err e)
bad_among [] field among bad = absurd among
bad_among (d ∷ ds) field (inl same) bad = (fault.Malformed, ap (λ r. r >>= λ first. each field_name ds >>= λ others. Ok (first ∷ others)) (bad_field d (subst IsBadDeltaField (sym same) bad)))
bad_among (d ∷ ds) field (inr later) bad = let rest = bad_among ds field later bad in by (field_name d) rest.0 rest.1
  where
    by : (r : Result (List ℕ) OutlineFault) (e : OutlineFault) → each field_name ds ≡ Err e → (x : OutlineFault) × ((r >>= λ first. each field_name ds >>= λ others. Ok (first ∷ others)) ≡ Err x)
    by (Ok first) e is = (e, ap (λ s. s >>= λ others. Ok (first ∷ others)) is)
    by (Err x) e is = (x, refl)

-- the names of all
pub names_are : (ds : List Data) (names : List (List ℕ)) → each field_name ds ≡ Ok names → names ≡ map column_name ds
names_are [] names h = cc
names_are (d ∷ ds) names h = by (λ ns is. names_are ds ns is) (field_name d) (each field_name ds) refl refl h
  where
    by : ((ns : List (List ℕ)) → each field_name ds ≡ Ok ns → ns ≡ map column_name ds) → (r : Result (List ℕ) OutlineFault) (s : Result (List (List ℕ)) OutlineFault) → field_name d ≡ r → each field_name ds ≡ s → (r >>= λ first. s >>= λ others. Ok (first ∷ others)) ≡ Ok names → names ≡ map column_name (d ∷ ds)
    by tail (Err x) s is others e = absurd cc
    by tail (Ok first) (Err x) is others e = absurd cc
    by tail (Ok first) (Ok rest) is others e =
        let same : first ∷ rest ≡ names = cc in
        let here : column_name d ≡ first = ap (λ o. unwrap_or o []) (field_reads d first is) in
        sym same ∙ (λ i. sym here i ∷ tail rest others i)

-- each of them has its name
pub name_among : (ds : List Data) (names : List (List ℕ)) (field : Data) → each field_name ds ≡ Ok names → IsAmong field ds → (name : List ℕ) × (text_member (codes "name") field ≡ Some name)
name_among ds names field h among = by (field_name field) refl
  where
    by : (r : Result (List ℕ) OutlineFault) → field_name field ≡ r → (name : List ℕ) × (text_member (codes "name") field ≡ Some name)
    by (Ok name) is = (name, field_reads field name is)
    by (Err e) is = let bad = bad_among ds field among (field_fails field e is) in absurd (let wrong : Ok names ≡ Err bad.0 = sym h ∙ bad.1 in cc)

-- ---- structs

names_fail : (ds : Items) (r : Result (List (List ℕ)) OutlineFault) → each field_name (items ds) ≡ r → names_form r ≡ Malformed → (IsDistinct bytes_eq (field_names ds) → ⊥) ⊎ ((field : Data) × IsAmong field (items ds) × IsBadDeltaField field)
names_fail ds (Err e) is h = let at = each_failed field_name (items ds) e is in inr (at.at, at.among, field_fails at.at e at.fails)
names_fail ds (Ok names) is h =
    let twice : are_distinct names ≡ false = form_bad (are_distinct names) h in
    inl (λ distinct. false≢true (sym twice ∙ (distinct_exactly names).1 (subst (IsDistinct bytes_eq) (sym (names_are (items ds) names is)) distinct)))

listed_fail : (d : Data) (o : Option Items) → list_member (codes "fields") d ≡ o → listed_form o ≡ Malformed → HasBadDeltaFields d
listed_fail d None is h = inl is
listed_fail d (Some ds) is h = inr (ds, is, names_fail ds (each field_name (items ds)) refl h)

fail_names : (ds : Items) (r : Result (List (List ℕ)) OutlineFault) → each field_name (items ds) ≡ r → (IsDistinct bytes_eq (field_names ds) → ⊥) ⊎ ((field : Data) × IsAmong field (items ds) × IsBadDeltaField field) → names_form r ≡ Malformed
fail_names ds (Err e) is bad = refl
fail_names ds (Ok names) is bad =
    ⊎_elim
    (λ twice. ap form_if (⊎_elim (λ t. absurd (twice (subst (IsDistinct bytes_eq) (names_are (items ds) names is) ((distinct_exactly names).0 t)))) (λ f. f) (cases_Bool (are_distinct names))))
    (λ field. let wrong = bad_among (items ds) field.0 field.1 field.2 in absurd (let e : Ok names ≡ Err wrong.0 = sym is ∙ wrong.1 in cc))
    bad

fail_listed : (d : Data) → HasBadDeltaFields d → listed_form (list_member (codes "fields") d) ≡ Malformed
fail_listed d bad =
    ⊎_elim
    (λ none. ap listed_form none)
    (λ listed. ap listed_form listed.1 ∙ fail_names listed.0 (each field_name (items listed.0)) refl listed.2)
    bad

-- ---- what isn't in the grammar

nested_bad : (d : Data) → ((w : List ℕ) → d ≡ string w → ⊥) → nested_form d ≡ Malformed → IsBadDeltaType d
nested_bad d no_word h = by (text_member (codes "type") d) refl h
  where
    by : (o : Option (List ℕ)) → text_member (codes "type") d ≡ o → named_form o d ≡ Malformed → IsBadDeltaType d
    by None is e = inl (no_word, is)
    by (Some w) is e = at (bytes_eq w (codes "struct")) (bytes_eq w (codes "array")) (bytes_eq w (codes "map")) refl refl refl e
      where
        at : (a b c : Bool) → bytes_eq w (codes "struct") ≡ a → bytes_eq w (codes "array") ≡ b → bytes_eq w (codes "map") ≡ c
            → cond a (listed_form (list_member (codes "fields") d)) (cond b (list_form d) (cond c (map_form d) Other)) ≡ Malformed → IsBadDeltaType d
        at true b c ea eb ec f = inr (inl (named_word d w (codes "struct") is ea, listed_fail d (list_member (codes "fields") d) refl f))
        at false true c ea eb ec f =
            inr (inr (inl (
              named_word d w (codes "array") is eb,
              ⊎_elim (λ x. inl (gone _ x)) (λ x. inr (gone _ x)) (and_cases _ _ (form_bad _ f)),
            )))
        at false false true ea eb ec f =
            inr (inr (inr (
              named_word d w (codes "map") is ec,
              ⊎_elim (λ x. inl (gone _ x)) (λ more. inr (⊎_elim (λ x. inl (gone _ x)) (λ x. inr (gone _ x)) (and_cases _ _ more))) (and_cases _ _ (form_bad _ f)),
            )))
        at false false false ea eb ec f = absurd (other_bad f)

pub own_bad : (d : Data) → own_form d ≡ Malformed → IsBadDeltaType d
own_bad null h = inl (λ w e. absurd cc, refl)
own_bad (boolean b) h = inl (λ w e. absurd cc, refl)
own_bad (number n) h = inl (λ w e. absurd cc, refl)
own_bad (array ds) h = inl (λ w e. absurd cc, refl)
own_bad (object ms) h = nested_bad (object ms) (λ w e. absurd cc) h
own_bad (string w) h = absurd (by (is_known_word w) h)
  where
    by : (b : Bool) → form_of_word b ≡ Malformed → ⊥
    by true e = known_bad e
    by false e = other_bad e

bad_nested : (d : Data) → IsBadDeltaType d → nested_form d ≡ Malformed
bad_nested d bad =
    ⊎_elim
    (λ none. ap (λ o. named_form o d) none.1)
    (λ more. ⊎_elim
    (λ s. ap (λ o. named_form o d) s.0 ∙ fail_listed d s.1)
    (λ rest. ⊎_elim
    (λ l. ap (λ o. named_form o d) l.0 ∙ ap form_if (one_gone (bool_member (codes "containsNull") d) (get (codes "elementType") d) l.1))
    (λ m. ap (λ o. named_form o d) m.0 ∙ ap form_if (some_gone (bool_member (codes "valueContainsNull") d) (get (codes "keyType") d) (get (codes "valueType") d) m.1))
    rest)
    more)
    bad

no_name : (word : List ℕ) (d : Data) → text_member (codes "type") d ≡ None → IsNamed word d → ⊥
no_name word d none named = some_or_none (text_member (codes "type") d) word named none

pub bad_own : (d : Data) → IsBadDeltaType d → own_form d ≡ Malformed
bad_own null bad = refl
bad_own (boolean b) bad = refl
bad_own (number n) bad = refl
bad_own (array ds) bad = refl
bad_own (object ms) bad = bad_nested (object ms) bad
bad_own (string w) bad =
    absurd (⊎_elim (λ none. none.0 w refl) (λ more. ⊎_elim (λ s. no_name (codes "struct") (string w) refl s.0) (λ rest. ⊎_elim (λ l. no_name (codes "array") (string w) refl l.0) (λ m. no_name (codes "map") (string w) refl m.0) rest) more) bad)

-- ---- what has no row in the table of types

names_not_other : (r : Result (List (List ℕ)) OutlineFault) → names_form r ≡ Other → ⊥
names_not_other (Ok names) e = form_not_other (are_distinct names) e
names_not_other (Err x) e = bad_other e

listed_not_other : (o : Option Items) → listed_form o ≡ Other → ⊥
listed_not_other None e = bad_other e
listed_not_other (Some ds) e = names_not_other (each field_name (items ds)) e

nested_other : (d : Data) → nested_form d ≡ Other → IsOtherDeltaType d
nested_other d h = by (text_member (codes "type") d) refl h
  where
    by : (o : Option (List ℕ)) → text_member (codes "type") d ≡ o → named_form o d ≡ Other → IsOtherDeltaType d
    by None is e = absurd (bad_other e)
    by (Some w) is e = at (bytes_eq w (codes "struct")) (bytes_eq w (codes "array")) (bytes_eq w (codes "map")) refl refl refl e
      where
        at : (a b c : Bool) → bytes_eq w (codes "struct") ≡ a → bytes_eq w (codes "array") ≡ b → bytes_eq w (codes "map") ≡ c
            → cond a (listed_form (list_member (codes "fields") d)) (cond b (list_form d) (cond c (map_form d) Other)) ≡ Other → IsOtherDeltaType d
        at true b c ea eb ec f = absurd (listed_not_other (list_member (codes "fields") d) f)
        at false true c ea eb ec f = absurd (form_not_other _ f)
        at false false true ea eb ec f = absurd (form_not_other _ f)
        at false false false ea eb ec f = inr (w, is, (not_word w (codes "struct") ea, (not_word w (codes "array") eb, (not_word w (codes "map") ec, tt))))

pub own_other : (d : Data) → own_form d ≡ Other → IsOtherDeltaType d
own_other null h = absurd (bad_other h)
own_other (boolean b) h = absurd (bad_other h)
own_other (number n) h = absurd (bad_other h)
own_other (array ds) h = absurd (bad_other h)
own_other (object ms) h = nested_other (object ms) h
own_other (string w) h = inl (w, refl, λ t is. by (is_known_word w) (type_known w t is) h)
  where
    by : (b : Bool) → b ≡ true → form_of_word b ≡ Other → ⊥
    by true known e = known_other e
    by false known e = false≢true known

named_other : (d : Data) (w : List ℕ) → IsNamed w d → IsNoneOf (codes "struct" ∷ codes "array" ∷ codes "map" ∷ []) (Some w) → nested_form d ≡ Other
named_other d w named none =
    ap (λ o. named_form o d) named
    ∙ ap (λ b. cond b (listed_form (list_member (codes "fields") d)) (cond (bytes_eq w (codes "array")) (list_form d) (cond (bytes_eq w (codes "map")) (map_form d) Other))) (other_word w (codes "struct") none.0)
    ∙ ap (λ b. cond b (list_form d) (cond (bytes_eq w (codes "map")) (map_form d) Other)) (other_word w (codes "array") none.1.0)
    ∙ ap (λ b. cond b (map_form d) Other) (other_word w (codes "map") none.1.1.0)

word_other : (w : List ℕ) → ((t : TypeTree) → IsDeltaType t (string w) → ⊥) → own_form (string w) ≡ Other
word_other w none = ap form_of_word (⊎_elim (λ t. let is = known_type w t in absurd (none is.0 is.1)) (λ f. f) (cases_Bool (is_known_word w)))

pub other_own : (d : Data) → IsOtherDeltaType d → own_form d ≡ Other
other_own d (inl word) = subst (λ x. own_form x ≡ Other) (sym word.1) (word_other word.0 (λ t is. word.2 t (subst (IsDeltaType t) (sym word.1) is)))
other_own null (inr named) = absurd (no_name named.0 null refl named.1)
other_own (boolean b) (inr named) = absurd (no_name named.0 (boolean b) refl named.1)
other_own (number n) (inr named) = absurd (no_name named.0 (number n) refl named.1)
other_own (string s) (inr named) = absurd (no_name named.0 (string s) refl named.1)
other_own (array ds) (inr named) = absurd (no_name named.0 (array ds) refl named.1)
other_own (object ms) (inr named) = named_other (object ms) named.0 named.1 named.2
