-- The entries of values that come one list behind the other.
use Rattle.std.proofs.Common.{◌≡◌, ◌⊎◌, inl, inr, List, [], ◌∷◌, ◌++◌, Some, Result, Ok, Err, refl, sym, ap, ◌∙◌}
use Rattle.std.proofs.lemmas.List.{append-nil}
use Rattle.lake_basics.specs.Outcome.{◌>>=◌, each, with_fault}
use Rattle.avro_schema.specs.Tree.{SchemaTree}
use Rattle.avro_value.specs.ValueTree.{ValueTree}
use Rattle.avro_value.proofs.NumberLaws.{ok_is}
use Rattle.avro_feeding.specs.Feeding.{joined}
use Rattle.iceberg_manifest.specs.Entry.{EntryData}
use Rattle.iceberg_manifest.specs.EntryReading.{entries_in, entry_by, entry_plan, fault_of}
use Rattle.iceberg_manifest.specs.Scans.{entries_of, entry_error}
use Rattle.iceberg_manifest.specs.declared.error.EntryFault.{EntryFault}
use Rattle.iceberg_manifest.specs.declared.error.ManifestError.{ManifestError}
use Rattle.iceberg_manifest.specs.declared.partition.PartColumn.{PartColumn}
use Rattle.iceberg_manifest.specs.declared.plan.EntryPlan.{EntryPlan}
use Rattle.iceberg_manifest_feeding.specs.Feeding.{AreEntriesOf}
use Rattle.iceberg_manifest_feeding.specs.Steps.{Entries, entries_found}

-- ---- what each gives

-- one reading, and the other behind it
abbrev pub both : {B E : Type 0} → Result (List B) E → Result (List B) E → Result (List B) E
both r s = r >>= λ a. s >>= λ b. Ok (a ++ b)

pub none_before : {B E : Type 0} (r : Result (List B) E) → r ≡ both (Ok []) r
none_before (Ok b) = refl
none_before (Err e) = refl

one_before : {B E : Type 0} (y : B) (r s : Result (List B) E) → (both r s >>= λ others. Ok (y ∷ others)) ≡ both (r >>= λ others. Ok (y ∷ others)) s
one_before y (Err e) s = refl
one_before y (Ok a) (Err e) = refl
one_before y (Ok a) (Ok b) = refl

abbrev first_of_each : {B E : Type 0} → Result B E → Result (List B) E → Result (List B) E
first_of_each r more = r >>= λ first. more >>= λ others. Ok (first ∷ others)

first_before : {B E : Type 0} (q : Result B E) (r s : Result (List B) E) → first_of_each q (both r s) ≡ both (first_of_each q r) s
first_before (Err e) r s = refl
first_before (Ok y) r s = one_before y r s

each_more : {A B E : Type 0} (f : A → Result B E) (xs ys : List A) → each f (xs ++ ys) ≡ both (each f xs) (each f ys)
each_more f [] ys = none_before (each f ys)
each_more f (x ∷ xs) ys = ap (first_of_each (f x)) (each_more f xs ys) ∙ first_before (f x) (each f xs) (each f ys)

named : {B E F : Type 0} (name : E → F) (r s : Result (List B) E) → with_fault name (both r s) ≡ both (with_fault name r) (with_fault name s)
named name (Err e) s = refl
named name (Ok a) (Err e) = refl
named name (Ok a) (Ok b) = refl

-- ---- entries

abbrev by_plan : List ValueTree → Result EntryPlan EntryFault → Entries
by_plan vs p = with_fault entry_error (p >>= λ plan. each (entry_by plan) vs)

plans : (columns : List PartColumn) (t : SchemaTree) (vs : List ValueTree) → entries_of columns t vs ≡ by_plan vs (with_fault fault_of (entry_plan columns t))
unfolding entries_in
plans columns t vs = refl

more_by : (xs ys : List ValueTree) (p : Result EntryPlan EntryFault) → by_plan (xs ++ ys) p ≡ both (by_plan xs p) (by_plan ys p)
more_by xs ys (Err e) = refl
more_by xs ys (Ok plan) = ap (with_fault entry_error) (each_more (entry_by plan) xs ys) ∙ named entry_error (each (entry_by plan) xs) (each (entry_by plan) ys)

-- The entries of values are those of the first of them, and then those of the rest.
pub entries_more : (columns : List PartColumn) (t : SchemaTree) (xs ys : List ValueTree) → entries_of columns t (xs ++ ys) ≡ both (entries_of columns t xs) (entries_of columns t ys)
entries_more columns t xs ys =
    let p = with_fault fault_of (entry_plan columns t) in
    plans columns t (xs ++ ys) ∙ more_by xs ys p ∙ ap (λ (r : Entries). both r (by_plan ys p)) (sym (plans columns t xs)) ∙ ap (both (entries_of columns t xs)) (sym (plans columns t ys))

none_by : (p : Result EntryPlan EntryFault) (es : List EntryData) → by_plan [] p ≡ Ok es → es ≡ []
none_by (Ok plan) es e = sym (ok_is [] es e)
none_by (Err d) es e = absurd (cc)

pub none_of_none : (columns : List PartColumn) (t : SchemaTree) (es : List EntryData) → entries_of columns t [] ≡ Ok es → es ≡ []
none_of_none columns t es e = none_by (with_fault fault_of (entry_plan columns t)) es (sym (plans columns t []) ∙ e)

pub entries_fail : (columns : List PartColumn) (t : SchemaTree) (xs ys : List ValueTree) (e : ManifestError) → entries_of columns t xs ≡ Err e → entries_of columns t (xs ++ ys) ≡ Err e
entries_fail columns t xs ys e is = entries_more columns t xs ys ∙ ap (λ (r : Entries). both r (entries_of columns t ys)) is

pub entries_go : (columns : List PartColumn) (t : SchemaTree) (xs ys : List ValueTree) (es : List EntryData) → entries_of columns t xs ≡ Ok es → entries_of columns t (xs ++ ys) ≡ both (Ok es) (entries_of columns t ys)
entries_go columns t xs ys es is = entries_more columns t xs ys ∙ ap (λ (r : Entries). both r (entries_of columns t ys)) is

-- Where values are entries, no values are none.
pub schema_fine : (columns : List PartColumn) (t : SchemaTree) (vs : List ValueTree) (es : List EntryData) → entries_of columns t vs ≡ Ok es → entries_of columns t [] ≡ Ok []
schema_fine columns t vs es is = go (entries_of columns t []) refl
  where
    go : (r : Entries) → entries_of columns t [] ≡ r → r ≡ Ok []
    go (Ok none) e = ap Ok (none_of_none columns t none e)
    go (Err d) e = absurd (let one : ◌≡◌ {A = Entries} (Err d) (Ok es) = sym (entries_fail columns t [] vs d e) ∙ is in cc)

-- ---- entries where there are values

some_values : (columns : List PartColumn) (t : SchemaTree) (vs : List ValueTree) → (vs ≡ [] → ⊥) → entries_found columns (Some t) vs ≡ entries_of columns t vs
some_values columns t [] some = absurd (some refl)
some_values columns t (v ∷ vs) some = refl

pub found_some : (columns : List PartColumn) (t : SchemaTree) (vs : List ValueTree) → (vs ≡ [] → ⊥) → entries_found columns (Some t) vs ≡ entries_of columns t vs
found_some columns t vs some = some_values columns t vs some

pub read_values : (columns : List PartColumn) (t : SchemaTree) (vs : List ValueTree) (es : List EntryData) → entries_of columns t vs ≡ Ok es → entries_found columns (Some t) vs ≡ Ok es
read_values columns t [] es is = ap Ok (sym (none_of_none columns t es is))
read_values columns t (v ∷ vs) es is = is

pub found_of : (columns : List PartColumn) (t : SchemaTree) (blocks : List (List ValueTree)) (es : List EntryData) → AreEntriesOf columns t blocks es → entries_found columns (Some t) (joined blocks) ≡ Ok es
found_of columns t blocks es (inl none) = ap (entries_found columns (Some t)) none.0 ∙ ap Ok (sym none.1)
found_of columns t blocks es (inr is) = read_values columns t (joined blocks) es is

of_values : (columns : List PartColumn) (t : SchemaTree) (vs : List ValueTree) (es : List EntryData) → entries_found columns (Some t) vs ≡ Ok es → ((vs ≡ []) × (es ≡ [])) ⊎ (entries_of columns t vs ≡ Ok es)
of_values columns t [] es is = inl (refl, sym (ok_is [] es is))
of_values columns t (v ∷ vs) es is = inr is

pub of_found : (columns : List PartColumn) (t : SchemaTree) (blocks : List (List ValueTree)) (es : List EntryData) → entries_found columns (Some t) (joined blocks) ≡ Ok es → AreEntriesOf columns t blocks es
of_found columns t blocks es is = of_values columns t (joined blocks) es is

-- what is refused has values
pub refused_some : (columns : List PartColumn) (t : SchemaTree) (vs : List ValueTree) (e : ManifestError) → entries_found columns (Some t) vs ≡ Err e → entries_of columns t vs ≡ Err e
refused_some columns t [] e is = absurd (cc)
refused_some columns t (v ∷ vs) e is = is

pub found_fails : (columns : List PartColumn) (t : SchemaTree) (xs ys : List ValueTree) (e : ManifestError) → entries_found columns (Some t) xs ≡ Err e → entries_found columns (Some t) (xs ++ ys) ≡ Err e
found_fails columns t [] ys e is = absurd (cc)
found_fails columns t (x ∷ xs) ys e is = entries_fail columns t (x ∷ xs) ys e is

found_behind : (columns : List PartColumn) (t : SchemaTree) (x : ValueTree) (xs ys : List ValueTree) (es : List EntryData) → entries_of columns t (x ∷ xs) ≡ Ok es → entries_found columns (Some t) ((x ∷ xs) ++ ys) ≡ both (Ok es) (entries_found columns (Some t) ys)
found_behind columns t x xs [] es is = ap (entries_of columns t) (append-nil (x ∷ xs)) ∙ is ∙ ap Ok (sym (append-nil es))
found_behind columns t x xs (y ∷ ys) es is = entries_go columns t (x ∷ xs) (y ∷ ys) es is

pub found_more : (columns : List PartColumn) (t : SchemaTree) (xs ys : List ValueTree) (es : List EntryData) → entries_found columns (Some t) xs ≡ Ok es → entries_found columns (Some t) (xs ++ ys) ≡ both (Ok es) (entries_found columns (Some t) ys)
found_more columns t [] ys es is = none_before (entries_found columns (Some t) ys) ∙ ap (λ (a : List EntryData). both (Ok a) (entries_found columns (Some t) ys)) (ok_is [] es is)
found_more columns t (x ∷ xs) ys es is = found_behind columns t x xs ys es is
