-- The texts of added files, by the kinds of the columns that they name.
use Rattle.std.proofs.Common.{◌≡◌, ℕ, ◌+◌, ◌<◌, List, [], ◌∷◌, ◌++◌, length, get_or, take, map, cond, Bool, true, false, Option, Some, None, Result, Ok, Err, OnOk, IfErr, All, Contains, refl, sym, ap, subst, ◌∙◌, ⊎_elim}
use Rattle.std.specs.List.{AllByRecursion, IsDistinct}
use Rattle.std.specs.Map.{update}
use Rattle.std.specs.Option.{option_or}
use Rattle.std.specs.Str.{bytes_eq}
use Rattle.std.proofs.lemmas.Bool.{cases_Bool, false≢true}
use Rattle.std.proofs.lemmas.List.Elements.{All-head, All-tail, All-contains}
use Rattle.std.proofs.lemmas.Map.Keys.{IsDistinct-head, IsDistinct-tail}
use Rattle.std.proofs.lemmas.Slice.Eq.{bytes_eq-Decides}
use Rattle.table_history.specs.declared.feature.Feature.TheVariants.{PartitionValue}
use Rattle.table_history.specs.declared.row.PartValue.TheVariants as value
use Rattle.table_history.proofs.RowListLemmas.{Contains-none, Contains-head, Contains-tail, Contains-cases}
use Rattle.partition_map.specs.declared.kind.PartKind.{PartKind}
use Rattle.delta_log.specs.declared.commit.FileAction.{FileAction}
use Rattle.delta_log.specs.declared.commit.FileAction.TheVariants as file
use Rattle.delta_log.specs.declared.error.DeltaError.{DeltaError}
use Rattle.delta_live.specs.Live.{SpellsNoValue, PartColumns, text_of, ArePartColumns}
use Rattle.delta_live.specs.RowSteps.{Tells, kind_of, StandsForSome, StandsForNone, StandsOf, FailsOf, PairStands, FileStands, FileFails, HaveValues}
use Rattle.delta_log.specs.Sound.{IsSoundFile, HaveDistinctNames}
use Rattle.table_history.specs.TypeTree.{ColumnTrees}
use Rattle.delta_live.proofs.ValueLemmas.{tells_more}
use Rattle.lake_basics.proofs.Lists.{last_of}

abbrev Pair : Type 0
Pair = List ℕ × Option (List ℕ)

abbrev Column : Type 0
Column = List ℕ × PartKind

-- ---- names that stand once

-- a name that is told apart from all of these isn't among them
apart : {A : Type 0} (name : List ℕ) (ps : List (List ℕ × A)) (p : List ℕ × A) → AllByRecursion (λ other. bytes_eq name other ≡ false) (map (λ q. q.0) ps) → Contains ps p → name ≡ p.0 → ⊥
apart name [] p all there same = Contains-none p there
apart name (q ∷ ps) p all there same =
    ⊎_elim
    (λ e. false≢true (sym all.0 ∙ (bytes_eq-Decides name q.0).1 (same ∙ sym (ap (λ r. r.0) e))))
    (λ later. apart name ps p all.1 later same)
    (Contains-cases q ps p there)

-- ---- the kind of a column

kind_push : (cs : PartColumns) (c : Column) (name : List ℕ) → kind_of (cs ++ c ∷ []) name ≡ cond (bytes_eq c.0 name) (Some c.1) (kind_of cs name)
kind_push [] c name = refl
kind_push (d ∷ ds) c name =
    ap (λ o. option_or o (cond (bytes_eq d.0 name) (Some d.1) None)) (kind_push ds c name) ∙ by (bytes_eq c.0 name)
  where
    by : (b : Bool) → option_or (cond b (Some c.1) (kind_of ds name)) (cond (bytes_eq d.0 name) (Some d.1) None) ≡ cond b (Some c.1) (option_or (kind_of ds name) (cond (bytes_eq d.0 name) (Some d.1) None))
    by true = refl
    by false = refl

pub kind_more : (cs : PartColumns) (i : ℕ) (c : Column) → i < length cs → c ≡ get_or cs i c → (old new : List ℕ → Option PartKind) (n name : List ℕ) → n ≡ c.0
    → new name ≡ update bytes_eq old n (Some c.1) name → old name ≡ kind_of (take i cs) name → new name ≡ kind_of (take (i + 1) cs) name
kind_more cs i c within at old new n name named put before =
    put ∙ ap (λ m. cond (bytes_eq m name) (Some c.1) (old name)) named ∙ ap (λ o. cond (bytes_eq c.0 name) (Some c.1) o) before
    ∙ sym (kind_push (take i cs) c name) ∙ ap (λ l. kind_of l name) (sym (last_of cs i c within at))

kind_there : (cs : PartColumns) (name : List ℕ) (k : PartKind) → kind_of cs name ≡ Some k → Contains cs (name, k)
kind_there [] name k h = absurd cc
kind_there (c ∷ cs) name k h = by (kind_of cs name) (bytes_eq c.0 name) (λ later. kind_there cs name k later) refl refl h
  where
    by : (o : Option PartKind) (b : Bool) → (kind_of cs name ≡ Some k → Contains cs (name, k)) → kind_of cs name ≡ o → bytes_eq c.0 name ≡ b → option_or o (cond b (Some c.1) None) ≡ Some k → Contains (c ∷ cs) (name, k)
    by (Some j) b rest is named e = Contains-tail c cs (name, k) (rest (is ∙ e))
    by None true rest is named e =
        let one : c.1 ≡ k = cc in
        let same : c ≡ (name, k) = λ i. ((bytes_eq-Decides c.0 name).0 named i, one i) in
        subst (Contains (c ∷ cs)) same (Contains-head c cs)
    by None false rest is named e = absurd cc

no_later : (o : Option PartKind) (c : Column) → ((k : PartKind) → o ≡ Some k → ⊥) → option_or o (Some c.1) ≡ Some c.1
no_later None c none = refl
no_later (Some k) c none = absurd (none k refl)

kind_is : (cs : PartColumns) (c : Column) → HaveDistinctNames cs → Contains cs c → kind_of cs c.0 ≡ Some c.1
kind_is [] c distinct there = absurd (Contains-none c there)
kind_is (d ∷ ds) c distinct there =
    ⊎_elim
    (λ (e : d ≡ c).
    let here : bytes_eq d.0 c.0 ≡ true = (bytes_eq-Decides d.0 c.0).1 (ap (λ x. x.0) e) in
    let none : (k : PartKind) → kind_of ds c.0 ≡ Some k → ⊥ =
    λ k is. apart d.0 ds (c.0, k) (IsDistinct-head bytes_eq d.0 (map (λ q. q.0) ds) distinct) (kind_there ds c.0 k is) (ap (λ x. x.0) e) in
    ap (λ b. option_or (kind_of ds c.0) (cond b (Some d.1) None)) here ∙ no_later (kind_of ds c.0) d none ∙ ap (λ x. Some x.1) e)
    (λ later. ap (λ o. option_or o (cond (bytes_eq d.0 c.0) (Some d.1) None)) (kind_is ds c (IsDistinct-tail bytes_eq d.0 (map (λ q. q.0) ds) distinct) later))
    (Contains-cases d ds c there)

-- ---- the text of a column

text_is : (ps : List Pair) (p : Pair) → HaveDistinctNames ps → Contains ps p → text_of p.0 ps ≡ p.1
text_is [] p distinct there = absurd (Contains-none p there)
text_is (q ∷ qs) p distinct there =
    ⊎_elim
    (λ (e : q ≡ p). ap (λ b. cond b q.1 (text_of p.0 qs)) ((bytes_eq-Decides p.0 q.0).1 (ap (λ x. x.0) (sym e))) ∙ ap (λ x. x.1) e)
    (λ later.
    let other : bytes_eq p.0 q.0 ≡ false =
    ⊎_elim
    (λ same. absurd (apart q.0 qs p (IsDistinct-head bytes_eq q.0 (map (λ x. x.0) qs) distinct) later (sym ((bytes_eq-Decides p.0 q.0).0 same))))
    (λ f. f)
    (cases_Bool (bytes_eq p.0 q.0)) in
    ap (λ b. cond b q.1 (text_of p.0 qs)) other ∙ text_is qs p (IsDistinct-tail bytes_eq q.0 (map (λ x. x.0) qs) distinct) later)
    (Contains-cases q qs p there)

fails_of : (o : Option PartKind) (text : Option (List ℕ)) {p : Option PartKind} → p ≡ o → FailsOf o text → (k : PartKind) × (p ≡ Some k) × StandsForNone k text
fails_of None text is fails = absurd fails
fails_of (Some k) text is fails = (k, is, fails)

module _ (kind : List ℕ → Option PartKind) where
  text_stands : (ps : List Pair) (c : Column) → kind c.0 ≡ Some c.1 → All (PairStands kind) ps → StandsForSome c.1 (text_of c.0 ps)
  text_stands [] c is all = (value.Null, refl)
  text_stands (p ∷ ps) c is all =
      ⊎_elim
      (λ same.
      let named : kind p.0 ≡ Some c.1 = ap kind (sym ((bytes_eq-Decides c.0 p.0).0 same)) ∙ is in
      let stands : StandsForSome c.1 p.1 = subst (λ o. StandsOf o p.1) named (All-head (PairStands kind) p ps all) in
      subst (StandsForSome c.1) (ap (λ b. cond b p.1 (text_of c.0 ps)) (sym same)) stands)
      (λ other. subst (StandsForSome c.1) (ap (λ b. cond b p.1 (text_of c.0 ps)) (sym other)) (text_stands ps c is (All-tail (PairStands kind) p ps all)))
      (cases_Bool (bytes_eq c.0 p.0))

  module _ (columns : PartColumns) (same : (name : List ℕ) → kind name ≡ kind_of columns name) where
    file_stands : HaveDistinctNames columns → (f : FileAction) (c : Column) → FileStands kind f → Contains columns c → SpellsNoValue c f → ⊥
    file_stands distinct (file.Add path values size count) c stands there none =
        let some = text_stands values c (same c.0 ∙ kind_is columns c distinct there) stands in none some.0 some.1
    file_stands distinct (file.Remove path) c stands there none = none

    pub files_stand : HaveDistinctNames columns → (files : List FileAction) → All (FileStands kind) files → HaveValues columns files
    files_stand distinct [] all f c there named none = Contains-none f there
    files_stand distinct (g ∷ files) all f c there named none =
        ⊎_elim
        (λ e. file_stands distinct f c (subst (FileStands kind) e (All-head (FileStands kind) g files all)) named none)
        (λ later. files_stand distinct files (All-tail (FileStands kind) g files all) f c later named none)
        (Contains-cases g files f there)

    pub file_fails : (f : FileAction) → IsSoundFile f → FileFails kind f → (c : Column) × Contains columns c × SpellsNoValue c f
    file_fails (file.Add path values size count) sound fails =
        let pair = fails.0 in
        let text : text_of pair.0 values ≡ pair.1 = text_is values pair sound.1 fails.1 in
        let one = fails_of (kind pair.0) pair.1 refl fails.2 in
        ((pair.0, one.0), kind_there columns pair.0 one.0 (sym (same pair.0) ∙ one.1), subst (StandsForNone one.0) (sym text) one.2)
    file_fails (file.Remove path) sound fails = absurd fails

    pub values_ok : HaveDistinctNames columns → (files : List FileAction) (r : Result (Unit {0}) DeltaError) → OnOk r (All (FileStands kind) files) → OnOk r (HaveValues columns files)
    values_ok distinct files (Ok u) all = files_stand distinct files all
    values_ok distinct files (Err e) all = tt

    pub values_refused : (files : List FileAction) → All IsSoundFile files → (r : Result (Unit {0}) DeltaError) → IfErr r (Tells PartitionValue ((f : FileAction) × Contains files f × FileFails kind f))
        → IfErr r (Tells PartitionValue ((f : FileAction) × (c : Column) × Contains files f × Contains columns c × SpellsNoValue c f))
    values_refused files sound (Ok u) fails = tt
    values_refused files sound (Err e) fails =
        tells_more PartitionValue ((f : FileAction) × Contains files f × FileFails kind f) ((f : FileAction) × (c : Column) × Contains files f × Contains columns c × SpellsNoValue c f)
        (λ h. let one = file_fails h.0 (All-contains IsSoundFile files h.0 sound h.1) h.2 in (h.0, one.0, h.1, one.1, one.2)) e fails

-- ---- names of partition columns

same_names : (schema : ColumnTrees) (names : List (List ℕ)) (columns : PartColumns) → ArePartColumns schema names columns → map (λ (c : Column). c.0) columns ≡ names
same_names schema [] [] are = refl
same_names schema [] (c ∷ cs) are = absurd are
same_names schema (n ∷ ns) [] are = absurd are
same_names schema (n ∷ ns) (c ∷ cs) are = λ i. are.0 i ∷ same_names schema ns cs are.2 i

pub columns_distinct : (schema : ColumnTrees) (names : List (List ℕ)) (columns : PartColumns) → ArePartColumns schema names columns → IsDistinct bytes_eq names → HaveDistinctNames columns
columns_distinct schema names columns are distinct = subst (IsDistinct bytes_eq) (sym (same_names schema names columns are)) distinct
