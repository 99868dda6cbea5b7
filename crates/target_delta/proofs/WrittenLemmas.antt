-- What is read again of a commit that was written for a change: its metadata, and the rows that it adds.
use Rattle.std.proofs.Common.{◌≡◌, ◌≢◌, ⊎_elim, ℕ, false, cond, List, [], ◌∷◌, map, Contains, Option, Some, None, refl, sym, ap, subst, ◌∙◌}
use Rattle.std.specs.Prelude.{option_and_then}
use Rattle.std.specs.List.{IsDistinct}
use Rattle.std.specs.List.Sorted.{IsPermutation}
use Rattle.std.specs.Str.{bytes_eq}
use Rattle.std.proofs.lemmas.Cmp.{nat_list_eq_equiv}
use Rattle.std.proofs.lemmas.List.Sorted.{Contains-permutation, IsPermutation-map}
use Rattle.std.proofs.lemmas.Map.Keys.{IsDistinct-IsPermutation, IsDistinct-head, IsDistinct-tail}
use Rattle.std.proofs.lemmas.Slice.Eq.{bytes_eq-Decides}
use Rattle.table_history.specs.History.{FitColumns, FitsColumn, IsOfType, column_type}
use Rattle.table_history.specs.Row.{Row}
use Rattle.table_history.specs.TypeTree.{TypeTree, ColumnTrees}
use Rattle.table_history.specs.declared.row.PartValue.{PartValue}
use Rattle.table_history.specs.declared.row.PartValue.TheVariants as value
use Rattle.table_history.proofs.RowListLemmas.{Contains-none, Contains-head, Contains-tail, Contains-cases, all_at, one_of_one}
use Rattle.partition_map.specs.Columns.{column_kind}
use Rattle.partition_map.specs.Kind.{IsOfKind, part_kind_of}
use Rattle.partition_map.specs.Stands.{DeltaStands}
use Rattle.partition_map.specs.declared.kind.PartKind.{PartKind}
use Rattle.partition_map.specs.declared.kind.PartKind.TheVariants as kind
use Rattle.partition_map.proofs.Laws.{kind_of_type}
use Rattle.delta_log.specs.Commit.{file_path, file_paths}
use Rattle.delta_live.specs.Live.{AddsRow, AreValues, PartColumns, text_of, ArePartColumns}
use Rattle.delta_live.proofs.ValueLemmas.{values_same}
use Rattle.delta_text.specs.Writing.{SameFile, SameFiles, SameMeta}
use Rattle.delta_log.specs.declared.commit.FileAction.{FileAction}
use Rattle.delta_log.specs.declared.commit.FileAction.TheVariants as file
use Rattle.delta_log.specs.declared.commit.MetaData.{MetaData}
use Rattle.target_core.specs.Conditions.{HasKind}
use Rattle.target_delta.specs.Writing.{AreTexts, IsAddOf}
use Rattle.target_delta.proofs.TextLemmas.{distinct_texts}

abbrev Texts : Type 0
Texts = List (List ℕ × Option (List ℕ))

-- ---- the metadata

pub record MetaAgain (m : MetaData) (o : Option MetaData) : Type 0 where
  pub again : MetaData
  pub is : o ≡ Some again
  pub id : m.id ≡ again.id
  pub schema : m.schema ≡ again.schema
  pub partition : m.partition ≡ again.partition
  pub settings : IsPermutation m.configuration again.configuration

pub meta_again : (m : MetaData) (o : Option MetaData) → SameMeta (Some m) o → MetaAgain m o
meta_again m None same = absurd same
meta_again m (Some n) same = record { again = n; is = refl; id = same.0; schema = same.1; partition = same.2; settings = same.3 }

pub only_setting : (p : List ℕ × List ℕ) (settings : List (List ℕ × List ℕ)) → IsPermutation (p ∷ []) settings → settings ≡ p ∷ []
only_setting p settings moves = one_of_one p settings moves

-- ---- partition columns

module _ (schema : ColumnTrees) where
  kind_there : (t : TypeTree) (v : PartValue) → v ≢ value.Null → IsOfType t v → (k : PartKind) × (part_kind_of t ≡ Some k)
  kind_there t value.Null some of = absurd (some refl)
  kind_there t (value.Boolean b) some of = (kind.Boolean, ap part_kind_of of)
  kind_there t (value.Int n) some of = ⊎_elim (λ a. (kind.Int, ap part_kind_of a)) (λ more. ⊎_elim (λ a. (kind.Int, ap part_kind_of a)) (λ a. (kind.Int, ap part_kind_of a)) more) of
  kind_there t (value.Long n) some of = (kind.Long, ap part_kind_of of)
  kind_there t (value.Text s) some of = (kind.Text, ap part_kind_of of)
  kind_there t (value.Date d) some of = (kind.Date, ap part_kind_of of)

  pub column_kind_there : (name : List ℕ) → HasKind schema name → (k : PartKind) × (column_kind schema name ≡ Some k)
  column_kind_there name h =
      let k = kind_there h.0 h.1 h.3 h.4 in
      (k.0, ap (λ (o : Option TypeTree). option_and_then part_kind_of o) h.2 ∙ k.1)

  pub columns_there : (names : List (List ℕ)) → ((name : List ℕ) → Contains names name → HasKind schema name) → (columns : PartColumns) × ArePartColumns schema names columns
  columns_there [] kinds = ([], tt)
  columns_there (name ∷ names) kinds =
      let k = column_kind_there name (kinds name (Contains-head name names)) in
      let rest = columns_there names (λ other there. kinds other (Contains-tail name names other there)) in
      ((name, k.0) ∷ rest.0, (refl, k.1, rest.1))

  of_kind : (o : Option TypeTree) (k : PartKind) (v : PartValue) → option_and_then part_kind_of o ≡ Some k → FitsColumn o v → IsOfKind k v
  of_kind None k v is fits = absurd (cc)
  of_kind (Some t) k v is fits = (kind_of_type t k is v).1 fits

-- ---- the texts of an add, in another order

text_in : (name : List ℕ) (text : Option (List ℕ)) (texts : Texts) → IsDistinct bytes_eq (map (λ p. p.0) texts) → Contains texts (name, text) → text_of name texts ≡ text
text_in name text [] distinct there = absurd (Contains-none (name, text) there)
text_in name text (p ∷ texts) distinct there =
    ⊎_elim
    (λ (here : p ≡ (name, text)).
    let first : p.0 ≡ name = ap (λ (q : List ℕ × Option (List ℕ)). q.0) here in
    ap (λ b. cond b p.1 (text_of name texts)) ((bytes_eq-Decides name p.0).1 (sym first)) ∙ ap (λ (q : List ℕ × Option (List ℕ)). q.1) here)
    (λ later.
    let names = Contains-map_first texts name text later in
    let apart : bytes_eq p.0 name ≡ false = all_at (λ y. bytes_eq p.0 y ≡ false) (map (λ q. q.0) texts) name (IsDistinct-head bytes_eq p.0 (map (λ q. q.0) texts) distinct) names in
    ap (λ b. cond b p.1 (text_of name texts)) (nat_list_eq_equiv.symm name p.0 ∙ apart) ∙ text_in name text texts (IsDistinct-tail bytes_eq p.0 (map (λ q. q.0) texts) distinct) later)
    (Contains-cases p texts (name, text) there)
  where
    Contains-map_first : (ps : Texts) (name : List ℕ) (text : Option (List ℕ)) → Contains ps (name, text) → Contains (map (λ q. q.0) ps) name
    Contains-map_first [] name text there = absurd (Contains-none (name, text) there)
    Contains-map_first (q ∷ ps) name text there =
        ⊎_elim
        (λ (here : q ≡ (name, text)). subst (λ (n : List ℕ). Contains (q.0 ∷ map (λ r. r.0) ps) n) (ap (λ (r : List ℕ × Option (List ℕ)). r.0) here) (Contains-head q.0 (map (λ r. r.0) ps)))
        (λ later. Contains-tail q.0 (map (λ r. r.0) ps) name (Contains-map_first ps name text later))
        (Contains-cases q ps (name, text) there)

-- each column's text among these stands for its value
pub values_stand : (schema : ColumnTrees) (names : List (List ℕ)) (columns : PartColumns) (values : List PartValue) (own texts : Texts)
    → ArePartColumns schema names columns → FitColumns schema names values → AreTexts names values own → ((p : List ℕ × Option (List ℕ)) → Contains own p → text_of p.0 texts ≡ p.1) → AreValues columns texts values
values_stand schema [] [] [] [] texts are fit h all = tt
values_stand schema [] [] [] (p ∷ own) texts are fit h all = absurd h
values_stand schema [] [] (v ∷ values) own texts are fit h all = absurd fit
values_stand schema [] (c ∷ columns) values own texts are fit h all = absurd are
values_stand schema (n ∷ names) [] values own texts are fit h all = absurd are
values_stand schema (n ∷ names) (c ∷ columns) [] own texts are fit h all = absurd fit
values_stand schema (n ∷ names) (c ∷ columns) (v ∷ values) [] texts are fit h all = absurd h
values_stand schema (n ∷ names) (c ∷ columns) (v ∷ values) (p ∷ own) texts are fit h all =
    let stands = h.1.stands c.1 (of_kind schema (column_type schema n) c.1 v are.1 fit.0) in
    let name : p.0 ≡ c.0 = h.0 ∙ sym are.0 in
    let text : text_of c.0 texts ≡ p.1 = ap (λ (m : List ℕ). text_of m texts) (sym name) ∙ all p (Contains-head p own) in (
      subst (λ (o : Option (List ℕ)). DeltaStands c.1 o v) (sym text) stands,
      values_stand schema names columns values own texts are.2 fit.1 h.2 (λ q there. all q (Contains-tail p own q there)),
    )

-- ---- the action of a row, read again

module _ (schema : ColumnTrees) (partition : List (List ℕ)) (columns : PartColumns) (are : ArePartColumns schema partition columns) (distinct : IsDistinct bytes_eq partition) (row : Row) (fit : FitColumns schema partition row.values) where
  pub adds_again : (f g : FileAction) → IsAddOf partition row f → SameFile f g → AddsRow columns g row
  adds_again f g add same = go f g add.is same
    where
      go : (f g : FileAction) → f ≡ file.Add row.path add.values row.size row.count → SameFile f g → AddsRow columns g row
      go (file.Remove p) g is same = absurd (cc)
      go (file.Add p vs size count) (file.Remove q) is same = absurd same
      go (file.Add p vs size count) (file.Add q ws bytes records) is same =
          let texts : vs ≡ add.values = cc in
          let moves : IsPermutation add.values ws = subst (λ (l : Texts). IsPermutation l ws) texts same.1 in
          let names = distinct_texts partition row.values add.values add.texts distinct in
          let apart : IsDistinct bytes_eq (map (λ x. x.0) ws) = IsDistinct-IsPermutation bytes_eq nat_list_eq_equiv.symm (map (λ x. x.0) add.values) (map (λ x. x.0) ws) (IsPermutation-map (λ (x : List ℕ × Option (List ℕ)). x.0) add.values ws moves) names in
          let path : row.path ≡ q = let first : p ≡ row.path = cc in sym first ∙ same.0 in
          let size_is : row.size ≡ bytes = let first : size ≡ row.size = cc in sym first ∙ same.2 in
          let count_is : row.count ≡ records = let first : count ≡ row.count = cc in sym first ∙ same.3 in (
            path,
            values_stand schema partition columns row.values add.values ws are fit add.texts (λ x there. text_in x.0 x.1 ws apart (Contains-permutation add.values ws x moves there)),
            size_is,
            count_is,
          )

  -- it adds that row alone
  pub only_row : (g : FileAction) (other : Row) → AddsRow columns g row → AddsRow columns g other → other ≡ row
  only_row (file.Remove q) other h k = absurd h
  only_row (file.Add q ws bytes records) other h k =
      let values = values_same columns ws other.values row.values k.1 h.1 in
      λ i. record { path = (k.0 ∙ sym h.0) i; values = values i; count = (k.3 ∙ sym h.3) i; size = (k.2 ∙ sym h.2) i }

-- ---- the actions, read again

pub again_of : (fs gs : List FileAction) (f : FileAction) → SameFiles fs gs → Contains fs f → (g : FileAction) × Contains gs g × SameFile f g
again_of [] gs f same there = absurd (Contains-none f there)
again_of (x ∷ fs) [] f same there = absurd same
again_of (x ∷ fs) (y ∷ gs) f same there =
    ⊎_elim
    (λ (here : x ≡ f). (y, Contains-head y gs, subst (λ (z : FileAction). SameFile z y) here same.0))
    (λ later. let found = again_of fs gs f same.1 later in (found.0, Contains-tail y gs found.0 found.1, found.2))
    (Contains-cases x fs f there)

pub again_from : (fs gs : List FileAction) (g : FileAction) → SameFiles fs gs → Contains gs g → (f : FileAction) × Contains fs f × SameFile f g
again_from fs [] g same there = absurd (Contains-none g there)
again_from [] (y ∷ gs) g same there = absurd same
again_from (x ∷ fs) (y ∷ gs) g same there =
    ⊎_elim
    (λ (here : y ≡ g). (x, Contains-head x fs, subst (λ (z : FileAction). SameFile x z) here same.0))
    (λ later. let found = again_from fs gs g same.1 later in (found.0, Contains-tail x fs found.0 found.1, found.2))
    (Contains-cases y gs g there)

same_path_of : (f g : FileAction) → SameFile f g → file_path f ≡ file_path g
same_path_of (file.Add p vs size count) (file.Add q ws bytes records) same = same.0
same_path_of (file.Add p vs size count) (file.Remove q) same = absurd same
same_path_of (file.Remove p) (file.Add q ws bytes records) same = absurd same
same_path_of (file.Remove p) (file.Remove q) same = same

pub same_paths : (fs gs : List FileAction) → SameFiles fs gs → file_paths fs ≡ file_paths gs
same_paths [] [] same = refl
same_paths [] (y ∷ gs) same = absurd same
same_paths (x ∷ fs) [] same = absurd same
same_paths (x ∷ fs) (y ∷ gs) same = λ i. same_path_of x y same.0 i ∷ same_paths fs gs same.1 i
