-- Values of the kinds of partition columns.
use Rattle.std.proofs.Common.{◌≡◌, ◌≢◌, ◌↔◌, ℕ, Bool, true, false, List, [], ◌∷◌, map, Option, Some, None, MatchOption, Contains, Vec, Global, refl, sym, ap, subst, ◌∙◌, ⊎_elim}
use Rattle.std.proofs.lemmas.Bool.{cases_Bool, false≢true}
use Rattle.std.proofs.lemmas.Option.{none-some}
use Rattle.table_history.specs.TypeTree.{ColumnTrees}
use Rattle.table_history.specs.History.{column_type, FitColumns}
use Rattle.table_history.specs.declared.row.PartValue.{PartValue}
use Rattle.table_history.specs.declared.table.Table.{Table}
use Rattle.table_history.proofs.RowListLemmas.{Contains-none, Contains-head, Contains-tail, Contains-cases}
use Rattle.partition_map.specs.declared.kind.PartKind.{PartKind}
use Rattle.partition_map.proofs.KindLemmas.{fits_kind, still_fits}
use Rattle.partition_map.proofs.Laws.{hive_of_kind}
use Rattle.partition_map.specs.declared.folder.FolderStyle.{FolderStyle}
use Rattle.partition_map.specs.Columns.{column_kind, HasOtherKind, is_same_kind}
use Rattle.partition_map.proofs.ColumnLemmas.{itself, same_kind}
use Rattle.hudi_timeline.specs.Schemas.{AreKindsOf}
use Rattle.hudi_files.specs.Values.{PartsStand}

-- ---- the same kind

other_kind : (a b : PartKind) → is_same_kind a b ≡ false → a ≢ b
other_kind a b h e = false≢true (sym h ∙ ap (λ k. is_same_kind a k) (sym e) ∙ itself a)

-- ---- rows of values
pub values_fit : (schema : ColumnTrees) (style : FolderStyle) (names : List (List ℕ)) (kinds : List PartKind) (parts : List (List ℕ)) (vs : List PartValue)
    → AreKindsOf schema names kinds → PartsStand style kinds parts vs → FitColumns schema names vs
values_fit schema style [] [] parts vs are h = subst (FitColumns schema []) (sym h) tt
values_fit schema style [] (k ∷ ks) parts vs are h = absurd cc
values_fit schema style (n ∷ ns) [] parts vs are h = absurd cc
values_fit schema style (n ∷ ns) (k ∷ ks) [] vs are h = absurd h
values_fit schema style (n ∷ ns) (k ∷ ks) (p ∷ ps) vs are h =
    let head : column_kind schema n ≡ Some k = cc in
    let tail : AreKindsOf schema ns ks = cc in
    subst (FitColumns schema (n ∷ ns)) (sym h.4)
    (fits_kind (column_type schema n) k h.0 head (hive_of_kind k h.2.0 h.0 h.2.2), values_fit schema style ns ks ps h.1 tail h.3)

pub values_still_fit : (old new : ColumnTrees) (names : List (List ℕ)) (kinds : List PartKind) (vs : List PartValue)
    → AreKindsOf new names kinds → ((name : List ℕ) → Contains names name → (o k : PartKind) → column_kind old name ≡ Some o → column_kind new name ≡ Some k → o ≡ k)
    → FitColumns old names vs → FitColumns new names vs
values_still_fit old new [] kinds [] are same h = tt
values_still_fit old new [] kinds (v ∷ vs) are same h = absurd h
values_still_fit old new (n ∷ ns) kinds [] are same h = absurd h
values_still_fit old new (n ∷ ns) [] (v ∷ vs) are same h = absurd cc
values_still_fit old new (n ∷ ns) (k ∷ ks) (v ∷ vs) are same h =
    let head : column_kind new n ≡ Some k = cc in
    let tail : AreKindsOf new ns ks = cc in (
      still_fits (column_type old n) (column_type new n) v k head (λ o is. same n (Contains-head n ns) o k is head) h.0,
      values_still_fit old new ns ks vs tail (λ name there. same name (Contains-tail n ns name there)) h.1,
    )

-- ---- columns of another kind
pub kinds_kept : (old new : ColumnTrees) (names : List (List ℕ)) → (HasOtherKind old new names → ⊥) → (name : List ℕ) → Contains names name → (o k : PartKind) → column_kind old name ≡ Some o → column_kind new name ≡ Some k → o ≡ k
kinds_kept old new names kept name there o k was is =
    ⊎_elim
    (λ same. same_kind o k same)
    (λ other. absurd (kept (record { name = name; named = there; old = o; was = was; new = k; is = is; changed = other_kind o k other })))
    (cases_Bool (is_same_kind o k))

-- ---- names without a kind
pub lacks_kind : (f : List ℕ → Option PartKind) (names : List (List ℕ)) → Contains (map f names) None → (name : List ℕ) × Contains names name × (f name ≡ None)
lacks_kind f [] there = absurd (Contains-none None there)
lacks_kind f (n ∷ ns) there =
    ⊎_elim
    (λ e. (n, Contains-head n ns, e))
    (λ later. let more = lacks_kind f ns later in (more.0, Contains-tail n ns more.0 more.1, more.2))
    (Contains-cases (f n) (map f ns) None there)

-- ---- the judgement of the kinds

module _ (schema : ColumnTrees) (names : List (List ℕ)) (found : List (Option PartKind)) (found_is : found ≡ map (column_kind schema) names) where
  pub unknown : (o : Option (Vec PartKind Global)) → MatchOption o (Contains found None) (λ kinds. found ≡ map Some kinds.items) → o ≡ None
      → (name : List ℕ) × Contains names name × (column_kind schema name ≡ None)
  unknown None h e = lacks_kind (column_kind schema) names (subst (λ l. Contains l None) found_is h)
  unknown (Some kinds) h e = absurd (none-some kinds (sym e))

  pub known : (o : Option (Vec PartKind Global)) (kinds : Vec PartKind Global) → MatchOption o (Contains found None) (λ ks. found ≡ map Some ks.items) → o ≡ Some kinds → AreKindsOf schema names kinds.items
  known None kinds h e = absurd (none-some kinds e)
  known (Some ks) kinds h e = let same : ks ≡ kinds = cc in sym found_is ∙ h ∙ ap (λ (v : Vec PartKind Global). map Some v.items) same

  pub changed : (base : Option Table) (b : Bool) → MatchOption base (b ≡ false) (λ before. (b ≡ true) ↔ HasOtherKind before.schema schema names) → b ≡ true
      → (before : Table) × (base ≡ Some before) × HasOtherKind before.schema schema names
  changed None b h is = absurd (false≢true (sym h ∙ is))
  changed (Some before) b h is = (before, refl, h.0 is)

  pub unchanged : (base : Option Table) (b : Bool) → MatchOption base (b ≡ false) (λ before. (b ≡ true) ↔ HasOtherKind before.schema schema names) → b ≡ false
      → (before : Table) → base ≡ Some before → HasOtherKind before.schema schema names → ⊥
  unchanged None b h stays before e = absurd (none-some before e)
  unchanged (Some old) b h stays before e =
      let same : old ≡ before = cc in
      subst (λ (t : Table). HasOtherKind t.schema schema names → ⊥) same (λ other. false≢true (sym stays ∙ h.1 other))
