-- Foreign files are neither absent nor ours, and have one first path at fault.
use Rattle.std.proofs.Common.{◌≡◌, ◌≢◌, inl, inr, ℕ, ◌<◌, List, [], ◌∷◌, ◌++◌, length, Option, None, Some, Result, refl, sym, ap, subst, ◌∙◌, arith}
use Rattle.std.specs.Prelude.{Err, Ok}
use Rattle.std.specs.Cmp.Lexicographic.{slice_cmp}
use Rattle.std.specs.Ordering.{nat_cmp, is_eq, ordering_reverse}
use Rattle.std.specs.declared.cmp.Ordering.{Ordering}
use Rattle.std.specs.declared.cmp.Ordering.TheVariants.{Equal, Greater, Less}
use Rattle.std.proofs.lemmas.Bool.{cases_lt, false≢true}
use Rattle.std.proofs.lemmas.Cmp.{nat_list_cmp_total}
use Rattle.lake_store.specs.Disk.{Files}
use Rattle.lake_store.proofs.DiskLaws.{same_path}
use Rattle.table_history.specs.declared.kind.Kind.{Kind}
use Rattle.hudi_properties.specs.TableProperties.{checked_table}
use Rattle.hudi_names.specs.declared.error.HudiError.{HudiError}
use Rattle.hudi_properties.specs.declared.table.HudiTable.{HudiTable}
use Rattle.hudi_table.specs.Files.{HasFault, ReadsAs}
use Rattle.hudi_table.specs.Instants.{path_of}
use Rattle.hudi_table.specs.Reading.{IsLatestOf, IsReadingOf}
use Rattle.hudi_table.specs.declared.instants.CompletedInstant.{CompletedInstant}
use Rattle.hudi_table.specs.declared.properties.Properties.{Properties}
use Rattle.hudi_table.specs.declared.reading.Latest.{Latest}
use Rattle.hudi_table.specs.declared.reading.Naming.TheVariants.{External}
use Rattle.target_core.specs.Views.{IsOfSource, IsUnpublished, Standing, View}
use Rattle.target_hudi.specs.Inspecting.{HasForeignProperties, IsFirstFaulty, IsFirstForeignName, IsForeign}
use Rattle.target_hudi.specs.Reading.{HasOwnNames, HasOwnProperties, IsAbsent, IsOurs, Reads, completed_in}
use Rattle.target_hudi.specs.FaultLemmas.{not_faulty}
use Rattle.target_hudi.specs.OnceLemmas.{one_place, one_standing, one_table_of}
use Rattle.target_hudi.specs.ReadingLemmas.{in_middle, own_of}
use Rattle.lake_basics.proofs.Lists.{none_longer}

-- ---- the properties

fault_or_read : (bytes : List ℕ) (e : HudiError) (p : Properties) → HasFault bytes e → ReadsAs bytes p → ⊥
fault_or_read bytes e p (inl h) read =
    let told : ◌≡◌ {A = Result (List (List ℕ × List ℕ)) HudiError} (Ok p.pairs) (Err e) = sym read.0 ∙ h in
    cc
fault_or_read bytes e p (inr h) read =
    let told : ◌≡◌ {A = Result (List (List ℕ × List ℕ)) HudiError} (Ok p.pairs) (Ok h.0) = sym read.0 ∙ h.1 in
    let pairs : p.pairs ≡ h.0 = cc in
    let never : ◌≡◌ {A = Result HudiTable HudiError} (Ok p.table) (Err e) = sym read.1 ∙ ap checked_table pairs ∙ h.2 in
    cc

one_read : (bytes : List ℕ) (p q : Properties) → ReadsAs bytes p → ReadsAs bytes q → p.table ≡ q.table
one_read bytes p q h k =
    let told : ◌≡◌ {A = Result (List (List ℕ × List ℕ)) HudiError} (Ok p.pairs) (Ok q.pairs) = sym h.0 ∙ k.0 in
    let pairs : p.pairs ≡ q.pairs = cc in
    let both : ◌≡◌ {A = Result HudiTable HudiError} (Ok p.table) (Ok q.table) = sym h.1 ∙ ap checked_table pairs ∙ k.1 in
    cc

pub not_both : (files : Files) → HasOwnProperties files → HasForeignProperties files → ⊥
not_both files own (inl lacks) = own.there lacks
not_both files own (inr (bytes, holds, inl (e, fault, has))) = let p = own.own bytes holds in fault_or_read bytes e p.0 has p.1
not_both files own (inr (bytes, holds, inr (q, read, foreign))) =
    let p = own.own bytes holds in
    let table : p.0.table ≡ q.table = one_read bytes p.0 q p.1 read in
    false≢true (sym foreign ∙ sym (ap (λ (t : HudiTable). t.ours) table) ∙ p.2)

own_or_first : (files : Files) (path : List ℕ) → HasOwnNames files → IsFirstForeignName files path → ⊥
own_or_first files path names first = first.foreign.foreign (names first.name first.foreign.names)

-- ---- neither absent nor ours

module _ (source : Kind) (files : Files) (path : List ℕ) (v : View) (h : IsFirstFaulty source files path) where
  faulty_absent : IsAbsent files → ⊥
  faulty_absent none = none_longer h.before.front h.instant h.before.behind (sym none.none ∙ h.before.split)

  faulty_ours : IsOurs files v → IsOfSource source v → ⊥
  faulty_ours ours of =
      let told : ◌≡◌ {A = Option Standing} (Some ours.standing) (Some of.0) = sym (ap (λ (w : View). w.mark) ours.view_is) ∙ of.1 in
      let newest : ours.standing ≡ of.0 = cc in
      let last = ours.marked ours.newest (in_middle (completed_in files) ours.front ours.newest [] ours.last) in
      let at : ours.standing ≡ last.0 = one_standing files ours.newest ours.standing last.0 ours.stands last.1 in
      let format : ours.source ≡ source = sym last.2 ∙ ap (λ (s : Standing). s.origin.source) (sym at ∙ newest) ∙ of.2 in
      let here = ours.marked h.instant (in_middle (completed_in files) h.before.front h.instant h.before.behind h.before.split) in
      let table : ours.table.table ≡ h.table.table = one_table_of files ours.table h.table ours.says h.before.says in
      let read = subst (λ (t : HudiTable). IsLatestOf files External t (completed_in files) ours.latest) table ours.read in
      let all = subst (λ (cs : List CompletedInstant). IsLatestOf files External h.table.table cs ours.latest) h.before.split read in
      not_faulty source files h.table h.before.front h.instant h.before.behind h.latest ours.latest here.0 h.before.read all here.1 (here.2 ∙ format) h.faulty

pub none_is_some : (v : View) (standing : Standing) → IsUnpublished v → v.mark ≡ Some standing → ⊥
none_is_some v standing none some =
    let told : ◌≡◌ {A = Option Standing} None (Some standing) = sym (ap (λ (w : View). w.mark) none) ∙ some in
    cc

pub not_foreign : (source : Kind) (files : Files) (path : List ℕ) (v : View) → IsForeign source files path → Reads files v → (IsUnpublished v → ⊥) × (IsOfSource source v → ⊥)
not_foreign source files path v (inl h) reads = let own = own_of files v reads in absurd (not_both files own.0 h.1)
not_foreign source files path v (inr (inl h)) reads = let own = own_of files v reads in absurd (own_or_first files path own.1 h)
not_foreign source files path v (inr (inr h)) (inl none) = absurd (faulty_absent source files path v h none.0)
not_foreign source files path v (inr (inr h)) (inr ours) = (λ none. none_is_some v ours.standing none (ap (λ (w : View). w.mark) ours.view_is), faulty_ours source files path v h ours)

-- ---- one path

same_by : (p q : List ℕ) (o : Ordering) → o ≡ slice_cmp nat_cmp p q → o ≢ Less → ordering_reverse o ≢ Less → p ≡ q
same_by p q Less is lt gt = absurd (lt refl)
same_by p q Equal is lt gt = same_path p q (ap is_eq (sym is))
same_by p q Greater is lt gt = absurd (gt refl)

pub neither_less : (p q : List ℕ) → slice_cmp nat_cmp p q ≢ Less → slice_cmp nat_cmp q p ≢ Less → p ≡ q
neither_less p q lt gt = same_by p q (slice_cmp nat_cmp p q) refl lt (λ is. gt (nat_list_cmp_total.antisymm q p ∙ is))

-- A longer front of the same list begins with the shorter one and what stands behind it.
within : {X : Type 0} (front : List X) (x : X) (behind front' : List X) (x' : X) (behind' : List X) → length front < length front' → front ++ x ∷ behind ≡ front' ++ x' ∷ behind' → (rest : List X) × (front' ≡ front ++ x ∷ rest)
within front x behind [] x' behind' lt is = absurd (omega (arith, lt))
within {X = X} [] x behind (y ∷ front') x' behind' lt is = let here : x ≡ y = cc in (front', ap (λ (z : X). z ∷ front') (sym here))
within {X = X} (z ∷ front) x behind (y ∷ front') x' behind' lt is =
    let here : z ≡ y = cc in
    let tails : front ++ x ∷ behind ≡ front' ++ x' ∷ behind' = cc in
    let rest = within front x behind front' x' behind' (omega (arith, lt)) tails in
    (rest.0, λ i. sym here i ∷ rest.1 i)

module _ (source : Kind) (files : Files) where
  latest_of : (table : HudiTable) (front : List CompletedInstant) (c : CompletedInstant) (rest : List CompletedInstant) (latest : Option Latest) → IsReadingOf files External table (front ++ c ∷ rest) latest → (l : Latest) × IsLatestOf files External table (front ++ c ∷ rest) l
  latest_of table front c rest None none = absurd (none_longer front c rest (sym none))
  latest_of table front c rest (Some l) read = (l, read)

  -- An instant at fault isn't one of those that another one stands behind.
  not_before : (p q : List ℕ) (h : IsFirstFaulty source files p) (k : IsFirstFaulty source files q) → length h.before.front < length k.before.front → ⊥
  not_before p q h k lt =
      let rest = within h.before.front h.instant h.before.behind k.before.front k.instant k.before.behind lt (sym h.before.split ∙ k.before.split) in
      let table : k.table.table ≡ h.table.table = one_table_of files k.table h.table k.before.says h.before.says in
      let read = subst (λ (t : HudiTable). IsReadingOf files External t (h.before.front ++ h.instant ∷ rest.0) k.latest) table (subst (λ (cs : List CompletedInstant). IsReadingOf files External k.table.table cs k.latest) rest.1 k.before.read) in
      let whole = latest_of h.table.table h.before.front h.instant rest.0 k.latest read in
      let marked = k.before.marked h.instant (in_middle k.before.front h.before.front h.instant rest.0 rest.1) in
      not_faulty source files h.table h.before.front h.instant rest.0 h.latest whole.0 marked.0 h.before.read whole.1 marked.1 marked.2 h.faulty

  one_faulty : (p q : List ℕ) → IsFirstFaulty source files p → IsFirstFaulty source files q → p ≡ q
  one_faulty p q h k =
      elim (cases_lt (length h.before.front) (length k.before.front)) [
        | inl lt ↦ absurd (not_before p q h k lt)
        | inr le ↦ elim (cases_lt (length k.before.front) (length h.before.front)) [
          | inl gt ↦ absurd (not_before q p k h gt)
          | inr ge ↦
              let len : length h.before.front ≡ length k.before.front = omega (arith, le, ge) in
              let same = one_place h.before.front h.instant h.before.behind k.before.front k.instant k.before.behind len (sym h.before.split ∙ k.before.split) in
              h.is ∙ ap (λ (c : CompletedInstant). path_of c.name) same.1 ∙ sym k.is
        ]
      ]

  one_name : (p q : List ℕ) → IsFirstForeignName files p → IsFirstForeignName files q → p ≡ q
  one_name p q h k =
      let same : h.name ≡ k.name = neither_less h.name k.name (k.first h.name h.foreign) (h.first k.name k.foreign) in
      h.is ∙ ap path_of same ∙ sym k.is

  pub one_path : (p q : List ℕ) → IsForeign source files p → IsForeign source files q → p ≡ q
  one_path p q (inl h) (inl k) = h.0 ∙ sym k.0
  one_path p q (inl h) (inr (inl k)) = absurd (not_both files k.properties h.1)
  one_path p q (inl h) (inr (inr k)) = absurd (not_both files k.before.properties h.1)
  one_path p q (inr (inl h)) (inl k) = absurd (not_both files h.properties k.1)
  one_path p q (inr (inl h)) (inr (inl k)) = one_name p q h k
  one_path p q (inr (inl h)) (inr (inr k)) = absurd (own_or_first files p k.before.names h)
  one_path p q (inr (inr h)) (inl k) = absurd (not_both files h.before.properties k.1)
  one_path p q (inr (inr h)) (inr (inl k)) = absurd (own_or_first files q h.before.names k)
  one_path p q (inr (inr h)) (inr (inr k)) = one_faulty p q h k
