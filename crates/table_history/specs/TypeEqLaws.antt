-- The tests of column types and of columns decide whether two are one.
use Rattle.std.specs.Prelude.{◌≡◌, true, refl}
use Rattle.std.proofs.Common.{ap, subst}
use Rattle.std.specs.Bool.{Decides}
use Rattle.std.specs.Cmp.{IsEquivalence, booleans_Decides, decided}
use Rattle.std.proofs.lemmas.Bool.{and_parts, false≢true}
use Rattle.std.proofs.lemmas.Bool.Decides.{Decides-eqb}
use Rattle.std.proofs.lemmas.Slice.Eq.{bytes_eq-Decides}
use Rattle.table_history.specs.TypeTree.{TypeTree, boolean, byte, short, int, long, float, double, decimal, text, binary, date, timestamp, timestamp_ntz, struct_of, list_of, map_of, ColumnTrees, no_columns, column}
use Rattle.table_history.specs.TypeEq.{type_eq, columns_eq}

mutual
  type_same : (s t : TypeTree) → type_eq s t ≡ true → s ≡ t
  type_same boolean boolean h = refl
  type_same byte byte h = refl
  type_same short short h = refl
  type_same int int h = refl
  type_same long long h = refl
  type_same float float h = refl
  type_same double double h = refl
  type_same (decimal p s) (decimal q t) h =
      let parts = and_parts _ _ h in
      let digits : p ≡ q = (Decides-eqb p q).0 parts.0 in
      let behind : s ≡ t = (Decides-eqb s t).0 parts.1 in
      λ i. decimal (digits i) (behind i)
  type_same text text h = refl
  type_same binary binary h = refl
  type_same date date h = refl
  type_same timestamp timestamp h = refl
  type_same timestamp_ntz timestamp_ntz h = refl
  type_same (struct_of cs) (struct_of ds) h = ap struct_of (columns_same cs ds h)
  type_same (list_of t b) (list_of u c) h =
      let parts = and_parts _ _ h in
      let element = type_same t u parts.0 in
      let nullable : b ≡ c = (booleans_Decides b c).0 parts.1 in
      λ i. list_of (element i) (nullable i)
  type_same (map_of k v b) (map_of l w c) h =
      let parts = and_parts _ _ h in
      let more = and_parts _ _ parts.1 in
      let key = type_same k l parts.0 in
      let value = type_same v w more.0 in
      let nullable : b ≡ c = (booleans_Decides b c).0 more.1 in
      λ i. map_of (key i) (value i) (nullable i)
  type_same _ _ h = absurd (false≢true h)

  columns_same : (cs ds : ColumnTrees) → columns_eq cs ds ≡ true → cs ≡ ds
  columns_same no_columns no_columns h = refl
  columns_same (column n t b cs) (column m u c ds) h =
      let parts = and_parts _ _ h in
      let first = and_parts _ _ parts.0 in
      let more = and_parts _ _ first.1 in
      let name : n ≡ m = (bytes_eq-Decides n m).0 first.0 in
      let kind = type_same t u more.0 in
      let nullable : b ≡ c = (booleans_Decides b c).0 more.1 in
      let rest = columns_same cs ds parts.1 in
      λ i. column (name i) (kind i) (nullable i) (rest i)
  columns_same _ _ h = absurd (false≢true h)

mutual
  type_itself : (t : TypeTree) → type_eq t t ≡ true
  type_itself boolean = refl
  type_itself byte = refl
  type_itself short = refl
  type_itself int = refl
  type_itself long = refl
  type_itself float = refl
  type_itself double = refl
  type_itself (decimal p s) = rw ((Decides-eqb p p).1 refl, (Decides-eqb s s).1 refl)
  type_itself text = refl
  type_itself binary = refl
  type_itself date = refl
  type_itself timestamp = refl
  type_itself timestamp_ntz = refl
  type_itself (struct_of cs) = columns_itself cs
  type_itself (list_of t b) = rw (type_itself t, (booleans_Decides b b).1 refl)
  type_itself (map_of k v b) = rw (type_itself k, type_itself v, (booleans_Decides b b).1 refl)

  columns_itself : (cs : ColumnTrees) → columns_eq cs cs ≡ true
  columns_itself no_columns = refl
  columns_itself (column n t b cs) = rw ((bytes_eq-Decides n n).1 refl, type_itself t, (booleans_Decides b b).1 refl, columns_itself cs)

pub type_eq-Decides : (s t : TypeTree) → Decides (type_eq s t) (s ≡ t)
type_eq-Decides s t = (type_same s t, λ e. subst (λ u. type_eq s u ≡ true) e (type_itself s))

pub columns_eq-Decides : (cs ds : ColumnTrees) → Decides (columns_eq cs ds) (cs ≡ ds)
columns_eq-Decides cs ds = (columns_same cs ds, λ e. subst (λ es. columns_eq cs es ≡ true) e (columns_itself cs))

pub columns_equiv : IsEquivalence columns_eq
columns_equiv = decided columns_eq columns_eq-Decides
