-- What a commit is refused for over a table, it is refused for over one of the same rows, schema and partition columns.
use Rattle.std.proofs.Common.{◌≡◌, inl, inr, ⊎_elim, ℕ, List, [], ◌∷◌, Option, Some, None, refl, sym, ap, subst, ◌∙◌}
use Rattle.table_history.specs.First.{IsFirst}
use Rattle.table_history.specs.TypeTree.{ColumnTrees}
use Rattle.table_history.specs.declared.feature.Feature.{Feature}
use Rattle.table_history.specs.declared.feature.Feature.TheVariants.{ReaderVersion, ReaderFeature, ColumnMapping, SchemaType, PartitionType, PartitionChange, PartitionValue}
use Rattle.table_history.specs.declared.table.Table.{Table}
use Rattle.partition_map.specs.Columns.{HasOtherKind, LacksKinds}
use Rattle.delta_change.specs.Change.{ChangesPartition, IsOutsideGrammar, Shows, commit_features}
use Rattle.delta_live.specs.Live.{ArePartColumns}
use Rattle.delta_change.specs.TableBehind.{IsSchemaBehind}
use Rattle.delta_log.specs.declared.commit.DeltaCommit.{DeltaCommit}
use Rattle.delta_log.specs.declared.commit.MetaData.{MetaData}
use Rattle.target_delta.specs.LogLemmas.{SameTables, same_partitions, same_schemas, tables_sym}

none_too : (a b : Option Table) → SameTables a b → a ≡ None → b ≡ None
none_too None None same is = refl
none_too None (Some b) same is = absurd same
none_too (Some a) b same is = absurd (cc)

schema_too : (meta : Option MetaData) (a b : Option Table) (schema : ColumnTrees) → SameTables a b → IsSchemaBehind meta a schema → IsSchemaBehind meta b schema
schema_too None a b schema same is = is ∙ same_schemas a b same
schema_too (Some m) a b schema same is = is

module _ (c : DeltaCommit) where
  pub grammar_too : (a b : Option Table) → SameTables a b → IsOutsideGrammar c a → IsOutsideGrammar c b
  grammar_too a b same (inl lacks) = inl (none_too a b same lacks.0, lacks.1)
  grammar_too a b same (inr others) = inr others

  changes_too : (a b : Option Table) → SameTables a b → ChangesPartition c a → ChangesPartition c b
  changes_too None b same h = let none = h.3 in absurd (cc)
  changes_too (Some t) None same h = absurd same
  changes_too (Some t) (Some u) same h =
      let both = h.3 in
      let table : h.0 ≡ t = cc in
      let partition : h.0.partition ≡ u.partition = ap (λ (x : Table). x.partition) table ∙ same.partition in
      let schema : h.0.schema ≡ u.schema = ap (λ (x : Table). x.schema) table ∙ same.schema in
      (u, h.1, h.2, refl, h.4, h.5, ⊎_elim (λ other. inl (λ (is : h.1.partition ≡ u.partition). other (is ∙ sym partition))) (λ kinds. inr (subst (λ (s : ColumnTrees). HasOtherKind s h.2 h.1.partition) schema kinds)) h.6)

  pub shows_too : (a b : Option Table) → SameTables a b → (f : Feature) → Shows c a f → Shows c b f
  shows_too a b same ReaderVersion h = h
  shows_too a b same ReaderFeature h = h
  shows_too a b same ColumnMapping h = h
  shows_too a b same SchemaType h = h
  shows_too a b same PartitionType h = (h.0, schema_too c.meta a b h.0 same h.1, subst (λ (p : List (List ℕ)). LacksKinds h.0 p) (same_partitions c.meta a b same) h.2)
  shows_too a b same PartitionChange h = changes_too a b same h
  shows_too a b same PartitionValue h = (h.0, h.1, schema_too c.meta a b h.0 same h.2, subst (λ (p : List (List ℕ)). ArePartColumns h.0 p h.1) (same_partitions c.meta a b same) h.3, h.4, h.5, h.6, h.7, h.8)
  shows_too a b same _ h = h

pub first_too : {A : Type 0} (P Q : A → Type 0) (xs : List A) (x : A) → ((y : A) → P y → Q y) → ((y : A) → Q y → P y) → IsFirst P xs x → IsFirst Q xs x
first_too P Q [] x to from h = h
first_too P Q (y ∷ ys) x to from h = ⊎_elim (λ here. inl (here.0, to y here.1)) (λ later. inr ((λ q. later.0 (from y q)), first_too P Q ys x to from later.1)) h

pub feature_too : (c : DeltaCommit) (a b : Option Table) (f : Feature) → SameTables a b → IsFirst (Shows c a) commit_features f → IsFirst (Shows c b) commit_features f
feature_too c a b f same h = first_too (Shows c a) (Shows c b) commit_features f (shows_too c a b same) (shows_too c b a (tables_sym a b same)) h
