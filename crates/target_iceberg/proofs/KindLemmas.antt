-- Whether the kinds of partition columns change along commits.
use Rattle.std.proofs.Common.{◌≡◌, ◌≢◌, ⊎_elim, inl, inr, ℕ, ◌<◌, List, [], ◌∷◌, Bool, true, Option, Some, None, refl, sym, ap, ◌∙◌, arith}
use Rattle.std.specs.Prelude.{IsTrue, unwrap_or}
use Rattle.partition_map.specs.declared.kind.PartKind.{PartKind}
use Rattle.schema_map.specs.Image.{wide_columns}
use Rattle.table_history.specs.TypeTree.{ColumnTrees}
use Rattle.table_history.specs.declared.table.Commit.{Commit}
use Rattle.iceberg_version.proofs.BehindLemmas.{wide_kind}
use Rattle.target_iceberg.specs.Fitting.{ChangesKinds, HeldState, kinds_of, state_behind}
use Rattle.target_iceberg.specs.Following.{AreKindsOf}
use Rattle.lake_basics.proofs.Options.{none_or_some, some_once}

-- ---- Iceberg's types change no kind

pub wide_kinds : (schema : ColumnTrees) (names : List (List ℕ)) → kinds_of (wide_columns schema) names ≡ kinds_of schema names
wide_kinds schema [] = refl
wide_kinds schema (name ∷ names) = λ i. wide_kind schema name i ∷ wide_kinds schema names i

-- ---- along the commits

-- Behind the first commits the target has these kinds, and they change along all of them just where they change along the rest.
pub record AtKinds (names : List (List ℕ)) (kinds : List (Option PartKind)) (has : Bool) (state : HeldState) (commits rest : List Commit) : Type 0 where
  pub here : HeldState
  pub are : AreKindsOf here names kinds has
  pub to : ChangesKinds state names commits → ChangesKinds here names rest
  pub back : ChangesKinds here names rest → ChangesKinds state names commits

module _ (names : List (List ℕ)) (kinds : List (Option PartKind)) (has : Bool) (state : HeldState) (commits : List Commit) (commit : Commit) (rest : List Commit) (s : AtKinds names kinds has state commits (commit ∷ rest)) where
  kinds_behind : (schema : ColumnTrees) → unwrap_or commit.change.schema s.here.schema ≡ schema → kinds_of (state_behind s.here commit).schema names ≡ kinds_of schema names
  kinds_behind schema is = wide_kinds (unwrap_or commit.change.schema s.here.schema) names ∙ ap (λ (t : ColumnTrees). kinds_of t names) is

  pub kinds_none : commit.change.schema ≡ None → AtKinds names kinds true state commits rest
  kinds_none none = record {
    here = state_behind s.here commit;
    are = record { are = kinds_behind s.here.schema (ap (λ (o : Option ColumnTrees). unwrap_or o s.here.schema) none) ∙ s.are.are; commit = (λ _. omega arith, λ _. refl) };
    to = λ h. ⊎_elim (λ a. absurd (none_or_some commit.change.schema a.1.0 none a.1.1)) (λ later. later) (s.to h);
    back = λ later. s.back (inr later);
  }

  module _ (schema : ColumnTrees) (stated : commit.change.schema ≡ Some schema) (new : List (Option PartKind)) (are : new ≡ kinds_of schema names) where
    pub kinds_some : (IsTrue has → kinds ≡ new) → AtKinds names new true state commits rest
    kinds_some same = record {
      here = state_behind s.here commit;
      are = record { are = kinds_behind schema (ap (λ (o : Option ColumnTrees). unwrap_or o s.here.schema) stated) ∙ sym are; commit = (λ _. omega arith, λ _. refl) };
      to = λ h. ⊎_elim
          (λ (a : (0 < s.here.version) × ((other : ColumnTrees) × (commit.change.schema ≡ Some other) × (kinds_of s.here.schema names ≢ kinds_of other names))).
          absurd (a.1.2 (s.are.are ∙ same (s.are.commit.1 a.0) ∙ are ∙ ap (λ (t : ColumnTrees). kinds_of t names) (some_once commit.change.schema schema a.1.0 stated a.1.1))))
          (λ later. later)
          (s.to h);
      back = λ later. s.back (inr later);
    }

    pub kinds_found : IsTrue has → kinds ≢ new → ChangesKinds state names commits
    kinds_found published apart = s.back (inl (s.are.commit.0 published, (schema, stated, λ same. apart (sym s.are.are ∙ same ∙ sym are))))
