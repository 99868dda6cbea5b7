-- Whether the kinds of partition columns change along commits.
use Rattle.std.proofs.Common.{◌≡◌, ◌≢◌, ⊎_elim, inl, inr, ℕ, ◌<◌, List, [], ◌∷◌, Bool, true, Contains, Option, Some, None, refl, sym, ap, subst, ◌∙◌, arith}
use Rattle.std.specs.Prelude.{IsTrue}
use Rattle.table_history.specs.TypeTree.{ColumnTrees}
use Rattle.table_history.specs.declared.table.Commit.{Commit}
use Rattle.table_history.proofs.RowListLemmas.{Contains-none, Contains-cases}
use Rattle.partition_map.specs.Columns.{HasOtherKind, column_kind}
use Rattle.partition_map.specs.declared.kind.PartKind.{PartKind}
use Rattle.target_delta.specs.Fitting.{ChangesKinds, EndsWith, kinds_of}
use Rattle.target_delta.specs.Writing.{LogEnd, end_behind, schema_behind}
use Rattle.lake_basics.proofs.Options.{none_or_some, some_once}

-- ---- a column of another kind

kind_at : (before after : ColumnTrees) (names : List (List ℕ)) (name : List ℕ) → Contains names name → kinds_of before names ≡ kinds_of after names → column_kind before name ≡ column_kind after name
kind_at before after [] name there same = absurd (Contains-none name there)
kind_at before after (n ∷ names) name there same =
    let first : column_kind before n ≡ column_kind after n = cc in
    let rest : kinds_of before names ≡ kinds_of after names = cc in
    ⊎_elim
    (λ (here : n ≡ name). subst (λ (m : List ℕ). column_kind before m ≡ column_kind after m) here first)
    (λ later. kind_at before after names name later rest)
    (Contains-cases n names name there)

pub other_kinds : (before after : ColumnTrees) (names : List (List ℕ)) → HasOtherKind before after names → kinds_of before names ≢ kinds_of after names
other_kinds before after names h same =
    let both : Some h.old ≡ Some h.new = sym h.was ∙ kind_at before after names h.name h.named same ∙ h.is in
    h.changed (cc)

-- ---- along the commits

-- Behind the first commits the log ends so, and the kinds change along all of them just where they change along the rest.
pub record AtStep (names : List (List ℕ)) (kinds : List (Option PartKind)) (has : Bool) (end : LogEnd) (commits rest : List Commit) : Type 0 where
  pub here : LogEnd
  pub ends : EndsWith here names kinds has
  pub to : ChangesKinds end commits → ChangesKinds here rest
  pub back : ChangesKinds here rest → ChangesKinds end commits

pub at_start : (names : List (List ℕ)) (kinds : List (Option PartKind)) (has : Bool) (end : LogEnd) (commits : List Commit) → EndsWith end names kinds has → AtStep names kinds has end commits commits
at_start names kinds has end commits ends = record { here = end; ends = ends; to = λ h. h; back = λ h. h }

module _ (names : List (List ℕ)) (kinds : List (Option PartKind)) (has : Bool) (end : LogEnd) (commits : List Commit) (commit : Commit) (rest : List Commit) (s : AtStep names kinds has end commits (commit ∷ rest)) where
  pub step_none : commit.change.schema ≡ None → AtStep names kinds true end commits rest
  step_none none = record {
    here = end_behind s.here commit;
    ends = record {
      names_are = s.ends.names_are;
      kinds_are = subst (λ (o : Option ColumnTrees). kinds_of (schema_behind s.here (record { schema = o; removed = commit.change.removed; added = commit.change.added })) s.here.partition ≡ kinds) (sym none) s.ends.kinds_are;
      commit = (λ _. omega arith, λ _. refl);
    };
    to = λ h. ⊎_elim (λ a. absurd (none_or_some commit.change.schema a.1.0 none a.1.1)) (λ later. later) (s.to h);
    back = λ later. s.back (inr later);
  }

  module _ (schema : ColumnTrees) (stated : commit.change.schema ≡ Some schema) (new : List (Option PartKind)) (are : new ≡ kinds_of schema names) where
    here_kinds : kinds_of schema s.here.partition ≡ new
    here_kinds = ap (λ (n : List (List ℕ)). kinds_of schema n) s.ends.names_are ∙ sym are

    pub step_some : (IsTrue has → kinds ≡ new) → AtStep names new true end commits rest
    step_some same = record {
      here = end_behind s.here commit;
      ends = record {
        names_are = s.ends.names_are;
        kinds_are = subst (λ (o : Option ColumnTrees). kinds_of (schema_behind s.here (record { schema = o; removed = commit.change.removed; added = commit.change.added })) s.here.partition ≡ new) (sym stated) here_kinds;
        commit = (λ _. omega arith, λ _. refl);
      };
      to = λ h. ⊎_elim
          (λ (a : (0 < s.here.version) × ((other : ColumnTrees) × (commit.change.schema ≡ Some other) × (kinds_of s.here.schema s.here.partition ≢ kinds_of other s.here.partition))).
          absurd (a.1.2 (s.ends.kinds_are ∙ same (s.ends.commit.1 a.0) ∙ sym here_kinds ∙ ap (λ (t : ColumnTrees). kinds_of t s.here.partition) (some_once commit.change.schema schema a.1.0 stated a.1.1))))
          (λ later. later)
          (s.to h);
      back = λ later. s.back (inr later);
    }

    pub step_found : IsTrue has → kinds ≢ new → ChangesKinds end commits
    step_found published apart = s.back (inl (s.ends.commit.0 published, (schema, stated, λ same. apart (sym s.ends.kinds_are ∙ same ∙ here_kinds))))
