-- Foreign files are neither absent nor ours, and have one first path at fault.
use Rattle.std.proofs.Common.{◌≡◌, inl, inr, ℕ, suc, ◌<◌, List, Option, Some, refl, sym, ap, subst, ◌∙◌, arith}
use Rattle.std.proofs.lemmas.Bool.{cases_lt}
use Rattle.std.specs.Cmp.Lexicographic.{slice_cmp}
use Rattle.std.specs.Ordering.{nat_cmp}
use Rattle.lake_store.specs.Disk.{Files}
use Rattle.table_history.specs.declared.kind.Kind.{Kind}
use Rattle.table_history.specs.declared.table.Table.{Table}
use Rattle.table_history.proofs.FirstLemmas.{none_first}
use Rattle.delta_change.specs.Change.{IsChangeRefusal, Shows, commit_features}
use Rattle.delta_log.specs.Readable.{IsReadableCommit}
use Rattle.delta_log.specs.declared.commit.DeltaCommit.{DeltaCommit}
use Rattle.delta_log.specs.declared.error.DeltaError.{DeltaError}
use Rattle.delta_log.specs.declared.error.DeltaError.TheVariants as errors
use Rattle.delta_log.proofs.ReadableLemmas.{fault_excluded}
use Rattle.delta_table.specs.Log.{IsLog, IsStep}
use Rattle.delta_table.specs.Versions.{IsVersionPath}
use Rattle.delta_table.proofs.PathLaws.{bytes_once, path_once, says_once}
use Rattle.target_core.specs.Views.{IsOfSource, IsUnpublished, Standing, View}
use Rattle.target_core.proofs.Unpublished.{no_commits}
use Rattle.target_core.proofs.Texts.{less_or_more}
use Rattle.target_delta.specs.Inspecting.{IsFault, IsFaulty, IsFirstFaulty, IsFirstStray, IsForeign, IsUnmarked}
use Rattle.target_delta.specs.Names.{path_of}
use Rattle.target_delta.specs.Reading.{IsAbsent, IsMarkAt, IsOurs, Reads}
use Rattle.target_delta.specs.AlikeLemmas.{feature_too, grammar_too}
use Rattle.target_delta.specs.LogLemmas.{SameTables, log_front, one_table, tables_sym}
use Rattle.target_delta.specs.ReadingLemmas.{one_count}

alike : (c : DeltaCommit) (a b : Option Table) (e : DeltaError) → SameTables a b → IsFault e → IsChangeRefusal c a e → IsChangeRefusal c b e
alike c a b errors.Memory same fault h = absurd fault
alike c a b (errors.Malformed n) same fault h = (h.0, grammar_too c a b same h.1)
alike c a b (errors.DoublePath n) same fault h = h
alike c a b (errors.Unsupported f n) same fault h = (h.0, (λ outside. h.1 (grammar_too c b a (tables_sym a b same) outside)), feature_too c a b f same h.2)
alike c a b (errors.Limit w) same fault h = absurd fault

-- ---- a version that is read and taken isn't faulty

step_or_refusal : (c : DeltaCommit) (base : Option Table) (next : Table) (e : DeltaError) → IsFault e → IsStep c base next → IsChangeRefusal c base e → ⊥
step_or_refusal c base next errors.Memory fault step refused = fault
step_or_refusal c base next (errors.Malformed n) fault step refused = step.grammar refused.1
step_or_refusal c base next (errors.DoublePath n) fault step refused = refused
step_or_refusal c base next (errors.Unsupported f n) fault step refused = none_first (Shows c base) commit_features f step.supported refused.2
step_or_refusal c base next (errors.Limit w) fault step refused = fault

pub not_faulty : (files : Files) (n version : ℕ) (table base : Option Table) → version < n → IsLog files n table → IsLog files version base → IsFaulty files version base → ⊥
not_faulty files n version table base lt log before (inl missing) =
    let front = log_front files n version table lt log in
    missing (front.3.bytes, front.3.holds)
not_faulty files n version table base lt log before (inr (e, fault, inl unreadable)) =
    let front = log_front files n version table lt log in
    let bytes : front.3.bytes ≡ unreadable.0 = bytes_once files version front.3.bytes unreadable.0 front.3.holds unreadable.1 in
    fault_excluded unreadable.0 front.2 e (subst (λ (b : List ℕ). IsReadableCommit b front.2) bytes front.3.readable) unreadable.2
not_faulty files n version table base lt log before (inr (e, fault, inr unfit)) =
    let front = log_front files n version table lt log in
    let commit : unfit.0 ≡ front.2 = says_once files version unfit.0 front.2 unfit.1 front.3 in
    let same : SameTables base front.0 = one_table files version base front.0 before front.1 in
    step_or_refusal front.2 front.0 front.4 e fault front.5 (alike front.2 base front.0 e same fault (subst (λ (c : DeltaCommit). IsChangeRefusal c base e) commit unfit.2))

-- ---- neither absent nor ours

pub foreign_or_absent : (source : Kind) (files : Files) (path : List ℕ) → IsForeign source files path → IsAbsent files → ⊥
foreign_or_absent source files path (inl stray) none = stray.stray.other (none.names stray.name stray.stray.proper stray.stray.there)
foreign_or_absent source files path (inr (inl faulty)) none = none.versions faulty.later faulty.there
foreign_or_absent source files path (inr (inr unmarked)) none = none.versions unmarked.newest (unmarked.versions.there unmarked.newest (omega arith))

pub foreign_or_ours : (source : Kind) (files : Files) (path : List ℕ) (v : View) → IsForeign source files path → IsOurs files v → IsOfSource source v → ⊥
foreign_or_ours source files path v (inl stray) ours of = stray.versions ours.newest (ours.versions.there ours.newest (omega arith))
foreign_or_ours source files path v (inr (inl faulty)) ours of =
    elim (cases_lt faulty.version (suc ours.newest)) [
      | inl lt ↦ not_faulty files (suc ours.newest) faulty.version (Some v.table) faulty.base lt ours.log faulty.log faulty.faulty
      | inr le ↦ let within = faulty.within in ours.versions.none faulty.later (omega (arith, le, within)) faulty.there
    ]
foreign_or_ours source files path v (inr (inr unmarked)) ours of =
    let counts : suc ours.newest ≡ suc unmarked.newest = one_count files (suc ours.newest) (suc unmarked.newest) ours.versions unmarked.versions in
    let newest : ours.newest ≡ unmarked.newest = cc in
    let both : Some ours.standing ≡ Some of.0 = sym ours.mark ∙ of.1 in
    let standing : ours.standing ≡ of.0 = cc in
    unmarked.unmarked ours.standing (subst (λ (n : ℕ). IsMarkAt files n ours.standing) newest ours.marked) (ap (λ (s : Standing). s.origin.source) standing ∙ of.2)

pub not_foreign : (source : Kind) (files : Files) (path : List ℕ) (v : View) → IsForeign source files path → Reads files v → (IsUnpublished v → ⊥) × (IsOfSource source v → ⊥)
not_foreign source files path v foreign (inl none) = (λ _. foreign_or_absent source files path foreign none.0, λ _. foreign_or_absent source files path foreign none.0)
not_foreign source files path v foreign (inr ours) = (
  λ is. let none = no_commits v is in let count = ours.count in absurd (omega (arith, none, count)),
  λ of. foreign_or_ours source files path v foreign ours of,
)

-- ---- one path

strays : (files : Files) (p q : List ℕ) → IsFirstStray files p → IsFirstStray files q → p ≡ q
strays files p q a b =
    let names : a.name ≡ b.name = less_or_more a.name b.name (slice_cmp nat_cmp a.name b.name) (slice_cmp nat_cmp b.name a.name) refl refl (b.first a.name a.stray) (a.first b.name b.stray) in
    a.is ∙ ap path_of names ∙ sym b.is

faulty_within : (files : Files) (a : ℕ) (base other : Option Table) (b : ℕ) → a < b → IsLog files a base → IsFaulty files a base → IsLog files b other → ⊥
faulty_within files a base other b lt log faulty more = not_faulty files b a other base lt more log faulty

faults : (files : Files) (p q : List ℕ) → IsFirstFaulty files p → IsFirstFaulty files q → p ≡ q
faults files p q a b =
    elim (cases_lt a.version b.version) [
      | inl lt ↦ absurd (faulty_within files a.version a.base b.base b.version lt a.log a.faulty b.log)
      | inr le ↦ elim (cases_lt b.version a.version) [
        | inl gt ↦ absurd (faulty_within files b.version b.base a.base a.version gt b.log b.faulty a.log)
        | inr ge ↦
            let version : a.version ≡ b.version = omega (arith, le, ge) in
            path_once b.version p q (subst (λ (n : ℕ). IsVersionPath p n) version a.named) b.named
      ]
    ]

faulty_or_unmarked : (source : Kind) (files : Files) (p q : List ℕ) → IsFirstFaulty files p → IsUnmarked source files q → ⊥
faulty_or_unmarked source files p q a b =
    elim (cases_lt a.version (suc b.newest)) [
      | inl lt ↦ not_faulty files (suc b.newest) a.version (Some b.table) a.base lt b.log a.log a.faulty
      | inr le ↦ let within = a.within in b.versions.none a.later (omega (arith, le, within)) a.there
    ]

unmarkeds : (source : Kind) (files : Files) (p q : List ℕ) → IsUnmarked source files p → IsUnmarked source files q → p ≡ q
unmarkeds source files p q a b =
    let counts : suc a.newest ≡ suc b.newest = one_count files (suc a.newest) (suc b.newest) a.versions b.versions in
    let newest : a.newest ≡ b.newest = cc in
    path_once b.newest p q (subst (λ (n : ℕ). IsVersionPath p n) newest a.named) b.named

pub one_path : (source : Kind) (files : Files) (p q : List ℕ) → IsForeign source files p → IsForeign source files q → p ≡ q
one_path source files p q (inl a) (inl b) = strays files p q a b
one_path source files p q (inl a) (inr (inl b)) = absurd (a.versions b.later b.there)
one_path source files p q (inl a) (inr (inr b)) = absurd (a.versions b.newest (b.versions.there b.newest (omega arith)))
one_path source files p q (inr (inl a)) (inl b) = absurd (b.versions a.later a.there)
one_path source files p q (inr (inl a)) (inr (inl b)) = faults files p q a b
one_path source files p q (inr (inl a)) (inr (inr b)) = absurd (faulty_or_unmarked source files p q a b)
one_path source files p q (inr (inr a)) (inl b) = absurd (b.versions a.newest (a.versions.there a.newest (omega arith)))
one_path source files p q (inr (inr a)) (inr (inl b)) = absurd (faulty_or_unmarked source files q p b a)
one_path source files p q (inr (inr a)) (inr (inr b)) = unmarkeds source files p q a b
