-- The completed instants that aren't later than the head are those before the first pending one.
use Rattle.std.proofs.Common.{◌≡◌, ◌≢◌, ℕ, ◌+◌, List, [], ◌∷◌, cond, take, Bool, true, Contains, refl, sym, ap, subst, ◌∙◌}
use Rattle.std.specs.List.{prefix_len}
use Rattle.std.specs.Ordering.{is_le, nat_cmp}
use Rattle.std.specs.Cmp.Lexicographic.{slice_cmp}
use Rattle.std.specs.declared.cmp.Ordering.{Ordering}
use Rattle.std.specs.declared.cmp.Ordering.TheVariants.{Less, Equal, Greater}
use Rattle.lake_store.specs.Disk.{Files, names_in}
use Rattle.table_history.proofs.RowListLemmas.{Contains-head, Contains-none, Contains-tail}
use Rattle.hudi_table.specs.Folder.{IsHead, IsUpTo}
use Rattle.hudi_table.specs.Instants.{completed_in, first_pending, instants_in, is_before, timeline_folder, timeline_of}
use Rattle.hudi_table.specs.declared.instants.CompletedInstant.{CompletedInstant}
use Rattle.hudi_table.proofs.FolderLaws.{before_from, before_to, completed_to, first_of_folder, reached_times}
use Rattle.hudi_table.proofs.TimeOrder.{earlier_still}
use Rattle.source_hudi.specs.Instants.{is_up_to, reached_in}
use Rattle.lake_basics.proofs.Truth.{same_tests}

-- ---- the order of times

le_up : (o : Ordering) → is_le o ≡ true → o ≢ Greater
le_up Less le greater = cc
le_up Equal le greater = cc
le_up Greater le greater = cc

up_le : (o : Ordering) → o ≢ Greater → is_le o ≡ true
up_le Less up = refl
up_le Equal up = refl
up_le Greater up = absurd (up refl)

pub up_of_le : (head time : List ℕ) → is_up_to head time ≡ true → IsUpTo time head
up_of_le head time is = le_up (slice_cmp nat_cmp time head) is

pub le_of_up : (head time : List ℕ) → IsUpTo time head → is_up_to head time ≡ true
le_of_up head time is = up_le (slice_cmp nat_cmp time head) is

-- ---- the completed instants

prefix_same : {X : Type 0} (p q : X → Bool) (xs : List X) → ((x : X) → Contains xs x → p x ≡ q x) → prefix_len p xs ≡ prefix_len q xs
prefix_same p q [] same = refl
prefix_same p q (x ∷ xs) same =
    let first = same x (Contains-head x xs) in
    let rest = prefix_same p q xs (λ y there. same y (Contains-tail x xs y there)) in
    λ i. cond (first i) (1 + rest i) 0

module _ (files : Files) (head : List ℕ) (is : IsHead files head) where
  abbrev names : List (List ℕ)
  names = names_in files timeline_folder

  abbrev completed : List CompletedInstant
  completed = completed_in names (instants_in names)

  same_test : (c : CompletedInstant) → Contains completed c → is_up_to head c.time ≡ is_before (first_pending (instants_in names)) c
  same_test c there =
      same_tests (is_up_to head c.time) (is_before (first_pending (instants_in names)) c)
      (λ up. before_from files (first_pending (instants_in names)) (first_of_folder files) c (λ p at. earlier_still c.time head p (up_of_le head c.time up) (is.0.1 p at)))
      (λ before. le_of_up head c.time (is.1 c.time (completed_to files c there, before_to files (first_pending (instants_in names)) (first_of_folder files) c before)))

  same_front : take (prefix_len (λ c. is_up_to head c.time) completed) completed ≡ reached_in files
  same_front = ap (λ k. take k completed) (prefix_same (λ c. is_up_to head c.time) (is_before (first_pending (instants_in names))) completed same_test)

  pub front_reached : (cs front : List CompletedInstant) → cs ≡ (timeline_of names).completed → front ≡ take (prefix_len (λ c. is_up_to head c.time) cs) cs → front ≡ reached_in files
  front_reached cs front all is = is ∙ subst (λ ds. take (prefix_len (λ c. is_up_to head c.time) ds) ds ≡ reached_in files) (sym all) same_front

  pub some_reached : reached_in files ≢ []
  some_reached none =
      let at = (reached_times files head).1 is.0 in
      Contains-none at.0 (subst (λ (cs : List CompletedInstant). Contains cs at.0) none at.1)
