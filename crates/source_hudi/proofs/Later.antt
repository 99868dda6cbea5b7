-- The instants later than a position are those behind the ones that are up to it.
use Rattle.std.proofs.Common.{◌≡◌, ◌+◌, ℕ, Bool, true, false, cond, not, List, [], ◌∷◌, drop, Contains, refl, sym, ap, subst, ◌∙◌, arith, ⊎_elim}
use Rattle.std.specs.Prelude.{filter, suc}
use Rattle.std.specs.List.{AllByRecursion, list_any, prefix_len}
use Rattle.std.specs.Ordering.{is_le, is_lt, nat_cmp, ordering_reverse}
use Rattle.std.specs.Str.{bytes_eq}
use Rattle.std.specs.Cmp.Lexicographic.{slice_cmp}
use Rattle.std.specs.declared.cmp.Ordering.{Ordering}
use Rattle.std.specs.declared.cmp.Ordering.TheVariants.{Less, Equal, Greater}
use Rattle.std.proofs.lemmas.Bool.{cases_Bool, false≢true}
use Rattle.std.proofs.lemmas.Cmp.{nat_list_cmp_total}
use Rattle.std.proofs.lemmas.Slice.Eq.{bytes_eq-Decides}
use Rattle.lake_store.specs.Disk.{Files, names_in}
use Rattle.hudi_groups.proofs.AnyLemmas.{any_from, any_to}
use Rattle.hudi_table.specs.Folder.{AreInOrder, IsEarlier, IsReached, IsUpTo}
use Rattle.hudi_table.specs.Instants.{HasTime, timeline_folder, timeline_of, up_to_head}
use Rattle.hudi_table.specs.declared.instants.CompletedInstant.{CompletedInstant}
use Rattle.hudi_table.specs.declared.timeline.Timeline.{Timeline}
use Rattle.hudi_table.proofs.FolderLaws.{order_up_to_head, reached_times}
use Rattle.hudi_table.proofs.TimeOrder.{earlier_than}
use Rattle.source_hudi.specs.Instants.{is_up_to}
use Rattle.source_hudi.specs.Since.{is_later, later_in}
use Rattle.lake_basics.proofs.Truth.{lt_less}

-- ---- the order of times

reverse_lt : (o : Ordering) → is_lt (ordering_reverse o) ≡ not (is_le o)
reverse_lt Less = refl
reverse_lt Equal = refl
reverse_lt Greater = refl

later_or_not : (position time : List ℕ) → is_later position time ≡ not (is_up_to position time)
later_or_not position time = ap is_lt (nat_list_cmp_total.antisymm position time) ∙ reverse_lt (slice_cmp nat_cmp time position)

pub later_earlier : (position time : List ℕ) → is_later position time ≡ true → IsEarlier position time
later_earlier position time later = lt_less (slice_cmp nat_cmp position time) later

-- ---- those behind

all_pass : {X : Type 0} (p : X → Bool) (xs : List X) → AllByRecursion (λ x. p x ≡ true) xs → filter p xs ≡ xs
all_pass p [] all = refl
all_pass p (x ∷ xs) all = ap (λ b. cond b (x ∷ filter p xs) (filter p xs)) all.0 ∙ ap (λ l. x ∷ l) (all_pass p xs all.1)

all_later : (position : List ℕ) (c : CompletedInstant) → IsEarlier position c.time → (cs : List CompletedInstant) → AllByRecursion (λ d. IsUpTo c.time d.time) cs → AllByRecursion (λ d. is_later position d.time ≡ true) cs
all_later position c early [] up = tt
all_later position c early (d ∷ cs) up = (ap is_lt (earlier_than position c.time d.time early up.0), all_later position c early cs up.1)

drop_one : (k : ℕ) (c : CompletedInstant) (cs : List CompletedInstant) → drop (1 + k) (c ∷ cs) ≡ drop k cs
drop_one k c cs = let one : 1 + k ≡ suc k = omega arith in ap (λ n. drop n (c ∷ cs)) one

module _ (position : List ℕ) where
  abbrev within : CompletedInstant → Bool
  within c = is_up_to position c.time

  abbrev after : CompletedInstant → Bool
  after c = is_later position c.time

  behind : (cs : List CompletedInstant) → AreInOrder cs → drop (prefix_len within cs) cs ≡ filter after cs
  behind [] order = refl
  behind (c ∷ cs) order =
      ⊎_elim
      (λ (up : within c ≡ true).
      ap (λ b. drop (cond b (1 + prefix_len within cs) 0) (c ∷ cs)) up
      ∙ drop_one (prefix_len within cs) c cs
      ∙ behind cs order.1
      ∙ sym (ap (λ b. cond b (c ∷ filter after cs) (filter after cs)) (later_or_not position c.time ∙ ap not up)))
      (λ (past : within c ≡ false).
      let later : after c ≡ true = later_or_not position c.time ∙ ap not past in
      ap (λ b. drop (cond b (1 + prefix_len within cs) 0) (c ∷ cs)) past
      ∙ sym (all_pass after (c ∷ cs) (later, all_later position c (later_earlier position c.time later) cs order.0)))
      (cases_Bool (within c))

module _ (files : Files) where
  abbrev timeline : Timeline
  timeline = timeline_of (names_in files timeline_folder)

  pub later_found : (position : List ℕ) (up_to later : List CompletedInstant) → up_to ≡ up_to_head timeline → later ≡ drop (prefix_len (λ c. is_up_to position c.time) up_to) up_to → later ≡ later_in files position
  later_found position up_to later all is =
      is ∙ subst (λ (cs : List CompletedInstant). drop (prefix_len (λ c. is_up_to position c.time) cs) cs ≡ later_in files position) (sym all) (behind position (up_to_head timeline) (order_up_to_head files))

  -- ---- whether the position is one of the times

  time_there : (position : List ℕ) (cs : List CompletedInstant) → list_any (λ c. bytes_eq c.time position) cs ≡ true → HasTime cs position
  time_there position cs any = let found = any_to (λ (c : CompletedInstant). bytes_eq c.time position) cs any in (found.0, found.1, (bytes_eq-Decides found.0.time position).0 found.2)

  pub position_reached : (position : List ℕ) (cs : List CompletedInstant) → cs ≡ up_to_head timeline → true ≡ list_any (λ c. bytes_eq c.time position) cs → IsReached files position
  position_reached position cs all any = (reached_times files position).0 (subst (λ (ds : List CompletedInstant). HasTime ds position) all (time_there position cs (sym any)))

  pub not_reached : (position : List ℕ) (cs : List CompletedInstant) → cs ≡ up_to_head timeline → false ≡ list_any (λ c. bytes_eq c.time position) cs → IsReached files position → ⊥
  not_reached position cs all none at =
      let there = (reached_times files position).1 at in
      false≢true (none ∙ any_from (λ (c : CompletedInstant). bytes_eq c.time position) cs there.0 (subst (λ (ds : List CompletedInstant). Contains ds there.0) (sym all) there.1) ((bytes_eq-Decides there.0.time position).1 there.2))
