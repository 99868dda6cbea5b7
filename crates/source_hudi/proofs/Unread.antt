-- The first instant up to the head whose action isn't read.
use Rattle.std.proofs.Common.{◌≡◌, ◌⊎◌, ℕ, ◌&&◌, List, true, not, Contains, Option, Some, None, refl, sym, ap, subst, ◌∙◌, ⊎_elim}
use Rattle.std.specs.Prelude.{find, option_map}
use Rattle.std.specs.Cmp.Lexicographic.{slice_cmp}
use Rattle.std.specs.Ordering.{is_lt, nat_cmp}
use Rattle.std.specs.declared.cmp.Ordering.TheVariants.{Less, Greater}
use Rattle.std.proofs.lemmas.Bool.{and_parts, not-true}
use Rattle.lake_store.specs.Disk.{Files, names_in}
use Rattle.lake_store.proofs.OrderLaws.{names_in_sorted}
use Rattle.hudi_names.specs.Name.{instant_of}
use Rattle.hudi_names.specs.declared.name.Action.{Action}
use Rattle.hudi_names.specs.declared.name.State.{State}
use Rattle.hudi_table.specs.Folder.{IsEarlier, IsUpTo}
use Rattle.hudi_table.specs.Instants.{instant_named, instant_with, instants_in, time_of, timeline_folder}
use Rattle.hudi_table.specs.declared.instants.InstantName.{InstantName}
use Rattle.hudi_table.proofs.FolderLaws.{instant_says}
use Rattle.hudi_table.proofs.TimeOrder.{up_to_itself}
use Rattle.hudi_table.proofs.UpLists.{Up, found_first, found_there, none_found, picked, sorted_up, up_picked}
use Rattle.source_hudi.specs.Instants.{AreAllRead, IsFirstUnread, IsUnread, is_read, is_unread, is_up_to}
use Rattle.source_hudi.specs.Since.{AreAllReadAfter, IsFirstUnreadAfter, IsUnreadAfter, is_later, is_unread_after}
use Rattle.source_hudi.proofs.Later.{later_earlier}
use Rattle.source_hudi.proofs.UpToHead.{le_of_up, up_of_le}

abbrev Instant : Type 0
Instant = ℕ × Action × State

abbrev UpNames : InstantName → InstantName → Type 0
UpNames i j = slice_cmp nat_cmp i.name j.name ≡ Less

named_name : (names : List (List ℕ)) (name : List ℕ) (o : Option Instant) (i : InstantName) → option_map (λ (p : Instant). instant_with names name p.1 p.2) o ≡ Some i → i.name ≡ name
named_name names name None i is = cc
named_name names name (Some p) i is = let same : instant_with names name p.1 p.2 ≡ i = cc (is) in sym (ap (λ (k : InstantName). k.name) same)

module _ (files : Files) (head : List ℕ) where
  abbrev names : List (List ℕ)
  names = names_in files timeline_folder

  abbrev instants : List InstantName
  instants = instants_in names

  names_rise : (n m : List ℕ) (i j : InstantName) → slice_cmp nat_cmp n m ≡ Less → instant_named names n ≡ Some i → instant_named names m ≡ Some j → UpNames i j
  names_rise n m i j less is_i is_j =
      subst (λ k. slice_cmp nat_cmp k j.name ≡ Less) (sym (named_name names n (instant_of n) i is_i))
      (subst (λ k. slice_cmp nat_cmp n k ≡ Less) (sym (named_name names m (instant_of m) j is_j)) less)

  up_instants : Up UpNames instants
  up_instants = up_picked (instant_named names) (λ n m. slice_cmp nat_cmp n m ≡ Less) UpNames names_rise names (sorted_up (slice_cmp nat_cmp) names (names_in_sorted files timeline_folder))

  unread_at : (i : InstantName) → Contains instants i → is_unread head i ≡ true → IsUnread files head i.name i.action
  unread_at i within passes =
      let says = instant_says names i within in
      let parts = and_parts (is_up_to head i.time) (not (is_read i.action)) passes in
      record {
        there = says.there;
        digits = says.digits;
        state = i.state;
        says = says.says;
        up_to = subst (λ t. IsUpTo t head) says.time (up_of_le head i.time parts.0);
        unread = not-true (is_read i.action) parts.1;
      }

  unread_from : (name : List ℕ) (a : Action) → IsUnread files head name a → (i : InstantName) × Contains instants i × (is_unread head i ≡ true) × (i.name ≡ name)
  unread_from name a h =
      let i = instant_with names name a h.state in (
        i,
        picked (instant_named names) names name i h.there (ap (option_map (λ (p : Instant). instant_with names name p.1 p.2)) h.says),
        ap (λ b. b && not (is_read a)) (le_of_up head i.time h.up_to) ∙ ap not h.unread,
        refl,
      )

  up_names : (i j : InstantName) → (i ≡ j) ⊎ UpNames i j → IsUpTo i.name j.name
  up_names i j h = ⊎_elim (λ same. subst (λ (k : InstantName). IsUpTo i.name k.name) same (up_to_itself i.name)) (λ less greater. less_greater (sym less ∙ greater)) h
    where
      less_greater : Less ≡ Greater → ⊥
      less_greater e = cc

  -- what is found is the first
  pub first_found : (i : InstantName) → find (is_unread head) instants ≡ Some i → IsFirstUnread files head i.name i.action
  first_found i is =
      let here = found_there (is_unread head) UpNames instants i is in
      record {
        is = unread_at i here.0 here.1;
        first = λ other a unread.
            let j = unread_from other a unread in
            subst (IsUpTo i.name) j.3 (up_names i j.0 (found_first (is_unread head) UpNames instants i j.0 is up_instants j.1 j.2));
      }

  pub none_unread : find (is_unread head) instants ≡ None → AreAllRead files head
  none_unread is name a unread =
      let j = unread_from name a unread in
      none_found (is_unread head) UpNames instants j.0 is j.1 j.2

  -- ---- after a position

  module _ (position : List ℕ) where
    after_at : (i : InstantName) → Contains instants i → is_unread_after head position i ≡ true → IsUnreadAfter files position head i.name i.action
    after_at i within passes =
        let says = instant_says names i within in
        let parts = and_parts (is_later position i.time) (is_unread head i) passes in
        (subst (IsEarlier position) says.time (later_earlier position i.time parts.0), unread_at i within parts.1)

    after_from : (name : List ℕ) (a : Action) → IsUnreadAfter files position head name a → (i : InstantName) × Contains instants i × (is_unread_after head position i ≡ true) × (i.name ≡ name)
    after_from name a h =
        let j = unread_from name a h.1 in
        let time : j.0.time ≡ time_of name = (instant_says names j.0 j.1).time ∙ ap time_of j.3 in
        let later : is_later position j.0.time ≡ true = ap (is_later position) time ∙ ap is_lt h.0 in
        (j.0, j.1, ap (λ b. b && is_unread head j.0) later ∙ j.2, j.3)

    -- what is found is the first
    pub first_found_after : (i : InstantName) → find (is_unread_after head position) instants ≡ Some i → IsFirstUnreadAfter files position head i.name i.action
    first_found_after i is =
        let here = found_there (is_unread_after head position) UpNames instants i is in
        record {
          is = after_at i here.0 here.1;
          first = λ other a unread.
              let j = after_from other a unread in
              subst (IsUpTo i.name) j.3 (up_names i j.0 (found_first (is_unread_after head position) UpNames instants i j.0 is up_instants j.1 j.2));
        }

    pub none_unread_after : find (is_unread_after head position) instants ≡ None → AreAllReadAfter files position head
    none_unread_after is name a unread =
        let j = after_from name a unread in
        none_found (is_unread_after head position) UpNames instants j.0 is j.1 j.2
