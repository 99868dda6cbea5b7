-- The snapshots behind a position.
use Rattle.std.proofs.Common.{◌≡◌, ◌+◌, append_assoc, append-nil, take-append-drop, Bool, true, false, ℕ, List, [], ◌∷◌, ◌++◌, Contains, None, Some, Result, Ok, Err, length, length-drop, ◌≤◌, arith, take, drop, sym, ap, subst, ◌∙◌, ⊎_elim}
use Rattle.std.specs.Prelude.{reverse, slice_get, IfOk}
use Rattle.std.specs.Bool.{Decides}
use Rattle.std.specs.Fmt.{signed_decimal}
use Rattle.std.proofs.lemmas.Bool.{false≢true}
use Rattle.std.proofs.lemmas.List.{reverse-append}
use Rattle.std.proofs.lemmas.Option.{none-some}
use Rattle.std.proofs.lemmas.List.Elements.{Contains-append_cases, Contains-append_right}
use Rattle.table_history.proofs.RowListLemmas.{Contains-cases, Contains-head, Contains-none, Contains-tail}
use Rattle.iceberg_metadata.specs.declared.metadata.Snapshot.{Snapshot}
use Rattle.lake_store.specs.Disk.{Files}
use Rattle.iceberg_ancestry.specs.Ancestry.{IsAncestry, held_at}
use Rattle.iceberg_metadata.specs.declared.metadata.Metadata.{Metadata}
use Rattle.source_core.specs.declared.head.Head.{Head}
use Rattle.source_iceberg.specs.HeadLemmas.{metadata_once}
use Rattle.source_iceberg.specs.Heads.{IsIcebergHead, IsNewestMetadata}
use Rattle.source_iceberg.specs.Later.{AreAhead, AreFrom, AreUpTo, Begins, HasNone, IsFirstAt, IsFoundBehind, IsNotBehind}
use Rattle.source_iceberg.specs.SinceLemmas.{first_ancestor}

pub none_pushed : (ahead : List Snapshot) (s : Snapshot) (position : List ℕ) → HasNone ahead position → {b : Bool} → Decides b (position ≡ signed_decimal s.id) → b ≡ false → HasNone (ahead ++ s ∷ []) position
none_pushed ahead s position others {b} decides other t there at =
    ⊎_elim
    (λ was. others t was at)
    (λ new.
    ⊎_elim
    (λ same. false≢true (sym other ∙ decides.1 (at ∙ ap (λ (u : Snapshot). signed_decimal u.id) (sym same))))
    (λ none. absurd (Contains-none t none))
    (Contains-cases s [] t new))
    (Contains-append_cases ahead (s ∷ []) t there)

in_reverse : {X : Type 0} (xs : List X) (x : X) → Contains (reverse xs) x → Contains xs x
in_reverse [] x there = there
in_reverse {X} (y ∷ xs) x there =
    ⊎_elim
    (λ later. Contains-tail y xs x (in_reverse xs x later))
    (λ first. ⊎_elim (λ same. subst (Contains (y ∷ xs)) same (Contains-head y xs)) (λ none. absurd (Contains-none x none)) (Contains-cases y [] x first))
    (Contains-append_cases (reverse xs) (y ∷ []) x (subst (λ (l : List X). Contains l x) (reverse-append (y ∷ []) xs) there))

pub found_behind : (position : List ℕ) (ancestors ahead later : List Snapshot) → AreAhead ancestors position ahead → later ≡ reverse ahead → IsFoundBehind ancestors position later
found_behind position ancestors ahead later found is =
    subst (IsFoundBehind ancestors position) (sym is) (record {
      front = reverse found.rest;
      at = found.at;
      split =
          ap (λ (l : List Snapshot). reverse l) found.split
          ∙ reverse-append ahead (found.at ∷ found.rest)
          ∙ ap (λ (l : List Snapshot). l ++ reverse ahead) (reverse-append (found.at ∷ []) found.rest)
          ∙ append_assoc (reverse found.rest) (found.at ∷ []) (reverse ahead);
      spelled = found.spelled;
      others = λ s there. found.others s (in_reverse ahead s there);
    })

pub not_behind : (position : List ℕ) (ancestors : List Snapshot) → HasNone ancestors position → IsNotBehind ancestors position
not_behind position ancestors none later behind =
    let there = subst (λ (l : List Snapshot). Contains l behind.at) (sym behind.split) (Contains-append_right behind.front (behind.at ∷ later) behind.at (Contains-head behind.at later)) in
    none behind.at (in_reverse ancestors behind.at there) behind.spelled

-- ---- up to the head

pub first_place : (snapshots : List Snapshot) (position : List ℕ) (place : ℕ) (s : Snapshot) → drop place snapshots ≡ s ∷ drop (place + 1) snapshots → HasNone (take place snapshots) position → {b : Bool} → Decides b (position ≡ signed_decimal s.id) → b ≡ true → IsFirstAt snapshots position place
first_place snapshots position place s at others decides is = record { at = s; is = at; spelled = decides.0 is; others = others }

pub ahead_placed : (snapshots ahead : List Snapshot) (position : List ℕ) (place : ℕ) → IsFirstAt snapshots position place → ahead ≡ take place snapshots → AreAhead snapshots position ahead
ahead_placed snapshots ahead position place first is =
    subst (AreAhead snapshots position) (sym is) (record {
      at = first.at;
      rest = drop (place + 1) snapshots;
      split = sym (take-append-drop place snapshots) ∙ ap (λ (l : List Snapshot). take place snapshots ++ l) first.is;
      spelled = first.spelled;
      others = first.others;
    })

from_first : (snapshots from : List Snapshot) (position : List ℕ) (place : ℕ) → IsFirstAt snapshots position place → from ≡ drop place snapshots → AreFrom snapshots position from
from_first snapshots from position place first is = record {
  ahead = take place snapshots;
  split = sym (take-append-drop place snapshots) ∙ ap (λ (l : List Snapshot). take place snapshots ++ l) (sym is);
  others = first.others;
  begins = subst (Begins position) (sym (is ∙ first.is)) first.spelled;
}

pub from_placed : {E : Type 0} (snapshots : List Snapshot) (position : List ℕ) (place : ℕ) (r : Result (List Snapshot) E) → IsFirstAt snapshots position place → IfOk r (λ from. from ≡ drop place snapshots) → IfOk r (AreFrom snapshots position)
from_placed snapshots position place (Ok from) first is = from_first snapshots from position place first is
from_placed snapshots position place (Err e) first is = tt

pub place_within : (snapshots : List Snapshot) (position : List ℕ) (place : ℕ) → IsFirstAt snapshots position place → place ≤ length snapshots
place_within snapshots position place first =
    let left : length (drop place snapshots) ≡ length (first.at ∷ drop (place + 1) snapshots) = ap (λ (l : List Snapshot). length l) first.is in
    let whole = length-drop place snapshots in omega (arith, left, whole)

pub from_none : (snapshots from : List Snapshot) (position : List ℕ) → HasNone snapshots position → from ≡ [] → AreFrom snapshots position from
from_none snapshots from position none is = record {
  ahead = snapshots;
  split = sym (append-nil snapshots) ∙ ap (λ (l : List Snapshot). snapshots ++ l) (sym is);
  others = none;
  begins = subst (Begins position) (sym is) tt;
}

-- Where the head is the current snapshot's, all of its ancestors are up to it.
all_from : (head : List ℕ) (s : Snapshot) (ahead from rest : List Snapshot) → head ≡ signed_decimal s.id → HasNone ahead head → ahead ++ from ≡ s ∷ rest → from ≡ s ∷ rest
all_from head s [] from rest at none split = split
all_from head s (a ∷ ahead) from rest at none split =
    let first : a ≡ s = cc in
    absurd (none a (Contains-head a ahead) (at ∙ ap (λ (u : Snapshot). signed_decimal u.id) (sym first)))

module _ (files : Files) (version : ℕ) (m : Metadata) (newest : IsNewestMetadata files version m) (head : Head) (is : IsIcebergHead files head) (ancestors : List Snapshot) (found : AreUpTo m head.position ancestors) where
  at_head : held_at m.snapshots m.current_snapshot ≡ Some is.snapshot
  at_head = ap (λ (x : Metadata). held_at x.snapshots x.current_snapshot) (metadata_once files version is.version m is.metadata newest is.current.metadata) ∙ is.current.held

  pub from_head : (rest : List Snapshot) × (ancestors ≡ is.snapshot ∷ rest) × (found.all ≡ is.snapshot ∷ rest)
  from_head =
      let first = first_ancestor m is.snapshot found.all at_head found.are in
      (first.0, all_from head.position is.snapshot found.from.ahead ancestors first.0 is.position found.from.others (sym found.from.split ∙ first.1), first.1)

  pub all_ancestors : IsAncestry m ancestors
  all_ancestors = subst (IsAncestry m) (from_head.2 ∙ sym from_head.1) found.are

  pub head_held : (s : Snapshot) → slice_get ancestors 0 ≡ Some s → held_at m.snapshots m.current_snapshot ≡ Some s
  head_held s first = at_head ∙ sym (ap (λ (l : List Snapshot). slice_get l 0) from_head.1) ∙ first

  pub head_there : length ancestors ≡ 0 → ⊥
  head_there none =
      let short : length (is.snapshot ∷ from_head.0) ≡ 0 = ap (λ (l : List Snapshot). length l) (sym from_head.1) ∙ none in omega (arith, short)

  pub head_got : slice_get ancestors 0 ≡ None → ⊥
  head_got none = none-some is.snapshot (sym none ∙ ap (λ (l : List Snapshot). slice_get l 0) from_head.1)
