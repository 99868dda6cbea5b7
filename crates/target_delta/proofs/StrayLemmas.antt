-- The first stray name of a folder without a version, by the list of its names.
use Rattle.std.proofs.Common.{◌≡◌, inl, ⊎_elim, ℕ, ◌==◌, ◌&&◌, Bool, true, false, List, [], ◌∷◌, ◌++◌, length, take, drop, find, codes, Contains, Some, None, refl, sym, ap, subst, ◌∙◌, arith, if◌then◌else◌}
use Rattle.std.proofs.lemmas.List.{length-append, length-drop, length-take, take-append-drop}
use Rattle.std.proofs.lemmas.Bool.{and_from, false≢true, not-false}
use Rattle.std.proofs.lemmas.Bool.Decides.{nat_tests}
use Rattle.std.proofs.lemmas.Slice.Eq.{bytes_eq-Decides}
use Rattle.std.proofs.lemmas.Str.Parse.{IsNumeralModel, numerals_by_value, tells_all_ascii_digits}
use Rattle.std.specs.Prelude.{◌↔◌, IsTrue}
use Rattle.std.specs.Char.{is_ascii_digit}
use Rattle.std.specs.Cmp.Lexicographic.{slice_cmp}
use Rattle.std.specs.List.{AllByRecursion, list_all}
use Rattle.std.specs.List.Sorted.{IsStrictlySortedBy}
use Rattle.std.specs.Ordering.{nat_cmp}
use Rattle.std.specs.Str.{all_ascii_digits, bytes_eq}
use Rattle.std.specs.Str.Parse.{AllDigits, digits_value}
use Rattle.std.specs.declared.cmp.Ordering.{Ordering}
use Rattle.std.specs.declared.cmp.Ordering.TheVariants.{Less}
use Rattle.std.proofs.lemmas.Option.{none-some, same_Some}
use Rattle.lake_store.specs.Disk.{Files, ListsFolder}
use Rattle.table_history.proofs.RowListLemmas.{Contains-cases, Contains-head, Contains-none, Contains-tail}
use Rattle.table_history.specs.declared.kind.Kind.{Kind}
use Rattle.delta_table.specs.Versions.{AreVersions, HasVersion, IsNamed, log_folder}
use Rattle.delta_table.specs.declared.versions.Versions.{Versions}
use Rattle.delta_table.proofs.PathLaws.{held_named, named_held}
use Rattle.target_core.specs.SeenView.{IsSeen}
use Rattle.target_core.specs.declared.target.Seen.{Seen}
use Rattle.target_core.specs.declared.target.Seen.TheVariants.{Absent, Ours, Foreign}
use Rattle.target_core.proofs.Texts.{turned}
use Rattle.target_delta.specs.Inspecting.{IsFirstStray, IsForeign}
use Rattle.target_delta.specs.InspectSteps.{IsNewest, IsSeenIn, is_leftover_name, is_stray_name}
use Rattle.target_delta.specs.Names.{IsLeftoverName, leftover_front, path_of}
use Rattle.target_delta.specs.Reading.{IsAbsent, Reads}
use Rattle.target_delta.specs.Kept.{view_of}
use Rattle.target_delta.specs.declared.kept.DeltaKept.{DeltaKept}
use Rattle.lake_basics.proofs.Truth.{left_true, never_both, not_by, right_true}
use Rattle.lake_basics.proofs.Texts.{same_digits}

-- ---- the test of a name

same_by : (n m : ℕ) → (n == m) ≡ true → n ≡ m
same_by n m is = grind (arith, nat_tests)

same_test : (n m : ℕ) → n ≡ m → (n == m) ≡ true
same_test n m is = grind (arith, nat_tests)

own : IsNumeralModel (λ ds. all_ascii_digits ds ≡ true) (digits_value 10)
own = numerals_by_value _ tells_all_ascii_digits

-- a list of two parts, cut at the length of the first
cut : (a b : List ℕ) → (take (length a) (a ++ b) ≡ a) × (drop (length a) (a ++ b) ≡ b)
cut [] b = (refl, refl)
cut (x ∷ a) b = let rest = cut a b in (ap (λ xs. x ∷ xs) rest.0, rest.1)

module _ (name : List ℕ) where
  abbrev digits : List ℕ
  digits = take 20 (drop 12 name)

  abbrev suffix : List ℕ
  suffix = drop 20 (drop 12 name)

  pub leftover_by : is_leftover_name name ≡ true → IsLeftoverName name
  leftover_by is =
      let len : length name ≡ 37 = same_by (length name) 37 (left_true (length name == 37) _ is) in
      let rest = right_true (length name == 37) (bytes_eq (take 12 name) leftover_front && (list_all is_ascii_digit digits && bytes_eq suffix (codes ".json"))) is in
      let front : take 12 name ≡ leftover_front = (bytes_eq-Decides (take 12 name) leftover_front).0 (left_true (bytes_eq (take 12 name) leftover_front) _ rest) in
      let last = right_true (bytes_eq (take 12 name) leftover_front) (list_all is_ascii_digit digits && bytes_eq suffix (codes ".json")) rest in
      let numeral : AllDigits 10 digits = own.to digits (sym (same_digits digits) ∙ left_true (list_all is_ascii_digit digits) _ last) in
      let json : suffix ≡ codes ".json" = (bytes_eq-Decides suffix (codes ".json")).0 (right_true (list_all is_ascii_digit digits) (bytes_eq suffix (codes ".json")) last) in
      let short : length digits ≡ 20 = simp (length-take, length-drop) (omega (arith, len)) in
      record {
        digits = digits;
        len = short;
        numeral = (omega (arith, short), numeral);
        split = sym (take-append-drop 12 name) ∙ ap (λ (f : List ℕ). f ++ drop 12 name) front ∙ ap (λ (r : List ℕ). leftover_front ++ r) (sym (take-append-drop 20 (drop 12 name)) ∙ ap (λ (s : List ℕ). digits ++ s) json);
      }

leftover_of : (d : List ℕ) → length d ≡ 20 → AllDigits 10 d → is_leftover_name (leftover_front ++ (d ++ codes ".json")) ≡ true
leftover_of d len all =
    let parts = cut d (codes ".json") in
    let t : take 20 (d ++ codes ".json") ≡ d = subst (λ (n : ℕ). take n (d ++ codes ".json") ≡ d) len parts.0 in
    let u : drop 20 (d ++ codes ".json") ≡ codes ".json" = subst (λ (n : ℕ). drop n (d ++ codes ".json") ≡ codes ".json") len parts.1 in
    let numeral : list_all is_ascii_digit (take 20 (d ++ codes ".json")) ≡ true = ap (λ (l : List ℕ). list_all is_ascii_digit l) t ∙ (same_digits d ∙ own.from d all) in
    let end : bytes_eq (drop 20 (d ++ codes ".json")) (codes ".json") ≡ true = (bytes_eq-Decides (drop 20 (d ++ codes ".json")) (codes ".json")).1 u in
    let whole : length (leftover_front ++ (d ++ codes ".json")) ≡ 37 = simp length-append (omega (arith, len)) in
    and_from (length (leftover_front ++ (d ++ codes ".json")) == 37) (bytes_eq leftover_front leftover_front && (list_all is_ascii_digit (take 20 (d ++ codes ".json")) && bytes_eq (drop 20 (d ++ codes ".json")) (codes ".json"))) (same_test (length (leftover_front ++ (d ++ codes ".json"))) 37 whole)
    (and_from (bytes_eq leftover_front leftover_front) (list_all is_ascii_digit (take 20 (d ++ codes ".json")) && bytes_eq (drop 20 (d ++ codes ".json")) (codes ".json")) ((bytes_eq-Decides leftover_front leftover_front).1 refl)
    (and_from (list_all is_ascii_digit (take 20 (d ++ codes ".json"))) (bytes_eq (drop 20 (d ++ codes ".json")) (codes ".json")) numeral end))

pub leftover_test : (name : List ℕ) → IsLeftoverName name → is_leftover_name name ≡ true
leftover_test name h = subst (λ (n : List ℕ). is_leftover_name n ≡ true) (sym h.split) (leftover_of h.digits h.len h.numeral.1)

-- ---- names in byte order

abbrev cmp : List ℕ → List ℕ → Ordering
cmp = slice_cmp nat_cmp

below_in : (x : List ℕ) (xs : List (List ℕ)) (y : List ℕ) → AllByRecursion (λ z. cmp x z ≡ Less) xs → Contains xs y → cmp x y ≡ Less
below_in x [] y all there = absurd (Contains-none y there)
below_in x (z ∷ zs) y all there = ⊎_elim (λ (same : z ≡ y). subst (λ (w : List ℕ). cmp x w ≡ Less) same all.0) (λ later. below_in x zs y all.1 later) (Contains-cases z zs y there)

-- what is found is the first, and there is none before it
pub record IsFirstFound (names : List (List ℕ)) (name : List ℕ) : Type 0 where
  pub there : Contains names name
  pub stray : is_stray_name name ≡ true
  pub first : (other : List ℕ) → Contains names other → is_stray_name other ≡ true → cmp other name ≡ Less → ⊥

found_first : (names : List (List ℕ)) (name : List ℕ) → IsStrictlySortedBy cmp names → find is_stray_name names ≡ Some name → IsFirstFound names name
unfolding IsStrictlySortedBy
found_first [] name sorted is = absurd (none-some name is)
found_first (x ∷ xs) name sorted is =
    elim (is_stray_name x) as (λ b. is_stray_name x ≡ b → (if b then Some x else find is_stray_name xs) ≡ Some name → IsFirstFound (x ∷ xs) name) [
      | true ↦ λ stray here.
          let same : x ≡ name = same_Some x name here in
          subst (IsFirstFound (x ∷ xs)) same (record {
            there = Contains-head x xs;
            stray = stray;
            first = λ other there also less. ⊎_elim (λ (e : x ≡ other). turned x x (subst (λ (o : List ℕ). cmp o x ≡ Less) (sym e) less) (subst (λ (o : List ℕ). cmp o x ≡ Less) (sym e) less)) (λ later. turned x other (below_in x xs other sorted.0 later) less) (Contains-cases x xs other there);
          })
      | false ↦ λ quiet later.
          let rest = found_first xs name sorted.1 later in
          record {
            there = Contains-tail x xs name rest.there;
            stray = rest.stray;
            first = λ other there also less. ⊎_elim (λ (e : x ≡ other). false≢true (sym quiet ∙ ap is_stray_name e ∙ also)) (λ behind. rest.first other behind also less) (Contains-cases x xs other there);
          }
    ] refl is

found_none : (names : List (List ℕ)) → find is_stray_name names ≡ None → (name : List ℕ) → Contains names name → is_stray_name name ≡ false
found_none [] is name there = absurd (Contains-none name there)
found_none (x ∷ xs) is name there =
    elim (is_stray_name x) as (λ b. is_stray_name x ≡ b → (if b then Some x else find is_stray_name xs) ≡ None → is_stray_name name ≡ false) [
      | true ↦ λ stray here. absurd (none-some x (sym here))
      | false ↦ λ quiet later. ⊎_elim (λ (e : x ≡ name). ap is_stray_name (sym e) ∙ quiet) (λ behind. found_none xs later name behind) (Contains-cases x xs name there)
    ] refl is

-- ---- the folder

module _ (files : Files) (names : List (List ℕ)) (lists : ListsFolder files log_folder names) (none : (w : ℕ) → ¬ IsNamed names w) where
  no_version : (w : ℕ) → ¬ HasVersion files w
  no_version w has = none w (held_named files names lists w has)

  pub absent_here : find is_stray_name names ≡ None → IsAbsent files
  absent_here is = record {
    versions = no_version;
    names = λ name proper there. leftover_by name (not-false (is_leftover_name name) (found_none names is name ((lists.members name).1 (proper, there))));
  }

  pub stray_here : (name : List ℕ) → find is_stray_name names ≡ Some name → IsFirstStray files (path_of name)
  stray_here name is =
      let found = found_first names name lists.sorted is in
      let there = (lists.members name).0 found.there in
      record {
        versions = no_version;
        name = name;
        is = refl;
        stray = record { proper = there.0; there = there.1; other = λ leftover. never_both (is_leftover_name name) found.stray (leftover_test name leftover) };
        first = λ other stray less. found.first other ((lists.members other).1 (stray.proper, stray.there)) (not_by (is_leftover_name other) (λ test. stray.other (leftover_by other test))) less;
      }

  -- what is told of a folder without a version
  pub unpublished_here : (source : Kind) (P : DeltaKept → Type 0) (seen : Seen DeltaKept) → IsSeenIn names seen → IsSeen (Reads files) (IsForeign source files) view_of P source seen
  unpublished_here source P Absent is = inl (absent_here is, refl)
  unpublished_here source P (Ours kept) is = absurd is
  unpublished_here source P (Foreign path) is = inl (subst (IsFirstStray files) (sym is.2) (stray_here is.0 is.1))

-- the newest version that the names of the folder name
pub newest_here : (files : Files) (names : List (List ℕ)) → ListsFolder files log_folder names → (versions : Versions) → AreVersions (IsNamed names) versions → IsNewest files versions.newest
newest_here files names lists versions are = record {
  there = named_held files names lists versions.newest are.there;
  last = λ other has. are.last other (held_named files names lists other has);
}

-- whether a version is there, by the names of the folder
pub version_here : (files : Files) (names : List (List ℕ)) → ListsFolder files log_folder names → (version : ℕ) (there : Bool) → IsTrue there ↔ IsNamed names version → IsTrue there ↔ HasVersion files version
version_here files names lists version there is = (λ yes. named_held files names lists version (is.0 yes), λ has. is.1 (held_named files names lists version has))
