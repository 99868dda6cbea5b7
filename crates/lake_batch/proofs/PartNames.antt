-- The names of a folder of a part are those of that folder in the whole.
use Rattle.std.proofs.Common.{◌≡◌, ℕ, ◌==◌, Bool, true, false, ◌&&◌, T, List, [], ◌∷◌, ◌++◌, map, filter_map, refl, sym, ◌∙◌, ap, subst, append_assoc, option_and_then, if◌then◌else◌}
use Rattle.std.specs.Prelude.{Option, Some, None}
use Rattle.std.specs.Option.{option_map}
use Rattle.std.specs.List.{cons_option}
use Rattle.std.specs.Ordering.{nat_cmp, is_lt}
use Rattle.std.specs.Cmp.Lexicographic.{slice_cmp, nat_list_cmp_total}
use Rattle.std.specs.FinMap as fin
use Rattle.std.specs.FinMap.Entries.{below_all, is_sorted}
use Rattle.std.specs.declared.cmp.Ordering.{Ordering}
use Rattle.std.proofs.lemmas.List.{append-nil}
use Rattle.lake_store.specs.Disk.{Files, behind, front_of, is_name, name_behind, names_in}
use Rattle.lake_store.proofs.NameLaws.{behind_splits}
use Rattle.lake_store.proofs.OrderLaws.{same_front}
use Rattle.source_core.proofs.Files.{same_files}
use Rattle.lake_batch.specs.Part.{folder_in, part_files}
use Rattle.lake_batch.specs.PartAt.{taken}
use Rattle.lake_basics.proofs.Truth.{T_left, T_right}

abbrev Entry : Type 0
Entry = List ℕ × List ℕ

abbrev cmp : List ℕ → List ℕ → Ordering
cmp = slice_cmp nat_cmp

and_both : (a b : Bool) → T a → T b → T (a && b)
and_both true b p q = q
and_both false b p q = p

module _ (front : List ℕ) where
  abbrev take_behind : Entry → Option Entry
  take_behind = taken front

  below : (path rest : List ℕ) (es : List Entry) → path ≡ front ++ rest → T (below_all cmp path es) → T (below_all cmp rest (filter_map take_behind es))
  below path rest [] is all = tt
  below path rest (e ∷ es) is all =
      let more = below path rest es is (T_right (is_lt (cmp path e.0)) (below_all cmp path es) all) in
      elim (behind front e.0) as (λ o. behind front e.0 ≡ o → T (below_all cmp rest (cons_option (option_map (λ r. (r, e.1)) o) (filter_map take_behind es)))) [
        | None ↦ λ none. more
        | Some r ↦ λ some. and_both (is_lt (cmp rest r)) (below_all cmp rest (filter_map take_behind es))
            (subst T (ap is_lt ((λ i. cmp (is i) (behind_splits front e.0 r some i)) ∙ same_front front rest r)) (T_left (is_lt (cmp path e.0)) (below_all cmp path es) all)) more
      ] refl

  taken_sorted : (es : List Entry) → T (is_sorted cmp es) → T (is_sorted cmp (filter_map take_behind es))
  taken_sorted [] sorted = tt
  taken_sorted (e ∷ es) sorted =
      let more = taken_sorted es (T_right (below_all cmp e.0 es) (is_sorted cmp es) sorted) in
      elim (behind front e.0) as (λ o. behind front e.0 ≡ o → T (is_sorted cmp (cons_option (option_map (λ r. (r, e.1)) o) (filter_map take_behind es)))) [
        | None ↦ λ none. more
        | Some r ↦ λ some. and_both (below_all cmp r (filter_map take_behind es)) (is_sorted cmp (filter_map take_behind es))
            (below e.0 r es (behind_splits front e.0 r some) (T_left (below_all cmp e.0 es) (is_sorted cmp es) sorted)) more
      ] refl

  taken_keys : (es : List Entry) → map (λ (e : Entry). e.0) (filter_map take_behind es) ≡ filter_map (behind front) (map (λ (e : Entry). e.0) es)
  taken_keys [] = refl
  taken_keys (e ∷ es) =
      let more = taken_keys es in
      elim (behind front e.0) as (λ o. map (λ (x : Entry). x.0) (cons_option (option_map (λ r. (r, e.1)) o) (filter_map take_behind es)) ≡ cons_option o (filter_map (behind front) (map (λ (x : Entry). x.0) es))) [
        | None ↦ more
        | Some r ↦ ap (λ l. r ∷ l) more
      ]

-- behind two fronts
same_test : (b : Bool) {X : Type 0} (f : X → Option (List ℕ)) (o : Option X) → (if b then option_and_then f o else None) ≡ option_and_then f (if b then o else None)
same_test true f o = refl
same_test false f o = refl

behind_both : (front more text : List ℕ) → behind (front ++ more) text ≡ option_and_then (behind more) (behind front text)
behind_both [] more text = refl
behind_both (c ∷ front) more [] = refl
behind_both (c ∷ front) more (d ∷ text) = ap (λ o. if c == d then o else None) (behind_both front more text) ∙ same_test (c == d) (behind more) (behind front text)

abbrev tested : List ℕ → Option (List ℕ)
tested name = if is_name name then Some name else None

named_in : (front more : List ℕ) (o : Option (List ℕ)) → option_and_then tested (option_and_then (behind more) o) ≡ option_and_then (name_behind more) o
named_in front more None = refl
named_in front more (Some rest) = refl

named_both : (front more text : List ℕ) → name_behind (front ++ more) text ≡ option_and_then (name_behind more) (behind front text)
named_both front more text = ap (option_and_then tested) (behind_both front more text) ∙ named_in front more (behind front text)

one_named : (front more : List ℕ) (o : Option (List ℕ)) (rest all : List (List ℕ)) → filter_map (name_behind more) rest ≡ all → filter_map (name_behind more) (cons_option o rest) ≡ cons_option (option_and_then (name_behind more) o) all
one_named front more None rest all so_far = so_far
one_named front more (Some name) rest all so_far = ap (cons_option (name_behind more name)) so_far

all_named : (front more : List ℕ) (ks : List (List ℕ)) → filter_map (name_behind more) (filter_map (behind front) ks) ≡ filter_map (name_behind (front ++ more)) ks
all_named front more [] = refl
all_named front more (k ∷ ks) =
    one_named front more (behind front k) (filter_map (behind front) ks) (filter_map (name_behind (front ++ more)) ks) (all_named front more ks)
    ∙ ap (λ o. cons_option o (filter_map (name_behind (front ++ more)) ks)) (sym (named_both front more k))

-- the front of a folder of the part
slashed : (front : List ℕ) (c : ℕ) (inner : List ℕ) → front_of (front ++ c ∷ inner) ≡ (front ++ c ∷ inner) ++ 47 ∷ []
slashed [] c inner = refl
slashed (b ∷ front) c inner = refl

front_in : (folder inner : List ℕ) → front_of (folder_in folder inner) ≡ front_of folder ++ front_of inner
front_in folder [] = sym (append-nil (front_of folder))
front_in folder (c ∷ inner) = slashed (front_of folder) c inner ∙ append_assoc (front_of folder) (c ∷ inner) (47 ∷ [])

part_keys : (folder : List ℕ) (files : Files) → fin.keys (part_files folder files) ≡ filter_map (behind (front_of folder)) (fin.keys files)
unfolding part_files
part_keys folder files =
    let es = filter_map (taken (front_of folder)) (fin.entries files) in
    let sorted : T (is_sorted cmp es) = taken_sorted (front_of folder) (fin.entries files) (fin.entries_sorted files) in
    let same : part_files folder files ≡ fin.from_sorted es = same_files _ _ (λ q. fin.get-from_entries nat_list_cmp_total es q ∙ sym (fin.get-from_sorted cmp es q sorted)) in
    ap fin.keys same ∙ ap (map (λ (e : Entry). e.0)) (fin.entries-from_sorted cmp es sorted) ∙ taken_keys (front_of folder) (fin.entries files)

pub names_in_part : (folder : List ℕ) (files : Files) (inner : List ℕ) → names_in (part_files folder files) inner ≡ names_in files (folder_in folder inner)
names_in_part folder files inner =
    ap (filter_map (name_behind (front_of inner))) (part_keys folder files) ∙ all_named (front_of folder) (front_of inner) (fin.keys files)
    ∙ ap (λ f. filter_map (name_behind f) (fin.keys files)) (sym (front_in folder inner))
