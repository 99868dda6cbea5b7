-- Runs of neighbours, objects of arrays, and what the text of an instant is read back as.
use Rattle.std.proofs.Common.{◌≡◌, ℕ, suc, ◌+◌, ◌<◌, ◌≤◌, List, [], ◌∷◌, ◌++◌, length, get_or, length-drop, take, drop, map, Option, Some, None, nat_le, Bool, true, false, cond, Ok, Ordering, Less, Equal, Greater, refl, sym, ap, subst, ◌∙◌, append_assoc, arith, nat_cmp, is_eq}
use Rattle.std.specs.Prelude.{codes, flat_map, All}
use Rattle.std.specs.Cmp.Lexicographic.{slice_cmp}
use Rattle.std.specs.List.{AllByRecursion, prefix_len}
use Rattle.std.specs.List.Sorted.{IsSorted}
use Rattle.std.specs.Ordering.{ordering_then, ordering_reverse, is_lt}
use Rattle.std.specs.Str.{bytes_eq}
use Rattle.std.proofs.lemmas.Bool.{true≢false}
use Rattle.std.proofs.lemmas.Cmp.{nat_list_cmp_total}
use Rattle.std.proofs.lemmas.Grind.{common_steps}
use Rattle.std.proofs.lemmas.List.{append-nil}
use Rattle.std.proofs.lemmas.Map.Text.{is_eq-slice_cmp}
use Rattle.std.proofs.lemmas.Slice.Eq.{bytes_eq-Decides}
use Rattle.serde_json.specs.Data.{Data, array, Members, no_members, member, put}
use Rattle.serde_json.specs.View.{items_of}
use Rattle.json_reading.specs.Json.{json, items, pairs, members_with}
use Rattle.lake_basics.specs.declared.limits.TheConstants.{MAX_ACTIONS}
use Rattle.lake_basics.proofs.Numbers.{natural_test}
use Rattle.lake_basics.proofs.Texts.{IsBelow, above}
use Rattle.hudi_instant.specs.declared.instant.Instant.{Instant}
use Rattle.hudi_instant.specs.declared.instant.Stat.{Stat}
use Rattle.hudi_instant.proofs.PathForms.{is_path_of_any_length-true}
use Rattle.hudi_instant.specs.Instants.{stat, with_stats, with_partitions, with_ids, with_replaced, extra_text, instant, json_instant}
use Rattle.hudi_instant.specs.InstantGrammar.{mark_in}
use Rattle.hudi_instant.specs.InstantText.{stat_data, onto_group, runs_by, arrays_by, partition_of, replaced_partition, id_data, extra_data, instant_data, stat_cmp, replaced_cmp, IsSoundStat, IsWritable}

-- ---- runs

module _ {A : Type 0} (key : A → List ℕ) where
  runs_joined_by : (r : Bool) (a : A) (g : List ℕ × List A) (gs : List (List ℕ × List A)) → flat_map (λ g. g.1) (cond r ((key a, a ∷ g.1) ∷ gs) ((key a, a ∷ []) ∷ g ∷ gs)) ≡ a ∷ flat_map (λ g. g.1) (g ∷ gs)
  runs_joined_by true a g gs = refl
  runs_joined_by false a g gs = refl

  joined_onto : (a : A) (gs : List (List ℕ × List A)) → flat_map (λ g. g.1) (onto_group (key a) a gs) ≡ a ∷ flat_map (λ g. g.1) gs
  joined_onto a [] = refl
  joined_onto a (g ∷ gs) = runs_joined_by (bytes_eq (key a) g.0) a g gs

  -- the runs joined are the list
  pub runs_joined : (xs : List A) → flat_map (λ g. g.1) (runs_by key xs) ≡ xs
  runs_joined [] = refl
  runs_joined (a ∷ xs) = joined_onto a (runs_by key xs) ∙ ap (λ l. a ∷ l) (runs_joined xs)

  same_key : (x y : List ℕ) → bytes_eq x y ≡ true → x ≡ y
  same_key x y is = (bytes_eq-Decides x y).0 is

  reflexive : (x : List ℕ) → bytes_eq x x ≡ true
  reflexive x = (bytes_eq-Decides x x).1 refl

  other_by : (r : Bool) (x y : List ℕ) → bytes_eq y x ≡ r → bytes_eq x y ≡ false → r ≡ false
  other_by true x y is no_match = absurd (true≢false (sym ((bytes_eq-Decides x y).1 (sym (same_key y x is))) ∙ no_match))
  other_by false x y is no_match = refl

  other_way : (x y : List ℕ) → bytes_eq x y ≡ false → bytes_eq y x ≡ false
  other_way x y no_match = other_by (bytes_eq y x) x y refl no_match

  -- how many more there are of the first one's run
  abbrev pub len_behind : List ℕ → List A → ℕ
  len_behind k xs = prefix_len (λ b. bytes_eq (key b) k) xs

  len_same : (k : List ℕ) (b : A) (bs : List A) → k ≡ key b → len_behind k (b ∷ bs) ≡ suc (len_behind (key b) bs)
  len_same k b bs same = ap (λ l. len_behind l (b ∷ bs)) same ∙ rw (reflexive (key b)) (omega arith)

  len_other : (k : List ℕ) (b : A) (bs : List A) → bytes_eq (key b) k ≡ false → len_behind k (b ∷ bs) ≡ 0
  len_other k b bs other = rw other

  first_by : (r : Bool) (a b : A) (bs : List A) → bytes_eq (key a) (key b) ≡ r → runs_by key (b ∷ bs) ≡ (key b, b ∷ take (len_behind (key b) bs) bs) ∷ runs_by key (drop (len_behind (key b) bs) bs)
      → runs_by key (a ∷ b ∷ bs) ≡ (key a, a ∷ take (len_behind (key a) (b ∷ bs)) (b ∷ bs)) ∷ runs_by key (drop (len_behind (key a) (b ∷ bs)) (b ∷ bs))
  first_by true a b bs is later =
      ap (onto_group (key a) a) later ∙ rw is (sym (ap (λ n. (key a, a ∷ take n (b ∷ bs)) ∷ runs_by key (drop n (b ∷ bs))) (len_same (key a) b bs (same_key (key a) (key b) is))))
  first_by false a b bs is later =
      ap (onto_group (key a) a) later ∙ rw is (ap (λ gs. (key a, a ∷ []) ∷ gs) (sym later))
      ∙ sym (ap (λ n. (key a, a ∷ take n (b ∷ bs)) ∷ runs_by key (drop n (b ∷ bs))) (len_other (key a) b bs (other_way (key a) (key b) is)))

  -- a list begins with the run of its first key
  pub first_run : (a : A) (xs : List A) → runs_by key (a ∷ xs) ≡ (key a, a ∷ take (len_behind (key a) xs) xs) ∷ runs_by key (drop (len_behind (key a) xs) xs)
  first_run a [] = refl
  first_run a (b ∷ bs) = first_by (bytes_eq (key a) (key b)) a b bs refl (first_run b bs)

  whole_len : (a : A) (xs : List A) (k : List ℕ) → k ≡ key a → len_behind k (a ∷ xs) ≡ suc (len_behind (key a) xs)
  whole_len a xs k same = len_same k a xs same

  pub run_split : (xs : List A) (first : A) (k : List ℕ) (n : ℕ) (run behind : List A) → 0 < length xs → first ≡ get_or xs 0 first → k ≡ key first → n ≡ len_behind k xs → run ≡ take n xs → behind ≡ drop n xs
      → (runs_by key xs ≡ (k, run) ∷ runs_by key behind) × (length behind < length xs)
  run_split [] first k n run behind some at named is front back = absurd (omega (arith, some))
  run_split (a ∷ xs) first k n run behind some at named is front back =
      let same : k ≡ key a = named ∙ ap key at in
      let len : n ≡ suc (len_behind (key a) xs) = is ∙ whole_len a xs k same in
      let front_is : run ≡ a ∷ take (len_behind (key a) xs) xs = front ∙ ap (λ m. take m (a ∷ xs)) len in
      let back_is : behind ≡ drop (len_behind (key a) xs) xs = back ∙ ap (λ m. drop m (a ∷ xs)) len in (
        first_run a xs ∙ (λ i. (sym same i, sym front_is i) ∷ runs_by key (sym back_is i)),
        omega (arith, ap length back_is, length-drop (len_behind (key a) xs) xs),
      )

  -- ---- in order

  -- no key is below the one before it
  abbrev pub Rises : List A → Type 0
  Rises [] = Unit {0}
  Rises (a ∷ []) = Unit {0}
  Rises (a ∷ b ∷ bs) = (is_lt (slice_cmp nat_cmp (key b) (key a)) ≡ false) × Rises (b ∷ bs)

  pub rises_from : (cmp : A → A → Ordering) (xs : List A) → ((x y : A) → is_lt (cmp x y) ≡ false → is_lt (slice_cmp nat_cmp (key x) (key y)) ≡ false) → IsSorted cmp xs → Rises xs
  rises_from cmp [] first sorted = tt
  rises_from cmp (a ∷ []) first sorted = tt
  rises_from cmp (a ∷ b ∷ bs) first sorted = (
    first b a (sorted 0 a (omega arith) (omega arith)),
    rises_from cmp (b ∷ bs) first
        (λ k d low within.
        let more : suc k + 1 ≡ suc (k + 1) = omega arith in
        subst (λ (n : ℕ). is_lt (cmp (get_or (a ∷ b ∷ bs) n d) (get_or (b ∷ bs) k d)) ≡ false) more (sorted (suc k) d (omega arith) (omega (arith, within)))),
  )

-- each key is below all later ones
abbrev pub Ascends : {B : Type 0} → List (List ℕ × B) → Type 0
Ascends [] = Unit {0}
Ascends (g ∷ gs) = AllByRecursion (λ h. IsBelow g.0 h.0) gs × Ascends gs

below_by : (o : Ordering) → is_lt o ≡ false → is_eq o ≡ false → ordering_reverse o ≡ Less
below_by Less late apart = absurd (cc)
below_by Equal late apart = absurd (cc)
below_by Greater late apart = refl

below_from : (k l : List ℕ) → is_lt (slice_cmp nat_cmp l k) ≡ false → bytes_eq l k ≡ false → IsBelow k l
below_from k l late apart = nat_list_cmp_total.antisymm k l ∙ below_by (slice_cmp nat_cmp l k) late (is_eq-slice_cmp l k ∙ apart)

below_all : {B : Type 0} (k l : List ℕ) (gs : List (List ℕ × B)) → IsBelow k l → AllByRecursion (λ h. IsBelow l h.0) gs → AllByRecursion (λ h. IsBelow k h.0) gs
below_all k l [] h all = tt
below_all k l (g ∷ gs) h all = (nat_list_cmp_total.trans k l g.0 h all.0, below_all k l gs h all.1)

module _ {A : Type 0} (key : A → List ℕ) where
  ascend_by : (r : Bool) (a b : A) (ys : List A) (gs : List (List ℕ × List A)) → bytes_eq (key a) (key b) ≡ r → is_lt (slice_cmp nat_cmp (key b) (key a)) ≡ false → Ascends ((key b, ys) ∷ gs) → Ascends (onto_group (key a) a ((key b, ys) ∷ gs))
  ascend_by true a b ys gs is late h =
      let same : key a ≡ key b = (bytes_eq-Decides (key a) (key b)).0 is in
      rw is (subst (λ (k : List ℕ). AllByRecursion (λ h. IsBelow k h.0) gs) (sym same) h.0, h.1)
  ascend_by false a b ys gs is late h =
      let first : IsBelow (key a) (key b) = below_from (key a) (key b) late (other_way key (key a) (key b) is) in rw is ((first, below_all (key a) (key b) gs first h.0), h)

  pub runs_ascend : (xs : List A) → Rises key xs → Ascends (runs_by key xs)
  runs_ascend [] h = tt
  runs_ascend (a ∷ []) h = (tt, tt)
  runs_ascend (a ∷ b ∷ bs) h =
      let later = subst Ascends (first_run key b bs) (runs_ascend (b ∷ bs) h.1) in
      subst (λ (gs : List (List ℕ × List A)). Ascends (onto_group (key a) a gs)) (sym (first_run key b bs)) (ascend_by (bytes_eq (key a) (key b)) a b _ _ refl h.0 later)

-- ---- members put in at the end

abbrev AllBelow : List (List ℕ × Data) → List ℕ → Type 0
AllBelow ps k = AllByRecursion (λ p. IsBelow p.0 k) ps

put_last : (k : List ℕ) (d : Data) (ms : Members) → AllBelow (pairs ms) k → pairs (put k d ms) ≡ pairs ms ++ (k, d) ∷ []
put_last k d no_members h = refl
put_last k d (member l e ms) h = rw (above l k h.0) (ap (λ ps. (l, e) ∷ ps) (put_last k d ms h.1))

below_push : (ps : List (List ℕ × Data)) (k l : List ℕ) (d : Data) → AllBelow ps l → IsBelow k l → AllBelow (ps ++ (k, d) ∷ []) l
below_push [] k l d h last = (last, tt)
below_push (p ∷ ps) k l d h last = (h.0, below_push ps k l d h.1 last)

below_more : {B : Type 0} (ps qs : List (List ℕ × Data)) (k : List ℕ) (d : Data) (gs : List (List ℕ × B)) → qs ≡ ps ++ (k, d) ∷ [] → AllByRecursion (λ h. AllBelow ps h.0) gs → AllByRecursion (λ h. IsBelow k h.0) gs → AllByRecursion (λ h. AllBelow qs h.0) gs
below_more ps qs k d [] is all last = tt
below_more ps qs k d (g ∷ gs) is all last =
    (subst (λ (rs : List (List ℕ × Data)). AllBelow rs g.0) (sym is) (below_push ps k g.0 d all.0 last.0), below_more ps qs k d gs is all.1 last.1)

members_again : {B : Type 0} (shown : B → Data) (gs : List (List ℕ × B)) (ms : Members) → Ascends gs → AllByRecursion (λ h. AllBelow (pairs ms) h.0) gs → pairs (members_with shown gs ms) ≡ pairs ms ++ map (λ h. (h.0, shown h.1)) gs
members_again shown [] ms rising over = sym (append-nil (pairs ms))
members_again shown (g ∷ gs) ms rising over =
    let last = put_last g.0 (shown g.1) ms over.0 in
    members_again shown gs (put g.0 (shown g.1) ms) rising.1 (below_more (pairs ms) _ g.0 (shown g.1) gs last over.1 rising.0)
    ∙ ap (λ ps. ps ++ map (λ h. (h.0, shown h.1)) gs) last ∙ append_assoc (pairs ms) ((g.0, shown g.1) ∷ []) (map (λ h. (h.0, shown h.1)) gs)

none_below : {B : Type 0} (gs : List (List ℕ × B)) → AllByRecursion (λ h. AllBelow [] h.0) gs
none_below [] = tt
none_below (g ∷ gs) = (tt, none_below gs)

pub members_of_runs : {B : Type 0} (shown : B → Data) (gs : List (List ℕ × B)) → Ascends gs → pairs (members_with shown gs no_members) ≡ map (λ h. (h.0, shown h.1)) gs
members_of_runs shown gs rising = members_again shown gs no_members rising (none_below gs)

-- ---- read again

pub all_rec : {B : Type 0} (P : B → Type 0) (bs : List B) → All P bs → AllByRecursion P bs
all_rec P [] h = tt
all_rec P (b ∷ bs) h = (h 0 b (omega arith), all_rec P bs (λ k d within. h (suc k) d (omega (arith, within))))

pub all_front : {B : Type 0} (P : B → Type 0) (xs ys : List B) → AllByRecursion P (xs ++ ys) → AllByRecursion P xs × AllByRecursion P ys
all_front P [] ys h = (tt, h)
all_front P (x ∷ xs) ys h = let rest = all_front P xs ys h.1 in ((h.0, rest.0), rest.1)

stat_again : (s : Stat) → IsSoundStat s → stat (stat_data s) ≡ Ok (Some s)
unfolding stat
stat_again s h = rw (is_path_of_any_length-true s.path h.path, natural_test s.writes h.writes, natural_test s.writes h.writes, natural_test s.size h.size, natural_test s.size h.size)

stats_again : (found ss : List Stat) → AllByRecursion IsSoundStat ss → with_stats found (items (items_of (map stat_data ss))) ≡ Ok (found ++ ss)
stats_again found [] h = ap Ok (sym (append-nil found))
stats_again found (s ∷ ss) h = rw (stat_again s h.0) (stats_again (found ++ s ∷ []) ss h.1 ∙ ap Ok (append_assoc found (s ∷ []) ss))

partitions_again : (found : List Stat) (gs : List (List ℕ × List Stat)) → AllByRecursion IsSoundStat (flat_map (λ g. g.1) gs)
    → with_partitions found (map (λ g. (g.0, array (items_of (map stat_data g.1)))) gs) ≡ Ok (found ++ flat_map (λ g. g.1) gs)
partitions_again found [] h = ap Ok (sym (append-nil found))
partitions_again found (g ∷ gs) h =
    let parts = all_front IsSoundStat g.1 (flat_map (λ g. g.1) gs) h in
    rw (stats_again found g.1 parts.0) (partitions_again (found ++ g.1) gs parts.1 ∙ ap Ok (append_assoc found g.1 (flat_map (λ g. g.1) gs)))

-- each id stands under the partition of its run
abbrev AreUnder : List ℕ → List (List ℕ × List ℕ) → Type 0
AreUnder k ps = AllByRecursion (λ p. p.0 ≡ k) ps

ids_again : (found ps : List (List ℕ × List ℕ)) (k : List ℕ) → AreUnder k ps → with_ids found k (items (items_of (map id_data ps))) ≡ Ok (found ++ ps)
ids_again found [] k h = ap Ok (sym (append-nil found))
ids_again found (p ∷ ps) k h =
    ids_again (found ++ (k, p.1) ∷ []) ps k h.1 ∙ ap Ok (append_assoc found ((k, p.1) ∷ []) ps ∙ ap (λ l. found ++ (l, p.1) ∷ ps) (sym h.0))

under_by : (r : Bool) (p : List ℕ × List ℕ) (g : List ℕ × List (List ℕ × List ℕ)) (gs : List (List ℕ × List (List ℕ × List ℕ))) → bytes_eq p.0 g.0 ≡ r → AllByRecursion (λ g. AreUnder g.0 g.1) (g ∷ gs) → AllByRecursion (λ g. AreUnder g.0 g.1) (onto_group p.0 p (g ∷ gs))
under_by true p g gs is h = let same : p.0 ≡ g.0 = (bytes_eq-Decides p.0 g.0).0 is in rw is ((refl, subst (λ (k : List ℕ). AreUnder k g.1) (sym same) h.0), h.1)
under_by false p g gs is h = rw is ((refl, tt), h)

under_onto : (p : List ℕ × List ℕ) (gs : List (List ℕ × List (List ℕ × List ℕ))) → AllByRecursion (λ g. AreUnder g.0 g.1) gs → AllByRecursion (λ g. AreUnder g.0 g.1) (onto_group p.0 p gs)
under_onto p [] h = ((refl, tt), tt)
under_onto p (g ∷ gs) h = under_by (bytes_eq p.0 g.0) p g gs refl h

runs_under : (ps : List (List ℕ × List ℕ)) → AllByRecursion (λ g. AreUnder g.0 g.1) (runs_by replaced_partition ps)
runs_under [] = tt
runs_under (p ∷ ps) = under_onto p (runs_by replaced_partition ps) (runs_under ps)

replaced_again : (found : List (List ℕ × List ℕ)) (gs : List (List ℕ × List (List ℕ × List ℕ))) → AllByRecursion (λ g. AreUnder g.0 g.1) gs
    → with_replaced found (map (λ g. (g.0, array (items_of (map id_data g.1)))) gs) ≡ Ok (found ++ flat_map (λ g. g.1) gs)
replaced_again found [] h = ap Ok (sym (append-nil found))
replaced_again found (g ∷ gs) h =
    rw (ids_again found g.1 g.0 h.0) (replaced_again (found ++ g.1) gs h.1 ∙ ap Ok (append_assoc found g.1 (flat_map (λ g. g.1) gs)))

first_of_two : (a b : Ordering) → is_lt (ordering_then a b) ≡ false → is_lt a ≡ false
first_of_two Less b h = h
first_of_two Equal b h = refl
first_of_two Greater b h = refl

pub stat_order : (x y : Stat) → is_lt (stat_cmp x y) ≡ false → is_lt (slice_cmp nat_cmp x.partition_path y.partition_path) ≡ false
stat_order x y h = first_of_two (slice_cmp nat_cmp x.partition_path y.partition_path) (slice_cmp nat_cmp x.path y.path) h

pub id_order : (x y : List ℕ × List ℕ) → is_lt (replaced_cmp x y) ≡ false → is_lt (slice_cmp nat_cmp x.0 y.0) ≡ false
id_order x y h = first_of_two (slice_cmp nat_cmp x.0 y.0) (slice_cmp nat_cmp x.1 y.1) h

all_stats_again : (ss : List Stat) → All IsSoundStat ss → IsSorted stat_cmp ss → with_partitions [] (pairs (arrays_by partition_of stat_data ss no_members)) ≡ Ok ss
all_stats_again ss sound sorted =
    let rising = runs_ascend partition_of ss (rises_from partition_of stat_cmp ss stat_order sorted) in
    let joined = runs_joined partition_of ss in
    ap (with_partitions []) (members_of_runs (λ run. array (items_of (map stat_data run))) (runs_by partition_of ss) rising)
    ∙ partitions_again [] (runs_by partition_of ss) (subst (AllByRecursion IsSoundStat) (sym joined) (all_rec IsSoundStat ss sound)) ∙ ap Ok joined

all_ids_again : (ps : List (List ℕ × List ℕ)) → IsSorted replaced_cmp ps → with_replaced [] (pairs (arrays_by replaced_partition id_data ps no_members)) ≡ Ok ps
all_ids_again ps sorted =
    let rising = runs_ascend replaced_partition ps (rises_from replaced_partition replaced_cmp ps id_order sorted) in
    ap (with_replaced []) (members_of_runs (λ run. array (items_of (map id_data run))) (runs_by replaced_partition ps) rising)
    ∙ replaced_again [] (runs_by replaced_partition ps) (runs_under ps) ∙ ap Ok (runs_joined replaced_partition ps)

schema_again : (mark schema : Option (List ℕ)) → extra_text (Some (extra_data mark schema)) (codes "schema") ≡ Ok schema
schema_again None None = refl
schema_again None (Some s) = refl
schema_again (Some m) None = refl
schema_again (Some m) (Some s) = refl

mark_again : (mark schema : Option (List ℕ)) → mark_in (Some (extra_data mark schema)) ≡ mark
mark_again None None = refl
mark_again None (Some s) = refl
mark_again (Some m) None = refl
mark_again (Some m) (Some s) = refl

-- what is written for an instant reads as it
pub instant_again : (i : Instant) → IsWritable i → instant (instant_data i) ≡ Ok i
unfolding instant
instant_again i h =
    rw (all_stats_again i.stats h.sound.stats h.stats, all_ids_again i.replaced h.replaced, schema_again i.mark i.schema, mark_again i.mark i.schema)

few : (i : Instant) → length i.stats + length i.replaced ≤ MAX_ACTIONS → nat_le (length i.stats + length i.replaced) MAX_ACTIONS ≡ true
few i h = grind (arith, common_steps)

-- bytes that are the JSON of an instant read as it
pub text_again : (bytes : List ℕ) (i : Instant) → json bytes ≡ Some (instant_data i) → IsWritable i → json_instant bytes ≡ Ok i
unfolding json_instant
text_again bytes i is h = rw (is, instant_again i h, few i h.sound.few)
