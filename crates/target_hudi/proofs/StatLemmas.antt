-- The write stats of rows.
use Rattle.std.proofs.Common.{◌≡◌, ⊎_elim, ℕ, ◌+◌, ◌-◌, ◌^◌, ◌<◌, ◌≤◌, ◌==◌, not, Bool, true, false, List, [], ◌∷◌, ◌++◌, length, get_or, take, drop, map, All, Contains, None, sym, ap, subst, ◌∙◌, arith}
use Rattle.std.specs.Prelude.{◌↔◌, ◌≢◌, IfOk, Result, Ok, Err, codes}
use Rattle.std.specs.List.{AllByRecursion, IsDistinct, suffix_len}
use Rattle.std.specs.Str.{bytes_eq}
use Rattle.std.specs.Str.Pattern.{RFindsChar, SplitsAroundMatch}
use Rattle.std.proofs.lemmas.Bool.{cases_Bool, eqb-true}
use Rattle.std.proofs.lemmas.Str.{len_utf8_ascii}
use Rattle.std.proofs.lemmas.Str.Pattern.{NoCharPasses-char}
use Rattle.std.proofs.lemmas.List.{append_assoc, append_cancel_right, get_or-drop, length-drop, map_more}
use Rattle.std.proofs.lemmas.List.Sums.{suffix_len_is}
use Rattle.std.proofs.lemmas.Map.Keys.{IsDistinct-cons, IsDistinct-head, IsDistinct-tail}
use Rattle.std.proofs.lemmas.Slice.Eq.{bytes_eq-Decides}
use Rattle.std.proofs.lemmas.List.Elements.{All-cons, All-contains, All-nil}
use Rattle.hudi_names.specs.Time.{IsDigits}
use Rattle.hudi_instant.specs.InstantText.{IsSoundStat}
use Rattle.table_history.specs.Path.{IsPath, IsPathOfAnyLength}
use Rattle.target_hudi.proofs.PathLemmas.{external_more, path_more}
use Rattle.table_history.specs.Row.{Row}
use Rattle.table_history.specs.Rows.{HasDistinctPaths, paths_of}
use Rattle.table_history.proofs.RowListLemmas.{Contains-cases, Contains-head, Contains-none, Contains-tail}
use Rattle.hudi_groups.specs.Group.{file_name_of, folder_of}
use Rattle.hudi_instant.specs.declared.instant.Stat.{Stat}
use Rattle.target_hudi.specs.Writing.{stat_of}
use Rattle.target_hudi.proofs.OrderLemmas.{untied}

-- ---- the folder and the name

abbrev plain : ℕ → Bool
plain b = not (b == 47)

plain_byte : (b : ℕ) → b ≢ 47 → plain b ≡ true
plain_byte b apart = ⊎_elim (λ is. absurd (apart (eqb-true b 47 is))) (λ is. ap not is) (cases_Bool (b == 47))

module _ (path : List ℕ) where
  behind : (i : ℕ) → i < length path → get_or path i 0 ≡ 47 → ((k : ℕ) → i < k → k < length path → get_or path k 0 ≢ 47) → suffix_len plain path ≡ length path - (i + 1)
  behind i within slash none =
      suffix_len_is plain path (i + 1) 0 (omega (arith, within)) (λ k ge lt. plain_byte (get_or path k 0) (none k (omega (arith, ge)) lt)) (λ _.
      let at : i + 1 - 1 ≡ i = omega arith in
      ap (λ n. plain (get_or path n 0)) at ∙ ap plain slash)

  pub split_at : (i : ℕ) → i < length path → get_or path i 0 ≡ 47 → ((k : ℕ) → i < k → k < length path → get_or path k 0 ≢ 47) → (take i path ≡ folder_of path) × (drop (i + 1) path ≡ file_name_of path)
  split_at i within slash none =
      let len = behind i within slash none in
      let start : i + 1 ≡ length path - suffix_len plain path = omega (arith, len, within) in
      let end : i ≡ length path - suffix_len plain path - 1 = omega (arith, len, within) in
      (ap (λ n. take n path) end, ap (λ n. drop n path) start)

  pub whole : ((k : ℕ) → k < length path → get_or path k 0 ≢ 47) → ([] ≡ folder_of path) × (path ≡ file_name_of path)
  whole none =
      let len : suffix_len plain path ≡ length path - 0 = suffix_len_is plain path 0 0 (omega arith) (λ k _ lt. plain_byte (get_or path k 0) (none k lt)) (λ less. absurd (omega (arith, less))) in
      let start : 0 ≡ length path - suffix_len plain path = omega (arith, len) in
      let end : 0 ≡ length path - suffix_len plain path - 1 = omega (arith, len) in
      (ap (λ n. take n path) end, ap (λ n. drop n path) start)

  pub split_found : (front back : List ℕ) → SplitsAroundMatch (RFindsChar 47) path front back → (front ≡ folder_of path) × (back ≡ file_name_of path)
  split_found front back found =
      let i = found.0 in
      let j = found.1 in
      let low : 47 < 128 = omega arith in
      let next : j ≡ i + 1 = omega (arith, found.2.1.ends, len_utf8_ascii 47 low) in
      let within : i < length path = omega (arith, next, found.7) in
      let none : (k : ℕ) → i < k → k < length path → get_or path k 0 ≢ 47 = λ k above below e.
      let there : j + (k - j) ≡ k = omega (arith, next, above) in
      NoCharPasses-char 47 (drop j path) (k - j) found.2.0 low (omega (arith, length-drop j path, next, above, below)) (get_or-drop j path (k - j) 0 ∙ ap (λ n. get_or path n 0) there ∙ e) in
      let both = split_at i within (found.2.1.byte low) none in
      (found.3 ∙ both.0, found.4 ∙ ap (λ n. drop n path) next ∙ both.1)

  pub none_found : RFindsChar 47 path None → ([] ≡ folder_of path) × (path ≡ file_name_of path)
  none_found none = whole (λ k lt. NoCharPasses-char 47 path k none (omega arith) lt)

-- ---- the path of a stat

pub stat_path_is : (path instant text one two three word : List ℕ) → text ≡ path → one ≡ text ++ codes "_" → two ≡ one ++ word → three ≡ two ++ codes "_hudiext" → word ≡ instant → three ≡ path ++ (codes "_" ++ (instant ++ codes "_hudiext"))
stat_path_is path instant text one two three word same first second third is =
    third ∙ ap (λ l. l ++ codes "_hudiext") (second ∙ (λ i. (first ∙ ap (λ l. l ++ codes "_") same) i ++ is i))
    ∙ append_assoc (path ++ codes "_") instant (codes "_hudiext")
    ∙ append_assoc path (codes "_") (instant ++ codes "_hudiext")

-- ---- the stats of rows

module _ (instant : List ℕ) where
  abbrev suffix : List ℕ
  suffix = codes "_" ++ (instant ++ codes "_hudiext")

  pub stat_there : (rows : List Row) (row : Row) → Contains rows row → Contains (map (stat_of instant) rows) (stat_of instant row)
  stat_there [] row there = absurd (Contains-none row there)
  stat_there (r ∷ rows) row there =
      ⊎_elim
      (λ (here : r ≡ row). subst (λ (x : Row). Contains (map (stat_of instant) (r ∷ rows)) (stat_of instant x)) here (Contains-head (stat_of instant r) (map (stat_of instant) rows)))
      (λ later. Contains-tail (stat_of instant r) (map (stat_of instant) rows) (stat_of instant row) (stat_there rows row later))
      (Contains-cases r rows row there)

  pub stat_from : (rows : List Row) (s : Stat) → Contains (map (stat_of instant) rows) s → (row : Row) × Contains rows row × (s ≡ stat_of instant row)
  stat_from [] s there = absurd (Contains-none s there)
  stat_from (r ∷ rows) s there =
      ⊎_elim
      (λ (here : stat_of instant r ≡ s). (r, Contains-head r rows, sym here))
      (λ later. let found = stat_from rows s later in (found.0, Contains-tail r rows found.0 found.1, found.2))
      (Contains-cases (stat_of instant r) (map (stat_of instant) rows) s there)

  pub stats_by : {V E : Type 0} (rows : List Row) (stats : List Stat) → stats ≡ map (stat_of instant) rows → (items : V → List Stat) (r : Result V E)
      → IfOk r (λ v. (s : Stat) → Contains (items v) s ↔ Contains stats s) → IfOk r (λ v. (s : Stat) → Contains (items v) s ↔ ((row : Row) × Contains rows row × (s ≡ stat_of instant row)))
  stats_by rows stats is items (Ok v) h = λ s. (
    λ there. stat_from rows s (subst (λ (l : List Stat). Contains l s) is ((h s).0 there)),
    λ from. (h s).1 (subst (λ (l : List Stat). Contains l s) (sym is) (subst (λ (x : Stat). Contains (map (stat_of instant) rows) x) (sym from.2) (stat_there rows from.0 from.1))),
  )
  stats_by rows stats is items (Err e) h = tt

  still_apart : (x y : List ℕ) → bytes_eq x y ≡ false → bytes_eq (x ++ suffix) (y ++ suffix) ≡ false
  still_apart x y apart = untied (bytes_eq (x ++ suffix) (y ++ suffix)) (bytes_eq x y) (λ same. (bytes_eq-Decides x y).1 (append_cancel_right x y suffix ((bytes_eq-Decides (x ++ suffix) (y ++ suffix)).0 same))) apart

  all_apart : (path : List ℕ) (rows : List Row) → AllByRecursion (λ y. bytes_eq path y ≡ false) (paths_of rows) → AllByRecursion (λ y. bytes_eq (path ++ suffix) y ≡ false) (map (λ (s : Stat). s.path) (map (stat_of instant) rows))
  all_apart path [] all = tt
  all_apart path (r ∷ rows) all = (still_apart path r.path all.0, all_apart path rows all.1)

  pub distinct_stats : (rows : List Row) → HasDistinctPaths rows → IsDistinct bytes_eq (map (λ (s : Stat). s.path) (map (stat_of instant) rows))
  distinct_stats [] distinct = distinct
  distinct_stats (r ∷ rows) distinct =
      IsDistinct-cons bytes_eq (r.path ++ suffix) (map (λ (s : Stat). s.path) (map (stat_of instant) rows)) (all_apart r.path rows (IsDistinct-head bytes_eq r.path (paths_of rows) distinct))
      (distinct_stats rows (IsDistinct-tail bytes_eq r.path (paths_of rows) distinct))

-- one stat more, that of the next row
pub stats_more : (instant : List ℕ) (added : List Row) (i : ℕ) (row : Row) (stat : Stat) (before after : List Stat) → i < length added → row ≡ get_or added i row → stat ≡ stat_of instant row
    → before ≡ map (stat_of instant) (take i added) → after ≡ before ++ stat ∷ [] → after ≡ map (stat_of instant) (take (i + 1) added)
stats_more instant added i row stat before after within at is so_far pushed =
    pushed ∙ (λ j. so_far j ++ is j ∷ []) ∙ ap (λ r. map (stat_of instant) (take i added) ++ stat_of instant r ∷ []) at
    ∙ sym (map_more (stat_of instant) added i row within)

pub item_there : (added : List Row) (i : ℕ) (row : Row) → i < length added → row ≡ get_or added i row → Contains added row
item_there added i row within at = (i, within, sym at)

-- ---- their soundness

pub sound_stat : (instant : List ℕ) (row : Row) (path : List ℕ) (stat : Stat) → path ≡ row.path → stat.path ≡ path ++ (codes "_" ++ (instant ++ codes "_hudiext")) → stat.writes < 2 ^ 63 → stat.size < 2 ^ 63 → IsDigits instant → IsPath row.path → IsSoundStat stat
sound_stat instant row path stat same is writes size digits sound = record {
  path = subst IsPathOfAnyLength (ap (λ p. p ++ (codes "_" ++ (instant ++ codes "_hudiext"))) (sym same) ∙ sym is) (path_more row.path (codes "_" ++ (instant ++ codes "_hudiext")) sound.form (external_more instant digits));
  writes = writes;
  size = size;
}

all_among : {X : Type 0} (P : X → Type 0) (xs ys : List X) → All P xs → ((x : X) → Contains ys x → Contains xs x) → All P ys
all_among P xs [] all among = All-nil P
all_among P xs (y ∷ ys) all among =
    All-cons P y ys (All-contains P xs y all (among y (Contains-head y ys))) (all_among P xs ys all (λ x there. among x (Contains-tail y ys x there)))

pub sound_by : {V E : Type 0} (stats : List Stat) → All IsSoundStat stats → (items : V → List Stat) (r : Result V E) → IfOk r (λ v. (s : Stat) → Contains (items v) s ↔ Contains stats s) → IfOk r (λ v. All IsSoundStat (items v))
sound_by stats all items (Ok v) h = all_among IsSoundStat stats (items v) all (λ s there. (h s).0 there)
sound_by stats all items (Err e) h = tt

-- ---- how many there are

pub as_many : {X V E : Type 0} (n m : ℕ) (items : V → List X) (r : Result V E) → m ≡ n → IfOk r (λ v. length (items v) ≡ m) → IfOk r (λ v. length (items v) ≡ n)
as_many n m items (Ok v) same h = h ∙ same
as_many n m items (Err e) same h = tt

pub at_most : {X V E : Type 0} (n m : ℕ) (items : V → List X) (r : Result V E) → m ≤ n → IfOk r (λ v. length (items v) ≡ m) → IfOk r (λ v. length (items v) ≤ n)
at_most n m items (Ok v) few h = omega (arith, few, h)
at_most n m items (Err e) few h = tt
