-- The names of instants, as a relation.
use Rattle.std.proofs.Common.{◌≡◌, ◌≢◌, ◌↔◌, ◌⊎◌, ℕ, ◌+◌, ◌-◌, ◌<◌, ◌==◌, nat_lt, Bool, true, false, cond, ◌&&◌, nat_eq, List, ◌∷◌, ◌++◌, length, take, drop, get_or, Option, Some, None, option_map, codes, refl, sym, ap, subst, ◌∙◌, inl, inr, ⊎_elim, arith}
use Rattle.std.specs.Char.{is_ascii_digit}
use Rattle.std.specs.List.{list_all, ends_with}
use Rattle.std.specs.Str.{bytes_eq}
use Rattle.std.proofs.Math.ListN.{get_or-append, get_or-eq_default}
use Rattle.std.proofs.Math.Seq.{drop-append-add, take-append_seam}
use Rattle.std.proofs.lemmas.Bool.{and_parts, cases_Bool, false≢true, ltb-false, ltb-true, or_cases}
use Rattle.std.proofs.lemmas.Bool.Decides.{Decides-eqb}
use Rattle.std.proofs.lemmas.List.{drop_more, get_or_at, length-take-le, take-append-drop}
use Rattle.std.proofs.lemmas.List.Folds.{list_all_at}
use Rattle.std.proofs.lemmas.Slice.Eq.{bytes_eq-Decides, ends_is}
use Rattle.std.proofs.lemmas.Option.{none-some}
use Rattle.hudi_names.specs.Name.{has_time, time_len, is_ignored, is_merge_on_read, action_of, inflight_action_of, front_before, with_suffixes, rest_says, instant_of, IsWordOf, IsRestOf, IsSplit, IsInstantName}
use Rattle.hudi_names.specs.declared.name.Action.{Action}
use Rattle.hudi_names.specs.declared.name.Action.TheVariants.{Commit, ReplaceCommit, Ignored, MergeOnRead, Restore, Unknown}
use Rattle.hudi_names.specs.declared.name.State.{State}
use Rattle.hudi_names.specs.declared.name.State.TheVariants.{Requested, Inflight, Completed}

by_test : {X : Type 0} (P : X → Type 0) (b : Bool) (x y : X) → (b ≡ true → P x) → (b ≡ false → P y) → P (cond b x y)
by_test P true x y holds fails = holds refl
by_test P false x y holds fails = fails refl

is : (word text : List ℕ) → bytes_eq word text ≡ true → word ≡ text
is word text h = (bytes_eq-Decides word text).0 h

-- ---- the words of actions
abbrev Fits : Action → List ℕ → Type 0
Fits action word = action ≢ Unknown → IsWordOf action word

ignored_word : (word : List ℕ) → is_ignored word ≡ true → IsWordOf Ignored word
ignored_word word h =
    ⊎_elim
    (λ first. ⊎_elim
    (λ two. ⊎_elim (λ t. inl (is word (codes "clean") t)) (λ t. inr (inl (is word (codes "savepoint") t))) (or_cases _ _ two))
    (λ t. inr (inr (inl (is word (codes "rollback") t))))
    (or_cases _ _ first))
    (λ t. inr (inr (inr (is word (codes "indexing") t))))
    (or_cases _ _ h)

merge_word : (word : List ℕ) → is_merge_on_read word ≡ true → IsWordOf MergeOnRead word
merge_word word h =
    ⊎_elim
    (λ two. ⊎_elim (λ t. inl (is word (codes "deltacommit") t)) (λ t. inr (inl (is word (codes "compaction") t))) (or_cases _ _ two))
    (λ t. inr (inr (is word (codes "logcompaction") t)))
    (or_cases _ _ h)

action_fits : (word : List ℕ) → Fits (action_of word) word
action_fits word =
    by_test P (bytes_eq word (codes "commit")) Commit _ (λ t known. is word (codes "commit") t) (λ _.
    by_test P (bytes_eq word (codes "replacecommit")) ReplaceCommit _ (λ t known. is word (codes "replacecommit") t) (λ _.
    by_test P (is_ignored word) Ignored _ (λ t known. ignored_word word t) (λ _.
    by_test P (is_merge_on_read word) MergeOnRead _ (λ t known. merge_word word t) (λ _.
    by_test P (bytes_eq word (codes "restore")) Restore Unknown (λ t known. is word (codes "restore") t) (λ _ known. absurd (known refl))))))
  where
    P : Action → Type 0
    P action = Fits action word

inflight_fits : (word : List ℕ) → inflight_action_of word ≢ Unknown → IsWordOf (inflight_action_of word) word × (word ≢ codes "commit")
inflight_fits word =
    by_test (λ a. a ≢ Unknown → IsWordOf a word × (word ≢ codes "commit")) (bytes_eq word (codes "commit")) Unknown (action_of word)
    (λ t known. absurd (known refl))
    (λ f known. (action_fits word known, λ e. false≢true (sym f ∙ (bytes_eq-Decides word (codes "commit")).1 e)))

-- ---- what stands behind the dot
front_is : (suffix rest word : List ℕ) → front_before suffix rest ≡ Some word → rest ≡ word ++ suffix
front_is suffix rest word h = by (ends_with nat_eq rest suffix) refl h
  where
    by : (b : Bool) → ends_with nat_eq rest suffix ≡ b → cond b (Some (take (length rest - length suffix) rest)) None ≡ Some word → rest ≡ word ++ suffix
    by true e some = let same : take (length rest - length suffix) rest ≡ word = cc (some) in (ends_is Decides-eqb rest suffix _ refl).0 e ∙ ap (λ l. l ++ suffix) same
    by false e some = absurd (none-some word some)

abbrev Says : Action × State → List ℕ → Type 0
Says p rest = p.0 ≢ Unknown → (word : List ℕ) × IsWordOf p.0 word × IsRestOf word p.1 rest

with_fits : (rest : List ℕ) (requested inflight : Option (List ℕ)) → front_before (codes ".requested") rest ≡ requested → front_before (codes ".inflight") rest ≡ inflight
    → Says (with_suffixes requested inflight rest) rest
with_fits rest (Some word) inflight r i known = (word, action_fits word known, front_is (codes ".requested") rest word r)
with_fits rest None (Some word) r i known =
    let fits = inflight_fits word known in (word, fits.0, inr (fits.1, front_is (codes ".inflight") rest word i))
with_fits rest None None r i known = (rest, action_fits rest known, refl)

rest_fits : (rest : List ℕ) → Says (rest_says rest) rest
rest_fits rest =
    by_test (λ p. Says p rest) (bytes_eq rest (codes "inflight")) (Commit, Inflight) (with_suffixes (front_before (codes ".requested") rest) (front_before (codes ".inflight") rest) rest)
    (λ t known. (codes "commit", refl, inl (refl, is rest (codes "inflight") t)))
    (λ _. with_fits rest (front_before (codes ".requested") rest) (front_before (codes ".inflight") rest) refl refl)

-- what holds of each word of each action
of_words : (P : Action → List ℕ → Type 0) → P Commit (codes "commit") → P ReplaceCommit (codes "replacecommit") → P Ignored (codes "clean") → P Ignored (codes "savepoint") → P Ignored (codes "rollback") → P Ignored (codes "indexing")
    → P MergeOnRead (codes "deltacommit") → P MergeOnRead (codes "compaction") → P MergeOnRead (codes "logcompaction") → P Restore (codes "restore") → (action : Action) (word : List ℕ) → IsWordOf action word → P action word
of_words P a b c d e f g h i j Commit word n = subst (P Commit) (sym n) a
of_words P a b c d e f g h i j ReplaceCommit word n = subst (P ReplaceCommit) (sym n) b
of_words P a b c d e f g h i j Ignored word n =
    ⊎_elim
    (λ n. subst (P Ignored) (sym n) c)
    (λ n. ⊎_elim (λ n. subst (P Ignored) (sym n) d) (λ n. ⊎_elim (λ n. subst (P Ignored) (sym n) e) (λ n. subst (P Ignored) (sym n) f) n) n)
    n
of_words P a b c d e f g h i j MergeOnRead word n =
    ⊎_elim (λ n. subst (P MergeOnRead) (sym n) g) (λ n. ⊎_elim (λ n. subst (P MergeOnRead) (sym n) h) (λ n. subst (P MergeOnRead) (sym n) i) n) n
of_words P a b c d e f g h i j Restore word n = subst (P Restore) (sym n) j
of_words P a b c d e f g h i j Unknown word n = absurd n

requested_says : (action : Action) (word : List ℕ) → IsWordOf action word → rest_says (word ++ codes ".requested") ≡ (action, Requested)
requested_says = of_words (λ a w. rest_says (w ++ codes ".requested") ≡ (a, Requested)) refl refl refl refl refl refl refl refl refl refl

completed_says : (action : Action) (word : List ℕ) → IsWordOf action word → rest_says word ≡ (action, Completed)
completed_says = of_words (λ a w. rest_says w ≡ (a, Completed)) refl refl refl refl refl refl refl refl refl refl

inflight_says : (action : Action) (word : List ℕ) → IsWordOf action word → word ≢ codes "commit" → rest_says (word ++ codes ".inflight") ≡ (action, Inflight)
inflight_says = of_words (λ a w. w ≢ codes "commit" → rest_says (w ++ codes ".inflight") ≡ (a, Inflight)) (λ n. absurd (n refl)) (λ n. refl) (λ n. refl) (λ n. refl) (λ n. refl) (λ n. refl) (λ n. refl) (λ n. refl) (λ n. refl) (λ n. refl)

action_says : (action : Action) (word : List ℕ) → IsWordOf action word → action_of word ≡ action
action_says = of_words (λ a w. action_of w ≡ a) refl refl refl refl refl refl refl refl refl refl

says_rest : (action : Action) (state : State) (word rest : List ℕ) → IsWordOf action word → IsRestOf word state rest → rest_says rest ≡ (action, state)
says_rest action Requested word rest named e = ap rest_says e ∙ requested_says action word named
says_rest action Completed word rest named e = ap rest_says e ∙ completed_says action word named
says_rest action Inflight word rest named h =
    ⊎_elim
    (λ alone. let commit : Commit ≡ action = sym (ap action_of alone.0) ∙ action_says action word named in ap rest_says alone.1 ∙ ap (λ a. (a, Inflight)) commit)
    (λ other. ap rest_says other.1 ∙ inflight_says action word named other.0)
    h

-- ---- the time

within : (name : List ℕ) (n : ℕ) → get_or name n 0 ≡ 46 → n < length name
within name n at =
    ⊎_elim
    (λ t. ltb-true n (length name) t)
    (λ f.
    let past = get_or-eq_default name 0 (ltb-false n (length name) f) in
    absurd (false≢true (ap (λ k. k == 46) (sym past ∙ at))))
    (cases_Bool (nat_lt n (length name)))

module _ (name : List ℕ) (n : ℕ) (form : (n ≡ 14) ⊎ (n ≡ 17)) (h : has_time n name ≡ true) where
  tests : (get_or name n 0 ≡ 46) × (list_all is_ascii_digit (take n name) ≡ true)
  tests =
      let parts = and_parts (get_or name n 0 == 46) (list_all is_ascii_digit (take n name)) h in
      ((Decides-eqb (get_or name n 0) 46).0 parts.0, parts.1)

  inside : n < length name
  inside = within name n tests.0

  time_length : length (take n name) ≡ n
  time_length = let at = inside in length-take-le n name (omega (arith, at))

  split_at : IsSplit name (take n name) (drop (n + 1) name)
  split_at = record {
    split = sym (take-append-drop n name) ∙ ap (λ l. take n name ++ l) (drop_more name n 0 inside ∙ ap (λ b. b ∷ drop (n + 1) name) tests.0);
    form = subst (λ k. (k ≡ 14) ⊎ (k ≡ 17)) (sym time_length) form;
    numeral = tests.1;
  }

  made : (rest_says (drop (n + 1) name)).0 ≢ Unknown → IsInstantName name n (rest_says (drop (n + 1) name)).0 (rest_says (drop (n + 1) name)).1
  made known =
      let fits = rest_fits (drop (n + 1) name) known in
      record { time = take n name; word = fits.0; rest = drop (n + 1) name; parts = split_at; len = time_length; named = fits.1; says = fits.2 }

abbrev parts_at : List ℕ → ℕ → ℕ × Action × State
parts_at name n = (n, (rest_says (drop (n + 1) name)).0, (rest_says (drop (n + 1) name)).1)

module _ (name : List ℕ) (digits : ℕ) (action : Action) (state : State) where
  at_time : (n : ℕ) → (n ≡ 14) ⊎ (n ≡ 17) → has_time n name ≡ true → action ≢ Unknown → Some (parts_at name n) ≡ Some (digits, action, state) → IsInstantName name digits action state
  at_time n form h known e =
      let same : parts_at name n ≡ (digits, action, state) = cc (e) in
      subst (λ (p : ℕ × Action × State). IsInstantName name p.0 p.1 p.2) same (made name n form h (λ u. known (sym (ap (λ (p : ℕ × Action × State). p.1) same) ∙ u)))

  named_to : action ≢ Unknown → instant_of name ≡ Some (digits, action, state) → IsInstantName name digits action state
  named_to known h = by (has_time 14 name) refl (has_time 17 name) refl h
    where
      by : (x : Bool) → has_time 14 name ≡ x → (y : Bool) → has_time 17 name ≡ y → option_map (parts_at name) (cond x (Some 14) (cond y (Some 17) None)) ≡ Some (digits, action, state) → IsInstantName name digits action state
      by true ex y ey e = at_time 14 (inl refl) ex known e
      by false ex true ey e = at_time 17 (inr refl) ey known e
      by false ex false ey e = absurd (none-some (digits, action, state) e)

-- ---- a name that is put together
module _ (time rest : List ℕ) (numeral : list_all is_ascii_digit time ≡ true) where
  timed : (n : ℕ) → length time ≡ n → has_time n (time ++ 46 ∷ rest) ≡ true
  timed n len =
      let at : get_or (time ++ 46 ∷ rest) n 0 ≡ 46 = get_or_at time 46 rest 0 n len in
      let front : take n (time ++ 46 ∷ rest) ≡ time = ap (λ k. take k (time ++ 46 ∷ rest)) (sym len) ∙ take-append_seam time (46 ∷ rest) in
      (λ i. (at i == 46) && list_all is_ascii_digit (front i)) ∙ numeral

  not_timed : (n : ℕ) → n < length time → has_time n (time ++ 46 ∷ rest) ≡ false
  not_timed n inside =
      let at : get_or (time ++ 46 ∷ rest) n 0 ≡ get_or time n 0 = get_or-append time (46 ∷ rest) 0 n inside in
      ⊎_elim
      (λ t.
      let dot : get_or time n 0 ≡ 46 = sym at ∙ (Decides-eqb (get_or (time ++ 46 ∷ rest) n 0) 46).0 t in
      absurd (false≢true (sym (list_all_at is_ascii_digit time n 0 inside (ap is_ascii_digit dot)) ∙ numeral)))
      (λ f. ap (λ b. b && list_all is_ascii_digit (take n (time ++ 46 ∷ rest))) f)
      (cases_Bool (get_or (time ++ 46 ∷ rest) n 0 == 46))

  time_is : (length time ≡ 14) ⊎ (length time ≡ 17) → time_len (time ++ 46 ∷ rest) ≡ Some (length time)
  time_is form =
      let name = time ++ 46 ∷ rest in
      ⊎_elim
      (λ is_14. ap (λ b. cond b (Some 14) (cond (has_time 17 name) (Some 17) None)) (timed 14 is_14) ∙ ap Some (sym is_14))
      (λ is_17.
      let inside : 14 < length time = omega (arith, is_17) in
      (λ i. cond (not_timed 14 inside i) (Some 14) (cond (timed 17 is_17 i) (Some 17) None)) ∙ ap Some (sym is_17))
      form

split_reads : (name time rest : List ℕ) → IsSplit name time rest → instant_of name ≡ Some (length time, (rest_says rest).0, (rest_says rest).1)
split_reads name time rest i =
    let whole = time ++ 46 ∷ rest in
    let behind : drop (length time + 1) whole ≡ rest = drop-append-add time (46 ∷ rest) 1 in
    ap instant_of i.split
    ∙ ap (option_map (parts_at whole)) (time_is time rest i.numeral i.form)
    ∙ ap (λ l. Some (length time, (rest_says l).0, (rest_says l).1)) behind

named_from : (name : List ℕ) (digits : ℕ) (action : Action) (state : State) → IsInstantName name digits action state → instant_of name ≡ Some (digits, action, state)
named_from name digits action state i =
    split_reads name i.time i.rest i.parts
    ∙ ap (λ (p : Action × State). Some (length i.time, p.0, p.1)) (says_rest action state i.word i.rest i.named i.says)
    ∙ ap (λ n. Some (n, action, state)) i.len

none_from : (name : List ℕ) → ((time rest : List ℕ) → IsSplit name time rest → ⊥) → instant_of name ≡ None
none_from name none = by (has_time 14 name) refl (has_time 17 name) refl
  where
    by : (x : Bool) → has_time 14 name ≡ x → (y : Bool) → has_time 17 name ≡ y → option_map (parts_at name) (cond x (Some 14) (cond y (Some 17) None)) ≡ None
    by true ex y ey = absurd (none (take 14 name) (drop 15 name) (split_at name 14 (inl refl) ex))
    by false ex true ey = absurd (none (take 17 name) (drop 18 name) (split_at name 17 (inr refl) ey))
    by false ex false ey = refl

-- A name is read as that of an instant of an action that has a name exactly where it is put together so.
pub named_exactly : (name : List ℕ) (digits : ℕ) (action : Action) (state : State) → action ≢ Unknown
    → (instant_of name ≡ Some (digits, action, state)) ↔ IsInstantName name digits action state
named_exactly name digits action state known = (named_to name digits action state known, named_from name digits action state)

-- It is that of no instant at all exactly where it isn't a time, a dot and a rest.
pub none_exactly : (name : List ℕ) → (instant_of name ≡ None) ↔ ((time rest : List ℕ) → IsSplit name time rest → ⊥)
none_exactly name = (λ h time rest i. none-some _ (sym h ∙ split_reads name time rest i), none_from name)
