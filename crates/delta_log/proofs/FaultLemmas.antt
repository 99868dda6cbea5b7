-- Why an action can't stand behind others.
use Rattle.std.proofs.Common.{◌≡◌, inl, inr, ⊎_elim, ℕ, ◌+◌, ◌<◌, ◌≤◌, List, [], ◌∷◌, ◌++◌, length, Option, Some, None, Bool, true, false, cond, Result, Ok, Err, refl, sym, ap, subst, ◌∙◌, arith}
use Rattle.std.proofs.lemmas.Cmp.{nat_list_eq_equiv}
use Rattle.std.proofs.lemmas.Grind.{common_steps, flat_map-append}
use Rattle.std.proofs.lemmas.List.{append-nil}
use Rattle.std.proofs.lemmas.Map.Keys.{IsDistinct-head, IsDistinct-tail}
use Rattle.std.specs.Prelude.{is_some, option_to_list, flat_map, nat_le}
use Rattle.std.specs.List.{AllByRecursion, IsDistinct, list_any}
use Rattle.std.specs.Str.{bytes_eq}
use Rattle.std.proofs.lemmas.Bool.{or_from}
use Rattle.lake_basics.specs.declared.limits.TheConstants.{MAX_ACTIONS}
use Rattle.lake_basics.specs.Outcome.{◌>>=◌, with_fault}
use Rattle.table_history.specs.declared.feature.Feature.TheVariants.{DeletionVector, OutsideTable, NoRecordCount, FileFormat}
use Rattle.table_history.specs.declared.limit.LimitKind.TheVariants.{Path, Actions}
use Rattle.partition_map.specs.UriPath.{UriPath, inside_table, too_long, outside_table, no_path, uri_path}
use Rattle.delta_log.specs.declared.action.LineAction.{LineAction}
use Rattle.delta_log.specs.declared.action.LineAction.TheVariants as action
use Rattle.delta_log.specs.declared.commit.DeltaCommit.{DeltaCommit}
use Rattle.delta_log.specs.declared.commit.FileAction.{FileAction}
use Rattle.delta_log.specs.declared.commit.FileAction.TheVariants as file
use Rattle.delta_log.specs.declared.commit.MetaData.{MetaData}
use Rattle.delta_log.specs.declared.commit.Protocol.{Protocol}
use Rattle.delta_log.specs.declared.error.Fault.{Fault}
use Rattle.delta_log.specs.declared.error.Fault.TheVariants.{Malformed, Unsupported, Limit, DoublePath}
use Rattle.delta_log.specs.declared.error.LineFault.{LineFault}
use Rattle.delta_log.specs.declared.error.LineFault.TheVariants as line_faults
use Rattle.delta_log.specs.Commit.{file_paths}
use Rattle.delta_log.specs.Actions.{LineSays}
use Rattle.delta_log.specs.Grammar.{line_action}
use Rattle.delta_log.specs.Judging.{acts_on, with_new_file, with_action, with_line, judged, error_at}
use Rattle.table_history.specs.First.{IsFirst, NoneOf}
use Rattle.delta_log.specs.Readable.{States, protocol_in, meta_in, path_in, protocols, metas, paths, files, NamesNoPath, ShowsOnLine, line_features, HasLongPath, IsMisplaced, ActsAgain, IsAtFault}
use Rattle.delta_log.proofs.SaysLemmas.{says_action, says_none}
use Rattle.delta_log.proofs.StepLemmas.{names_other, inside_not_none, inside_not_outside, inside_not_long, no_uri, decoded}

-- ---- lists

pub push_of : {B : Type 0} (f : LineAction → Option B) (before : List LineAction) (a : LineAction) → flat_map (λ x. option_to_list (f x)) (before ++ a ∷ []) ≡ flat_map (λ x. option_to_list (f x)) before ++ option_to_list (f a)
push_of f before a = flat_map-append (λ x. option_to_list (f x)) before (a ∷ []) ∙ ap (λ l. flat_map (λ x. option_to_list (f x)) before ++ l) (append-nil (option_to_list (f a)))

apart_last : (x y : List ℕ) (xs : List (List ℕ)) → AllByRecursion (λ z. bytes_eq x z ≡ false) (xs ++ y ∷ []) → bytes_eq y x ≡ false
apart_last x y [] all = nat_list_eq_equiv.symm y x ∙ all.0
apart_last x y (z ∷ xs) all = apart_last x y xs all.1

-- the last of distinct texts isn't among those before it
pub distinct_last : (xs : List (List ℕ)) (y : List ℕ) → IsDistinct bytes_eq (xs ++ y ∷ []) → list_any (bytes_eq y) xs ≡ false
distinct_last [] y distinct = refl
distinct_last (x ∷ xs) y distinct = or_from _ _ (apart_last x y xs (IsDistinct-head bytes_eq x (xs ++ y ∷ []) distinct)) (distinct_last xs y (IsDistinct-tail bytes_eq x (xs ++ y ∷ []) distinct))

-- ---- one action

-- what has been read: the commit has what these actions say, and is on just their paths
pub record Says (before : List LineAction) (c : DeltaCommit) : Type 0 where
  pub states : States before c
  pub named : paths before ≡ file_paths c.files

placed : (before : List LineAction) (a : LineAction) → (NamesNoPath a → ⊥) → protocol_in a ≡ None → meta_in a ≡ None → IsMisplaced before a → ⊥
placed before a uri p m =
    ⊎_elim uri
    (⊎_elim (λ h. let some : 0 < length (protocols (a ∷ [])) = h.0 in let less = rw p at some in omega (arith, less)) (λ h. let some : 0 < length (metas (a ∷ [])) = h.0 in let less = rw m at some in omega (arith, less)))

abbrev FaultIs : List LineAction → List ℕ → ℕ → Fault → Type 0
FaultIs before line n f = IsAtFault before line n (error_at n f)

is_malformed : (before : List LineAction) (line : List ℕ) (n : ℕ) (a : LineAction) (f : Fault) → LineSays line a → Malformed ≡ f → IsMisplaced before a → FaultIs before line n f
is_malformed before line n a f is same misplaced = subst (FaultIs before line n) same (refl, inr (a, is, misplaced))

is_unsupported : (before : List LineAction) (line : List ℕ) (n : ℕ) (a : LineAction) (g : _) (f : Fault) → LineSays line a → Unsupported g ≡ f → (IsMisplaced before a → ⊥) → IsFirst (λ x. ShowsOnLine x a) line_features g → FaultIs before line n f
is_unsupported before line n a g f is same fits first = subst (FaultIs before line n) same (refl, a, (is, fits), first)

some_first : {A : Type 0} (o : Option A) (x : A) (xs : List A) → o ≡ Some x → option_to_list o ≡ xs → 0 < length xs
some_first o x xs is says = subst (λ l. 0 < length l) says (subst (λ q. 0 < length (option_to_list q)) (sym is) (omega arith))

none_before : {A : Type 0} (o : Option A) (xs : List A) → o ≡ None → option_to_list o ≡ xs → 0 < length xs → ⊥
none_before o xs is says some = let empty : [] ≡ xs = ap option_to_list (sym is) ∙ says in let less : 0 < 0 = subst (λ l. 0 < length l) (sym empty) some in omega (arith, less)

module _ (before : List LineAction) (c : DeltaCommit) (line : List ℕ) (n : ℕ) (says : Says before c) where
  protocol_fault : (o : Option Protocol) (p : Protocol) (f : Fault) → LineSays line (action.Protocol p) → c.protocol ≡ o → cond (is_some o) (Err Malformed) (Ok (record c { protocol = Some p })) ≡ Err f → FaultIs before line n f
  protocol_fault None p f is o h = absurd (cc)
  protocol_fault (Some q) p f is o h = is_malformed before line n (action.Protocol p) f is (cc) (inr (inl (omega arith, some_first c.protocol q (protocols before) o says.states.protocol)))

  meta_fault : (o : Option MetaData) (b : Bool) (m : MetaData) (f : Fault) → LineSays line (action.MetaData m b) → c.meta ≡ o → cond (is_some o) (Err Malformed) (cond b (Ok (record c { meta = Some m })) (Err (Unsupported FileFormat))) ≡ Err f
      → FaultIs before line n f
  meta_fault None true m f is o h = absurd (cc)
  meta_fault None false m f is o h =
      let fits : IsMisplaced before (action.MetaData m false) → ⊥ =
      ⊎_elim (λ g. no_uri (action.MetaData m false) g.0 refl g.1) (⊎_elim (λ g. let less : 0 < 0 = g.0 in omega (arith, less)) (λ g. none_before c.meta (metas before) o says.states.meta g.1)) in
      is_unsupported before line n (action.MetaData m false) FileFormat f is (cc) fits (inr (λ g. g, inr (λ g. no_uri (action.MetaData m false) g.0 refl g.1, inr (λ g. g, inl (refl, refl)))))
  meta_fault (Some q) b m f is o h = is_malformed before line n (action.MetaData m b) f is (cc) (inr (inr (omega arith, some_first c.meta q (metas before) o says.states.meta)))

  -- an action on a path of the table that shows nothing
  file_fault : (full again : Bool) (path : List ℕ) (g : FileAction) (a : LineAction) (f : Fault) → LineSays line a → nat_le MAX_ACTIONS (length c.files) ≡ full → acts_on path c.files ≡ again
      → cond full (Err (Limit Actions)) (cond again (Err DoublePath) (Ok (with_new_file c g))) ≡ Err f → (IsMisplaced before a → ⊥) → NoneOf (λ x. ShowsOnLine x a) line_features → (HasLongPath a → ⊥) → path_in a ≡ Some path → FaultIs before line n f
  file_fault true again path g a f is room new h fits supported short named =
      let many : MAX_ACTIONS ≤ length c.files = grind (arith, common_steps) in
      let over : MAX_ACTIONS < length (files before) + 1 = subst (λ l. MAX_ACTIONS < length l + 1) says.states.files (omega (arith, many)) in
      let same : Limit Actions ≡ f = cc in
      subst (FaultIs before line n) same (a, (is, fits), supported, inr (short, inl (refl, (path, named, over))))
  file_fault false true path g a f is room new h fits supported short named =
      let few : length c.files < MAX_ACTIONS = grind (arith, common_steps) in
      let under : length (files before) < MAX_ACTIONS = subst (λ l. length l < MAX_ACTIONS) says.states.files few in
      let same : DoublePath ≡ f = cc in
      let longer : paths (before ++ a ∷ []) ≡ file_paths c.files ++ path ∷ [] = push_of path_in before a ∙ ap (λ l. l ++ option_to_list (path_in a)) says.named ∙ ap (λ o. file_paths c.files ++ option_to_list o) named in
      let again : ActsAgain before a = λ distinct. let not_there = distinct_last (file_paths c.files) path (subst (IsDistinct bytes_eq) longer distinct) in cc in
      subst (FaultIs before line n) same (refl, a, (is, fits), supported, (short, ((λ p. let over = p.2 in omega (arith, over, under)), tt)), again)
  file_fault false false path g a f is room new h fits supported short named = absurd (cc)

  add_fault : (u : UriPath) (v : Bool) (count : Option ℕ) (uri : List ℕ) (values : List (List ℕ × Option (List ℕ))) (size : ℕ) (f : Fault) → uri_path uri ≡ u
      → LineSays line (action.Add uri values size count v) → with_action c (action.Add uri values size count v) ≡ Err f → FaultIs before line n f
  add_fault no_path v count uri values size f u is h = let k = rw u at h in is_malformed before line n (action.Add uri values size count v) f is (cc) (inl (uri, refl, u))
  add_fault (inside_table path) true count uri values size f u is h =
      let k = rw u at h in let a = action.Add uri values size count true in
      is_unsupported before line n a DeletionVector f is (cc) (placed before a (λ g. names_other a uri (inside_table path) no_path refl u (inside_not_none path) g.0 g.1 g.2) refl refl) (inl (refl, refl))
  add_fault (too_long path) true count uri values size f u is h =
      let k = rw u at h in let a = action.Add uri values size count true in
      is_unsupported before line n a DeletionVector f is (cc) (placed before a (λ g. names_other a uri (too_long path) no_path refl u (λ e. cc) g.0 g.1 g.2) refl refl) (inl (refl, refl))
  add_fault outside_table true count uri values size f u is h =
      let k = rw u at h in let a = action.Add uri values size count true in
      is_unsupported before line n a DeletionVector f is (cc) (placed before a (λ g. names_other a uri outside_table no_path refl u (λ e. cc) g.0 g.1 g.2) refl refl) (inl (refl, refl))
  add_fault outside_table false count uri values size f u is h =
      let k = rw u at h in let a = action.Add uri values size count false in
      is_unsupported before line n a OutsideTable f is (cc) (placed before a (λ g. names_other a uri outside_table no_path refl u (λ e. cc) g.0 g.1 g.2) refl refl) (inr (λ g. cc, inl (refl, (uri, refl, u))))
  add_fault (inside_table path) false None uri values size f u is h =
      let k = rw u at h in let a = action.Add uri values size None false in
      is_unsupported before line n a NoRecordCount f is (cc) (placed before a (λ g. names_other a uri (inside_table path) no_path refl u (inside_not_none path) g.0 g.1 g.2) refl refl)
      (inr (λ g. cc, inr (λ g. names_other a uri (inside_table path) outside_table refl u (inside_not_outside path) g.0 g.1 g.2, inl (refl, refl))))
  add_fault (too_long path) false None uri values size f u is h =
      let k = rw u at h in let a = action.Add uri values size None false in
      is_unsupported before line n a NoRecordCount f is (cc) (placed before a (λ g. names_other a uri (too_long path) no_path refl u (λ e. cc) g.0 g.1 g.2) refl refl)
      (inr (λ g. cc, inr (λ g. names_other a uri (too_long path) outside_table refl u (λ e. cc) g.0 g.1 g.2, inl (refl, refl))))
  add_fault (too_long path) false (Some count) uri values size f u is h =
      let k = rw u at h in let a = action.Add uri values size (Some count) false in
      let same : Limit Path ≡ f = cc in
      subst (FaultIs before line n) same (
        a,
        (is, placed before a (λ g. names_other a uri (too_long path) no_path refl u (λ e. cc) g.0 g.1 g.2) refl refl),
        ((λ g. cc), ((λ g. names_other a uri (too_long path) outside_table refl u (λ e. cc) g.0 g.1 g.2), ((λ g. cc), ((λ g. g), tt)))),
        inl (refl, (uri, path, refl, u)),
      )
  add_fault (inside_table path) false (Some count) uri values size f u is h =
      let a = action.Add uri values size (Some count) false in
      file_fault (nat_le MAX_ACTIONS (length c.files)) (acts_on path c.files) path (file.Add path values size count) a f is refl refl (rw u at h)
      (placed before a (λ g. names_other a uri (inside_table path) no_path refl u (inside_not_none path) g.0 g.1 g.2) refl refl)
      ((λ g. cc), ((λ g. names_other a uri (inside_table path) outside_table refl u (inside_not_outside path) g.0 g.1 g.2), ((λ g. cc), ((λ g. g), tt))))
      (λ g. names_other a uri (inside_table path) (too_long g.1) refl u (inside_not_long path g.1) g.0 g.2 g.3) (ap Some (sym (decoded uri path u)))

  remove_fault : (u : UriPath) (v : Bool) (uri : List ℕ) (f : Fault) → uri_path uri ≡ u → LineSays line (action.Remove uri v) → with_action c (action.Remove uri v) ≡ Err f → FaultIs before line n f
  remove_fault no_path v uri f u is h = let k = rw u at h in is_malformed before line n (action.Remove uri v) f is (cc) (inl (uri, refl, u))
  remove_fault (inside_table path) true uri f u is h =
      let k = rw u at h in let a = action.Remove uri true in
      is_unsupported before line n a DeletionVector f is (cc) (placed before a (λ g. names_other a uri (inside_table path) no_path refl u (inside_not_none path) g.0 g.1 g.2) refl refl) (inl (refl, refl))
  remove_fault (too_long path) true uri f u is h =
      let k = rw u at h in let a = action.Remove uri true in
      is_unsupported before line n a DeletionVector f is (cc) (placed before a (λ g. names_other a uri (too_long path) no_path refl u (λ e. cc) g.0 g.1 g.2) refl refl) (inl (refl, refl))
  remove_fault outside_table true uri f u is h =
      let k = rw u at h in let a = action.Remove uri true in
      is_unsupported before line n a DeletionVector f is (cc) (placed before a (λ g. names_other a uri outside_table no_path refl u (λ e. cc) g.0 g.1 g.2) refl refl) (inl (refl, refl))
  remove_fault outside_table false uri f u is h =
      let k = rw u at h in let a = action.Remove uri false in
      is_unsupported before line n a OutsideTable f is (cc) (placed before a (λ g. names_other a uri outside_table no_path refl u (λ e. cc) g.0 g.1 g.2) refl refl) (inr (λ g. cc, inl (refl, (uri, refl, u))))
  remove_fault (too_long path) false uri f u is h =
      let k = rw u at h in let a = action.Remove uri false in
      let same : Limit Path ≡ f = cc in
      subst (FaultIs before line n) same (
        a,
        (is, placed before a (λ g. names_other a uri (too_long path) no_path refl u (λ e. cc) g.0 g.1 g.2) refl refl),
        ((λ g. cc), ((λ g. names_other a uri (too_long path) outside_table refl u (λ e. cc) g.0 g.1 g.2), ((λ g. g), ((λ g. g), tt)))),
        inl (refl, (uri, path, refl, u)),
      )
  remove_fault (inside_table path) false uri f u is h =
      let a = action.Remove uri false in
      file_fault (nat_le MAX_ACTIONS (length c.files)) (acts_on path c.files) path (file.Remove path) a f is refl refl (rw u at h)
      (placed before a (λ g. names_other a uri (inside_table path) no_path refl u (inside_not_none path) g.0 g.1 g.2) refl refl)
      ((λ g. cc), ((λ g. names_other a uri (inside_table path) outside_table refl u (inside_not_outside path) g.0 g.1 g.2), ((λ g. g), ((λ g. g), tt))))
      (λ g. names_other a uri (inside_table path) (too_long g.1) refl u (inside_not_long path g.1) g.0 g.2 g.3) (ap Some (sym (decoded uri path u)))

  action_fault : (a : LineAction) (f : Fault) → LineSays line a → with_action c a ≡ Err f → FaultIs before line n f
  action_fault action.NoAction f is h = absurd (cc)
  action_fault (action.Protocol p) f is h = protocol_fault c.protocol p f is refl h
  action_fault (action.MetaData m b) f is h = meta_fault c.meta b m f is refl h
  action_fault (action.Add uri values size count v) f is h = add_fault (uri_path uri) v count uri values size f refl is h
  action_fault (action.Remove uri v) f is h = remove_fault (uri_path uri) v uri f refl is h

  reading_fault : (r : Result LineAction LineFault) (f : Fault) → line_action line ≡ r → (with_fault judged r >>= with_action c) ≡ Err f → FaultIs before line n f
  reading_fault (Ok a) f is h = action_fault a f (says_action line a is) h
  reading_fault (Err line_faults.Malformed) f is h = let same : Malformed ≡ f = cc in subst (FaultIs before line n) same (refl, inl (says_none line is))

  pub line_fault : (f : Fault) → with_line c line ≡ Err f → IsAtFault before line n (error_at n f)
  unfolding with_line
  line_fault f h = reading_fault (line_action line) f refl h
