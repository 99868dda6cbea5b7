-- What one action more makes of a commit.
use Rattle.std.proofs.Common.{◌≡◌, ℕ, ◌<◌, ◌≤◌, List, ◌++◌, length, Option, Some, None, Bool, true, false, cond, Ok, Err, refl, sym, ap, subst, ◌∙◌, length-append, arith}
use Rattle.std.proofs.lemmas.Grind.{common_steps}
use Rattle.std.proofs.lemmas.List.{append-nil}
use Rattle.std.specs.Prelude.{is_some, option_to_list, nat_le}
use Rattle.percent_encoding.specs.Percent.{percent_decode}
use Rattle.lake_basics.specs.declared.limits.TheConstants.{MAX_ACTIONS}
use Rattle.table_history.specs.declared.feature.Feature.TheVariants.{FileFormat}
use Rattle.table_history.specs.declared.limit.LimitKind.TheVariants.{Actions}
use Rattle.partition_map.specs.UriPath.{UriPath, inside_table, too_long, outside_table, no_path, uri_path}
use Rattle.partition_map.proofs.UriLemmas.{NamesPath-uri_path}
use Rattle.delta_log.specs.declared.action.LineAction.{LineAction}
use Rattle.delta_log.specs.declared.action.LineAction.TheVariants as action
use Rattle.delta_log.specs.declared.commit.DeltaCommit.{DeltaCommit}
use Rattle.delta_log.specs.declared.commit.FileAction.{FileAction}
use Rattle.delta_log.specs.declared.commit.FileAction.TheVariants as file
use Rattle.delta_log.specs.declared.commit.MetaData.{MetaData}
use Rattle.delta_log.specs.declared.commit.Protocol.{Protocol}
use Rattle.delta_log.specs.declared.error.Fault.TheVariants.{Malformed, Unsupported, Limit, DoublePath}
use Rattle.delta_log.specs.Commit.{file_path, file_paths}
use Rattle.delta_log.specs.Judging.{acts_on, with_new_file, with_action}
use Rattle.table_history.specs.First.{NoneOf}
use Rattle.delta_log.specs.Readable.{protocol_in, meta_in, uri_in, path_in, file_in, NamesNoPath, HasDeletionVector, LacksCount, IsNotParquet, HasLongPath, ShowsOnLine, line_features}

-- ---- places

-- An action about a file names what its URI names, and nothing else.
pub names_other : (a : LineAction) (uri : List ℕ) (u w : UriPath) → uri_in a ≡ Some uri → uri_path uri ≡ u → (u ≡ w → ⊥) → (x : List ℕ) → uri_in a ≡ Some x → uri_path x ≡ w → ⊥
names_other a uri u w about is apart x also names = let same : uri ≡ x = cc in apart (sym is ∙ ap uri_path same ∙ names)

pub inside_not_none : (path : List ℕ) → inside_table path ≡ no_path → ⊥
inside_not_none path e = cc

pub inside_not_outside : (path : List ℕ) → inside_table path ≡ outside_table → ⊥
inside_not_outside path e = cc

pub inside_not_long : (path long : List ℕ) → inside_table path ≡ too_long long → ⊥
inside_not_long path long e = cc

pub no_uri : (a : LineAction) (x : List ℕ) → uri_in a ≡ None → uri_in a ≡ Some x → ⊥
no_uri a x none some = cc

-- An action that shows nothing: its URI names a path of the table, if it has one, and no feature is shown.
pub record IsFair (a : LineAction) : Type 0 where
  pub uri : NamesNoPath a → ⊥
  pub supported : NoneOf (λ f. ShowsOnLine f a) line_features
  pub short : HasLongPath a → ⊥

fair_without_uri : (a : LineAction) → uri_in a ≡ None → (HasDeletionVector a → ⊥) → (LacksCount a → ⊥) → (IsNotParquet a → ⊥) → IsFair a
fair_without_uri a none vector count parquet = record {
  uri = λ h. no_uri a h.0 none h.1;
  supported = (vector, ((λ h. no_uri a h.0 none h.1), (count, (parquet, tt))));
  short = λ h. no_uri a h.0 none h.2;
}

fair_inside : (a : LineAction) (uri path : List ℕ) → uri_in a ≡ Some uri → uri_path uri ≡ inside_table path → (HasDeletionVector a → ⊥) → (LacksCount a → ⊥) → (IsNotParquet a → ⊥) → IsFair a
fair_inside a uri path about is vector count parquet = record {
  uri = λ h. names_other a uri (inside_table path) no_path about is (inside_not_none path) h.0 h.1 h.2;
  supported = (vector, ((λ h. names_other a uri (inside_table path) outside_table about is (inside_not_outside path) h.0 h.1 h.2), (count, (parquet, tt))));
  short = λ h. names_other a uri (inside_table path) (too_long h.1) about is (inside_not_long path h.1) h.0 h.2 h.3;
}

-- ---- one action

-- The commit e is c and what the action says.
pub record Step (c : DeltaCommit) (a : LineAction) (e : DeltaCommit) : Type 0 where
  pub fair : IsFair a
  pub protocol : option_to_list e.protocol ≡ option_to_list c.protocol ++ option_to_list (protocol_in a)
  pub meta : option_to_list e.meta ≡ option_to_list c.meta ++ option_to_list (meta_in a)
  pub files : e.files ≡ c.files ++ option_to_list (file_in a)
  pub path : option_to_list (path_in a) ≡ file_paths (option_to_list (file_in a))
  pub new : (f : FileAction) → file_in a ≡ Some f → acts_on (file_path f) c.files ≡ false
  pub few : length c.files ≤ MAX_ACTIONS → length e.files ≤ MAX_ACTIONS

nothing_step : (c e : DeltaCommit) → c ≡ e → Step c action.NoAction e
nothing_step c e same = subst (λ d. Step c action.NoAction d) same (record {
  fair = fair_without_uri action.NoAction refl (λ h. h) (λ h. h) (λ h. h);
  protocol = sym (append-nil _);
  meta = sym (append-nil _);
  files = sym (append-nil _);
  path = refl;
  new = λ f h. absurd (cc);
  few = λ h. h;
})

protocol_step : (o : Option Protocol) (c : DeltaCommit) (p : Protocol) (e : DeltaCommit) → c.protocol ≡ o → cond (is_some o) (Err Malformed) (Ok (record c { protocol = Some p })) ≡ Ok e → Step c (action.Protocol p) e
protocol_step None c p e is h =
    let same : record c { protocol = Some p } ≡ e = cc in
    subst (λ d. Step c (action.Protocol p) d) same (record {
      fair = fair_without_uri (action.Protocol p) refl (λ h. h) (λ h. h) (λ h. h);
      protocol = rw is refl;
      meta = sym (append-nil _);
      files = sym (append-nil _);
      path = refl;
      new = λ f h. absurd (cc);
      few = λ h. h;
    })
protocol_step (Some q) c p e is h = absurd (cc)

meta_step : (o : Option MetaData) (b : Bool) (c : DeltaCommit) (m : MetaData) (e : DeltaCommit) → c.meta ≡ o → cond (is_some o) (Err Malformed) (cond b (Ok (record c { meta = Some m })) (Err (Unsupported FileFormat))) ≡ Ok e → Step c (action.MetaData m b) e
meta_step None true c m e is h =
    let same : record c { meta = Some m } ≡ e = cc in
    subst (λ d. Step c (action.MetaData m true) d) same (record {
      fair = fair_without_uri (action.MetaData m true) refl (λ h. h) (λ h. h) (λ h. cc);
      protocol = sym (append-nil _);
      meta = rw is refl;
      files = sym (append-nil _);
      path = refl;
      new = λ f h. absurd (cc);
      few = λ h. h;
    })
meta_step None false c m e is h = absurd (cc)
meta_step (Some q) b c m e is h = absurd (cc)

-- an action on a file, which is read as f
file_step : (full again : Bool) (c : DeltaCommit) (f : FileAction) (e : DeltaCommit) (a : LineAction) → nat_le MAX_ACTIONS (length c.files) ≡ full → acts_on (file_path f) c.files ≡ again
    → cond full (Err (Limit Actions)) (cond again (Err DoublePath) (Ok (with_new_file c f))) ≡ Ok e → IsFair a → protocol_in a ≡ None → meta_in a ≡ None → file_in a ≡ Some f → path_in a ≡ Some (file_path f) → Step c a e
file_step true again c f e a room new h fair p m is path = absurd (cc)
file_step false true c f e a room new h fair p m is path = absurd (cc)
file_step false false c f e a room new h fair p m is path =
    let same : with_new_file c f ≡ e = cc in
    let small : length c.files < MAX_ACTIONS = grind (arith, common_steps) in
    subst (λ d. Step c a d) same (record {
      fair = fair;
      protocol = rw p (sym (append-nil _));
      meta = rw m (sym (append-nil _));
      files = rw is refl;
      path = rw (path, is) refl;
      new = λ g named. let one : f ≡ g = cc in subst (λ x. acts_on (file_path x) c.files ≡ false) one new;
      few = λ h. rw length-append (omega arith);
    })

-- the path is the URI without its escapes
pub decoded : (uri path : List ℕ) → uri_path uri ≡ inside_table path → path ≡ percent_decode uri
decoded uri path is = (NamesPath-uri_path uri path is).decodes

add_step : (u : UriPath) (v : Bool) (count : Option ℕ) (c : DeltaCommit) (uri : List ℕ) (values : List (List ℕ × Option (List ℕ))) (size : ℕ) (e : DeltaCommit) → uri_path uri ≡ u
    → with_action c (action.Add uri values size count v) ≡ Ok e → Step c (action.Add uri values size count v) e
add_step (inside_table path) false (Some n) c uri values size e is h =
    let read : path ≡ percent_decode uri = decoded uri path is in
    let f = file.Add path values size n in
    file_step (nat_le MAX_ACTIONS (length c.files)) (acts_on path c.files) c f e (action.Add uri values size (Some n) false) refl refl (rw is at h)
    (fair_inside (action.Add uri values size (Some n) false) uri path refl is (λ h. cc) (λ h. cc) (λ h. h)) refl refl (ap (λ p. Some (file.Add p values size n)) (sym read)) (ap Some (sym read))
add_step (inside_table path) false None c uri values size e is h = let k = rw is at h in absurd (cc)
add_step (inside_table path) true count c uri values size e is h = let k = rw is at h in absurd (cc)
add_step (too_long path) false (Some n) c uri values size e is h = let k = rw is at h in absurd (cc)
add_step (too_long path) false None c uri values size e is h = let k = rw is at h in absurd (cc)
add_step (too_long path) true count c uri values size e is h = let k = rw is at h in absurd (cc)
add_step outside_table false count c uri values size e is h = let k = rw is at h in absurd (cc)
add_step outside_table true count c uri values size e is h = let k = rw is at h in absurd (cc)
add_step no_path v count c uri values size e is h = let k = rw is at h in absurd (cc)

remove_step : (u : UriPath) (v : Bool) (c : DeltaCommit) (uri : List ℕ) (e : DeltaCommit) → uri_path uri ≡ u → with_action c (action.Remove uri v) ≡ Ok e → Step c (action.Remove uri v) e
remove_step (inside_table path) false c uri e is h =
    let read : path ≡ percent_decode uri = decoded uri path is in
    let f = file.Remove path in
    file_step (nat_le MAX_ACTIONS (length c.files)) (acts_on path c.files) c f e (action.Remove uri false) refl refl (rw is at h)
    (fair_inside (action.Remove uri false) uri path refl is (λ h. cc) (λ h. h) (λ h. h)) refl refl (ap (λ p. Some (file.Remove p)) (sym read)) (ap Some (sym read))
remove_step (inside_table path) true c uri e is h = let k = rw is at h in absurd (cc)
remove_step (too_long path) false c uri e is h = let k = rw is at h in absurd (cc)
remove_step (too_long path) true c uri e is h = let k = rw is at h in absurd (cc)
remove_step outside_table false c uri e is h = let k = rw is at h in absurd (cc)
remove_step outside_table true c uri e is h = let k = rw is at h in absurd (cc)
remove_step no_path v c uri e is h = let k = rw is at h in absurd (cc)

pub step_of : (c : DeltaCommit) (a : LineAction) (e : DeltaCommit) → with_action c a ≡ Ok e → Step c a e
step_of c action.NoAction e h = nothing_step c e (cc)
step_of c (action.Protocol p) e h = protocol_step c.protocol c p e refl h
step_of c (action.MetaData m b) e h = meta_step c.meta b c m e refl h
step_of c (action.Add uri values size count v) e h = add_step (uri_path uri) v count c uri values size e refl h
step_of c (action.Remove uri v) e h = remove_step (uri_path uri) v c uri e refl h
