-- What a line is about, by the action that it is.
use Rattle.std.proofs.Common.{◌≡◌, ◌⊎◌, inl, inr, ℕ, List, codes, Option, Some, None, Bool, true, false, cond, Result, Ok, Err, refl, sym, ap, subst, ◌∙◌}
use Rattle.std.specs.Prelude.{is_some}
use Rattle.std.specs.List.{list_all}
use Rattle.percent_encoding.specs.Percent.{percent_decode}
use Rattle.serde_json.specs.Data.{Data}
use Rattle.serde_json.specs.Find.{as_object, get}
use Rattle.lake_basics.specs.Outcome.{◌>>=◌, required, each}
use Rattle.lake_basics.proofs.Options.{some_once, some_or_none}
use Rattle.json_reading.specs.Json.{json, present, text, text_member, list_member, object_member, count_member, whole_member, items, pairs}
use Rattle.delta_log.specs.declared.action.LineAction.{LineAction}
use Rattle.delta_log.specs.declared.action.LineAction.TheVariants as action
use Rattle.delta_log.specs.declared.commit.MetaData.{MetaData}
use Rattle.delta_log.specs.declared.commit.Protocol.{Protocol}
use Rattle.delta_log.specs.declared.error.LineFault.{LineFault}
use Rattle.delta_log.specs.declared.error.LineFault.TheVariants.{Malformed}
use Rattle.delta_log.specs.Grammar as grammar
use Rattle.delta_log.specs.Grammar.{is_space, line_action, object_action, only_action}
use Rattle.delta_log.specs.Readable.{meta_in, path_in, protocol_in, uri_in}
use Rattle.delta_log.proofs.SaysLemmas.{there}
use Rattle.delta_compaction.specs.declared.key.LineKey.TheVariants as key
use Rattle.delta_compaction.specs.Lines.{ActsOnUri, HasMember, IsAbout, line_json}

-- ---- readings that succeed

abbrev Gave : {A B : Type 0} → Result A LineFault → (A → Result B LineFault) → B → Type 0
Gave {A} r f b = (x : A) × (r ≡ Ok x) × (f x ≡ Ok b)

gave : {A B : Type 0} (r : Result A LineFault) (f : A → Result B LineFault) (b : B) → (r >>= f) ≡ Ok b → Gave r f b
gave (Ok x) f b e = (x, refl, e)
gave (Err fault) f b e = absurd (cc)

-- ---- the parts of an action

abbrev IsProtocol : LineAction → Type 0
IsProtocol a = (p : Protocol) × (a ≡ action.Protocol p)

abbrev IsMeta : LineAction → Type 0
IsMeta a = (m : MetaData) × (is_parquet : Bool) × (a ≡ action.MetaData m is_parquet)

-- The action adds or removes the file of this URI.
abbrev IsOn : LineAction → List ℕ → Type 0
IsOn a uri = (uri_in a ≡ Some uri) × (path_in a ≡ Some (percent_decode uri)) × (protocol_in a ≡ None) × (meta_in a ≡ None)

ok_same : (b a : LineAction) → ◌≡◌ {A = Result LineAction LineFault} (Ok b) (Ok a) → a ≡ b
ok_same b a e = let same : b ≡ a = cc in sym same

ok_protocol : (p : Protocol) (a : LineAction) → ◌≡◌ {A = Result LineAction LineFault} (Ok (action.Protocol p)) (Ok a) → IsProtocol a
ok_protocol p a e = (p, ok_same (action.Protocol p) a e)

ok_meta : (m : MetaData) (is_parquet : Bool) (a : LineAction) → ◌≡◌ {A = Result LineAction LineFault} (Ok (action.MetaData m is_parquet)) (Ok a) → IsMeta a
ok_meta m is_parquet a e = (m, is_parquet, ok_same (action.MetaData m is_parquet) a e)

protocol_is : (d : Data) (a : LineAction) → grammar.protocol d ≡ Ok a → IsProtocol a
unfolding grammar.protocol
protocol_is d a e =
    let reader = gave (required Malformed (whole_member (codes "minReaderVersion") d)) _ a e in
    let writer = gave (required Malformed (whole_member (codes "minWriterVersion") d)) _ a reader.2 in
    let stated = gave (grammar.features (present (codes "readerFeatures") d)) _ a writer.2 in
    let needed = gave (grammar.needed_features reader.0 stated.0) _ a stated.2 in
    let features = gave (grammar.features (present (codes "writerFeatures") d)) _ a needed.2 in
    ok_protocol _ a features.2

meta_is : (d : Data) (a : LineAction) → grammar.meta_data d ≡ Ok a → IsMeta a
unfolding grammar.meta_data
meta_is d a e =
    let id = gave (required Malformed (text_member (codes "id") d)) _ a e in
    let format = gave (required Malformed (get (codes "format") d)) _ a id.2 in
    let provider = gave (required Malformed (text_member (codes "provider") format.0)) _ a format.2 in
    let schema = gave (required Malformed (text_member (codes "schemaString") d)) _ a provider.2 in
    let columns = gave (required Malformed (list_member (codes "partitionColumns") d)) _ a schema.2 in
    let partition = gave (each (text Malformed) (items columns.0)) _ a columns.2 in
    let configuration = gave (grammar.settings (get (codes "configuration") d)) _ a partition.2 in
    ok_meta _ _ a configuration.2

abbrev FileUri : Data → LineAction → Type 0
FileUri d a = (uri : List ℕ) × (text_member (codes "path") d ≡ Some uri) × IsOn a uri

ok_add : (uri : List ℕ) (values : List (List ℕ × Option (List ℕ))) (size : ℕ) (count : Option ℕ) (vector : Bool) (a : LineAction)
    → ◌≡◌ {A = Result LineAction LineFault} (Ok (action.Add uri values size count vector)) (Ok a) → IsOn a uri
ok_add uri values size count vector a e = subst (λ x. IsOn x uri) (sym (ok_same (action.Add uri values size count vector) a e)) (refl, refl, refl, refl)

ok_remove : (uri : List ℕ) (vector : Bool) (a : LineAction) → ◌≡◌ {A = Result LineAction LineFault} (Ok (action.Remove uri vector)) (Ok a) → IsOn a uri
ok_remove uri vector a e = subst (λ x. IsOn x uri) (sym (ok_same (action.Remove uri vector) a e)) (refl, refl, refl, refl)

add_is : (d : Data) (a : LineAction) → grammar.add d ≡ Ok a → FileUri d a
unfolding grammar.add
add_is d a e =
    let uri = gave (required Malformed (text_member (codes "path") d)) _ a e in
    let members = gave (required Malformed (object_member (codes "partitionValues") d)) _ a uri.2 in
    let values = gave (each grammar.partition_value (pairs members.0)) _ a members.2 in
    let size = gave (required Malformed (count_member (codes "size") d)) _ a values.2 in
    let count = gave (grammar.record_count d) _ a size.2 in
    (uri.0, there (text_member (codes "path") d) uri.0 uri.1, ok_add uri.0 values.0 size.0 count.0 (is_some (present (codes "deletionVector") d)) a count.2)

remove_is : (d : Data) (a : LineAction) → grammar.remove d ≡ Ok a → FileUri d a
unfolding grammar.remove
remove_is d a e =
    let uri = gave (required Malformed (text_member (codes "path") d)) _ a e in
    (uri.0, there (text_member (codes "path") d) uri.0 uri.1, ok_remove uri.0 (is_some (present (codes "deletionVector") d)) a uri.2)

-- ---- the shape of a line

abbrev Four : Data → Option Data → Option Data → Option Data → Option Data → Type 0
Four d p m a r = (present (codes "protocol") d ≡ p) × (present (codes "metaData") d ≡ m) × (present (codes "add") d ≡ a) × (present (codes "remove") d ≡ r)

-- which of the four members a line has, and what its action is then
abbrev Shape : Data → LineAction → Type 0
Shape d a =
    (Four d None None None None × (a ≡ action.NoAction))
    ⊎ (((m : Data) × Four d (Some m) None None None × IsProtocol a)
    ⊎ (((m : Data) × Four d None (Some m) None None × IsMeta a)
    ⊎ (((m : Data) × Four d None None (Some m) None × FileUri m a)
    ⊎ ((m : Data) × Four d None None None (Some m) × FileUri m a))))

shape_by : (d : Data) (p m a r : Option Data) (x : LineAction) → Four d p m a r → only_action p m a r ≡ Ok x → Shape d x
shape_by d None None None None x four e = inl (four, sym (cc e))
shape_by d (Some c) None None None x four e = inr (inl (c, four, protocol_is c x e))
shape_by d None (Some c) None None x four e = inr (inr (inl (c, four, meta_is c x e)))
shape_by d None None (Some c) None x four e = inr (inr (inr (inl (c, four, add_is c x e))))
shape_by d None None None (Some c) x four e = inr (inr (inr (inr (c, four, remove_is c x e))))
shape_by d (Some b) (Some c) a r x four e = absurd (cc)
shape_by d (Some b) None (Some c) r x four e = absurd (cc)
shape_by d (Some b) None None (Some c) x four e = absurd (cc)
shape_by d None (Some b) (Some c) r x four e = absurd (cc)
shape_by d None (Some b) None (Some c) x four e = absurd (cc)
shape_by d None None (Some b) (Some c) x four e = absurd (cc)

shape_of : (d : Data) (a : LineAction) → object_action d ≡ Ok a → Shape d a
unfolding object_action
shape_of d a e =
    let members = gave (required Malformed (as_object d)) _ a e in
    shape_by d (present (codes "protocol") d) (present (codes "metaData") d) (present (codes "add") d) (present (codes "remove") d) a (refl, refl, refl, refl) members.2

-- The line is blank and has no action, or it is an object of this shape.
abbrev Says : List ℕ → LineAction → Type 0
Says line a = ((line_json line ≡ None) × (a ≡ action.NoAction)) ⊎ ((d : Data) × (line_json line ≡ Some d) × Shape d a)

says : (line : List ℕ) (a : LineAction) → line_action line ≡ Ok a → Says line a
unfolding line_action
says line a e = by (list_all is_space line) refl e
  where
    by : (b : Bool) → list_all is_space line ≡ b → cond b (Ok action.NoAction) (required Malformed (json line) >>= object_action) ≡ Ok a → Says line a
    by true blank h = inl (ap (λ c. cond c None (json line)) blank, sym (cc h))
    by false blank h =
        let read = gave (required Malformed (json line)) object_action a h in
        inr (read.0, ap (λ c. cond c None (json line)) blank ∙ there (json line) read.0 read.1, shape_of read.0 a read.2)

-- ---- the shape of the line of a member

same_data : (line : List ℕ) (d e : Data) → line_json line ≡ Some d → line_json line ≡ Some e → d ≡ e
same_data line d e p q = cc

-- what a line with this member says
at_data : (line name : List ℕ) (m : Data) (a : LineAction) → HasMember line name m → Says line a → (d : Data) × (present name d ≡ Some m) × Shape d a
at_data line name m a (d, is, e) (inl blank) = absurd (some_or_none (line_json line) d is blank.0)
at_data line name m a (d, is, e) (inr said) = (said.0, ap (present name) (same_data line said.0 d said.1 is) ∙ e, said.2)

-- the four shapes at each of the four members
protocol_at : (d m : Data) (a : LineAction) → present (codes "protocol") d ≡ Some m → Shape d a → IsProtocol a
protocol_at d m a e (inl h) = absurd (some_or_none _ m e h.0.0)
protocol_at d m a e (inr (inl h)) = h.2
protocol_at d m a e (inr (inr (inl h))) = absurd (some_or_none _ m e h.1.0)
protocol_at d m a e (inr (inr (inr (inl h)))) = absurd (some_or_none _ m e h.1.0)
protocol_at d m a e (inr (inr (inr (inr h)))) = absurd (some_or_none _ m e h.1.0)

meta_at : (d m : Data) (a : LineAction) → present (codes "metaData") d ≡ Some m → Shape d a → IsMeta a
meta_at d m a e (inl h) = absurd (some_or_none _ m e h.0.1)
meta_at d m a e (inr (inl h)) = absurd (some_or_none _ m e h.1.1)
meta_at d m a e (inr (inr (inl h))) = h.2
meta_at d m a e (inr (inr (inr (inl h)))) = absurd (some_or_none _ m e h.1.1)
meta_at d m a e (inr (inr (inr (inr h)))) = absurd (some_or_none _ m e h.1.1)

add_at : (d m : Data) (a : LineAction) → present (codes "add") d ≡ Some m → Shape d a → FileUri m a
add_at d m a e (inl h) = absurd (some_or_none _ m e h.0.2)
add_at d m a e (inr (inl h)) = absurd (some_or_none _ m e h.1.2)
add_at d m a e (inr (inr (inl h))) = absurd (some_or_none _ m e h.1.2)
add_at d m a e (inr (inr (inr (inl h)))) = subst (λ x. FileUri x a) (some_once _ h.0 m h.1.2 e) h.2
add_at d m a e (inr (inr (inr (inr h)))) = absurd (some_or_none _ m e h.1.2)

remove_at : (d m : Data) (a : LineAction) → present (codes "remove") d ≡ Some m → Shape d a → FileUri m a
remove_at d m a e (inl h) = absurd (some_or_none _ m e h.0.3)
remove_at d m a e (inr (inl h)) = absurd (some_or_none _ m e h.1.3)
remove_at d m a e (inr (inr (inl h))) = absurd (some_or_none _ m e h.1.3)
remove_at d m a e (inr (inr (inr (inl h)))) = absurd (some_or_none _ m e h.1.3)
remove_at d m a e (inr (inr (inr (inr h)))) = subst (λ x. FileUri x a) (some_once _ h.0 m h.1.3 e) h.2

-- ---- from what a line is about to its action

module _ (line : List ℕ) (a : LineAction) (read : line_action line ≡ Ok a) where
  pub about_protocol : IsAbout line key.Protocol → (p : Protocol) × (protocol_in a ≡ Some p)
  about_protocol (m, has) =
      let d = at_data line (codes "protocol") m a has (says line a read) in
      let is = protocol_at d.0 m a d.1 d.2 in
      (is.0, ap protocol_in is.1)

  pub about_meta : IsAbout line key.MetaData → (m : MetaData) × (is_parquet : Bool) × (a ≡ action.MetaData m is_parquet)
  about_meta (m, has) =
      let d = at_data line (codes "metaData") m a has (says line a read) in
      meta_at d.0 m a d.1 d.2

  acts_on : (uri : List ℕ) → ActsOnUri line uri → IsOn a uri
  acts_on uri (m, inl has, named) =
      let d = at_data line (codes "add") m a has (says line a read) in
      let is = add_at d.0 m a d.1 d.2 in
      subst (IsOn a) (some_once _ is.0 uri is.1 named) is.2
  acts_on uri (m, inr has, named) =
      let d = at_data line (codes "remove") m a has (says line a read) in
      let is = remove_at d.0 m a d.1 d.2 in
      subst (IsOn a) (some_once _ is.0 uri is.1 named) is.2

  pub acts_uri : (uri : List ℕ) → ActsOnUri line uri → uri_in a ≡ Some uri
  acts_uri uri acts = (acts_on uri acts).0

  pub about_path : (path : List ℕ) → IsAbout line (key.File path) → path_in a ≡ Some path
  about_path path (uri, acts, decodes) = (acts_on uri acts).1 ∙ ap (λ p. Some p) (sym decodes)

  -- ---- and back

  no_protocol : a ≡ action.NoAction → (p : Protocol) → protocol_in a ≡ Some p → ⊥
  no_protocol is p e = let none : protocol_in a ≡ None = ap protocol_in is in cc

  no_meta : a ≡ action.NoAction → (m : MetaData) → meta_in a ≡ Some m → ⊥
  no_meta is m e = let none : meta_in a ≡ None = ap meta_in is in cc

  no_path_in : a ≡ action.NoAction → (path : List ℕ) → path_in a ≡ Some path → ⊥
  no_path_in is path e = let none : path_in a ≡ None = ap path_in is in cc

  pub protocol_about : (p : Protocol) → protocol_in a ≡ Some p → IsAbout line key.Protocol
  protocol_about p e = by (says line a read)
    where
      by : Says line a → IsAbout line key.Protocol
      by (inl blank) = absurd (no_protocol blank.1 p e)
      by (inr (d, is, inl h)) = absurd (no_protocol h.1 p e)
      by (inr (d, is, inr (inl h))) = (h.0, (d, is, h.1.0))
      by (inr (d, is, inr (inr (inl h)))) = absurd (some_or_none (protocol_in a) p e (ap protocol_in h.2.2))
      by (inr (d, is, inr (inr (inr (inl h))))) = absurd (some_or_none (protocol_in a) p e h.2.2.2)
      by (inr (d, is, inr (inr (inr (inr h))))) = absurd (some_or_none (protocol_in a) p e h.2.2.2)

  pub meta_about : (m : MetaData) → meta_in a ≡ Some m → IsAbout line key.MetaData
  meta_about m e = by (says line a read)
    where
      by : Says line a → IsAbout line key.MetaData
      by (inl blank) = absurd (no_meta blank.1 m e)
      by (inr (d, is, inl h)) = absurd (no_meta h.1 m e)
      by (inr (d, is, inr (inl h))) = absurd (some_or_none (meta_in a) m e (ap meta_in h.2.1))
      by (inr (d, is, inr (inr (inl h)))) = (h.0, (d, is, h.1.1))
      by (inr (d, is, inr (inr (inr (inl h))))) = absurd (some_or_none (meta_in a) m e h.2.2.3)
      by (inr (d, is, inr (inr (inr (inr h))))) = absurd (some_or_none (meta_in a) m e h.2.2.3)

  pub path_about : (path : List ℕ) → path_in a ≡ Some path → IsAbout line (key.File path)
  path_about path e = by (says line a read)
    where
      by : Says line a → IsAbout line (key.File path)
      by (inl blank) = absurd (no_path_in blank.1 path e)
      by (inr (d, is, inl h)) = absurd (no_path_in h.1 path e)
      by (inr (d, is, inr (inl h))) = absurd (some_or_none (path_in a) path e (ap path_in h.2.1))
      by (inr (d, is, inr (inr (inl h)))) = absurd (some_or_none (path_in a) path e (ap path_in h.2.2))
      by (inr (d, is, inr (inr (inr (inl h))))) = (h.2.0, (h.0, inl (d, is, h.1.2), h.2.1), some_once (path_in a) path _ e h.2.2.1)
      by (inr (d, is, inr (inr (inr (inr h))))) = (h.2.0, (h.0, inr (d, is, h.1.3), h.2.1), some_once (path_in a) path _ e h.2.2.1)
