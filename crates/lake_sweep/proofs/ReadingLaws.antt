-- How an Iceberg table's lists and versions are read one after the other.
use Rattle.std.proofs.Common.{◌≡◌, ◌⊎◌, inl, inr, ⊎_elim, ℕ, ◌+◌, ◌<◌, List, [], ◌∷◌, ◌++◌, length, map, take, get_or, Contains, append_assoc, append-nil, sym, ap, subst, ◌∙◌}
use Rattle.std.specs.Prelude.{◌↔◌}
use Rattle.std.specs.List.{IsDistinct}
use Rattle.std.specs.Str.{bytes_eq}
use Rattle.std.proofs.lemmas.List.{map-append, take_more}
use Rattle.std.proofs.lemmas.List.Elements.{Contains-append_left, Contains-append_right, Contains-append_cases, Contains-push, Contains-push_cases}
use Rattle.lake_store.specs.Disk.{Files}
use Rattle.table_history.proofs.RowListLemmas.{Contains-cases, Contains-head, Contains-none, Contains-tail}
use Rattle.iceberg_live.specs.MetadataPaths.{IsMetadataPath}
use Rattle.iceberg_manifest.specs.Lists.{AreEach}
use Rattle.iceberg_manifest.specs.declared.info.ManifestInfo.{ManifestInfo}
use Rattle.iceberg_metadata.specs.declared.metadata.Metadata.{Metadata}
use Rattle.iceberg_table.specs.Files.{HoldsShortFile}
use Rattle.iceberg_table.specs.Lists.{IsListed, SaysList}
use Rattle.iceberg_table.specs.declared.list.ManifestFile.{ManifestFile}
use Rattle.lake_sweep.specs.Reading.{AreListsOf, HasRead, HasReadVersions, IsAt, IsNamedIn, IsRead, ListOf, NamesOnly, NamesPath, list_at}
use Rattle.lake_sweep.specs.Versions.{IsVersionRead, SaysLists}
use Rattle.lake_sweep.specs.declared.reached.Reached.{Reached}

-- ---- one list

-- the list is read alike by metadata of the same location and default spec
module _ (m n : Metadata) (location : n.location ≡ m.location) (spec : n.default_spec ≡ m.default_spec) where
  row_alike : (info : ManifestInfo) (file : ManifestFile) → IsListed n info file → IsListed m info file
  row_alike info file h = record { path = subst (λ (l : List ℕ). IsMetadataPath l info.manifest_path file.path) location h.path; row = h.row; spec = h.spec ∙ spec; deletes = h.deletes }

  each_alike : (infos : List ManifestInfo) (list : List ManifestFile) → AreEach (IsListed n) infos list → AreEach (IsListed m) infos list
  each_alike [] [] are = tt
  each_alike [] (f ∷ list) are = absurd are
  each_alike (info ∷ infos) [] are = absurd are
  each_alike (info ∷ infos) (f ∷ list) are = (row_alike info f are.0, each_alike infos list are.1)

  list_alike : (files : Files) (path : List ℕ) (list : List ManifestFile) → SaysList files n path list → SaysList files m path list
  list_alike files path list h = record { bytes = h.bytes; holds = h.holds; infos = h.infos; rows = h.rows; listed = each_alike h.infos list h.listed }

-- one item more
more_of : (lists : List ListOf) (l k : ListOf) → Contains lists k → Contains (lists ++ l ∷ []) k
more_of lists l k within = Contains-append_left lists (l ∷ []) k within

module _ (files : Files) (lists : List ListOf) (m : Metadata) (path : List ℕ) (r : Reached) (at : IsAt m r) (has : HasRead files lists r) where
  abbrev new : ListOf
  new = list_at m path

  -- a list that is marked as read
  module _ (within : Contains r.read.keys path) where
    abbrev old : ListOf
    old = (has.marked path within).0

    old_there : Contains lists old
    old_there = (has.marked path within).1

    old_path : old.path ≡ path
    old_path = (has.marked path within).2

    old_location : old.metadata.location ≡ m.location
    old_location = (has.marked path within).3 ∙ at.location

    old_spec : old.metadata.default_spec ≡ m.default_spec
    old_spec = (has.marked path within).4 ∙ at.spec

    to_new : (manifests : List ManifestFile) → SaysList files old.metadata old.path manifests → SaysList files m path manifests
    to_new manifests h = list_alike m old.metadata old_location old_spec files path manifests (subst (λ (p : List ℕ). SaysList files old.metadata p manifests) old_path h)

    to_old : (manifests : List ManifestFile) → SaysList files m path manifests → SaysList files old.metadata old.path manifests
    to_old manifests h = list_alike old.metadata m (sym old_location) (sym old_spec) files old.path manifests (subst (λ (p : List ℕ). SaysList files m p manifests) (sym old_path) h)

    new_read : IsRead files new
    new_read = let h = has.read old old_there in record { list = h.list; says = to_new h.list h.says; short = subst (λ (p : List ℕ). HoldsShortFile files p) old_path h.short }

    names_old : (q : List ℕ) → NamesPath files new q → NamesPath files old q
    names_old q (inl is) = inl (is ∙ sym old_path)
    names_old q (inr h) = inr (h.0, to_old h.0 h.1, h.2)

    pub again : HasRead files (lists ++ new ∷ []) r
    again = record {
      read = λ l there. ⊎_elim (λ before. has.read l before) (λ (same : new ≡ l). subst (λ (k : ListOf). IsRead files k) same new_read) (Contains-push_cases lists new l there);
      distinct = has.distinct;
      members = λ q. (
        λ there. let h = (has.members q).0 there in (h.0, more_of lists new h.0 h.1, h.2),
        λ (h : (l : ListOf) × Contains (lists ++ new ∷ []) l × NamesPath files l q). ⊎_elim
            (λ before. (has.members q).1 (h.0, before, h.2))
            (λ (same : new ≡ h.0). (has.members q).1 (old, old_there, names_old q (subst (λ (k : ListOf). NamesPath files k q) (sym same) h.2)))
            (Contains-push_cases lists new h.0 h.1),
      );
      marked = λ q there. let h = has.marked q there in (h.0, more_of lists new h.0 h.1, h.2, h.3, h.4);
    }

  -- a list that is read now
  module _ (manifests : List ManifestFile) (names : NamesOnly files m path manifests)
      (after : Reached) (middle : List (List ℕ)) (first : (q : List ℕ) → Contains middle q ↔ (Contains r.paths.keys q ⊎ (q ≡ path))) (rest : (q : List ℕ) → Contains after.paths.keys q ↔ (Contains middle q ⊎ IsNamedIn manifests q))
      (distinct : IsDistinct bytes_eq after.paths.keys) (marks : (q : List ℕ) → Contains after.read.keys q ↔ (Contains r.read.keys q ⊎ (q ≡ path))) (location : after.location ≡ r.location) (spec : after.spec ≡ r.spec) where
    from_after : (q : List ℕ) → Contains after.paths.keys q → (l : ListOf) × Contains (lists ++ new ∷ []) l × NamesPath files l q
    from_after q there = ⊎_elim
        (λ in_middle. ⊎_elim
        (λ before. let h = (has.members q).0 before in (h.0, more_of lists new h.0 h.1, h.2))
        (λ (is : q ≡ path). (new, Contains-push lists new, inl is))
        ((first q).0 in_middle))
        (λ named. (new, Contains-push lists new, inr (manifests, names.says, named)))
        ((rest q).0 there)

    of_new : (q : List ℕ) → NamesPath files new q → Contains after.paths.keys q
    of_new q (inl is) = (rest q).1 (inl ((first q).1 (inr is)))
    of_new q (inr h) = (rest q).1 (inr (subst (λ (l : List ManifestFile). IsNamedIn l q) (names.only h.0 h.1) h.2))

    pub read_now : IsAt m after × HasRead files (lists ++ new ∷ []) after
    read_now = (
      record { location = location ∙ at.location; spec = spec ∙ at.spec },
      record {
        read = λ l there. ⊎_elim (λ before. has.read l before) (λ (same : new ≡ l). subst (λ (k : ListOf). IsRead files k) same (record { list = manifests; says = names.says; short = names.short })) (Contains-push_cases lists new l there);
        distinct = distinct;
        members = λ q. (
          λ there. from_after q there,
          λ (h : (l : ListOf) × Contains (lists ++ new ∷ []) l × NamesPath files l q). ⊎_elim
              (λ before. (rest q).1 (inl ((first q).1 (inl ((has.members q).1 (h.0, before, h.2))))))
              (λ (same : new ≡ h.0). of_new q (subst (λ (k : ListOf). NamesPath files k q) (sym same) h.2))
              (Contains-push_cases lists new h.0 h.1),
        );
        marked = λ q there. ⊎_elim
            (λ before. let h = has.marked q before in (h.0, more_of lists new h.0 h.1, h.2, h.3 ∙ sym location, h.4 ∙ sym spec))
            (λ (is : q ≡ path). (new, Contains-push lists new, sym is, sym at.location ∙ sym location, sym at.spec ∙ sym spec))
            ((marks q).0 there);
      },
    )

-- ---- at another place

pub moved : (files : Files) (lists : List ListOf) (r after : Reached) → HasRead files lists r → after.paths.keys ≡ r.paths.keys → after.read.keys ≡ [] → HasRead files lists after
moved files lists r after has same none = record {
  read = has.read;
  distinct = subst (λ (l : List (List ℕ)). IsDistinct bytes_eq l) (sym same) has.distinct;
  members = λ q. (λ there. (has.members q).0 (subst (λ (l : List (List ℕ)). Contains l q) same there), λ h. subst (λ (l : List (List ℕ)). Contains l q) (sym same) ((has.members q).1 h));
  marked = λ q there. absurd (Contains-none q (subst (λ (l : List (List ℕ)). Contains l q) none there));
}

none_twice : IsDistinct bytes_eq []
unfolding IsDistinct
none_twice = tt

-- nothing was read yet
pub nothing_read : (files : Files) (r : Reached) → r.paths.keys ≡ [] → r.read.keys ≡ [] → HasReadVersions files [] r
nothing_read files r none unread = record {
  lists = [];
  are = record { from = λ l there. absurd (Contains-none l there); all = λ v there. absurd (Contains-none v there) };
  read = record {
    read = λ l there. absurd (Contains-none l there);
    distinct = subst (λ (l : List (List ℕ)). IsDistinct bytes_eq l) (sym none) none_twice;
    members = λ q. (λ there. absurd (Contains-none q (subst (λ (l : List (List ℕ)). Contains l q) none there)), λ h. absurd (Contains-none h.0 h.1));
    marked = λ q there. absurd (Contains-none q (subst (λ (l : List (List ℕ)). Contains l q) unread there));
  };
}

-- ---- several lists

pub lists_more : (lists : List ListOf) (m : Metadata) (paths : List (List ℕ)) (i : ℕ) (p : List ℕ) → i < length paths → p ≡ get_or paths i p
    → (lists ++ map (list_at m) (take i paths)) ++ list_at m p ∷ [] ≡ lists ++ map (list_at m) (take (i + 1) paths)
lists_more lists m paths i p lt is =
    append_assoc lists (map (list_at m) (take i paths)) (list_at m p ∷ [])
    ∙ ap (λ (l : List ListOf). lists ++ l)
    (sym (ap (λ (l : List (List ℕ)). map (list_at m) l) (take_more paths i p lt) ∙ map-append (list_at m) (take i paths) (get_or paths i p ∷ []) ∙ ap (λ (q : List ℕ). map (list_at m) (take i paths) ++ list_at m q ∷ []) (sym is)))

pub lists_none : (lists : List ListOf) (m : Metadata) (paths : List (List ℕ)) → lists ++ map (list_at m) (take 0 paths) ≡ lists
lists_none lists m paths = append-nil lists

-- a path of these lists, among them
pub mapped_in : (m : Metadata) (paths : List (List ℕ)) (p : List ℕ) → Contains paths p → Contains (map (list_at m) paths) (list_at m p)
mapped_in m [] p within = absurd (Contains-none p within)
mapped_in m (q ∷ paths) p within = ⊎_elim
    (λ (same : q ≡ p). subst (λ (k : List ℕ). Contains (map (list_at m) (q ∷ paths)) (list_at m k)) same (Contains-head (list_at m q) (map (list_at m) paths)))
    (λ later. Contains-tail (list_at m q) (map (list_at m) paths) (list_at m p) (mapped_in m paths p later))
    (Contains-cases q paths p within)

pub mapped_from : (m : Metadata) (paths : List (List ℕ)) (l : ListOf) → Contains (map (list_at m) paths) l → (p : List ℕ) × Contains paths p × (list_at m p ≡ l)
mapped_from m [] l within = absurd (Contains-none l within)
mapped_from m (q ∷ paths) l within = ⊎_elim
    (λ (same : list_at m q ≡ l). (q, Contains-head q paths, same))
    (λ later. let h = mapped_from m paths l later in (h.0, Contains-tail q paths h.0 h.1, h.2))
    (Contains-cases (list_at m q) (map (list_at m) paths) l within)

-- ---- a version more

module _ (files : Files) (versions : List ℕ) (version : ℕ) (lists : List ListOf) (are : AreListsOf files versions lists) (m : Metadata) (paths : List (List ℕ)) (says : SaysLists files version m paths) where
  from_of : (l : ListOf) → Contains (lists ++ map (list_at m) paths) l → (v : ℕ) × Contains (versions ++ version ∷ []) v × ((ps : List (List ℕ)) × SaysLists files v l.metadata ps × Contains ps l.path)
  from_of l there = ⊎_elim
      (λ before. let h = are.from l before in (h.0, Contains-append_left versions (version ∷ []) h.0 h.1, h.2))
      (λ new. let h = mapped_from m paths l new in
      subst (λ (k : ListOf). (v : ℕ) × Contains (versions ++ version ∷ []) v × ((ps : List (List ℕ)) × SaysLists files v k.metadata ps × Contains ps k.path)) h.2 (version, Contains-push versions version, (paths, says, h.1)))
      (Contains-append_cases lists (map (list_at m) paths) l there)

  all_of : (v : ℕ) → Contains (versions ++ version ∷ []) v → (n : Metadata) × (ps : List (List ℕ)) × SaysLists files v n ps × ((p : List ℕ) → Contains ps p → Contains (lists ++ map (list_at m) paths) (list_at n p))
  all_of v there = ⊎_elim
      (λ before. let h = are.all v before in (h.0, h.1, h.2, λ p within. Contains-append_left lists (map (list_at m) paths) (list_at h.0 p) (h.3 p within)))
      (λ (same : version ≡ v). (m, paths, subst (λ (w : ℕ). SaysLists files w m paths) same says, λ p within. Contains-append_right lists (map (list_at m) paths) (list_at m p) (mapped_in m paths p within)))
      (Contains-push_cases versions version v there)

  pub versions_more : AreListsOf files (versions ++ version ∷ []) (lists ++ map (list_at m) paths)
  versions_more = record { from = from_of; all = all_of }

-- a version that was read
pub version_read : (files : Files) (versions : List ℕ) (r : Reached) → HasReadVersions files versions r → (v : ℕ) → Contains versions v → IsVersionRead files v
version_read files versions r has v within =
    let h = has.are.all v within in
    record { metadata = h.0; paths = h.1; says = h.2; lists = λ p there. has.read.read (list_at h.0 p) (h.3 p there) }
