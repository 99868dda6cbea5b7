-- The manifests of a new list can be made, and the list can be written.
use Rattle.std.proofs.Common.{◌≡◌, Bor, inl, inr, ⊎_elim, ℕ, pos, ◌<◌, ◌≤◌, List, [], ◌∷◌, ◌++◌, map, length, drop, Bool, true, false, ◌||◌, cond, Contains, IsSome, Option, None, Some, refl, sym, ap, subst, ◌∙◌, arith}
use Rattle.std.specs.Prelude.{IfErr, IfOk, Result, Ok, Err, is_some, nat_eq, unwrap_or}
use Rattle.target_core.specs.declared.target.TargetError.{TargetError}
use Rattle.std.specs.List.{IsDistinct, filter, list_all, list_any}
use Rattle.std.specs.Ordering.{int_eq}
use Rattle.std.proofs.Math.Logic.{∥∥₁_elim}
use Rattle.std.proofs.lemmas.Bool.Decides.{Decides-int_eq, nat_tests}
use Rattle.std.proofs.lemmas.List.{length-append, length-drop, length-map}
use Rattle.std.proofs.lemmas.List.Elements.{Contains-append_cases}
use Rattle.std.specs.Coded.{le_prop}
use Rattle.std.proofs.lemmas.Bool.{and_parts}
use Rattle.lake_basics.specs.declared.limits.TheConstants.{MAX_AVRO_VALUES, MAX_LIVE_FILES, MAX_MANIFEST_ENTRIES}
use Rattle.file_links.specs.Rows.{Entry, OwnedRows, Owns, rows_of}
use Rattle.file_links.specs.declared.slots.Held.{Held}
use Rattle.table_history.specs.Row.{Row}
use Rattle.table_history.specs.Rows.{IsInPathOrder, SameRows}
use Rattle.table_history.specs.declared.table.Change.{Change}
use Rattle.table_history.specs.declared.table.Commit.{Commit}
use Rattle.table_history.proofs.RowListLemmas.{Contains-cases, Contains-filter, Contains-head, Contains-none, Contains-tail}
use Rattle.target_core.specs.Conditions.{CanPublish}
use Rattle.target_core.proofs.Lists.{some_length}
use Rattle.table_history.specs.Path.{is_path}
use Rattle.iceberg_manifest.specs.Entry.{EntryData}
use Rattle.iceberg_manifest.specs.Lists.{AreEach}
use Rattle.iceberg_manifest.specs.ListWriting.{HasContent, IsWritableList}
use Rattle.iceberg_manifest.specs.declared.info.ManifestInfo.{ManifestInfo}
use Rattle.iceberg_metadata.proofs.ListLemmas.{all_from}
use Rattle.iceberg_version.specs.Carrying.{IsNextList, IsNextOf, parts_at, rows_at}
use Rattle.iceberg_version.specs.KeptEnd.{held_rows, live_manifest, manifests_of, view_of}
use Rattle.iceberg_version.specs.Manifests.{AreParts, LiveManifest, NextManifest, added_entry, added_manifest, carried, has_rows, is_lost, new, new_entries, rewritten_entries, stays}
use Rattle.iceberg_commit.specs.NewVersion.{AreNextOf, ChangesKinds, IsLayoutOf, IsNewText}
use Rattle.iceberg_version.specs.Sound.{AreRowsOf, has_content}
use Rattle.iceberg_commit.specs.Texts.{AreTexts, CanBeMade, HasOwners, IsMadeOf, IsTextAmong, IsTextRefusal, IsWritableIn}
use Rattle.iceberg_version.specs.declared.before.Before.{Before}
use Rattle.iceberg_version.specs.declared.carrying.Next.{Next}
use Rattle.iceberg_version.specs.declared.carrying.Next.TheVariants.{Added, Anew, Stays}
use Rattle.iceberg_version.specs.declared.kept.IcebergKept.{IcebergKept}
use Rattle.iceberg_version.specs.declared.kept.KeptManifest.{KeptManifest}
use Rattle.iceberg_version.specs.declared.layout.Layout.{Layout}
use Rattle.iceberg_commit.specs.declared.new_list.NewList.{NewList}
use Rattle.iceberg_commit.proofs.AddedLemmas.{rows_cut}
use Rattle.iceberg_commit.proofs.CountRowsLemmas.{few_firsts}
use Rattle.iceberg_version.proofs.ListLemmas.{mapped_at}
use Rattle.iceberg_commit.proofs.MadeLemmas.{added_written, anew_written, part_row, part_short}
use Rattle.iceberg_commit.proofs.NewListLemmas.{added_few, owner_there, rows_born}
use Rattle.iceberg_version.proofs.NextLemmas.{all_next}
use Rattle.iceberg_version.proofs.RowLemmas.{entries_of, there}
use Rattle.iceberg_version.proofs.Shared.{each_length, of_map, slice_there}
use Rattle.iceberg_commit.proofs.TextLemmas.{listed_lengths, one_made, text_refusal}
use Rattle.iceberg_commit.proofs.WritableListLemmas.{listed_contents, listed_places}

-- ---- lists

each_of : {A B : Type 0} (P : A → B → Type 0) (xs : List A) (ys : List B) (x : A) → AreEach P xs ys → Contains xs x → (y : B) × P x y
each_of P [] ys x are named = absurd (Contains-none x named)
each_of P (z ∷ xs) [] x are named = absurd are
each_of P (z ∷ xs) (y ∷ ys) x are named = ⊎_elim (λ same. (y, subst (λ w. P w y) same are.0)) (λ later. each_of P xs ys x are.1 later) (Contains-cases z xs x named)

each_there : {A B : Type 0} (P : A → B → Type 0) (xs : List A) (ys : List B) (x : A) → AreEach P xs ys → Contains xs x → (y : B) × P x y × Contains ys y
each_there P [] ys x are named = absurd (Contains-none x named)
each_there P (z ∷ xs) [] x are named = absurd are
each_there P (z ∷ xs) (y ∷ ys) x are named =
    ⊎_elim
    (λ same. (y, subst (λ w. P w y) same are.0, Contains-head y ys))
    (λ later. let rest = each_there P xs ys x are.1 later in (rest.0, rest.1, Contains-tail y ys rest.0 rest.2))
    (Contains-cases z xs x named)

pub few_parts : {A : Type 0} (size : ℕ) (xs : List A) (parts : List (List A)) → 0 < size → AreParts size xs parts → length parts ≤ length xs
few_parts size xs [] large cut = omega arith
few_parts size xs (part ∷ parts) large cut =
    let rest = few_parts size (drop size xs) parts large cut.2 in
    let some = some_length xs cut.0 in
    let len = length-drop size xs in
    omega (arith, rest, some, len, large)

entries_in : NextManifest → List EntryData
entries_in (stays m) = []
entries_in (new entries rows) = entries

-- ---- what the list is made of

pub record IsBefore (kept : IcebergKept) (change : Change) (before : Before) (parts : List (List Row)) : Type 0 where
  pub links : before.links.now ≡ kept.links
  pub manifests : before.manifests.now ≡ kept.manifests
  pub removed : before.removed.now ≡ change.removed
  pub parts_are : parts_at before.parts.now ≡ parts

module _ (kept : IcebergKept) (commit : Commit) (can : CanPublish (view_of kept) commit) (same : ChangesKinds kept commit.change → ⊥) (layout : Layout) (is : IsLayoutOf kept.table commit.change layout) where
  abbrev Made : List (List Row) → Next → NextManifest → Type 0
  Made parts one m = IsNextOf layout.front layout.version commit.change.removed (manifests_of kept) parts one m

  made_here : (before : Before) (parts : List (List Row)) (one : Next) (m : NextManifest) → IsBefore kept commit.change before parts → IsMadeOf layout before one m → Made parts one m
  made_here before parts one m b made =
      subst (λ (ps : List (List Row)). IsNextOf layout.front layout.version commit.change.removed (manifests_of kept) ps one m) b.parts_are
      (subst (λ (r : List (List ℕ)). IsNextOf layout.front layout.version r (manifests_of kept) (parts_at before.parts.now) one m) b.removed
      (subst (λ (ms : List KeptManifest). IsNextOf layout.front layout.version before.removed.now (map (live_manifest kept.links) ms) (parts_at before.parts.now) one m) b.manifests
      (subst (λ (v : OwnedRows). IsNextOf layout.front layout.version before.removed.now (map (live_manifest v) before.manifests.now) (parts_at before.parts.now) one m) b.links made)))

  made_there : (before : Before) (parts : List (List Row)) (one : Next) (m : NextManifest) → IsBefore kept commit.change before parts → Made parts one m → IsMadeOf layout before one m
  made_there before parts one m b made =
      subst (λ (v : OwnedRows). IsNextOf layout.front layout.version before.removed.now (map (live_manifest v) before.manifests.now) (parts_at before.parts.now) one m) (sym b.links)
      (subst (λ (ms : List KeptManifest). IsNextOf layout.front layout.version before.removed.now (map (live_manifest kept.links) ms) (parts_at before.parts.now) one m) (sym b.manifests)
      (subst (λ (r : List (List ℕ)). IsNextOf layout.front layout.version r (manifests_of kept) (parts_at before.parts.now) one m) (sym b.removed)
      (subst (λ (ps : List (List Row)). IsNextOf layout.front layout.version commit.change.removed (manifests_of kept) ps one m) (sym b.parts_are) made)))

  pub made_all : (before : Before) (parts : List (List Row)) (next : List Next) (ms : List NextManifest) → IsBefore kept commit.change before parts → AreEach (Made parts) next ms → AreEach (IsMadeOf layout before) next ms
  made_all before parts [] [] b are = tt
  made_all before parts [] (m ∷ ms) b are = absurd are
  made_all before parts (one ∷ next) [] b are = absurd are
  made_all before parts (one ∷ next) (m ∷ ms) b are = (made_there before parts one m b are.0, made_all before parts next ms b are.1)

  written_next : (rows : List Row) (parts : List (List Row)) (one : Next) (entries : List EntryData) (held : List Held) → SameRows commit.change.added rows → AreParts MAX_MANIFEST_ENTRIES rows parts → Made parts one (new entries held) → IsWritableIn layout entries
  unfolding entries_in
  written_next rows parts (Stays place) entries held among cut made = let q : new entries held ≡ stays made.0 = made.2 in absurd cc
  written_next rows parts (Anew place) entries held among cut made =
      let removed = commit.change.removed in
      let k = mapped_at (live_manifest kept.links) kept.manifests place made.0 made.1 in
      let e : entries ≡ rewritten_entries layout.front layout.version removed (held_rows kept.links k.0.owner) = ap entries_in made.2 ∙ ap (λ (x : LiveManifest). rewritten_entries layout.front layout.version removed x.rows) (sym k.2) in
      subst (IsWritableIn layout) (sym e) (anew_written kept commit can same layout is k.0 (slice_there kept.manifests place k.0 k.1) layout.front layout.version)
  written_next rows parts (Added place) entries held among cut made =
      let part : List Row = made.0 in
      let in_parts : Contains parts part = slice_there parts place part made.1 in
      let e : entries ≡ map (added_entry layout.front layout.version) part = ap entries_in made.2 in
      subst (IsWritableIn layout) (sym e)
      (added_written kept commit can same layout is layout.front layout.version part (λ row named. (among row).1 (part_row MAX_MANIFEST_ENTRIES rows parts part row cut in_parts named)) (part_short MAX_MANIFEST_ENTRIES rows parts part cut in_parts))

  pub can_make : (rows : List Row) (parts : List (List Row)) (before : Before) (next : List Next) → IsBefore kept commit.change before parts → SameRows commit.change.added rows → AreParts MAX_MANIFEST_ENTRIES rows parts → IsNextList commit.change.removed (manifests_of kept) (length parts) next → (one : Next) → Contains next one → CanBeMade layout before one
  can_make rows parts before next b among cut list one named =
      let e = each_of (Made parts) next _ one (all_next layout.front layout.version commit.change.removed (manifests_of kept) parts next list) named in
      record {
        made = e.0;
        of = made_there before parts one e.0 b e.1;
        writable = λ entries held made. written_next rows parts one entries held among cut (made_here before parts one (new entries held) b made);
      }

  pub has_owners : (before : Before) (parts : List (List Row)) → IsBefore kept commit.change before parts → HasOwners before
  has_owners before parts b = record {
    there = λ m named. subst (λ (v : OwnedRows). IsSome (rows_of v m.owner)) (sym b.links) (owner_there kept commit can same m (subst (λ (ms : List KeptManifest). Contains ms m) b.manifests named));
    born = λ m row named has. rows_born kept commit can same m row (subst (λ (ms : List KeptManifest). Contains ms m) b.manifests named) (subst (λ (v : OwnedRows). Contains (held_rows v m.owner) row) b.links has);
  }

  -- ---- how many there are

  some_rows : (o : Option (List Entry)) (h : Held) → Contains (map (λ (e : Entry). e.held) (unwrap_or o [])) h → is_some o ≡ true
  some_rows None h named = absurd (Contains-none h named)
  some_rows (Some es) h named = refl

  owned : (m : KeptManifest) (held : Held) → Contains (held_rows kept.links m.owner) held → (e : Entry) × Owns kept.links m.owner e × (e.held ≡ held)
  owned m held named =
      let e = of_map (λ (x : Entry). x.held) (entries_of kept.links m.owner) held named in
      (e.0, (entries_of kept.links m.owner, there kept.links m.owner (some_rows (rows_of kept.links m.owner) held named), e.1), e.2)

  few_before : length (filter has_rows (manifests_of kept)) ≤ MAX_LIVE_FILES
  few_before =
      let tests = and_parts _ (list_all (λ (row : Row). is_path row.path) kept.table.rows) kept.rows_held in
      let rows : length kept.table.rows ≤ MAX_LIVE_FILES = (let less = tests.0 in grind (arith, nat_tests, less)) in
      ∥∥₁_elim kept.rows_linked le_prop (λ (linked : AreRowsOf kept.table.rows kept.links).
      ∥∥₁_elim kept.own_owners le_prop (λ (distinct : IsDistinct nat_eq (map (λ (m : KeptManifest). m.owner) kept.manifests)).
      let firsts = few_firsts kept.links kept.own_paths owned kept.table.rows linked kept.manifests distinct in
      omega (arith, firsts, rows)))

  pub few_next : (rows : List Row) (parts : List (List Row)) (next : List Next) → length rows ≤ MAX_LIVE_FILES → AreParts MAX_MANIFEST_ENTRIES rows parts → IsNextList commit.change.removed (manifests_of kept) (length parts) next → length next ≤ 400000
  few_next rows parts next few cut list =
      let all = each_length (Made parts) next _ (all_next layout.front layout.version commit.change.removed (manifests_of kept) parts next list) in
      let first = length-map (filter has_rows (manifests_of kept)) (carried layout.front layout.version commit.change.removed) in
      let later = length-map parts (added_manifest layout.front layout.version) in
      let both = length-append (map (carried layout.front layout.version commit.change.removed) (filter has_rows (manifests_of kept))) (map (added_manifest layout.front layout.version) parts) in
      let some = few_parts MAX_MANIFEST_ENTRIES rows parts (omega arith) cut in
      omega (arith, all, first, later, both, some, few, few_before)

  -- ---- the rows of the list

  content_of : (info : ManifestInfo) → has_content info ≡ true → HasContent info
  content_of info is_one = by (int_eq info.content (pos 0)) refl
    where
      by : (b : Bool) → int_eq info.content (pos 0) ≡ b → HasContent info
      by true zeroed = inl ((Decides-int_eq info.content (pos 0)).0 zeroed)
      by false other = inr ((Decides-int_eq info.content (pos 1)).0 (ap (λ (b : Bool). b || int_eq info.content (pos 1)) (sym other) ∙ is_one))

  stays_by : (b : Bool) (n : NextManifest) (m k : LiveManifest) → cond b n (stays k) ≡ stays m → (n ≡ stays m → ⊥) → k ≡ m
  stays_by true n m k e other = absurd (other e)
  stays_by false n m k e other = cc

  stays_before : (parts : List (List Row)) (m : LiveManifest) → Contains (map (carried layout.front layout.version commit.change.removed) (filter has_rows (manifests_of kept)) ++ map (added_manifest layout.front layout.version) parts) (stays m) → HasContent m.info
  stays_before parts m named =
      ⊎_elim
      (λ old.
      let l = of_map (carried layout.front layout.version commit.change.removed) (filter has_rows (manifests_of kept)) (stays m) old in
      let k : l.0 ≡ m = stays_by (list_any (is_lost commit.change.removed) l.0.rows) _ m l.0 l.2 (λ e. absurd cc) in
      let x = of_map (live_manifest kept.links) kept.manifests l.0 (Contains-filter has_rows (manifests_of kept) l.0 l.1).0 in
      let info : x.0.info ≡ m.info = ap (λ (y : LiveManifest). y.info) (x.2 ∙ k) in
      subst HasContent info (content_of x.0.info (all_from (λ (y : KeptManifest). has_content y.info) kept.manifests x.0 kept.contents x.1)))
      (λ added. let l = of_map (added_manifest layout.front layout.version) parts (stays m) added in let q : added_manifest layout.front layout.version l.0 ≡ stays m = l.2 in absurd cc)
      (Contains-append_cases (map (carried layout.front layout.version commit.change.removed) (filter has_rows (manifests_of kept))) (map (added_manifest layout.front layout.version) parts) (stays m) named)

  pub list_writable : (rows : List Row) (parts : List (List Row)) (next : List Next) (list : NewList) → length rows ≤ MAX_LIVE_FILES → AreParts MAX_MANIFEST_ENTRIES rows parts → IsNextList commit.change.removed (manifests_of kept) (length parts) next → AreTexts layout (map (carried layout.front layout.version commit.change.removed) (filter has_rows (manifests_of kept)) ++ map (added_manifest layout.front layout.version) parts) list → IsWritableList MAX_AVRO_VALUES list.infos.items
  list_writable rows parts next list few cut are texts =
      let ms = map (carried layout.front layout.version commit.change.removed) (filter has_rows (manifests_of kept)) ++ map (added_manifest layout.front layout.version) parts in
      let all = each_length (Made parts) next ms (all_next layout.front layout.version commit.change.removed (manifests_of kept) parts next are) in
      let lens = (listed_lengths layout.front layout.version 0 0 ms list.manifests.items texts.listed texts.are).0 in
      let count = few_next rows parts next few cut are in
      let infos = length-map texts.listed (λ (l : LiveManifest). l.info) in
      subst (IsWritableList MAX_AVRO_VALUES) (sym texts.infos) (record {
        places = listed_places layout.front layout.version 0 0 ms list.manifests.items texts.listed texts.are;
        contents = listed_contents layout.front layout.version 0 0 ms list.manifests.items texts.listed (stays_before parts) texts.are;
        few = omega (arith, all, lens, count, infos);
      })

  -- ---- the whole list

  in_new : (ms : List NextManifest) (entries : List EntryData) (held : List Held) → Contains ms (new entries held) → Contains (new_entries ms) entries
  unfolding entries_in
  in_new [] entries held named = absurd (Contains-none (new entries held) named)
  in_new (stays m ∷ ms) entries held named = ⊎_elim (λ e. let q : stays m ≡ new entries held = e in absurd cc) (λ later. in_new ms entries held later) (Contains-cases (stays m) ms (new entries held) named)
  in_new (new es rows ∷ ms) entries held named =
      ⊎_elim
      (λ e. subst (λ (x : List EntryData). Contains (es ∷ new_entries ms) x) (ap entries_in e) (Contains-head es (new_entries ms)))
      (λ later. Contains-tail es (new_entries ms) entries (in_new ms entries held later))
      (Contains-cases (new es rows) ms (new entries held) named)

  -- what the list is, and what it is made of
  pub record IsListOfThese (rows : List Row) (parts : List (List Row)) (before : Before) (next : List Next) : Type 0 where
    pub among : SameRows commit.change.added rows
    pub order : IsInPathOrder rows
    pub few : length rows ≤ MAX_LIVE_FILES
    pub cut : AreParts MAX_MANIFEST_ENTRIES rows parts
    pub list : IsNextList commit.change.removed (manifests_of kept) (length parts) next
    pub before_is : IsBefore kept commit.change before parts

  pub these_of : (added : List Row) (sorted sorted_slice : List (Bor Row)) (parts parts_slice : List (Bor (List (Bor Row)))) (manifests : List KeptManifest) (removed : List (List ℕ)) (count : ℕ) (before : Before) (next next_slice : List Next)
      → added ≡ commit.change.added → manifests ≡ kept.manifests → removed ≡ commit.change.removed
      → sorted_slice ≡ sorted → parts_slice ≡ parts → next_slice ≡ next → count ≡ length parts
      → SameRows added (map (λ r. r.now) sorted) → IsInPathOrder (map (λ r. r.now) sorted) → length sorted ≡ length added
      → AreParts MAX_MANIFEST_ENTRIES sorted_slice (map (λ p. p.now) parts)
      → IsNextList removed (map (live_manifest kept.links) manifests) count next
      → before.links.now ≡ kept.links → before.manifests.now ≡ manifests → before.removed.now ≡ removed → before.parts.now ≡ parts_slice
      → IsListOfThese (map (λ r. r.now) sorted) (parts_at parts) before next_slice
  these_of added sorted sorted_slice parts parts_slice manifests removed count before next next_slice is_added is_manifests is_removed is_sorted is_parts is_next is_count among order long cut list links lists lost given = record {
    among = subst (λ (l : List Row). SameRows l (map (λ r. r.now) sorted)) is_added among;
    order = order;
    few =
        let len = length-map sorted (λ (r : Bor Row). r.now) in
        let all = ap length is_added in
        let most = added_few kept commit can same in
        omega (arith, len, long, all, most);
    cut = rows_cut sorted parts (subst (λ (l : List (Bor Row)). AreParts MAX_MANIFEST_ENTRIES l (map (λ p. p.now) parts)) is_sorted cut);
    list =
        subst (λ (ns : List Next). IsNextList commit.change.removed (manifests_of kept) (length (parts_at parts)) ns) (sym is_next)
        (subst (λ (n : ℕ). IsNextList commit.change.removed (manifests_of kept) n next) (is_count ∙ sym (length-map parts rows_at))
        (subst (λ (r : List (List ℕ)). IsNextList r (manifests_of kept) count next) is_removed
        (subst (λ (ms : List KeptManifest). IsNextList removed (map (live_manifest kept.links) ms) count next) is_manifests list)));
    before_is = record { links = links; manifests = lists ∙ is_manifests; removed = lost ∙ is_removed; parts_are = ap parts_at (given ∙ is_parts) };
  }

  module _ (rows : List Row) (parts : List (List Row)) (before : Before) (next : List Next) (these : IsListOfThese rows parts before next) where
    abbrev all : List NextManifest
    all = map (carried layout.front layout.version commit.change.removed) (filter has_rows (manifests_of kept)) ++ map (added_manifest layout.front layout.version) parts

    all_are : AreNextOf kept layout commit.change all
    all_are = record { added = rows; rows = these.among; order = these.order; parts = parts; cut = these.cut; is = refl }

    all_made : AreEach (Made parts) next all
    all_made = all_next layout.front layout.version commit.change.removed (manifests_of kept) parts next these.list

    pub list_texts : {E : Type 0} (r : Result NewList E) → IfOk r (λ list. (are : List NextManifest) → AreEach (IsMadeOf layout before) next are → AreTexts layout are list) → IfOk r (λ list. (ms : List NextManifest) × AreNextOf kept layout commit.change ms × AreTexts layout ms list)
    list_texts (Err e) told = tt
    list_texts (Ok list) told = (all, all_are, told all (made_all before parts next all these.before_is all_made))

    pub list_written : {E : Type 0} (r : Result NewList E) → IfOk r (λ list. (are : List NextManifest) → AreEach (IsMadeOf layout before) next are → AreTexts layout are list) → IfOk r (λ list. IsWritableList MAX_AVRO_VALUES list.infos.items)
    list_written (Err e) told = tt
    list_written (Ok list) told = list_writable rows parts next list these.few these.cut these.list (told all (made_all before parts next all these.before_is all_made))

    new_text : (bytes : List ℕ) → IsTextAmong layout before next bytes → IsNewText kept layout commit.change bytes
    new_text bytes told =
        let one : Next = told.0 in
        let entries : List EntryData = told.2.0 in
        let held : List Held = told.2.1 in
        let e = each_there (Made parts) next all one all_made told.1 in
        let same_one : e.0 ≡ new entries held = one_made layout before one e.0 (new entries held) (made_there before parts one e.0 these.before_is e.1) told.2.2 in
        (all, entries, all_are, in_new all entries held (subst (λ (m : NextManifest). Contains all m) same_one e.2), told.2.3)

    pub list_refused : {X : Type 0} (r : Result X TargetError) → IfErr r (IsTextRefusal (IsTextAmong layout before next)) → IfErr r (IsTextRefusal (IsNewText kept layout commit.change))
    list_refused r told = text_refusal r (IsTextAmong layout before next) (IsNewText kept layout commit.change) new_text told
