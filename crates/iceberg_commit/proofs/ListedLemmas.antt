-- What is kept of the manifests of a new version's list is what the list has.
use Rattle.std.proofs.Common.{◌≡◌, ◌++◌, true, List, [], ◌∷◌, ℕ, map, filter, length, drop, Contains, refl, sym, ap, subst, ◌∙◌, ◌+◌}
use Rattle.std.specs.List.{list_all}
use Rattle.std.proofs.lemmas.Bool.{and_from}
use Rattle.lake_basics.specs.declared.limits.TheConstants.{MAX_MANIFEST_ENTRIES}
use Rattle.table_history.specs.Row.{Row}
use Rattle.table_history.specs.Rows.{IsInPathOrder, SameRows}
use Rattle.table_history.specs.declared.table.Change.{Change}
use Rattle.table_history.proofs.Laws.{in_order_same}
use Rattle.table_history.proofs.RowListLemmas.{Contains-head, Contains-tail}
use Rattle.file_links.specs.Rows.{OwnedRows}
use Rattle.iceberg_manifest.specs.Entry.{EntryData}
use Rattle.iceberg_manifest.specs.declared.info.ManifestInfo.{ManifestInfo}
use Rattle.iceberg_version.specs.Advance.{Advances, live_rows}
use Rattle.iceberg_version.specs.Carrying.{IsNextList}
use Rattle.iceberg_version.specs.KeptEnd.{held_rows, live_manifest}
use Rattle.iceberg_version.specs.Manifests.{AreListed, AreNextManifests, AreParts, IsInfoOf, LiveManifest, NextManifest, added_manifest, carried, has_rows, new, stays}
use Rattle.iceberg_version.specs.Sound.{has_content}
use Rattle.iceberg_version.specs.declared.carrying.Next.{Next}
use Rattle.iceberg_version.specs.declared.kept.KeptManifest.{KeptManifest}
use Rattle.iceberg_version.proofs.NextLemmas.{all_next}

-- ---- the list is one

parts_once : {A : Type 0} (size : ℕ) (xs : List A) (ps qs : List (List A)) → AreParts size xs ps → AreParts size xs qs → ps ≡ qs
parts_once size xs [] [] p q = refl
parts_once size xs [] (y ∷ qs) p q = absurd (q.0 p)
parts_once size xs (x ∷ ps) [] p q = absurd (p.0 q)
parts_once size xs (x ∷ ps) (y ∷ qs) p q =
    let first : x ≡ y = p.1 ∙ sym q.1 in
    let rest = parts_once size (drop size xs) ps qs p.2 q.2 in
    λ i. first i ∷ rest i

-- A change makes one list of manifests of a list.
pub next_once : (front : List ℕ) (version : ℕ) (manifests : List LiveManifest) (change : Change) (a b : List NextManifest) → AreNextManifests front version manifests change a → AreNextManifests front version manifests change b → a ≡ b
next_once front version manifests change a b h k =
    let added : h.added ≡ k.added = in_order_same (λ (r : Row). r.path) h.added k.added h.order k.order (λ row. (λ there. (k.rows row).0 ((h.rows row).1 there), λ there. (h.rows row).0 ((k.rows row).1 there))) in
    let parts : h.parts ≡ k.parts = parts_once MAX_MANIFEST_ENTRIES h.added h.parts k.parts h.cut (subst (λ (rows : List Row). AreParts MAX_MANIFEST_ENTRIES rows k.parts) (sym added) k.cut) in
    h.is ∙ ap (λ (ps : List (List Row)). map (carried front version change.removed) (filter has_rows manifests) ++ map (added_manifest front version) ps) parts ∙ sym k.is

-- ---- what the list has

pub listed_rows : (front : List ℕ) (version place number : ℕ) (next : List NextManifest) (texts : List (List ℕ)) (listed : List LiveManifest) → AreListed front version place number next texts listed → map (λ m. m.rows) listed ≡ map live_rows next
listed_rows front version place number [] [] [] are = refl
listed_rows front version place number [] [] (l ∷ ls) are = absurd are
listed_rows front version place number [] (t ∷ ts) ls are = absurd are
listed_rows front version place number (stays m ∷ next) texts [] are = absurd are
listed_rows front version place number (stays m ∷ next) texts (l ∷ ls) are =
    let first : l.rows ≡ m.rows = ap (λ (x : LiveManifest). x.rows) are.0 in
    let rest = listed_rows front version (place + 1) number next texts ls are.1 in
    λ i. first i ∷ rest i
listed_rows front version place number (new entries rows ∷ next) [] ls are = absurd are
listed_rows front version place number (new entries rows ∷ next) (t ∷ ts) [] are = absurd are
listed_rows front version place number (new entries rows ∷ next) (t ∷ ts) (l ∷ ls) are =
    let first : l.rows ≡ rows = are.0 in
    let rest = listed_rows front version (place + 1) (number + 1) next ts ls are.2 in
    λ i. first i ∷ rest i

made_content : (front : List ℕ) (version number : ℕ) (entries : List EntryData) (bytes : List ℕ) (place : ℕ) (info : ManifestInfo) → IsInfoOf front version number entries bytes place info → has_content info ≡ true
made_content front version number entries bytes place info is = ap has_content is.2

-- where the manifests that stay have data or deletes, so have all
pub listed_contents : (front : List ℕ) (version place number : ℕ) (next : List NextManifest) (texts : List (List ℕ)) (listed : List LiveManifest) → ((m : LiveManifest) → Contains next (stays m) → has_content m.info ≡ true)
    → AreListed front version place number next texts listed → list_all (λ m. has_content m.info) listed ≡ true
listed_contents front version place number [] [] [] old are = refl
listed_contents front version place number [] [] (l ∷ ls) old are = absurd are
listed_contents front version place number [] (t ∷ ts) ls old are = absurd are
listed_contents front version place number (stays m ∷ next) texts [] old are = absurd are
listed_contents front version place number (stays m ∷ next) texts (l ∷ ls) old are =
    and_from (has_content l.info) (list_all (λ x. has_content x.info) ls) (ap (λ (x : LiveManifest). has_content x.info) are.0 ∙ old m (Contains-head (stays m) next))
    (listed_contents front version (place + 1) number next texts ls (λ k there. old k (Contains-tail (stays m) next (stays k) there)) are.1)
listed_contents front version place number (new entries rows ∷ next) [] ls old are = absurd are
listed_contents front version place number (new entries rows ∷ next) (t ∷ ts) [] old are = absurd are
listed_contents front version place number (new entries rows ∷ next) (t ∷ ts) (l ∷ ls) old are =
    and_from (has_content l.info) (list_all (λ x. has_content x.info) ls) (made_content front version number entries t place l.info are.1)
    (listed_contents front version (place + 1) (number + 1) next ts ls (λ k there. old k (Contains-tail (new entries rows) next (stays k) there)) are.2)

-- ---- what is kept of it

first_same : {A : Type 0} (x y : A) (xs ys : List A) → ◌≡◌ {A = List A} (x ∷ xs) (y ∷ ys) → x ≡ y
first_same x y xs ys same = cc

rest_same : {A : Type 0} (x y : A) (xs ys : List A) → ◌≡◌ {A = List A} (x ∷ xs) (y ∷ ys) → xs ≡ ys
rest_same x y xs ys same = cc

none_same : {A : Type 0} (y : A) (ys : List A) → ◌≡◌ {A = List A} [] (y ∷ ys) → ⊥
none_same y ys same = cc

pub kept_listed : (links : OwnedRows) (ks : List KeptManifest) (listed : List LiveManifest) → map (λ m. m.info) ks ≡ map (λ m. m.info) listed → map (λ m. held_rows links m.owner) ks ≡ map (λ m. m.rows) listed → map (live_manifest links) ks ≡ listed
kept_listed links [] [] infos rows = refl
kept_listed links [] (l ∷ ls) infos rows = absurd (none_same l.info (map (λ m. m.info) ls) infos)
kept_listed links (k ∷ ks) [] infos rows = absurd (none_same k.info (map (λ m. m.info) ks) (sym infos))
kept_listed links (k ∷ ks) (l ∷ ls) infos rows =
    let info : k.info ≡ l.info = first_same k.info l.info (map (λ m. m.info) ks) (map (λ m. m.info) ls) infos in
    let held : held_rows links k.owner ≡ l.rows = first_same (held_rows links k.owner) l.rows (map (λ m. held_rows links m.owner) ks) (map (λ m. m.rows) ls) rows in
    let rest = kept_listed links ks ls (rest_same k.info l.info (map (λ m. m.info) ks) (map (λ m. m.info) ls) infos) (rest_same (held_rows links k.owner) l.rows (map (λ m. held_rows links m.owner) ks) (map (λ m. m.rows) ls) rows) in
    λ i. record { info = info i; rows = held i } ∷ rest i

-- What is kept of the manifests behind a commit is what its version's list has.
module _ (front : List ℕ) (version : ℕ) (change : Change) (old now : OwnedRows) (manifests ks : List KeptManifest) (added : List Row) (parts : List (List Row)) (next : List Next) (rows : SameRows change.added added) (order : IsInPathOrder added)
    (cut : AreParts MAX_MANIFEST_ENTRIES added parts) (list : IsNextList change.removed (map (live_manifest old) manifests) (length parts) next) (advances : Advances change.removed version manifests parts next old now ks) where
  abbrev made : List NextManifest
  made = map (carried front version change.removed) (filter has_rows (map (live_manifest old) manifests)) ++ map (added_manifest front version) parts

  made_next : AreNextManifests front version (map (live_manifest old) manifests) change made
  made_next = record { added = added; rows = rows; order = order; parts = parts; cut = cut; is = refl }

  pub kept_are : (are : List NextManifest) (texts : List (List ℕ)) (listed : List LiveManifest) → AreNextManifests front version (map (live_manifest old) manifests) change are → AreListed front version 0 0 are texts listed
      → map (λ m. m.info) ks ≡ map (λ m. m.info) listed → map (live_manifest now) ks ≡ listed
  kept_are are texts listed next_are is infos =
      kept_listed now ks listed infos
      (advances.rows front made (all_next front version change.removed (map (live_manifest old) manifests) parts next list)
      ∙ ap (map live_rows) (next_once front version (map (live_manifest old) manifests) change made are made_next next_are)
      ∙ sym (listed_rows front version 0 0 are texts listed is))
