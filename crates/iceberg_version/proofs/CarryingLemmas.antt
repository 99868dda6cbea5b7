-- Whether rows of a manifest are removed, and what then becomes of it.
use Rattle.std.proofs.Common.{◌≡◌, ◌≢◌, ◌+◌, ◌<◌, ℕ, Bool, true, false, Contains, List, [], ◌∷◌, ◌++◌, drop, ◌≤◌, Option, Some, None, IsSome, cond, get_or, map, length, refl, sym, ap, subst, ◌∙◌, inl, inr}
use Rattle.std.specs.Prelude.{is_some, unwrap_or}
use Rattle.std.specs.List.{list_any}
use Rattle.std.specs.Str.{bytes_eq}
use Rattle.std.proofs.lemmas.Bool.{false_from_ne_true, false≢true}
use Rattle.std.proofs.lemmas.List.{append-nil, append_assoc, drop_all, drop_more, get_or-map, length-map}
use Rattle.std.proofs.lemmas.Slice.Eq.{bytes_eq-Decides}
use Rattle.file_links.specs.Rows.{Entry, IsFirstOf, OwnedRows, rows_of, slot_at}
use Rattle.file_links.specs.declared.slots.Held.{Held}
use Rattle.iceberg_metadata.proofs.ListLemmas.{any_from, any_to}
use Rattle.iceberg_version.specs.Carrying.{AreCarriedOn, IsCarriedOn}
use Rattle.iceberg_version.specs.KeptEnd.{held_rows, live_manifest}
use Rattle.iceberg_version.specs.Manifests.{LiveManifest, is_lost}
use Rattle.iceberg_version.specs.Touched.{IsTouched}
use Rattle.iceberg_version.specs.declared.carrying.Next.{Next}
use Rattle.iceberg_version.specs.declared.kept.KeptManifest.{KeptManifest}
use Rattle.iceberg_version.specs.declared.carrying.Next.TheVariants.{Anew, Stays}
use Rattle.iceberg_version.proofs.RowLemmas.{entries_of, there}
use Rattle.iceberg_version.proofs.Shared.{in_map, of_map}

-- ---- rows that are removed

pub any_lost : (links : OwnedRows) (owner : ℕ) (paths : List (List ℕ)) → IsTouched links paths owner → list_any (is_lost paths) (held_rows links owner) ≡ true
any_lost links owner paths t =
    let rows = t.owned.0 in
    let are : held_rows links owner ≡ map (λ (e : Entry). e.held) rows = ap (λ (o : Option (List Entry)). map (λ (e : Entry). e.held) (unwrap_or o [])) t.owned.1 in
    let lost : is_lost paths t.entry.held ≡ true = any_from (bytes_eq t.entry.held.row.path) paths t.entry.held.row.path t.lost ((bytes_eq-Decides t.entry.held.row.path t.entry.held.row.path).1 refl) in
    ap (list_any (is_lost paths)) are ∙ any_from (is_lost paths) (map (λ (e : Entry). e.held) rows) t.entry.held (in_map (λ (e : Entry). e.held) rows t.entry t.owned.2) lost

touched_by : (links : OwnedRows) (owner : ℕ) (paths : List (List ℕ)) → IsSome (rows_of links owner) → list_any (is_lost paths) (held_rows links owner) ≡ true → IsTouched links paths owner
touched_by links owner paths h any =
    let f = any_to (is_lost paths) (held_rows links owner) any in
    let e = of_map (λ (e : Entry). e.held) (entries_of links owner) f.0 f.1 in
    let p = any_to (bytes_eq f.0.row.path) paths f.2 in
    let path : e.0.held.row.path ≡ p.0 = ap (λ (x : Held). x.row.path) e.2 ∙ (bytes_eq-Decides f.0.row.path p.0).0 p.2 in
    record { entry = e.0; owned = (entries_of links owner, there links owner h, e.1); lost = subst (λ (q : List ℕ). Contains paths q) (sym path) p.1 }

pub none_lost : (links : OwnedRows) (owner : ℕ) (paths : List (List ℕ)) → IsSome (rows_of links owner) → (IsTouched links paths owner → ⊥) → list_any (is_lost paths) (held_rows links owner) ≡ false
none_lost links owner paths h untouched = false_from_ne_true (list_any (is_lost paths) (held_rows links owner)) (λ any. untouched (touched_by links owner paths h any))

-- ---- live rows

pub first_none : (es : List Entry) → None ≡ slot_at es 0 → es ≡ []
first_none [] h = refl
first_none (e ∷ es) h = cc

pub none_if : (o : Option ℕ) → is_some o ≡ false → o ≡ None
none_if None h = refl
none_if (Some n) h = absurd (false≢true (sym h))

not_none : (o : Option ℕ) → is_some o ≡ true → o ≡ None → ⊥
not_none o h none = false≢true (sym (ap is_some none) ∙ h)

pub no_rows : (links : OwnedRows) (owner : ℕ) (first : Option ℕ) → IsSome (rows_of links owner) → IsFirstOf links owner first → is_some first ≡ false → held_rows links owner ≡ []
no_rows links owner first h is none = ap (map (λ (e : Entry). e.held)) (first_none (entries_of links owner) (sym (none_if first none) ∙ is (entries_of links owner) (there links owner h)))

filled : (es : List Entry) → map (λ (e : Entry). e.held) es ≡ [] → slot_at es 0 ≡ None
filled [] h = refl
filled (e ∷ es) h = cc

pub some_rows : (links : OwnedRows) (owner : ℕ) (first : Option ℕ) → IsSome (rows_of links owner) → IsFirstOf links owner first → is_some first ≡ true → held_rows links owner ≢ []
some_rows links owner first h is some = λ none. not_none first some (is (entries_of links owner) (there links owner h) ∙ filled (entries_of links owner) none)

-- ---- what becomes of it

pub rewritten : (paths : List (List ℕ)) (place : ℕ) (m : LiveManifest) → list_any (is_lost paths) m.rows ≡ true → IsCarriedOn paths place m (Anew place)
rewritten paths place m any = record {
  rows = λ none. false≢true (sym (ap (list_any (is_lost paths)) none) ∙ any);
  is = sym (ap (λ (b : Bool). cond b (Anew place) (Stays place)) any);
}

pub stays_as_it_is : (paths : List (List ℕ)) (place : ℕ) (m : LiveManifest) → m.rows ≢ [] → list_any (is_lost paths) m.rows ≡ false → IsCarriedOn paths place m (Stays place)
stays_as_it_is paths place m some none = record {
  rows = some;
  is = sym (ap (λ (b : Bool). cond b (Anew place) (Stays place)) none);
}

-- ---- one manifest more

-- Whatever the manifests from this place on become, it comes behind these.
abbrev pub AreCarriedUpTo : List (List ℕ) → List LiveManifest → ℕ → List Next → Type 0
AreCarriedUpTo paths ms i so_far = (rest : List Next) → AreCarriedOn paths i (drop i ms) rest → AreCarriedOn paths 0 ms (so_far ++ rest)

pub none_carried : (paths : List (List ℕ)) (ms : List LiveManifest) (so_far : List Next) → so_far ≡ [] → AreCarriedUpTo paths ms 0 so_far
none_carried paths ms so_far none = λ rest are. subst (λ (ns : List Next). AreCarriedOn paths 0 ms (ns ++ rest)) (sym none) are

left_of : (ms : List LiveManifest) (i : ℕ) (m : LiveManifest) → i < length ms → m ≡ get_or ms i m → drop i ms ≡ m ∷ drop (i + 1) ms
left_of ms i m within at = drop_more ms i m within ∙ ap (λ (x : LiveManifest). x ∷ drop (i + 1) ms) (sym at)

pub left_out : (paths : List (List ℕ)) (ms : List LiveManifest) (i : ℕ) (m : LiveManifest) (so_far after : List Next) → i < length ms → m ≡ get_or ms i m → m.rows ≡ [] → after ≡ so_far → AreCarriedUpTo paths ms i so_far → AreCarriedUpTo paths ms (i + 1) after
left_out paths ms i m so_far after within at none same before = λ rest are.
    let here : AreCarriedOn paths i (m ∷ drop (i + 1) ms) rest = inl (none, are) in
    let all = before rest (subst (λ (xs : List LiveManifest). AreCarriedOn paths i xs rest) (sym (left_of ms i m within at)) here) in
    subst (λ (ns : List Next). AreCarriedOn paths 0 ms (ns ++ rest)) (sym same) all

pub carried_more : (paths : List (List ℕ)) (ms : List LiveManifest) (i : ℕ) (m : LiveManifest) (one : Next) (so_far after : List Next) → i < length ms → m ≡ get_or ms i m → IsCarriedOn paths i m one → after ≡ so_far ++ one ∷ [] → AreCarriedUpTo paths ms i so_far → AreCarriedUpTo paths ms (i + 1) after
carried_more paths ms i m one so_far after within at is pushes before = λ rest are.
    let here : AreCarriedOn paths i (m ∷ drop (i + 1) ms) (one ∷ rest) = inr (one, rest, refl, is, are) in
    let all = before (one ∷ rest) (subst (λ (xs : List LiveManifest). AreCarriedOn paths i xs (one ∷ rest)) (sym (left_of ms i m within at)) here) in
    let joined : after ++ rest ≡ so_far ++ (one ∷ rest) = ap (λ (ns : List Next). ns ++ rest) pushes ∙ append_assoc so_far (one ∷ []) rest in
    subst (λ (ns : List Next). AreCarriedOn paths 0 ms ns) (sym joined) all

pub all_carried : (paths : List (List ℕ)) (ms : List LiveManifest) (i : ℕ) (so_far : List Next) → length ms ≤ i → AreCarriedUpTo paths ms i so_far → AreCarriedOn paths 0 ms so_far
all_carried paths ms i so_far past before =
    let empty : AreCarriedOn paths i (drop i ms) [] = subst (λ (xs : List LiveManifest). AreCarriedOn paths i xs []) (sym (drop_all i ms past)) refl in
    subst (λ (ns : List Next). AreCarriedOn paths 0 ms ns) (append-nil so_far) (before [] empty)

-- the live manifest at a place
pub live_at : (links : OwnedRows) (ms : List KeptManifest) (i : ℕ) (m : KeptManifest) → i < length ms → m ≡ get_or ms i m → live_manifest links m ≡ get_or (map (live_manifest links) ms) i (live_manifest links m)
live_at links ms i m within at = sym (get_or-map (live_manifest links) ms i m (live_manifest links m) within ∙ ap (live_manifest links) (sym at))

pub live_within : (links : OwnedRows) (ms : List KeptManifest) (i : ℕ) → i < length ms → i < length (map (live_manifest links) ms)
live_within links ms i within = subst (λ (n : ℕ). i < n) (sym (length-map ms (live_manifest links))) within

pub live_past : (links : OwnedRows) (ms : List KeptManifest) (i : ℕ) → length ms ≤ i → length (map (live_manifest links) ms) ≤ i
live_past links ms i past = subst (λ (n : ℕ). n ≤ i) (sym (length-map ms (live_manifest links))) past

pub kept_there : (ms : List KeptManifest) (i : ℕ) (m : KeptManifest) → i < length ms → m ≡ get_or ms i m → Contains ms m
kept_there ms i m within at = (i, within, sym at)
