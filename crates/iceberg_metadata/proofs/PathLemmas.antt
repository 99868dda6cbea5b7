-- Column paths and their field ids.
use Rattle.std.proofs.Common.{◌≡◌, ◌⊎◌, ℤ, Bool, true, false, not, List, [], ◌∷◌, Option, Some, None, Contains, cond, refl, sym, ap, subst, ◌∙◌, inl, inr, ⊎_elim}
use Rattle.std.specs.Bool.{Decides}
use Rattle.std.specs.Cmp.Lexicographic.{pointwise}
use Rattle.std.specs.List.{list_all}
use Rattle.std.specs.Ordering.{int_eq}
use Rattle.std.specs.Str.{bytes_eq}
use Rattle.std.proofs.lemmas.Bool.{and_cases, and_parts, false≢true, not-true}
use Rattle.std.proofs.lemmas.Bool.Decides.{Decides-int_eq}
use Rattle.std.proofs.lemmas.Slice.Eq.{bytes_eq-Decides, slice_eq-Decides}
use Rattle.std.proofs.lemmas.Option.{same_Some}
use Rattle.table_history.proofs.RowListLemmas.{Contains-none, Contains-head, Contains-tail, Contains-cases}
use Rattle.schema_map.specs.Paths.{Path, known_id}
use Rattle.iceberg_metadata.specs.Judging.{is_path, is_id, is_first, is_renamed}
use Rattle.iceberg_metadata.specs.Paths.{PathId, path_of, IsRenamed}
use Rattle.iceberg_metadata.proofs.ListLemmas.{all_from, all_false}

pub path_Decides : (p q : Path) → Decides (pointwise bytes_eq p q) (p ≡ q)
path_Decides p q = slice_eq-Decides bytes_eq-Decides p q (pointwise bytes_eq p q) refl

-- ---- what is met first

abbrev PathFound : List PathId → ℤ → Type 0
PathFound ps id = (path : Path) × (path_of ps id ≡ Some path) × Contains ps (path, id)

path_here : (p : PathId) (ps : List PathId) (id : ℤ) (b : Bool) → int_eq p.1 id ≡ b → (b ≡ false → PathFound ps id) → PathFound (p ∷ ps) id
path_here p ps id true is later = (p.0, ap (λ c. cond c (Some p.0) (path_of ps id)) is, subst (λ i. Contains (p ∷ ps) (p.0, i)) ((Decides-int_eq p.1 id).0 is) (Contains-head p ps))
path_here p ps id false is later =
    let rest = later refl in (rest.0, ap (λ c. cond c (Some p.0) (path_of ps id)) is ∙ rest.1, Contains-tail p ps (rest.0, id) rest.2)

path_found : (ps : List PathId) (p : PathId) → Contains ps p → PathFound ps p.1
path_found [] p there = absurd (Contains-none p there)
path_found (q ∷ ps) p there =
    path_here q ps p.1 (int_eq q.1 p.1) refl (λ other.
    ⊎_elim
    (λ e. absurd (false≢true (sym other ∙ (Decides-int_eq q.1 p.1).1 (ap (λ (x : PathId). x.1) e))))
    (λ later. path_found ps p later)
    (Contains-cases q ps p there))

abbrev IdFound : List PathId → Path → Type 0
IdFound ps path = (id : ℤ) × (known_id ps path ≡ Some id) × Contains ps (path, id)

id_here : (p : PathId) (ps : List PathId) (path : Path) (b : Bool) → pointwise bytes_eq p.0 path ≡ b → (b ≡ false → IdFound ps path) → IdFound (p ∷ ps) path
id_here p ps path true is later = (p.1, ap (λ c. cond c (Some p.1) (known_id ps path)) is, subst (λ x. Contains (p ∷ ps) (x, p.1)) ((path_Decides p.0 path).0 is) (Contains-head p ps))
id_here p ps path false is later =
    let rest = later refl in (rest.0, ap (λ c. cond c (Some p.1) (known_id ps path)) is ∙ rest.1, Contains-tail p ps (path, rest.0) rest.2)

id_found : (ps : List PathId) (p : PathId) → Contains ps p → IdFound ps p.0
id_found [] p there = absurd (Contains-none p there)
id_found (q ∷ ps) p there =
    id_here q ps p.0 (pointwise bytes_eq q.0 p.0) refl (λ other.
    ⊎_elim
    (λ e. absurd (false≢true (sym other ∙ (path_Decides q.0 p.0).1 (ap (λ (x : PathId). x.0) e))))
    (λ later. id_found ps p later)
    (Contains-cases q ps p there))

-- ---- renamed columns

path_is : (o : Option Path) (p : Path) → is_path o p ≡ true → o ≡ Some p
path_is None p h = absurd (false≢true h)
path_is (Some q) p h = ap Some ((path_Decides q p).0 h)

id_is : (o : Option ℤ) (i : ℤ) → is_id o i ≡ true → o ≡ Some i
id_is None i h = absurd (false≢true h)
id_is (Some j) i h = ap Some ((Decides-int_eq j i).0 h)

renamed_shown : (ps : List PathId) → is_renamed ps ≡ true → IsRenamed ps
renamed_shown ps h = by (and_cases (is_path (path_of ps found.0.1) found.0.0) (is_id (known_id ps found.0.0) found.0.1) found.2)
  where
    found : (p : PathId) × Contains ps p × (is_first ps p ≡ false)
    found = all_false (is_first ps) ps (not-true (list_all (is_first ps) ps) h)

    by : (is_path (path_of ps found.0.1) found.0.0 ≡ false) ⊎ (is_id (known_id ps found.0.0) found.0.1 ≡ false) → IsRenamed ps
    by (inl other) =
        let first = path_found ps found.0 found.1 in
        record {
          one = (first.0, found.0.1);
          other = found.0;
          has_one = first.2;
          has_other = found.1;
          differ = inl (refl, λ same. false≢true (sym other ∙ ap (λ o. is_path o found.0.0) first.1 ∙ (path_Decides first.0 found.0.0).1 same));
        }
    by (inr other) =
        let first = id_found ps found.0 found.1 in
        record {
          one = (found.0.0, first.0);
          other = found.0;
          has_one = first.2;
          has_other = found.1;
          differ = inr (refl, λ same. false≢true (sym other ∙ ap (λ o. is_id o found.0.1) first.1 ∙ (Decides-int_eq first.0 found.0.1).1 same));
        }

firsts_agree : (ps : List PathId) (p q : PathId) → is_first ps p ≡ true → is_first ps q ≡ true → (((p.1 ≡ q.1) × (p.0 ≡ q.0 → ⊥)) ⊎ ((p.0 ≡ q.0) × (p.1 ≡ q.1 → ⊥))) → ⊥
firsts_agree ps p q first second (inl differ) =
    let a = path_is (path_of ps p.1) p.0 (and_parts (is_path (path_of ps p.1) p.0) (is_id (known_id ps p.0) p.1) first).0 in
    let b = path_is (path_of ps q.1) q.0 (and_parts (is_path (path_of ps q.1) q.0) (is_id (known_id ps q.0) q.1) second).0 in
    differ.1 (same_Some p.0 q.0 (sym a ∙ ap (path_of ps) differ.0 ∙ b))
firsts_agree ps p q first second (inr differ) =
    let a = id_is (known_id ps p.0) p.1 (and_parts (is_path (path_of ps p.1) p.0) (is_id (known_id ps p.0) p.1) first).1 in
    let b = id_is (known_id ps q.0) q.1 (and_parts (is_path (path_of ps q.1) q.0) (is_id (known_id ps q.0) q.1) second).1 in
    differ.1 (same_Some p.1 q.1 (sym a ∙ ap (known_id ps) differ.0 ∙ b))

renamed_not : (ps : List PathId) → IsRenamed ps → (b : Bool) → list_all (is_first ps) ps ≡ b → not b ≡ true
renamed_not ps r true all =
    absurd (firsts_agree ps r.one r.other (all_from (is_first ps) ps r.one all r.has_one) (all_from (is_first ps) ps r.other all r.has_other) r.differ)
renamed_not ps r false all = refl

pub renamed_Decides : (ps : List PathId) → Decides (is_renamed ps) (IsRenamed ps)
renamed_Decides ps = (renamed_shown ps, λ r. renamed_not ps r (list_all (is_first ps) ps) refl)
