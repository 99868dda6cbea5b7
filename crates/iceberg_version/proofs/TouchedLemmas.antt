-- The owners of rows that a commit removes, as they are found one by one.
use Rattle.std.proofs.Common.{◌≡◌, ◌||◌, ◌⊎◌, ℕ, Bool, true, false, Contains, List, [], ◌∷◌, ◌++◌, Some, cond, nat_eq, refl, sym, ap, subst, ◌∙◌, inl, inr, ⊎_elim}
use Rattle.std.specs.Prelude.{◌↔◌}
use Rattle.std.specs.List.{list_any}
use Rattle.std.proofs.lemmas.Bool.{false≢true}
use Rattle.std.proofs.lemmas.Bool.Decides.{Decides-eqb}
use Rattle.std.proofs.lemmas.List.Elements.{Contains-append_cases, Contains-append_left, Contains-push}
use Rattle.std.proofs.lemmas.List.Folds.{list_any-append}
use Rattle.table_history.proofs.RowListLemmas.{Contains-none, Contains-one}
use Rattle.file_links.specs.Rows.{Entry, Finds, FindsEach, HoldsPath, IsOwnerOf, OwnedRows, Owns}
use Rattle.indexmap.specs.IndexSet.{insert_key}
use Rattle.iceberg_version.specs.Touched.{IsTouched}
use Rattle.lake_basics.proofs.Numbers.{same_nat}

abbrev has : ℕ → List ℕ → Bool
has n keys = list_any (nat_eq n) keys

abbrev pub AreTouchedBy : OwnedRows → List (List ℕ) → List ℕ → Type 0
AreTouchedBy links removed keys = (owner : ℕ) → (has owner keys ≡ true) ↔ IsTouched links removed owner

pub none_touched : (links : OwnedRows) (keys : List ℕ) → keys ≡ [] → AreTouchedBy links [] keys
none_touched links keys none = λ owner. (λ t. absurd (false≢true (sym (ap (has owner) none) ∙ t)), λ touched. absurd (Contains-none touched.entry.held.row.path touched.lost))

-- ---- one path more

nat_itself : (a : ℕ) → nat_eq a a ≡ true
nat_itself a = (Decides-eqb a a).1 refl

still : (links : OwnedRows) (removed more : List (List ℕ)) (path : List ℕ) (owner : ℕ) → more ≡ removed ++ path ∷ [] → IsTouched links removed owner → IsTouched links more owner
still links removed more path owner is touched = record { entry = touched.entry; owned = touched.owned; lost = subst (λ (ps : List (List ℕ)). Contains ps touched.entry.held.row.path) (sym is) (Contains-append_left removed (path ∷ []) touched.entry.held.row.path touched.lost) }

-- it was so before, or by this path
abbrev AtPath : OwnedRows → List ℕ → ℕ → Type 0
AtPath links path owner = (e : Entry) × Owns links owner e × (e.held.row.path ≡ path)

before_or_here : (links : OwnedRows) (removed more : List (List ℕ)) (path : List ℕ) (owner : ℕ) → more ≡ removed ++ path ∷ [] → IsTouched links more owner → IsTouched links removed owner ⊎ AtPath links path owner
before_or_here links removed more path owner is touched =
    ⊎_elim
    (λ before. inl (record { entry = touched.entry; owned = touched.owned; lost = before }))
    (λ here. inr (touched.entry, touched.owned, sym (Contains-one path touched.entry.held.row.path here)))
    (Contains-append_cases removed (path ∷ []) touched.entry.held.row.path (subst (λ (ps : List (List ℕ)). Contains ps touched.entry.held.row.path) is touched.lost))

pub not_found : (links : OwnedRows) (removed more : List (List ℕ)) (path : List ℕ) (keys after : List ℕ) → more ≡ removed ++ path ∷ [] → ¬ HoldsPath links path → after ≡ keys → AreTouchedBy links removed keys → AreTouchedBy links more after
not_found links removed more path keys after is lacking same before = λ owner. (
  λ t. still links removed more path owner is ((before owner).0 (sym (ap (has owner) same) ∙ t)),
  λ touched. ap (has owner) same ∙ ⊎_elim (λ b. (before owner).1 b) (λ here. absurd (lacking (here.0.slot, here.0.held, (owner, here.1), here.2))) (before_or_here links removed more path owner is touched),
)

by_or : {P : Type 0} (a b : Bool) → (a || (b || false)) ≡ true → (b ≡ true → P) → (a ≡ true) ⊎ P
by_or true b h f = inl refl
by_or false true h f = inr (f refl)
by_or false false h f = absurd (false≢true h)

inserted_by : (keys : List ℕ) (k q : ℕ) (b : Bool) → has k keys ≡ b → (has q keys ≡ true → has q (cond b keys (keys ++ k ∷ [])) ≡ true) × (has k (cond b keys (keys ++ k ∷ [])) ≡ true) × (has q (cond b keys (keys ++ k ∷ [])) ≡ true → (has q keys ≡ true) ⊎ (q ≡ k))
inserted_by keys k q true there = (λ t. t, there, λ t. inl t)
inserted_by keys k q false there = (
  λ t. list_any-append (nat_eq q) keys (k ∷ []) ∙ ap (λ b. b || (nat_eq q k || false)) t,
  list_any-append (nat_eq k) keys (k ∷ []) ∙ ap (λ b. b || (nat_eq k k || false)) there ∙ ap (λ b. b || false) (nat_itself k),
  λ t. by_or (has q keys) (nat_eq q k) (sym (list_any-append (nat_eq q) keys (k ∷ [])) ∙ t) (same_nat q k),
)

pub found : (links : OwnedRows) (removed more : List (List ℕ)) (path : List ℕ) (slot owner : ℕ) (keys after : List ℕ) → more ≡ removed ++ path ∷ [] → Finds links path (Some slot) → FindsEach links path (Some slot) → IsOwnerOf links slot owner → after ≡ insert_key nat_eq keys owner → AreTouchedBy links removed keys → AreTouchedBy links more after
found links removed more path slot owner keys after is finds each owns inserts before = λ q.
    let ins = inserted_by keys owner q (has owner keys) refl in
    let to : has q after ≡ has q (insert_key nat_eq keys owner) = ap (has q) inserts in
    let o = finds.1.0 in
    let e : Entry = record { slot = slot; held = finds.0 } in
    let mine : owner ≡ o = owns o finds.0 finds.1.1 in
    let here : IsTouched links more owner = record {
      entry = e;
      owned = subst (λ (n : ℕ). Owns links n e) (sym mine) finds.1.1;
      lost = subst (λ (ps : List (List ℕ)). Contains ps finds.0.row.path) (sym is) (subst (λ (p : List ℕ). Contains (removed ++ path ∷ []) p) (sym finds.2) (Contains-push removed path));
    } in (
      λ t. ⊎_elim
          (λ b. still links removed more path q is ((before q).0 b))
          (λ same. subst (λ (n : ℕ). IsTouched links more n) (sym same) here)
          (ins.2 (sym to ∙ t)),
      λ touched. to ∙ ⊎_elim
          (λ b. ins.0 ((before q).1 b))
          (λ at.
          let slots : Some slot ≡ Some at.0.slot = each at.0.slot at.0.held (q, at.1) at.2 in
          let one : slot ≡ at.0.slot = cc in
          let q_is : owner ≡ q = owns q at.0.held (subst (λ (n : ℕ). Owns links q (record { slot = n; held = at.0.held })) (sym one) at.1) in
          subst (λ (n : ℕ). has n (insert_key nat_eq keys owner) ≡ true) q_is ins.1)
          (before_or_here links removed more path q is touched),
    )
