-- That the names of a folder lie in its range of paths.
use Rattle.std.proofs.Common.{◌≡◌, ℕ, suc, arith, Bool, true, false, not, ◌&&◌, ◌==◌, length, List, [], ◌∷◌, ◌++◌, filter, refl, sym, ◌∙◌, ap, subst, cond, String, string_bytes, Some, None, append_assoc}
use Rattle.std.specs.declared.alloc.Global.{Global}
use Rattle.std.specs.declared.ops.Bound.{Bound}
use Rattle.std.specs.declared.ops.Bound.TheVariants.{Excluded, Included, Unbounded}
use Rattle.std.specs.declared.cmp.Ordering.{Ordering}
use Rattle.std.specs.Ordering.{nat_cmp, is_gt, is_le}
use Rattle.std.specs.Cmp.Lexicographic.{slice_cmp}
use Rattle.std.specs.String.{string_cmp}
use Rattle.std.specs.List.{cons_option}
use Rattle.std.specs.Range.Bound.{IsForward}
use Rattle.std.specs.BTreeMap.Range.{IsLeBy, IsLtBy, entries_between, range_contains}
use Rattle.std.proofs.lemmas.Bool.{eqb-true}
use Rattle.std.proofs.lemmas.List.{append-nil}
use Rattle.lake_store.specs.Disk.{front_of, name_behind}
use Rattle.lake_store.specs.Folder.{IsRangeOf}
use Rattle.lake_store.proofs.FolderLaws.{named}
use Rattle.lake_store.proofs.KeyLaws.{names_among}
use Rattle.lake_store.proofs.OrderLaws.{same_front}

abbrev Entry : Type 0
Entry = String Global × List ℕ

abbrev cmp : List ℕ → List ℕ → Ordering
cmp = slice_cmp nat_cmp

-- the two ends, and what lies behind the front
ends : (folder : List ℕ) → cmp (folder ++ 47 ∷ []) (folder ++ 48 ∷ []) ≡ cmp (47 ∷ []) (48 ∷ [])
ends folder = same_front folder (47 ∷ []) (48 ∷ [])

none_le : (m : List ℕ) → is_le (cmp [] m) ≡ true
none_le [] = refl
none_le (c ∷ m) = refl

not_before : (front m : List ℕ) → is_le (cmp front (front ++ m)) ≡ true
not_before front m = ap (λ f. is_le (cmp f (front ++ m))) (sym (append-nil front)) ∙ ap is_le (same_front front [] m) ∙ none_le m

before_end : (folder m : List ℕ) → is_le (cmp (folder ++ 48 ∷ []) ((folder ++ 47 ∷ []) ++ m)) ≡ false
before_end folder m = ap (λ t. is_le (cmp (folder ++ 48 ∷ []) t)) (append_assoc folder (47 ∷ []) m) ∙ ap is_le (same_front folder (48 ∷ []) (47 ∷ m))

pub forward : (folder : List ℕ) (range : Bound (String Global) × Bound (String Global)) → IsRangeOf folder range → IsForward (IsLeBy string_cmp) (IsLtBy string_cmp) range.0 range.1
forward [] range is = subst (λ r. IsForward (IsLeBy string_cmp) (IsLtBy string_cmp) r.0 r.1) (sym is) tt
forward (c ∷ folder) range is =
    subst (λ r. IsForward (IsLeBy string_cmp) (IsLtBy string_cmp) r.0 r.1) (sym is.is)
    ((λ i. is_gt (cmp (is.from_is i) (is.end_is i))) ∙ ap is_gt (ends (c ∷ folder)))

pub made : (folder : List ℕ) → (length folder == 0) ≡ false → (from end : String Global) → string_bytes from ≡ folder ++ 47 ∷ [] → string_bytes end ≡ folder ++ 48 ∷ [] → IsRangeOf folder (Included from, Excluded end)
made [] some from end from_is end_is = absurd (cc some)
made (c ∷ folder) some from end from_is end_is = record { from = from; end = end; is = refl; from_is = from_is; end_is = end_is }

pub made_empty : (folder : List ℕ) → (length folder == 0) ≡ true → IsRangeOf folder (Unbounded, Unbounded)
made_empty [] none = refl
made_empty (c ∷ folder) none = let n : suc (length folder) ≡ 0 = eqb-true _ _ none in absurd (omega arith)

both_true : (a b : Bool) → a ≡ true → b ≡ false → (a && not b) ≡ true
both_true a b p q = (λ i. p i && not (q i))

-- a path with a name in the folder lies in the range
inside : (folder : List ℕ) (range : Bound (String Global) × Bound (String Global)) → IsRangeOf folder range → (k : String Global) (m : List ℕ) → string_bytes k ≡ front_of folder ++ m → range_contains string_cmp range.0 range.1 k ≡ true
inside [] range is k m splits = ap (λ r. range_contains string_cmp r.0 r.1 k) is
inside (c ∷ folder) range is k m splits =
    ap (λ r. range_contains string_cmp r.0 r.1 k) is.is
    ∙ both_true (is_le (cmp (string_bytes is.from) (string_bytes k))) (is_le (cmp (string_bytes is.end) (string_bytes k)))
    ((λ i. is_le (cmp (is.from_is i) (splits i))) ∙ not_before ((c ∷ folder) ++ 47 ∷ []) m)
    ((λ i. is_le (cmp (is.end_is i) (splits i))) ∙ before_end (c ∷ folder) m)

module _ (folder : List ℕ) (range : Bound (String Global) × Bound (String Global)) (is : IsRangeOf folder range) where
  abbrev is_in : Entry → Bool
  is_in e = range_contains string_cmp range.0 range.1 e.0

  outside : (k : String Global) → range_contains string_cmp range.0 range.1 k ≡ false → name_behind (front_of folder) (string_bytes k) ≡ None
  outside k out =
      elim (name_behind (front_of folder) (string_bytes k)) as (λ o. name_behind (front_of folder) (string_bytes k) ≡ o → o ≡ None) [
        | None ↦ λ none. refl
        | Some m ↦ λ some. absurd (cc (sym (inside folder range is k m (named (front_of folder) m (string_bytes k) m some).0) ∙ out))
      ] refl

  one_more : (e : Entry) (es : List Entry) (b : Bool) → is_in e ≡ b → names_among (front_of folder) (filter is_in es) ≡ names_among (front_of folder) es
      → names_among (front_of folder) (cond b (e ∷ filter is_in es) (filter is_in es)) ≡ names_among (front_of folder) (e ∷ es)
  one_more e es true here so_far = ap (cons_option (name_behind (front_of folder) (string_bytes e.0))) so_far
  one_more e es false here so_far = so_far ∙ sym (ap (λ o. cons_option o (names_among (front_of folder) es)) (outside e.0 here))

  pub names_between : (es : List Entry) → names_among (front_of folder) (entries_between string_cmp range.0 range.1 es) ≡ names_among (front_of folder) es
  names_between [] = refl
  names_between (e ∷ es) = one_more e es (is_in e) refl (names_between es)
