-- The manifests of a new list are those that its old one and the added rows become.
use Rattle.std.proofs.Common.{◌≡◌, ◌≢◌, ◌+◌, ◌<◌, ◌-◌, ℕ, zero, Bool, true, false, suc, Some, List, [], ◌∷◌, ◌++◌, drop, get_or, cond, ltb, length, map, refl, sym, ap, subst, ◌∙◌, arith, ⊎_elim}
use Rattle.std.specs.List.{filter, list_any, range_with_len}
use Rattle.std.proofs.lemmas.Bool.{lt-ltb}
use Rattle.std.proofs.lemmas.List.{append_assoc, drop-drop, get_or-drop, length-append, length-drop, map-append}
use Rattle.std.proofs.lemmas.Option.{slice_get_read}
use Rattle.std.specs.Prelude.{slice_get}
use Rattle.table_history.specs.Row.{Row}
use Rattle.iceberg_manifest.specs.Lists.{AreEach}
use Rattle.iceberg_version.specs.Carrying.{AreCarriedOn, AreNext, IsCarriedOn, IsNextList, IsNextOf}
use Rattle.iceberg_version.specs.Manifests.{LiveManifest, added_manifest, carried, has_rows, is_lost, left, new, rewritten_entries, stays}
use Rattle.iceberg_version.specs.declared.carrying.Next.{Next}
use Rattle.iceberg_version.specs.declared.carrying.Next.TheVariants.{Added, Anew, Stays}
use Rattle.lake_basics.proofs.Lists.{get_behind, pushed_behind}

-- ---- pairs, one by one

pub each_append : {A B : Type 0} (P : A → B → Type 0) (xs us : List A) (ys vs : List B) → AreEach P xs ys → AreEach P us vs → AreEach P (xs ++ us) (ys ++ vs)
each_append P [] us [] vs h more = more
each_append P [] us (y ∷ ys) vs h more = absurd h
each_append P (x ∷ xs) us [] vs h more = absurd h
each_append P (x ∷ xs) us (y ∷ ys) vs h more = (h.0, each_append P xs us ys vs h.1 more)

-- ---- the manifests of the list before

next_by : (front : List ℕ) (version : ℕ) (removed : List (List ℕ)) (all : List LiveManifest) (parts : List (List Row)) (place : ℕ) (m : LiveManifest) (b : Bool) → slice_get all place ≡ Some m → IsNextOf front version removed all parts (cond b (Anew place) (Stays place)) (cond b (new (rewritten_entries front version removed m.rows) (left removed m.rows)) (stays m))
next_by front version removed all parts place m true at = (m, at, refl)
next_by front version removed all parts place m false at = (m, at, refl)

pub next_carried : (front : List ℕ) (version : ℕ) (removed : List (List ℕ)) (all : List LiveManifest) (parts : List (List Row)) (place : ℕ) (m : LiveManifest) (one : Next) → slice_get all place ≡ Some m → IsCarriedOn removed place m one → IsNextOf front version removed all parts one (carried front version removed m)
next_carried front version removed all parts place m one at h =
    subst (λ (n : Next). IsNextOf front version removed all parts n (carried front version removed m)) (sym h.is) (next_by front version removed all parts place m (list_any (is_lost removed) m.rows) at)

rows_lead : (m : LiveManifest) → m.rows ≡ [] → has_rows m ≡ false
rows_lead m none = ap (λ (n : ℕ). ltb 0 n) (ap length none)

has_some : {X : Type 0} (xs : List X) → xs ≢ [] → ltb 0 (length xs) ≡ true
has_some [] some = absurd (some refl)
has_some (x ∷ xs) some = lt-ltb 0 (length (x ∷ xs)) (omega arith)

here_at : (all : List LiveManifest) (place : ℕ) (m : LiveManifest) (ms : List LiveManifest) → m ∷ ms ≡ drop place all → slice_get all place ≡ Some m
here_at all place m ms e =
    let len : length (m ∷ ms) ≡ length all - place = ap length e ∙ length-drop place all in
    let within : place < length all = omega arith in
    let at : get_or (drop place all) 0 m ≡ get_or all (place + 0) m = get_or-drop place all 0 m in
    let zero : place + 0 ≡ place = omega arith in
    slice_get_read all (length all) place m refl within (ap (λ (xs : List LiveManifest). get_or xs 0 m) e ∙ at ∙ ap (λ (n : ℕ). get_or all n m) zero)

behind_at : (all : List LiveManifest) (place : ℕ) (m : LiveManifest) (ms : List LiveManifest) → m ∷ ms ≡ drop place all → ms ≡ drop (place + 1) all
behind_at all place m ms e = ap (drop 1) e ∙ drop-drop 1 place all

pub each_carried : (front : List ℕ) (version : ℕ) (removed : List (List ℕ)) (all : List LiveManifest) (parts : List (List Row)) (place : ℕ) (ms : List LiveManifest) (next : List Next) → ms ≡ drop place all → AreCarriedOn removed place ms next → AreNext front version removed all parts next (map (carried front version removed) (filter has_rows ms))
each_carried front version removed all parts place [] next e none = subst (λ (ns : List Next). AreNext front version removed all parts ns []) (sym none) tt
each_carried front version removed all parts place (m ∷ ms) next e are =
    let rest : List LiveManifest = filter has_rows ms in
    let whole : List Next → Bool → Type 0 = λ ns b. AreNext front version removed all parts ns (map (carried front version removed) (cond b (m ∷ rest) rest)) in
    ⊎_elim
    (λ skipped. subst (whole next) (sym (rows_lead m skipped.0)) (each_carried front version removed all parts (place + 1) ms next (behind_at all place m ms e) skipped.1))
    (λ taken.
    let first = next_carried front version removed all parts place m taken.0 (here_at all place m ms e) taken.3 in
    let others = each_carried front version removed all parts (place + 1) ms taken.1 (behind_at all place m ms e) taken.4 in
    subst (λ (ns : List Next). whole ns (has_rows m)) (sym taken.2) (subst (whole (taken.0 ∷ taken.1)) (sym (has_some m.rows taken.3.rows)) (first, others)))
    are

-- ---- those of the added rows

each_added : (front : List ℕ) (version : ℕ) (removed : List (List ℕ)) (all : List LiveManifest) (before parts : List (List Row)) → AreNext front version removed all (before ++ parts) (map (λ place. Added place) (range_with_len (length before) (length parts))) (map (added_manifest front version) parts)
each_added front version removed all before [] = tt
each_added front version removed all before (rows ∷ parts) =
    let more = before ++ rows ∷ [] in
    let len : length more ≡ length before + 1 = length-append before (rows ∷ []) in
    let rest = each_added front version removed all more parts in
    let same : AreNext front version removed all (before ++ rows ∷ parts) (map (λ place. Added place) (range_with_len (length before + 1) (length parts))) (map (added_manifest front version) parts) =
    subst (λ (n : ℕ). AreNext front version removed all (before ++ rows ∷ parts) (map (λ place. Added place) (range_with_len n (length parts))) (map (added_manifest front version) parts)) len
    (subst (λ (ps : List (List Row)). AreNext front version removed all ps (map (λ place. Added place) (range_with_len (length more) (length parts))) (map (added_manifest front version) parts)) (pushed_behind before rows parts) rest) in
    ((rows, get_behind before rows parts, refl), same)

-- one place more
range_push : (start n : ℕ) → range_with_len start (n + 1) ≡ range_with_len start n ++ (start + n) ∷ []
range_push start zero = ap (λ k. k ∷ []) (let e : start ≡ start + 0 = omega arith in e)
range_push start (suc n) =
    let e : suc n + 1 ≡ suc (n + 1) = omega arith in
    let f : start + 1 + n ≡ start + suc n = omega arith in
    ap (range_with_len start) e ∙ ap (λ l. start ∷ l) (range_push (start + 1) n) ∙ ap (λ k. start ∷ (range_with_len (start + 1) n ++ k ∷ [])) f

pub part_more : (before next after : List Next) (place : ℕ) → next ≡ before ++ map (λ k. Added k) (range_with_len 0 place) → after ≡ next ++ Added place ∷ [] → after ≡ before ++ map (λ k. Added k) (range_with_len 0 (place + 1))
part_more before next after place so_far pushes =
    let range : range_with_len 0 (place + 1) ≡ range_with_len 0 place ++ place ∷ [] = range_push 0 place ∙ ap (λ k. range_with_len 0 place ++ k ∷ []) (let e : 0 + place ≡ place = omega arith in e) in
    let more : map (λ k. Added k) (range_with_len 0 (place + 1)) ≡ map (λ k. Added k) (range_with_len 0 place) ++ Added place ∷ [] = ap (map (λ k. Added k)) range ∙ map-append (λ k. Added k) (range_with_len 0 place) (place ∷ []) in
    pushes ∙ ap (λ (l : List Next). l ++ Added place ∷ []) so_far ∙ append_assoc before (map (λ k. Added k) (range_with_len 0 place)) (Added place ∷ []) ∙ ap (λ (l : List Next). before ++ l) (sym more)

-- The manifests of the list before that are carried on don't depend on the parts.
pub all_next : (front : List ℕ) (version : ℕ) (removed : List (List ℕ)) (all : List LiveManifest) (parts : List (List Row)) (next : List Next) → IsNextList removed all (length parts) next → AreNext front version removed all parts next (map (carried front version removed) (filter has_rows all) ++ map (added_manifest front version) parts)
all_next front version removed all parts next list =
    let one = each_carried front version removed all parts 0 all list.carried refl list.before in
    let two = each_added front version removed all [] parts in
    subst (λ (ns : List Next). AreNext front version removed all parts ns (map (carried front version removed) (filter has_rows all) ++ map (added_manifest front version) parts)) (sym list.are)
    (each_append (IsNextOf front version removed all parts) list.carried (map (λ place. Added place) (range_with_len 0 (length parts))) (map (carried front version removed) (filter has_rows all)) (map (added_manifest front version) parts) one two)
