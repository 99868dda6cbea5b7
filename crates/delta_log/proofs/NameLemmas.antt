-- The names of a JSON object's members are distinct.
use Rattle.std.proofs.Common.{◌≡◌, ℕ, List, [], ◌∷◌, ◌++◌, map, Less, false, Result, Ok, Err, refl, sym, ap, subst, ◌∙◌, is_eq, Bor, Ordering, nat_cmp}
use Rattle.std.proofs.lemmas.Map.Keys.{sorted_head, sorted_tail, IsDistinct-cons}
use Rattle.std.proofs.lemmas.Map.Text.{is_eq-slice_cmp}
use Rattle.std.specs.Prelude.{IfOk}
use Rattle.std.specs.Cmp.Lexicographic.{slice_cmp}
use Rattle.std.specs.List.{AllByRecursion, IsDistinct}
use Rattle.std.specs.List.Sorted.{IsStrictlySortedBy}
use Rattle.std.specs.Str.{bytes_eq}
use Rattle.serde_json.specs.Data.{Data}
use Rattle.json_outline.specs.View.{view, sorted_view}
use Rattle.json_outline.specs.declared.node.Node.{Node}
use Rattle.lake_basics.specs.declared.outcome.ReadError.{ReadError}
use Rattle.lake_basics.specs.Outcome.{◌>>=◌, each, with_front, Gives}
use Rattle.lake_basics.proofs.Each.{with_front-push}
use Rattle.json_reading.specs.Json.{pairs}
use Rattle.delta_log.specs.declared.error.LineFault.{LineFault}
use Rattle.delta_log.specs.Grammar.{keyed}
use Rattle.delta_log.specs.Sound.{HaveDistinctNames}

abbrev pub Entry : Type 0
Entry = Bor (List ℕ) × Bor Node

-- names in byte order
abbrev name_cmp : Bor (List ℕ) → Bor (List ℕ) → Ordering
name_cmp x y = slice_cmp nat_cmp x.now y.now

abbrev names_in : List Entry → List (List ℕ)
names_in es = map (λ e. e.0.now) es

apart : (key : Bor (List ℕ)) (es : List Entry) → AllByRecursion (λ k. name_cmp key k ≡ Less) (map (λ e. e.0) es) → AllByRecursion (λ name. bytes_eq key.now name ≡ false) (names_in es)
apart key [] all = tt
apart key (e ∷ es) all = (sym (is_eq-slice_cmp key.now e.0.now) ∙ ap is_eq all.0, apart key es all.1)

distinct_keys : (es : List Entry) → IsStrictlySortedBy name_cmp (map (λ e. e.0) es) → IsDistinct bytes_eq (names_in es)
unfolding IsDistinct
distinct_keys [] sorted = tt
distinct_keys (e ∷ es) sorted = IsDistinct-cons bytes_eq e.0.now (names_in es) (apart e.0 es (sorted_head name_cmp e.0 (map (λ x. x.0) es) sorted)) (distinct_keys es (sorted_tail name_cmp e.0 (map (λ x. x.0) es) sorted))

names_of_pairs : (es : List Entry) → map (λ p. p.0) (pairs (sorted_view es)) ≡ names_in es
names_of_pairs [] = refl
names_of_pairs (e ∷ es) = ap (λ names. e.0.now ∷ names) (names_of_pairs es)

module _ {A : Type 0} (g : Data → Result A LineFault) where
  rest_kept : (k : List ℕ) (v : A) (ps : List (List ℕ × Data)) (vs : List (List ℕ × A)) (r : Result (List (List ℕ × A)) LineFault) → each (keyed g) ps ≡ r → (r >>= λ ws. Ok ((k, v) ∷ ws)) ≡ Ok vs
      → ((ws : List (List ℕ × A)) → each (keyed g) ps ≡ Ok ws → map (λ p. p.0) ws ≡ map (λ p. p.0) ps) → map (λ p. p.0) vs ≡ k ∷ map (λ p. p.0) ps
  rest_kept k v ps vs (Ok ws) is all more = let whole : vs ≡ (k, v) ∷ ws = cc in ap (map (λ p. p.0)) whole ∙ ap (λ names. k ∷ names) (more ws is)
  rest_kept k v ps vs (Err e) is all more = absurd (cc)

  first_kept : (k : List ℕ) (ps : List (List ℕ × Data)) (vs : List (List ℕ × A)) (r : Result A LineFault) → ((r >>= λ v. Ok (k, v)) >>= λ w. each (keyed g) ps >>= λ ws. Ok (w ∷ ws)) ≡ Ok vs
      → ((ws : List (List ℕ × A)) → each (keyed g) ps ≡ Ok ws → map (λ p. p.0) ws ≡ map (λ p. p.0) ps) → map (λ p. p.0) vs ≡ k ∷ map (λ p. p.0) ps
  first_kept k ps vs (Ok v) all more = rest_kept k v ps vs (each (keyed g) ps) refl all more
  first_kept k ps vs (Err e) all more = absurd (cc)

  pub names_kept : (ps : List (List ℕ × Data)) (vs : List (List ℕ × A)) → each (keyed g) ps ≡ Ok vs → map (λ p. p.0) vs ≡ map (λ p. p.0) ps
  names_kept [] vs all = let none : vs ≡ [] = cc in ap (map (λ p. p.0)) none
  names_kept (p ∷ ps) vs all = first_kept p.0 ps vs (g p.1) all (λ ws is. names_kept ps ws is)

  -- what is read of a map's entries has distinct names
  pub distinct_names : (es : List Entry) (vs : List (List ℕ × A)) → IsStrictlySortedBy name_cmp (map (λ e. e.0) es) → each (keyed g) (pairs (sorted_view es)) ≡ Ok vs → HaveDistinctNames vs
  distinct_names es vs sorted is = subst (IsDistinct bytes_eq) (sym (names_kept (pairs (sorted_view es)) vs is ∙ names_of_pairs es)) (distinct_keys es sorted)

pub names_by : {A : Type 0} (g : Data → Result A LineFault) (es : List Entry) (r : Result (List (List ℕ × A)) (ReadError LineFault)) → IsStrictlySortedBy name_cmp (map (λ e. e.0) es)
    → Gives (λ vs. vs) r (each (keyed g) (pairs (sorted_view es))) → IfOk r (λ vs. HaveDistinctNames vs)
names_by g es (Ok vs) sorted is = distinct_names g es vs sorted is
names_by g es (Err e) sorted is = tt

pub none_distinct : {A : Type 0} (ps : List (List ℕ × A)) → ps ≡ [] → HaveDistinctNames ps
unfolding IsDistinct
none_distinct ps is = subst (λ l. HaveDistinctNames l) (sym is) tt

-- ---- one member more

-- what is read so far at a step of a loop over a map's members
pub member_pushed : {A : Type 0} (g : Data → Result A LineFault) (left rest : List Entry) (e : Entry) (vs more : List (List ℕ × A)) (v : List ℕ × A) (all : Result (List (List ℕ × A)) LineFault) → left ≡ e ∷ rest → more ≡ vs ++ v ∷ [] → keyed g (e.0.now, view e.1.now) ≡ Ok v
    → with_front vs (each (keyed g) (pairs (sorted_view left))) ≡ all → with_front more (each (keyed g) (pairs (sorted_view rest))) ≡ all
member_pushed g left rest e vs more v all next pushed read before =
    let at_next : with_front vs (each (keyed g) (pairs (sorted_view (e ∷ rest)))) ≡ all = subst (λ (l : List Entry). with_front vs (each (keyed g) (pairs (sorted_view l))) ≡ all) next before in
    rw pushed (with_front-push (keyed g) vs (e.0.now, view e.1.now) (pairs (sorted_view rest)) v read ∙ at_next)
