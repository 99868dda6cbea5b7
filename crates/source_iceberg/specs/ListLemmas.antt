-- The last item of lists that are one, and what is behind a position in a history.
use Rattle.std.proofs.Common.{◌≡◌, ℕ, List, [], ◌∷◌, ◌++◌, Contains, sym, ap, subst, ◌∙◌}
use Rattle.std.specs.List.{IsDistinct}
use Rattle.std.specs.Str.{bytes_eq}
use Rattle.table_history.specs.History.{History, positions_of}
use Rattle.table_history.specs.declared.table.Table.{Table}
use Rattle.table_history.proofs.RowListLemmas.{Contains-head, Contains-tail}
use Rattle.lake_basics.proofs.Texts.{behind_distinct}
use Rattle.source_core.proofs.Lists.{end_append, end_of, first_apart}

-- ---- the last item

-- lists that are one have one last item
pub same_end : {X : Type 0} (xs : List X) (x : X) (ys zs : List X) (z : X) → xs ++ x ∷ ys ≡ zs ++ z ∷ [] → end_of x ys ≡ z
same_end xs x ys zs z e = sym (end_append x xs x ys) ∙ ap (end_of x) e ∙ end_append x zs z []

-- ---- positions that are distinct

pub in_positions : (xs : History) (e : List ℕ × Table) (ps : History) → Contains (positions_of (xs ++ e ∷ ps)) e.0
in_positions [] e ps = Contains-head e.0 (positions_of ps)
in_positions (x ∷ xs) e ps = Contains-tail x.0 (positions_of (xs ++ e ∷ ps)) e.0 (in_positions xs e ps)

-- in a history of distinct positions one position has the same behind it
pub same_behind : (xs : History) (e : List ℕ × Table) (ps ys : History) (f : List ℕ × Table) (bs : History) → IsDistinct bytes_eq (positions_of (xs ++ e ∷ ps)) → xs ++ e ∷ ps ≡ ys ++ f ∷ bs → e.0 ≡ f.0 → ps ≡ bs
same_behind [] e ps [] f bs distinct is at = cc
same_behind [] e ps (y ∷ ys) f bs distinct is at =
    let tails : ps ≡ ys ++ f ∷ bs = cc in
    absurd (first_apart e.0 f.0 (positions_of ps) distinct (subst (λ (l : History). Contains (positions_of l) f.0) (sym tails) (in_positions ys f bs)) at)
same_behind (x ∷ xs) e ps [] f bs distinct is at =
    let first : x ≡ f = cc in
    absurd (first_apart x.0 e.0 (positions_of (xs ++ e ∷ ps)) distinct (in_positions xs e ps) (ap (λ (p : List ℕ × Table). p.0) first ∙ sym at))
same_behind (x ∷ xs) e ps (y ∷ ys) f bs distinct is at =
    let tails : xs ++ e ∷ ps ≡ ys ++ f ∷ bs = cc in
    same_behind xs e ps ys f bs (behind_distinct x.0 (positions_of (xs ++ e ∷ ps)) distinct) tails at
