use Rattle.std.proofs.Common.{◌≡◌, List, ℕ, Contains, length, map, sym, ap, subst, ◌∙◌, arith}
use Rattle.std.proofs.lemmas.List.{length-map}
use Rattle.std.specs.List.{IsDistinct}
use Rattle.std.specs.Str.{bytes_eq}
use Rattle.table_history.specs.Rows.{HasPath}
use Rattle.hudi_groups.specs.Group.{joined}
use Rattle.target_hudi.specs.Writing.{replaced_of}
use Rattle.target_hudi.proofs.ReplacedLemmas.{ids_by, whole_again}
use Rattle.target_hudi.proofs.StatLemmas.{at_most}
use Rattle.target_hudi.proofs.replaced.replaced_ids.Goals as goal

pub sorted_ids-requires : goal.sorted_ids-requires
sorted_ids-requires c =
    let lost = c.in_ok-lost.lost.items in
    let ids : c.in_ok-ids.ids.items ≡ map replaced_of lost = c.in_ok-ids.ensures ∙ ap (λ (l : List (List ℕ)). map replaced_of l) c.as_slice.ensures.value in
    let whole : map (λ (p : List ℕ × List ℕ). joined p.0 p.1) (map replaced_of lost) ≡ lost = whole_again lost (λ path there. c.requires.paths path ((c.in_ok-lost.ensures.paths path).0 there).0) in
    subst (λ (l : List (List ℕ)). IsDistinct bytes_eq l) (sym (ap (λ (l : List (List ℕ × List ℕ)). map (λ (p : List ℕ × List ℕ). joined p.0 p.1) l) ids ∙ whole)) c.in_ok-lost.ensures.distinct

pub returns-clause-ids : goal.returns-clause-ids
returns-clause-ids c =
    ids_by (λ path. Contains c.args.removed.now path × (HasPath c.args.after.now path → ⊥)) c.in_ok-lost.lost.items c.in_ok-ids.ids.items c.in_ok-lost.ensures.paths (c.in_ok-ids.ensures ∙ ap (λ (l : List (List ℕ)). map replaced_of l) c.as_slice.ensures.value) (λ v. v.items) c.sorted_ids.result c.sorted_ids.ensures.ids

pub returns-clause-few : goal.returns-clause-few
returns-clause-few c =
    let lost = c.in_ok-lost.lost.items in
    let ids : c.in_ok-ids.ids.items ≡ map replaced_of lost = c.in_ok-ids.ensures ∙ ap (λ (l : List (List ℕ)). map replaced_of l) c.as_slice.ensures.value in
    at_most (length c.args.removed.now) (length c.in_ok-ids.ids.items) (λ v. v.items) c.sorted_ids.result (omega (arith, ap length ids, length-map lost replaced_of, c.in_ok-lost.ensures.few)) c.sorted_ids.ensures.len
