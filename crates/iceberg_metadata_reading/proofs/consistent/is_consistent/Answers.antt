use Rattle.std.proofs.Common.{◌≡◌, ◌&&◌, Bool, true, false, ℕ, List, map, sym, ap, ◌∙◌}
use Rattle.std.specs.List.{list_all}
use Rattle.std.proofs.lemmas.Bool.{false≢true}
use Rattle.iceberg_metadata.specs.Judging.{are_distinct, are_held, is_among_if_any}
use Rattle.iceberg_metadata.specs.Location.{front_of, names_path}
use Rattle.iceberg_metadata.specs.declared.metadata.Snapshot.{Snapshot}
use Rattle.iceberg_metadata.specs.declared.metadata.Spec.{Spec}
use Rattle.iceberg_metadata_reading.proofs.consistent.is_consistent.Goals as goal

-- all that is looked at before the paths is as it should be
paths_left : (d k s n h p r : Bool) → (d && k) ≡ true → s ≡ true → n ≡ true → h ≡ true → r ≡ p → r ≡ ((d && (s && n)) && (h && (k && p)))
paths_left true true s n h p r known specs held all is = rw (specs, held, all) is
paths_left true false s n h p r known specs held all is = absurd (false≢true known)
paths_left false k s n h p r known specs held all is = absurd (false≢true known)

pub returns : goal.returns
returns c =
    let m = c.args.metadata.now in
    let ids = c.args.schemas.now in
    let snapshots = c.as_slice-snapshots.ensures in
    let in_ids = λ (s : Snapshot). is_among_if_any ids s.schema_id in
    let named = λ (f : List ℕ) (l : List Snapshot). list_all (λ (s : Snapshot). names_path f s.list) l in
    let spec_ids = map (λ (s : Spec). s.id) m.specs in
    let held_ids = map (λ (s : Snapshot). s.id) m.snapshots in
    let known : (are_distinct ids && list_all in_ids m.snapshots) ≡ true = ap (λ (l : List Snapshot). are_distinct ids && list_all in_ids l) (sym snapshots) ∙ sym c.in_ok-are_known.ensures ∙ c.if-not-branch.false in
    let specs : are_distinct spec_ids ≡ true = sym (c.in_ok-are_distinct.ensures ∙ ap are_distinct (c.as_slice-2.ensures.value ∙ c.in_ok-specs.ensures ∙ ap (map (λ (s : Spec). s.id)) c.as_slice.ensures)) ∙ c.if-not-branch-2.false in
    let held : are_distinct held_ids ≡ true = sym (c.in_ok-are_distinct-2.ensures ∙ ap are_distinct (c.as_slice-else-not-branch-2.ensures.value ∙ c.in_ok-held.ensures ∙ ap (map (λ (s : Snapshot). s.id)) snapshots)) ∙ c.if-not-branch-3.false in
    let paths : c.name_paths.result ≡ named (front_of m.location) m.snapshots =
    c.name_paths.ensures
    ∙ ap (λ (f : List ℕ). named f c.as_slice-snapshots.result.now) (c.as_slice-5.ensures.value ∙ c.in_ok-front.ensures ∙ ap front_of c.as_str.ensures.value)
    ∙ ap (named (front_of m.location)) snapshots in
    paths_left (are_distinct ids) (list_all in_ids m.snapshots) (are_distinct spec_ids) (are_distinct held_ids) (are_held m ids) (named (front_of m.location) m.snapshots) c.name_paths.result known specs held (sym c.are_held.ensures ∙ c.if-not-are_held.false) paths
