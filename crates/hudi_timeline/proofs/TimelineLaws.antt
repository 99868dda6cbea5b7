-- The table after a timeline has the rows that are live, over those that were there before it.
use Rattle.std.proofs.Common.{◌≡◌, ◌↔◌, ◌⊎◌, ℕ, List, [], ◌∷◌, ◌++◌, map, Option, Some, Contains, refl, sym, ap, subst, ◌∙◌, inl, inr, ⊎_elim}
use Rattle.std.proofs.lemmas.List.Elements.{Contains-append_left, Contains-append_right, Contains-push_cases}
use Rattle.std.proofs.lemmas.List.{append_assoc}
use Rattle.table_history.specs.Tables.{IsAfter, IsRowAfter}
use Rattle.table_history.specs.TypeTree.{ColumnTrees}
use Rattle.table_history.specs.declared.row.FileRow.{FileRow}
use Rattle.table_history.specs.declared.table.Change.{Change}
use Rattle.table_history.specs.declared.table.Table.{Table}
use Rattle.table_history.proofs.RowListLemmas.{Contains-none, Contains-head, Contains-tail, Contains-cases}
use Rattle.table_history.proofs.TableLemmas.{diff_leads}
use Rattle.partition_map.specs.declared.kind.PartKind.{PartKind}
use Rattle.hudi_properties.specs.declared.table.HudiTable.{HudiTable}
use Rattle.hudi_timeline.specs.Causes.{AreKinds, table_before, rows_before}
use Rattle.hudi_timeline.specs.Change.{IsChangeOf, LeavesLive, LeadsThrough}
use Rattle.hudi_timeline.specs.Live.{Completed, Timeline, IsWrittenBy, Touches, HudiLive, AreLive, IsLiveAfter, IsLiveOver}
use Rattle.partition_map.specs.Columns.{column_kind}
use Rattle.hudi_timeline.specs.Schemas.{schema_after, AreKindsOf}
use Rattle.hudi_timeline.proofs.CauseLemmas.{kinds_same}
use Rattle.hudi_timeline.proofs.ChangeLemmas.{before_rows, schema_is}
use Rattle.hudi_timeline.proofs.KindLemmas.{kinds_kept}

-- ---- a timeline with one more instant
end_or_before : {X : Type 0} (xs : List X) (u : X) (before : List X) (w : X) (after : List X) → xs ++ u ∷ [] ≡ before ++ w ∷ after
    → ((w ≡ u) × (after ≡ [])) ⊎ ((rest : List X) × (after ≡ rest ++ u ∷ []) × (xs ≡ before ++ w ∷ rest))
end_or_before [] u [] w after e = inl (cc, cc)
end_or_before [] u (b ∷ []) w after e = absurd cc
end_or_before [] u (b ∷ c ∷ bs) w after e = absurd cc
end_or_before (x ∷ xs) u [] w after e = inr (xs, cc, cc)
end_or_before (x ∷ xs) u (b ∷ bs) w after e =
    let heads : x ≡ b = cc in
    let tails : xs ++ u ∷ [] ≡ bs ++ w ∷ after = cc in
    ⊎_elim
    (λ last. inl last)
    (λ inner. inr (inner.0, inner.1, (λ i. heads i ∷ inner.2 i)))
    (end_or_before xs u bs w after tails)

module _ (table : HudiTable) (kinds : List PartKind) (timeline : Timeline) (u : Completed) (row : FileRow) where
  written_last : IsWrittenBy table kinds u row → HudiLive table kinds (timeline ++ u ∷ []) row
  written_last w = record { before = timeline; by = u; after = []; split = refl; written = w; last = λ later there. absurd (Contains-none later there) }

  still_live : HudiLive table kinds timeline row → (Touches u row.path → ⊥) → HudiLive table kinds (timeline ++ u ∷ []) row
  still_live was spared = record {
    before = was.before;
    by = was.by;
    after = was.after ++ u ∷ [];
    split = ap (λ l. l ++ u ∷ []) was.split ∙ append_assoc was.before (was.by ∷ was.after) (u ∷ []);
    written = was.written;
    last = λ later there touches.
        ⊎_elim
        (λ among. was.last later among touches)
        (λ e. spared (subst (λ v. Touches v row.path) (sym e) touches))
        (Contains-push_cases was.after u later there);
  }

  last_or_before : HudiLive table kinds (timeline ++ u ∷ []) row → IsWrittenBy table kinds u row ⊎ (HudiLive table kinds timeline row × (Touches u row.path → ⊥))
  last_or_before h =
      ⊎_elim
      (λ end. inl (subst (λ v. IsWrittenBy table kinds v row) end.0 h.written))
      (λ inner. inr (
        record {
          before = h.before;
          by = h.by;
          after = inner.0;
          split = inner.2;
          written = h.written;
          last = λ later there. h.last later (subst (λ l. Contains l later) (sym inner.1) (Contains-append_left inner.0 (u ∷ []) later there));
        },
        h.last u (subst (λ l. Contains l u) (sym inner.1) (Contains-append_right inner.0 (u ∷ []) u (Contains-head u []))),
      ))
      (end_or_before timeline u h.before h.by h.after h.split)

-- One instant more: what it makes of the live rows is what is live after the longer timeline.
module _ (table : HudiTable) (kinds : List PartKind) (timeline : Timeline) (u : Completed) (before : List FileRow) (live : AreLive table kinds timeline before) where
  pub timeline_step : (row : FileRow) → IsLiveAfter table kinds u before row ↔ HudiLive table kinds (timeline ++ u ∷ []) row
  timeline_step row = (
    λ h.
        ⊎_elim
        (λ w. written_last table kinds timeline u row w)
        (λ kept. still_live table kinds timeline u row ((live row).0 kept.0) kept.1)
        h,
    λ h.
        ⊎_elim
        (λ w. inl w)
        (λ was. inr ((live row).1 was.0, was.1))
        (last_or_before table kinds timeline u row h),
  )

-- The same over an older table, of which the rows of the origin are.
module _ (table : HudiTable) (kinds : List PartKind) (origin : List FileRow) (timeline : Timeline) (u : Completed) (before : List FileRow)
    (live : (row : FileRow) → Contains before row ↔ IsLiveOver table kinds origin timeline row) where
  pub over_step : (row : FileRow) → IsLiveAfter table kinds u before row ↔ IsLiveOver table kinds origin (timeline ++ u ∷ []) row
  over_step row = (
    λ h.
        ⊎_elim
        (λ w. inl (written_last table kinds timeline u row w))
        (λ kept.
        ⊎_elim
        (λ was. inl (still_live table kinds timeline u row was kept.1))
        (λ stays. inr (
          stays.0,
          λ v there touches.
              ⊎_elim
              (λ among. stays.1 v among touches)
              (λ e. kept.1 (subst (λ w. Touches w row.path) (sym e) touches))
              (Contains-push_cases timeline u v there),
        ))
        ((live row).0 kept.0))
        h,
    λ h.
        ⊎_elim
        (λ l.
        ⊎_elim
        (λ w. inl w)
        (λ was. inr ((live row).1 (inl was.0), was.1))
        (last_or_before table kinds timeline u row l))
        (λ stays. inr (
          (live row).1 (inr (stays.0, λ v there. stays.1 v (Contains-append_left timeline (u ∷ []) v there))),
          stays.1 u (Contains-append_right timeline (u ∷ []) u (Contains-head u [])),
        ))
        h,
  )

-- ---- one instant in front of the others
module _ (table : HudiTable) (kinds : List PartKind) (origin mid : List FileRow) (u : Completed) (timeline : Timeline) (row : FileRow) (is : Contains mid row ↔ IsLiveAfter table kinds u origin row) where
  front_to : IsLiveOver table kinds mid timeline row → IsLiveOver table kinds origin (u ∷ timeline) row
  front_to h =
      ⊎_elim
      (λ live. inl (record { before = u ∷ live.before; by = live.by; after = live.after; split = ap (λ l. u ∷ l) live.split; written = live.written; last = live.last }))
      (λ stays.
      ⊎_elim
      (λ written. inl (record { before = []; by = u; after = timeline; split = refl; written = written; last = stays.1 }))
      (λ kept. inr (kept.0, λ v there. ⊎_elim (λ same. subst (λ w. Touches w row.path → ⊥) same kept.1) (λ later. stays.1 v later) (Contains-cases u timeline v there)))
      (is.0 stays.0))
      h

  front_live : (before : Timeline) (by : Completed) (after : Timeline) → u ∷ timeline ≡ before ++ by ∷ after → IsWrittenBy table kinds by row → ((later : Completed) → Contains after later → Touches later row.path → ⊥)
      → IsLiveOver table kinds mid timeline row
  front_live [] by after split written last =
      let first : u ≡ by = cc in
      let rest : timeline ≡ after = cc in
      inr (is.1 (inl (subst (λ w. IsWrittenBy table kinds w row) (sym first) written)), λ v there. last v (subst (λ l. Contains l v) rest there))
  front_live (b ∷ bs) by after split written last =
      let rest : timeline ≡ bs ++ by ∷ after = cc in
      inl (record { before = bs; by = by; after = after; split = rest; written = written; last = last })

  front_from : IsLiveOver table kinds origin (u ∷ timeline) row → IsLiveOver table kinds mid timeline row
  front_from h =
      ⊎_elim
      (λ live. front_live live.before live.by live.after live.split live.written live.last)
      (λ stays. inr (is.1 (inr (stays.0, stays.1 u (Contains-head u timeline))), λ v there. stays.1 v (Contains-tail u timeline v there)))
      h

-- The first instant of a timeline makes rows of the origin, and the others go on from these.
pub over_first : (table : HudiTable) (kinds : List PartKind) (origin mid : List FileRow) (u : Completed) (timeline : Timeline)
    → ((row : FileRow) → Contains mid row ↔ IsLiveAfter table kinds u origin row)
    → (row : FileRow) → IsLiveOver table kinds mid timeline row ↔ IsLiveOver table kinds origin (u ∷ timeline) row
over_first table kinds origin mid u timeline step row = (
  front_to table kinds origin mid u timeline row (step row),
  front_from table kinds origin mid u timeline row (step row),
)

-- ---- one kind for each column all along
same_kinds : (old new : ColumnTrees) (names : List (List ℕ)) (ks ls : List PartKind) → AreKindsOf old names ks → AreKindsOf new names ls
    → ((name : List ℕ) → Contains names name → (o k : PartKind) → column_kind old name ≡ Some o → column_kind new name ≡ Some k → o ≡ k) → ks ≡ ls
same_kinds old new [] [] [] are_old are_new same = refl
same_kinds old new [] [] (l ∷ ls) are_old are_new same = absurd cc
same_kinds old new [] (k ∷ ks) ls are_old are_new same = absurd cc
same_kinds old new (n ∷ ns) [] ls are_old are_new same = absurd cc
same_kinds old new (n ∷ ns) (k ∷ ks) [] are_old are_new same = absurd cc
same_kinds old new (n ∷ ns) (k ∷ ks) (l ∷ ls) are_old are_new same =
    let was : column_kind old n ≡ Some k = cc in
    let is : column_kind new n ≡ Some l = cc in
    let old_rest : AreKindsOf old ns ks = cc in
    let new_rest : AreKindsOf new ns ls = cc in
    λ i. same n (Contains-head n ns) k l was is i ∷ same_kinds old new ns ks ls old_rest new_rest (λ name there. same name (Contains-tail n ns name there)) i

-- ---- a step of the timeline
module _ (table : HudiTable) (base : Option Table) (u : Completed) (change : Change) (next : Table) (is : IsChangeOf u table base change) (after : IsAfter (table_before table base) change next) where
  step_rows : (row : FileRow) → Contains next.rows row ↔ IsLiveAfter table is.kinds u (rows_before base) row
  step_rows row =
      let leads = diff_leads (rows_before base) is.after change.removed change.added is.diff is.before_distinct is.distinct row in (
        λ there. (is.live row).0 (leads.0 (subst (λ l. IsRowAfter l change.removed change.added row) (before_rows table base) ((after.rows row).0 there))),
        λ live. (after.rows row).1 (subst (λ l. IsRowAfter l change.removed change.added row) (sym (before_rows table base)) (leads.1 ((is.live row).1 live))),
      )

  step_schema : next.schema ≡ is.are_kinds.schema
  step_schema = after.schema ∙ schema_is table base change.schema is.are_kinds.schema (ap (λ r. schema_after r base) (sym is.schema) ∙ is.are_kinds.in_force)

  step_are : AreKindsOf next.schema table.partition is.kinds
  step_are = subst (λ s. AreKindsOf s table.partition is.kinds) (sym step_schema) is.are_kinds.are

pub one_kinds : (u : Completed) (table : HudiTable) (base : Option Table) (ks ls : List PartKind) → AreKinds u table base ks → AreKinds u table base ls → ks ≡ ls
one_kinds u table base ks ls a b =
    let both : Some a.schema ≡ Some b.schema = sym a.in_force ∙ b.in_force in
    let same : a.schema ≡ b.schema = cc in
    kinds_same ks ls (sym a.are ∙ ap (λ s. map (column_kind s) table.partition) same ∙ b.are)

-- The change leads from what is live after a timeline to what is live with the instant behind it.
pub leaves_live : (u : Completed) (table : HudiTable) (base : Option Table) (change : Change) → IsChangeOf u table base change → LeavesLive u table base change
leaves_live u table base change is kinds are timeline live next after row =
    let same : is.kinds ≡ kinds = one_kinds u table base is.kinds kinds is.are_kinds are in
    let made : Contains next.rows row ↔ IsLiveAfter table kinds u (rows_before base) row =
    subst (λ ks. Contains next.rows row ↔ IsLiveAfter table ks u (rows_before base) row) same (step_rows table base u change next is after row) in
    let step = timeline_step table kinds timeline u (rows_before base) live row in
    (λ there. step.0 (made.0 there), λ h. made.1 (step.1 h))

-- The kinds of the columns in a table are their kinds after an instant that goes on from it.
pub kinds_stay : (table : HudiTable) (before : Table) (u : Completed) (change : Change) (is : IsChangeOf u table (Some before) change) (kinds : List PartKind)
    → AreKindsOf before.schema table.partition kinds → kinds ≡ is.kinds
kinds_stay table before u change is kinds are =
    same_kinds before.schema is.are_kinds.schema table.partition kinds is.kinds are is.are_kinds.are
    (kinds_kept before.schema is.are_kinds.schema table.partition (λ other. is.features.1.1.1.0 (is.are_kinds.schema, is.are_kinds.in_force, before, refl, other)))

-- The kinds of the columns after a timeline are those that its first instant found.
pub timeline_kinds : (table : HudiTable) (base : Option Table) (u : Completed) (timeline : Timeline) (after : Table) (leads : LeadsThrough table base (u ∷ timeline) after)
    → AreKindsOf after.schema table.partition leads.2.kinds
timeline_kinds table base u [] after leads =
    let end : after ≡ leads.1 = leads.4 in
    subst (λ (t : Table). AreKindsOf t.schema table.partition leads.2.kinds) (sym end) (step_are table base u leads.0 leads.1 leads.2 leads.3)
timeline_kinds table base u (v ∷ vs) after leads =
    subst (AreKindsOf after.schema table.partition)
    (sym (kinds_stay table leads.1 v leads.4.0 leads.4.2 leads.2.kinds (step_are table base u leads.0 leads.1 leads.2 leads.3)))
    (timeline_kinds table (Some leads.1) v vs after leads.4)

-- ---- a timeline of no instant
no_split : (before : Timeline) (by : Completed) (behind : Timeline) → [] ≡ before ++ by ∷ behind → ⊥
no_split [] by behind e = absurd cc
no_split (b ∷ bs) by behind e = absurd cc

none_live : (table : HudiTable) (kinds : List PartKind) (row : FileRow) → HudiLive table kinds [] row → ⊥
none_live table kinds row live = no_split live.before live.by live.after live.split

-- The rows of the table after a timeline are those that are live: some instant left the row live, or it was there before, and no instant has written or replaced its group.
pub timeline_rows : (table : HudiTable) (base : Option Table) (u : Completed) (timeline : Timeline) (after : Table) (leads : LeadsThrough table base (u ∷ timeline) after)
    → (row : FileRow) → Contains after.rows row ↔ IsLiveOver table leads.2.kinds (rows_before base) (u ∷ timeline) row
timeline_rows table base u [] after leads row =
    let next = leads.1 in
    let end : after ≡ next = leads.4 in
    let step = step_rows table base u leads.0 next leads.2 leads.3 row in (
      λ there. front_to table leads.2.kinds (rows_before base) next.rows u [] row step (inr (subst (λ (t : Table). Contains t.rows row) end there, λ v none. absurd (Contains-none v none))),
      λ live.
          ⊎_elim
          (λ some. absurd (none_live table leads.2.kinds row some))
          (λ stays. subst (λ (t : Table). Contains t.rows row) (sym end) stays.0)
          (front_from table leads.2.kinds (rows_before base) next.rows u [] row step live),
    )
timeline_rows table base u (v ∷ vs) after leads row =
    let next = leads.1 in
    let step = step_rows table base u leads.0 next leads.2 leads.3 row in
    let rest = timeline_rows table (Some next) v vs after leads.4 row in
    let kinds = kinds_stay table next v leads.4.0 leads.4.2 leads.2.kinds (step_are table base u leads.0 next leads.2 leads.3) in (
      λ there. front_to table leads.2.kinds (rows_before base) next.rows u (v ∷ vs) row step (subst (λ ks. IsLiveOver table ks next.rows (v ∷ vs) row) (sym kinds) (rest.0 there)),
      λ live. rest.1 (subst (λ ks. IsLiveOver table ks next.rows (v ∷ vs) row) kinds (front_from table leads.2.kinds (rows_before base) next.rows u (v ∷ vs) row step live)),
    )
