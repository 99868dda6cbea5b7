-- The rows of one commit after another are the live rows of all.
use Rattle.std.proofs.Common.{◌≡◌, ◌↔◌, ◌⊎◌, inl, inr, ⊎_elim, List, [], ◌∷◌, ◌++◌, All, Contains, refl, sym, ap, subst, ◌∙◌, append_assoc}
use Rattle.std.proofs.lemmas.List.Elements.{All-nil, All-cons, All-push, All-head, All-tail}
use Rattle.table_history.specs.Row.{Row}
use Rattle.delta_log.specs.declared.commit.DeltaCommit.{DeltaCommit}
use Rattle.delta_live.specs.Live.{PartColumns, ActsOn, IsLive, IsLiveOver, IsRowBehind}
use Rattle.lake_basics.proofs.Lists.{none_longer}

-- A list with one more at its end, cut at an item: the item is that one, or it stands before it.
CutLast : {X : Type 0} → List X → X → List X → List X → X → Type 0
CutLast {X} front x behind xs y = ((behind ≡ []) × (xs ≡ front) × (y ≡ x)) ⊎ ((rest : List X) × (behind ≡ rest ++ y ∷ []) × (xs ≡ front ++ x ∷ rest))

later : {X : Type 0} (z : X) (front : List X) (x : X) (behind xs : List X) (y : X) → CutLast front x behind xs y → CutLast (z ∷ front) x behind (z ∷ xs) y
unfolding CutLast
later z front x behind xs y cut = ⊎_elim (λ h. inl (h.0, ap (λ l. z ∷ l) h.1, h.2)) (λ h. inr (h.0, h.1, ap (λ l. z ∷ l) h.2)) cut

cut_last : {X : Type 0} (front : List X) (x : X) (behind xs : List X) (y : X) → xs ++ y ∷ [] ≡ front ++ x ∷ behind → CutLast front x behind xs y
unfolding CutLast
cut_last [] x behind [] y e = let same : y ≡ x = cc in let none : [] ≡ behind = cc in inl (sym none, refl, same)
cut_last [] x behind (z ∷ xs) y e = let same : z ≡ x = cc in let rest : xs ++ y ∷ [] ≡ behind = cc in inr (xs, sym rest, ap (λ w. w ∷ xs) same)
cut_last (w ∷ front) x behind [] y e = let rest : [] ≡ front ++ x ∷ behind = cc in absurd (none_longer front x behind rest)
cut_last (w ∷ front) x behind (z ∷ xs) y e =
    let same : z ≡ w = cc in
    let rest : xs ++ y ∷ [] ≡ front ++ x ∷ behind = cc in
    subst (λ v. CutLast (v ∷ front) x behind (z ∷ xs) y) same (later z front x behind xs y (cut_last front x behind xs y rest))

all_last : {X : Type 0} (P : X → Type 0) (xs : List X) (y : X) → All P (xs ++ y ∷ []) → All P xs × P y
all_last P [] y all = (All-nil P, All-head P y [] all)
all_last P (x ∷ xs) y all = let rest = all_last P xs y (All-tail P x (xs ++ y ∷ []) all) in (All-cons P x xs (All-head P x (xs ++ y ∷ []) all) rest.0, rest.1)

live_of : (columns : PartColumns) (commits : List DeltaCommit) (c : DeltaCommit) (rows : List Row) (row : Row) → (Contains rows row → IsLive columns commits row) → IsRowBehind columns rows c row → IsLive columns (commits ++ c ∷ []) row
live_of columns commits c rows row live behind =
    ⊎_elim
    (λ h. record { front = commits; commit = c; behind = []; action = h.0; split = refl; acts = h.1; adds = h.2; newest = All-nil (λ d. ActsOn row.path d → ⊥) })
    (λ h.
    let was = live h.0 in
    record {
      front = was.front;
      commit = was.commit;
      behind = was.behind ++ c ∷ [];
      action = was.action;
      split = ap (λ l. l ++ c ∷ []) was.split ∙ append_assoc was.front (was.commit ∷ was.behind) (c ∷ []);
      acts = was.acts;
      adds = was.adds;
      newest = All-push (λ d. ActsOn row.path d → ⊥) was.behind c was.newest h.1;
    })
    behind

row_of : (columns : PartColumns) (commits : List DeltaCommit) (c : DeltaCommit) (rows : List Row) (row : Row) → (IsLive columns commits row → Contains rows row) → IsLive columns (commits ++ c ∷ []) row → IsRowBehind columns rows c row
unfolding CutLast
row_of columns commits c rows row held live =
    ⊎_elim
    (λ h. let there = subst (λ d. Contains d.files live.action) (sym h.2) live.acts in inl (live.action, there, live.adds))
    (λ h.
    let newest = all_last (λ d. ActsOn row.path d → ⊥) h.0 c (subst (All (λ d. ActsOn row.path d → ⊥)) h.1 live.newest) in
    inr (held (record { front = live.front; commit = live.commit; behind = h.0; action = live.action; split = h.2; acts = live.acts; adds = live.adds; newest = newest.0 }), newest.1))
    (cut_last live.front live.commit live.behind commits c live.split)

-- Where these are the live rows of some commits, the rows behind one commit more are the live rows of all.
pub live_behind : (columns : PartColumns) (commits : List DeltaCommit) (c : DeltaCommit) (rows : List Row) → ((row : Row) → Contains rows row ↔ IsLive columns commits row)
    → (row : Row) → IsRowBehind columns rows c row ↔ IsLive columns (commits ++ c ∷ []) row
live_behind columns commits c rows same row = (live_of columns commits c rows row (same row).0, row_of columns commits c rows row (same row).1)

-- The same over a table, of which the rows stay on whose paths no commit acts.
pub live_over_behind : (columns : PartColumns) (origin rows : List Row) (commits : List DeltaCommit) (c : DeltaCommit) → ((row : Row) → Contains rows row ↔ IsLiveOver columns origin commits row)
    → (row : Row) → IsRowBehind columns rows c row ↔ IsLiveOver columns origin (commits ++ c ∷ []) row
unfolding CutLast
live_over_behind columns origin rows commits c same row = (to, from)
  where
    Quiet : DeltaCommit → Type 0
    Quiet d = ActsOn row.path d → ⊥

    longer : IsLive columns commits row → (ActsOn row.path c → ⊥) → IsLive columns (commits ++ c ∷ []) row
    longer was quiet = record {
      front = was.front;
      commit = was.commit;
      behind = was.behind ++ c ∷ [];
      action = was.action;
      split = ap (λ l. l ++ c ∷ []) was.split ∙ append_assoc was.front (was.commit ∷ was.behind) (c ∷ []);
      acts = was.acts;
      adds = was.adds;
      newest = All-push (λ d. ActsOn row.path d → ⊥) was.behind c was.newest quiet;
    }

    to : IsRowBehind columns rows c row → IsLiveOver columns origin (commits ++ c ∷ []) row
    to behind =
        ⊎_elim
        (λ h. inl (record { front = commits; commit = c; behind = []; action = h.0; split = refl; acts = h.1; adds = h.2; newest = All-nil (λ d. ActsOn row.path d → ⊥) }))
        (λ h. ⊎_elim (λ live. inl (longer live h.1)) (λ old. inr (old.0, All-push (λ d. ActsOn row.path d → ⊥) commits c old.1 h.1)) ((same row).0 h.0))
        behind

    from : IsLiveOver columns origin (commits ++ c ∷ []) row → IsRowBehind columns rows c row
    from over =
        ⊎_elim
        (λ live. row_over live)
        (λ old. let all = all_last (λ d. ActsOn row.path d → ⊥) commits c old.1 in inr ((same row).1 (inr (old.0, all.0)), all.1))
        over
      where
        row_over : IsLive columns (commits ++ c ∷ []) row → IsRowBehind columns rows c row
        row_over live =
            ⊎_elim
            (λ h. inl (live.action, subst (λ d. Contains d.files live.action) (sym h.2) live.acts, live.adds))
            (λ h.
            let newest = all_last (λ d. ActsOn row.path d → ⊥) h.0 c (subst (All (λ d. ActsOn row.path d → ⊥)) h.1 live.newest) in
            inr ((same row).1 (inl (record { front = live.front; commit = live.commit; behind = h.0; action = live.action; split = h.2; acts = live.acts; adds = live.adds; newest = newest.0 })), newest.1))
            (cut_last live.front live.commit live.behind commits c live.split)
