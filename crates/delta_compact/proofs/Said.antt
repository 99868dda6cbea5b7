-- What versions say one after another, as a list of commits.
use Rattle.std.proofs.Common.{◌≡◌, ℕ, zero, suc, ◌+◌, ◌<◌, ◌≤◌, List, [], ◌∷◌, ◌++◌, length, All, Contains, Option, None, refl, sym, ap, subst, ◌∙◌, ⊎_elim, length-append, arith}
use Rattle.std.proofs.lemmas.Bool.{cases_eq}
use Rattle.std.proofs.lemmas.List.Elements.{All-nil, All-cons, All-head, All-tail}
use Rattle.lake_store.specs.Disk.{Files}
use Rattle.table_history.specs.Row.{Row}
use Rattle.delta_live.specs.Live.{ActsOn, IsLive, PartColumns}
use Rattle.delta_log.specs.declared.commit.DeltaCommit.{DeltaCommit}
use Rattle.delta_table.specs.Log.{IsLiveBefore, SaysCommit}
use Rattle.delta_table.specs.Log as log
use Rattle.delta_table.proofs.PathLaws.{says_once}
use Rattle.delta_compaction.specs.Law as law
use Rattle.delta_compaction.specs.Taken.{AreTaken}
use Rattle.delta_compact.specs.Blocks.{HoldVersions}

-- The versions from this one on are there, one after another, and say these things.
abbrev pub HaveSaid : Files → ℕ → List DeltaCommit → Type 0
HaveSaid files version [] = Unit {0}
HaveSaid files version (c ∷ said) = SaysCommit files version c × HaveSaid files (version + 1) said

-- ---- one list behind another

pub said_behind : (files : Files) (version : ℕ) (xs ys : List DeltaCommit) → HaveSaid files version xs → HaveSaid files (version + length xs) ys → HaveSaid files version (xs ++ ys)
said_behind files version [] ys hx hy = let place : version + 0 ≡ version = omega arith in subst (λ v. HaveSaid files v ys) place hy
said_behind files version (x ∷ xs) ys hx hy =
    let place : version + length (x ∷ xs) ≡ version + 1 + length xs = omega arith in
    (hx.0, said_behind files (version + 1) xs ys hx.1 (subst (λ v. HaveSaid files v ys) place hy))

-- what the commits of a block say
pub said_taken : (files : Files) (version : ℕ) (commits : List (List ℕ)) (said : List DeltaCommit) → HoldVersions files version commits → AreTaken commits said → HaveSaid files version said
said_taken files version [] [] held taken = tt
said_taken files version [] (c ∷ said) held taken = absurd (cc)
said_taken files version (bytes ∷ commits) [] held taken = absurd taken
said_taken files version (bytes ∷ commits) (c ∷ said) held taken = (record { bytes = bytes; holds = held.0; readable = taken.0.readable }, said_taken files (version + 1) commits said held.1 taken.1)

pub taken_length : (commits : List (List ℕ)) (said : List DeltaCommit) → AreTaken commits said → length said ≡ length commits
taken_length [] [] taken = refl
taken_length [] (c ∷ said) taken = absurd (cc)
taken_length (bytes ∷ commits) [] taken = absurd taken
taken_length (bytes ∷ commits) (c ∷ said) taken = ap suc (taken_length commits said taken.1)

-- ---- a version among them

said_at : (files : Files) (version : ℕ) (front : List DeltaCommit) (c : DeltaCommit) (later : List DeltaCommit) → HaveSaid files version (front ++ c ∷ later)
    → SaysCommit files (version + length front) c × HaveSaid files (version + length front + 1) later
said_at files version [] c later said =
    let place : version ≡ version + 0 = omega arith in
    (subst (λ v. SaysCommit files v c) place said.0, subst (λ v. HaveSaid files (v + 1) later) place said.1)
said_at files version (d ∷ front) c later said =
    let place : version + 1 + length front ≡ version + length (d ∷ front) = omega arith in
    let rest = said_at files (version + 1) front c later said.1 in
    (subst (λ v. SaysCommit files v c) place rest.0, subst (λ v. HaveSaid files (v + 1) later) place rest.1)

-- a list cut at a place
abbrev CutAt : {X : Type 0} → List X → ℕ → Type 0
CutAt {X} xs i = (front : List X) × (x : X) × (later : List X) × (xs ≡ front ++ x ∷ later) × (i ≡ length front)

cut_at : {X : Type 0} (xs : List X) (i : ℕ) → i < length xs → CutAt xs i
cut_at [] i within = absurd (omega (arith, within))
cut_at (x ∷ xs) zero within = ([], x, xs, refl, refl)
cut_at (x ∷ xs) (suc i) within = let rest = cut_at xs i (omega (arith, within)) in (x ∷ rest.0, rest.1, rest.2, ap (λ l. x ∷ l) rest.3, ap suc rest.4)

-- what holds of each version holds of all in the list, and the other way round
all_said : (P : DeltaCommit → Type 0) (files : Files) (version : ℕ) (said : List DeltaCommit) → HaveSaid files version said
    → ((v : ℕ) (c : DeltaCommit) → version ≤ v → v < version + length said → SaysCommit files v c → P c) → All P said
all_said P files version [] have each = All-nil P
all_said P files version (c ∷ said) have each =
    All-cons P c said (each version c (omega arith) (omega arith) have.0) (all_said P files (version + 1) said have.1 (λ v d low high says. each v d (omega (arith, low)) (omega (arith, high)) says))

each_said : (P : DeltaCommit → Type 0) (files : Files) (version : ℕ) (said : List DeltaCommit) → HaveSaid files version said → All P said
    → (v : ℕ) (c : DeltaCommit) → version ≤ v → v < version + length said → SaysCommit files v c → P c
each_said P files version [] have all v c low high says = absurd (omega (arith, low, high))
each_said P files version (d ∷ said) have all v c low high says = ⊎_elim
    (λ (here : version ≡ v). subst P (says_once files version d c have.0 (subst (λ n. SaysCommit files n c) (sym here) says)) (All-head P d said all))
    (λ (apart : version ≡ v → ⊥). each_said P files (version + 1) said have.1 (All-tail P d said all) v c (omega (arith, low, apart)) (omega (arith, high)) says)
    (cases_eq version v)

-- ---- the newest of them

pub newest_held : {A : Type 0} (part : DeltaCommit → Option A) (files : Files) (said : List DeltaCommit) (a : A) → HaveSaid files 0 said → law.IsNewestPart part said a → log.IsNewestPart part files (length said) a
newest_held part files said a have h =
    let at = said_at files 0 h.front h.commit h.later (subst (HaveSaid files 0) h.split have) in
    let place : 0 + length h.front ≡ length h.front = omega arith in
    let whole : length said ≡ length h.front + length (h.commit ∷ h.later) = ap length h.split ∙ length-append h.front (h.commit ∷ h.later) in
    record {
      version = length h.front;
      within = omega (arith, whole);
      commit = h.commit;
      says = subst (λ v. SaysCommit files v h.commit) place at.0;
      is = h.is;
      last = λ v c after before says. each_said (λ d. part d ≡ None) files (0 + length h.front + 1) h.later at.1 h.newest v c (omega (arith, after)) (omega (arith, before, whole)) says;
    }

-- ---- live rows

module _ (files : Files) (columns : PartColumns) (said : List DeltaCommit) (row : Row) (have : HaveSaid files 0 said) where
  pub live_held : IsLive columns said row → IsLiveBefore files (length said) columns row
  live_held h =
      let at = said_at files 0 h.front h.commit h.behind (subst (HaveSaid files 0) h.split have) in
      let place : 0 + length h.front ≡ length h.front = omega arith in
      let whole : length said ≡ length h.front + length (h.commit ∷ h.behind) = ap length h.split ∙ length-append h.front (h.commit ∷ h.behind) in
      record {
        version = length h.front;
        within = omega (arith, whole);
        commit = h.commit;
        says = subst (λ v. SaysCommit files v h.commit) place at.0;
        action = h.action;
        acts = h.acts;
        adds = h.adds;
        newest = λ v c after before says. each_said (λ d. ActsOn row.path d → ⊥) files (0 + length h.front + 1) h.behind at.1 h.newest v c (omega (arith, after)) (omega (arith, before, whole)) says;
      }

  pub live_listed : IsLiveBefore files (length said) columns row → IsLive columns said row
  live_listed h =
      let cut = cut_at said h.version h.within in
      let at = said_at files 0 cut.0 cut.1 cut.2 (subst (HaveSaid files 0) cut.3 have) in
      let here = cut.4 in
      let place : 0 + length cut.0 ≡ h.version = omega (arith, here) in
      let whole : length said ≡ length cut.0 + length (cut.1 ∷ cut.2) = ap length cut.3 ∙ length-append cut.0 (cut.1 ∷ cut.2) in
      let same : h.commit ≡ cut.1 = says_once files h.version h.commit cut.1 h.says (subst (λ v. SaysCommit files v cut.1) place at.0) in
      record {
        front = cut.0;
        commit = cut.1;
        behind = cut.2;
        action = h.action;
        split = cut.3;
        acts = subst (λ (d : DeltaCommit). Contains d.files h.action) same h.acts;
        adds = h.adds;
        newest = all_said (λ d. ActsOn row.path d → ⊥) files (0 + length cut.0 + 1) cut.2 at.1 (λ v d low high says. h.newest v d (omega (arith, here, low)) (omega (arith, whole, high)) says);
      }
