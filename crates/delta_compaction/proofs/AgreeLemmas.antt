-- What a text that agrees with commits says, and when it agrees.
use Rattle.std.proofs.Common.{◌≡◌, ℕ, ◌≤◌, List, length, Bool, true, false, Result, Ok, Err, IfOk, Contains, sym, ap, subst, ◌∙◌, arith}
use Rattle.std.specs.Prelude.{IsTrue, option_to_list}
use Rattle.std.specs.Bool.{Decides}
use Rattle.std.specs.List.{list_any}
use Rattle.std.specs.Map.{values_of}
use Rattle.std.specs.Str.{bytes_eq}
use Rattle.std.proofs.lemmas.Bool.{false≢true}
use Rattle.std.proofs.lemmas.Cmp.{nat_list_eq_equiv}
use Rattle.std.proofs.lemmas.List.{length-map}
use Rattle.std.proofs.lemmas.Map.Made.{length-le_from_is_member}
use Rattle.std.proofs.lemmas.Map.Views.{Contains-from_any, list_any-from_Contains}
use Rattle.std.proofs.lemmas.Slice.Eq.{bytes_eq-Decides}
use Rattle.lake_basics.specs.declared.limits.TheConstants.{MAX_ACTIONS}
use Rattle.lake_basics.specs.Outcome.{each}
use Rattle.lake_basics.proofs.Options.{same_options}
use Rattle.delta_log.specs.declared.action.LineAction.{LineAction}
use Rattle.delta_log.specs.declared.commit.DeltaCommit.{DeltaCommit}
use Rattle.delta_log.specs.Commit.{file_path, file_paths}
use Rattle.delta_log.specs.Grammar.{line_action}
use Rattle.delta_log.specs.declared.error.DeltaError.{DeltaError}
use Rattle.delta_log.specs.declared.error.DeltaError.TheVariants as delta
use Rattle.delta_log.specs.Judging.{commit_of, is_memory}
use Rattle.delta_log.specs.Readable.{IsReadableCommit, IsRefusal, files}
use Rattle.delta_log.proofs.ReadableLemmas.{fault_excluded, is_read}
use Rattle.delta_compaction.specs.declared.key.LineKey.{LineKey}
use Rattle.delta_compaction.specs.Agreeing.{Agrees, SaySame, SaysSame, SaysThese}
use Rattle.delta_compaction.specs.Law.{StandsFor}
use Rattle.delta_compaction.specs.Reconciled.{AreNewest, IsReconciled, text_of}
use Rattle.delta_compaction.specs.Taken.{AreTaken}
use Rattle.delta_compaction.proofs.JoinLemmas.{joins_by}
use Rattle.delta_compaction.proofs.KeyLemmas.{key_total}
use Rattle.delta_compaction.proofs.LawLemmas.{named_action, stands_for}
use Rattle.delta_log.proofs.FilePathLemmas.{action_named}
use Rattle.delta_compaction.proofs.ReadsLemmas.{reads_each}
use Rattle.delta_compaction.proofs.SortedLemmas.{same_rising}
use Rattle.delta_compaction.proofs.TextLemmas.{HasTold, told_of}

abbrev Entries : Type 0
Entries = List (LineKey × List ℕ)

-- ---- one reading

pub commit_once : (bytes : List ℕ) (a b : DeltaCommit) → IsReadableCommit bytes a → IsReadableCommit bytes b → a ≡ b
commit_once bytes a b one other = let first : commit_of bytes ≡ Ok a = is_read bytes a one in let second : commit_of bytes ≡ Ok b = is_read bytes b other in cc

-- what is refused isn't a commit that can be read, unless memory ran out
pub never_one : (bytes : List ℕ) (e : DeltaError) → is_memory e ≡ false → IsRefusal bytes e → (c : DeltaCommit) → IsReadableCommit bytes c → ⊥
never_one bytes delta.Memory other refused c whole = absurd (cc)
never_one bytes (delta.Malformed n) other refused c whole = fault_excluded bytes c (delta.Malformed n) whole refused
never_one bytes (delta.DoublePath n) other refused c whole = fault_excluded bytes c (delta.DoublePath n) whole refused
never_one bytes (delta.Unsupported f n) other refused c whole = fault_excluded bytes c (delta.Unsupported f n) whole refused
never_one bytes (delta.Limit w) other refused c whole = fault_excluded bytes c (delta.Limit w) whole refused

actions_once : (lines : List (List ℕ)) (a b : List LineAction) → each line_action lines ≡ Ok a → each line_action lines ≡ Ok b → a ≡ b
actions_once lines a b one other = cc

-- the newest lines are one list
entries_once : (commits : List (List ℕ)) (a b : Entries) → AreNewest commits a → AreNewest commits b → a ≡ b
entries_once commits a b one other =
    same_rising (λ (e : LineKey × List ℕ). e.0) key_total a b one.sorted other.sorted (λ e. (
      (λ there. (other.newest e.0 e.1).1 ((one.newest e.0 e.1).0 there)),
      (λ there. (one.newest e.0 e.1).1 ((other.newest e.0 e.1).0 there)),
    ))

-- ---- the newest lines of commits that can be joined

module _ (commits : List (List ℕ)) (said : List DeltaCommit) (taken : AreTaken commits said) (entries : Entries) (newest : AreNewest commits entries) where
  told : HasTold entries
  told = told_of commits said taken entries newest

  pub text_stands : (text : List ℕ) (c : DeltaCommit) → text ≡ text_of entries → IsReadableCommit text c → StandsFor said c
  text_stands text c is readable =
      let h = told_of commits said taken entries newest in
      stands_for said c (joins_by commits said taken entries newest h.told h.reads c (h.says c (subst (λ t. IsReadableCommit t c) is readable)))

  -- what agrees says what the newest lines say
  agreed : (compacted : List ℕ) (a : Agrees compacted commits) → SaysThese (told_of commits said taken entries newest).told a.commit
  agreed compacted a =
      let h = told_of commits said taken entries newest in
      let same = entries_once commits a.entries entries a.newest newest in
      let actions = actions_once (values_of entries) a.actions h.told (subst (λ es. each line_action (values_of es) ≡ Ok a.actions) same a.read) (reads_each (values_of entries) h.told h.reads) in
      subst (λ l. SaysThese l a.commit) actions a.says

  -- A text that agrees has no more file actions than are read, so the newest lines have no more either.
  few_told : (compacted : List ℕ) (a : Agrees compacted commits) → length (files (told_of commits said taken entries newest).told) ≤ MAX_ACTIONS
  few_told compacted a =
      let h = told_of commits said taken entries newest in
      let says = agreed compacted a in
      let named : (q : List ℕ) → list_any (bytes_eq q) (file_paths (files h.told)) ≡ true → list_any (bytes_eq q) (file_paths a.commit.files) ≡ true = λ q there.
      let f = named_action q (files h.told) (Contains-from_any (λ x y same. (bytes_eq-Decides x y).0 same) q (file_paths (files h.told)) there) in
      list_any-from_Contains nat_list_eq_equiv q (file_paths a.commit.files) (subst (Contains (file_paths a.commit.files)) f.2 (action_named a.commit.files f.0 ((says.files f.0).1 f.1))) in
      let le = length-le_from_is_member nat_list_eq_equiv (file_paths (files h.told)) (file_paths a.commit.files) h.distinct_files named in
      let one = length-map (files h.told) file_path in
      let other = length-map a.commit.files file_path in
      let same : a.commit.files ≡ files a.readable.actions = a.readable.states.files in
      let len : length a.commit.files ≡ length (files a.readable.actions) = ap length same in
      let few = a.readable.readable.few in
      omega (arith, le, one, other, len, few)

  same_says : (joined stated : DeltaCommit) → SaysThese (told_of commits said taken entries newest).told joined → SaysSame joined stated → SaysThese (told_of commits said taken entries newest).told stated
  same_says joined stated says same = record {
    protocol = ap option_to_list (sym same.protocol) ∙ says.protocol;
    meta = ap option_to_list (sym same.meta) ∙ says.meta;
    files = λ f. ((λ there. (says.files f).0 ((same.files f).1 there)), (λ there. (same.files f).0 ((says.files f).1 there)));
  }

  says_same : (joined stated : DeltaCommit) → SaysThese (told_of commits said taken entries newest).told joined → SaysThese (told_of commits said taken entries newest).told stated → SaysSame joined stated
  says_same joined stated one other = record {
    protocol = same_options joined.protocol stated.protocol (one.protocol ∙ sym other.protocol);
    meta = same_options joined.meta stated.meta (one.meta ∙ sym other.meta);
    files = λ f. ((λ there. (other.files f).1 ((one.files f).0 there)), (λ there. (one.files f).1 ((other.files f).0 there)));
  }

  agrees_by : (text compacted : List ℕ) (joined stated : DeltaCommit) → text ≡ text_of entries → IsReadableCommit text joined → IsReadableCommit compacted stated → (r : Bool) → Decides r (SaysSame joined stated) → Decides r (Agrees compacted commits)
  agrees_by text compacted joined stated is read readable r decides =
      let h = told_of commits said taken entries newest in
      let mine = h.says joined (subst (λ t. IsReadableCommit t joined) is read) in (
        (λ e. record {
          commit = stated;
          readable = readable;
          entries = entries;
          newest = newest;
          actions = h.told;
          read = reads_each (values_of entries) h.told h.reads;
          says = same_says joined stated mine (decides.0 e);
        }),
        (λ a. decides.1 (says_same joined stated mine (subst (SaysThese h.told) (commit_once compacted a.commit stated a.readable readable) (agreed compacted a)))),
      )

  pub agrees_as : (text compacted : List ℕ) → text ≡ text_of entries → (r : Bool) → Decides r (SaySame text compacted) → Decides r (Agrees compacted commits)
  agrees_as text compacted is r decides = (
    (λ e. let s = decides.0 e in (agrees_by text compacted s.commit s.stated is s.read s.readable r ((λ again. s.same), (λ same. decides.1 s))).0 e),
    (λ a.
        let h = told_of commits said taken entries newest in
        let read = h.text (few_told compacted a) in
        decides.1 (record {
          commit = read.commit;
          read = subst (λ t. IsReadableCommit t read.commit) (sym is) read.readable;
          stated = a.commit;
          readable = a.readable;
          same = says_same read.commit a.commit (h.says read.commit read.readable) (agreed compacted a);
        })),
  )

-- what agrees stands for the commits
pub agreeing_stands : (commits : List (List ℕ)) (compacted : List ℕ) → Agrees compacted commits → (said : List DeltaCommit) (c : DeltaCommit) → AreTaken commits said → IsReadableCommit compacted c → StandsFor said c
agreeing_stands commits compacted a said c taken readable =
    let h = told_of commits said taken a.entries a.newest in
    let says = agreed commits said taken a.entries a.newest compacted a in
    stands_for said c (joins_by commits said taken a.entries a.newest h.told h.reads c (subst (SaysThese h.told) (commit_once compacted a.commit c a.readable readable) says))

-- ---- the answer

abbrev HasSaid : List (List ℕ) → Type 0
HasSaid commits = (said : List DeltaCommit) × AreTaken commits said

pub says_so : (commits : List (List ℕ)) (text shown compacted : List ℕ) → HasSaid commits → IsReconciled commits text → shown ≡ text → (r : Bool)
    → (IsTrue r → SaySame shown compacted) × (SaySame shown compacted → IsTrue r) → (IsTrue r → Agrees compacted commits) × (Agrees compacted commits → IsTrue r)
says_so commits text shown compacted taken joined is r decides = agrees_as commits taken.0 taken.1 joined.0 joined.1 shown compacted (is ∙ joined.2) r decides

-- ---- two texts

abbrev IsSaidBy : List ℕ → DeltaCommit → Type 0
IsSaidBy bytes c = (other : DeltaCommit) × IsReadableCommit bytes other × SaysSame c other

pub said_by : (bytes : List ℕ) (c other : DeltaCommit) → IsReadableCommit bytes other → {E : Type 0} (result : Result Bool E) → IfOk result (λ r. (IsTrue r → SaysSame c other) × (SaysSame c other → IsTrue r))
    → IfOk result (λ r. (IsTrue r → IsSaidBy bytes c) × (IsSaidBy bytes c → IsTrue r))
said_by bytes c other readable (Ok r) decides = ((λ e. (other, readable, decides.0 e)), (λ h. decides.1 (subst (SaysSame c) (commit_once bytes h.0 other h.1 readable) h.2)))
said_by bytes c other readable (Err e) decides = tt

pub unsaid : (bytes : List ℕ) (c : DeltaCommit) → ((other : DeltaCommit) → IsReadableCommit bytes other → ⊥) → (IsTrue false → IsSaidBy bytes c) × (IsSaidBy bytes c → IsTrue false)
unsaid bytes c none = ((λ same. absurd (false≢true same)), (λ h. absurd (none h.0 h.1)))

pub both_say : (one other : List ℕ) (c : DeltaCommit) → IsReadableCommit one c → {E : Type 0} (result : Result Bool E) → IfOk result (λ r. (IsTrue r → IsSaidBy other c) × (IsSaidBy other c → IsTrue r))
    → IfOk result (λ r. (IsTrue r → SaySame one other) × (SaySame one other → IsTrue r))
both_say one other c read (Ok r) decides = (
  (λ e. let h = decides.0 e in record { commit = c; read = read; stated = h.0; readable = h.1; same = h.2 }),
  (λ s. decides.1 (s.stated, s.readable, subst (λ x. SaysSame x s.stated) (commit_once one s.commit c s.read read) s.same)),
)
both_say one other c read (Err e) decides = tt

pub unread : (one other : List ℕ) → ((c : DeltaCommit) → IsReadableCommit one c → ⊥) → (IsTrue false → SaySame one other) × (SaySame one other → IsTrue false)
unread one other none = ((λ same. absurd (false≢true same)), (λ s. absurd (none s.commit s.read)))
