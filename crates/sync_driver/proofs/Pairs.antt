-- What a sync of two targets tells, by how each of the two ends.
use Rattle.std.proofs.Common.{◌≡◌, ◌⊎◌, ◌++◌, ℕ, Bool, true, false, List, [], Some, None, inl, inr, ⊎_elim, refl, sym, ap, subst, ◌∙◌, append_assoc}
use Rattle.std.proofs.lemmas.List.{append-nil}
use Rattle.std.specs.Prelude.{Ok, Err}
use Rattle.lake_store.specs.Disk.{Disk}
use Rattle.lake_store.specs.Runs.{FailsBy, IsUncontestedBy, OnlyReads}
use Rattle.lake_store.specs.declared.sink.Sink as sinks
use Rattle.lake_store.specs.declared.store.Store.{Ghosts}
use Rattle.lake_store.proofs.RunLaws.{NowOnly, reading_further}
use Rattle.table_history.specs.declared.kind.Kind.{Kind}
use Rattle.target_core.specs.Conditions.{GoesOn}
use Rattle.target_core.specs.Folders.{SameIn, folder_of}
use Rattle.target_core.specs.OwnFiles.{TouchesOwn}
use Rattle.target_core.proofs.Apart.{apart_untouched}
use Rattle.target_sync.specs.Answered.{Answer, IsSync, StandsAt}
use Rattle.target_sync.specs.Sources.{SourceMeaning}
use Rattle.target_sync.specs.Targets.{TargetFacts}
use Rattle.target_sync.specs.declared.plan.Mode.{Mode}
use Rattle.target_sync.specs.declared.status.Status.{Status}
use Rattle.target_sync.specs.declared.status.Status.TheVariants as status
use Rattle.target_sync.proofs.Applying.{CrashLaws}
use Rattle.target_sync.proofs.Beside.{NowCounts}
use Rattle.target_sync.proofs.Counting.{fails_as, fails_then}
use Rattle.target_sync.proofs.Following.{sync_behind}
use Rattle.target_sync.proofs.Owning.{FaultLaws, OwnLaws, same_back}
use Rattle.target_sync.proofs.Pairing.{both_contested, both_fault, first_turn, none_contested, second_turn}
use Rattle.target_sync.proofs.Standing.{SourceLaws}
use Rattle.sync_driver.specs.Both.{AreInOrder, AreSynced, AreToldInOrder, CameEarly, GoesBoth, InPhases, IsAtOnce, IsCut, IsEnd, IsLeft, IsOfHead, IsRefused, RoseTwice, TellsBehind, first_line, status_behind}
use Rattle.sync_driver.specs.Commands.{answer_line, answer_status}
use Rattle.sync_driver.specs.Tellings.{IsSaid, Tells}
use Rattle.sync_driver.proofs.Saying.{first_behind, nothing_put, told_behind}

-- ---- one line behind another

pub said_on : (given : Status) → (IsAtOnce given → ⊥) → IsSaid given
said_on status.Done never = tt
said_on status.Memory never = absurd (never tt)
said_on status.Usage never = tt
said_on status.Absent never = tt
said_on (status.Malformed path) never = tt
said_on (status.Unsupported of feature path) never = tt
said_on (status.Limit of which number) never = tt
said_on (status.Foreign kind path) never = tt
said_on (status.Contested kind) never = tt
said_on status.StoreFault never = tt
said_on status.SinkFault never = absurd (never tt)
said_on (status.Behind kind at head) never = tt
said_on (status.Differs kind path) never = tt
said_on (status.Stale path) never = tt

-- a line less
said_before : (so_far last : Status) → IsSaid (status_behind so_far last) → IsSaid last
said_before so_far status.Done said = tt
said_before so_far status.Memory said = said
said_before so_far status.Usage said = tt
said_before so_far status.Absent said = tt
said_before so_far (status.Malformed path) said = tt
said_before so_far (status.Unsupported of feature path) said = tt
said_before so_far (status.Limit of which number) said = tt
said_before so_far (status.Foreign kind path) said = tt
said_before so_far (status.Contested kind) said = tt
said_before so_far status.StoreFault said = tt
said_before so_far status.SinkFault said = said
said_before so_far (status.Behind kind at head) said = tt
said_before so_far (status.Differs kind path) said = tt
said_before so_far (status.Stale path) said = tt

behind_done : (so_far : Status) → status_behind so_far status.Done ≡ so_far
behind_done status.Done = refl
behind_done status.Memory = refl
behind_done status.Usage = refl
behind_done status.Absent = refl
behind_done (status.Malformed path) = refl
behind_done (status.Unsupported of feature path) = refl
behind_done (status.Limit of which number) = refl
behind_done (status.Foreign kind path) = refl
behind_done (status.Contested kind) = refl
behind_done status.StoreFault = refl
behind_done status.SinkFault = refl
behind_done (status.Behind kind at head) = refl
behind_done (status.Differs kind path) = refl
behind_done (status.Stale path) = refl

module _ {O : Type 0} (sink : sinks.Ghosts O) where
  -- with no line behind it
  pub told_one : (old new : O) (line : List ℕ) (due given : Status) → Tells sink old new line due given → Tells sink old new (line ++ []) (status_behind due status.Done) given
  told_one old new line due given told = subst (λ (d : Status). Tells sink old new (line ++ []) d given) (sym (behind_done due)) (subst (λ (l : List ℕ). Tells sink old new l due given) (sym (append-nil line)) told)

  -- a line that went out whole
  pub given_due : (old new : O) (line : List ℕ) (due given : Status) → Tells sink old new line due given → (IsAtOnce given → ⊥) → given ≡ due
  given_due old new line due given told never =
      ⊎_elim (λ is. is) (λ other. ⊎_elim (λ (memory : given ≡ status.Memory). absurd (never (subst IsAtOnce (sym memory) tt))) (λ failed. absurd (never (subst IsAtOnce (sym failed.0) tt))) other) told.status

  gone_on : (old new : O) (line : List ℕ) (due given : Status) → Tells sink old new line due given → (IsAtOnce given → ⊥) → Tells sink old new line status.Done status.Done
  gone_on old new line due given told never = record {
    faults = told.faults;
    can_fail = told.can_fail;
    status = inl refl;
    silent = told.silent;
    whole = λ tells said. told.whole tells (said_on given never);
    front = told.front;
  }

  with_status : (old new : O) (line : List ℕ) (so_far due last : Status) → Tells sink old new line due last → Tells sink old new line (status_behind so_far due) (status_behind so_far last)
  with_status old new line so_far due last told = record {
    faults = told.faults;
    can_fail = told.can_fail;
    status = ⊎_elim (λ (is : last ≡ due). inl (ap (λ (s : Status). status_behind so_far s) is))
        (λ other. ⊎_elim (λ (memory : last ≡ status.Memory). inr (inl (ap (λ (s : Status). status_behind so_far s) memory))) (λ failed. inr (inr (ap (λ (s : Status). status_behind so_far s) failed.0, failed.1))) other) told.status;
    silent = told.silent;
    whole = λ tells said. told.whole tells (said_before so_far last said);
    front = told.front;
  }

  pub told_two : (old mid new : O) (line : List ℕ) (due so_far : Status) (kind : Kind) (answer : Answer) (given : Status) → Tells sink old mid line due so_far → (IsAtOnce so_far → ⊥) → TellsBehind sink mid new so_far kind answer given
      → Tells sink old new (line ++ answer_line kind answer) (status_behind due (answer_status answer)) given
  told_two old mid new line due so_far kind answer given told never more =
      let last : Status = more.0 in
      let same : so_far ≡ due = given_due old mid line due so_far told never in
      let both = told_behind sink old mid new line (answer_line kind answer) (answer_status answer) last (gone_on old mid line due so_far told never) more.1 in
      let is : given ≡ status_behind due last = more.2 ∙ ap (λ (s : Status). status_behind s last) same in
      subst (λ (g : Status). Tells sink old new (line ++ answer_line kind answer) (status_behind due (answer_status answer)) g) (sym is) (with_status old new (line ++ answer_line kind answer) due (answer_status answer) last both)

  -- the answer whose line ended the command is an end, or the line was cut
  pub ended_by : (old new : O) (line : List ℕ) (answer : Answer) (given : Status) → Tells sink old new line (answer_status answer) given → IsAtOnce given → IsRefused IsEnd answer ⊎ IsCut given
  ended_by old new line answer given told once =
      ⊎_elim (λ (is : given ≡ answer_status answer). by_answer answer is (subst IsAtOnce is once))
      (λ other. ⊎_elim (λ (memory : given ≡ status.Memory). inr (inl memory)) (λ failed. inr (inr failed.0)) other) told.status
    where
      by_status : (e : Status) → given ≡ e → IsAtOnce e → IsEnd e ⊎ IsCut given
      by_status status.Done is at = absurd at
      by_status status.Memory is at = inl tt
      by_status status.Usage is at = absurd at
      by_status status.Absent is at = absurd at
      by_status (status.Malformed path) is at = absurd at
      by_status (status.Unsupported of feature path) is at = absurd at
      by_status (status.Limit of which number) is at = absurd at
      by_status (status.Foreign kind path) is at = absurd at
      by_status (status.Contested kind) is at = absurd at
      by_status status.StoreFault is at = inl tt
      by_status status.SinkFault is at = inr (inr is)
      by_status (status.Behind kind position head) is at = absurd at
      by_status (status.Differs kind path) is at = absurd at
      by_status (status.Stale path) is at = absurd at

      by_answer : (a : Answer) → given ≡ answer_status a → IsAtOnce (answer_status a) → IsRefused IsEnd a ⊎ IsCut given
      by_answer None is at = absurd at
      by_answer (Some (Ok report)) is at = absurd at
      by_answer (Some (Err e)) is at = by_status e is at

  -- the first line went out whole before the other one
  pub went_on : (old mid new : O) (line : List ℕ) (due so_far : Status) (kind : Kind) (answer : Answer) (given : Status) → Tells sink old mid line due so_far → (IsAtOnce so_far → ⊥) → TellsBehind sink mid new so_far kind answer given
      → sink.tells → (rest : List ℕ) × (sink.output new ≡ sink.output old ++ line ++ rest)
  went_on old mid new line due so_far kind answer given told never more tells =
      first_behind sink old mid new line (answer_line kind answer) (answer_status answer) more.0 (gone_on old mid line due so_far told never) more.1 tells

-- ---- the two turns

-- what the store, the source and the two targets keep to
pub record PairLaws {S : Type 0} (store : Ghosts S) (source : SourceMeaning) (first second : TargetFacts) : Type 0 where
  pub only_now : NowOnly store
  pub now_counts : NowCounts store
  pub source_laws : SourceLaws source
  pub fault_laws : FaultLaws source
  pub first_crash : CrashLaws first.files
  pub first_own : OwnLaws first
  pub second_crash : CrashLaws second.files
  pub second_own : OwnLaws second
  pub far : source.kind ≡ first.files.kind → ⊥
  pub far_second : source.kind ≡ second.files.kind → ⊥
  pub apart : first.files.kind ≡ second.files.kind → ⊥

-- what is written of a target's own files leaves the folder of another format
pub folder_stays : {S : Type 0} (store : Ghosts S) (kind target : Kind) → (kind ≡ target → ⊥) → (old new : S) → (store.tells → TouchesOwn store target old new) → store.tells → SameIn (folder_of kind) (store.disk old).files (store.disk new).files
folder_stays store kind target far old new run told path mine = (run told).disk.files path (apart_untouched kind target (λ is. far (sym is)) path mine)

-- and so the source is there still
pub absent_on : {S : Type 0} (store : Ghosts S) (source : SourceMeaning) (target : Kind) → SourceLaws source → (source.kind ≡ target → ⊥) → (old new : S) → (store.tells → TouchesOwn store target old new)
    → (store.tells → ¬ source.is_absent (store.disk old).files) → store.tells → ¬ source.is_absent (store.disk new).files
absent_on store source target laws far old new run there told absent =
    there told (laws.absent_own (store.disk new).files (store.disk old).files (same_back (folder_of source.kind) (store.disk old).files (store.disk new).files (folder_stays store source.kind target far old new run told)) absent)

module _ {S : Type 0} (store : Ghosts S) (source : SourceMeaning) (first second : TargetFacts) (l : PairLaws store source first second) (mode : Mode) (now : ℕ) (old mid new : S) (one two : Answer) where
  back : second.files.kind ≡ first.files.kind → ⊥
  back is = l.apart (sym is)

  -- the first target had its turn before the second
  pub first_second : IsSync store source first None mode now old mid one → IsSync store source second None mode now mid new two → (store.tells → AreInOrder source first second mode now (store.disk old).files false one two)
      → AreToldInOrder first second false one two → AreSynced store source first second mode now old new one two false
  first_second one_sync two_sync order told_order = record {
    first_sync = first_turn store l.only_now l.now_counts source l.source_laws l.fault_laws first l.first_crash l.first_own second l.second_crash l.second_own l.apart back l.far mode now old mid new one two one_sync two_sync;
    second_sync = second_turn store l.only_now l.now_counts source l.source_laws l.fault_laws first l.first_crash l.first_own second l.second_crash l.second_own l.apart back l.far mode now old mid new one two one_sync two_sync;
    order = order;
    told_order = told_order;
    fault = both_fault store l.only_now l.now_counts source l.source_laws l.fault_laws first l.first_crash l.first_own second l.second_crash l.second_own l.apart back l.far mode now old mid new one two one_sync two_sync;
    uncontested = none_contested store l.only_now l.now_counts source l.source_laws l.fault_laws first l.first_crash l.first_own second l.second_crash l.second_own l.apart back l.far mode now old mid new one two one_sync two_sync;
    contested = both_contested store l.only_now l.now_counts source l.source_laws l.fault_laws first l.first_crash l.first_own second l.second_crash l.second_own l.apart back l.far mode now old mid new one two one_sync two_sync;
  }

  -- the second had it before the first
  pub second_first : IsSync store source second None mode now old mid two → IsSync store source first None mode now mid new one → (store.tells → AreInOrder source first second mode now (store.disk old).files true one two)
      → AreToldInOrder first second true one two → AreSynced store source first second mode now old new one two true
  second_first two_sync one_sync order told_order =
      let fault = both_fault store l.only_now l.now_counts source l.source_laws l.fault_laws second l.second_crash l.second_own first l.first_crash l.first_own back l.apart l.far_second mode now old mid new two one two_sync one_sync in
      record {
        first_sync = second_turn store l.only_now l.now_counts source l.source_laws l.fault_laws second l.second_crash l.second_own first l.first_crash l.first_own back l.apart l.far_second mode now old mid new two one two_sync one_sync;
        second_sync = first_turn store l.only_now l.now_counts source l.source_laws l.fault_laws second l.second_crash l.second_own first l.first_crash l.first_own back l.apart l.far_second mode now old mid new two one two_sync one_sync;
        order = order;
        told_order = told_order;
        fault = fails_as store.faults store.may_fail old new _ ((one ≡ Some (Err status.StoreFault)) ⊎ (two ≡ Some (Err status.StoreFault))) (λ either. ⊎_elim (λ is. inr is) (λ is. inl is) either) fault;
        uncontested = λ never other. none_contested store l.only_now l.now_counts source l.source_laws l.fault_laws second l.second_crash l.second_own first l.first_crash l.first_own back l.apart l.far_second mode now old mid new two one two_sync one_sync other never;
        contested = λ is other. both_contested store l.only_now l.now_counts source l.source_laws l.fault_laws second l.second_crash l.second_own first l.first_crash l.first_own back l.apart l.far_second mode now old mid new two one two_sync one_sync other is;
      }

-- ---- files that are only read before

module _ {S O : Type 0} (store : Ghosts S) (sink : sinks.Ghosts O) (source : SourceMeaning) (laws : SourceLaws source) (first : TargetFacts) (first_crash : CrashLaws first.files) (second : TargetFacts) (second_crash : CrashLaws second.files) (mode : Mode) (now : ℕ) (old mid new : S)
    (reading : store.tells → OnlyReads store old mid) (A B : Type 0) (cause : FailsBy store old mid A) (quiet : IsUncontestedBy store old mid B) where
  twice_behind : (a b c : ℕ) → b ≡ a → RoseTwice b c → RoseTwice a c
  twice_behind a b c same twice = subst (λ (n : ℕ). RoseTwice n c) same twice

  pub synced_both_behind : (one two : Answer) (order : Bool) → AreSynced store source first second mode now mid new one two order → AreSynced store source first second mode now old new one two order
  synced_both_behind one two order are = record {
    first_sync = sync_behind store source first laws first_crash (Some second.files.kind) mode now old mid new reading A B cause quiet one are.first_sync;
    second_sync = sync_behind store source second laws second_crash (Some first.files.kind) mode now old mid new reading A B cause quiet two are.second_sync;
    order = λ told. subst (λ (d : Disk). AreInOrder source first second mode now d.files order one two) (reading told).disk (are.order told);
    told_order = are.told_order;
    fault = fails_then store.faults store.may_fail old mid new A ((one ≡ Some (Err status.StoreFault)) ⊎ (two ≡ Some (Err status.StoreFault))) cause are.fault;
    uncontested = λ never other. are.uncontested never other ∙ quiet.same;
    contested = λ is other. twice_behind (store.contests old) (store.contests mid) (store.contests new) quiet.same (are.contested is other);
  }

  -- the phases, with what went out before them
  pub phases_behind : (out_old out_mid out_new : O) (line : List ℕ) (given : Status) (one two : Answer) (order : Bool) → Tells sink out_old out_mid line status.Done status.Done
      → InPhases store sink source first second mid new out_mid out_new [] given one two order → InPhases store sink source first second old new out_old out_new line given one two order
  phases_behind out_old out_mid out_new line given one two order told phases = record {
    at_once = phases.at_once;
    ended = phases.ended;
    unread = λ tells is. reading_further store old mid new reading (λ t. phases.unread t is) tells;
    first_left = λ tells is. subst (λ (d : Disk). IsLeft source first d.files one) (reading tells).disk (phases.first_left tells is);
    second_left = λ tells is. subst (λ (d : Disk). IsOfHead source d.files one ⊎ IsLeft source second d.files two) (reading tells).disk (phases.second_left tells is);
    untouched = λ tells is. reading_further store old mid new reading (λ t. phases.untouched t is) tells;
    went = λ tells some.
        let rest = phases.went tells some in
        let head : List ℕ = first_line first.files.kind second.files.kind order one two in
        (rest.0, rest.1 ∙ ap (λ (l : List ℕ). l ++ head ++ rest.0) (told.whole tells tt) ∙ ap (λ (l : List ℕ). l ++ rest.0) (append_assoc (sink.output out_old) line head));
    first_answered = λ is. ⊎_elim (λ end. inl end) (λ (cut : IsCut given × (store.tells → (two ≡ None) ⊎ CameEarly source second (store.disk mid).files two)).
        inr (cut.0, λ tells. subst (λ (d : Disk). (two ≡ None) ⊎ CameEarly source second d.files two) (reading tells).disk (cut.1 tells))) (phases.first_answered is);
    looked = λ tells is. ⊎_elim (λ still. inl (reading_further store old mid new reading (λ t. still) tells)) (λ (stands : StandsAt second (store.disk mid).files (GoesOn source.kind)). inr (subst (λ (d : Disk). StandsAt second d.files (GoesOn source.kind)) (reading tells).disk stands)) (phases.looked tells is);
    second_answered = λ is. ⊎_elim (λ end. inl end) (λ (cut : IsCut given × (store.tells → (one ≡ None) ⊎ (CameEarly source first (store.disk mid).files one ⊎ StandsAt second (store.disk mid).files (GoesOn source.kind)))).
        inr (cut.0, λ tells. subst (λ (d : Disk). (one ≡ None) ⊎ (CameEarly source first d.files one ⊎ StandsAt second d.files (GoesOn source.kind))) (reading tells).disk (cut.1 tells))) (phases.second_answered is);
  }

  pub goes_both_behind : (out_old out_new : O) (given : Status) → GoesBoth store sink source first second mode now mid new out_old out_new given → GoesBoth store sink source first second mode now old new out_old out_new given
  goes_both_behind out_old out_new given goes = record {
    one = goes.one;
    two = goes.two;
    second_first = goes.second_first;
    synced = synced_both_behind goes.one goes.two goes.second_first goes.synced;
    phases = phases_behind out_old out_old out_new [] given goes.one goes.two goes.second_first (nothing_put sink out_old) goes.phases;
    told = goes.told;
  }
