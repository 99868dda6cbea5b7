-- A command is ended by a fault of the store, or of the output, only where that count rose.
use Rattle.std.proofs.Common.{◌≡◌, ◌⊎◌, inl, inr, ⊎_elim, ℕ, ◌≤◌, Bool, true, false, List, refl, sym, ◌∙◌, subst, arith}
use Rattle.std.specs.Prelude.{nat_le, Option, Some, None, Ok, Err}
use Rattle.std.proofs.lemmas.Bool.Decides.{nat_tests}
use Rattle.delta_compact.specs.declared.error.CompactFault.TheVariants as compaction
use Rattle.lake_store.specs.Cause.{Rose}
use Rattle.lake_store.specs.declared.sink.Sink as sinks
use Rattle.lake_store.specs.declared.store.Store.{Ghosts}
use Rattle.lake_sweep.specs.declared.error.SweepError.TheVariants as sweep
use Rattle.source_core.specs.declared.error.SourceError.TheVariants as source
use Rattle.table_history.specs.declared.kind.Kind.{Kind}
use Rattle.table_history.specs.declared.kind.Kind.TheVariants.{Delta, Hudi, Iceberg}
use Rattle.target_sync.specs.Answered.{Answer, IsFew}
use Rattle.target_sync.specs.Sources.{SourceMeaning}
use Rattle.target_sync.specs.Targets.{TargetFacts}
use Rattle.target_sync.specs.declared.plan.Mode.{Mode}
use Rattle.target_sync.specs.declared.plan.Mode.TheVariants as modes
use Rattle.target_sync.specs.declared.status.Status.{Status}
use Rattle.target_sync.specs.declared.status.Status.TheVariants as status
use Rattle.sync_driver.specs.Answers.{BringsEach, Command, ComparesTo, GivesUp, PlaysDrill, SweepsTo}
use Rattle.sync_driver.specs.Both.{SyncsBoth, both_status, first_refusal, status_behind}
use Rattle.sync_driver.specs.Checked.{CheckAnswer, Checks, IsFewOfCheck, check_status}
use Rattle.sync_driver.specs.Commands.{Syncs, answer_status}
use Rattle.sync_driver.specs.Compacted.{CompactionAnswer, TellsCompaction, compacted_status}
use Rattle.sync_driver.specs.Formats.{Formats, FromSource, ToTarget}
use Rattle.sync_driver.specs.Forms.{IsCommand, IsNoCommand, Words}
use Rattle.sync_driver.specs.Shown.{ShowAnswer, Shows, shown_status}
use Rattle.sync_driver.specs.Swept.{SweepAnswer, TellsSweep, swept_status}
use Rattle.sync_driver.specs.Tellings.{Tells}
use Rattle.sync_driver.specs.declared.words.Form.{Form}
use Rattle.sync_driver.specs.declared.words.Form.TheVariants.{Check, Compact, Drill, Full, Show, Sweep, Sync}

-- Both counts only go up, and a command that ends with a fault has raised its count.
pub record EndsBy {S O : Type 0} (store : Ghosts S) (sink : sinks.Ghosts O) (old new : S) (out_old out_new : O) (given : Status) : Type 0 where
  pub store_later : store.faults old ≤ store.faults new
  pub store_fault : given ≡ status.StoreFault → Rose (store.faults old) (store.faults new)
  pub sink_fault : given ≡ status.SinkFault → Rose (sink.faults out_old) (sink.faults out_new)
  pub sink_later : sink.faults out_old ≤ sink.faults out_new

stable : (a b : ℕ) → ¬ ¬ (a ≤ b) → a ≤ b
stable a b maybe = elim (nat_le a b) as (λ t. nat_le a b ≡ t → a ≤ b) [
  | true ↦ λ is. grind (arith, nat_tests, is)
  | false ↦ λ is. absurd (maybe (λ le. grind (arith, nat_tests, le, is)))
] refl

-- what follows of each of three cases
pub three : {A B C D : Type 0} → A ⊎ B ⊎ C → (A → D) → (B → D) → (C → D) → D
three (inl a) f g h = f a
three (inr (inl b)) f g h = g b
three (inr (inr c)) f g h = h c

-- ---- answers

shown_fault : (answer : ShowAnswer) → shown_status answer ≡ status.StoreFault → answer ≡ Some (Err source.StoreFault)
shown_fault None is = absurd (cc is)
shown_fault (Some (Ok lines)) is = absurd (cc is)
shown_fault (Some (Err source.StoreFault)) is = refl
shown_fault (Some (Err source.Memory)) is = absurd (cc is)
shown_fault (Some (Err source.Absent)) is = absurd (cc is)
shown_fault (Some (Err (source.Malformed path))) is = absurd (cc is)
shown_fault (Some (Err (source.Unsupported feature path))) is = absurd (cc is)
shown_fault (Some (Err (source.Limit which number))) is = absurd (cc is)

shown_sink : (answer : ShowAnswer) → shown_status answer ≡ status.SinkFault → ⊥
shown_sink None is = cc is
shown_sink (Some (Ok lines)) is = cc is
shown_sink (Some (Err source.StoreFault)) is = cc is
shown_sink (Some (Err source.Memory)) is = cc is
shown_sink (Some (Err source.Absent)) is = cc is
shown_sink (Some (Err (source.Malformed path))) is = cc is
shown_sink (Some (Err (source.Unsupported feature path))) is = cc is
shown_sink (Some (Err (source.Limit which number))) is = cc is

checked_fault : (answer : CheckAnswer) → check_status answer ≡ status.StoreFault → answer ≡ Some (Err status.StoreFault)
checked_fault None is = absurd (cc is)
checked_fault (Some (Ok same)) is = absurd (cc is)
checked_fault (Some (Err e)) is = λ i. Some (Err (is i))

checked_sink : (kind : Kind) (answer : CheckAnswer) → IsFewOfCheck kind answer → check_status answer ≡ status.SinkFault → ⊥
checked_sink kind None few is = cc is
checked_sink kind (Some (Ok same)) few is = cc is
checked_sink kind (Some (Err e)) few is = subst (λ e. IsFewOfCheck kind (Some (Err e))) is few

answered_fault : (answer : Answer) → answer_status answer ≡ status.StoreFault → answer ≡ Some (Err status.StoreFault)
answered_fault None is = absurd (cc is)
answered_fault (Some (Ok report)) is = absurd (cc is)
answered_fault (Some (Err e)) is = λ i. Some (Err (is i))

answered_sink : (kind : Kind) (answer : Answer) → IsFew kind answer → answer_status answer ≡ status.SinkFault → ⊥
answered_sink kind None few is = cc is
answered_sink kind (Some (Ok report)) few is = cc is
answered_sink kind (Some (Err e)) few is = subst (λ e. IsFew kind (Some (Err e))) is few

swept_fault : (kind : Kind) (answer : SweepAnswer) → swept_status kind answer ≡ status.StoreFault → answer ≡ Err sweep.StoreFault
swept_fault kind (Ok swept) is = absurd (cc is)
swept_fault kind (Err sweep.StoreFault) is = refl
swept_fault kind (Err sweep.Memory) is = absurd (cc is)
swept_fault kind (Err (sweep.Foreign path)) is = absurd (cc is)
swept_fault kind (Err (sweep.Limit which number)) is = absurd (cc is)

swept_sink : (kind : Kind) (answer : SweepAnswer) → swept_status kind answer ≡ status.SinkFault → ⊥
swept_sink kind (Ok swept) is = cc is
swept_sink kind (Err sweep.StoreFault) is = cc is
swept_sink kind (Err sweep.Memory) is = cc is
swept_sink kind (Err (sweep.Foreign path)) is = cc is
swept_sink kind (Err (sweep.Limit which number)) is = cc is

compacted_fault : (answer : CompactionAnswer) → compacted_status answer ≡ status.StoreFault → answer ≡ Err compaction.StoreFault
compacted_fault (Ok compacted) is = absurd (cc is)
compacted_fault (Err compaction.StoreFault) is = refl
compacted_fault (Err compaction.Memory) is = absurd (cc is)
compacted_fault (Err compaction.Absent) is = absurd (cc is)
compacted_fault (Err (compaction.Malformed path)) is = absurd (cc is)
compacted_fault (Err (compaction.Unsupported feature path)) is = absurd (cc is)
compacted_fault (Err (compaction.Limit which number)) is = absurd (cc is)
compacted_fault (Err compaction.Contested) is = absurd (cc is)
compacted_fault (Err (compaction.Stale path)) is = absurd (cc is)

compacted_sink : (answer : CompactionAnswer) → compacted_status answer ≡ status.SinkFault → ⊥
compacted_sink (Ok compacted) is = cc is
compacted_sink (Err compaction.StoreFault) is = cc is
compacted_sink (Err compaction.Memory) is = cc is
compacted_sink (Err compaction.Absent) is = cc is
compacted_sink (Err (compaction.Malformed path)) is = cc is
compacted_sink (Err (compaction.Unsupported feature path)) is = cc is
compacted_sink (Err (compaction.Limit which number)) is = cc is
compacted_sink (Err compaction.Contested) is = cc is
compacted_sink (Err (compaction.Stale path)) is = cc is

-- the status of two is one of theirs
first_one : (a b : Status) → (first_refusal a b ≡ a) ⊎ (first_refusal a b ≡ b)
first_one status.Done b = inr refl
first_one a b = inl refl

behind_one : (a b : Status) → (status_behind a b ≡ a) ⊎ (status_behind a b ≡ b)
behind_one a status.Memory = inr refl
behind_one a status.StoreFault = inr refl
behind_one a status.SinkFault = inr refl
behind_one a b = first_one a b

both_one : (turned : Bool) (one two : Answer) → (both_status turned one two ≡ answer_status one) ⊎ (both_status turned one two ≡ answer_status two)
both_one false one two = behind_one (answer_status one) (answer_status two)
both_one true one two = ⊎_elim inr inl (behind_one (answer_status two) (answer_status one))

-- ---- commands

module _ {S O : Type 0} (store : Ghosts S) (sink : sinks.Ghosts O) (old new : S) (out_old out_new : O) (given : Status) where
  abbrev Ends : Type 0
  Ends = EndsBy store sink old new out_old out_new given

  pub ends_told : (line : List ℕ) (due : Status) → Tells sink out_old out_new line due given → store.faults old ≤ store.faults new → (due ≡ status.StoreFault → Rose (store.faults old) (store.faults new)) → (due ≡ status.SinkFault → ⊥) → EndsBy store sink old new out_old out_new given
  ends_told line due told later fault unsunk = record {
    store_later = later;
    store_fault = λ is. three told.status
        (λ same. fault (sym same ∙ is))
        (λ memory. let both : status.Memory ≡ status.StoreFault = sym memory ∙ is in absurd (cc both))
        (λ cut. let both : status.SinkFault ≡ status.StoreFault = sym cut.0 ∙ is in absurd (cc both));
    sink_fault = λ is. three told.status
        (λ same. absurd (unsunk (sym same ∙ is)))
        (λ memory. let both : status.Memory ≡ status.SinkFault = sym memory ∙ is in absurd (cc both))
        (λ cut. cut.1.1.0);
    sink_later = told.faults;
  }

  gave_up : GivesUp old new out_old out_new given → EndsBy store sink old new out_old out_new given
  gave_up up = record {
    store_later = subst (λ s. store.faults old ≤ store.faults s) (sym up.1) (omega arith);
    store_fault = λ is. let both : status.Memory ≡ status.StoreFault = sym up.0 ∙ is in absurd (cc both);
    sink_fault = λ is. let both : status.Memory ≡ status.SinkFault = sym up.0 ∙ is in absurd (cc both);
    sink_later = subst (λ o. sink.faults out_old ≤ sink.faults o) (sym up.2) (omega arith);
  }

  shows_end : (meaning : SourceMeaning) → Shows store sink meaning old new out_old out_new given → EndsBy store sink old new out_old out_new given
  shows_end meaning shows = ends_told _ (shown_status shows.answer) shows.told shows.show.cause.later (λ is. shows.show.cause.rose (shown_fault shows.answer is)) (shown_sink shows.answer)

  checks_end : (meaning : SourceMeaning) (target : TargetFacts) → Checks store sink meaning target old new out_old out_new given → EndsBy store sink old new out_old out_new given
  checks_end meaning target checks = ends_told _ (check_status checks.answer) checks.told checks.check.fault.later (λ is. checks.check.fault.rose (checked_fault checks.answer is)) (checked_sink target.files.kind checks.answer checks.check.few)

  syncs_end : (meaning : SourceMeaning) (target : TargetFacts) (mode : Mode) (now : ℕ) → Syncs store sink meaning target mode now old new out_old out_new given → EndsBy store sink old new out_old out_new given
  syncs_end meaning target mode now syncs = ends_told _ (answer_status syncs.answer) syncs.told syncs.sync.sync.fault.later (λ is. syncs.sync.sync.fault.rose (answered_fault syncs.answer is)) (answered_sink target.files.kind syncs.answer syncs.sync.sync.few)

  both_end : (meaning : SourceMeaning) (first second : TargetFacts) (mode : Mode) (now : ℕ) → SyncsBoth store sink meaning first second mode now old new out_old out_new given → EndsBy store sink old new out_old out_new given
  both_end meaning first second mode now both = ends_told _ (both_status both.second_first both.one both.two) both.told both.synced.fault.later
      (λ is. ⊎_elim
      (λ one. both.synced.fault.rose (inl (answered_fault both.one (sym one ∙ is))))
      (λ two. both.synced.fault.rose (inr (answered_fault both.two (sym two ∙ is))))
      (both_one both.second_first both.one both.two))
      (λ is. ⊎_elim
      (λ one. answered_sink first.files.kind both.one both.synced.first_sync.few (sym one ∙ is))
      (λ two. answered_sink second.files.kind both.two both.synced.second_sync.few (sym two ∙ is))
      (both_one both.second_first both.one both.two))

  sweep_end : (target : TargetFacts) → TellsSweep store sink target old new out_old out_new given → EndsBy store sink old new out_old out_new given
  sweep_end target tells = ends_told _ (swept_status target.files.kind tells.answer) tells.told tells.sweep.fault.later (λ is. tells.sweep.fault.rose (swept_fault target.files.kind tells.answer is)) (swept_sink target.files.kind tells.answer)

  compaction_end : TellsCompaction store sink old new out_old out_new given → EndsBy store sink old new out_old out_new given
  compaction_end tells = ends_told _ (compacted_status tells.answer) tells.told tells.compaction.fault.later (λ is. tells.compaction.fault.rose (compacted_fault tells.answer is)) (compacted_sink tells.answer)

  -- a drill's store is its own, and never fails it
  drill_end : (number : ℕ) → PlaysDrill sink number old new out_old out_new given → EndsBy store sink old new out_old out_new given
  drill_end number plays = record {
    store_later = subst (λ s. store.faults old ≤ store.faults s) (sym plays.0) (omega arith);
    store_fault = λ is. three plays.1.1.ends
        (λ done. let both : status.Done ≡ status.StoreFault = sym done ∙ is in absurd (cc both))
        (λ memory. let both : status.Memory ≡ status.StoreFault = sym memory ∙ is in absurd (cc both))
        (λ fault. let both : status.SinkFault ≡ status.StoreFault = sym fault.0 ∙ is in absurd (cc both));
    sink_fault = λ is. three plays.1.1.ends
        (λ done. let both : status.Done ≡ status.SinkFault = sym done ∙ is in absurd (cc both))
        (λ memory. let both : status.Memory ≡ status.SinkFault = sym memory ∙ is in absurd (cc both))
        (λ fault. fault.1);
    sink_later = plays.1.1.later;
  }

-- ---- formats

from_source : (formats : Formats) (kind : Kind) (P : SourceMeaning → Type 0) (Q : Type 0) → ((source : SourceMeaning) → P source → Q) → FromSource formats kind P → Q
from_source formats Delta P Q so from = so _ from.1
from_source formats Hudi P Q so from = so _ from.1
from_source formats Iceberg P Q so from = so _ from.1

to_target : (formats : Formats) (place : List ℕ) (kind : Kind) (P : TargetFacts → Type 0) (Q : Type 0) → ((target : TargetFacts) → P target → Q) → ToTarget formats place kind P → Q
to_target formats place Delta P Q so to = so _ to.2
to_target formats place Hudi P Q so to = so _ to.2
to_target formats place Iceberg P Q so to = so _ to.3

module _ {S O : Type 0} (store : Ghosts S) (sink : sinks.Ghosts O) (formats : Formats) (old new : S) (out_old out_new : O) (given : Status) where
  bring_end : (place : List ℕ) (source : SourceMeaning) (first : Kind) (second : Option Kind) (mode : Mode) (now : ℕ) → BringsEach store sink formats place source first second mode now old new out_old out_new given → EndsBy store sink old new out_old out_new given
  bring_end place source first None mode now brings = ⊎_elim (gave_up store sink old new out_old out_new given)
      (to_target formats place first _ (EndsBy store sink old new out_old out_new given) (λ t. syncs_end store sink old new out_old out_new given source t mode now)) brings
  bring_end place source first (Some second) mode now brings = ⊎_elim (gave_up store sink old new out_old out_new given)
      (to_target formats place first _ (EndsBy store sink old new out_old out_new given) (λ t. to_target formats place second _ (EndsBy store sink old new out_old out_new given) (λ u. both_end store sink old new out_old out_new given source t u mode now))) brings

  compare_end : (place : List ℕ) (source : SourceMeaning) (target : Kind) → ComparesTo store sink formats place source target old new out_old out_new given → EndsBy store sink old new out_old out_new given
  compare_end place source target compares = ⊎_elim (gave_up store sink old new out_old out_new given)
      (to_target formats place target _ (EndsBy store sink old new out_old out_new given) (λ t. checks_end store sink old new out_old out_new given source t)) compares

  swept_end : (place : List ℕ) (target : Kind) → SweepsTo store sink formats place target old new out_old out_new given → EndsBy store sink old new out_old out_new given
  swept_end place target sweeps = ⊎_elim (gave_up store sink old new out_old out_new given)
      (to_target formats place target _ (EndsBy store sink old new out_old out_new given) (λ t. sweep_end store sink old new out_old out_new given t)) sweeps

  module _ (gives : ℕ → Type 0) (words : Words) (command : Command store sink formats gives words old new out_old out_new given) where
    brought_end : (place : List ℕ) (mode : Mode) (source first : Kind) (second : Option Kind) → ((now : ℕ) × gives now × FromSource formats source (λ s. BringsEach store sink formats place s first second mode now old new out_old out_new given)) → EndsBy store sink old new out_old out_new given
    brought_end place mode source first second brought = from_source formats source _ (EndsBy store sink old new out_old out_new given) (λ s. bring_end place s first second mode brought.0) brought.2

    form_end : (place : List ℕ) (form : Form) → IsCommand words place form → EndsBy store sink old new out_old out_new given
    form_end place (Sync source first second) is = brought_end place modes.Sync source first second (command.brought place modes.Sync source first second is)
    form_end place (Full source first second) is = brought_end place modes.Full source first second (command.brought place modes.Full source first second is)
    form_end place (Show source) is = from_source formats source _ (EndsBy store sink old new out_old out_new given) (λ s. shows_end store sink old new out_old out_new given s) (command.shown place source is)
    form_end place (Check source target) is = from_source formats source _ (EndsBy store sink old new out_old out_new given) (λ s. compare_end place s target) (command.checked place source target is)
    form_end place (Sweep target) is = swept_end place target (command.swept place target is)
    form_end place Compact is = compaction_end store sink old new out_old out_new given (command.compacted place is)
    form_end place (Drill number) is = drill_end store sink old new out_old out_new given number (command.drilled place number is)

    usage_end : IsNoCommand words → EndsBy store sink old new out_old out_new given
    usage_end none = ends_told store sink old new out_old out_new given _ status.Usage (command.usage none).0 (subst (λ s. store.faults old ≤ store.faults s) (sym (command.usage none).1) (omega arith)) (λ is. absurd (cc is)) (λ is. cc is)

    -- It needn't be known whether the words are a command: each claim is one of an order of numbers.
    pub command_ends : EndsBy store sink old new out_old out_new given
    command_ends =
        let maybe : ¬ ¬ EndsBy store sink old new out_old out_new given = λ no. no (usage_end (λ place form is. no (form_end place form is))) in
        record {
          store_later = stable _ _ (λ no. maybe (λ ends. no ends.store_later));
          store_fault = λ is. stable _ _ (λ no. maybe (λ ends. no (ends.store_fault is)));
          sink_fault = λ is. stable _ _ (λ no. maybe (λ ends. no (ends.sink_fault is)));
          sink_later = stable _ _ (λ no. maybe (λ ends. no ends.sink_later));
        }

-- a command at times that these give is one at times that those give
pub command_gives : {S O : Type 0} (store : Ghosts S) (sink : sinks.Ghosts O) (formats : Formats) (G H : ℕ → Type 0) → ((time : ℕ) → G time → H time) → (words : Words) (old new : S) (out_old out_new : O) (given : Status)
    → Command store sink formats G words old new out_old out_new given → Command store sink formats H words old new out_old out_new given
command_gives store sink formats G H so words old new out_old out_new given command = record {
  usage = command.usage;
  brought = λ at mode source first second is. let brought = command.brought at mode source first second is in (brought.0, so brought.0 brought.1, brought.2);
  shown = command.shown;
  checked = command.checked;
  swept = command.swept;
  compacted = command.compacted;
  drilled = command.drilled;
}
