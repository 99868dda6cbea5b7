-- What each kind of words makes of a command.
use Rattle.std.proofs.Common.{◌≡◌, ◌∙◌, ℕ, List, sym, subst}
use Rattle.std.specs.Prelude.{Option, Some, None}
use Rattle.lake_store.specs.declared.store.Store.{Ghosts}
use Rattle.lake_store.specs.declared.sink.Sink as sinks
use Rattle.table_history.specs.declared.kind.Kind.{Kind}
use Rattle.sync_driver.specs.Answers.{AreApart, Brings, Command, Compares, PlaysDrill, Prints, SweepsTo, form_of}
use Rattle.sync_driver.specs.Compacted.{TellsCompaction}
use Rattle.sync_driver.specs.Formats.{Formats}
use Rattle.sync_driver.specs.Forms.{Words, IsCommand, IsNoCommand, Spells}
use Rattle.sync_driver.specs.Lines.{refusal_line}
use Rattle.sync_driver.specs.Tellings.{Tells}
use Rattle.target_sync.specs.declared.plan.Mode.{Mode}
use Rattle.target_sync.specs.declared.plan.Mode.TheVariants as modes
use Rattle.target_sync.specs.declared.status.Status.{Status}
use Rattle.target_sync.specs.declared.status.Status.TheVariants.{Usage}
use Rattle.sync_driver.specs.declared.words.Form.{Form}
use Rattle.sync_driver.specs.declared.words.Form.TheVariants.{Sync, Full, Show, Check, Sweep, Compact, Drill}
use Rattle.sync_driver.proofs.Spellings.{one_form}

-- a source is of another format than its targets, and these than each other
pub sync_apart : (words : Words) (source first : Kind) (second : Option Kind) → Spells words (Sync source first second) → AreApart source first second
sync_apart words source first None is = tt
sync_apart words source first (Some second) is = (is.3, is.4, is.5)

pub full_apart : (words : Words) (source first : Kind) (second : Option Kind) → Spells words (Full source first second) → AreApart source first second
full_apart words source first None is = tt
full_apart words source first (Some second) is = (is.3, is.4, is.5)

module _ {S O : Type 0} (store : Ghosts S) (sink : sinks.Ghosts O) (formats : Formats) (gives : ℕ → Type 0) (words : Words) (old new : S) (out_old out_new : O) (status : Status) where
  abbrev pub IsBrought : List ℕ → Mode → Kind → Kind → Option Kind → Type 0
  IsBrought place mode source first second = (now : ℕ) × gives now × Brings store sink formats place source first second mode now old new out_old out_new status

  -- what a form does
  abbrev pub Does : List ℕ → Form → Type 0
  Does place (Show source) = Prints store sink formats source old new out_old out_new status
  Does place (Sync source first second) = IsBrought place modes.Sync source first second
  Does place (Full source first second) = IsBrought place modes.Full source first second
  Does place (Check source target) = Compares store sink formats place source target old new out_old out_new status
  Does place (Sweep target) = SweepsTo store sink formats place target old new out_old out_new status
  Does place Compact = TellsCompaction store sink old new out_old out_new status
  Does place (Drill number) = PlaysDrill sink number old new out_old out_new status

  brought_by : (place : List ℕ) (mode : Mode) (source first : Kind) (second : Option Kind) → Does place (form_of mode source first second) → IsBrought place mode source first second
  brought_by place modes.Sync source first second does = does
  brought_by place modes.Full source first second does = does

  pub no_command : IsNoCommand words → Tells sink out_old out_new (refusal_line Usage) Usage status → new ≡ old → Command store sink formats gives words old new out_old out_new status
  no_command none told unchanged = record {
    usage = λ no. (told, unchanged);
    brought = λ place mode source first second is. absurd (none place (form_of mode source first second) is);
    shown = λ place source is. absurd (none place (Show source) is);
    checked = λ place source target is. absurd (none place (Check source target) is);
    swept = λ place target is. absurd (none place (Sweep target) is);
    compacted = λ place is. absurd (none place Compact is);
    drilled = λ place number is. absurd (none place (Drill number) is);
  }

  module _ (place : List ℕ) (form : Form) (is : IsCommand words place form) where
    same : (p : List ℕ) (other : Form) → IsCommand words p other → form ≡ other
    same p other spelled = one_form words form other is.1 spelled.1

    same_place : (p : List ℕ) (other : Form) → IsCommand words p other → place ≡ p
    same_place p other spelled = let one : Some place ≡ Some p = sym is.0.0 ∙ spelled.0.0 in cc one

    does_command : Does place form → Command store sink formats gives words old new out_old out_new status
    does_command does =
        let at : (p : List ℕ) (f : Form) → IsCommand words p f → Does p f =
        λ p f spelled. subst (λ (q : List ℕ). Does q f) (same_place p f spelled) (subst (λ (f : Form). Does place f) (same p f spelled) does) in
        record {
          usage = λ no. absurd (no place form is);
          brought = λ p mode source first second spelled. brought_by p mode source first second (at p (form_of mode source first second) spelled);
          shown = λ p source spelled. at p (Show source) spelled;
          checked = λ p source target spelled. at p (Check source target) spelled;
          swept = λ p target spelled. at p (Sweep target) spelled;
          compacted = λ p spelled. at p Compact spelled;
          drilled = λ p number spelled. at p (Drill number) spelled;
        }

    pub sync_command : (source first : Kind) (second : Option Kind) → form ≡ Sync source first second → IsBrought place modes.Sync source first second → Command store sink formats gives words old new out_old out_new status
    sync_command source first second here brought = does_command (subst (λ (f : Form). Does place f) (sym here) brought)

    pub full_command : (source first : Kind) (second : Option Kind) → form ≡ Full source first second → IsBrought place modes.Full source first second → Command store sink formats gives words old new out_old out_new status
    full_command source first second here brought = does_command (subst (λ (f : Form). Does place f) (sym here) brought)

    pub show_command : (source : Kind) → form ≡ Show source → Prints store sink formats source old new out_old out_new status → Command store sink formats gives words old new out_old out_new status
    show_command source here prints = does_command (subst (λ (f : Form). Does place f) (sym here) prints)

    pub check_command : (source target : Kind) → form ≡ Check source target → Compares store sink formats place source target old new out_old out_new status → Command store sink formats gives words old new out_old out_new status
    check_command source target here compares = does_command (subst (λ (f : Form). Does place f) (sym here) compares)

    pub sweep_command : (target : Kind) → form ≡ Sweep target → SweepsTo store sink formats place target old new out_old out_new status → Command store sink formats gives words old new out_old out_new status
    sweep_command target here sweeps = does_command (subst (λ (f : Form). Does place f) (sym here) sweeps)

    pub compact_command : form ≡ Compact → TellsCompaction store sink old new out_old out_new status → Command store sink formats gives words old new out_old out_new status
    compact_command here compacts = does_command (subst (λ (f : Form). Does place f) (sym here) compacts)

    pub drill_command : (number : ℕ) → form ≡ Drill number → PlaysDrill sink number old new out_old out_new status → Command store sink formats gives words old new out_old out_new status
    drill_command number here plays = does_command (subst (λ (f : Form). Does place f) (sym here) plays)
