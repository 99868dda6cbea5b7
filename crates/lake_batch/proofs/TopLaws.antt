-- The words of a table's command and of a batch, and how a batch's cause is told.
use Rattle.std.proofs.Common.{◌≡◌, ◌<◌, ◌+◌, ◌++◌, ◌∷◌, [], List, ℕ, length, get_or, map, take, refl, sym, ◌∙◌, ap, subst}
use Rattle.std.specs.Prelude.{String, Some, string_bytes}
use Rattle.std.specs.Option.{option_map}
use Rattle.std.specs.declared.alloc.Global.{Global}
use Rattle.std.proofs.lemmas.List.{map_push, take_more}
use Rattle.std.proofs.lemmas.Option.{same_Some, slice_get_read}
use Rattle.lake_store.specs.declared.sink.Sink as sinks
use Rattle.lake_store.specs.declared.store.Store.{Ghosts}
use Rattle.target_sync.specs.declared.status.Status.{Status}
use Rattle.target_sync.specs.declared.status.Status.TheVariants as status
use Rattle.sync_driver.specs.Formats.{Formats}
use Rattle.sync_driver.specs.Forms.{Words, word}
use Rattle.sync_driver.specs.Tellings.{Tells}
use Rattle.lake_batch.specs.Whole.{IsBatchCommand, RunsFile, TellsWhy, file_status, why_line}
use Rattle.lake_batch.specs.declared.batch.Why.{Why}
use Rattle.lake_batch.specs.declared.top.BatchStatus.{BatchStatus}
use Rattle.lake_batch.specs.declared.top.BatchStatus.TheVariants.{File, Run}

-- a text more of the words of a command
pub words_more : (first : List ℕ) (words : Words) (w : String Global) (command : List (List ℕ)) (i : ℕ) (d : List ℕ) → i < length command → string_bytes w ≡ get_or command i d → map string_bytes words ≡ first ∷ take i command
    → map string_bytes (words ++ w ∷ []) ≡ first ∷ take (i + 1) command
words_more first words w command i d lt is so_far =
    map_push string_bytes words w ∙ ap (λ l. l ++ string_bytes w ∷ []) so_far ∙ ap (λ x. first ∷ (take i command ++ x ∷ [])) is
    ∙ sym (ap (λ l. first ∷ l) (take_more command i d lt))

-- the word at a place, by the text of it
pub word_is : (words : Words) (place : ℕ) (w : String Global) (text : List ℕ) → place < length words → w ≡ get_or words place w → text ≡ string_bytes w → word words place ≡ Some text
word_is words place w text lt at is = ap (option_map string_bytes) (slice_get_read words (length words) place w refl lt at) ∙ ap Some (sym is)

-- words are a batch of one place and one file
pub one_batch : {S O : Type 0} (store : Ghosts S) (sink : sinks.Ghosts O) (formats : Formats) (gives : ℕ → Type 0) (words : Words) (place file other_place other_file : List ℕ) (old new : S) (out_old out_new : O) (given : BatchStatus)
    → IsBatchCommand words place file → IsBatchCommand words other_place other_file → RunsFile store sink formats gives place file old new out_old out_new given → RunsFile store sink formats gives other_place other_file old new out_old out_new given
one_batch store sink formats gives words place file other_place other_file old new out_old out_new given is other runs =
    let places : place ≡ other_place = same_Some place other_place (sym is.place_is.0 ∙ other.place_is.0) in
    let files : file ≡ other_file = same_Some file other_file (sym is.file_is ∙ other.file_is) in
    subst (λ p. RunsFile store sink formats gives p other_file old new out_old out_new given) places (subst (λ f. RunsFile store sink formats gives place f old new out_old out_new given) files runs)

cut_status : (why : Why) (cut : Status) → ¬ (cut ≡ status.Done) → Run cut ≡ file_status why cut
cut_status why status.Done uncut = absurd (uncut refl)
cut_status why status.Memory uncut = refl
cut_status why status.Usage uncut = refl
cut_status why status.Absent uncut = refl
cut_status why (status.Malformed path) uncut = refl
cut_status why (status.Unsupported side feature path) uncut = refl
cut_status why (status.Limit side which number) uncut = refl
cut_status why (status.Foreign target path) uncut = refl
cut_status why (status.Contested target) uncut = refl
cut_status why status.StoreFault uncut = refl
cut_status why status.SinkFault uncut = refl
cut_status why (status.Behind target at head) uncut = refl
cut_status why (status.Differs target path) uncut = refl
cut_status why (status.Stale path) uncut = refl

module _ {O : Type 0} (sink : sinks.Ghosts O) (old new : O) (why : Why) (line : List ℕ) (is : line ≡ why_line why) (put : Status) (told : Tells sink old new line status.Done put) where
  told_line : Tells sink old new (why_line why) status.Done put
  told_line = subst (λ l. Tells sink old new l status.Done put) is told

  -- its line went out
  pub told_why : put ≡ status.Done → TellsWhy sink old new why (File why)
  told_why done = (status.Done, refl, subst (λ s. Tells sink old new (why_line why) status.Done s) done told_line)

  -- it was cut
  pub cut_why : ¬ (put ≡ status.Done) → TellsWhy sink old new why (Run put)
  cut_why cut = (put, cut_status why put cut, told_line)
