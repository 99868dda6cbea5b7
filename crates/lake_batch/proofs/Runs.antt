-- How the tables of a batch are run, one table more, and what follows of a whole run.
use Rattle.std.proofs.Common.{◌≡◌, ◌⊎◌, inl, inr, ⊎_elim, ℕ, ◌+◌, ◌≤◌, List, [], ◌∷◌, ◌++◌, length, take, refl, sym, ◌∙◌, ap, subst, arith, cond}
use Rattle.std.specs.Prelude.{Some, slice_get, Contains, Ok, Err}
use Rattle.std.proofs.lemmas.List.{append-nil}
use Rattle.std.proofs.lemmas.List.Elements.{Contains-append_right}
use Rattle.std.proofs.lemmas.List.Sums.{count_by-le-length, sum_by_push}
use Rattle.std.proofs.lemmas.Option.{same_Some}
use Rattle.lake_store.specs.Cause.{Rose}
use Rattle.lake_store.specs.Runs.{LeavesAlone}
use Rattle.lake_store.specs.declared.sink.Sink as sinks
use Rattle.lake_store.specs.declared.store.Store.{Ghosts}
use Rattle.lake_store.proofs.RunLaws.{NowOnly, alone_by_reading, alone_further, alone_of_fewer, reading_begins}
use Rattle.target_sync.specs.declared.status.Status.{Status}
use Rattle.target_sync.specs.declared.status.Status.TheVariants as status
use Rattle.sync_driver.specs.Answers.{Command}
use Rattle.sync_driver.specs.Both.{first_refusal}
use Rattle.sync_driver.specs.Formats.{Formats}
use Rattle.sync_driver.specs.Forms.{Words}
use Rattle.sync_driver.specs.Tellings.{Tells}
use Rattle.lake_batch.specs.Part.{IsBeside, StaysBeside, part_of}
use Rattle.lake_batch.specs.Tables.{AreRun, AreWords, GoOn, HasRun, HaveRun, IsBesideEach, IsCutShort, IsEnd, IsEnded, RanTable, RunsBatch, RunsTable, batch_line, done_count, first_of, is_done, table_line}
use Rattle.lake_batch.specs.declared.batch.Item.{Item}
use Rattle.lake_batch.specs.declared.tables.Tally.{Tally}
use Rattle.sync_driver.proofs.CommandEnds.{EndsBy, command_ends, command_gives, three}

-- ---- statuses

first_done : (s : Status) → first_refusal s status.Done ≡ s
first_done status.Done = refl
first_done s = refl

first_again : (s t u : Status) → first_refusal s (first_refusal t u) ≡ first_refusal (first_refusal s t) u
first_again status.Done t u = refl
first_again status.Memory t u = refl
first_again status.Usage t u = refl
first_again status.Absent t u = refl
first_again (status.Malformed path) t u = refl
first_again (status.Unsupported side feature path) t u = refl
first_again (status.Limit side which number) t u = refl
first_again (status.Foreign target path) t u = refl
first_again (status.Contested target) t u = refl
first_again status.StoreFault t u = refl
first_again status.SinkFault t u = refl
first_again (status.Behind target at head) t u = refl
first_again (status.Differs target path) t u = refl
first_again (status.Stale path) t u = refl

first_more : (statuses : List Status) (s : Status) → first_of (statuses ++ s ∷ []) ≡ first_refusal (first_of statuses) s
first_more [] s = first_done s
first_more (t ∷ statuses) s = ap (first_refusal t) (first_more statuses s) ∙ first_again t (first_of statuses) s

count_more : (statuses : List Status) (s : Status) → done_count (statuses ++ s ∷ []) ≡ done_count statuses + done_count (s ∷ [])
count_more statuses s = sum_by_push (λ t. cond (is_done t) 1 0) statuses s ∙ ap (λ n. done_count statuses + n) (from_none (cond (is_done s) 1 0))
  where
    from_none : (n : ℕ) → n ≡ 0 + n
    from_none n = omega arith

pub done_few : (statuses : List Status) → done_count statuses ≤ length statuses
done_few statuses = count_by-le-length is_done statuses

go_on_more : (statuses : List Status) (s : Status) → GoOn statuses → ¬ IsEnd s → GoOn (statuses ++ s ∷ [])
go_on_more [] s go_on on = (on, tt)
go_on_more (t ∷ statuses) s go_on on = (go_on.0, go_on_more statuses s go_on.1 on)

length_more : (statuses : List Status) (s : Status) → length (statuses ++ s ∷ []) ≡ length statuses + 1
length_more [] s = omega arith
length_more (t ∷ statuses) s = let more = length_more statuses s in omega (arith, more)

-- ---- counts

rose_wider : (a b c d : ℕ) → a ≤ b → c ≤ d → Rose b c → Rose a d
rose_wider a b c d before after rose = omega (arith, before, after, rose)

-- ---- one table

-- nothing is put where memory runs out
pub put_nothing : {O : Type 0} (sink : sinks.Ghosts O) (out : O) (line : List ℕ) (due : Status) → Tells sink out out line due status.Memory
put_nothing sink out line due = record {
  faults = omega arith;
  can_fail = λ can. can;
  status = inr (inl refl);
  silent = λ none. refl;
  whole = λ told said. absurd said;
  front = λ told. (0, sym (append-nil (sink.output out)));
}

module _ {S O : Type 0} (store : Ghosts S) (sink : sinks.Ghosts O) (formats : Formats) (place : List ℕ) (item : Item) where
  pub runs_table : (gives : ℕ → Type 0) (now : ℕ) (line folder : List ℕ) (words : Words) (old new : S) (out_old out_told out_new : O) (given : Status) → line ≡ table_line item.folder → folder ≡ item.folder → AreWords place item words → gives now
      → Tells sink out_old out_told line status.Done status.Done → Command (part_of store folder) sink formats (λ time. time ≡ now) words old new out_told out_new given → StaysBeside store folder old new
      → RunsTable store sink formats gives place item old new out_old out_new given
  runs_table gives now line folder words old new out_old out_told out_new given line_is folder_is words_are at told command beside = record {
    out_told = out_told;
    told = subst (λ l. Tells sink out_old out_told l status.Done status.Done) line_is told;
    words = words;
    words_are = words_are;
    command = subst (λ f. Command (part_of store f) sink formats gives words old new out_told out_new given) folder_is
        (command_gives (part_of store folder) sink formats (λ time. time ≡ now) gives (λ time is. subst gives (sym is) at) words old new out_told out_new given command);
    beside = subst (λ f. StaysBeside store f old new) folder_is beside;
  }

  pub table_gives : (G H : ℕ → Type 0) → ((time : ℕ) → G time → H time) → (old new : S) (out_old out_new : O) (given : Status) → RunsTable store sink formats G place item old new out_old out_new given → RunsTable store sink formats H place item old new out_old out_new given
  table_gives G H so old new out_old out_new given run = record {
    out_told = run.out_told;
    told = run.told;
    words = run.words;
    words_are = run.words_are;
    command = command_gives (part_of store item.folder) sink formats G H so run.words old new run.out_told out_new given run.command;
    beside = run.beside;
  }

module _ {S O : Type 0} (store : Ghosts S) (sink : sinks.Ghosts O) (formats : Formats) (place : List ℕ) where
  module _ (gives : ℕ → Type 0) where
    -- one run more
    run_more : (items : List Item) (statuses : List Status) (item : Item) (s : Status) (old mid new : S) (out_old out_mid out_new : O) → slice_get items (length statuses) ≡ Some item
        → AreRun store sink formats gives place items statuses old mid out_old out_mid → RunsTable store sink formats gives place item mid new out_mid out_new s
        → AreRun store sink formats gives place items (statuses ++ s ∷ []) old new out_old out_new
    run_more [] [] item s old mid new out_old out_mid out_new at ran run = absurd (cc at)
    run_more [] (t ∷ statuses) item s old mid new out_old out_mid out_new at ran run = absurd ran
    run_more (first ∷ items) [] item s old mid new out_old out_mid out_new at ran run =
        let same : first ≡ item = same_Some first item at in (
          new,
          out_new,
          subst (λ i. RunsTable store sink formats gives place i old new out_old out_new s) (sym same)
              (subst (λ (p : S). RunsTable store sink formats gives place item p new out_old out_new s) ran.0
              (subst (λ (o : O). RunsTable store sink formats gives place item mid new o out_new s) ran.1 run)),
          (refl, refl),
        )
    run_more (first ∷ items) (t ∷ statuses) item s old mid new out_old out_mid out_new at ran run =
        (ran.0, ran.1, ran.2, run_more items statuses item s ran.0 mid new ran.1 out_mid out_new at ran.3 run)

    -- ---- the loop

    pub none_run : (items : List Item) (s : S) (o : O) (tally : Tally) → tally.done ≡ 0 → tally.status ≡ status.Done → HasRun store sink formats gives place items 0 s s o o tally
    none_run items s o tally done undone = record { statuses = []; ran = none items; count_is = refl; go_on = tt; done = done; status = undone }
      where
        none : (items : List Item) → AreRun store sink formats gives place items [] s s o o
        none [] = (refl, refl)
        none (item ∷ items) = (refl, refl)

    module _ (items : List Item) (count : ℕ) (item : Item) (old mid new : S) (out_old out_mid out_new : O) (tally : Tally) (at : slice_get items count ≡ Some item) (so_far : HasRun store sink formats gives place items count old mid out_old out_mid tally) where
      at_next : slice_get items (length so_far.statuses) ≡ Some item
      at_next = ap (slice_get items) so_far.count_is ∙ at

      pub has_run_more : (s : Status) (next : Tally) → RunsTable store sink formats gives place item mid new out_mid out_new s → ¬ IsEnd s → next.done ≡ tally.done + done_count (s ∷ []) → next.status ≡ first_refusal tally.status s
          → HasRun store sink formats gives place items (count + 1) old new out_old out_new next
      has_run_more s next run on done first = record {
        statuses = so_far.statuses ++ s ∷ [];
        ran = run_more items so_far.statuses item s old mid new out_old out_mid out_new at_next so_far.ran run;
        count_is = length_more so_far.statuses s ∙ ap (λ n. n + 1) so_far.count_is;
        go_on = go_on_more so_far.statuses s so_far.go_on on;
        done = done ∙ ap (λ n. n + done_count (s ∷ [])) so_far.done ∙ sym (count_more so_far.statuses s);
        status = first ∙ ap (λ t. first_refusal t s) so_far.status ∙ sym (first_more so_far.statuses s);
      }

      pub have_ended : (s : Status) → RunsTable store sink formats gives place item mid new out_mid out_new s → IsEnd s → HaveRun store sink formats gives place items old new out_old out_new (Err s)
      have_ended s run ends = (
        so_far.statuses ++ s ∷ [],
        out_new,
        run_more items so_far.statuses item s old mid new out_old out_mid out_new at_next so_far.ran run,
        inl (so_far.statuses, refl, so_far.go_on, ends, refl),
      )

      pub have_been_cut : (s : Status) → RanTable store sink formats gives place item mid new out_mid out_new (Err s) → HaveRun store sink formats gives place items old new out_old out_new (Err s)
      have_been_cut s cut = (
        so_far.statuses,
        out_mid,
        subst (λ (p : S). AreRun store sink formats gives place items so_far.statuses old p out_old out_mid) (sym cut.0) so_far.ran,
        inr (item, at_next, so_far.go_on, cut.1, cut.2),
      )

    -- ---- what follows

    run_ends : (item : Item) (s : Status) (old new : S) (out_old out_new : O) → RunsTable store sink formats gives place item old new out_old out_new s → EndsBy store sink old new out_old out_new s
    run_ends item s old new out_old out_new run =
        let ends : EndsBy (part_of store item.folder) sink old new run.out_told out_new s =
        command_ends (part_of store item.folder) sink formats old new run.out_told out_new s gives run.words run.command in
        let wider : sink.faults out_old ≤ sink.faults run.out_told = run.told.faults in
        record {
          store_later = ends.store_later;
          store_fault = ends.store_fault;
          sink_fault = λ is. rose_wider (sink.faults out_old) (sink.faults run.out_told) (sink.faults out_new) (sink.faults out_new) wider (omega arith) (ends.sink_fault is);
          sink_later = omega (arith, wider, ends.sink_later);
        }

    record Counted (old new : S) (out_old out_new : O) : Type 0 where
      in_store : store.faults old ≤ store.faults new
      in_sink : sink.faults out_old ≤ sink.faults out_new

    counted : (items : List Item) (statuses : List Status) (old new : S) (out_old out_new : O) → AreRun store sink formats gives place items statuses old new out_old out_new → Counted old new out_old out_new
    counted items [] old new out_old out_new ran = record {
      in_store = subst (λ s. store.faults old ≤ store.faults s) (sym (end items ran).0) (omega arith);
      in_sink = subst (λ o. sink.faults out_old ≤ sink.faults o) (sym (end items ran).1) (omega arith);
    }
      where
        end : (items : List Item) → AreRun store sink formats gives place items [] old new out_old out_new → (new ≡ old) × (out_new ≡ out_old)
        end [] ran = ran
        end (item ∷ items) ran = ran
    counted [] (s ∷ statuses) old new out_old out_new ran = absurd ran
    counted (item ∷ items) (s ∷ statuses) old new out_old out_new ran =
        let first = run_ends item s old ran.0 out_old ran.1 ran.2 in
        let rest = counted items statuses ran.0 new ran.1 out_new ran.3 in
        record { in_store = omega (arith, first.store_later, rest.in_store); in_sink = omega (arith, first.sink_later, rest.in_sink) }

    -- the last run's fault is one of the whole
    last_ends : (items : List Item) (front : List Status) (s : Status) (old new : S) (out_old out_new : O) → AreRun store sink formats gives place items (front ++ s ∷ []) old new out_old out_new → EndsBy store sink old new out_old out_new s
    last_ends [] [] s old new out_old out_new ran = absurd ran
    last_ends [] (t ∷ front) s old new out_old out_new ran = absurd ran
    last_ends (item ∷ items) [] s old new out_old out_new ran =
        let first = run_ends item s old ran.0 out_old ran.1 ran.2 in
        let rest = counted items [] ran.0 new ran.1 out_new ran.3 in
        wider old ran.0 ran.0 new out_old ran.1 ran.1 out_new s first (omega arith) (omega arith) rest.in_store rest.in_sink
      where
        wider : (a b c d : S) (e f g h : O) (s : Status) → EndsBy store sink a b e f s → store.faults a ≤ store.faults a → sink.faults e ≤ sink.faults e → store.faults b ≤ store.faults d → sink.faults f ≤ sink.faults h → EndsBy store sink a d e h s
        wider a b c d e f g h s ends _ _ later sink_later = record {
          store_later = omega (arith, ends.store_later, later);
          store_fault = λ is. rose_wider (store.faults a) (store.faults a) (store.faults b) (store.faults d) (omega arith) later (ends.store_fault is);
          sink_fault = λ is. rose_wider (sink.faults e) (sink.faults e) (sink.faults f) (sink.faults h) (omega arith) sink_later (ends.sink_fault is);
          sink_later = omega (arith, ends.sink_later, sink_later);
        }
    last_ends (item ∷ items) (t ∷ front) s old new out_old out_new ran =
        let first = run_ends item t old ran.0 out_old ran.1 ran.2 in
        let rest = last_ends items front s ran.0 new ran.1 out_new ran.3 in
        record {
          store_later = omega (arith, first.store_later, rest.store_later);
          store_fault = λ is. rose_wider (store.faults old) (store.faults ran.0) (store.faults new) (store.faults new) first.store_later (omega arith) (rest.store_fault is);
          sink_fault = λ is. rose_wider (sink.faults out_old) (sink.faults ran.1) (sink.faults out_new) (sink.faults out_new) first.sink_later (omega arith) (rest.sink_fault is);
          sink_later = omega (arith, first.sink_later, rest.sink_later);
        }

    -- beside the folders of the tables that were run all stays
    contains_first : (item : Item) (items : List Item) → Contains (item ∷ items) item
    contains_first item items = (0, omega arith, refl)

    elsewhere : NowOnly store → (items : List Item) (statuses : List Status) (old new : S) (out_old out_new : O) → AreRun store sink formats gives place items statuses old new out_old out_new
        → store.tells → LeavesAlone store (IsBesideEach (take (length statuses) items)) old new
    elsewhere only_now items [] old new out_old out_new ran told =
        subst (λ s. LeavesAlone store (IsBesideEach (take 0 items)) old s) (sym (end items ran).0) (alone_by_reading store (IsBesideEach (take 0 items)) old old (reading_begins store only_now old told))
      where
        end : (items : List Item) → AreRun store sink formats gives place items [] old new out_old out_new → (new ≡ old) × (out_new ≡ out_old)
        end [] ran = ran
        end (item ∷ items) ran = ran
    elsewhere only_now [] (s ∷ statuses) old new out_old out_new ran told = absurd ran
    elsewhere only_now (item ∷ items) (s ∷ statuses) old new out_old out_new ran told =
        let run = ran.2 in
        let rest = take (length statuses) items in
        let Kept : List ℕ → Type 0 = IsBesideEach (item ∷ rest) in
        alone_further store Kept old ran.0 new
        (λ t. alone_of_fewer store (IsBeside item.folder) Kept old ran.0 (λ path each. each item (contains_first item rest)) (run.beside t))
        (λ t. alone_of_fewer store (IsBesideEach rest) Kept ran.0 new (λ path each other within. each other (Contains-append_right (item ∷ []) rest other within))
        (elsewhere only_now items statuses ran.0 new ran.1 out_new ran.3 t)) told

    -- the whole batch
    module _ (only_now : NowOnly store) (items : List Item) (old new : S) (out_old out_ran out_new : O) where
      pub batch_whole : (tally : Tally) (given : Status) → HaveRun store sink formats gives place items old new out_old out_ran (Ok tally) → Tells sink out_ran out_new (batch_line (length items) tally.done) tally.status given
          → RunsBatch store sink formats gives place items old new out_old out_new given
      batch_whole tally given have told = record {
        statuses = have.statuses;
        out_ran = out_ran;
        ran = have.ran;
        ends = inl (have.count_is, have.go_on, subst (λ n. Tells sink out_ran out_new (batch_line (length items) n) (first_of have.statuses) given) have.done (subst (λ s. Tells sink out_ran out_new (batch_line (length items) tally.done) s given) have.status told));
        complete = λ unfailed uncut. inl have.count_is;
        elsewhere = elsewhere only_now items have.statuses old new out_old out_ran have.ran;
      }

    pub batch_ended : NowOnly store → (items : List Item) (old new : S) (out_old out_new : O) (given : Status) → HaveRun store sink formats gives place items old new out_old out_new (Err given) → RunsBatch store sink formats gives place items old new out_old out_new given
    batch_ended only_now items old new out_old out_new given have = record {
      statuses = have.0;
      out_ran = have.1;
      ran = have.2;
      ends = inr have.3;
      complete = λ unfailed uncut. inr (⊎_elim (ended unfailed uncut) (cut uncut) have.3);
      elsewhere = elsewhere only_now items have.0 old new out_old have.1 have.2;
    }
      where
        by_end : (s : Status) → IsEnd s → EndsBy store sink old new out_old out_new s → ¬ Rose (store.faults old) (store.faults new) → ¬ Rose (sink.faults out_old) (sink.faults out_new) → s ≡ status.Memory
        by_end status.Memory end ends unfailed uncut = refl
        by_end status.StoreFault end ends unfailed uncut = absurd (unfailed (ends.store_fault refl))
        by_end status.SinkFault end ends unfailed uncut = absurd (uncut (ends.sink_fault refl))
        by_end status.Done end ends unfailed uncut = absurd end
        by_end status.Usage end ends unfailed uncut = absurd end
        by_end status.Absent end ends unfailed uncut = absurd end
        by_end (status.Malformed path) end ends unfailed uncut = absurd end
        by_end (status.Unsupported side feature path) end ends unfailed uncut = absurd end
        by_end (status.Limit side which number) end ends unfailed uncut = absurd end
        by_end (status.Foreign target path) end ends unfailed uncut = absurd end
        by_end (status.Contested target) end ends unfailed uncut = absurd end
        by_end (status.Behind target at head) end ends unfailed uncut = absurd end
        by_end (status.Differs target path) end ends unfailed uncut = absurd end
        by_end (status.Stale path) end ends unfailed uncut = absurd end

        ended : ¬ Rose (store.faults old) (store.faults new) → ¬ Rose (sink.faults out_old) (sink.faults out_new) → IsEnded have.0 have.1 out_new given → given ≡ status.Memory
        ended unfailed uncut end =
            let ran : AreRun store sink formats gives place items (end.0 ++ given ∷ []) old new out_old out_new =
            subst (λ (o : O). AreRun store sink formats gives place items (end.0 ++ given ∷ []) old new out_old o) (sym end.4)
            (subst (λ l. AreRun store sink formats gives place items l old new out_old have.1) end.1 have.2) in
            by_end given end.3 (last_ends items end.0 given old new out_old out_new ran) unfailed uncut

        cut : ¬ Rose (sink.faults out_old) (sink.faults out_new) → IsCutShort sink items have.0 have.1 out_new given → given ≡ status.Memory
        cut uncut short = three short.3.status
            (λ done. absurd (short.4 done))
            (λ memory. memory)
            (λ fault. absurd (uncut (rose_wider (sink.faults out_old) (sink.faults have.1) (sink.faults out_new) (sink.faults out_new) (counted items have.0 old new out_old have.1 have.2).in_sink (omega arith) fault.1.1.0)))
