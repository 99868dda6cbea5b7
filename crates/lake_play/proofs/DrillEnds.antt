-- How a drill ends.
use Rattle.std.proofs.Common.{◌≡◌, ◌⊎◌, inl, inr, ⊎_elim, ℕ, List, ◌++◌, length, take, refl, sym, ap, ◌∙◌, arith}
use Rattle.std.proofs.lemmas.List.{take_all}
use Rattle.conformance.specs.Drill.{AreSaid}
use Rattle.lake_store.specs.Cause.{HasFault}
use Rattle.lake_store.specs.Fuse.{fuse_disk}
use Rattle.lake_store.specs.declared.fuse.FuseStore.{FuseStore}
use Rattle.lake_store.specs.declared.sink.Sink.{Ghosts}
use Rattle.target_sync.specs.declared.status.Side.TheVariants as side
use Rattle.target_sync.specs.declared.status.Status.{Status}
use Rattle.target_sync.specs.declared.status.Status.TheVariants as status
use Rattle.lake_play.specs.Drilled.{Drills, IsDrilled, IsPlayedThrough, IsReadEnd, LeavesDrill, PutsText}
use Rattle.lake_play.proofs.DrillNumbers.{none_at_end}

done_memory : status.Done ≡ status.Memory → ⊥
done_memory is = cc

failed_memory : status.SinkFault ≡ status.Memory → ⊥
failed_memory is = cc

-- reading is refused for want of memory alone
pub read_end : (number : ℕ) (store : FuseStore) (given : Status) → AreSaid number → IsPlayedThrough number store → LeavesDrill number (fuse_disk store).files → IsReadEnd (fuse_disk store).files given → given ≡ status.Memory
read_end number store status.Done said played leaves is = absurd is
read_end number store status.Memory said played leaves is = refl
read_end number store status.Usage said played leaves is = absurd is
read_end number store status.Absent said played leaves is = absurd is
read_end number store (status.Malformed path) said played leaves is = absurd is
read_end number store (status.Unsupported of feature path) said played leaves is = absurd is
read_end number store (status.Limit side.Source which n) said played leaves is = absurd is
read_end number store (status.Limit (side.Target target) which n) said played leaves is = absurd (none_at_end number said store played leaves target which n is)
read_end number store (status.Foreign target path) said played leaves is = absurd is
read_end number store (status.Contested target) said played leaves is = absurd is
read_end number store status.StoreFault said played leaves is = absurd is
read_end number store status.SinkFault said played leaves is = absurd is
read_end number store (status.Behind target at head) said played leaves is = absurd is
read_end number store (status.Differs target path) said played leaves is = absurd is
read_end number store (status.Stale path) said played leaves is = absurd is

module _ {O : Type 0} (sink : Ghosts O) (number : ℕ) (old : O) (store : FuseStore) where
  -- nothing was put
  pub nothing_put : (given : Status) → given ≡ status.Memory → Drills sink number old old given store
  nothing_put given memory = record {
    later = omega arith;
    can_fail = λ can. can;
    ends = inr (inl memory);
    done = λ done. absurd (done_memory (sym done ∙ memory));
    sink_fault = λ failed. absurd (failed_memory (sym failed ∙ memory));
    memory = λ memory told. inl refl;
  }

  -- the lines were put
  pub lines_put : (new : O) (lines : List ℕ) (given : Status) → IsDrilled number store lines → PutsText sink old new lines given → Drills sink number old new given store
  lines_put new lines given drilled puts = record {
    later = puts.later;
    can_fail = puts.can_fail;
    ends = puts.ends;
    done = λ done. (lines, drilled, puts.done done);
    sink_fault = λ failed. (lines, drilled, puts.front);
    memory = λ memory told. let put = puts.front told in inr (lines, put.0, drilled, put.1);
  }

-- ---- how the puts ended

module _ {O : Type 0} (sink : Ghosts O) (old new : O) (text : List ℕ) {Refused : Type 0} (cause : HasFault sink.faults sink.may_fail old new Refused) where
  pub put_done : (sink.tells → sink.output new ≡ sink.output old ++ text) → PutsText sink old new text status.Done
  put_done ok = record {
    later = cause.later;
    can_fail = cause.still;
    ends = inl refl;
    done = λ done. ok;
    front = λ told. (length text, ok told ∙ ap (λ (l : List ℕ). sink.output old ++ l) (sym (take_all (length text) text (omega arith))));
  }

  pub put_cut : (given : Status) → (given ≡ status.Done → ⊥) → (given ≡ status.Memory) ⊎ ((given ≡ status.SinkFault) × Refused) → (sink.tells → (n : ℕ) × (sink.output new ≡ sink.output old ++ take n text)) → PutsText sink old new text given
  put_cut given not_done why front = record {
    later = cause.later;
    can_fail = cause.still;
    ends = inr (⊎_elim (λ memory. inl memory) (λ failed. inr (failed.0, cause.rose failed.1, cause.allowed failed.1)) why);
    done = λ done. absurd (not_done done);
    front = front;
  }

-- the texts of three lines
pub three_texts : {a b c x y z : List ℕ} → a ≡ x → b ≡ y → c ≡ z → a ++ (b ++ c) ≡ x ++ (y ++ z)
three_texts {a} {b} {c} {x} {y} {z} one two three = ap (λ (l : List ℕ). l ++ (b ++ c)) one ∙ ap (λ (l : List ℕ). x ++ (l ++ c)) two ∙ ap (λ (l : List ℕ). x ++ (y ++ l)) three
