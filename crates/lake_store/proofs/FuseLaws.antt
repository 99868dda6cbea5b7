-- That a call that fails is named by the script.
use Rattle.std.proofs.Common.{◌≡◌, ◌≢◌, inl, inr, ℕ, ◌==◌, ◌||◌, true, false, List, [], ◌∷◌, refl, sym, ◌∙◌, ap, subst, None, Some, is_some, Err, arith}
use Rattle.std.specs.List.{list_any}
use Rattle.lake_store.specs.declared.fuse.FuseStore.{FuseStore}
use Rattle.lake_store.specs.declared.store.StoreError.TheVariants.{Taken}
use Rattle.lake_store.specs.Disk.{stored}
use Rattle.lake_store.specs.Fuse.{CanFail, PublishesByScript, counted, fails, fuse_disk, fuse_left_since, fuse_time, inner_of, is_contested, is_stopped, next_of, others_file, script_of}
use Rattle.lake_store.specs.Memory.{Memory, changed, disk_of, left_since_of, time_of}
use Rattle.lake_store.specs.Moments.{Elapses}
use Rattle.lake_store.proofs.MomentLaws.{elapses_inside}
use Rattle.lake_store.specs.declared.fuse.Script.{Script}

not_empty : (call : ℕ) (calls : List ℕ) → list_any (λ n. n == call) calls ≡ true → calls ≢ []
not_empty call [] named = absurd (cc)
not_empty call (c ∷ calls) named = λ is. cc

pub fails_by_name : (script : Script) (call : ℕ) → fails script call ≡ true → CanFail script
fails_by_name script call named =
    elim script.stop as (λ stop. script.stop ≡ stop → CanFail script) [
      | Some stop ↦ λ is. inl (ap is_some is)
      | None ↦ λ is. inr (not_empty call script.failing.items (sym (ap (λ stop. is_stopped stop call || list_any (λ n. n == call) script.failing.items) is) ∙ named))
    ] refl

-- a call to publish that finds another writer's file
pub contested_by_script : (old mid : FuseStore) (to : List ℕ) (inner : Memory) (contests : ℕ) → mid ≡ counted old → fails old.script old.calls ≡ false → is_contested mid.script old.calls ≡ true
    → inner ≡ changed mid.inner (stored mid.inner.disk to others_file) → contests ≡ next_of mid.contests → PublishesByScript {T = Unit {0}} to old (record mid { inner = inner; contests = contests }) (Err Taken)
contested_by_script old mid to inner contests is works named file more =
    let inside : mid.inner ≡ old.inner = ap inner_of is in
    let before : mid.contests ≡ old.contests = ap (λ (f : FuseStore). f.contests) is in
    let script : mid.script ≡ old.script = ap script_of is in
    let contested : is_contested old.script old.calls ≡ true = ap (λ (s : Script). is_contested s old.calls) (sym script) ∙ named in
    record {
      counts = ap (λ (f : FuseStore). record f { inner = inner; contests = contests }) is;
      failing = λ fault. absurd (cc);
      working = λ _ refused. cc;
      contested = λ _ _. inl (record {
        taken = refl;
        file = file ∙ ap (λ (m : Memory). changed m (stored m.disk to others_file)) inside;
        contests = more ∙ ap next_of before;
      });
      free = λ none. absurd (cc);
    }

-- a call that the store inside was asked for
pub elapses_by_script : (old mid new : FuseStore) → mid ≡ counted old → Elapses disk_of time_of left_since_of mid.inner new.inner → Elapses fuse_disk fuse_time fuse_left_since old new
elapses_by_script old mid new is call =
    elapses_inside disk_of time_of left_since_of inner_of old new (subst (λ (m : Memory). Elapses disk_of time_of left_since_of m new.inner) (ap inner_of is) call)
