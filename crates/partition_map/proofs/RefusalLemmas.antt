-- When a reader refuses a text: exactly where it stands for no value.
use Rattle.std.specs.Borrow.{Bor}
use Rattle.partition_map.specs.declared.kind.PartKind.TheVariants as PartKind
use Rattle.std.specs.Option.{option_copied}
use Rattle.std.specs.Prelude.{◌==◌}
use Rattle.std.proofs.lemmas.Bool.{false≢true}
use Rattle.partition_map.specs.Stands.{IsTextOf, DeltaStands}
use Rattle.std.proofs.Common.{ℕ, List, [], ◌∷◌, length, Option, Some, false, subst, sym, ◌≡◌, ◌↔◌, Result, Ok, Err, IsErrOf, IsErrAnd, ap, refl}
use Rattle.table_history.specs.declared.row.PartValue.{PartValue}
use Rattle.partition_map.specs.declared.error.PartError.{PartError}
use Rattle.partition_map.specs.declared.error.PartError.TheVariants.{Memory, BadValue}

module _ (P : PartValue → Type 0) where
  pub read_value : (v : PartValue) → P v → IsErrOf {T = PartValue} (Ok v) BadValue ↔ ((w : PartValue) → P w → ⊥)
  read_value v p = (λ h. absurd cc, λ none. absurd (none v p))

  -- the same, where another value is written for what stands
  pub read_other : (x v : PartValue) → P v → IsErrOf {T = PartValue} (Ok x) BadValue ↔ ((w : PartValue) → P w → ⊥)
  read_other x v p = (λ h. absurd cc, λ none. absurd (none v p))

  pub want_of_memory : (v : PartValue) → P v → IsErrOf {T = PartValue} (Err Memory) BadValue ↔ ((w : PartValue) → P w → ⊥)
  want_of_memory v p = (λ h. absurd cc, λ none. absurd (none v p))

  pub refused : ((w : PartValue) → P w → ⊥) → IsErrOf {T = PartValue} (Err BadValue) BadValue ↔ ((w : PartValue) → P w → ⊥)
  refused none = (λ _. none, λ _. refl)

-- the exit of a `?` for want of memory
pub out_of_memory : (r : Result PartValue PartError) → IsErrAnd r (λ e. e ≡ Memory) → r ≡ Err Memory
out_of_memory (Ok v) h = absurd h
out_of_memory (Err e) h = ap Err h

-- a text that isn't empty stands for what it spells
delta_text : (kind : PartKind.the_data) (text : List ℕ) (v : PartValue) → false ≡ (length text == 0) → DeltaStands kind (Some text) v ↔ IsTextOf kind text v
delta_text kind [] v h = absurd (false≢true h)
delta_text kind (c ∷ text) v h = (λ s. s, λ s. s)

pub delta_refusal : (kind : PartKind.the_data) (text : Bor (List ℕ)) (o : Option (Bor (List ℕ))) (r : Result PartValue PartError) → o ≡ Some text → false ≡ (length text.now == 0)
    → IsErrOf r BadValue ↔ ((w : PartValue) → IsTextOf kind text.now w → ⊥) → IsErrOf r BadValue ↔ ((w : PartValue) → DeltaStands kind (option_copied o) w → ⊥)
delta_refusal kind text o r is filled h = (
  λ e w stands. h.0 e w ((delta_text kind text.now w filled).0 (subst (λ p. DeltaStands kind (option_copied p) w) is stands)),
  λ none. h.1 (λ w spelled. none w (subst (λ p. DeltaStands kind (option_copied p) w) (sym is) ((delta_text kind text.now w filled).1 spelled))),
)
