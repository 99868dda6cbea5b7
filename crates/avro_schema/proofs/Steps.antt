-- Reading a type, level by level.
use Rattle.std.proofs.Common.{◌≡◌, ℕ, zero, suc, ◌+◌, ◌-◌, ◌<◌, List, Err, refl, arith}
use Rattle.serde_json.specs.Data.{Data}
use Rattle.avro_schema.specs.declared.error.SchemaFault.TheVariants.{BadSchema}
use Rattle.avro_schema.specs.Reading.{State, type_at, type_with}

pub type_zero : (left : ℕ) (space : List ℕ) (d : Data) (st : State) → left ≡ 0 → type_at left space d st ≡ Err BadSchema
unfolding type_at
type_zero left space d st e = rw e refl

pub type_step : (left : ℕ) (space : List ℕ) (d : Data) (st : State) → 0 < left → type_at left space d st ≡ type_with (left - 1 + 1) (type_at (left - 1)) space d st
unfolding type_at
type_step zero space d st lt = absurd (omega arith)
type_step (suc left) space d st lt =
    let f : suc left - 1 + 1 ≡ suc left = omega arith in
    let e : suc left - 1 ≡ left = omega arith in
    rw (f, e) refl
