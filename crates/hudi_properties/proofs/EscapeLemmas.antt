-- Escapes, byte by byte.
use Rattle.std.proofs.Common.{◌≡◌, ℕ, zero, suc, ◌^◌, ◌<◌, List, [], ◌∷◌, ◌++◌, Option, Some, None, option_map, refl, ap, append_assoc, arith}
use Rattle.std.specs.Prelude.{option_to_list}
use Rattle.std.proofs.lemmas.List.{append-nil}
use Rattle.hudi_properties.specs.declared.escape.Escape.{Escape}
use Rattle.hudi_properties.specs.declared.escape.Escape.TheVariants.{Outside, Backslash, Hex}
use Rattle.hudi_properties.specs.Escapes.{step, units_from}

pub hex_small : (d v : ℕ) → d < 4 → v < 16 ^ d → v < 4096
hex_small zero v h small = omega arith
hex_small (suc zero) v h small = omega arith
hex_small (suc (suc zero)) v h small = omega arith
hex_small (suc (suc (suc zero))) v h small = omega arith
hex_small (suc (suc (suc (suc n)))) v h small = absurd (omega arith)

-- what is read so far, before the units of the rest
abbrev pub with_units : List ℕ → Option (List ℕ) → Option (List ℕ)
with_units front rest = option_map (λ units. front ++ units) rest

pub with_units-none : (rest : Option (List ℕ)) → with_units [] rest ≡ rest
with_units-none None = refl
with_units-none (Some us) = refl

joined : (front new : List ℕ) (rest : Option (List ℕ)) → with_units (front ++ new) rest ≡ with_units front (option_map (λ units. new ++ units) rest)
joined front new None = refl
joined front new (Some us) = ap Some (append_assoc front new us)

pub units_step : (state next : Escape) (b : ℕ) (bs : List ℕ) (unit : Option ℕ) (front : List ℕ) → step state b ≡ Some (next, unit) → with_units (front ++ option_to_list unit) (units_from next bs) ≡ with_units front (units_from state (b ∷ bs))
unfolding units_from
units_step Outside next b bs unit front is = rw is (joined front (option_to_list unit) (units_from next bs))
units_step Backslash next b bs unit front is = rw is (joined front (option_to_list unit) (units_from next bs))
units_step (Hex d v) next b bs unit front is = rw is (joined front (option_to_list unit) (units_from next bs))

pub units_stop : (state : Escape) (b : ℕ) (bs front : List ℕ) → step state b ≡ None → with_units front (units_from state (b ∷ bs)) ≡ None
unfolding units_from
units_stop Outside b bs front is = rw is
units_stop Backslash b bs front is = rw is
units_stop (Hex d v) b bs front is = rw is

pub units_open : (state : Escape) (d v : ℕ) (front : List ℕ) → state ≡ Hex d v → with_units front (units_from state []) ≡ None
unfolding units_from
units_open state d v front is = rw is

pub units_closed : (state : Escape) (front : List ℕ) → ((d v : ℕ) → state ≡ Hex d v → ⊥) → with_units front (units_from state []) ≡ Some front
unfolding units_from
units_closed Outside front other = ap Some (append-nil front)
units_closed Backslash front other = ap Some (append-nil front)
units_closed (Hex d v) front other = absurd (other d v refl)
