-- What is written, part by part.
use Rattle.std.proofs.Common.{zero, suc, ◌<◌, ◌≤◌, get_or, arith, Vec, Global, ◌≡◌, ℕ, ◌+◌, ◌^◌, List, [], ◌∷◌, ◌++◌, length, map, Result, Ok, Err, OnOk, refl, ap, ◌∙◌, append_assoc, add-one}
use Rattle.avro_value.specs.declared.value.Value.{Value, Array, Map, Fields}
use Rattle.avro_value.specs.ValueTree.{ValueTree, value_tree, entry_tree, values_of, entries_of, values_len, entries_len, value_count, total, entry_count}
use Rattle.avro_value.specs.Fitting.{IsSound, AreSound, EntriesAreSound}
use Rattle.avro_value.proofs.Values.{value_tree-Array, value_tree-Map, value_tree-Fields}
use Rattle.avro_value.proofs.ValueLaws.{sizes_of, entry_sizes_of}

pub data_len_of : (vs : List Value) → values_len (values_of (map value_tree vs)) ≡ length vs
data_len_of [] = refl
data_len_of (v ∷ vs) = rw (data_len_of vs) (add-one _)

pub entries_len_of : (es : List (List ℕ × Value)) → entries_len (entries_of (map entry_tree es)) ≡ length es
entries_len_of [] = refl
entries_len_of (e ∷ es) = rw (entries_len_of es) (add-one _)

pub one_behind : {A E : Type 0} (r : Result A E) (old mid new a b : List ℕ) → mid ≡ old ++ a → OnOk r (new ≡ mid ++ b) → OnOk r (new ≡ old ++ (a ++ b))
one_behind (Ok x) old mid new a b first second = second ∙ ap (λ (m : List ℕ). m ++ b) first ∙ append_assoc old a b
one_behind (Err e) old mid new a b first second = tt

-- ---- parts are smaller than what holds them

pub array_size : (vs : Vec Value Global) → value_count (value_tree (Array vs)) ≡ total value_count (map value_tree vs.items) + 1
array_size vs = ap value_count (value_tree-Array vs) ∙ ap (λ (n : ℕ). n + 1) (sizes_of (map value_tree vs.items))

pub fields_size : (vs : Vec Value Global) → value_count (value_tree (Fields vs)) ≡ total value_count (map value_tree vs.items) + 1
fields_size vs = ap value_count (value_tree-Fields vs) ∙ ap (λ (n : ℕ). n + 1) (sizes_of (map value_tree vs.items))

pub map_size : (es : Vec (List ℕ × Value) Global) → value_count (value_tree (Map es)) ≡ total entry_count (map entry_tree es.items) + 1
map_size es = ap value_count (value_tree-Map es) ∙ ap (λ (n : ℕ). n + 1) (entry_sizes_of (map entry_tree es.items))

pub part_small : (xs : List Value) (i : ℕ) (x : Value) → i < length xs → x ≡ get_or xs i x → value_count (value_tree x) ≤ total value_count (map value_tree xs)
part_small [] i x lt e = absurd (omega arith)
part_small (y ∷ ys) zero x lt e = omega (arith, ap (λ (v : Value). value_count (value_tree v)) e)
part_small (y ∷ ys) (suc i) x lt e = let h = part_small ys i x (omega arith) e in omega (arith, h)

pub entry_small : (xs : List (List ℕ × Value)) (i : ℕ) (x : List ℕ × Value) → i < length xs → x ≡ get_or xs i x → value_count (value_tree x.1) ≤ total entry_count (map entry_tree xs)
entry_small [] i x lt e = absurd (omega arith)
entry_small (y ∷ ys) zero x lt e = omega (arith, ap (λ (v : List ℕ × Value). value_count (value_tree v.1)) e)
entry_small (y ∷ ys) (suc i) x lt e = let h = entry_small ys i x (omega arith) e in omega (arith, h)

-- ---- what is sound

pub items_sound : {E : Type 0} (r : Result (Unit {0}) E) (vs : List Value) → length vs < 2 ^ 63 → OnOk r (AreSound (values_of (map value_tree vs))) → OnOk r (IsSound (ValueTree.array_of (values_of (map value_tree vs))))
items_sound (Ok x) vs short sound = (omega (arith, short, data_len_of vs), sound)
items_sound (Err e) vs short sound = tt

pub entries_sound : {E : Type 0} (r : Result (Unit {0}) E) (es : List (List ℕ × Value)) → length es < 2 ^ 63 → OnOk r (EntriesAreSound (entries_of (map entry_tree es))) → OnOk r (IsSound (ValueTree.map_of (entries_of (map entry_tree es))))
entries_sound (Ok x) es short sound = (omega (arith, short, entries_len_of es), sound)
entries_sound (Err e) es short sound = tt
