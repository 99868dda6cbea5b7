-- One more item at a step of a loop that maps a list.
use Rattle.std.proofs.Common.{◌≡◌, ℕ, ◌++◌, append_assoc, List, ◌∷◌, map, sym, subst}
use Rattle.avro_value.specs.Fitting.{IsSound, AreSound}
use Rattle.avro_value.specs.ValueTree.{ValueTree, values_of}
use Rattle.avro_value.specs.Writing.{encoding, values_encoding}

-- the same of values that are written one behind the other

pub encoded_more : {A : Type 0} (f : A → ValueTree) (done more : List ℕ) (x : A) (left rest : List A) (all : List ℕ) → more ≡ done ++ encoding (f x) → left ≡ x ∷ rest → done ++ values_encoding (values_of (map f left)) ≡ all → more ++ values_encoding (values_of (map f rest)) ≡ all
encoded_more {A} f done more x left rest all pushed next before =
    let at_item : done ++ (encoding (f x) ++ values_encoding (values_of (map f rest))) ≡ all = subst (λ (ys : List A). done ++ values_encoding (values_of (map f ys)) ≡ all) next before in
    rw (pushed, append_assoc) at_item

pub sound_more : {A : Type 0} (f : A → ValueTree) (x : A) (left rest all : List A) → left ≡ x ∷ rest → IsSound (f x) → (AreSound (values_of (map f left)) → AreSound (values_of (map f all))) → AreSound (values_of (map f rest)) → AreSound (values_of (map f all))
sound_more {A} f x left rest all next here before sound = before (subst (λ (ys : List A). AreSound (values_of (map f ys))) (sym next) (here, sound))
