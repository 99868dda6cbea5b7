-- What several readers in a row take, and what they read again.
use Rattle.std.proofs.Common.{◌≡◌, ℕ, zero, suc, ◌+◌, List, [], ◌∷◌, ◌++◌, length, Ok, Err, refl, sym, ap, subst, ◌∙◌, append_assoc, arith, rules}
use Rattle.avro_value.specs.ValueTree.{total}
use Rattle.avro_value.specs.Spelling.{Spelling, Concatenated}
use Rattle.lake_basics.specs.Outcome.{◌>>=◌}
use Rattle.avro_value.specs.Reading.{Item, Reader, item_reading, item_at, many_at}
use Rattle.avro_value.proofs.NumberLaws.{bind_ok, ok_is}
use Rattle.avro_value.proofs.ItemLaws.{Takes, Again}

-- What was read is spelled at the front, and takes its count of the budget, where k more were counted before.
pub record TakenBy {A : Type 0} (P : Spelling A) (count : A → ℕ) (k : ℕ) (bytes : List ℕ) (budget : ℕ) (x : A × List ℕ × ℕ) : Type 0 where
  pub front : List ℕ
  pub parts : bytes ≡ front ++ x.1
  pub spelled : P x.0 front
  pub counted : x.2 + count x.0 ≡ budget + k

abbrev pub TakesBy : {A : Type 0} → Reader A → Spelling A → (A → ℕ) → ℕ → Type 0
TakesBy read P count k = (bytes : List ℕ) (budget : ℕ) (x : _ × List ℕ × ℕ) → read bytes budget ≡ Ok x → TakenBy P count k bytes budget x

abbrev pub AgainBy : {A : Type 0} → Reader A → Spelling A → (A → ℕ) → ℕ → Type 0
AgainBy read P count k = (x : _) (front rest : List ℕ) (budget left : ℕ) → P x front → left + count x ≡ budget + k → read (front ++ rest) budget ≡ Ok (x, rest, left)

-- ---- items

placed_takes : {A : Type 0} (read : List ℕ → Item A) (P : Spelling A) (count : A → ℕ) → ((x : A) → count x ≡ 0) → Takes read P → (bytes : List ℕ) (budget : ℕ) (r : Item A) (x : A × List ℕ × ℕ) → read bytes ≡ r → item_reading bytes budget r ≡ Ok x → TakenBy P count 0 bytes budget x
placed_takes read P count none law bytes budget (Ok y) x is e =
    let t = law bytes y is in
    let none_here = none y.0 in
    subst (λ (z : _ × List ℕ × ℕ). TakenBy P count 0 bytes budget z) (ok_is (y.0, y.1, budget) x e) (record { front = t.0; parts = t.1; spelled = t.2; counted = omega (arith, none_here) })
placed_takes read P count none law bytes budget (Err r) x is e = absurd cc

pub item_takes : {A : Type 0} (read : List ℕ → Item A) (P : Spelling A) (count : A → ℕ) → ((x : A) → count x ≡ 0) → Takes read P → TakesBy (item_at read) P count 0
item_takes read P count none law bytes budget x e = placed_takes read P count none law bytes budget (read bytes) x refl e

pub item_again : {A : Type 0} (read : List ℕ → Item A) (P : Spelling A) (count : A → ℕ) → ((x : A) → count x ≡ 0) → Again read P → AgainBy (item_at read) P count 0
item_again read P count none law x front rest budget left p e =
    let none_here = none x in
    let same : budget ≡ left = omega (arith, none_here) in
    rw (law x front rest p, same) refl

-- ---- many

abbrev pub Many : {A : Type 0} → Spelling A → ℕ → Spelling (List A)
Many P n xs bytes = (length xs ≡ n) × Concatenated P xs bytes

pub many_takes : {A : Type 0} (read : Reader A) (P : Spelling A) (count : A → ℕ) → TakesBy read P count 0 → (n : ℕ) → TakesBy (many_at read n) (Many P n) (total count) 0
unfolding many_at
many_takes read P count law zero bytes budget x e =
    subst (λ (z : List _ × List ℕ × ℕ). TakenBy (Many P 0) (total count) 0 bytes budget z) (ok_is ([], bytes, budget) x e)
    (record { front = []; parts = refl; spelled = (refl, refl); counted = refl })
many_takes read P count law (suc n) bytes budget x e =
    let a = bind_ok (read bytes budget) (λ y. many_at read n y.1 y.2 >>= λ ys. Ok (y.0 ∷ ys.0, ys.1, ys.2)) x e in
    let b = bind_ok (many_at read n a.0.1 a.0.2) (λ ys. Ok (a.0.0 ∷ ys.0, ys.1, ys.2)) x a.2 in
    let first = law bytes budget a.0 a.1 in
    let others = many_takes read P count law n a.0.1 a.0.2 b.0 b.1 in
    let parts : bytes ≡ (first.front ++ others.front) ++ b.0.1 = first.parts ∙ ap (λ (r : List ℕ). first.front ++ r) others.parts ∙ sym (append_assoc first.front others.front b.0.1) in
    let c0 = first.counted in
    let c1 = others.counted in
    subst (λ (z : List _ × List ℕ × ℕ). TakenBy (Many P (suc n)) (total count) 0 bytes budget z) (ok_is (a.0.0 ∷ b.0.0, b.0.1, b.0.2) x b.2)
    (record {
      front = first.front ++ others.front;
      parts = parts;
      spelled = (ap suc others.spelled.0, (first.front, others.front, refl, first.spelled, others.spelled.1));
      counted = omega (arith, c0, c1);
    })

pub many_again : {A : Type 0} (read : Reader A) (P : Spelling A) (count : A → ℕ) → AgainBy read P count 0 → (xs : List A) (front rest : List ℕ) (budget left : ℕ) → Concatenated P xs front → left + total count xs ≡ budget
    → many_at read (length xs) (front ++ rest) budget ≡ Ok (xs, rest, left)
unfolding many_at
many_again read P count law [] front rest budget left p e =
    let same : budget ≡ left = omega arith in
    rw (p, same) refl
many_again read P count law (x ∷ xs) front rest budget left p e =
    let first = p.0 in
    let others = p.1 in
    let parts : front ++ rest ≡ first ++ (others ++ rest) = ap (λ (f : List ℕ). f ++ rest) p.2 ∙ append_assoc first others rest in
    let one = law x first (others ++ rest) budget (left + total count xs) p.3 (omega arith) in
    let more = many_again read P count law xs others rest (left + total count xs) left p.4 refl in
    rw (parts, one, more) refl
