-- The pairs of a new table, in their order, and what they say.
use Rattle.std.proofs.Common.{◌≡◌, ℕ, ◌+◌, ◌-◌, ◌<◌, ◌≤◌, List, [], ◌∷◌, ◌++◌, length, get_or, take, drop, refl, sym, ap, ◌∙◌, Ok, arith}
use Rattle.std.specs.Prelude.{codes}
use Rattle.std.specs.List.{join_with_byte}
use Rattle.std.proofs.Math.Seq.{take-length}
use Rattle.std.proofs.lemmas.List.{append_assoc, take_more}
use Rattle.hudi_properties.specs.Pairs.{in_order, properties_of}
use Rattle.hudi_properties.specs.TableProperties.{checked_table, table_of}
use Rattle.target_hudi.specs.TableName.{IsNewTable, new_pairs, partition_pairs}
use Rattle.target_hudi.proofs.ColumnNames.{names_back}

-- four more behind a list, one after the other
pub four_behind : {P : Type 0} (start one two three : List P) (a b c d : P) → one ≡ start ++ a ∷ [] → two ≡ one ++ b ∷ [] → three ≡ two ++ c ∷ [] → three ++ d ∷ [] ≡ start ++ a ∷ b ∷ c ∷ d ∷ []
four_behind start one two three a b c d first second third =
    ap (λ l. l ++ d ∷ []) (third ∙ ap (λ l. l ++ c ∷ []) (second ∙ ap (λ l. l ++ b ∷ []) first))
    ∙ append_assoc ((start ++ a ∷ []) ++ b ∷ []) (c ∷ []) (d ∷ [])
    ∙ append_assoc (start ++ a ∷ []) (b ∷ []) (c ∷ d ∷ [])
    ∙ append_assoc start (a ∷ []) (b ∷ c ∷ d ∷ [])

joined_push : (first : List ℕ) (others : List (List ℕ)) (name : List ℕ) → join_with_byte 44 (first ∷ (others ++ name ∷ [])) ≡ join_with_byte 44 (first ∷ others) ++ 44 ∷ name
joined_push first [] name = refl
joined_push first (next ∷ others) name = ap (λ l. first ++ 44 ∷ l) (joined_push next others name) ∙ sym (append_assoc first (44 ∷ join_with_byte 44 (next ∷ others)) (44 ∷ name))

-- one more name behind those that are joined
pub joined_more : (first : List ℕ) (others : List (List ℕ)) (i : ℕ) (d name text before middle after : List ℕ) → i < length others → name ≡ get_or others i d
    → before ≡ join_with_byte 44 (first ∷ take i others) → middle ≡ before ++ 44 ∷ [] → after ≡ middle ++ text → text ≡ name → after ≡ join_with_byte 44 (first ∷ take (i + 1) others)
joined_more first others i d name text before middle after within at so_far comma pushed is =
    pushed ∙ ap (λ l. middle ++ l) is ∙ ap (λ l. l ++ name) comma ∙ append_assoc before (44 ∷ []) name ∙ ap (λ l. l ++ 44 ∷ name) so_far ∙ sym (joined_push first (take i others) name)
    ∙ ap (λ l. join_with_byte 44 (first ∷ l)) (ap (λ x. take i others ++ x ∷ []) at ∙ sym (take_more others i d within))

all_but_one : {X : Type 0} (x : X) (xs : List X) → take (length (x ∷ xs) - 1) xs ≡ xs
all_but_one x xs = let same : length (x ∷ xs) - 1 ≡ length xs = omega arith in ap (λ n. take n xs) same ∙ take-length xs

-- the pair of the partition columns, where there are some
pub partition_pair : (partition : List (List ℕ)) (first d text joined : List ℕ) → 1 ≤ length partition → first ≡ get_or partition 0 d
    → joined ≡ join_with_byte 44 (first ∷ take (length partition - 1) (drop 1 partition)) → text ≡ joined → (codes "hoodie.table.partition.fields", text) ∷ [] ≡ partition_pairs partition
partition_pair [] first d text joined filled at is same = absurd (omega (arith, filled))
partition_pair (name ∷ names) first d text joined filled at is same =
    ap (λ t. (codes "hoodie.table.partition.fields", t) ∷ []) (same ∙ is ∙ ap (λ n. join_with_byte 44 (n ∷ take (length (name ∷ names) - 1) names)) at ∙ ap (λ l. join_with_byte 44 (name ∷ l)) (all_but_one name names))

pub pairs_in_order : (name : List ℕ) (partition : List (List ℕ)) → in_order (new_pairs name partition) ≡ new_pairs name partition
pairs_in_order name [] = refl
pairs_in_order name (column ∷ columns) = refl

pub checked : (name : List ℕ) (partition : List (List ℕ)) → checked_table (new_pairs name partition) ≡ Ok (table_of (new_pairs name partition))
checked name [] = refl
checked name (column ∷ columns) = refl

pub is_new_table : (name : List ℕ) (partition : List (List ℕ)) (bytes : List ℕ) → properties_of bytes ≡ Ok (in_order (new_pairs name partition)) → IsNewTable name partition bytes
is_new_table name [] bytes read = record {
  table = table_of (new_pairs name []);
  reads = (read ∙ ap Ok (pairs_in_order name []), checked name []);
  partition_is = λ are. refl;
  ours = refl;
  hive_style = refl;
  url_encode = refl;
}
is_new_table name (column ∷ columns) bytes read = record {
  table = table_of (new_pairs name (column ∷ columns));
  reads = (read ∙ ap Ok (pairs_in_order name (column ∷ columns)), checked name (column ∷ columns));
  partition_is = λ are. names_back column columns are;
  ours = refl;
  hive_style = refl;
  url_encode = refl;
}
