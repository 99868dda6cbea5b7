-- What is written for an instant, token by token, is its text, and is read as its JSON.
use Rattle.std.proofs.Common.{◌≡◌, ℕ, suc, ◌≤◌, List, [], ◌∷◌, ◌++◌, map, Option, Some, None, refl, sym, ap, subst, ◌∙◌, append-nil, append_assoc, arith}
use Rattle.std.specs.Prelude.{codes, flat_map, option_and_then, option_map}
use Rattle.std.specs.List.{AllByRecursion}
use Rattle.std.specs.Str.{IsUtf8}
use Rattle.json.specs.Lex.{tokens}
use Rattle.json.specs.Print.{print}
use Rattle.json.specs.Token.{Token}
use Rattle.json.specs.Json as json
use Rattle.json.specs.Tree as tree
use Rattle.json.proofs.Printed.Trees.{value-json_tokens}
use Rattle.serde_json.specs.Data.{Data, array, object, Members, no_members, member, put}
use Rattle.serde_json.specs.Read.{of_json, of_items, of_members, read, max_depth}
use Rattle.serde_json.specs.View.{items_of}
use Rattle.serde_json.specs.Written.{outline, items_outline, members_outline, compact_text}
use Rattle.serde_json.proofs.Numbers.{number_of-decimal}
use Rattle.serde_json.proofs.Texts.{print-outline}
use Rattle.json_reading.proofs.Laws.{json_read}
use Rattle.json_reading.specs.Json as reading
use Rattle.json_reading.specs.Json.{pairs, members_with}
use Rattle.json_reading.proofs.Grown.{Grew, more}
use Rattle.hudi_instant.specs.declared.instant.Instant.{Instant}
use Rattle.hudi_instant.specs.declared.instant.Stat.{Stat}
use Rattle.hudi_instant.specs.InstantText.{stat_data, runs_by, arrays_by, partition_of, replaced_partition, id_data, extra_data, whole_data, instant_data, instant_text, stat_cmp, replaced_cmp, IsSoundStat, IsWritable}
use Rattle.hudi_instant.specs.InstantTokens.{run_members, text_tokens, written_data}
use Rattle.hudi_instant.proofs.TextLemmas.{Rises, rises_from, runs_ascend, runs_joined, members_of_runs, all_rec, all_front, stat_order, id_order}

-- ---- the runs stand in the order of an object

abbrev of_pairs : List (List ℕ × Data) → Members
of_pairs [] = no_members
of_pairs (p ∷ ps) = member p.0 p.1 (of_pairs ps)

of_pairs-pairs : (ms : Members) → of_pairs (pairs ms) ≡ ms
of_pairs-pairs no_members = refl
of_pairs-pairs (member k d ms) = ap (member k d) (of_pairs-pairs ms)

of_pairs-runs : {A : Type 0} (shown : A → Data) (gs : List (List ℕ × List A)) → of_pairs (map (λ h. (h.0, array (items_of (map shown h.1)))) gs) ≡ run_members shown gs
of_pairs-runs shown [] = refl
of_pairs-runs shown (g ∷ gs) = ap (member g.0 (array (items_of (map shown g.1)))) (of_pairs-runs shown gs)

runs_in_order : {A : Type 0} (key : A → List ℕ) (shown : A → Data) (xs : List A) → Rises key xs → run_members shown (runs_by key xs) ≡ arrays_by key shown xs no_members
runs_in_order key shown xs rising =
    let members = members_of_runs (λ run. array (items_of (map shown run))) (runs_by key xs) (runs_ascend key xs rising) in
    sym (of_pairs-runs shown (runs_by key xs)) ∙ ap of_pairs (sym members) ∙ of_pairs-pairs (arrays_by key shown xs no_members)

written_same : (i : Instant) → IsWritable i → written_data i ≡ instant_data i
written_same i h =
    let ids = runs_in_order replaced_partition id_data i.replaced (rises_from replaced_partition replaced_cmp i.replaced id_order h.replaced) in
    let stats = runs_in_order partition_of stat_data i.stats (rises_from partition_of stat_cmp i.stats stat_order h.stats) in λ j. whole_data (extra_data i.mark i.schema) (object (ids j)) (object (stats j))

-- ---- what is written is read, and nests little

-- the JSON is read as this, and nests no deeper
pub record IsRead (n : ℕ) (j : json.Json) (d : Data) : Type 0 where
  pub reads : of_json j ≡ Some d
  pub shallow : tree.depth j ≤ n

items_read : {A : Type 0} (n : ℕ) (shown : A → Data) (xs : List A) → AllByRecursion (λ x. IsRead n (outline (shown x)) (shown x)) xs
    → (of_items (items_outline (items_of (map shown xs))) ≡ Some (items_of (map shown xs))) × (tree.items_depth (items_outline (items_of (map shown xs))) ≤ n)
items_read n shown [] all = (refl, omega arith)
items_read n shown (x ∷ xs) all =
    let one = all.0 in
    let rest = items_read n shown xs all.1 in (rw (one.reads, rest.0), omega (arith, one.shallow, rest.1))

runs_read : {A : Type 0} (n : ℕ) (shown : A → Data) (gs : List (List ℕ × List A)) (found : Members) → AllByRecursion (λ x. IsRead n (outline (shown x)) (shown x)) (flat_map (λ g. g.1) gs)
    → (of_members (members_outline (run_members shown gs)) found ≡ Some (members_with (λ run. array (items_of (map shown run))) gs found)) × (tree.members_depth (members_outline (run_members shown gs)) ≤ suc n)
runs_read n shown [] found all = (refl, omega arith)
runs_read n shown (g ∷ gs) found all =
    let parts = all_front (λ x. IsRead n (outline (shown x)) (shown x)) g.1 (flat_map (λ g. g.1) gs) all in
    let one = items_read n shown g.1 parts.0 in
    let rest = runs_read n shown gs (put g.0 (array (items_of (map shown g.1))) found) parts.1 in (rw (one.0, rest.0), omega (arith, one.1, rest.1))

arrays_read : {A : Type 0} (n : ℕ) (key : A → List ℕ) (shown : A → Data) (xs : List A) → AllByRecursion (λ x. IsRead n (outline (shown x)) (shown x)) xs
    → IsRead (suc (suc n)) (outline (object (run_members shown (runs_by key xs)))) (object (arrays_by key shown xs no_members))
arrays_read n key shown xs all =
    let runs = runs_read n shown (runs_by key xs) no_members (subst (AllByRecursion (λ x. IsRead n (outline (shown x)) (shown x))) (sym (runs_joined key xs)) all) in
    record { reads = ap (option_map object) runs.0; shallow = omega (arith, runs.1) }

ids_read : (ps : List (List ℕ × List ℕ)) → AllByRecursion (λ p. IsRead 1 (outline (id_data p)) (id_data p)) ps
ids_read [] = tt
ids_read (p ∷ ps) = (record { reads = refl; shallow = omega arith }, ids_read ps)

stat_read : (s : Stat) → IsSoundStat s → IsRead 1 (outline (stat_data s)) (stat_data s)
stat_read s h =
    let none = number_of-decimal 0 (omega arith) in
    let size = number_of-decimal s.size (omega (arith, h.size)) in
    let writes = number_of-decimal s.writes (omega (arith, h.writes)) in record { reads = rw (size, none, writes); shallow = omega arith }

stats_read : (ss : List Stat) → AllByRecursion IsSoundStat ss → AllByRecursion (λ s. IsRead 1 (outline (stat_data s)) (stat_data s)) ss
stats_read [] h = tt
stats_read (s ∷ ss) h = (stat_read s h.0, stats_read ss h.1)

extra_read : (mark schema : Option (List ℕ)) → IsRead 1 (outline (extra_data mark schema)) (extra_data mark schema)
extra_read None None = record { reads = refl; shallow = omega arith }
extra_read None (Some s) = record { reads = refl; shallow = omega arith }
extra_read (Some m) None = record { reads = refl; shallow = omega arith }
extra_read (Some m) (Some s) = record { reads = refl; shallow = omega arith }

written_read : (i : Instant) → IsWritable i → IsRead max_depth (outline (written_data i)) (instant_data i)
written_read i h =
    let extra = extra_read i.mark i.schema in
    let ids = arrays_read 1 replaced_partition id_data i.replaced (ids_read i.replaced) in
    let stats = arrays_read 1 partition_of stat_data i.stats (stats_read i.stats (all_rec IsSoundStat i.stats h.sound.stats)) in
    record { reads = rw (extra.reads, ids.reads, stats.reads); shallow = omega (arith, extra.shallow, ids.shallow, stats.shallow) }

-- ---- the bytes

tokens_read : (bytes : List ℕ) (j : json.Json) (d : Data) → tokens bytes ≡ tree.json_tokens j → IsRead max_depth j d → read bytes ≡ Some d
tokens_read bytes j d is h =
    ap (λ o. option_and_then of_json (option_and_then (λ p. json.if_last p.0 p.1) o)) (ap (json.value max_depth) (is ∙ sym (append-nil _)) ∙ value-json_tokens j max_depth [] h.shallow)
    ∙ h.reads

-- the tokens of an instant, printed
pub printed_text : (ts : List Token) (i : Instant) → ts ≡ tree.json_tokens (outline (written_data i)) → IsWritable i → print ts ≡ instant_text i
printed_text ts i is h = ap print is ∙ print-outline (written_data i) ∙ ap compact_text (written_same i h)

-- bytes of the tokens of an instant are read as its JSON
pub printed_json : (bytes : List ℕ) (ts : List Token) (i : Instant) → ts ≡ tree.json_tokens (outline (written_data i)) → tokens bytes ≡ ts → IsUtf8 bytes → IsWritable i
    → reading.json bytes ≡ Some (instant_data i)
printed_json bytes ts i is lexed utf8 h = json_read bytes (instant_data i) utf8 (tokens_read bytes (outline (written_data i)) (instant_data i) (lexed ∙ is) (written_read i h))

-- ---- one after another

-- a member more, whose text is this
pub more_text : (a b c us : List Token) (name s t : List ℕ) → Grew a b us → c ≡ b ++ Token.key name ∷ Token.string s ∷ [] → s ≡ t → Grew a c (us ++ Token.key name ∷ Token.string t ∷ [])
more_text a b c us name s t before is same = more a b c us _ before (is ∙ ap (λ u. b ++ Token.key name ∷ Token.string u ∷ []) same)

pub extra_tokens : (mark schema : Option (List ℕ))
    → Token.begin_object ∷ ((text_tokens (codes "lakebridge.mark") mark ++ text_tokens (codes "schema") schema) ++ Token.end_object ∷ []) ≡ tree.json_tokens (outline (extra_data mark schema))
extra_tokens None None = refl
extra_tokens None (Some s) = refl
extra_tokens (Some m) None = refl
extra_tokens (Some m) (Some s) = refl

pub regrouped : (extra a b replaced c stats d : List Token) → (((((extra ++ a) ++ b) ++ replaced) ++ c) ++ stats) ++ d ≡ extra ++ (a ++ (b ++ (replaced ++ (c ++ (stats ++ d)))))
regrouped extra a b replaced c stats d = simp append_assoc
