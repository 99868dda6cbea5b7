-- What is written for a file action, token by token, is its text, and is read as its JSON.
use Rattle.std.proofs.Common.{◌≡◌, ℕ, suc, ◌<◌, ◌≤◌, ◌^◌, List, [], ◌∷◌, ◌++◌, Bor, Option, Some, None, option_and_then, Ordering, Less, Equal, Greater, refl, sym, ap, subst, ◌∙◌, append-nil, append_assoc, arith, nat_cmp, decimal}
use Rattle.std.proofs.lemmas.Cmp.{nat_list_cmp_total}
use Rattle.std.specs.Prelude.{codes}
use Rattle.std.specs.BTreeMap.{insert_entry}
use Rattle.std.specs.Cmp.Lexicographic.{slice_cmp}
use Rattle.std.specs.Ordering.{match_ordering}
use Rattle.std.specs.Str.{IsUtf8}
use Rattle.json.specs.Json as json
use Rattle.json.specs.Lex.{tokens}
use Rattle.json.specs.Print.{print, escape_byte}
use Rattle.json.specs.Token.{Token}
use Rattle.json.specs.Tree as tree
use Rattle.json.specs.Tree.{json_tokens, HasNumbers, MembersHaveNumbers}
use Rattle.json.proofs.Printed.Decimals.{IsNumber-decimal}
use Rattle.json.proofs.Printed.Tokens.{tokens-print}
use Rattle.json.proofs.Printed.Trees.{value-json_tokens, ArePrintable-json_tokens}
use Rattle.serde_json.specs.Data.{Data, null, boolean, number, string, array, object, Items, no_items, item, Members, no_members, member, put, depth, items_depth, members_depth}
use Rattle.serde_json.specs.Read.{of_json, of_members, read, max_depth}
use Rattle.serde_json.specs.Written.{outline, items_outline, members_outline, compact_text}
use Rattle.serde_json.proofs.Numbers.{number_of-decimal}
use Rattle.serde_json.proofs.Texts.{print-outline}
use Rattle.lake_basics.proofs.Texts.{IsBelow, above, greater_turned}
use Rattle.json_reading.proofs.Laws.{json_read}
use Rattle.json_reading.specs.Json.{text_or_null_data, members_with, IsReadAgain}
use Rattle.delta_log.specs.declared.commit.FileAction.{FileAction}
use Rattle.delta_log.specs.declared.commit.FileAction.TheVariants as file
use Rattle.delta_text.specs.Again.{HasSmallNumbers}
use Rattle.delta_text.specs.Tokens.{values_members}
use Rattle.delta_text.specs.Writing.{stats_data, file_data}
use Rattle.delta_text.proofs.ShapeLemmas.{file_shallow}

-- ---- values that are put in by their names

abbrev Entry : Type 0
Entry = Bor (List ℕ) × Bor (Option (List ℕ))

values_members-match_ordering : (o : Ordering) (a b c : List Entry) → values_members (match_ordering o a b c) ≡ match_ordering o (values_members a) (values_members b) (values_members c)
values_members-match_ordering Less a b c = refl
values_members-match_ordering Equal a b c = refl
values_members-match_ordering Greater a b c = refl

pub values_members-insert_entry : (es : List Entry) (k : Bor (List ℕ)) (v : Bor (Option (List ℕ)))
    → values_members (insert_entry (λ x y. slice_cmp nat_cmp x.now y.now) es k v) ≡ put k.now (text_or_null_data v.now) (values_members es)
values_members-insert_entry [] k v = refl
values_members-insert_entry (e ∷ es) k v = values_members-match_ordering (slice_cmp nat_cmp k.now e.0.now) _ _ _ ∙ rw (values_members-insert_entry es k v)

-- ---- members in the order of their names are put in one after another

-- all names are above this one
abbrev AreAbove : List ℕ → Members → Type 0
AreAbove k no_members = Unit {0}
AreAbove k (member l e ms) = IsBelow k l × AreAbove k ms

-- the JSON of the data is read as it
record IsRead (d : Data) : Type 0 where
  pub reads : of_json (outline d) ≡ Some d
  pub numbers : HasNumbers (outline d)

-- each name is below all later ones, and each member is read
abbrev AreRead : Members → Type 0
AreRead no_members = Unit {0}
AreRead (member k d ms) = IsRead d × AreAbove k ms × AreRead ms

above_all : (k l : List ℕ) (ms : Members) → IsBelow k l → AreAbove l ms → AreAbove k ms
above_all k l no_members h all = tt
above_all k l (member m e ms) h all = (nat_list_cmp_total.trans k l m h all.0, above_all k l ms h all.1)

above_put : (j k : List ℕ) (d : Data) (ms : Members) → IsBelow j k → AreAbove j ms → AreAbove j (put k d ms)
above_put j k d no_members h all = (h, tt)
above_put j k d (member l e ms) h all =
    elim (slice_cmp nat_cmp k l) as (λ o. AreAbove j (match_ordering o (member k d (member l e ms)) (member l d ms) (member l e (put k d ms)))) [
      | Less ↦ (h, all)
      | Equal ↦ all
      | Greater ↦ (all.0, above_put j k d ms h all.1)
    ]

read_at : (o : Ordering) (k l : List ℕ) (d e : Data) (ms : Members) → slice_cmp nat_cmp k l ≡ o → IsRead d → AreRead (member l e ms) → AreRead (put k d ms)
    → AreRead (match_ordering o (member k d (member l e ms)) (member l d ms) (member l e (put k d ms)))
read_at Less k l d e ms is one all later = (one, (is, above_all k l ms is all.1), all)
read_at Equal k l d e ms is one all later = (one, all.1, all.2)
read_at Greater k l d e ms is one all later = (all.0, above_put l k d ms (greater_turned k l is) all.1, later)

read_put : (k : List ℕ) (d : Data) (ms : Members) → IsRead d → AreRead ms → AreRead (put k d ms)
read_put k d no_members one all = (one, tt, tt)
read_put k d (member l e ms) one all = read_at (slice_cmp nat_cmp k l) k l d e ms refl one all (read_put k d ms one all.2)

read_with : {A : Type 0} (shown : A → Data) → ((x : A) → IsRead (shown x)) → (ps : List (List ℕ × A)) (ms : Members) → AreRead ms → AreRead (members_with shown ps ms)
read_with shown one [] ms all = all
read_with shown one (p ∷ ps) ms all = read_with shown one ps _ (read_put p.0 (shown p.1) ms (one p.1) all)

-- members behind others
abbrev followed : Members → Members → Members
followed no_members ms = ms
followed (member k d found) ms = member k d (followed found ms)

followed-none : (found : Members) → followed found no_members ≡ found
followed-none no_members = refl
followed-none (member k d found) = ap (member k d) (followed-none found)

followed-one : (found : Members) (k : List ℕ) (d : Data) (ms : Members) → followed (followed found (member k d no_members)) ms ≡ followed found (member k d ms)
followed-one no_members k d ms = refl
followed-one (member l e found) k d ms = ap (member l e) (followed-one found k d ms)

first_below : (j : List ℕ) (found : Members) (k : List ℕ) (d : Data) (ms : Members) → AreAbove j (followed found (member k d ms)) → IsBelow j k
first_below j no_members k d ms all = all.0
first_below j (member l e found) k d ms all = first_below j found k d ms all.1

put_last : (found : Members) (k : List ℕ) (d : Data) (ms : Members) → AreRead (followed found (member k d ms)) → put k d found ≡ followed found (member k d no_members)
put_last no_members k d ms all = refl
put_last (member l e found) k d ms all = rw (above l k (first_below l found k d ms all.1)) (ap (member l e) (put_last found k d ms all.2))

first_read : (found : Members) (k : List ℕ) (d : Data) (ms : Members) → AreRead (followed found (member k d ms)) → IsRead d
first_read no_members k d ms all = all.0
first_read (member l e found) k d ms all = first_read found k d ms all.2

members_again : (found ms : Members) → AreRead (followed found ms) → of_members (members_outline ms) found ≡ Some (followed found ms)
members_again found no_members all = ap Some (sym (followed-none found))
members_again found (member k d ms) all =
    let one = first_read found k d ms all in
    let put_in : of_members (members_outline (member k d ms)) found ≡ of_members (members_outline ms) (put k d found) = rw one.reads in
    put_in ∙ ap (of_members (members_outline ms)) (put_last found k d ms all)
    ∙ members_again (followed found (member k d no_members)) ms (subst AreRead (sym (followed-one found k d ms)) all) ∙ ap Some (followed-one found k d ms)

members_numbers : (ms : Members) → AreRead ms → MembersHaveNumbers (members_outline ms)
members_numbers no_members all = tt
members_numbers (member k d ms) all = (all.0.numbers, members_numbers ms all.2)

-- ---- what is read

value_read : (v : Option (List ℕ)) → IsRead (text_or_null_data v)
value_read None = record { reads = refl; numbers = tt }
value_read (Some s) = record { reads = refl; numbers = tt }

file_read : (now : ℕ) (f : FileAction) → HasSmallNumbers now f → IsRead (file_data now f)
file_read now (file.Add path values size count) h =
    let all = read_with text_or_null_data value_read values no_members tt in
    record {
      reads = rw (number_of-decimal now h.0, number_of-decimal size h.1, members_again no_members (members_with text_or_null_data values no_members) all);
      numbers = ((tt, (IsNumber-decimal now h.0, (members_numbers (members_with text_or_null_data values no_members) all, (tt, (IsNumber-decimal size h.1, (tt, tt)))))), tt);
    }
file_read now (file.Remove path) h = record { reads = rw (number_of-decimal now h); numbers = ((tt, (IsNumber-decimal now h, (tt, tt))), tt) }

stats_read : (count : ℕ) → count < 2 ^ 64 → IsRead (stats_data count)
stats_read count h = record { reads = rw (number_of-decimal count h); numbers = (IsNumber-decimal count h, tt) }

mutual
  depth-outline : (d : Data) → tree.depth (outline d) ≡ depth d
  depth-outline null = refl
  depth-outline (boolean b) = refl
  depth-outline (number n) = refl
  depth-outline (string s) = refl
  depth-outline (array ds) = ap suc (depth-items_outline ds)
  depth-outline (object ms) = ap suc (depth-members_outline ms)

  depth-items_outline : (ds : Items) → tree.items_depth (items_outline ds) ≡ items_depth ds
  depth-items_outline no_items = refl
  depth-items_outline (item d ds) = rw (depth-outline d, depth-items_outline ds)

  depth-members_outline : (ms : Members) → tree.members_depth (members_outline ms) ≡ members_depth ms
  depth-members_outline no_members = refl
  depth-members_outline (member k d ms) = rw (depth-outline d, depth-members_outline ms)

text_read : (d : Data) → IsRead d → depth d ≤ max_depth → read (compact_text d) ≡ Some d
text_read d h shallow =
    let lexed : tokens (compact_text d) ≡ json_tokens (outline d) = ap tokens (sym (print-outline d)) ∙ tokens-print (json_tokens (outline d)) (ArePrintable-json_tokens (outline d) h.numbers) in
    ap (λ o. option_and_then of_json (option_and_then (λ p. json.if_last p.0 p.1) o))
    (ap (json.value max_depth) (lexed ∙ sym (append-nil _)) ∙ value-json_tokens (outline d) max_depth [] (omega (arith, shallow, depth-outline d)))
    ∙ h.reads

pub file_again : (now : ℕ) (f : FileAction) → HasSmallNumbers now f → IsUtf8 (compact_text (file_data now f)) → IsReadAgain (file_data now f)
file_again now f h utf8 = json_read (compact_text (file_data now f)) (file_data now f) utf8 (text_read (file_data now f) (file_read now f h) (file_shallow now f))

pub stats_again : (count : ℕ) → count < 2 ^ 64 → IsUtf8 (compact_text (stats_data count)) → IsReadAgain (stats_data count)
stats_again count h utf8 = json_read (compact_text (stats_data count)) (stats_data count) utf8 (text_read (stats_data count) (stats_read count h) (omega arith))

-- ---- the text

pub stats_written : (count : ℕ) → ((123 ∷ 34 ∷ (codes "numRecords" ++ 34 ∷ 58 ∷ [])) ++ decimal count) ++ 125 ∷ [] ≡ compact_text (stats_data count)
unfolding escape_byte
stats_written count = refl

pub printed_text : (ts : List Token) (d : Data) → ts ≡ json_tokens (outline d) → print ts ≡ compact_text d
printed_text ts d is = ap print is ∙ print-outline d

-- ---- one after another

pub regrouped : (values path size stats one other : List Token) → ((((values ++ path) ++ size) ++ stats) ++ one) ++ other ≡ (values ++ (path ++ (size ++ (stats ++ one)))) ++ other
regrouped values path size stats one other = simp append_assoc
