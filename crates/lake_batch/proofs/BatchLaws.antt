-- What is read of a TOML document is just what it holds.
use Rattle.std.proofs.Common.{◌≡◌, ◌≢◌, ℕ, Bool, true, false, ◌&&◌, List, [], ◌∷◌, map, refl, sym, ◌∙◌, ap, if◌then◌else◌}
use Rattle.std.specs.Prelude.{codes, Some, Result, Ok, Err}
use Rattle.std.specs.Str.{bytes_eq}
use Rattle.std.proofs.lemmas.Slice.Eq.{bytes_eq-Decides}
use Rattle.std.proofs.lemmas.Bool.{and_parts}
use Rattle.toml.specs.Data.{Data, string, integer, float, boolean, datetime, array, table, Items, no_items, item, Members, no_members, member}
use Rattle.toml.specs.View.{items_of}
use Rattle.lake_basics.specs.Outcome.{◌>>=◌, each}
use Rattle.lake_batch.specs.Batch.{batch_document, table_data, texts_data}
use Rattle.lake_batch.specs.Reading.{item_in, item_of_members, items_in, list_of, tables_in, tables_of_member, text_in, texts_in}
use Rattle.lake_batch.specs.declared.batch.Item.{Item}
use Rattle.lake_batch.specs.declared.batch.Why.{Why}
use Rattle.lake_batch.specs.declared.batch.Why.TheVariants.{Shape}

bind_ok : {A B : Type 0} (r : Result A Why) (f : A → Result B Why) (y : B) → (r >>= f) ≡ Ok y → (x : A) × (r ≡ Ok x) × (f x ≡ Ok y)
bind_ok (Ok x) f y is = (x, refl, is)
bind_ok (Err e) f y is = absurd (cc is)

same_ok : {A : Type 0} (x y : A) → ◌≡◌ {A = Result A Why} (Ok x) (Ok y) → x ≡ y
same_ok x y is = cc is

text_given : (d : Data) (text : List ℕ) → text_in d ≡ Ok text → d ≡ string text
text_given (string s) text is = ap string (same_ok s text is)
text_given (integer z) text is = absurd (cc is)
text_given (float x) text is = absurd (cc is)
text_given (boolean b) text is = absurd (cc is)
text_given (datetime t) text is = absurd (cc is)
text_given (array ds) text is = absurd (cc is)
text_given (table ms) text is = absurd (cc is)

-- what is read of each item is what the items hold
module _ {X : Type 0} (read : Data → Result X Why) (shown : X → Data) (given : (d : Data) (x : X) → read d ≡ Ok x → d ≡ shown x) (again : (x : X) → read (shown x) ≡ Ok x) where
  each_given : (ds : Items) (xs : List X) → each read (list_of ds) ≡ Ok xs → ds ≡ items_of (map shown xs)
  each_given no_items xs is = ap (λ (l : List X). items_of (map shown l)) (same_ok [] xs is)
  each_given (item d ds) xs is =
      let first = bind_ok (read d) (λ x. each read (list_of ds) >>= (λ others. Ok (x ∷ others))) xs is in
      let rest = bind_ok (each read (list_of ds)) (λ others. Ok (first.0 ∷ others)) xs first.2 in
      (λ i. item (given d first.0 first.1 i) (each_given ds rest.0 rest.1 i)) ∙ ap (λ (l : List X). items_of (map shown l)) (same_ok (first.0 ∷ rest.0) xs rest.2)

  each_again : (xs : List X) → each read (list_of (items_of (map shown xs))) ≡ Ok xs
  each_again [] = refl
  each_again (x ∷ xs) = ap (λ (r : Result X Why). r >>= (λ first. each read (list_of (items_of (map shown xs))) >>= (λ others. Ok (first ∷ others)))) (again x)
      ∙ ap (λ (r : Result (List X) Why). r >>= (λ others. Ok (x ∷ others))) (each_again xs)

texts_given : (d : Data) (texts : List (List ℕ)) → texts_in d ≡ Ok texts → d ≡ texts_data texts
texts_given (array ds) texts is = ap array (each_given text_in string text_given (λ t. refl) ds texts is)
texts_given (string s) texts is = absurd (cc is)
texts_given (integer z) texts is = absurd (cc is)
texts_given (float x) texts is = absurd (cc is)
texts_given (boolean b) texts is = absurd (cc is)
texts_given (datetime t) texts is = absurd (cc is)
texts_given (table ms) texts is = absurd (cc is)

texts_again : (texts : List (List ℕ)) → texts_in (texts_data texts) ≡ Ok texts
texts_again texts = each_again text_in string text_given (λ t. refl) texts

if_ok : {A : Type 0} (b : Bool) (r : Result A Why) (x : A) → (if b then r else Err Shape) ≡ Ok x → (b ≡ true) × (r ≡ Ok x)
if_ok true r x is = (refl, is)
if_ok false r x is = absurd (cc is)

members_given : (k : List ℕ) (d : Data) (l : List ℕ) (e : Data) (it : Item) → item_of_members (Some ((k, d), (l, e))) ≡ Ok it → table (member k d (member l e no_members)) ≡ table_data it
unfolding item_of_members
members_given k d l e it is =
    let keys = if_ok (bytes_eq k (codes "command") && bytes_eq l (codes "folder")) (texts_in d >>= (λ texts. text_in e >>= (λ text. Ok (record { folder = text; command = texts })))) it is in
    let named = and_parts (bytes_eq k (codes "command")) (bytes_eq l (codes "folder")) keys.0 in
    let texts = bind_ok (texts_in d) (λ texts. text_in e >>= (λ text. Ok (record { folder = text; command = texts }))) it keys.1 in
    let text = bind_ok (text_in e) (λ text. Ok (record { folder = text; command = texts.0 })) it texts.2 in
    (λ i. table (member ((bytes_eq-Decides k (codes "command")).0 named.0 i) (texts_given d texts.0 texts.1 i) (member ((bytes_eq-Decides l (codes "folder")).0 named.1 i) (text_given e text.0 text.1 i) no_members)))
    ∙ ap table_data (same_ok (record { folder = text.0; command = texts.0 }) it text.2)

item_given : (d : Data) (it : Item) → item_in d ≡ Ok it → d ≡ table_data it
unfolding item_in item_of_members
item_given (table (member k d (member l e no_members))) it is = members_given k d l e it is
item_given (table (member k d (member l e (member m f ms)))) it is = absurd (cc is)
item_given (table (member k d no_members)) it is = absurd (cc is)
item_given (table no_members) it is = absurd (cc is)
item_given (array ds) it is = absurd (cc is)
item_given (string s) it is = absurd (cc is)
item_given (integer z) it is = absurd (cc is)
item_given (float x) it is = absurd (cc is)
item_given (boolean b) it is = absurd (cc is)
item_given (datetime t) it is = absurd (cc is)

item_again : (it : Item) → item_in (table_data it) ≡ Ok it
unfolding item_in item_of_members
item_again it = ap (λ (r : Result (List (List ℕ)) Why). r >>= (λ texts. Ok (record { folder = it.folder; command = texts }))) (texts_again it.command)

items_given : (d : Data) (tables : List Item) → items_in d ≡ Ok tables → d ≡ array (items_of (map table_data tables))
items_given (array ds) tables is = ap array (each_given item_in table_data item_given item_again ds tables is)
items_given (string s) tables is = absurd (cc is)
items_given (integer z) tables is = absurd (cc is)
items_given (float x) tables is = absurd (cc is)
items_given (boolean b) tables is = absurd (cc is)
items_given (datetime t) tables is = absurd (cc is)
items_given (table ms) tables is = absurd (cc is)

member_given : (k : List ℕ) (d : Data) (tables : List Item) → tables_of_member (Some (k, d)) ≡ Ok tables → member k d no_members ≡ batch_document tables
unfolding tables_of_member
member_given k d tables is =
    let named = if_ok (bytes_eq k (codes "table")) (items_in d) tables is in
    λ i. member ((bytes_eq-Decides k (codes "table")).0 named.0 i) (items_given d tables named.1 i) no_members

-- a document from which tables are read is theirs
pub tables_given : (ms : Members) (tables : List Item) → tables_in ms ≡ Ok tables → ms ≡ batch_document tables
unfolding tables_of_member
tables_given (member k d no_members) tables is = member_given k d tables is
tables_given (member k d (member l e ms)) tables is = absurd (cc is)
tables_given no_members tables is = absurd (cc is)

-- and from theirs they are read
pub tables_again : (tables : List Item) → tables_in (batch_document tables) ≡ Ok tables
unfolding tables_of_member
tables_again tables = each_again item_in table_data item_given item_again tables

-- a document from which none are read is that of none
pub no_tables : (ms : Members) (why : Why) → tables_in ms ≡ Err why → (tables : List Item) → ms ≢ batch_document tables
no_tables ms why none tables same =
    let both : ◌≡◌ {A = Result (List Item) Why} (Ok tables) (Err why) = sym (tables_again tables) ∙ ap tables_in (sym same) ∙ none in absurd (cc both)
