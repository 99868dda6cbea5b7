-- What is found in the JSON that is written of a schema.
use Rattle.std.proofs.Common.{◌≡◌, ℕ, ◌^◌, ℤ, pos, negsuc, Bool, true, false, ◌||◌, cond, List, [], length, Option, None, Some, Ok, option_map, refl, ap, sym, ◌∙◌, inl, inr, arith, codes, IfSome}
use Rattle.std.specs.Prelude.{◌==◌, option_and_then, nat_lt, nat_le}
use Rattle.std.specs.Str.{bytes_eq}
use Rattle.std.proofs.lemmas.Bool.{lt-ltb, le-leb}
use Rattle.serde_json.specs.Data.{Data, string, object, Members, no_members, put}
use Rattle.serde_json.specs.Find.{get, get_member, as_str}
use Rattle.serde_json.proofs.Views.{get_member-put, get_member-put_other}
use Rattle.json_reading.specs.Json.{text_member, int, whole}
use Rattle.avro_schema.specs.Tree.{schema_tree, ShapeTree}
use Rattle.avro_schema.specs.Names.{has_dot, full_name, primitive_of}
use Rattle.avro_schema.specs.Reading.{size_member, id_in, id_member, space_in}
use Rattle.avro_schema.specs.Grammar.{Annotates, IsNoComplexWord, IsPrimitive}
use Rattle.avro_schema.specs.Writing.{put_some, size_json, id_json, with_annotations, type_members, primitive_json, no_namespace, named_members}
use Rattle.avro_schema.specs.Spelled.{IsSize, IsId}
use Rattle.lake_basics.proofs.Texts.{bytes_apart}

-- ---- one member

pub at_put : (k : List ℕ) (d : Data) (ms : Members) → get_member k (put k d ms) ≡ Some d
at_put k d ms = get_member-put k d ms

pub past_put : (q k : List ℕ) (d : Data) (ms : Members) → bytes_eq q k ≡ false → get_member q (put k d ms) ≡ get_member q ms
past_put q k d ms differ = get_member-put_other q k d ms (bytes_apart q k differ)

pub at_some : (k : List ℕ) (o : Option Data) (ms : Members) → get_member k ms ≡ None → get_member k (put_some k o ms) ≡ o
at_some k None ms none = none
at_some k (Some d) ms none = at_put k d ms

pub past_some : (q k : List ℕ) (o : Option Data) (ms : Members) → bytes_eq q k ≡ false → get_member q (put_some k o ms) ≡ get_member q ms
past_some q k None ms differ = refl
past_some q k (Some d) ms differ = past_put q k d ms differ

-- ---- the logical type, precision and scale

pub past_notes : (q : List ℕ) (l : Option (List ℕ)) (p s : Option ℕ) (ms : Members) → bytes_eq q (codes "logicalType") ≡ false → bytes_eq q (codes "precision") ≡ false → bytes_eq q (codes "scale") ≡ false → get_member q (with_annotations l p s ms) ≡ get_member q ms
past_notes q l p s ms no_logical no_precision no_scale =
    let one = put_some (codes "logicalType") (option_map string l) ms in
    let two = put_some (codes "precision") (option_map size_json p) one in
    past_some q (codes "scale") (option_map size_json s) two no_scale ∙ past_some q (codes "precision") (option_map size_json p) one no_precision ∙ past_some q (codes "logicalType") (option_map string l) ms no_logical

texts_again : (l : Option (List ℕ)) → option_and_then as_str (option_map string l) ≡ l
texts_again None = refl
texts_again (Some t) = refl

pub text_of_member : (k t : List ℕ) (ms : Members) → get_member k ms ≡ Some (string t) → text_member k (object ms) ≡ Some t
text_of_member k t ms e = ap (option_and_then as_str) e

whole_size : (n : ℕ) → IsSize n → whole (size_json n) ≡ Some (pos n)
whole_size n small = let low : nat_lt n (2 ^ 63) ≡ true = lt-ltb n (2 ^ 63) (omega (arith, small)) in rw low refl

sizes_again : (k : List ℕ) (o : Option ℕ) (d : Data) → get k d ≡ option_map size_json o → IfSome o IsSize → size_member k d ≡ o
sizes_again k None d e small = rw e refl
sizes_again k (Some n) d e small = let low : nat_le n 2147483647 ≡ true = le-leb n 2147483647 small in rw (e, whole_size n small, low) refl

pub size_again : (k : List ℕ) (n : ℕ) (d : Data) → get k d ≡ Some (size_json n) → IsSize n → size_member k d ≡ Some n
size_again k n d e small = sizes_again k (Some n) d e small

-- The members tell of the annotations, where these stand beside others.
pub notes : (l : Option (List ℕ)) (p s : Option ℕ) (ms : Members) → get_member (codes "logicalType") ms ≡ None → get_member (codes "precision") ms ≡ None → get_member (codes "scale") ms ≡ None → IfSome p IsSize → IfSome s IsSize → Annotates (object (with_annotations l p s ms)) l p s
notes l p s ms no_logical no_precision no_scale small_p small_s =
    let one = put_some (codes "logicalType") (option_map string l) ms in
    let two = put_some (codes "precision") (option_map size_json p) one in
    let logical : get_member (codes "logicalType") (with_annotations l p s ms) ≡ option_map string l = past_some (codes "logicalType") (codes "scale") (option_map size_json s) two refl ∙ past_some (codes "logicalType") (codes "precision") (option_map size_json p) one refl ∙ at_some (codes "logicalType") (option_map string l) ms no_logical in
    let precision : get_member (codes "precision") (with_annotations l p s ms) ≡ option_map size_json p = past_some (codes "precision") (codes "scale") (option_map size_json s) two refl ∙ at_some (codes "precision") (option_map size_json p) one (past_some (codes "precision") (codes "logicalType") (option_map string l) ms refl ∙ no_precision) in
    let scale : get_member (codes "scale") (with_annotations l p s ms) ≡ option_map size_json s = at_some (codes "scale") (option_map size_json s) two (past_some (codes "scale") (codes "precision") (option_map size_json p) one refl ∙ past_some (codes "scale") (codes "logicalType") (option_map string l) ms refl ∙ no_scale) in
    (ap (option_and_then as_str) logical ∙ texts_again l, sizes_again (codes "precision") p (object (with_annotations l p s ms)) precision small_p, sizes_again (codes "scale") s (object (with_annotations l p s ms)) scale small_s)

-- ---- ids

int_again : (z : ℤ) → IsId z → int (id_json z) ≡ Some z
int_again (pos n) small = let low : nat_le n 2147483647 ≡ true = le-leb n 2147483647 small in rw (whole_size n small, low) refl
int_again (negsuc n) small = let low : nat_le n 2147483647 ≡ true = le-leb n 2147483647 small in rw low refl

pub id_again : (k : List ℕ) (o : Option ℤ) (d : Data) → get k d ≡ option_map id_json o → IfSome o IsId → id_member k d ≡ Ok o
id_again k None d e small = ap id_in e
id_again k (Some z) d e small = ap id_in e ∙ rw (int_again z small) refl

-- ---- primitive types

primitive_object : (word : List ℕ) (shape : ShapeTree) (l : Option (List ℕ)) (p s : Option ℕ) → primitive_of word ≡ Some shape → IsNoComplexWord word → IfSome p IsSize → IfSome s IsSize → IsPrimitive (object (with_annotations l p s (type_members word))) (schema_tree shape l p s)
primitive_object word shape l p s is plain small_p small_s =
    let says : get_member (codes "type") (with_annotations l p s (type_members word)) ≡ Some (string word) = past_notes (codes "type") l p s (type_members word) refl refl refl ∙ at_put (codes "type") (string word) no_members in
    (word, is, inr (text_of_member (codes "type") word (with_annotations l p s (type_members word)) says, plain, notes l p s (type_members word) refl refl refl small_p small_s))

pub primitive_again : (word : List ℕ) (shape : ShapeTree) (l : Option (List ℕ)) (p s : Option ℕ) → primitive_of word ≡ Some shape → IsNoComplexWord word → IfSome p IsSize → IfSome s IsSize → IsPrimitive (primitive_json word l p s) (schema_tree shape l p s)
primitive_again word shape None None None is plain small_p small_s = (word, is, inl (refl, refl, refl, refl))
primitive_again word shape None None (Some s) is plain small_p small_s = primitive_object word shape None None (Some s) is plain small_p small_s
primitive_again word shape None (Some p) None is plain small_p small_s = primitive_object word shape None (Some p) None is plain small_p small_s
primitive_again word shape None (Some p) (Some s) is plain small_p small_s = primitive_object word shape None (Some p) (Some s) is plain small_p small_s
primitive_again word shape (Some l) None None is plain small_p small_s = primitive_object word shape (Some l) None None is plain small_p small_s
primitive_again word shape (Some l) None (Some s) is plain small_p small_s = primitive_object word shape (Some l) None (Some s) is plain small_p small_s
primitive_again word shape (Some l) (Some p) None is plain small_p small_s = primitive_object word shape (Some l) (Some p) None is plain small_p small_s
primitive_again word shape (Some l) (Some p) (Some s) is plain small_p small_s = primitive_object word shape (Some l) (Some p) (Some s) is plain small_p small_s

-- ---- what a named type begins with

pub named_other : (q word space name : List ℕ) → bytes_eq q (codes "name") ≡ false → bytes_eq q (codes "namespace") ≡ false → bytes_eq q (codes "type") ≡ false → get_member q (named_members word space name) ≡ None
named_other q word space name no_name no_space no_type =
    past_put q (codes "name") (string name) (put_some (codes "namespace") (no_namespace space name) (type_members word)) no_name ∙ past_some q (codes "namespace") (no_namespace space name) (type_members word) no_space ∙ past_put q (codes "type") (string word) no_members no_type

pub named_type : (word space name : List ℕ) → get_member (codes "type") (named_members word space name) ≡ Some (string word)
named_type word space name =
    past_put (codes "type") (codes "name") (string name) (put_some (codes "namespace") (no_namespace space name) (type_members word)) refl ∙ past_some (codes "type") (codes "namespace") (no_namespace space name) (type_members word) refl ∙ at_put (codes "type") (string word) no_members

pub named_name : (word space name : List ℕ) → get_member (codes "name") (named_members word space name) ≡ Some (string name)
named_name word space name = at_put (codes "name") (string name) (put_some (codes "namespace") (no_namespace space name) (type_members word))

pub named_space : (word space name : List ℕ) → get_member (codes "namespace") (named_members word space name) ≡ no_namespace space name
named_space word space name =
    past_put (codes "namespace") (codes "name") (string name) (put_some (codes "namespace") (no_namespace space name) (type_members word)) refl ∙ at_some (codes "namespace") (no_namespace space name) (type_members word) refl

full_by : (space name : List ℕ) (b c : Bool) → has_dot name ≡ b → (length space == 0) ≡ c → name ≡ full_name (space_in (option_and_then as_str (cond (b || c) None (Some (string [])))) space) name
full_by space name true c dotted empty = rw dotted refl
full_by space name false true dotted empty = rw (dotted, empty) refl
full_by space name false false dotted empty = rw dotted refl

-- The full name is the one that the name and the namespace spell.
pub full_again : (space name : List ℕ) (d : Data) → get (codes "namespace") d ≡ no_namespace space name → name ≡ full_name (space_in (text_member (codes "namespace") d) space) name
full_again space name d e =
    full_by space name (has_dot name) (length space == 0) refl refl ∙ ap (λ (o : Option Data). full_name (space_in (option_and_then as_str o) space) name) (sym e)
