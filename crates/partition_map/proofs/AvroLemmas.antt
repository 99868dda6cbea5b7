-- Partition values of Avro values.
use Rattle.std.proofs.Common.{◌≡◌, ℕ, ℤ, Bool, List, refl, sym, ap, ◌∙◌, subst, rules}
use Rattle.avro_value.specs.declared.value.Value.{Value, Null, Boolean, Int, Long, Text, the_lemmas}
use Rattle.avro_value.specs.ValueTree.{ValueTree, value_tree}
use Rattle.table_history.specs.declared.row.PartValue.{PartValue}
use Rattle.table_history.specs.declared.row.PartValue.TheVariants as value
use Rattle.partition_map.specs.declared.kind.PartKind.TheVariants as kind
use Rattle.partition_map.specs.Avro.{BranchStands}

null_tree : value_tree Null ≡ ValueTree.null
null_tree = search (rules, the_lemmas)

boolean_tree : (b : Bool) → value_tree (Boolean b) ≡ ValueTree.boolean b
boolean_tree b = search (rules, the_lemmas)

int_tree : (n : ℤ) → value_tree (Int n) ≡ ValueTree.int n
int_tree n = search (rules, the_lemmas)

long_tree : (n : ℤ) → value_tree (Long n) ≡ ValueTree.long n
long_tree n = search (rules, the_lemmas)

text_tree : (t : List ℕ) → value_tree (Text t) ≡ ValueTree.text t
text_tree t = search (rules, the_lemmas)

-- a value of a kind stands where its tree does
stands_at : (k l : kind.the_data) (w : Value) (t : ValueTree) (v : PartValue) → k ≡ l → value_tree w ≡ t → BranchStands l t v → BranchStands k (value_tree w) v
stands_at k l w t v same tree h = subst (λ k'. BranchStands k' (value_tree w) v) (sym same) (subst (λ t'. BranchStands l t' v) (sym tree) h)

pub null_branch : (k : kind.the_data) → BranchStands k ValueTree.null value.Null
null_branch kind.Boolean = refl
null_branch kind.Int = refl
null_branch kind.Long = refl
null_branch kind.Text = refl
null_branch kind.Date = refl

pub null_stands : (k : kind.the_data) (w : Value) → w ≡ Null → BranchStands k (value_tree w) value.Null
null_stands k w is = stands_at k k w ValueTree.null value.Null refl (ap value_tree is ∙ null_tree) (null_branch k)

pub boolean_stands : (k : kind.the_data) (w : Value) (b : Bool) → k ≡ kind.Boolean → w ≡ Boolean b → BranchStands k (value_tree w) (value.Boolean b)
boolean_stands k w b same is = stands_at k kind.Boolean w (ValueTree.boolean b) (value.Boolean b) same (ap value_tree is ∙ boolean_tree b) refl

pub int_stands : (k : kind.the_data) (w : Value) (n : ℤ) → k ≡ kind.Int → w ≡ Int n → BranchStands k (value_tree w) (value.Int n)
int_stands k w n same is = stands_at k kind.Int w (ValueTree.int n) (value.Int n) same (ap value_tree is ∙ int_tree n) refl

pub long_stands : (k : kind.the_data) (w : Value) (n : ℤ) → k ≡ kind.Long → w ≡ Long n → BranchStands k (value_tree w) (value.Long n)
long_stands k w n same is = stands_at k kind.Long w (ValueTree.long n) (value.Long n) same (ap value_tree is ∙ long_tree n) refl

pub text_stands : (k : kind.the_data) (w : Value) (t : List ℕ) → k ≡ kind.Text → w ≡ Text t → BranchStands k (value_tree w) (value.Text t)
text_stands k w t same is = stands_at k kind.Text w (ValueTree.text t) (value.Text t) same (ap value_tree is ∙ text_tree t) refl

pub date_stands : (k : kind.the_data) (w : Value) (n : ℤ) → k ≡ kind.Date → w ≡ Int n → BranchStands k (value_tree w) (value.Date n)
date_stands k w n same is = stands_at k kind.Date w (ValueTree.int n) (value.Date n) same (ap value_tree is ∙ int_tree n) refl
