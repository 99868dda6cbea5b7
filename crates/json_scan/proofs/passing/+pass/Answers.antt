use Rattle.std.proofs.Common.{◌≡◌, ◌-◌, ◌<◌, [], ◌∷◌, length, Some, None, refl, ap, ap₂, ◌∙◌, arith}
use Rattle.json.specs.Token.{Token}
use Rattle.json.specs.Json.{parse_map, after_end_array, read_key, items, members, value}
use Rattle.json.specs.Reads.{token_of}
use Rattle.json.proofs.Grammar.{value_is, value-begin_array, value-begin_object, read_key-shorter}
use Rattle.serde_json.specs.Data.{array, object, no_members, put}
use Rattle.serde_json.specs.Read.{number_of, of_json, converted}
use Rattle.json_reading.specs.Json.{whole}
use Rattle.json_reading.proofs.Turns.{converted-array, converted-object, item_refused, items_over, member_read, member_refused, key_refused, members_over}
use Rattle.json_scan.specs.Passing.{passed, passed_items, passed_members, kept, behind}
use Rattle.json_scan.proofs.Named.{kept_some, number_kept, number_refused, array_kept, object_kept}
use Rattle.json_scan.proofs.Turns.{behind_none, item_read}
use Rattle.json_scan.proofs.passing.+pass.Goals as goal

pub pass_items-items-init : goal.pass_items-items-init
pass_items-items-init t c = (length c.args.reader.now, omega arith, refl, omega arith)

pub pass_items-items-preserved : goal.pass_items-items-preserved
pass_items-items-preserved t c =
    let p = value c.args.depth in
    let l = c.items in
    let n = l.invariant.0 in
    let going : (after_end_array l.reader ≡ None) × (c.take_end_array.new.self ≡ l.reader) = grind arith in
    let r = c.pass_value.new.reader in
    let less : length r < length l.reader = rw (← going.1) c.in_ok-pass_value.ensures.shorter in
    let d = kept_some whole (passed c.args.depth c.take_end_array.new.self) _ r c.in_ok-pass_value.ensures.value in
    (n - 1, omega (arith, l.invariant.1), l.invariant.2 ∙ item_read p n l.reader r d.0 (omega (arith, l.invariant.1)) going.0 (rw (← going.1) d.1), omega (arith, l.invariant.3))

pub pass_items-returns-in_err-pass_value-clause-value : goal.pass_items-returns-in_err-pass_value-clause-value
pass_items-returns-in_err-pass_value-clause-value t c =
    let p = value c.args.depth in
    let l = c.items in
    let n = l.invariant.0 in
    let going : (after_end_array l.reader ≡ None) × (c.take_end_array.new.self ≡ l.reader) = grind arith in
    let none : passed_items c.args.depth c.args.reader.now ≡ None =
    behind_none _ (l.invariant.2 ∙ ap behind (item_refused p n l.reader going.0 (rw (← going.1) c.in_err-pass_value.ensures.value))) in
    grind (arith, none)

pub pass_items-returns-clause-value : goal.pass_items-returns-clause-value
pass_items-returns-clause-value t c =
    let p = value c.args.depth in
    let l = c.items in
    let n = l.invariant.0 in
    l.invariant.2 ∙ ap behind (items_over p n l.reader c.take_end_array.new.self l.invariant.1 (grind arith))

pub pass_members-members-init : goal.pass_members-members-init
pass_members-members-init t c = (no_members, length c.args.reader.now, omega arith, refl, omega arith)

pub pass_members-members-preserved : goal.pass_members-members-preserved
pass_members-members-preserved t c =
    let p = value c.args.depth in
    let l = c.members in
    let old = l.invariant.0 in
    let n = l.invariant.1 in
    let k = c.in-Some.field-0.now in
    let s = c.next_key.new.self in
    let r = c.pass_value.new.reader in
    let named : read_key l.reader ≡ Some (Some k, s) = grind arith in
    let less = read_key-shorter l.reader (Some k) s named in
    let lesser = c.in_ok-pass_value.ensures.shorter in
    let d = kept_some whole (passed c.args.depth s) _ r c.in_ok-pass_value.ensures.value in
    (put k d.0 old, n - 1, omega (arith, l.invariant.2), l.invariant.3 ∙ member_read p old n k l.reader s r d.0 (omega (arith, l.invariant.2)) named d.1, omega (arith, l.invariant.4))

pub pass_members-returns-in_err-next_key-clause-value : goal.pass_members-returns-in_err-next_key-clause-value
pass_members-returns-in_err-next_key-clause-value t c =
    let p = value c.args.depth in
    let l = c.members in
    let none : passed_members c.args.depth c.args.reader.now ≡ None = l.invariant.3 ∙ key_refused p l.invariant.0 l.invariant.1 l.reader c.in_err-next_key.ensures.value in
    grind (arith, none)

pub pass_members-returns-in_err-pass_value-clause-value : goal.pass_members-returns-in_err-pass_value-clause-value
pass_members-returns-in_err-pass_value-clause-value t c =
    let p = value c.args.depth in
    let l = c.members in
    let k = c.in-Some.field-0.now in
    let s = c.next_key.new.self in
    let named : read_key l.reader ≡ Some (Some k, s) = grind arith in
    let none : passed_members c.args.depth c.args.reader.now ≡ None =
    l.invariant.3 ∙ member_refused p l.invariant.0 l.invariant.1 k l.reader s named c.in_err-pass_value.ensures.value in
    grind (arith, none)

pub pass_members-returns-clause-value : goal.pass_members-returns-clause-value
pass_members-returns-clause-value t c =
    let p = value c.args.depth in
    let l = c.members in
    ap behind (l.invariant.3 ∙ members_over p l.invariant.0 l.invariant.1 l.reader c.next_key.new.self l.invariant.2 (grind arith))

pub pass_value-returns-in_err-token-clause-value : goal.pass_value-returns-in_err-token-clause-value
pass_value-returns-in_err-token-clause-value t c =
    let empty : c.args.reader.now ≡ [] = grind arith in
    let none : passed c.args.depth c.args.reader.now ≡ None = ap (converted of_json) (ap (value c.args.depth) empty ∙ value_is c.args.depth []) in
    grind (arith, none)

pub pass_value-returns-in-Some-clause-value : goal.pass_value-returns-in-Some-clause-value
pass_value-returns-in-Some-clause-value t c =
    let first : c.args.reader.now ≡ token_of c.in_ok-token.token ∷ c.next.new.self = grind arith in
    let is : c.args.reader.now ≡ Token.number c.in-Number.text.now ∷ c.next.new.self = grind (arith, first) in
    ap (λ ts. kept whole (passed c.args.depth ts)) is ∙ ap (λ o. kept whole (converted of_json o)) (value_is c.args.depth _) ∙ number_kept (number_of c.in-Number.text.now) _ c.next.new.self c.in-Some.ensures

pub pass_value-returns-in-None-clause-value : goal.pass_value-returns-in-None-clause-value
pass_value-returns-in-None-clause-value t c =
    let first : c.args.reader.now ≡ token_of c.in_ok-token.token ∷ c.next.new.self = grind arith in
    let is : c.args.reader.now ≡ Token.number c.in-Number.text.now ∷ c.next.new.self = grind (arith, first) in
    ap (passed c.args.depth) is ∙ ap (converted of_json) (value_is c.args.depth _) ∙ number_refused (number_of c.in-Number.text.now) c.next.new.self c.in-None.ensures

pub pass_value-returns-in-String-clause-value : goal.pass_value-returns-in-String-clause-value
pass_value-returns-in-String-clause-value t c =
    let first : c.args.reader.now ≡ token_of c.in_ok-token.token ∷ c.next.new.self = grind arith in
    rw (value_is c.args.depth c.args.reader.now, first) (grind arith)

pub pass_value-returns-in-EndObject-clause-value : goal.pass_value-returns-in-EndObject-clause-value
pass_value-returns-in-EndObject-clause-value t c =
    let first : c.args.reader.now ≡ token_of c.in_ok-token.token ∷ c.next.new.self = grind arith in
    rw (value_is c.args.depth c.args.reader.now, first) (grind arith)

pub pass_value-returns-then-depth-eq0-clause-value : goal.pass_value-returns-then-depth-eq0-clause-value
unfolding value
pass_value-returns-then-depth-eq0-clause-value t c =
    let first : c.args.reader.now ≡ token_of c.in_ok-token.token ∷ c.next.new.self = grind arith in
    let none : c.args.depth ≡ 0 = omega arith in
    ap₂ passed none (first ∙ ap (λ k. token_of k ∷ c.next.new.self) c.in-BeginArray.is)

pub pass_value-returns-then-depth-eq0-2-clause-value : goal.pass_value-returns-then-depth-eq0-2-clause-value
unfolding value
pass_value-returns-then-depth-eq0-2-clause-value t c =
    let first : c.args.reader.now ≡ token_of c.in_ok-token.token ∷ c.next.new.self = grind arith in
    let none : c.args.depth ≡ 0 = omega arith in
    ap₂ passed none (first ∙ ap (λ k. token_of k ∷ c.next.new.self) c.in-BeginObject.is)

pub pass_value-returns-in_err-pass_items-in-BeginArray-clause-value : goal.pass_value-returns-in_err-pass_items-in-BeginArray-clause-value
pass_value-returns-in_err-pass_items-in-BeginArray-clause-value t c =
    let first : c.args.reader.now ≡ token_of c.in_ok-token.token ∷ c.next.new.self = grind arith in
    let opened : passed c.args.depth c.args.reader.now ≡ parse_map array (passed_items (c.args.depth - 1) c.next.new.self) =
    ap (converted of_json) (ap (value c.args.depth) (first ∙ ap (λ k. token_of k ∷ c.next.new.self) c.in-BeginArray.is) ∙ value-begin_array c.args.depth c.next.new.self (omega arith)) ∙ converted-array (items (value (c.args.depth - 1)) (length c.next.new.self) c.next.new.self) in
    let none : passed c.args.depth c.args.reader.now ≡ None = opened ∙ ap (parse_map array) c.in_err-pass_items-in-BeginArray.ensures.value in
    grind (arith, none)

pub pass_value-returns-in_ok-pass_items-in-BeginArray-clause-value : goal.pass_value-returns-in_ok-pass_items-in-BeginArray-clause-value
pass_value-returns-in_ok-pass_items-in-BeginArray-clause-value t c =
    let first : c.args.reader.now ≡ token_of c.in_ok-token.token ∷ c.next.new.self = grind arith in
    let opened : passed c.args.depth c.args.reader.now ≡ parse_map array (passed_items (c.args.depth - 1) c.next.new.self) =
    ap (converted of_json) (ap (value c.args.depth) (first ∙ ap (λ k. token_of k ∷ c.next.new.self) c.in-BeginArray.is) ∙ value-begin_array c.args.depth c.next.new.self (omega arith)) ∙ converted-array (items (value (c.args.depth - 1)) (length c.next.new.self) c.next.new.self) in
    ap (kept whole) opened ∙ array_kept (passed_items (c.args.depth - 1) c.next.new.self) _ c.in_ok-pass_items-in-BeginArray.ensures.value

pub pass_value-returns-in_err-pass_members-in-BeginObject-clause-value : goal.pass_value-returns-in_err-pass_members-in-BeginObject-clause-value
pass_value-returns-in_err-pass_members-in-BeginObject-clause-value t c =
    let first : c.args.reader.now ≡ token_of c.in_ok-token.token ∷ c.next.new.self = grind arith in
    let opened : passed c.args.depth c.args.reader.now ≡ parse_map object (passed_members (c.args.depth - 1) c.next.new.self) =
    ap (converted of_json) (ap (value c.args.depth) (first ∙ ap (λ k. token_of k ∷ c.next.new.self) c.in-BeginObject.is) ∙ value-begin_object c.args.depth c.next.new.self (omega arith)) ∙ converted-object (members (value (c.args.depth - 1)) (length c.next.new.self) c.next.new.self) in
    let none : passed c.args.depth c.args.reader.now ≡ None = opened ∙ ap (parse_map object) c.in_err-pass_members-in-BeginObject.ensures.value in
    grind (arith, none)

pub pass_value-returns-in_ok-pass_members-in-BeginObject-clause-value : goal.pass_value-returns-in_ok-pass_members-in-BeginObject-clause-value
pass_value-returns-in_ok-pass_members-in-BeginObject-clause-value t c =
    let first : c.args.reader.now ≡ token_of c.in_ok-token.token ∷ c.next.new.self = grind arith in
    let opened : passed c.args.depth c.args.reader.now ≡ parse_map object (passed_members (c.args.depth - 1) c.next.new.self) =
    ap (converted of_json) (ap (value c.args.depth) (first ∙ ap (λ k. token_of k ∷ c.next.new.self) c.in-BeginObject.is) ∙ value-begin_object c.args.depth c.next.new.self (omega arith)) ∙ converted-object (members (value (c.args.depth - 1)) (length c.next.new.self) c.next.new.self) in
    ap (kept whole) opened ∙ object_kept (passed_members (c.args.depth - 1) c.next.new.self) _ c.in_ok-pass_members-in-BeginObject.ensures.value
