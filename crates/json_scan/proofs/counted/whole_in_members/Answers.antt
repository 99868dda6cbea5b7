use Rattle.std.proofs.Common.{◌≡◌, ◌-◌, length, Some, None, refl, sym, ap, ◌∙◌, arith}
use Rattle.json.specs.Json.{read_key, value}
use Rattle.serde_json.specs.Data.{no_members, put}
use Rattle.json_reading.specs.Json.{whole}
use Rattle.json_scan.specs.Passing.{passed, passed_members, named_whole, kept}
use Rattle.json.proofs.Grammar.{read_key-shorter}
use Rattle.json_scan.proofs.Named.{kept_some, named_after}
use Rattle.json_reading.proofs.Turns.{member_read, member_refused, key_refused, members_over}
use Rattle.json_scan.proofs.counted.whole_in_members.Goals as goal

pub members-init : goal.members-init
members-init c = (no_members, length c.args.reader.now, omega arith, refl, refl)

pub members-preserved : goal.members-preserved
members-preserved c =
    let p = value 126 in
    let l = c.members in
    let old = l.invariant.0 in
    let n = l.invariant.1 in
    let k = c.in-Some.key.now in
    let s = c.next_key.new.self in
    let r = c.pass_value.new.reader in
    let named : read_key l.reader ≡ Some (Some k, s) = grind arith in
    let less = read_key-shorter l.reader (Some k) s named in
    let lesser = c.in_ok-whole.ensures.shorter in
    let d = kept_some whole (passed 126 s) _ r c.in_ok-whole.ensures.value in (
      put k d.0 old,
      n - 1,
      omega (arith, l.invariant.2),
      l.invariant.3 ∙ member_read p old n k l.reader s r d.0 (omega (arith, l.invariant.2)) named d.1,
      c.found_with-found.ensures ∙ named_after c.args.name.now k d.0 old c.in_ok-whole.whole l.found d.2 l.invariant.4,
    )

pub returns-in_err-key : goal.returns-in_err-key
returns-in_err-key c =
    let l = c.members in
    let none : passed_members 126 c.args.reader.now ≡ None = l.invariant.3 ∙ key_refused (value 126) l.invariant.0 l.invariant.1 l.reader c.in_err-key.ensures.value in
    grind (arith, none)

pub returns-in_err-whole : goal.returns-in_err-whole
returns-in_err-whole c =
    let l = c.members in
    let k = c.in-Some.key.now in
    let s = c.next_key.new.self in
    let named : read_key l.reader ≡ Some (Some k, s) = grind arith in
    let none : passed_members 126 c.args.reader.now ≡ None = l.invariant.3 ∙ member_refused (value 126) l.invariant.0 l.invariant.1 k l.reader s named c.in_err-whole.ensures.value in
    grind (arith, none)

pub returns : goal.returns
returns c =
    let l = c.members in
    let new = c.next_key.new.self in
    ap (kept (named_whole c.args.name.now)) (l.invariant.3 ∙ members_over (value 126) l.invariant.0 l.invariant.1 l.reader new l.invariant.2 (grind arith)) ∙ ap (λ f. Some (f, new)) (sym l.invariant.4)
