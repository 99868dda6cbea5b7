use Rattle.std.proofs.Common.{◌+◌, List, drop, get_or, ℕ}
use Rattle.std.proofs.lemmas.List.{get_or_default}
use Rattle.table_history.specs.Row.{Row}
use Rattle.iceberg_version.specs.Advance.{added_rows, source_of}
use Rattle.iceberg_version.specs.Carrying.{parts_at}
use Rattle.iceberg_version.specs.declared.carrying.Next.{Next}
use Rattle.iceberg_version.specs.declared.carrying.Next.TheVariants.{Stays}
use Rattle.iceberg_version.proofs.OwnerLemmas.{fresh_after, fresh_next, fresh_one, given_all, given_more, given_none}
use Rattle.iceberg_version.proofs.advancing.owners.Goals as goal

pub loop-one-init : goal.loop-one-init
loop-one-init c = record {
  given = given_none c.args.manifests.now c.args.version (parts_at c.args.parts.now) c.args.next.now c.in_ok-owners.owners.items c.args.links.now c.in_ok-owners.ensures.items;
  fresh = c.requires.fresh;
}

pub owner_of-requires-clause-fresh : goal.owner_of-requires-clause-fresh
owner_of-requires-clause-fresh c =
    let next : List Next = c.args.next.now in
    let i : ℕ = c.loop-one.one-index in
    let one : Next = get_or next i (Stays 0) in
    fresh_one (parts_at c.args.parts.now) next i one c.loop-one.links c.loop-one-test.true (get_or_default next i (Stays 0) one c.loop-one-test.true) c.loop-one.invariant.fresh

pub loop-one-preserved : goal.loop-one-preserved
loop-one-preserved c =
    let parts : List (List Row) = parts_at c.args.parts.now in
    let next : List Next = c.args.next.now in
    let i : ℕ = c.loop-one.one-index in
    let one : Next = get_or next i (Stays 0) in
    let at = get_or_default next i (Stays 0) one c.loop-one-test.true in
    record {
      given = given_more c.args.manifests.now c.args.version parts next i one c.loop-one.owners.items c.push.new.self.items c.in_ok-owner.owner c.args.links.now c.loop-one.links c.owner_of.new.links c.loop-one-test.true at c.in_ok-push.ensures.items c.in_ok-owner.ensures c.loop-one.invariant.given;
      fresh = fresh_after c.args.manifests.now c.args.version (source_of parts one) c.in_ok-owner.owner c.loop-one.links c.owner_of.new.links (added_rows parts (drop (i + 1) next)) c.in_ok-owner.ensures (fresh_next parts next i one c.loop-one.links c.loop-one-test.true at c.loop-one.invariant.fresh);
    }

pub returns : goal.returns
returns c = given_all c.args.manifests.now c.args.version (parts_at c.args.parts.now) c.args.next.now c.loop-one.one-index c.loop-one.owners.items c.args.links.now c.loop-one.links c.loop-one-test.false c.loop-one.invariant.given
