use Rattle.std.proofs.Common.{◌≡◌, ◌++◌, List, ℕ, refl}
use Rattle.dnw_data.specs.declared.kind.Shape.TheVariants.{HostIdentity}
use Rattle.dnw_data.specs.declared.kind.Shown.TheVariants.{Hex, Base64}
use Rattle.dnw_zone_data.specs.Gateways.{AreTagAndKey, identity_wire, of_shape}
use Rattle.dnw_zone_data.specs.Parsing.{SpellsOctets}
use Rattle.dnw_zone_data.proofs.GatewayWords.{alone, no_identity}
use Rattle.dnw_zone_data.proofs.gateways.parse_identity.Goals as goal

pub returns-then-not-are_tag_and_key : goal.returns-then-not-are_tag_and_key
returns-then-not-are_tag_and_key c =
    let tag : List ℕ = c.push_octets.new.out.items in
    let key : List ℕ = c.push_octets-2.new.out.items in
    let hex : SpellsOctets Hex c.args.second.now tag = alone (SpellsOctets Hex c.args.second.now) c.new-tag.result.items tag c.new-tag.ensures.items (rw c.if-not-branch.false at c.in_ok-push_octets.ensures) in
    let base : SpellsOctets Base64 c.args.third.now key = alone (SpellsOctets Base64 c.args.third.now) c.new-key.result.items key c.new-key.ensures.items (rw c.if-not-branch-2.false at c.in_ok-push_octets-2.ensures) in
    let none = rw c.if-not-are_tag_and_key.true at c.are_tag_and_key.ensures in
    no_identity c.args.first.now c.args.second.now c.args.third.now tag key hex base (rw (c.as_slice.ensures.value, c.as_slice-2.ensures.value) at none)

pub returns : goal.returns
returns c =
    let tag : List ℕ = c.push_octets.new.out.items in
    let key : List ℕ = c.push_octets-2.new.out.items in
    let hex : SpellsOctets Hex c.args.second.now tag = alone (SpellsOctets Hex c.args.second.now) c.new-tag.result.items tag c.new-tag.ensures.items (rw c.if-not-branch.false at c.in_ok-push_octets.ensures) in
    let base : SpellsOctets Base64 c.args.third.now key = alone (SpellsOctets Base64 c.args.third.now) c.new-key.result.items key c.new-key.ensures.items (rw c.if-not-branch-2.false at c.in_ok-push_octets-2.ensures) in
    let is = rw c.if-not-are_tag_and_key.false at c.are_tag_and_key.ensures in
    let are : AreTagAndKey tag key = rw (c.as_slice.ensures.value, c.as_slice-2.ensures.value) at is in
    let own : c.append_identity.new.out.items ≡ c.args.out.now.items ++ identity_wire c.in-Some.algorithm tag key = rw (c.as_slice-3.ensures.value, c.as_slice-4.ensures.value) at c.in_ok-append_identity.ensures in
    (of_shape HostIdentity (identity_wire c.in-Some.algorithm tag key), (c.in-Some.algorithm, tag, key, c.in-Some.ensures, hex, base, are, refl), own)
