-- The first octet of a form tells whether a label follows.
use Rattle.std.proofs.Common.{◌≡◌, ◌<◌, ℕ, List, ◌∷◌, length, drop, get_or, arith}
use Rattle.std.proofs.lemmas.List.{drop_more}
use Rattle.dnw_name_form.specs.Inside.WireBytes.{IsWire}
use Rattle.dnw_name_form.proofs.Wires.{begins_with_zero, IsWire_front, Front_splits, some_octet, whole}
use Rattle.dnw_name_form.proofs.wire_labels.split_label.Goals as goal

there : (bytes : List ℕ) → IsWire bytes → 0 < length bytes
there bytes w = omega (arith, some_octet bytes w)

first : (bytes : List ℕ) → IsWire bytes → bytes ≡ get_or bytes 0 0 ∷ drop 1 bytes
first bytes w = drop_more bytes 0 0 (there bytes w)

pub bounds-wire-0 : goal.bounds-wire-0
bounds-wire-0 c = there _ c.requires

pub returns-then-len-eq0 : goal.returns-then-len-eq0
returns-then-len-eq0 c = begins_with_zero _ _ _ (first _ c.requires) c.if-len-eq0.true

pub split_at-requires : goal.split_at-requires
split_at-requires c = there _ c.requires

pub split_at-requires-2 : goal.split_at-requires-2
split_at-requires-2 c = rw c.split_at.ensures.back (IsWire_front _ _ _ c.requires (first _ c.requires) c.if-len-eq0.false).fits

pub returns : goal.returns
returns c =
    Front_splits whole _ _ _ _ _ (IsWire_front _ _ _ c.requires (first _ c.requires) c.if-len-eq0.false)
    (rw c.split_at.ensures.back at c.split_at-2.ensures.front) (rw c.split_at.ensures.back at c.split_at-2.ensures.back)
