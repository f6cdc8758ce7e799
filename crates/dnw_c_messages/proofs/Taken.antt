-- A field that is read at an offset of a message.
use Rattle.std.proofs.Common.{◌≡◌, ℕ, ◌+◌, ◌-◌, ◌<◌, ◌≤◌, List, [], ◌∷◌, length, drop, Result, Ok, Err, inl, refl, sym, ap, ◌∙◌, subst, arith}
use Rattle.std.specs.Prelude.{⊤}
use Rattle.std.proofs.lemmas.List.{length-drop}
use Rattle.dnw_base.specs.declared.error.DecodeError.{DecodeError}
use Rattle.dnw_base.specs.declared.error.DecodeError.TheVariants.{InsufficientBytes}
use Rattle.dnw_base.specs.Decoder.{Decoder, HasLeft, Takes, advanced}
use Rattle.dnw_data.proofs.Taking.{moves_on}
use Rattle.dnw_data.specs.Fields.{FailsField, FailsOwn, TakesField, TakesOwn, own_at, size_at}
use Rattle.dnw_data.specs.Values.{FieldValue, long_counted_size, own_value}
use Rattle.dnw_data.proofs.Shaping.{long_is}
use Rattle.dnw_data.specs.declared.kind.Kind.{Kind}
use Rattle.dnw_data.specs.declared.kind.Kind.TheVariants as kinds
use Rattle.dnw_c_base.specs.Offsets.{at_offset}
use Rattle.dnw_c_messages.specs.FieldCalls.{EndsAt, head_of}
use Rattle.dnw_c_messages.specs.Listings.{IsOwnKind}
use Rattle.dnw_c_messages.specs.Inside.PlainFields.{IsPlainSize}

-- a decoder that is moved to an offset of the message
pub skipped_to : (first after : Decoder) (message : List ℕ) (p : ℕ) (r : Result (Unit {0}) DecodeError) → first ≡ record { bytes = message; index = 0 }
    → p ≤ length message → Takes first p (λ (done : Unit {0}). ⊤) r after → after ≡ at_offset message p
skipped_to first after message p (Ok done) is within takes =
    let start : 0 + p ≡ p = omega arith in
    takes.2 ∙ (ap (λ (d : Decoder). record { bytes = d.bytes; index = d.index + p }) is ∙ ap (at_offset message) start)
skipped_to first after message p (Err InsufficientBytes) is within takes = absurd (takes.0 (rw is (omega (arith, within))))
skipped_to first after message p (Err error) is within takes = absurd takes

-- a length of two octets is part of what it counts
long_more : (left : List ℕ) → 2 ≤ long_counted_size left
long_more [] = omega arith
long_more (a ∷ []) = omega arith
long_more (a ∷ b ∷ left) = omega (arith, long_is a b left)

-- a field has what is before its value
pub past_head : (kind : Kind) (d after : Decoder) (v : FieldValue) → TakesField kind d v after → d.index + head_of kind ≤ after.index
past_head (kinds.Counted shown) d after v h =
    let there = ap (λ (x : Decoder). x.index) h.3 in omega (arith, there)
past_head (kinds.LongCounted shown) d after v h =
    let there = ap (λ (x : Decoder). x.index) h.3 in
    let more = long_more (drop d.index d.bytes) in
    omega (arith, there, more)
past_head kind d after v h =
    let (later, same) = moves_on kind d after v h in omega (arith, later)

-- a field ends in the same message, after what is before its value
pub taken_at : (kind : Kind) (message : List ℕ) (p : ℕ) (d after : Decoder) (v : FieldValue) → d ≡ at_offset message p → TakesField kind d v after
    → (p + head_of kind ≤ after.index) × TakesField kind (at_offset message p) v (at_offset message after.index)
taken_at kind message p d after v is h =
    let start : TakesField kind (at_offset message p) v after = subst (λ x. TakesField kind x v after) is h in
    let (later, same) = moves_on kind (at_offset message p) after v start in
    let there : after ≡ at_offset message after.index = ap (λ bytes. record { bytes = bytes; index = after.index }) same in
    (past_head kind (at_offset message p) after v start, subst (λ x. TakesField kind (at_offset message p) v x) there start)

-- ---- a field that any octets are

own_taken : (kind : Kind) (d after : Decoder) (v : FieldValue) → IsOwnKind kind → TakesOwn kind d v after → TakesField kind d v after
own_taken (kinds.Name form) d after v own h = absurd own
own_taken kind d after v own h = h

own_failed : (kind : Kind) (d : Decoder) (error : DecodeError) → IsOwnKind kind → FailsOwn kind d error → FailsField kind d error
own_failed (kinds.Name form) d error own h = absurd own
own_failed kind d error own h = h

plain_size_at : (kind : Kind) (d : Decoder) (n : ℕ) → IsPlainSize kind (length d.bytes - d.index) n → n ≡ size_at kind d
plain_size_at kind d n plain = plain.size_is (drop d.index d.bytes) (length-drop d.index d.bytes)

pub plain_taken : (kind : Kind) (d : Decoder) (n : ℕ) → IsPlainSize kind (length d.bytes - d.index) n → HasLeft d n
    → TakesField kind d (own_value kind (own_at kind d)) (advanced d n)
plain_taken kind d n plain left =
    let size = plain_size_at kind d n plain in
    let there : HasLeft d (size_at kind d) = subst (HasLeft d) size left in
    own_taken kind d (advanced d n) (own_value kind (own_at kind d)) plain.own (there, plain.right (own_at kind d), refl, ap (advanced d) size)

pub plain_head : (kind : Kind) (d : Decoder) (n : ℕ) → IsPlainSize kind (length d.bytes - d.index) n → HasLeft d n
    → d.index + head_of kind ≤ d.index + n
plain_head kind d n plain left = past_head kind d (advanced d n) _ (plain_taken kind d n plain left)

pub plain_failed : (kind : Kind) (d : Decoder) (n : ℕ) → IsPlainSize kind (length d.bytes - d.index) n → ¬ (HasLeft d n)
    → FailsField kind d InsufficientBytes
plain_failed kind d n plain few =
    let size = plain_size_at kind d n plain in
    own_failed kind d InsufficientBytes plain.own (inl ((λ left. few (subst (HasLeft d) (sym size) left)), refl))

pub plain_ends : (kind : Kind) (message : List ℕ) (p n : ℕ) → IsPlainSize kind (length message - p) n → n ≤ length message - p
    → p ≤ length message → EndsAt kind message p (p + n)
plain_ends kind message p n plain within inside = (_, plain_taken kind (at_offset message p) n plain (omega (arith, within, inside)))

pub plain_lacks : (kind : Kind) (message : List ℕ) (p n : ℕ) → IsPlainSize kind (length message - p) n → length message - p < n
    → FailsField kind (at_offset message p) InsufficientBytes
plain_lacks kind message p n plain less = plain_failed kind (at_offset message p) n plain (λ left. absurd (omega (arith, less, left)))
