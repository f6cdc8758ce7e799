-- At each offset there is one field of a kind at most, or one reason why there is none.
use Rattle.std.proofs.Common.{◌≡◌, ℕ, ◌+◌, ◌-◌, ◌⊎◌, take, drop, subst, length-drop, Option, Some, None, length, Result, Ok, Err, IfOk, IfErr, inl, inr, refl, sym, ap, ◌∙◌, ◌≤◌, arith, rules}
use Rattle.std.specs.Result.{IsErrOf, IsOkAnd}
use Rattle.dnw_base.specs.declared.error.DecodeError.{DecodeError}
use Rattle.std.proofs.lemmas.Bool.{cases_lt}
use Rattle.std.proofs.lemmas.List.{length-take-le}
use Rattle.dnw_base.specs.declared.error.DecodeError.TheVariants.{InsufficientBytes}
use Rattle.dnw_base.specs.Decoder.{Decoder, HasLeft, advanced}
use Rattle.dnw_name_read.proofs.Counts.{Reads_own}
use Rattle.dnw_name_read.proofs.Unique.{walk}
use Rattle.dnw_name_read.proofs.Takes.{TakesName_unique, TakesName_not_StopsAt, StopsAt_unique}
use Rattle.dnw_data.specs.declared.kind.Kind.{Kind}
use Rattle.dnw_data.specs.declared.kind.Kind.TheVariants.{Name}
use Rattle.dnw_data.specs.declared.kind.NameForm.{NameForm}
use Rattle.dnw_data.specs.declared.field.Field.{Field}
use Rattle.dnw_data.specs.Values.{FieldValue, name, own_fault, own_size, own_value, seen}
use Rattle.dnw_data.proofs.Checking.{rest_is}
use Rattle.dnw_data.proofs.Shaping.{own_sized}
use Rattle.dnw_data.specs.Fields.{TakesField, FailsField, TakesOwn, FailsOwn, own_at, size_at}

-- the octets of a field, of those that a reader has left
pub own_read : (kind : Kind) (d : Decoder) (size : ℕ) → d.index ≤ length d.bytes
    → size ≡ own_size kind (take (length d.bytes - d.index) (drop d.index d.bytes))
    → size ≤ length (take (length d.bytes - d.index) (drop d.index d.bytes))
    → (HasLeft d (size_at kind d) × (take size (take (length d.bytes - d.index) (drop d.index d.bytes)) ≡ own_at kind d))
    × (length (take size (take (length d.bytes - d.index) (drop d.index d.bytes))) ≡ size_at kind d)
    × (length (take size (take (length d.bytes - d.index) (drop d.index d.bytes)))
    ≡ own_size kind (take size (take (length d.bytes - d.index) (drop d.index d.bytes))))
own_read kind d size within is few =
    let all = drop d.index d.bytes in
    let left = take (length d.bytes - d.index) all in
    let whole : left ≡ all = rest_is d.index d.bytes in
    let same : size ≡ size_at kind d = is ∙ ap (own_size kind) whole in
    let many : d.index + size_at kind d - d.index ≡ size = omega (arith, same) in
    let alone = own_sized kind left (omega (arith, is, few)) in (
      (omega (arith, same, few, ap length whole, length-drop d.index d.bytes, within), ap (take size) whole ∙ ap (λ n. take n all) (sym many)),
      length-take-le size left few ∙ same,
      subst (λ n. length (take n left) ≡ own_size kind (take n left)) (sym is) alone,
    )

pub own_unique : (kind : Kind) (d : Decoder) (v v' : FieldValue) (after after' : Decoder) → TakesOwn kind d v after → TakesOwn kind d v' after'
    → (v ≡ v') × (after ≡ after')
own_unique kind d v v' after after' h h' = (h.2 ∙ sym h'.2, h.3 ∙ sym h'.3)

pub own_not_both : (kind : Kind) (d : Decoder) (v : FieldValue) (after : Decoder) (e : DecodeError) → TakesOwn kind d v after → FailsOwn kind d e → ⊥
own_not_both kind d v after e h (inl lacks) = lacks.0 h.0
own_not_both kind d v after e h (inr fault) = let wrong = sym h.1 ∙ fault.1 in search rules

pub own_one_fault : (kind : Kind) (d : Decoder) (e e' : DecodeError) → FailsOwn kind d e → FailsOwn kind d e' → e ≡ e'
own_one_fault kind d e e' (inl lacks) (inl lacks') = lacks.1 ∙ sym lacks'.1
own_one_fault kind d e e' (inl lacks) (inr fault) = absurd (lacks.0 fault.0)
own_one_fault kind d e e' (inr fault) (inl lacks) = absurd (lacks.0 fault.0)
own_one_fault kind d e e' (inr fault) (inr fault') = let same = sym fault.1 ∙ fault'.1 in cc

pub field_unique : (kind : Kind) (d : Decoder) (v v' : FieldValue) (after after' : Decoder) → TakesField kind d v after → TakesField kind d v' after'
    → (v ≡ v') × (after ≡ after')
field_unique (Name form) d v v' after after' h h' =
    let (labels, there) = TakesName_unique h.2 h'.2 in (h.3 ∙ (ap name labels ∙ sym h'.3), there)
field_unique kind d v v' after after' h h' = own_unique kind d v v' after after' h h'

pub field_not_both : (kind : Kind) (d : Decoder) (v : FieldValue) (after : Decoder) (e : DecodeError) → TakesField kind d v after → FailsField kind d e → ⊥
field_not_both (Name form) d v after e h stops = TakesName_not_StopsAt h.2 stops.2
field_not_both kind d v after e h fails = own_not_both kind d v after e h fails

pub field_one_fault : (kind : Kind) (d : Decoder) (e e' : DecodeError) → FailsField kind d e → FailsField kind d e' → e ≡ e'
field_one_fault (Name form) d e e' stops stops' = StopsAt_unique stops.2 stops'.2
field_one_fault kind d e e' h h' = own_one_fault kind d e e' h h'

-- So a read that returns what the definitions say returns nothing else.
pub accepts : (kind : Kind) (d after : Decoder) (r : Result Field DecodeError) → IfOk r (λ f. TakesField kind d (seen f) after)
    → IfErr r (FailsField kind d) → (v : FieldValue) (after' : Decoder) → TakesField kind d v after'
    → IsOkAnd r (λ f. seen f ≡ v) × (after ≡ after')
accepts kind d after (Ok f) ok err v after' h = field_unique kind d (seen f) v after after' ok h
accepts kind d after (Err e) ok err v after' h = absurd (field_not_both kind d v after' e h err)

pub rejects : (kind : Kind) (d after : Decoder) (r : Result Field DecodeError) → IfOk r (λ f. TakesField kind d (seen f) after)
    → IfErr r (FailsField kind d) → (e : DecodeError) → FailsField kind d e → IsErrOf r e
rejects kind d after (Ok f) ok err e h = absurd (field_not_both kind d (seen f) after e ok h)
rejects kind d after (Err e') ok err e h = ap Err (field_one_fault kind d e' e err h)

-- a field other than a name is its own octets
pub as_field : (kind : Kind) → ((form : NameForm) → kind ≡ Name form → ⊥) → (d after : Decoder) (r : Result Field DecodeError)
    → IfOk r (λ f. TakesOwn kind d (seen f) after) → IfErr r (FailsOwn kind d)
    → IfOk r (λ f. TakesField kind d (seen f) after) × IfErr r (FailsField kind d)
as_field (Name form) not d after r ok err = absurd (not form refl)
as_field kind not d after r ok err = (ok, err)

-- a field is no shorter than nothing, and within the message
pub moves_on : (kind : Kind) (d after : Decoder) (v : FieldValue) → TakesField kind d v after → (d.index ≤ after.index) × (after.bytes ≡ d.bytes)
moves_on (Name form) d after v h =
    let (later, inside) = Reads_own h.2.name.reads in
    let there = ap (λ (x : Decoder). x.index) h.2.moved in
    (omega (arith, there), ap (λ (x : Decoder). x.bytes) h.2.moved)
moves_on kind d after v h =
    let there = ap (λ (x : Decoder). x.index) h.3 in
    (omega (arith, there), ap (λ (x : Decoder). x.bytes) h.3)

-- ---- there is always one of both

by_fault : (kind : Kind) (d : Decoder) → HasLeft d (size_at kind d) → (fault : Option DecodeError) → own_fault kind (own_at kind d) ≡ fault
    → ((v : FieldValue) × (after : Decoder) × TakesOwn kind d v after) ⊎ ((e : DecodeError) × FailsOwn kind d e)
by_fault kind d enough None is = inl (own_value kind (own_at kind d), advanced d (size_at kind d), (enough, is, refl, refl))
by_fault kind d enough (Some e) is = inr (e, inr (enough, is))

own_some : (kind : Kind) (d : Decoder) → ((v : FieldValue) × (after : Decoder) × TakesOwn kind d v after) ⊎ ((e : DecodeError) × FailsOwn kind d e)
own_some kind d =
    elim (cases_lt (length d.bytes) (d.index + size_at kind d)) [
      | inl short ↦ inr (InsufficientBytes, inl (λ h. omega (arith, h, short), refl))
      | inr enough ↦ by_fault kind d enough (own_fault kind (own_at kind d)) refl
    ]

pub field_some : (kind : Kind) (d : Decoder) → ((v : FieldValue) × (after : Decoder) × TakesField kind d v after) ⊎ ((e : DecodeError) × FailsField kind d e)
field_some (Name form) d =
    walk d.bytes (d.index + 256) d.index d.index None 1 (omega arith) (omega arith)
    (λ ls e k r most. inl (name ls, record { bytes = d.bytes; index = e }, (ls, k, record { end = e; name = record { reads = r; fits = omega arith }; moved = refl }, refl)))
    (λ error k j f. inr (error, (k, j, f)))
field_some kind d = own_some kind d
