-- Items of a list: where they end.
use Rattle.std.proofs.Common.{◌≡◌, ℕ, ◌<◌, ◌≤◌, List, length, refl, sym, subst, ap, ◌∙◌, inl, inr, arith}
use Rattle.dnw_base.specs.Decoder.{Decoder, advanced}
use Rattle.dnw_record.specs.Records.{RecordValue, TakesRecord}
use Rattle.dnw_record.proofs.RecordReading.{record_own}
use Rattle.dnw_message_writer.specs.Needs.{purpose_by}
use Rattle.dnw_message_writer.specs.declared.needs.Purpose.{Purpose}
use Rattle.dnw_name_read.specs.Reading.{TakesName}
use Rattle.dnw_name_read.proofs.Counts.{Reads_own}
use Rattle.dnw_message_writer.specs.Lists.{ScansItem, ScansTo, TakesQuestion, at_start, more_items, place_of}
use Rattle.dnw_message_writer.specs.ListEnds.{no_ends}
use Rattle.dnw_message_writer.specs.declared.list.ends.Ends.{Ends}

-- A decoder is further on in the same octets.
pub record IsOnward (d after : Decoder) : Type 0 where
  pub further : d.index < after.index
  pub inside : after.index ≤ length after.bytes
  pub same : after.bytes ≡ d.bytes

pub onward_trans : (d e f : Decoder) → IsOnward d e → IsOnward e f → IsOnward d f
onward_trans d e f first second =
    let a = first.further in
    let b = second.further in
    record { further = omega (arith, a, b); inside = second.inside; same = second.same ∙ first.same }

pub record_onward : {d : Decoder} {x : RecordValue} {after : Decoder} → TakesRecord (advanced d 1) x after → IsOnward d after
record_onward {d} {x} {after} (e, at, moved) =
    let (further, inside) = record_own at in
    let index = ap (λ (y : Decoder). y.index) moved in
    let bytes = ap (λ (y : Decoder). y.bytes) moved in
    record { further = omega (arith, further, index); inside = omega (arith, inside, index, ap length bytes); same = bytes }

-- a name has octets of its own
name_onward : {d after : Decoder} {ls : List (List ℕ)} {k : ℕ} → TakesName d after ls k → d.index < after.index
name_onward {d} takes =
    let (further, inside) = Reads_own takes.name.reads in
    rw takes.moved further

pub question_onward : {d : Decoder} {name : List (List ℕ)} {t c : ℕ} {after : Decoder} → TakesQuestion d name t c after → IsOnward d after
question_onward {d} {name} {t} {c} {after} q =
    let named = q.named in
    let further = name_onward named in
    let bytes = ap (λ (y : Decoder). y.bytes) named.moved in
    let index = ap (λ (y : Decoder). y.index) q.after_is in
    let same = ap (λ (y : Decoder). y.bytes) q.after_is in
    let left = q.left in
    record { further = omega (arith, further, index); inside = omega (arith, left, index, ap length same); same = same ∙ bytes }

pub scan_onward : (octet : ℕ) (d : Decoder) (held : Ends) (before : Purpose) (after : Decoder) (ends : Ends) (needs : Purpose)
    → ScansItem octet d held before after ends needs → IsOnward d after
scan_onward octet d held before after ends needs (inl (is, name, t, c, takes, no_end, asks)) = question_onward takes
scan_onward octet d held before after ends needs (inr (s, ok, x, takes, is)) = record_onward takes.1

-- ---- the scan of a list

-- The items up to a decoder are scanned, which is in the list.
pub record Scanned (list : List ℕ) (flags : ℕ) (d : Decoder) (place : ℕ) (ends : Ends) (needs : Purpose) : Type 0 where
  pub scans : ScansTo list flags d place ends needs
  pub same : d.bytes ≡ list
  pub inside : d.index ≤ length list

pub scanned_none : (list : List ℕ) (flags : ℕ) (d : Decoder) (ends : Ends) (needs : Purpose) → d ≡ record { bytes = list; index = 0 } → ends ≡ no_ends
    → needs ≡ purpose_by flags → Scanned list flags d 0 ends needs
scanned_none list flags d ends needs is none purpose_is =
    rw (is, none, purpose_is) (record { scans = at_start; same = refl; inside = omega arith })

pub scanned_on : {list : List ℕ} {flags : ℕ} {d : Decoder} {place : ℕ} {held : Ends} {before : Purpose} → Scanned list flags d place held before
    → (octet p : ℕ) (after : Decoder) (ends : Ends) (needs : Purpose) → p ≡ place_of octet → place ≤ p
    → ScansItem octet d held before after ends needs → Scanned list flags after p ends needs
scanned_on {list} {flags} {d} {place} {held} {before} g octet p after ends needs is order item =
    let onward = scan_onward octet d held before after ends needs item in
    let same = onward.same ∙ g.same in
    let inside = onward.inside in
    let scans = more_items d after place octet held ends before needs g.scans (omega (arith, order, is)) item in
    record {
      scans = subst (λ q. ScansTo list flags after q ends needs) (sym is) scans;
      same = same;
      inside = omega (arith, inside, ap length same);
    }
