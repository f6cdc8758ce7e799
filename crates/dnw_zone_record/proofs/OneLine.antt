-- A line is one record at most.
use Rattle.std.proofs.Common.{◌≡◌, ℕ, List, ◌++◌, length, sym, ap, ◌∙◌, subst, inl, inr}
use Rattle.std.specs.Prelude.{Option}
use Rattle.std.specs.Int.{w16, w32, to_be_bytes}
use Rattle.std.proofs.lemmas.Option.{same_Some}
use Rattle.dnw_base.specs.Names.{NameValue, wire}
use Rattle.dnw_base.specs.DnsClasses.{class_code}
use Rattle.dnw_base.specs.RecordTypes.{type_code, type_of_text}
use Rattle.dnw_base.specs.declared.dns_class.DNSClass.{DNSClass}
use Rattle.dnw_base.specs.declared.record_type.RecordType.{RecordType}
use Rattle.dnw_zone_values.specs.Octets.{IsOctets}
use Rattle.dnw_name_read.specs.ReadingLaws.{AreBytes}
use Rattle.dnw_record.specs.Records.{RecordValue}
use Rattle.dnw_zone_data.specs.Words.{after_word}
use Rattle.dnw_zone_record.specs.declared.record_line.LineHead.{LineHead}
use Rattle.dnw_zone_data.specs.DataTexts.{IsTextOf}
use Rattle.dnw_zone_record.specs.RecordTextLaws.{line_head, LinesAreUnambiguous, PrintedLinesAreSame}
use Rattle.dnw_zone_record.specs.RecordLines.{record_line, spaced, after_next_word, line_octets, next_word, HasClassNext, HasTtlAndClass, IsHead, IsRecordLine}
use Rattle.dnw_zone_record.proofs.LinesBack.{IsReadRecord, head_back, head_fields, head_forms, line_rest, record_read, split, without_space}
use Rattle.dnw_zone_data.proofs.OneBitmap.{back_fit}
use Rattle.dnw_zone_data.proofs.OneText.{printed, unambiguous}

one_class : (left : List ℕ) (c d : DNSClass) (r s : List ℕ) → HasClassNext left c r → HasClassNext left d s → (c ≡ d) × (r ≡ s)
one_class left c d r s (inl x) (inl y) = (same_Some c d (sym x.0.1 ∙ y.0.1), x.1 ∙ sym y.1)
one_class left c d r s (inl x) (inr y) = absurd (y.0 c x.0)
one_class left c d r s (inr x) (inl y) = absurd (x.0 d y.0)
one_class left c d r s (inr x) (inr y) = (x.1 ∙ sym y.1, x.2 ∙ sym y.2)

one_ttl : (left : List ℕ) (m n : ℕ) (c d : DNSClass) (r s : List ℕ) → HasTtlAndClass left m c r → HasTtlAndClass left n d s → (m ≡ n) × (c ≡ d) × (r ≡ s)
one_ttl left m n c d r s (inl (ttl, class)) (inl (also, other)) =
    let next = one_class (after_next_word left) c d r s class other in (same_Some m n (sym ttl.0 ∙ also.0), next.0, next.1)
one_ttl left m n c d r s (inl (ttl, class)) (inr (none, other)) = absurd (none m ttl)
one_ttl left m n c d r s (inr (none, class)) (inl (ttl, other)) = absurd (none n ttl)
one_ttl left m n c d r s (inr (none, (class, ttl, e))) (inr (lacks, (other, also, f))) =
    (same_Some m n (sym ttl.0 ∙ also.0), same_Some c d (sym class.1 ∙ other.1), e ∙ sym f)

one_head : (left : List ℕ) (head other : LineHead) (r s : List ℕ) → IsHead left head r → IsHead left other s → (head ≡ other) × (r ≡ s)
one_head left head other r s (between, has, kind, e) (among, also, other_kind, f) =
    let (ttl, class, same) = one_ttl left head.ttl other.ttl head.class other.class between among has also in
    let one : head.record_type ≡ other.record_type = same_Some _ _ (sym kind.1 ∙ ap (λ (xs : List ℕ). type_of_text (next_word xs)) same ∙ other_kind.1) in (
      ap (λ (k : RecordType). record { record_type = k; class = head.class; ttl = head.ttl }) one
          ∙ ap (λ (c : DNSClass). record { record_type = other.record_type; class = c; ttl = head.ttl }) class
          ∙ ap (λ (n : ℕ). record { record_type = other.record_type; class = other.class; ttl = n }) ttl,
      e ∙ ap (λ (xs : List ℕ). after_next_word xs) same ∙ sym f,
    )

-- the data are the end of the octets
own_fit : (owner : List (List ℕ)) (head : LineHead) (own octets : List ℕ) → octets ≡ line_octets owner head own → IsOctets octets → IsOctets own
own_fit owner head own octets e h =
    let front = wire owner ++ to_be_bytes w16 (type_code head.record_type) ++ to_be_bytes w16 (class_code head.class) ++ to_be_bytes w32 head.ttl ++ to_be_bytes w16 (length own) in
    back_fit front own (subst IsOctets e h)

pub unambiguous_lines : LinesAreUnambiguous
unfolding IsRecordLine
unambiguous_lines origin line a b h k (owner, named, (head, text, own, is, (spelled, few), e)) (named_by, also, (other, rest, data_of, are, (text_of, low), f)) =
    let same_owner = same_Some owner named_by (sym named ∙ also) in
    let (same_head, same_text) = one_head (after_word line) head other text rest is are in
    let moved : IsTextOf origin (head_forms other) (head_fields other) rest own =
    subst (λ (x : LineHead). IsTextOf origin (head_forms x) (head_fields x) rest own) same_head (subst (λ (t : List ℕ). IsTextOf origin (head_forms head) (head_fields head) t own) same_text spelled) in
    let same = unambiguous origin (head_forms other) (head_fields other) rest own data_of (own_fit owner head own a e h) (own_fit named_by other data_of b f k) moved text_of in
    e ∙ ap (λ (ls : List (List ℕ)). line_octets ls head own) same_owner ∙ ap (λ (x : LineHead). line_octets named_by x own) same_head
    ∙ ap (λ (xs : List ℕ). line_octets named_by other xs) same ∙ sym f

-- the data of a line that was printed of a record
line_data : (origin : Option NameValue) (r : RecordValue) (text octets : List ℕ) → IsReadRecord r → IsRecordLine origin (record_line r text) octets
    → (own : List ℕ) × IsTextOf origin (head_forms (line_head r)) (head_fields (line_head r)) text own × (octets ≡ line_octets r.owner (line_head r) own)
unfolding IsRecordLine
line_data origin r text octets read (owner, named, (head, rest, own, is, (spelled, few), e)) =
    let parts = split origin r text read in
    let same_owner = same_Some owner r.owner (sym named ∙ parts.named) in
    let moved : IsHead (line_rest r text) head rest = subst (λ (xs : List ℕ). IsHead xs head rest) parts.left is in
    let (same_head, same_text) = one_head (line_rest r text) head (line_head r) rest (spaced text) moved (head_back r text read) in
    let whole : IsTextOf origin (head_forms (line_head r)) (head_fields (line_head r)) (spaced text) own =
    subst (λ (x : LineHead). IsTextOf origin (head_forms x) (head_fields x) (spaced text) own) same_head
    (subst (λ (t : List ℕ). IsTextOf origin (head_forms head) (head_fields head) t own) same_text spelled) in (
      own,
      without_space origin (head_forms (line_head r)) (head_fields (line_head r)) text own whole,
      e ∙ ap (λ (ls : List (List ℕ)). line_octets ls head own) same_owner ∙ ap (λ (x : LineHead). line_octets r.owner x own) same_head,
    )

pub printed_lines : PrintedLinesAreSame
printed_lines origin b p e r text octets h at print fit line =
    let read : IsReadRecord r = subst (λ (x : RecordValue). IsReadRecord x) (sym at.is) (record_read b at.labels p at.owner_end at.pointers h at.owner_read) in
    let bytes : AreBytes r.message = subst (λ (x : RecordValue). AreBytes x.message) (sym at.is) h in
    let (own, is, same) = line_data origin r text octets read line in
    elim (printed origin r text own bytes print (own_fit r.owner (line_head r) own octets same fit) is) [
      | inl plain ↦ (own, plain, inr same)
      | inr (long, plain, many) ↦ (long, plain, inl many)
    ]
