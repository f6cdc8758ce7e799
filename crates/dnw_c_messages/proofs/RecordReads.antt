-- A record that is read at an offset of a message, part by part.
use Rattle.std.proofs.Common.{◌≡◌, ℕ, ◌+◌, List, length, Ok, Err, inl, inr, refl, sym, ap, ◌∙◌, subst, arith}
use Rattle.dnw_base.specs.declared.error.DecodeError.{DecodeError}
use Rattle.dnw_base.specs.declared.error.DecodeError.TheVariants.{InsufficientBytes}
use Rattle.dnw_base.specs.Decoder.{Decoder, advanced}
use Rattle.dnw_base.specs.Limits.{max_name}
use Rattle.dnw_base.specs.RecordTypes.{type_code, type_of_code}
use Rattle.dnw_base.specs.Names.{wire}
use Rattle.dnw_data.proofs.Codes.{class_back, code_back}
use Rattle.dnw_name_read.specs.Reading.{NameAt, TakesName}
use Rattle.dnw_name.specs.Decodable.{StopsSomehow}
use Rattle.dnw_record.specs.Records.{HasRest, RecordAt, fixed_at, fixed_size, length_field, number_at, record_of, ttl_field}
use Rattle.dnw_c_base.specs.Failures.{of_decode}
use Rattle.dnw_c_base.specs.Offsets.{at_offset}
use Rattle.dnw_c_base.specs.Results.{PutsWithin}
use Rattle.dnw_c_base.specs.declared.failure.Failure.{Failure}
use Rattle.dnw_c_messages.specs.declared.records.ReadRecord.{ReadRecord}
use Rattle.dnw_c_messages.specs.Inside.RecordRests.{rest_at}
use Rattle.dnw_c_messages.specs.RecordCalls.{ReadsRecord, read_record}

-- the same with an owner of so many octets
abbrev pub with_owner : ReadRecord → ℕ → ReadRecord
with_owner found n = record {
  owner_len = n;
  record_type = found.record_type;
  record_class = found.record_class;
  ttl = found.ttl;
  data_offset = found.data_offset;
  data_len = found.data_len;
  end = found.end;
}

abbrev with_codes : List ℕ → ℕ → ℕ → ℕ → ℕ → ReadRecord
with_codes b e n record_type class = record {
  owner_len = n;
  record_type = record_type;
  record_class = class;
  ttl = ttl_field (fixed_at b e);
  data_offset = e + fixed_size;
  data_len = length_field (fixed_at b e);
  end = e + fixed_size + length_field (fixed_at b e);
}

is_read : (b : List ℕ) (ls : List (List ℕ)) (e : ℕ)
    → with_owner (rest_at b e) (length (wire ls)) ≡ read_record (record_of b ls e) (e + fixed_size + length_field (fixed_at b e))
is_read b ls e =
    let first = number_at (fixed_at b e) 0 in
    let second = number_at (fixed_at b e) 2 in
    ap (λ n. with_codes b e (length (wire ls)) n second) (sym (code_back first))
    ∙ ap (λ n. with_codes b e (length (wire ls)) (type_code (type_of_code first)) n) (sym (class_back second))

-- a decoder that is moved to an offset
pub skipped : (first after : Decoder) (message : List ℕ) (start : ℕ) → first ≡ record { bytes = message; index = 0 } → after ≡ advanced first start
    → after ≡ at_offset message start
skipped first after message start is moved =
    let there : 0 + start ≡ start = omega arith in
    moved ∙ (ap (λ (d : Decoder). advanced d start) is ∙ ap (at_offset message) there)

module _ (message : List ℕ) (start k : ℕ) (d after : Decoder) (ls : List (List ℕ)) (at : d ≡ at_offset message start) (takes : TakesName d after ls k) where
  name_there : NameAt message start ls takes.end k
  name_there = subst (λ (x : Decoder). NameAt x.bytes x.index ls takes.end k) at takes.name

  moved : after ≡ at_offset message takes.end
  moved = takes.moved ∙ ap (λ (x : Decoder). record { bytes = x.bytes; index = takes.end }) at

  is_there : HasRest after.bytes after.index
      → RecordAt message start (record_of message ls takes.end) (takes.end + fixed_size + length_field (fixed_at message takes.end))
  is_there rest = record {
    labels = ls;
    owner_end = takes.end;
    pointers = k;
    owner_read = name_there;
    rest = subst (λ (x : Decoder). HasRest x.bytes x.index) moved rest;
    is = refl;
    ends = refl;
  }

  found_is : (found : ReadRecord) (n : ℕ) → found ≡ rest_at after.bytes after.index → n ≡ length (wire ls)
      → with_owner found n ≡ read_record (record_of message ls takes.end) (takes.end + fixed_size + length_field (fixed_at message takes.end))
  found_is found n is size =
      ap (λ f. with_owner f n) (is ∙ ap (λ (x : Decoder). rest_at x.bytes x.index) moved) ∙ ap (with_owner (rest_at message takes.end)) size
      ∙ is_read message ls takes.end

  pub reads : (found : ReadRecord) (old new : List ℕ) (n : ℕ) → HasRest after.bytes after.index × (found ≡ rest_at after.bytes after.index)
      → PutsWithin max_name (wire ls) (length (wire ls)) old new (Ok n) → ReadsRecord message start old new (Ok (with_owner found n))
  reads found old new n (rest, is) ((size, fits, put), _) = inl (_, _, is_there rest, ((found_is found n is size, fits, put), tt))

  pub lacks_room : (old new : List ℕ) (failure : Failure) → HasRest after.bytes after.index
      → PutsWithin max_name (wire ls) (length (wire ls)) old new (Err failure) → ReadsRecord message start old new (Err failure)
  lacks_room old new failure rest (none, few) = inl (_, _, is_there rest, (none, few))

  pub lacks_rest : (old : List ℕ) (error : DecodeError) → (¬ (HasRest after.bytes after.index)) × (error ≡ InsufficientBytes)
      → ReadsRecord message start old old (Err (of_decode error))
  lacks_rest old error (none, is) =
      inr ((error, inr ((ls, takes.end, k, name_there, λ rest. none (subst (λ (x : Decoder). HasRest x.bytes x.index) (sym moved) rest)), is), refl), refl)

pub lacks_owner : (message : List ℕ) (start : ℕ) (d : Decoder) (old : List ℕ) (error : DecodeError) → d ≡ at_offset message start → StopsSomehow d error
    → ReadsRecord message start old old (Err (of_decode error))
lacks_owner message start d old error at stops = inr ((error, inl (subst (λ x. StopsSomehow x error) at stops), refl), refl)
