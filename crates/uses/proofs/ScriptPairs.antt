-- Two records that a script writes are read back, one after the other.
use Rattle.std.proofs.Common.{◌≡◌, ℕ, ◌+◌, List, [], ◌∷◌, Result, Ok, Err, false, length, refl, sym, ap, ◌∙◌, subst}
use Rattle.std.specs.Prelude.{IfOk}
use Rattle.dns_names_wire.specs.Words.{Compressed, Done, Finished, HasData, NamedClassesComeBack, NamedTypesComeBack, OneName, RecordAt, RecordStands, RecordValue, Reply, StandingRecordsAreRead, WireRecord, class_rank, is_unknown, record_of, write_record}
use Rattle.uses.specs.Referrals.{HasRecord}
use Rattle.uses.specs.Scripts.{IsReadAt}
use Rattle.uses.proofs.ScriptRecords.{is_read}

end_of : RecordValue → ℕ
end_of x = x.start + x.len

-- a record has one end
one_end : OneName → (b : List ℕ) (p : ℕ) (x y : RecordValue) (e f : ℕ) → RecordAt b p x e → RecordAt b p y f → e ≡ f
unfolding end_of
one_end law b p x y e f one other =
    let same = law b p one.labels other.labels one.owner_end other.owner_end one.pointers other.pointers one.owner_read other.owner_read in
    one.ends ∙ (ap end_of one.is ∙ (ap (λ n. end_of (record_of b other.labels n)) same.1 ∙ (sym (ap end_of other.is) ∙ sym other.ends)))

-- The first record is there up to the length that its reply reports, and the second from there to the end.
pub both_read : StandingRecordsAreRead → OneName → (old bytes : List ℕ) (r s : WireRecord) (len end : ℕ)
    → Finished old (write_record r ∷ write_record s ∷ []) (Done len ∷ Done end ∷ []) bytes
    → IsReadAt bytes r (length old) len × IsReadAt bytes s len (length bytes)
both_read law one old bytes r s len end finished =
    let steps = write_record r ∷ write_record s ∷ [] in
    let replies = Done len ∷ Done end ∷ [] in
    let (first_end, first_at, first_same) = finished.spells (write_record r ∷ []) (write_record s ∷ []) (Done len ∷ []) (Done end ∷ []) refl refl refl in
    let (middle, before, (last, after, last_same)) = finished.spells steps [] replies [] refl refl refl in
    let first = is_read law bytes r (length old) len (subst (RecordStands bytes Compressed false r (length old)) first_same first_at) in
    let again = is_read law bytes r (length old) middle before in
    let met : middle ≡ len = one_end one bytes (length old) again.found first.found middle len again.stands first.stands in
    let second = is_read law bytes s middle last after in
    (first, subst (λ n. IsReadAt bytes s len n) (last_same ∙ finished.ends) (subst (λ n. IsReadAt bytes s n last) met second))

pub reads_both : {E : Type 0} → StandingRecordsAreRead → OneName → (old bytes : List ℕ) (r s : WireRecord) (replies : List Reply) (result : Result ℕ E)
    → Finished old (write_record r ∷ write_record s ∷ []) replies bytes → IfOk result (λ len. (end : ℕ) × (replies ≡ Done len ∷ Done end ∷ []))
    → IfOk result (λ place. IsReadAt bytes r (length old) place × IsReadAt bytes s place (length bytes))
reads_both law one old bytes r s replies (Ok len) finished (end, same) =
    both_read law one old bytes r s len end (subst (λ given. Finished old (write_record r ∷ write_record s ∷ []) given bytes) same finished)
reads_both law one old bytes r s replies (Err error) finished same = tt

-- A record that is read back has its own type and class if both have names.
pub is_there : NamedTypesComeBack → NamedClassesComeBack → {b : List ℕ} {r : WireRecord} {p e : ℕ} (labels : List (List ℕ))
    (AreData : RecordValue → Type 0) (start : ℕ) → IsReadAt b r p e → p ≡ start → r.owner.labels ≡ labels → is_unknown r.record_type ≡ false
    → class_rank r.class ≡ 0 → ((found : RecordValue) → HasData found Compressed false r.rdata → AreData found)
    → HasRecord b labels r.record_type r.class r.ttl AreData start e
is_there types classes {b = b} {r = r} {e = e} labels AreData start at begins owner named ranked holds = record {
  found = at.found;
  stands = subst (λ n. RecordAt b n at.found e) begins at.stands;
  owner = at.owner ∙ owner;
  record_type = at.record_type ∙ types r.record_type named;
  class = at.class ∙ classes r.class ranked;
  ttl = at.ttl;
  rdata = holds at.found at.rdata;
}
