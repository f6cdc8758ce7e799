-- Records that scripts write are read back.
use Rattle.std.proofs.Common.{◌≡◌, ℕ, List, [], ◌∷◌, Result, Ok, Err, false, length, refl, subst}
use Rattle.std.specs.Prelude.{IfOk}
use Rattle.dns_names_wire.specs.Words.{Compressed, Done, Finished, RecordStands, Reply, StandingRecordsAreRead, WireRecord, write_record}
use Rattle.uses.specs.Scripts.{IsReadAt}

-- a record that is accepted stands from the end of the old bytes to the new length
stands : (old bytes : List ℕ) (r : WireRecord) (len : ℕ) → Finished old (write_record r ∷ []) (Done len ∷ []) bytes
    → RecordStands bytes Compressed false r (length old) len
stands old bytes r len finished =
    let (end, at, same) = finished.spells (write_record r ∷ []) [] (Done len ∷ []) [] refl refl refl in
    subst (RecordStands bytes Compressed false r (length old)) same at

pub is_read : StandingRecordsAreRead → (bytes : List ℕ) (r : WireRecord) (p e : ℕ) → RecordStands bytes Compressed false r p e → IsReadAt bytes r p e
is_read law bytes r p e at =
    let (found, is, owner, record_type, class, ttl, rdata) = law bytes Compressed false r p e at in
    record { found = found; stands = is; owner = owner; record_type = record_type; class = class; ttl = ttl; rdata = rdata }

pub reads_back : {E : Type 0} → StandingRecordsAreRead → (old bytes : List ℕ) (r : WireRecord) (replies : List Reply) (result : Result ℕ E)
    → Finished old (write_record r ∷ []) replies bytes → IfOk result (λ len. replies ≡ Done len ∷ [])
    → IfOk result (λ end. IsReadAt bytes r (length old) end)
reads_back law old bytes r replies (Ok len) finished same =
    is_read law bytes r (length old) len (stands old bytes r len (subst (λ given. Finished old (write_record r ∷ []) given bytes) same finished))
reads_back law old bytes r replies (Err error) finished same = tt
