-- The names of the types that most records of zone files have.
use Rattle.std.proofs.Common.{◌≡◌, ℕ, suc, List, [], ◌∷◌, codes, length, get_or, refl, ap₂, arith}
use Rattle.dnw_base.specs.RecordTypes.{registered_type, type_of_text}
use Rattle.dnw_base.specs.declared.record_type.RecordType.{RecordType}
use Rattle.dnw_base.specs.declared.record_type.RecordType.TheVariants as rr
use Rattle.dnw_zone_data.specs.TypeLists.{IsTypeWord}
use Rattle.dnw_zone_data.proofs.Plain.{plain_utf8}

-- from one position on a word has these letters
abbrev pub Letters : List ℕ → ℕ → List ℕ → Type 0
Letters word i [] = Unit {0}
Letters word i (a ∷ name) = (get_or word i 0 ≡ a) × Letters word (suc i) name

later : (c : ℕ) (word : List ℕ) (i : ℕ) (name : List ℕ) → Letters (c ∷ word) (suc i) name → Letters word i name
later c word i [] same = tt
later c word i (a ∷ name) same = (same.0, later c word (suc i) name same.1)

is_name : (name word : List ℕ) → length word ≡ length name → Letters word 0 name → word ≡ name
is_name [] [] size same = refl
is_name [] (c ∷ word) size same = absurd (omega (arith, size))
is_name (a ∷ name) [] size same = absurd (omega (arith, size))
is_name (a ∷ name) (c ∷ word) size same = ap₂ (λ x xs. x ∷ xs) same.0 (is_name name word (omega (arith, size)) (later c word 0 name same.1))

-- a word of the letters of a name
abbrev pub UsualType : List ℕ → RecordType → Type 0
UsualType name kind = (word : List ℕ) → length word ≡ length name → Letters word 0 name → IsTypeWord word kind

usual : (name : List ℕ) (kind : RecordType) → IsTypeWord name kind → UsualType name kind
usual name kind own word size same = rw (is_name name word size same) own

pub usual_a : UsualType (codes "A") rr.A
unfolding type_of_text registered_type
usual_a = usual (codes "A") rr.A (plain_utf8 (codes "A") refl, refl, refl)

pub usual_ns : UsualType (codes "NS") rr.NS
unfolding type_of_text registered_type
usual_ns = usual (codes "NS") rr.NS (plain_utf8 (codes "NS") refl, refl, refl)

pub usual_ds : UsualType (codes "DS") rr.DS
unfolding type_of_text registered_type
usual_ds = usual (codes "DS") rr.DS (plain_utf8 (codes "DS") refl, refl, refl)

pub usual_mx : UsualType (codes "MX") rr.MX
unfolding type_of_text registered_type
usual_mx = usual (codes "MX") rr.MX (plain_utf8 (codes "MX") refl, refl, refl)

pub usual_txt : UsualType (codes "TXT") rr.TXT
unfolding type_of_text registered_type
usual_txt = usual (codes "TXT") rr.TXT (plain_utf8 (codes "TXT") refl, refl, refl)

pub usual_ptr : UsualType (codes "PTR") rr.PTR
unfolding type_of_text registered_type
usual_ptr = usual (codes "PTR") rr.PTR (plain_utf8 (codes "PTR") refl, refl, refl)

pub usual_srv : UsualType (codes "SRV") rr.SRV
unfolding type_of_text registered_type
usual_srv = usual (codes "SRV") rr.SRV (plain_utf8 (codes "SRV") refl, refl, refl)

pub usual_soa : UsualType (codes "SOA") rr.SOA
unfolding type_of_text registered_type
usual_soa = usual (codes "SOA") rr.SOA (plain_utf8 (codes "SOA") refl, refl, refl)

pub usual_caa : UsualType (codes "CAA") rr.CAA
unfolding type_of_text registered_type
usual_caa = usual (codes "CAA") rr.CAA (plain_utf8 (codes "CAA") refl, refl, refl)

pub usual_aaaa : UsualType (codes "AAAA") rr.AAAA
unfolding type_of_text registered_type
usual_aaaa = usual (codes "AAAA") rr.AAAA (plain_utf8 (codes "AAAA") refl, refl, refl)

pub usual_nsec : UsualType (codes "NSEC") rr.NSEC
unfolding type_of_text registered_type
usual_nsec = usual (codes "NSEC") rr.NSEC (plain_utf8 (codes "NSEC") refl, refl, refl)

pub usual_rrsig : UsualType (codes "RRSIG") rr.RRSIG
unfolding type_of_text registered_type
usual_rrsig = usual (codes "RRSIG") rr.RRSIG (plain_utf8 (codes "RRSIG") refl, refl, refl)

pub usual_nsec3 : UsualType (codes "NSEC3") rr.NSEC3
unfolding type_of_text registered_type
usual_nsec3 = usual (codes "NSEC3") rr.NSEC3 (plain_utf8 (codes "NSEC3") refl, refl, refl)

pub usual_cname : UsualType (codes "CNAME") rr.CNAME
unfolding type_of_text registered_type
usual_cname = usual (codes "CNAME") rr.CNAME (plain_utf8 (codes "CNAME") refl, refl, refl)
