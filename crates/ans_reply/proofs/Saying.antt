-- What is said before the zone is asked.
use Rattle.std.proofs.Common.{◌≡◌, ℕ, zero, suc, List, [], ◌∷◌, ◌<◌, length, get_or, Option, None, refl, ap, arith}
use Rattle.dns_names_wire.specs.Words.{QueryValue, RecordValue, class_code}
use Rattle.ans_store.specs.Zones.{ZoneValue}
use Rattle.ans_answer.proofs.Asked.{other_code}
use Rattle.ans_answer.specs.Answers.{ZoneAnswer, answer}
use Rattle.ans_reply.specs.Replies.{bare, early_code, reply_after, reply_by, reply_to_question, zone_class}

pub not_asked : (zone : ZoneValue) (early : ℕ) (query : Option QueryValue) → (early ≡ 0 → ⊥) → reply_after zone early query ≡ bare early
not_asked zone early query h = rw (other_code early 0 h) refl

code_stays : (class n : ℕ) → early_code class (suc n) None ≡ suc n
code_stays class n = rw (other_code (suc n) 0 (λ h. omega (arith, h))) refl

has_code : (class general : ℕ) → early_code class general None ≡ 0 → ⊥
has_code class zero h = omega (arith, h)
has_code class (suc n) h = omega (arith, code_stays class n, h)

-- Without a question the zone is never asked.
pub no_question : (zone : ZoneValue) (general : ℕ) → reply_to_question zone general None ≡ bare (early_code (zone_class zone.records) general None)
no_question zone general = not_asked zone (early_code (zone_class zone.records) general None) None (has_code (zone_class zone.records) general)

pub replied : (zone : ZoneValue) (name same : List (List ℕ)) (code alike : ℕ) (found : ZoneAnswer) → found ≡ answer zone same alike → same ≡ name → alike ≡ code
    → reply_by zone alike found ≡ reply_by zone code (answer zone name code)
replied zone name same code alike found is is_name is_code = rw (is, is_name, is_code) refl

pub class_none : (zs : List RecordValue) → length zs ≡ 0 → zone_class zs ≡ 0
class_none [] h = refl
class_none (z ∷ zs) h = absurd (omega arith)

pub class_first : (zs : List RecordValue) (r : RecordValue) → 0 < length zs → r ≡ get_or zs 0 r → class_code r.class ≡ zone_class zs
class_first [] r h is = absurd (omega arith)
class_first (z ∷ zs) r h is = ap (λ (x : RecordValue). class_code x.class) is
