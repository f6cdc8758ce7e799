-- Findings that are added one after the other.
use Rattle.std.proofs.Common.{◌≡◌, ℕ, suc, ◌+◌, ◌<◌, ◌≤◌, List, [], ◌∷◌, ◌++◌, length, get_or, drop, refl, sym, ap, ◌∙◌, subst, append_assoc, append-nil, arith, Result, Ok, Err, IsOkAnd, IfErr, Some, None, inr}
use Rattle.std.proofs.Math.Seq.{drop-cons}
use Rattle.dnw_record.specs.Records.{RecordValue}
use Rattle.std.proofs.lemmas.List.{drop_all}
use Rattle.dnw_base.specs.RecordTypes.{type_code}
use Rattle.dnw_record.specs.RecordFields.{record_fields}
use Rattle.dnw_zone_checks.specs.Checks.{AreFindings, AreFindingsFrom, AreOfServer, IsNameAfter, IsRecordFindings, apex_findings, server_offset}
use Rattle.dnw_zone_checks.specs.declared.finding.Finding.{Finding}

pub three : (x a b c : List Finding) → ((x ++ a) ++ b) ++ c ≡ x ++ (a ++ (b ++ c))
three x a b c = simp append_assoc

pub four : (x a b c d : List Finding) → (((x ++ a) ++ b) ++ c) ++ d ≡ x ++ (a ++ (b ++ (c ++ d)))
four x a b c d = simp append_assoc

-- what is read of no value that stands there
pub none_read : {A E N : Type 0} (r : Result A E) (P : N → Type 0) (Q : N → A → Type 0) → ((n : N) → P n → IsOkAnd r (Q n)) → IfErr r (λ e. (n : N) → ¬ (P n))
none_read (Ok x) P Q f = tt
none_read (Err e) P Q f = λ n p. f n p

-- ---- record by record

abbrev pub Leaves : List (List ℕ) → List RecordValue → ℕ → List RecordValue → List Finding → Type 0
Leaves zone zs number left found = (more : List Finding) → AreFindingsFrom zone zs number left more → AreFindings zone zs (found ++ more)

pub begins : (zone : List (List ℕ)) (zs : List RecordValue) (found : List Finding) → found ≡ [] ++ apex_findings zone zs → Leaves zone zs 0 zs found
begins zone zs found is more h = (more, h, ap (λ (x : List Finding). x ++ more) is)

pub goes_on : (zone : List (List ℕ)) (zs : List RecordValue) (number i : ℕ) (r : RecordValue) (found own new : List Finding) → i < length zs → r ≡ get_or zs i r
    → Leaves zone zs number (drop i zs) found → IsRecordFindings zone zs number r own → new ≡ found ++ own → Leaves zone zs (number + 1) (drop (i + 1) zs) new
goes_on zone zs number i r found own new h is rest these added more later =
    let on : i + 1 ≡ suc i = omega arith in
    let next : drop i zs ≡ r ∷ drop (i + 1) zs =
    drop-cons zs i r h ∙ ap (λ (x : RecordValue). x ∷ drop (suc i) zs) (sym is) ∙ ap (λ (n : ℕ). r ∷ drop n zs) (sym on) in
    subst (AreFindings zone zs) (sym (ap (λ (x : List Finding). x ++ more) added ∙ append_assoc found own more))
    (rest (own ++ more) (subst (λ (left : List RecordValue). AreFindingsFrom zone zs number left (own ++ more)) (sym next) (own, more, these, later, refl)))

pub ends : (zone : List (List ℕ)) (zs : List RecordValue) (number i : ℕ) (found : List Finding) → length zs ≤ i → Leaves zone zs number (drop i zs) found
    → AreFindings zone zs found
ends zone zs number i found h rest =
    subst (AreFindings zone zs) (append-nil found)
    (rest [] (subst (λ (left : List RecordValue). AreFindingsFrom zone zs number left []) (sym (drop_all i zs h)) refl))

-- ---- the name of a server

-- the offset of the data of a record is no other
one_offset : (code a b : ℕ) → server_offset code ≡ Some a → server_offset code ≡ Some b → b ≡ a
one_offset code a b p q = let e : Some b ≡ Some a = sym q ∙ p in cc

pub no_server : (zone : List (List ℕ)) (zs : List RecordValue) (number : ℕ) (r : RecordValue) (found : List Finding) → server_offset (type_code r.record_type) ≡ None
    → (own : List Finding) × AreOfServer zone zs number r own × (found ≡ found ++ own)
no_server zone zs number r found none =
    ([], inr (λ name s. let (offset, is, after) = s in let e : None ≡ Some offset = sym none ∙ is in cc, refl), sym (append-nil found))

pub no_name : (zone : List (List ℕ)) (zs : List RecordValue) (number offset : ℕ) (r : RecordValue) (found : List Finding)
    → server_offset (type_code r.record_type) ≡ Some offset → ((name : List (List ℕ)) → ¬ (IsNameAfter (record_fields r).reader offset name))
    → (own : List Finding) × AreOfServer zone zs number r own × (found ≡ found ++ own)
no_name zone zs number offset r found at none = (
  [],
  inr (
    λ name s. let (other, is, after) = s in
        none name (subst (λ (n : ℕ). IsNameAfter (record_fields r).reader n name) (one_offset (type_code r.record_type) offset other at is) after),
    refl,
  ),
  sym (append-nil found),
)
