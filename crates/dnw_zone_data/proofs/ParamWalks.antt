-- Parameters of texts, one after another.
use Rattle.std.proofs.Common.{◌≡◌, ◌≢◌, ℕ, Bool, true, false, List, [], ◌∷◌, ◌++◌, Result, Ok, Err, IfOk, ◌-◌, length, take, drop, refl, sym, ap, ◌∙◌, subst, arith, append-nil, length-append}
use Rattle.std.specs.Prelude.{Some, None}
use Rattle.std.specs.declared.alloc.AllocError.{AllocError}
use Rattle.std.proofs.lemmas.List.{take_at, drop_at}
use Rattle.std.proofs.lemmas.Option.{same_Some}
use Rattle.dnw_zone_values.specs.Params.{ParamValue, in_key_order, params_wire}
use Rattle.dnw_data.specs.Values.{FieldValue}
use Rattle.dnw_zone_values.specs.Mandatory.{keeps_mandatory}
use Rattle.dnw_zone_values.specs.ParamTexts.{params_text}
use Rattle.dnw_zone_values.specs.ParamWords.{IsParam}
use Rattle.dnw_zone_values.specs.Inside.Steps.{WritesValue}
use Rattle.dnw_zone_values.proofs.Steps.{one_word}
use Rattle.dnw_zone_data.specs.Words.{after_spaces, param_word, after_param}
use Rattle.dnw_zone_data.specs.Appending.{Appended}
use Rattle.dnw_zone_data.specs.ParamLists.{PrintsParams, AreParamWords, AreParams}
use Rattle.dnw_zone_data.specs.Inside.ParamSteps.{LeadToParams}

-- what is printed, if anything
pub writes_params : (own old new : List ℕ) (r : Result Bool AllocError) → keeps_mandatory own ≡ true → IfOk r (WritesValue (params_text own) old new)
    → IfOk r (Appended (PrintsParams own) old new)
writes_params own old new (Err e) keeps h = h
writes_params own old new (Ok true) keeps (text, is, e) = (text, (keeps, is), e)
writes_params own old new (Ok false) keeps h = (λ text is. let no : None ≡ Some text = sym h.0 ∙ is.1 in cc, h.1)

-- the words are one list of parameters
pub one_params : (left : List ℕ) (a b : List ParamValue) → AreParamWords left a → AreParamWords left b → a ≡ b
one_params left [] [] x y = refl
one_params left [] (q ∷ b) x y = absurd (y.0 x)
one_params left (p ∷ a) [] x y = absurd (x.0 y)
one_params left (p ∷ a) (q ∷ b) x y =
    ap (λ (one : ParamValue). one ∷ a) (one_word (param_word (after_spaces left)) p q x.1 y.1) ∙ ap (λ (rest : List ParamValue). q ∷ rest) (one_params (after_param (after_spaces left)) a b x.2 y.2)

-- the octets that were appended
pub appended : (old wire all : List ℕ) (n : ℕ) → n ≡ length old → all ≡ old ++ wire → take (length all - n) (drop n all) ≡ wire
appended old wire all n at e =
    let m = length all - n in
    ap (take m) (ap (drop n) e ∙ drop_at old wire n (sym at)) ∙ ap (take m) (sym (append-nil wire)) ∙ take_at wire [] m (omega (arith, at, ap length e, length-append old wire))

-- a key that is mandatory is left out
pub not_kept : (text : List ℕ) (listed own : List ParamValue) → AreParamWords text listed → in_key_order [] listed ≡ Some own → keeps_mandatory (params_wire own) ≡ false
    → (value : FieldValue) → ¬ (AreParams text value)
not_kept text listed own words all lacks value (other, mine, also, is, keeps, e) =
    let same : own ≡ mine = same_Some own mine (sym all ∙ ap (in_key_order []) (one_params text listed other words also) ∙ is) in
    let wrong : false ≡ true = sym lacks ∙ ap (λ (ps : List ParamValue). keeps_mandatory (params_wire ps)) same ∙ keeps in
    cc

pub params_more : (text : List ℕ) (done : List ParamValue) (left : List ℕ) (p : ParamValue) → LeadToParams text done left → left ≢ [] → IsParam (param_word left) p
    → LeadToParams text (done ++ p ∷ []) (after_spaces (after_param left))
params_more text [] left p h some is = (
  subst (λ (xs : List ℕ). xs ≢ []) h some,
  subst (λ (xs : List ℕ). IsParam (param_word xs) p) h is,
  ap (λ (xs : List ℕ). after_spaces (after_param xs)) h,
)
params_more text (d ∷ done) left p h some is = (h.0, h.1, params_more (after_param (after_spaces text)) done left p h.2 some is)

pub params_end : (text : List ℕ) (done : List ParamValue) (left : List ℕ) → LeadToParams text done left → left ≡ [] → AreParamWords text done
params_end text [] left h none = sym h ∙ none
params_end text (d ∷ done) left h none = (h.0, h.1, params_end (after_param (after_spaces text)) done left h.2 none)

-- the words of a text begin with those so far, and with the next
begins : (text : List ℕ) (done listed : List ParamValue) (left : List ℕ) → LeadToParams text done left → left ≢ [] → AreParamWords text listed
    → (p : ParamValue) × (rest : List ParamValue) × (listed ≡ done ++ p ∷ rest) × IsParam (param_word left) p
begins text [] [] left h some are = absurd (some (h ∙ are))
begins text [] (p ∷ listed) left h some are = (p, listed, refl, subst (λ (xs : List ℕ). IsParam (param_word xs) p) (sym h) are.1)
begins text (d ∷ done) [] left h some are = absurd (h.0 are)
begins text (d ∷ done) (q ∷ listed) left h some are =
    let (p, rest, e, is) = begins (after_param (after_spaces text)) done listed left h.2 some are.2 in
    let same : q ≡ d = one_word (param_word (after_spaces text)) q d are.1 h.1 in
    (p, rest, ap (λ (xs : List ParamValue). q ∷ xs) e ∙ ap (λ (x : ParamValue). x ∷ done ++ p ∷ rest) same, is)

pub params_stop : (text : List ℕ) (done listed : List ParamValue) (left : List ℕ) → LeadToParams text done left → left ≢ []
    → ((p : ParamValue) → ¬ (IsParam (param_word left) p)) → AreParamWords text listed → ⊥
params_stop text done listed left h some none are = let (p, rest, e, is) = begins text done listed left h some are in none p is
