-- Service parameters, and their octets in the order of their keys (RFC 9460, section 2.2).
use Rattle.std.specs.Prelude.{ℕ, ◌≡◌, ◌+◌, ◌≤◌, ⊤, Bool, true, false, ◌==◌, nat_lt, if◌then◌else◌, List, [], ◌∷◌, ◌++◌, length, flat_map, Option, Some, None, option_map}
use Rattle.std.specs.Int.{w16, to_be_bytes}

-- A parameter: its key, and the octets of its value.
pub record ParamValue : Type 0 where
  pub key : ℕ
  pub octets : List ℕ

abbrev pub param_wire : ParamValue → List ℕ
param_wire p = to_be_bytes w16 p.key ++ to_be_bytes w16 (length p.octets) ++ p.octets

-- one parameter more among those in the order of their keys, if none has its key
abbrev pub with_param : ParamValue → List ParamValue → Option (List ParamValue)
with_param p [] = Some (p ∷ [])
with_param p (q ∷ qs) =
    if p.key == q.key then None
    else if nat_lt p.key q.key then Some (p ∷ q ∷ qs)
    else option_map (λ others. q ∷ others) (with_param p qs)

abbrev pub and_then : {A B : Type 0} → Option A → (A → Option B) → Option B
and_then None f = None
and_then (Some x) f = f x

-- parameters in the order of their keys, with those that are so already, if no key is there twice
abbrev pub in_key_order : List ParamValue → List ParamValue → Option (List ParamValue)
in_key_order done [] = Some done
in_key_order done (p ∷ ps) = and_then (with_param p done) (λ more. in_key_order more ps)

-- Parameters are put in the order of their keys, or a key is there twice.
abbrev pub Sorts : List ParamValue → List ParamValue → Bool → Type 0
Sorts old new true = in_key_order [] old ≡ Some new
Sorts old new false = in_key_order [] old ≡ None

-- The key of each parameter is above that of the one before it, and none is below the least (RFC 9460, section 2.2).
abbrev pub AreAscending : ℕ → List ParamValue → Type 0
AreAscending least [] = ⊤
AreAscending least (p ∷ ps) = (least ≤ p.key) × AreAscending (p.key + 1) ps

abbrev pub params_wire : List ParamValue → List ℕ
params_wire params = flat_map param_wire params
