-- Keys that are mandatory (RFC 9460, section 8): "For self-consistency (Section 2.4.3), listed keys MUST also appear in the
-- SvcParams", and `mandatory` "MUST NOT appear in its own value-list".
use Rattle.std.specs.Prelude.{ℕ, zero, suc, Bool, true, false, ◌&&◌, ◌==◌, nat_lt, if◌then◌else◌, List, [], ◌∷◌, length, take}
use Rattle.std.specs.Int.{w16, from_be_bytes}
use Rattle.dnw_zone_values.specs.ParamValues.{is_ascending}

-- two octets each as a key
abbrev pub listed_keys : List ℕ → List ℕ
listed_keys (a ∷ b ∷ octets) = from_be_bytes w16 (a ∷ b ∷ []) ∷ listed_keys octets
listed_keys octets = []

-- the keys of parameters on the wire, after so many octets of a value (section 2.2)
abbrev pub keys_after : ℕ → List ℕ → List ℕ
keys_after (suc n) (o ∷ octets) = keys_after n octets
keys_after zero (a ∷ b ∷ c ∷ d ∷ octets) = from_be_bytes w16 (a ∷ b ∷ []) ∷ keys_after (from_be_bytes w16 (c ∷ d ∷ [])) octets
keys_after n octets = []

-- each key that is listed is among the others; both ascend, so one that was passed over is listed no more
abbrev pub are_among : List ℕ → List ℕ → Bool
are_among [] keys = true
are_among (m ∷ listed) [] = false
are_among (m ∷ listed) (k ∷ keys) = if m == k then are_among listed keys else are_among (m ∷ listed) keys

-- one key or more, which ascend, and none is 0, which is `mandatory`
abbrev pub is_list_of_keys : List ℕ → Bool
is_list_of_keys own = nat_lt 0 (length own) && is_ascending 1 own

-- parameters on the wire have no `mandatory`, or one whose keys are there
abbrev pub keeps_mandatory : List ℕ → Bool
keeps_mandatory (a ∷ b ∷ c ∷ d ∷ octets) =
    let len = from_be_bytes w16 (c ∷ d ∷ []) in
    if from_be_bytes w16 (a ∷ b ∷ []) == 0
    then is_list_of_keys (take len octets) && are_among (listed_keys (take len octets)) (keys_after len octets)
    else true
keeps_mandatory octets = true
