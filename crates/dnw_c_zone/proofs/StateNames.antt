-- What the names of a state make of it.
use Rattle.std.proofs.Common.{◌≡◌, ℕ, List, Option, Some, None, true, refl, inl, inr}
use Rattle.dnw_base.specs.Names.{NameValue}
use Rattle.dnw_c_zone.specs.Inside.StateNames.{IsNoStateName, IsOwnerForm, LacksStateName}
use Rattle.dnw_c_zone.specs.ParseCalls.{IsOrigin}
use Rattle.dnw_c_zone.specs.ZoneStates.{LacksContext, labels_of_name, origin_octets, owner_octets}
use Rattle.dnw_c_zone.specs.declared.zone_state.ZoneState.{ZoneState}

pub owner_name : (form : List ℕ) (owner : Option (List (List ℕ))) → IsOwnerForm form owner
    → (name : Option NameValue) × IsOrigin form name × (owner ≡ labels_of_name name)
owner_name form None is = (None, is, refl)
owner_name form (Some labels) is = (Some (record { is_fqdn = true; labels = labels }), (refl, is), refl)

pub lacks_origin : (zone : ZoneState) (form : List ℕ) → form ≡ origin_octets zone → LacksStateName form → LacksContext zone
lacks_origin zone form is lacks = elim (rw is at lacks) [ inl none ↦ inl none | inr other ↦ inr (inl other) ]

pub lacks_owner : (zone : ZoneState) (form : List ℕ) → form ≡ owner_octets zone → IsNoStateName form → LacksContext zone
lacks_owner zone form is lacks = inr (inr (rw is at lacks))
