-- Names that stay in the room that a state has for them.
use Rattle.std.proofs.Common.{◌≡◌, ℕ, ◌≤◌, List, ◌++◌, Option, Some, None, length, take, drop, sym, ap, ◌∙◌}
use Rattle.std.proofs.lemmas.List.{length-take-le, take-append-drop}
use Rattle.dnw_base.specs.Names.{NameValue, wire}
use Rattle.dnw_c_base.proofs.WireForms.{form_is}
use Rattle.dnw_c_zone.specs.Inside.StateNames.{NamesFit, with_state_numbers, with_origin_form, with_owner_form}
use Rattle.dnw_c_zone.specs.ParseCalls.{IsOrigin}
use Rattle.dnw_c_zone.specs.ZoneStates.{IsContextOf, labels_of_name, owner_form, zone_state_of}
use Rattle.dnw_c_zone.specs.declared.zone_place.FilePlace.{FilePlace}
use Rattle.dnw_c_zone.specs.declared.zone_state.ZoneState.{ZoneState}
use Rattle.dnw_name_read.specs.Buffers.{put}
use Rattle.dnw_zone_file.specs.declared.context.Context.{Context}

-- octets that are put where they are
room_kept : (room form : List ℕ) (len : ℕ) → len ≤ length room → take len room ≡ form → (length form ≡ len) × (put room form ≡ room)
room_kept room form len fits is =
    let size : length form ≡ len = ap length (sym is) ∙ length-take-le len room fits in
    (size, ap (λ (n : ℕ). form ++ drop n room) size ∙ ap (λ (xs : List ℕ). xs ++ drop len room) (sym is) ∙ take-append-drop len room)

keep_origin : (zone : ZoneState) (form : List ℕ) → zone.origin_len ≤ length zone.origin → take zone.origin_len zone.origin ≡ form
    → with_origin_form zone form ≡ zone
keep_origin zone form fits is =
    let (size, same) = room_kept zone.origin form zone.origin_len fits is in
    ap (λ (n : ℕ). record zone { origin_len = n; origin = put zone.origin form }) size ∙ ap (λ (xs : List ℕ). record zone { origin = xs }) same

keep_owner : (zone : ZoneState) (form : List ℕ) → zone.owner_len ≤ length zone.owner → take zone.owner_len zone.owner ≡ form
    → with_owner_form zone form ≡ zone
keep_owner zone form fits is =
    let (size, same) = room_kept zone.owner form zone.owner_len fits is in
    ap (λ (n : ℕ). record zone { owner_len = n; owner = put zone.owner form }) size ∙ ap (λ (xs : List ℕ). record zone { owner = xs }) same

-- the octets of an owner, if there is one
owner_is : (form : List ℕ) (name : Option NameValue) → IsOrigin form name → form ≡ owner_form (labels_of_name name)
owner_is form None is = is
owner_is form (Some name) is = let (k, at) = is.1 in form_is form name.labels k at

module _ (zone : ZoneState) (before after : Context) (at : FilePlace) (is : IsContextOf zone before) (fit : NamesFit zone) where
  origin_kept : after.origin ≡ before.origin → with_origin_form (with_state_numbers zone after at) (wire after.origin.labels) ≡ with_state_numbers zone after at
  origin_kept same =
      let (_, (_, (k, name)), _, _, _, _, _, _) = is in
      keep_origin (with_state_numbers zone after at) (wire after.origin.labels) fit.0
      (form_is _ before.origin.labels k name ∙ ap (λ (n : NameValue). wire n.labels) (sym same))

  owner_kept : after.owner ≡ before.owner → with_owner_form (with_state_numbers zone after at) (owner_form after.owner) ≡ with_state_numbers zone after at
  owner_kept same =
      let (name, _, form, labels, _, _, _, _) = is in
      keep_owner (with_state_numbers zone after at) (owner_form after.owner) fit.1
      (owner_is _ name form ∙ ap owner_form (sym labels ∙ sym same))

  -- the state after an entry that leaves the owner as it was, and after one that leaves the origin, or both
  pub after_origin : after.owner ≡ before.owner → with_origin_form (with_state_numbers zone after at) (wire after.origin.labels) ≡ zone_state_of zone after at
  after_origin same = ap (λ (z : ZoneState). with_origin_form z (wire after.origin.labels)) (sym (owner_kept same))

  pub after_owner : after.origin ≡ before.origin → with_owner_form (with_state_numbers zone after at) (owner_form after.owner) ≡ zone_state_of zone after at
  after_owner same = ap (λ (z : ZoneState). with_owner_form z (owner_form after.owner)) (sym (origin_kept same))

  pub after_neither : (after.origin ≡ before.origin) × (after.owner ≡ before.owner) → with_state_numbers zone after at ≡ zone_state_of zone after at
  after_neither (origin, owner) = sym (owner_kept owner) ∙ after_owner origin
