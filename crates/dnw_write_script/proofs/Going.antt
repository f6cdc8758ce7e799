-- How far the writes of a record go.
use Rattle.std.proofs.Common.{◌≡◌, ℕ, ◌+◌, ◌-◌, ◌≤◌, true, List, length, Ok, Err, inl, inr, refl, sym, ap, ◌∙◌, subst, arith}
use Rattle.std.specs.Result.{is_err}
use Rattle.std.specs.Int.{w16, to_be_bytes}
use Rattle.dnw_base.specs.Names.{NameValue}
use Rattle.dnw_base.specs.declared.error.ProtoError.TheVariants.{MaxBufferSizeExceeded, Memory}
use Rattle.dnw_write.specs.Encoder.{Encoder, HasRoom, Writes, moved_to, reserved, written}
use Rattle.dnw_write.specs.Marks.{mark_of, rewound}
use Rattle.dnw_write.specs.Emitting.{EmitsAt, Outcome}
use Rattle.dnw_write.specs.EmittedName.{EmitsName}
use Rattle.dnw_write_script.specs.Parts.{EmitsSized, Then, Write}
use Rattle.dnw_write_script.specs.Inside.Going.{WritesOn}
use Rattle.dnw_write_script.specs.WrittenRecords.{EmitsData, EmitsWhole, InOrder}
use Rattle.dnw_write_script.specs.declared.wire_record.WireData.{WireData}
use Rattle.dnw_write_script.proofs.Parts.{Fits, fits_bytes, fits_data, fits_name, refused_room}

-- a write that fits some number of octets
fits_on : {n : ℕ} {write : Write} → Fits n write → WritesOn write
fits_on fits v (Ok tt) w h = let (_, within, same, on) = fits.done v w h in (on, omega (arith, within, same))
fits_on fits v (Err error) w h = ((fits.refused v w error h).0, tt)

pub name_on : (name : NameValue) → WritesOn (EmitsName name)
name_on name = fits_on (fits_name name)

pub wire_data_on : (rdata : WireData) → WritesOn (EmitsData rdata)
wire_data_on rdata = fits_on (fits_data rdata)

then_on : (first second : Write) → WritesOn first → WritesOn second → WritesOn (Then first second)
then_on first second one two v (Ok tt) w (m, f, s) =
    let (on, _) = one v (Ok tt) m f in
    let (more, within) = two m (Ok tt) w s in
    (omega (arith, on, more), within)
then_on first second one two v (Err error) w (inl f) = one v (Err error) w f
then_on first second one two v (Err error) w (inr (m, f, s)) =
    let (on, _) = one v (Ok tt) m f in
    let (more, _) = two m (Err error) w s in
    (omega (arith, on, more), tt)

sized_on : (write : Write) → WritesOn write → WritesOn (EmitsSized write)
sized_on write goes v (Ok tt) w (room, u, h, is) =
    let (on, within) = goes (reserved v 2) (Ok tt) u h in
    subst (λ (x : Encoder). (v.offset ≤ x.offset) × (x.offset ≤ x.max_size)) (sym is) (omega (arith, on), within)
sized_on write goes v (Err error) w (inl h) =
    let (same, _) = refused_room v (reserved v 2) w 2 error h in (omega (arith, ap (λ (x : Encoder). x.offset) same), tt)
sized_on write goes v (Err error) w (inr (room, h)) = let (on, _) = goes (reserved v 2) (Err error) w h in (omega (arith, on), tt)

pub order_on : (first : Write) (fixed : List ℕ) (last : Write) → WritesOn first → WritesOn last → WritesOn (InOrder first fixed last)
order_on first fixed last one two = then_on first _ one (then_on (λ v. Writes v fixed) _ (fits_on (fits_bytes fixed)) (sized_on last two))

-- a write that failed is undone
pub undone : (Fit : Type 0) (fields : Write) (v u : Encoder) (outcome : Outcome) (w : Encoder) → is_err outcome ≡ true → fields v outcome u
    → w ≡ rewound u (mark_of v) → EmitsWhole Fit fields v outcome w
undone Fit fields v u (Ok tt) w wrong h is = absurd cc
undone Fit fields v u (Err error) w failed h is = (u, h, is)

-- ---- the length

-- The length is written into its placeholder, which always has room.
pub sized : (write : Write) (v p u w : Encoder) (place number : ℕ) (outcome : Outcome) → HasRoom v 2 → p ≡ reserved v 2 → write p (Ok tt) u
    → place ≡ v.offset → place + 2 + number ≡ u.offset → u.offset ≤ u.max_size → u.offset ≤ length u.bytes
    → EmitsAt {X = ℕ} (λ n e. Writes e (to_be_bytes w16 n)) place number u outcome w → EmitsSized write v outcome w
sized write v p u w place number (Ok tt) room is one at size within inside (u', (fits, put), moved) =
    let many : number ≡ u.offset - (v.offset + 2) = omega (arith, at, size) in
    let filled : w ≡ moved_to (written (moved_to u place) (to_be_bytes w16 number)) u.offset = moved ∙ ap (λ e. moved_to e u.offset) put in
    (room, u, subst (λ e. write e (Ok tt) u) is one, filled ∙ rw (at, many) refl)
sized write v p u w place number (Err Memory) room is one at size within inside (u', (fits, grows, put), moved) = absurd (omega (arith, size, inside, grows))
sized write v p u w place number (Err (MaxBufferSizeExceeded most)) room is one at size within inside (u', (over, same, put), moved) = absurd (omega (arith, size, within, over))
sized write v p u w place number (Err error) room is one at size within inside (u', none, moved) = absurd none
