-- Parts and records leave the buffer no longer than it was, or than the maximum.
use Rattle.std.proofs.Common.{◌≡◌, ℕ, ◌+◌, ◌-◌, ◌≤◌, max, List, [], ◌∷◌, length, Ok, refl, sym, ◌∙◌, subst, arith}
use Rattle.std.specs.Int.{w16, to_be_bytes}
use Rattle.std.proofs.Math.Nat.{le-max_left, le-max_right, max-le}
use Rattle.dnw_base.specs.Names.{NameValue}
use Rattle.dnw_write.specs.Encoder.{Encoder, Writes, reserved}
use Rattle.dnw_write.specs.EncoderLaws.{StaysBounded}
use Rattle.dnw_write.specs.EmittedName.{EmitsName}
use Rattle.dnw_write.proofs.Bounds.{fills_stay_bounded, places_stay_bounded, writes_stay_bounded}
use Rattle.dnw_write.proofs.NameBack.{names_stay_bounded}
use Rattle.dnw_write_script.specs.declared.wire_record.WireData.{WireData}
use Rattle.dnw_write_script.specs.declared.wire_record.WireData.TheVariants.{Bytes, Name}
use Rattle.dnw_write_script.specs.Parts.{EmitsCounted, EmitsSized, EmitsWirePart, EmitsWireParts, Then, WirePart, Write, bytes_part, in_encoding, name_part, text_part}
use Rattle.dnw_write_script.specs.WrittenRecords.{EmitsData, EmitsInOrder, EmitsWhole, NumbersFit, data_part, wire_fixed}
use Rattle.dnw_write_script.specs.RecordLaws.{CountedStayBounded, DataStayBounded, KeepsBounded, PartStaysBounded, PartsStayBounded, RecordsStayBounded}
use Rattle.dnw_write_script.proofs.Parts.{done_bytes, done_name}

-- An accepted write goes on from the offset, within the greater of the buffer's old length and the maximum, which stays.
pub record GoesOn (v w : Encoder) : Type 0 where
  pub bounded : StaysBounded v w
  pub inside : w.offset ≤ length w.bytes
  pub on : v.offset ≤ w.offset
  pub same : w.max_size ≡ v.max_size

abbrev pub Stays : Write → Type 0
Stays write = (v w : Encoder) → v.offset ≤ length v.bytes → write v (Ok tt) w → GoesOn v w

goes_then : (v m w : Encoder) → GoesOn v m → GoesOn m w → GoesOn v w
goes_then v m w f g =
    let le : max (length m.bytes) m.max_size ≤ max (length v.bytes) v.max_size = max-le f.bounded (omega (arith, f.same, le-max_right (length v.bytes) v.max_size)) in
    record { bounded = omega (arith, g.bounded, le); inside = g.inside; on = omega (arith, f.on, g.on); same = g.same ∙ f.same }

pub stays_then : (first second : Write) → Stays first → Stays second → Stays (Then first second)
stays_then first second one two v w le (m, f, s) =
    let go = one v m le f in
    goes_then v m w go (two m w go.inside s)

-- ---- each write

pub stays_bytes : (d : List ℕ) → Stays (λ v. Writes v d)
stays_bytes d v w le h =
    let (bounded, inside) = writes_stay_bounded v w d le h in
    let (_, _, same, on) = done_bytes d v w h in
    record { bounded = bounded; inside = inside; on = on; same = same }

pub stays_name : (name : NameValue) → Stays (EmitsName name)
stays_name name v w le h =
    let (bounded, inside) = names_stay_bounded name v w le h in
    let (_, _, same, on) = done_name name v w h in
    record { bounded = bounded; inside = inside; on = on; same = same }

stays_part : (part : WirePart) → Stays (EmitsWirePart part)
stays_part (bytes_part d) v w le h = stays_bytes d v w le h
stays_part (text_part text) v w le h = stays_bytes (length text ∷ text) v w le h.1
stays_part (name_part mode name) v w le (u, h, is) =
    let go = stays_name name (in_encoding v mode) u le h in
    subst (GoesOn v) (sym is) (record { bounded = go.bounded; inside = go.inside; on = go.on; same = go.same })

pub stays_parts : (parts : List WirePart) → Stays (EmitsWireParts parts)
stays_parts [] v w le h =
    subst (GoesOn v) (sym h) (record { bounded = le-max_left (length v.bytes) v.max_size; inside = le; on = omega arith; same = refl })
stays_parts (part ∷ parts) v w le (m, one, more) =
    let go = stays_part part v m le one in
    goes_then v m w go (stays_parts parts m w go.inside more)

-- the length is filled in where it was reserved
pub stays_sized : (write : Write) → Stays write → Stays (EmitsSized write)
stays_sized write stays v w le (room, u, one, is) =
    let (bounded, end) = places_stay_bounded v 2 le room in
    let first : GoesOn v (reserved v 2) = record { bounded = bounded; inside = omega (arith, end); on = omega arith; same = refl } in
    let second = stays (reserved v 2) u first.inside one in
    let both = goes_then v (reserved v 2) u first second in
    let over = fills_stay_bounded u v.offset (to_be_bytes w16 (u.offset - (v.offset + 2))) second.inside (omega (arith, second.on)) in
    subst (GoesOn v) (sym is) (record { bounded = omega (arith, both.bounded, over); inside = omega (arith, second.inside, over); on = both.on; same = both.same })

stays_data : (rdata : WireData) → Stays (EmitsData rdata)
stays_data (Bytes bytes) v w le h = stays_part (bytes_part bytes.items) v w le h
stays_data (Name name encoding) v w le h = stays_part (data_part v.encoding v.canonical (Name name encoding)) v w le h

-- ---- the laws

pub keeps : (write : Write) → Stays write → KeepsBounded write
keeps write stays v w le h = let go = stays v w le h in (go.bounded, go.inside)

pub part_stays_bounded : PartStaysBounded
part_stays_bounded part = keeps (EmitsWirePart part) (stays_part part)

pub parts_stay_bounded : PartsStayBounded
parts_stay_bounded parts = keeps (EmitsWireParts parts) (stays_parts parts)

pub counted_stay_bounded : CountedStayBounded
counted_stay_bounded front back =
    let last : Stays (EmitsSized (EmitsWireParts back)) = stays_sized (EmitsWireParts back) (stays_parts back) in
    keeps (EmitsCounted front back) (stays_then (EmitsWireParts front) (EmitsSized (EmitsWireParts back)) (stays_parts front) last)

pub data_stay_bounded : DataStayBounded
data_stay_bounded rdata = keeps (EmitsData rdata) (stays_data rdata)

-- fields in order that are written whole or not at all
pub keeps_whole : (Fit : Type 0) (owner : NameValue) (fixed : List ℕ) (write : Write) → Stays write
    → KeepsBounded (EmitsWhole Fit (EmitsInOrder owner fixed write))
keeps_whole Fit owner fixed write stays v w le h =
    let sized : Write = EmitsSized write in
    let octets : Write = λ x. Writes x fixed in
    let last : Stays (Then octets sized) = stays_then octets sized (stays_bytes fixed) (stays_sized write stays) in
    keeps (EmitsInOrder owner fixed write) (stays_then (EmitsName owner) (Then octets sized) (stays_name owner) last) v w le h.1

pub records_stay_bounded : RecordsStayBounded
records_stay_bounded r = keeps_whole (NumbersFit r) r.owner (wire_fixed r) (EmitsData r.rdata) (stays_data r.rdata)
