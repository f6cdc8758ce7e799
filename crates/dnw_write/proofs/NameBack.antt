-- A name that was written is read back, whole or with a pointer.
use Rattle.std.proofs.Common.{◌≡◌, ◌≢◌, ℕ, suc, ◌+◌, ◌-◌, ◌/◌, ◌%◌, ◌<◌, ◌≤◌, List, [], ◌∷◌, ◌++◌, length, map, drop, slice_get, Option, Some, None, Ok, refl, sym, ap, ◌∙◌, subst, append_assoc, arith, zero-add}
use Rattle.std.specs.List.{AllByRecursion}
use Rattle.std.specs.Char.{to_ascii_lowercase}
use Rattle.std.proofs.Math.Nat.{div-add-mod', le-max_left, le-max_right}
use Rattle.std.proofs.Math.Seq.{drop-nil}
use Rattle.std.proofs.lemmas.List.{length-append, length-take-le, length-map, append-nil}
use Rattle.dnw_base.specs.Labels.{IsLabel}
use Rattle.dnw_write.specs.declared.encoder.modes.NameEncoding.{NameEncoding}
use Rattle.dnw_write.specs.declared.encoder.modes.NameEncoding.TheVariants.{Compressed, Uncompressed, UncompressedLowercase}
use Rattle.dnw_base.specs.Names.{AreLabels, encoded_size, labels_wire, wire, lower}
use Rattle.dnw_name_read.specs.Reading.{Reads, NameAt, pointer, target}
use Rattle.dnw_base.proofs.Wires.{length_wire, encoded_size_cons}
use Rattle.dnw_name_read.proofs.Back.{Reads_wire, Reads_front, slice_get_seam}
use Rattle.dnw_name_read.proofs.Stand.{Reads_limited}
use Rattle.dnw_name_read.proofs.Counts.{Reads_own}
use Rattle.dnw_write.specs.Encoder.{Encoder, fresh}
use Rattle.dnw_write.specs.EmittedName.{EmitsAs, Chooses, Share, form, in_mode, pointer_to, so_far}
use Rattle.dnw_write.specs.EncoderLaws.{StaysBounded, NameIsRead, NamesStayBounded, NamesTakeNoMore, PointersSave, NameComesBack}
use Rattle.dnw_write.proofs.Bounds.{length_written}
use Rattle.dnw_write_suffixes.proofs.CandidateLists.{length_labels_wire, not_nil}
use Rattle.dnw_write.proofs.Emission.{labels_wire_append}
use Rattle.dnw_write.proofs.Suffixes.{length_all}

-- ---- a pointer after labels

pub pointer_leads : (place : ℕ) → target (192 + place / 256) (place % 256) ≡ place
pointer_leads place = omega (arith, div-add-mod' place 256)

pub each_front : (front back : List (List ℕ)) → AllByRecursion IsLabel (front ++ back) → AllByRecursion IsLabel front
each_front [] back all = tt
each_front (l ∷ front) back all = (all.0, each_front front back all.1)

pub each_back : (front back : List (List ℕ)) → AllByRecursion IsLabel (front ++ back) → AllByRecursion IsLabel back
each_back [] back all = all
each_back (l ∷ front) back all = each_back front back all.1

-- labels and a pointer are read after a message that has the rest of the name at the pointer's place
pub Reads_shared : (b more : List ℕ) (front back : List (List ℕ)) (place end pointers : ℕ) → AllByRecursion IsLabel front
    → Reads b place place None back end pointers
    → Reads (b ++ (labels_wire front ++ (pointer_to place ++ more))) (length b) (length b) None (front ++ back)
    (length b + length (labels_wire front) + 2) (suc pointers)
Reads_shared b more front back place end pointers all r =
    let octets = pointer_to place in
    let high = 192 + place / 256 in
    let low = place % 256 in
    let start = b ++ labels_wire front in
    let whole = b ++ (labels_wire front ++ (octets ++ more)) in
    let q = length b + length (labels_wire front) in
    let own = Reads_own r in
    let parts : whole ≡ start ++ (high ∷ (low ∷ more)) = sym (append_assoc b (labels_wire front) (octets ++ more)) in
    let parts2 : whole ≡ (start ++ high ∷ []) ++ (low ∷ more) = parts ∙ sym (append_assoc start (high ∷ []) (low ∷ more)) in
    let size : length start ≡ q = length-append b (labels_wire front) in
    let first : slice_get whole q ≡ Some high = rw parts (slice_get_seam start (low ∷ more) high q (sym size)) in
    let second : slice_get whole (q + 1) ≡ Some low = rw parts2 (slice_get_seam (start ++ high ∷ []) more low (q + 1) (omega (arith, size, length-append start (high ∷ [])))) in
    let leads = pointer_leads place in
    let followed : Reads whole place place (Some (length b)) back end pointers = Reads_limited (labels_wire front ++ (octets ++ more)) r in
    let prior : target high low < length b = omega (arith, leads, own) in
    let here : Reads whole q (length b) None back (q + 2) (suc pointers) =
    pointer high low tt first (omega arith) second prior (subst (λ t. Reads whole t t (Some (length b)) back end pointers) (sym leads) followed) in
    Reads_front whole b (octets ++ more) front back (length b) q (length b) (q + 2) (suc pointers) refl refl refl all here

-- ---- emitted names

-- a name that was written whole is read at its start
whole_back : (v w : Encoder) (ls : List (List ℕ)) → AreLabels ls → v.offset ≤ length v.bytes → EmitsAs v ls None (Ok tt) w → NameAt w.bytes v.offset ls w.offset 0
whole_back v w ls are within h =
    let before = so_far v in
    let behind = drop (v.offset + length (wire ls)) v.bytes in
    let bytes : w.bytes ≡ before ++ (wire ls ++ behind) = ap (λ (e : Encoder). e.bytes) h.1 in
    let end : w.offset ≡ v.offset + encoded_size ls = ap (λ (e : Encoder). e.offset) h.1 ∙ ap (λ (n : ℕ). v.offset + n) (length_wire ls) in
    let start : v.offset ≡ length before = sym (length-take-le v.offset v.bytes within) in
    record { reads = Reads_wire w.bytes before behind ls v.offset v.offset w.offset start end bytes are.each; fits = are.fit }

-- and so is one that was written with a pointer
read_back : (v w : Encoder) (ls : List (List ℕ)) (choice : Option Share) → AreLabels ls → v.offset ≤ length v.bytes → Chooses v ls choice
    → EmitsAs v ls choice (Ok tt) w → (pointers : ℕ) × NameAt w.bytes v.offset ls w.offset pointers
read_back v w ls None are within chosen h = (0, whole_back v w ls are within h)
read_back v w ls (Some share) are within (_, points) h =
    let b = so_far v in
    let front = share.front in
    let back = share.back in
    let u = points.usable.usable in
    let all = each_front front back (subst (λ x. AllByRecursion IsLabel x) points.parts are.each) in
    let start : length b ≡ v.offset = length-take-le v.offset v.bytes within in
    let octets = pointer_to share.target in
    let bytes : w.bytes ≡ b ++ (labels_wire front ++ (octets ++ [])) = ap (λ (e : Encoder). e.bytes) h.1 in
    let end : length b + length (labels_wire front) + 2 ≡ w.offset =
    omega (arith, start, ap (λ (e : Encoder). e.offset) h.1, length-append (labels_wire front) octets) in
    let r = Reads_shared b [] front back share.target u.end u.pointers all u.name.reads in
    let there : Reads w.bytes v.offset v.offset None ls w.offset (suc u.pointers) =
    rw (bytes, points.parts) (subst (λ e. Reads (b ++ (labels_wire front ++ (octets ++ []))) v.offset v.offset None (front ++ back) e (suc u.pointers)) end
    (subst (λ p. Reads (b ++ (labels_wire front ++ (octets ++ []))) p p None (front ++ back) (length b + length (labels_wire front) + 2) (suc u.pointers)) start r)) in
    (suc u.pointers, record { reads = there; fits = are.fit })

pub name_is_read : NameIsRead
name_is_read name v w within h = read_back v w (in_mode v.encoding name.labels) h.choice h.are_labels within h.chooses h.written_as

-- over no bytes there is nothing to point at
no_choice : (w : Encoder) (ls : List (List ℕ)) (choice : Option Share) → Chooses (fresh [] 0) ls choice → choice ≡ None
no_choice w ls None chosen = refl
no_choice w ls (Some share) (_, points) = absurd (not_nil points.usable.before points.usable.after (share.target, labels_wire share.back) (sym points.usable.usable.split))

pub name_comes_back : NameComesBack
name_comes_back name w h =
    let ls = name.labels in
    let plain : EmitsAs (fresh [] 0) ls None (Ok tt) w = subst (λ choice. EmitsAs (fresh [] 0) ls choice (Ok tt) w) (no_choice w ls h.choice h.chooses) h.written_as in
    let read : NameAt w.bytes 0 ls w.offset 0 = whole_back (fresh [] 0) w ls h.are_labels (omega arith) plain in
    let bytes : w.bytes ≡ wire ls ++ [] = ap (λ (e : Encoder). e.bytes) plain.1 ∙ ap (λ (xs : List ℕ). wire ls ++ xs) (drop-nil (0 + length (wire ls))) in
    let end : length w.bytes ≡ w.offset =
    ap length (bytes ∙ append-nil (wire ls)) ∙ sym (ap (λ (e : Encoder). e.offset) plain.1 ∙ zero-add (length (wire ls))) in
    record { end = w.offset; name = read; moved = ap (λ (n : ℕ). record { bytes = w.bytes; index = n }) end }

-- ---- their size

length_lower : (ls : List (List ℕ)) → encoded_size (lower ls) ≡ encoded_size ls
length_lower [] = refl
length_lower (l ∷ ls) =
    omega (arith, encoded_size_cons (map to_ascii_lowercase l) (lower ls), encoded_size_cons l ls, length-map l to_ascii_lowercase, length_lower ls)

pub size_in_mode : (mode : NameEncoding) (ls : List (List ℕ)) → encoded_size (in_mode mode ls) ≡ encoded_size ls
size_in_mode UncompressedLowercase ls = length_lower ls
size_in_mode Compressed ls = refl
size_in_mode Uncompressed ls = refl

-- the part that a pointer stands for has two bytes at least
part_saved : (ls front back : List (List ℕ)) → AreLabels ls → ls ≡ front ++ back → back ≢ [] → length (labels_wire front) + 2 ≤ length (labels_wire ls)
part_saved ls front [] are parts some = absurd (some refl)
part_saved ls front (l ∷ back) are parts some =
    let label = (each_back front (l ∷ back) (subst (λ x. AllByRecursion IsLabel x) parts are.each)).0 in
    omega (
      arith,
      ap (λ x. length (labels_wire x)) parts,
      ap length (labels_wire_append front (l ∷ back)),
      length-append (labels_wire front) (labels_wire (l ∷ back)),
      length_labels_wire l back,
      label.not_empty,
    )

pub pointers_save : PointersSave
pointers_save v ls front back place are points =
    omega (arith, part_saved ls front back are points.parts points.some, length_all ls, length-append (labels_wire front) (pointer_to place))

no_more : (v w : Encoder) (ls : List (List ℕ)) (choice : Option Share) → AreLabels ls → Chooses v ls choice
    → EmitsAs v ls choice (Ok tt) w → w.offset ≤ v.offset + encoded_size ls
no_more v w ls None are chosen h = omega (arith, ap (λ (e : Encoder). e.offset) h.1, length_wire ls)
no_more v w ls (Some share) are (_, points) h =
    omega (arith, ap (λ (e : Encoder). e.offset) h.1, pointers_save v ls share.front share.back share.target are points)

pub names_take_no_more : NamesTakeNoMore
names_take_no_more name v w h =
    let ls = in_mode v.encoding name.labels in
    omega (arith, no_more v w ls h.choice h.are_labels h.chooses h.written_as, size_in_mode v.encoding name.labels)

bounded : (v w : Encoder) (ls : List (List ℕ)) (choice : Option Share) → AreLabels ls → v.offset ≤ length v.bytes → Chooses v ls choice
    → EmitsAs v ls choice (Ok tt) w → StaysBounded v w × (w.offset ≤ length w.bytes)
bounded v w ls None are within chosen h =
    let size : length w.bytes ≡ v.offset + length (wire ls) + (length v.bytes - (v.offset + length (wire ls))) =
    ap (λ (e : Encoder). length e.bytes) h.1 ∙ length_written v.offset v.bytes (wire ls) within in
    let end = ap (λ (e : Encoder). e.offset) h.1 in
    (omega (arith, size, h.0, length_wire ls, le-max_left (length v.bytes) v.max_size, le-max_right (length v.bytes) v.max_size), omega (arith, size, end))
bounded v w ls (Some share) are within (_, points) h =
    let d = form ls (Some share) in
    let size : length w.bytes ≡ v.offset + length d = ap (λ (e : Encoder). length e.bytes) h.1 ∙ (length-append (so_far v) d ∙ ap (λ n. n + length d) (length-take-le v.offset v.bytes within)) in
    let saved = pointers_save v ls share.front share.back share.target are points in
    let end = ap (λ (e : Encoder). e.offset) h.1 in
    (omega (arith, size, h.0, saved, length_all ls, le-max_right (length v.bytes) v.max_size), omega (arith, size, end))

pub names_stay_bounded : NamesStayBounded
names_stay_bounded name v w within h =
    bounded v w (in_mode v.encoding name.labels) h.choice h.are_labels within h.chooses h.written_as
