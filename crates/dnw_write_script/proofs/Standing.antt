-- What holds of an encoder in a run: its bytes are those of the chunks so far, the chunks' pieces are in them, and the
-- candidates are usable, both whatever values are in the placeholders.
use Rattle.std.proofs.Common.{◌≡◌, ℕ, ◌+◌, ◌-◌, ◌≤◌, false, Option, Some, None, Ok, List, [], ◌∷◌, ◌++◌, length, map, slice_range, refl, sym, ap, ◌∙◌, subst, append_assoc, arith, suc, ◌<◌, add-zero}
use Rattle.std.specs.Int.{w16, to_be_bytes}
use Rattle.std.proofs.lemmas.List.{length-append, append-nil}
use Rattle.std.proofs.lemmas.Grind.{flat_map-append}
use Rattle.std.specs.List.{All, AllByRecursion, Contains}
use Rattle.std.proofs.lemmas.List.Elements.{All-append, All-contains, All-weaker}
use Rattle.std.proofs.Math.Nat.{add_assoc}
use Rattle.dnw_base.specs.Limits.{max_message}
use Rattle.dnw_base.specs.Names.{NameValue, wire, labels_wire, AreLabels}
use Rattle.dnw_base.proofs.Wires.{length_wire}
use Rattle.dnw_write_suffixes.specs.Candidates.{Candidate}
use Rattle.dnw_write.specs.Encoder.{Encoder, Writes, filled, mode_of_rdata, reserved, CandidatesPrecede}
use Rattle.dnw_write.specs.EmittedName.{Chooses, EmitsName, Share, emitted, form, in_mode, is_compressed, newly_kept}
use Rattle.dnw_write.specs.EmittingLaws.{frame, frame_same, frames_follow}
use Rattle.dnw_write.specs.Emitting.{Frame}
use Rattle.dnw_write.specs.NameFrames.{frame_name}
use Rattle.dnw_write.proofs.NameBack.{names_take_no_more, size_in_mode, Reads_shared, each_back, each_front}
use Rattle.dnw_write_script.specs.declared.wire_record.WireRecord.{WireRecord}
use Rattle.dnw_write_script.specs.declared.wire_record.WireData.{WireData}
use Rattle.dnw_write_script.specs.declared.wire_record.WireData.TheVariants as rdata
use Rattle.dnw_write_script.specs.Parts.{EmitsWirePart, EmitsWireParts, WirePart, bytes_part, in_encoding, name_part, text_part, with_length}
use Rattle.dnw_write_script.specs.RecordFrames.{frame_reserved, frame_wire_part}
use Rattle.dnw_write_script.specs.WrittenRecords.{EmitsData, EmitsFields, NumbersFit, wire_fixed}
use Rattle.dnw_name_read.proofs.Copying.{slice_range_split}
use Rattle.dnw_write_script.proofs.Laying.{added, emitted_bytes, filled_bytes, full_size, reserved_bytes}
use Rattle.dnw_base.specs.Labels.{IsLabel}
use Rattle.dnw_name_form.specs.Inside.WireBytes.{labels_of}
use Rattle.dnw_name_form.proofs.Wires.{labels_of_wire}
use Rattle.dnw_name_read.specs.Reading.{Reads, NameAt}
use Rattle.dnw_name_read.proofs.Back.{Reads_wire}
use Rattle.dnw_name_read.proofs.Counts.{Reads_labels, Reads_own}
use Rattle.dnw_name_read.proofs.Stand.{Reads_append}
use Rattle.dnw_write_script.proofs.Kept.{back_of, both_parts, each-kept, emitted_candidates, form_tail, front_of, size_back, suffix-split, tail_of, target_has}
use Rattle.dnw_write_script.specs.Pieces.{BytesStand, DataStand, NameStands, PieceAt, RecordStands, wire_piece}
use Rattle.dnw_write_script.proofs.Chunks.{Begins, Chunk, Content, MayBe, Standing, Stands, begins_first, begins_laid, begins_others, begins_split, bytes_stand, bytes_of, ends_of, laid, of_part, piece_in, piece_of, place, standing_join, standing_split, upto, upto_laid, wrote}
use Rattle.dnw_write_script.specs.Runs.{IsUsefulIn}

-- ---- what is usable

-- labels are known by their bytes
pub same_labels : (xs ys : List (List ℕ)) → AllByRecursion IsLabel xs → AllByRecursion IsLabel ys → labels_wire xs ≡ labels_wire ys → xs ≡ ys
same_labels xs ys all each e =
    sym (labels_of_wire xs all) ∙ (ap (λ (b : List ℕ). labels_of (b ++ 0 ∷ [])) e ∙ labels_of_wire ys each)

-- The candidates are usable in a message.
abbrev pub AreUsable : List ℕ → List Candidate → Type 0
AreUsable x cs = All (IsUsefulIn x) cs

-- They are before its end, and stay usable when bytes follow.
pub usable_precede : (y : List ℕ) (v : Encoder) → length y ≡ v.offset → AreUsable y v.candidates → CandidatesPrecede v
usable_precede y v size = All-weaker (IsUsefulIn y) (λ c. c.0 < v.offset) (λ c u. let own = Reads_own u.name.reads in omega (arith, own, size)) v.candidates

pub usable_append : (y more : List ℕ) (cs : List Candidate) → AreUsable y cs → AreUsable (y ++ more) cs
usable_append y more = All-weaker (IsUsefulIn y) (IsUsefulIn (y ++ more)) (λ c u.
    record { labels = u.labels; bytes = u.bytes; end = u.end; pointers = u.pointers; name = record { reads = Reads_append more u.name.reads; fits = u.name.fits } })

-- one that has the bytes of labels is read as these labels
pub usable_read : (y : List ℕ) (cs : List Candidate) (offset : ℕ) (ls : List (List ℕ)) → AreUsable y cs → AllByRecursion IsLabel ls
    → Contains cs (offset, labels_wire ls) → (end : ℕ) × (pointers : ℕ) × NameAt y offset ls end pointers
usable_read y cs offset ls usable are has =
    let u = All-contains (IsUsefulIn y) cs (offset, labels_wire ls) usable has in
    (u.end, u.pointers, rw (same_labels u.labels ls (Reads_labels u.name.reads) are (sym u.bytes)) at u.name)

-- ---- what is read of a name

-- Labels of the front, and what follows them, are read after bytes in which the candidates are usable.
tail_read : (y more : List ℕ) (v : Encoder) (ls : List (List ℕ)) (choice : Option Share) (m : List (List ℕ)) → Chooses v ls choice → AreUsable y v.candidates
    → AllByRecursion IsLabel (m ++ back_of choice)
    → (k : ℕ) × Reads (y ++ (tail_of m choice ++ more)) (length y) (length y) None (m ++ back_of choice) (length y + length (tail_of m choice)) k
tail_read y more v ls None m chosen usable each =
    let read = Reads_wire (y ++ (wire m ++ more)) y more m (length y) (length y) (length y + length (wire m)) refl (omega (arith, length_wire m)) refl (each_front m [] each) in
    (0, rw append-nil read)
tail_read y more v ls (Some share) m chosen usable each =
    let (end, pointers, name) = usable_read y v.candidates share.target share.back usable (each_back m share.back each) (target_has v ls share chosen) in
    let read = Reads_shared y more m share.back share.target end pointers (each_front m share.back each) name.reads in
    (suc pointers, rw (append_assoc, length-append, ← add_assoc) read)

module _ (y more : List ℕ) (v : Encoder) (ls : List (List ℕ)) (choice : Option Share) (are : AreLabels ls) (chosen : Chooses v ls choice)
    (usable : AreUsable y v.candidates) where
  -- Each suffix that begins within the front is there.
  suffix-read : (f m : List (List ℕ)) → front_of ls choice ≡ f ++ m
      → (k : ℕ) × NameAt (y ++ (form ls choice ++ more)) (length y + length (labels_wire f)) (m ++ back_of choice) (length y + length (form ls choice)) k
  suffix-read f m front_is =
      let rest = m ++ back_of choice in
      let split = suffix-split v ls choice chosen f m front_is in
      let each = each_back f rest (rw split at are.each) in
      let (k, read) = tail_read (y ++ labels_wire f) more v ls choice m chosen (usable_append y (labels_wire f) v.candidates usable) each in
      (k, record { reads = rw (form_tail ls choice f m front_is) (simp (length-append, append_assoc, add_assoc) (simp (length-append, append_assoc, add_assoc) at read)); fits = omega (arith, are.fit, size_back ls f rest split) })

  -- So the candidates are usable once the name is written.
  usable-emitted : length y ≡ v.offset → AreUsable (y ++ (form ls choice ++ more)) (emitted v ls choice).candidates
  usable-emitted size =
      let x = y ++ (form ls choice ++ more) in
      rw (emitted_candidates v ls choice chosen (usable_precede y v size usable))
      (All-append (IsUsefulIn x) v.candidates (newly_kept v ls choice) (usable_append y (form ls choice ++ more) v.candidates usable)
      (each-kept v ls choice chosen (IsUsefulIn x) (λ f l m front_is.
      let (k, read) = suffix-read f (l ∷ m) front_is in
      record { labels = l ∷ (m ++ back_of choice); bytes = refl; end = v.offset + length (form ls choice); pointers = k; name = rw size at read })))

-- ---- what a write adds

-- It adds bytes. After any bytes in which the candidates were usable, this holds of the message, and the candidates are usable.
pub record Lays (v w : Encoder) (P : List ℕ → Type 0) : Type 0 where
  pub d : List ℕ
  pub bytes : w.bytes ≡ v.bytes ++ d
  pub offset : w.offset ≡ v.offset + length d
  pub there : (y more : List ℕ) → length y ≡ v.offset → AreUsable y v.candidates → P (y ++ (d ++ more)) × AreUsable (y ++ (d ++ more)) w.candidates

lays_map : {v w : Encoder} {P Q : List ℕ → Type 0} → ((x : List ℕ) → P x → Q x) → Lays v w P → Lays v w Q
lays_map to one = record { d = one.d; bytes = one.bytes; offset = one.offset; there = λ y more size usable. let (p, after) = one.there y more size usable in (to _ p, after) }

lays_then : {v m w : Encoder} {P Q : List ℕ → Type 0} → Lays v m P → Lays m w Q → Lays v w (λ x. P x × Q x)
lays_then {v} one two = record {
  d = one.d ++ two.d;
  bytes = two.bytes ∙ rw one.bytes (append_assoc v.bytes one.d two.d);
  offset = omega (arith, one.offset, two.offset, length-append one.d two.d);
  there = λ y more size usable.
      let (q, after) = two.there (y ++ one.d) more (omega (arith, size, one.offset, length-append y one.d)) (rw append-nil at (one.there y [] size usable).1) in
      rw (append_assoc one.d two.d more) (((one.there y (two.d ++ more) size usable).0, rw append_assoc at q), rw append_assoc at after);
}

lays_bytes : (v w : Encoder) (d : List ℕ) → v.offset ≡ length v.bytes → Writes v d (Ok tt) w → Lays v w (λ x. BytesStand x d v.offset w.offset)
lays_bytes v w d e h =
    rw h.1 (record {
      d = d;
      bytes = added v _ d e refl;
      offset = refl;
      there = λ y more size usable. (bytes_stand _ y d more v.offset refl size, usable_append y (d ++ more) v.candidates usable);
    })

lays_name : (name : NameValue) (v w : Encoder) → v.offset ≡ length v.bytes → EmitsName name v (Ok tt) w
    → Lays v w (λ x. NameStands x v.encoding name.labels v.offset w.offset)
lays_name name v w e h =
    let ls = in_mode v.encoding name.labels in
    let made = h.written_as.1 in
    let (bytes, moved) = emitted_bytes v ls h.choice e in
    let offset = ap (λ (x : Encoder). x.offset) made ∙ moved in
    let full = λ (not : is_compressed v.encoding ≡ false). offset ∙ ap (λ n. v.offset + n) (full_size v ls h.choice h.chooses not ∙ size_in_mode v.encoding name.labels) in
    record {
      d = form ls h.choice;
      bytes = ap (λ (x : Encoder). x.bytes) made ∙ bytes;
      offset = offset;
      there = λ y more size usable.
          let (k, read) = suffix-read y more v ls h.choice h.are_labels h.chooses usable [] (front_of ls h.choice) refl in
          let after = usable-emitted y more v ls h.choice h.are_labels h.chooses usable size in
          ((k, rw (add-zero, ← both_parts v ls h.choice h.chooses, size, ← offset) at read, names_take_no_more name v w h, full), rw (← made) at after);
    }

lays_part : (part : WirePart) (v w : Encoder) → v.offset ≡ length v.bytes → EmitsWirePart part v (Ok tt) w
    → Lays v w (λ x. PieceAt x (wire_piece part) v.offset w.offset)
lays_part (bytes_part d) v w e h = lays_bytes v w d e h
lays_part (text_part d) v w e h = lays_bytes v w (length d ∷ d) e h.1
lays_part (name_part mode name) v w e (u, h, is) =
    let one = lays_name name (in_encoding v mode) u e h in
    rw is (record { d = one.d; bytes = one.bytes; offset = one.offset; there = one.there })

-- the number of octets of what follows it is filled in
lays_sized : {v u w : Encoder} {P : List ℕ → Type 0} → v.offset ≡ length v.bytes → Lays (reserved v 2) u P → w ≡ with_length u v.offset
    → Lays v w (λ x. BytesStand x (to_be_bytes w16 (w.offset - (v.offset + 2))) v.offset (v.offset + 2) × P x)
lays_sized {v} {u} {w} e one is =
    let two = to_be_bytes w16 (u.offset - (v.offset + 2)) in
    let whole : u.bytes ≡ v.bytes ++ (to_be_bytes w16 0 ++ one.d) = cc (one.bytes, reserved_bytes v e, append_assoc v.bytes (to_be_bytes w16 0) one.d) in
    rw is (record {
      d = two ++ one.d;
      bytes = filled_bytes u v.bytes (to_be_bytes w16 0) two one.d v.offset whole (sym e) refl;
      offset = omega (arith, one.offset);
      there = λ y more size usable.
          let far : length (y ++ two) ≡ v.offset + 2 = omega (arith, size, length-append y two) in
          let (p, after) = one.there (y ++ two) more far (usable_append y two v.candidates usable) in
          ((bytes_stand _ y two (one.d ++ more) v.offset refl size, rw append_assoc at p), rw append_assoc at after);
    })

-- ---- records

-- bytes that are there one after the other
bytes_join : (b d e : List ℕ) (p q r : ℕ) → BytesStand b d p q → BytesStand b e q r → BytesStand b (d ++ e) p r
bytes_join b d e p q r h more =
    let parts = slice_range_split b p q r (omega (arith, h.1)) (omega (arith, more.1)) in
    (parts ∙ ap (λ (x : List ℕ). x ++ slice_range b q r) h.0 ∙ ap (λ (x : List ℕ). d ++ x) more.0, omega (arith, length-append d e, h.1, more.1), more.2)

lays_data : (d : WireData) (v w : Encoder) → v.offset ≡ length v.bytes → EmitsData d v (Ok tt) w
    → Lays v w (λ x. DataStand x v.encoding v.canonical d v.offset w.offset)
lays_data (rdata.Bytes bytes) v w e h = lays_part (bytes_part bytes.items) v w e h
lays_data (rdata.Name name encoding) v w e h = lays_part (name_part (mode_of_rdata encoding v.canonical v.encoding) name) v w e h

-- a record that is written at the end is there
pub lays_record : (r : WireRecord) (v w : Encoder) → v.offset ≡ length v.bytes → EmitsFields r v (Ok tt) w → NumbersFit r → w.offset ≤ max_message
    → Lays v w (λ x. RecordStands x v.encoding v.canonical r v.offset w.offset)
lays_record r v w e (a, owner, (d, fixed, (room, u, one, made))) fit few =
    let f = frame_name r.owner v (Ok tt) a e owner in
    let g = frame a (wire_fixed r) (Ok tt) d f.ends fixed in
    let last = lays_sized g.ends (lays_data r.rdata (reserved d 2) u (frame_reserved d g.ends).ends one) made in
    let after : d.offset + 2 ≡ a.offset + 10 = omega (arith, ap (λ (x : Encoder). x.offset) fixed.1) in
    let same : u.offset ≡ w.offset = sym (ap (λ (x : Encoder). x.offset) made) in
    lays_map (λ x (name, (eight, (len, rdata))). record {
      owner_end = a.offset;
      owner = name;
      fields = bytes_join x (wire_fixed r) _ a.offset d.offset (a.offset + 10) eight
          (subst (λ n. BytesStand x (to_be_bytes w16 (w.offset - n)) d.offset n) after len);
      rdata = rw (after, g.encoding, f.encoding, g.canonical, f.canonical, same) at rdata;
      few = few;
      fit = fit;
    }) (lays_then (lays_name r.owner v a e owner) (lays_then (lays_bytes a d (wire_fixed r) f.ends fixed) last))

-- ---- chunks

pub record Sound (old : List ℕ) (cs : List Chunk) (b : List ℕ) (o : ℕ) (candidates : List Candidate) : Type 0 where
  pub bytes : b ≡ old ++ laid cs
  pub end : o ≡ length b
  pub holds : (x : List ℕ) → Begins old cs x → Standing x (length old) cs × AreUsable x candidates

abbrev pub SoundAt : List ℕ → List Chunk → Encoder → Type 0
SoundAt old cs v = Sound old cs v.bytes v.offset v.candidates

pub sound_upto : (old : List ℕ) (cs : List Chunk) (v : Encoder) → SoundAt old cs v → v.offset ≡ upto (length old) cs
sound_upto old cs v s = omega (arith, s.end, ap length s.bytes, length-append old (laid cs), upto_laid (length old) cs)

-- both hold of its own bytes
pub holds_now : (old : List ℕ) (cs : List Chunk) (v : Encoder) → SoundAt old cs v → Standing v.bytes (length old) cs × AreUsable v.bytes v.candidates
holds_now old cs v s = s.holds v.bytes (begins_laid old v.bytes [] cs (s.bytes ∙ ap (λ (x : List ℕ). old ++ x) (sym (append-nil (laid cs)))))

-- A chunk is written after the encoder's bytes: its piece is there, and the candidates are usable then.
sound_grow : (old : List ℕ) (cs : List Chunk) (c : Chunk) (v w : Encoder) → SoundAt old cs v → w.bytes ≡ v.bytes ++ bytes_of c → w.offset ≡ v.offset + length (bytes_of c)
    → ((y d more : List ℕ) → MayBe c d → length y ≡ v.offset → AreUsable y v.candidates → Stands (y ++ (d ++ more)) v.offset c × AreUsable (y ++ (d ++ more)) w.candidates)
    → SoundAt old (cs ++ c ∷ []) w
sound_grow old cs c v w s bytes offset on =
    let start = sound_upto old cs v s in
    record {
      bytes = bytes ∙ rw (s.bytes, flat_map-append, append-nil) (append_assoc old (laid cs) (bytes_of c));
      end = omega (arith, s.end, offset, ap length bytes, length-append v.bytes (bytes_of c));
      holds = λ x h.
          let (y, size, first, (d, may, (more, is))) = begins_split old x cs (c ∷ []) h in
          let (there, after) = rw (← append_assoc y d more, ← is) at (on y d more may (size ∙ sym start) (s.holds y first).1) in
          (standing_join x (length old) cs (c ∷ []) (s.holds x (begins_first old x cs (c ∷ []) h)).0 (rw start at there, tt), after);
    }

-- a part or a record
pub sound_wrote : (old : List ℕ) (cs : List Chunk) (v w : Encoder) (content : Content) → SoundAt old cs v
    → Lays v w (λ x. PieceAt x (piece_in content) v.offset w.offset) → (d : List ℕ) × SoundAt old (cs ++ wrote content d ∷ []) w
sound_wrote old cs v w content s one =
    (one.d, sound_grow old cs (wrote content one.d) v w s one.bytes one.offset (λ y d more may size usable. rw (may, ← one.offset) (one.there y more size usable)))

-- Parts are chunks with their pieces and no placeholders, and keep the frame.
pub sound_parts : (old : List ℕ) (cs : List Chunk) (v w : Encoder) (parts : List WirePart) → SoundAt old cs v → EmitsWireParts parts v (Ok tt) w
    → (ds : List Chunk) × (map piece_of ds ≡ map wire_piece parts) × ((p : ℕ) → ends_of p ds ≡ []) × SoundAt old (cs ++ ds) w × Frame v (Ok tt) w
sound_parts old cs v w [] s h = ([], refl, λ p. refl, rw (append-nil, h) s, rw h (frame_same v (Ok tt) s.end))
sound_parts old cs v w (part ∷ parts) s (m, one, more) =
    let (d, first) = sound_wrote old cs v m (of_part part) s (lays_part part v m s.end one) in
    let c = wrote (of_part part) d in
    let (ds, pieces, none, all, f) = sound_parts old (cs ++ c ∷ []) m w parts first more in
    let frame = frames_follow v m w (Ok tt) s.end (frame_wire_part part v (Ok tt) m s.end one) f in
    (c ∷ ds, ap (λ ps. wire_piece part ∷ ps) pieces, λ p. none (p + length d), rw append_assoc at all, frame)

-- ---- placeholders

pub sound_reserved : (old : List ℕ) (cs : List Chunk) (v : Encoder) → SoundAt old cs v → SoundAt old (cs ++ place 0 ∷ []) (reserved v 2)
sound_reserved old cs v s =
    sound_grow old cs (place 0) v (reserved v 2) s (reserved_bytes v s.end) refl (λ y d more may size usable. (tt, usable_append y (d ++ more) v.candidates usable))

-- A value is filled in: nothing else changes.
pub sound_filled : (old : List ℕ) (front back : List Chunk) (held value : ℕ) (v : Encoder) (p : ℕ) → SoundAt old (front ++ place held ∷ back) v
    → p ≡ upto (length old) front → SoundAt old (front ++ place value ∷ back) (filled v p (to_be_bytes w16 value))
sound_filled old front back held value v p s p_is =
    let b = old ++ laid front in
    let made : (n : ℕ) → old ++ laid (front ++ place n ∷ back) ≡ b ++ (to_be_bytes w16 n ++ laid back) =
    λ n. rw flat_map-append (sym (append_assoc old (laid front) (to_be_bytes w16 n ++ laid back))) in
    let size : length b ≡ p = omega (arith, p_is, length-append old (laid front), upto_laid (length old) front) in
    let bytes = filled_bytes v b (to_be_bytes w16 held) (to_be_bytes w16 value) (laid back) p (s.bytes ∙ made held) size refl in
    record {
      bytes = bytes ∙ sym (made value);
      end = omega (arith, s.end, ap length bytes, ap length (s.bytes ∙ made held), length-append {A = ℕ});
      holds = λ x h.
          let (stand, usable) = s.holds x (begins_others old x front (place value ∷ back) (place held ∷ back) (λ y there. there) h) in
          let (first, more) = standing_split x (length old) front (place held ∷ back) stand in
          (standing_join x (length old) front (place value ∷ back) first more, usable);
    }
