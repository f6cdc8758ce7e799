-- Data that were given with their names whole are read as the same, whatever names are compressed.
use Rattle.std.proofs.Common.{◌≡◌, ℕ, ◌+◌, ◌-◌, ◌≤◌, false, List, [], ◌∷◌, ◌++◌, length, take, drop, slice_range, sym, ap, ◌∙◌, subst, refl, append_assoc, arith, length-append, length-drop}
use Rattle.std.specs.List.{flat_map}
use Rattle.std.proofs.lemmas.List.{drop-drop, drop_all, drop_at, length-take-le, nil_from_length, take_at, take-append-drop}
use Rattle.dnw_base.specs.Decoder.{Decoder}
use Rattle.dnw_base.specs.DnsClasses.{class_code, class_of_code}
use Rattle.dnw_base.specs.Names.{AreLabels, wire}
use Rattle.dnw_base.specs.RecordTypes.{type_code, type_of_code}
use Rattle.dnw_base.proofs.Wires.{length_wire}
use Rattle.dnw_name_read.specs.Reading.{NameAt}
use Rattle.dnw_data.specs.declared.kind.Kind.{Kind}
use Rattle.dnw_data.specs.declared.kind.Kind.TheVariants.{Name as name_kind}
use Rattle.dnw_data.specs.declared.kind.NameForm.{NameForm}
use Rattle.dnw_data.specs.declared.kind.NameForm.TheVariants.{Compressible, Lowered, Plain}
use Rattle.dnw_data.specs.Table.{fields_of}
use Rattle.dnw_data.specs.Values.{own_size}
use Rattle.dnw_data.proofs.Codes.{class_back, code_back}
use Rattle.dnw_name_read.proofs.Counts.{Reads_own}
use Rattle.dnw_record.specs.DataCopies.{TakesPiece, TakesPieces, data_start}
use Rattle.dnw_record.specs.DataPieces.{ArePiecesOf, DataPiece, HasPieces, IsPieceOf, name_piece, octets_of, octets_piece}
use Rattle.dnw_record.specs.Inside.Copying.{IsNoName}
use Rattle.dnw_record.specs.RecordFields.{up_to_end}
use Rattle.dnw_record.specs.declared.record.Record.{Record}
use Rattle.dnw_record.proofs.Alike.{read_kinds}
use Rattle.dnw_record.proofs.Pieces.{behind, name_again, own_again, same_size}
use Rattle.dnw_message_writer.specs.Contents.{PiecesStand}
use Rattle.dnw_message_writer.specs.Data.{names_among, names_to_compress, whole_octets}
use Rattle.dnw_message_writer.specs.ReadItems.{GivenDataComeBack}
use Rattle.dnw_message_writer.specs.declared.pieces.Piece.{Piece}
use Rattle.dnw_message_writer.specs.declared.pieces.Piece.TheVariants.{Octets, Name}
use Rattle.dnw_message_writer.proofs.Places.{after_at}

-- the octets of pieces with their names whole
abbrev all_octets : List Piece → List ℕ
all_octets xs = flat_map whole_octets xs

abbrev at : List ℕ → ℕ → Decoder
at b p = record { bytes = b; index = p }

-- From p on a message has these octets, and then these pieces up to its end.
record Text (b : List ℕ) (p : ℕ) (run : List ℕ) (xs : List Piece) : Type 0 where
  there : drop p b ≡ run ++ drop (p + length run) b
  within : p + length run ≤ length b
  others : PiecesStand b (p + length run) xs (length b)

-- They are these fields, of which so many octets are before.
record Match (o : ℕ) (run : List ℕ) (xs : List Piece) (fs : List DataPiece) : Type 0 where
  whole : run ++ all_octets xs ≡ octets_of fs
  names : names_among (o + length run) xs ≡ names_to_compress o fs

-- one more piece of octets
pull_text : (b : List ℕ) (p : ℕ) (run own : List ℕ) (xs : List Piece) (q : ℕ) → drop p b ≡ run ++ drop (p + length run) b → p + length run ≤ length b
    → q ≡ p + length run + length own → slice_range b (p + length run) q ≡ own → PiecesStand b q xs (length b) → Text b p (run ++ own) xs
pull_text b p run own xs q there within q_is part others =
    let s = p + length run in
    let n = length own in
    let size : q - s ≡ n = omega (arith, q_is) in
    let first : take n (drop s b) ≡ own = ap (λ k. take k (drop s b)) (sym size) ∙ part in
    let rest : drop s b ≡ own ++ drop q b =
    sym (take-append-drop n (drop s b)) ∙ (ap (λ x. x ++ drop n (drop s b)) first ∙ ap (λ x. own ++ x) (drop-drop n s b ∙ ap (λ k. drop k b) (sym q_is))) in
    let sum = length-append run own in
    let end : p + length (run ++ own) ≡ q = omega (arith, sum, q_is) in
    record {
      there = there ∙ (ap (λ x. run ++ x) rest ∙ (sym (append_assoc run own (drop q b)) ∙ ap (λ k. (run ++ own) ++ drop k b) (sym end)));
      within = omega (arith, ap length rest, length-append own (drop q b), length-drop s b, within, sum);
      others = subst (λ k. PiecesStand b k xs (length b)) (sym end) others;
    }

pull_match : (o : ℕ) (run own : List ℕ) (xs : List Piece) (fs : List DataPiece) → run ++ (own ++ all_octets xs) ≡ octets_of fs
    → names_among (o + length run + length own) xs ≡ names_to_compress o fs → Match o (run ++ own) xs fs
pull_match o run own xs fs whole names =
    let sum : o + length (run ++ own) ≡ o + length run + length own = omega (arith, length-append run own) in
    record { whole = append_assoc run own (all_octets xs) ∙ whole; names = ap (λ k. names_among k xs) sum ∙ names }

-- ---- the names that may be compressed

abbrev first_at : List (ℕ × List (List ℕ)) → ℕ
first_at [] = 0
first_at ((o, ls) ∷ names) = o

abbrev first_name : List (ℕ × List (List ℕ)) → List (List ℕ)
first_name [] = []
first_name ((o, ls) ∷ names) = ls

abbrev others_of : List (ℕ × List (List ℕ)) → List (ℕ × List (List ℕ))
others_of [] = []
others_of ((o, ls) ∷ names) = names

-- they are not before the fields
names_past : (o : ℕ) (fs : List DataPiece) (q : ℕ) (ls : List (List ℕ)) (more : List (ℕ × List (List ℕ))) → names_to_compress o fs ≡ (q, ls) ∷ more → o ≤ q
names_past o [] q ls more is = absurd cc
names_past o (octets_piece own ∷ fs) q ls more is = omega (arith, names_past (o + length own) fs q ls more is)
names_past o (name_piece Compressible labels ∷ fs) q ls more is = let same : o ≡ q = ap first_at is in omega (arith, same)
names_past o (name_piece Lowered labels ∷ fs) q ls more is = omega (arith, names_past (o + length (wire labels)) fs q ls more is)
names_past o (name_piece Plain labels ∷ fs) q ls more is = omega (arith, names_past (o + length (wire labels)) fs q ls more is)

-- ---- fields that are octets

-- So many octets of the fields stand, with the pieces after them.
record Filled (b : List ℕ) (p o n : ℕ) (fs : List DataPiece) : Type 0 where
  run : List ℕ
  xs : List Piece
  text : Text b p run xs
  match_is : Match o run xs fs
  enough : n ≤ length run

filled : (b : List ℕ) (p o n : ℕ) (run : List ℕ) (xs : List Piece) (fs : List DataPiece) → n ≤ length (octets_of fs)
    → ((q : ℕ) (ls : List (List ℕ)) (more : List (ℕ × List (List ℕ))) → names_to_compress o fs ≡ (q, ls) ∷ more → o + n ≤ q)
    → Text b p run xs → Match o run xs fs → Filled b p o n fs
filled b p o n run [] fs few free text m = record {
  run = run;
  xs = [];
  text = text;
  match_is = m;
  enough = omega (arith, few, ap length m.whole, length-append run []);
}
filled b p o n run (Octets bytes ∷ xs) fs few free text m =
    let (q, (q_is, part), others) = text.others in
    filled b p o n (run ++ bytes.now) xs fs few free (pull_text b p run bytes.now xs q text.there text.within q_is part others)
    (pull_match o run bytes.now xs fs m.whole m.names)
filled b p o n run (Name ls ∷ xs) fs few free text m = record {
  run = run;
  xs = Name ls ∷ xs;
  text = text;
  match_is = m;
  enough = omega (arith, free (o + length run) ls (names_among (o + length run + length (wire ls)) xs) (sym m.names));
}

-- the octets of a field, and what is after them
record Consumed (b : List ℕ) (p o : ℕ) (own : List ℕ) (fs : List DataPiece) : Type 0 where
  run : List ℕ
  xs : List Piece
  there : drop p b ≡ own ++ drop (p + length own) b
  within : p + length own ≤ length b
  text : Text b (p + length own) run xs
  match_is : Match (o + length own) run xs fs

consumed : (b : List ℕ) (p o : ℕ) (own : List ℕ) (gs fs : List DataPiece) → octets_of gs ≡ own ++ octets_of fs
    → names_to_compress o gs ≡ names_to_compress (o + length own) fs → Filled b p o (length own) gs → Consumed b p o own fs
consumed b p o own gs fs split names f =
    let n = length own in
    let run = drop n f.run in
    let whole : f.run ++ all_octets f.xs ≡ own ++ octets_of fs = f.match_is.whole ∙ split in
    let enough : n ≤ length f.run = f.enough in
    let first : take n f.run ≡ own =
    sym (ap (take n) (ap (λ x. x ++ all_octets f.xs) (sym (take-append-drop n f.run)) ∙ append_assoc (take n f.run) run (all_octets f.xs))
    ∙ take_at (take n f.run) (run ++ all_octets f.xs) n (length-take-le n f.run enough)) ∙ (ap (take n) whole ∙ take_at own (octets_of fs) n refl) in
    let parts : f.run ≡ own ++ run = sym (take-append-drop n f.run) ∙ ap (λ x. x ++ run) first in
    let sizes : length f.run ≡ n + length run = ap length parts ∙ length-append own run in
    let rest : run ++ all_octets f.xs ≡ octets_of fs =
    sym (drop_at own (run ++ all_octets f.xs) n refl) ∙ (ap (drop n) (sym (append_assoc own run (all_octets f.xs)) ∙ (ap (λ x. x ++ all_octets f.xs) (sym parts) ∙ whole))
    ∙ drop_at own (octets_of fs) n refl) in
    let s = p + length f.run in
    let end : p + n + length run ≡ s = omega (arith, sizes) in
    let here : drop p b ≡ own ++ (run ++ drop s b) = f.text.there ∙ (ap (λ x. x ++ drop s b) parts ∙ append_assoc own run (drop s b)) in
    let next : drop (p + n) b ≡ run ++ drop s b = after_at b p (p + n) own (run ++ drop s b) here refl in
    let inside : s ≤ length b = f.text.within in
    let sum : o + n + length run ≡ o + length f.run = omega (arith, sizes) in
    record {
      run = run;
      xs = f.xs;
      there = here ∙ ap (λ x. own ++ x) (sym next);
      within = omega (arith, inside, sizes);
      text = record {
        there = next ∙ ap (λ k. run ++ drop k b) (sym end);
        within = omega (arith, inside, end);
        others = subst (λ k. PiecesStand b k f.xs (length b)) (sym end) f.text.others;
      };
      match_is = record { whole = rest; names = ap (λ k. names_among k f.xs) sum ∙ (f.match_is.names ∙ names) };
    }

-- ---- the end

none_stand : (b : List ℕ) (p e : ℕ) (xs : List Piece) → all_octets xs ≡ [] → PiecesStand b p xs e → p ≡ e
none_stand b p e [] none h = h
none_stand b p e (Octets bytes ∷ xs) none (q, (q_is, part), others) =
    let size = ap length none in
    let sum = length-append bytes.now (all_octets xs) in
    let rest : all_octets xs ≡ [] = nil_from_length (all_octets xs) (omega (arith, size, sum)) in
    omega (arith, none_stand b q e xs rest others, q_is, size, sum)
none_stand b p e (Name ls ∷ xs) none h = absurd (omega (arith, ap length none, length-append (wire ls) (all_octets xs), length_wire ls))

at_end : (b : List ℕ) (p o : ℕ) (run : List ℕ) (xs : List Piece) (fs : List DataPiece) → octets_of fs ≡ [] → Text b p run xs → Match o run xs fs → p ≡ length b
at_end b p o run xs fs none text m =
    let size = ap length (m.whole ∙ none) in
    let sum = length-append run (all_octets xs) in
    let rest : all_octets xs ≡ [] = nil_from_length (all_octets xs) (omega (arith, size, sum)) in
    omega (arith, none_stand b (p + length run) (length b) xs rest text.others, size, sum)

-- ---- fields

-- what follows a field other than a name matters only if it is nothing
size_where : (kind : Kind) → IsNoName kind → (own rest other : List ℕ) → length own ≡ own_size kind (own ++ rest) → (rest ≡ [] → other ≡ [])
    → length own ≡ own_size kind (own ++ other)
size_where kind none own rest other size empty =
    let own_is : own ≡ take (own_size kind (own ++ rest)) (own ++ rest) = sym (take_at own rest _ size) in
    let all = same_size kind none (own ++ rest) own other own_is (omega (arith, size, length-append own rest))
    (λ (e : own_size kind (own ++ rest) ≡ length (own ++ rest)). empty (nil_from_length rest (omega (arith, e, size, length-append own rest)))) in
    size ∙ sym all

module _ (b : List ℕ) (p : ℕ) (own : List ℕ) (there : drop p b ≡ own ++ drop (p + length own) b) (within : p + length own ≤ length b) where
  rest_of : List ℕ
  rest_of = drop (p + length own) b

  front_size : length (take p b) ≡ p
  front_size = length-take-le p b (omega (arith, within))

  before_it : behind (take p b) (own ++ drop (p + length own) b) ≡ at b p
  before_it =
      ap (λ x. at x (length (take p b))) (ap (λ x. take p b ++ x) (sym there) ∙ take-append-drop p b) ∙ ap (at b) front_size

  behind_it : behind (take p b ++ own) (drop (p + length own) b) ≡ at b (p + length own)
  behind_it =
      ap (λ x. at x (length (take p b ++ own))) (append_assoc (take p b) own (drop (p + length own) b) ∙ (ap (λ x. take p b ++ x) (sym there) ∙ take-append-drop p b))
      ∙ ap (at b) (omega (arith, length-append (take p b) own, front_size))

  moved : (kind : Kind) (piece : DataPiece) → TakesPiece kind (behind (take p b) (own ++ drop (p + length own) b)) piece (behind (take p b ++ own) (drop (p + length own) b))
      → TakesPiece kind (at b p) piece (at b (p + length own))
  moved kind piece h = subst (λ d. TakesPiece kind d piece (at b (p + length own))) before_it
      (subst (λ d. TakesPiece kind (behind (take p b) (own ++ drop (p + length own) b)) piece d) behind_it h)

-- a field that is no name
own_taken : (kind : Kind) (b : List ℕ) (p o : ℕ) (own : List ℕ) (fs : List DataPiece) → IsPieceOf kind (octets_piece own) (octets_of fs)
    → Consumed b p o own fs → TakesPiece kind (at b p) (octets_piece own) (at b (p + length own))
own_taken (name_kind form) b p o own fs is c = absurd is
own_taken kind b p o own fs (size, right) c =
    let rest = drop (p + length own) b in
    let empty : octets_of fs ≡ [] → rest ≡ [] =
    λ none. drop_all (p + length own) b (omega (arith, at_end b (p + length own) (o + length own) c.run c.xs fs none c.text c.match_is)) in
    moved b p own c.there c.within kind (octets_piece own)
    (own_again kind own (take p b) rest (size_where kind tt own (octets_of fs) rest size empty) right)

-- a name that is not to be compressed
whole_taken : (form : NameForm) (b : List ℕ) (p o : ℕ) (labels : List (List ℕ)) (fs : List DataPiece) → AreLabels labels → Consumed b p o (wire labels) fs
    → TakesPiece (name_kind form) (at b p) (name_piece form labels) (at b (p + length (wire labels)))
whole_taken form b p o labels fs are c =
    moved b p (wire labels) c.there c.within (name_kind form) (name_piece form labels)
    (name_again form labels (take p b) (drop (p + length (wire labels)) b) are)

-- a name that may be compressed
record Named (b : List ℕ) (p o : ℕ) (labels : List (List ℕ)) (fs : List DataPiece) : Type 0 where
  xs : List Piece
  end : ℕ
  pointers : ℕ
  name : NameAt b p labels end pointers
  text : Text b end [] xs
  match_is : Match (o + length (wire labels)) [] xs fs

named : (b : List ℕ) (p o : ℕ) (run : List ℕ) (xs : List Piece) (labels : List (List ℕ)) (fs : List DataPiece) → Text b p run xs
    → Match o run xs (name_piece Compressible labels ∷ fs) → Named b p o labels fs
named b p o run [] labels fs text m = let wrong = m.names in absurd cc
named b p o run (Octets bytes ∷ xs) labels fs text m =
    let (q, (q_is, part), others) = text.others in
    named b p o (run ++ bytes.now) xs labels fs (pull_text b p run bytes.now xs q text.there text.within q_is part others)
    (pull_match o run bytes.now xs (name_piece Compressible labels ∷ fs) m.whole m.names)
named b p o run (Name ls ∷ xs) labels fs text m =
    let where_it : o + length run ≡ o = ap first_at m.names in
    let same : ls ≡ labels = ap first_name m.names in
    let none : run ≡ [] = nil_from_length run (omega (arith, where_it)) in
    let size : p + length run ≡ p = omega (arith, where_it) in
    let (q, (k, name), others) = text.others in
    let here : NameAt b p labels q k = subst (λ n. NameAt b n labels q k) size (subst (λ n. NameAt b (p + length run) n q k) same name) in
    let inside : q ≤ length b = (Reads_own here.reads).1 in
    let zeroth : q + 0 ≡ q = omega arith in
    let cut : wire labels ++ all_octets xs ≡ wire labels ++ octets_of fs =
    ap (λ n. wire n ++ all_octets xs) (sym same) ∙ (ap (λ r. r ++ (wire ls ++ all_octets xs)) (sym none) ∙ m.whole) in
    let rest : all_octets xs ≡ octets_of fs =
    sym (drop_at (wire labels) (all_octets xs) (length (wire labels)) refl) ∙ (ap (drop (length (wire labels))) cut ∙ drop_at (wire labels) (octets_of fs) (length (wire labels)) refl) in
    let sum : o + length (wire labels) + 0 ≡ o + length run + length (wire ls) = omega (arith, where_it, ap (λ n. length (wire n)) same) in
    record {
      xs = xs;
      end = q;
      pointers = k;
      name = here;
      text = record { there = ap (λ n. drop n b) (sym zeroth); within = omega (arith, inside); others = subst (λ n. PiecesStand b n xs (length b)) (sym zeroth) others };
      match_is = record { whole = rest; names = ap (λ n. names_among n xs) sum ∙ ap others_of m.names };
    }

walk : (kinds : List Kind) (fs : List DataPiece) (b : List ℕ) (p o : ℕ) (run : List ℕ) (xs : List Piece) → ArePiecesOf kinds fs → Text b p run xs
    → Match o run xs fs → TakesPieces kinds (at b p) fs
walk [] [] b p o run xs are text m = at_end b p o run xs [] refl text m
walk [] (f ∷ fs) b p o run xs are text m = absurd are
walk (kind ∷ kinds) [] b p o run xs are text m = absurd are
walk (kind ∷ kinds) (octets_piece own ∷ fs) b p o run xs (is, are) text m =
    let gs = octets_piece own ∷ fs in
    let f = filled b p o (length own) run xs gs (omega (arith, length-append own (octets_of fs)))
    (λ q ls more names. names_past (o + length own) fs q ls more names) text m in
    let c = consumed b p o own gs fs refl refl f in
    (at b (p + length own), own_taken kind b p o own fs is c, walk kinds fs b (p + length own) (o + length own) c.run c.xs are c.text c.match_is)
walk (name_kind form ∷ kinds) (name_piece Compressible labels ∷ fs) b p o run xs ((is, labels_are), are) text m =
    let n = named b p o run xs labels fs text m in (
      at b n.end,
      (labels, n.pointers, record { end = n.end; name = n.name; moved = refl }, ap (λ (k : NameForm). name_piece k labels) is),
      walk kinds fs b n.end (o + length (wire labels)) [] n.xs are n.text n.match_is,
    )
walk (name_kind form ∷ kinds) (name_piece Lowered labels ∷ fs) b p o run xs ((is, labels_are), are) text m =
    let gs = name_piece Lowered labels ∷ fs in
    let f = filled b p o (length (wire labels)) run xs gs (omega (arith, length-append (wire labels) (octets_of fs)))
    (λ q ls more names. names_past (o + length (wire labels)) fs q ls more names) text m in
    let c = consumed b p o (wire labels) gs fs refl refl f in (
      at b (p + length (wire labels)),
      subst (λ k. TakesPiece (name_kind k) (at b p) (name_piece Lowered labels) (at b (p + length (wire labels)))) is (whole_taken Lowered b p o labels fs labels_are c),
      walk kinds fs b (p + length (wire labels)) (o + length (wire labels)) c.run c.xs are c.text c.match_is,
    )
walk (name_kind form ∷ kinds) (name_piece Plain labels ∷ fs) b p o run xs ((is, labels_are), are) text m =
    let gs = name_piece Plain labels ∷ fs in
    let f = filled b p o (length (wire labels)) run xs gs (omega (arith, length-append (wire labels) (octets_of fs)))
    (λ q ls more names. names_past (o + length (wire labels)) fs q ls more names) text m in
    let c = consumed b p o (wire labels) gs fs refl refl f in (
      at b (p + length (wire labels)),
      subst (λ k. TakesPiece (name_kind k) (at b p) (name_piece Plain labels) (at b (p + length (wire labels)))) is (whole_taken Plain b p o labels fs labels_are c),
      walk kinds fs b (p + length (wire labels)) (o + length (wire labels)) c.run c.xs are c.text c.match_is,
    )
walk (kind ∷ kinds) (name_piece form labels ∷ fs) b p o run xs (is, are) text m = absurd is

-- ---- records

pub given_data_come_back : GivenDataComeBack
given_data_come_back r x octets (owner, kind, class, ttl, inside, stand) (fs, has, are) =
    let b = up_to_end x in
    let e = x.start + x.len in
    let cut : e - 0 ≡ e = omega arith in
    let size : length b ≡ e = ap (λ n. length (take n x.message)) cut ∙ length-take-le e x.message inside in
    let zeroth : x.start + 0 ≡ x.start = omega arith in
    let others : PiecesStand b (x.start + 0) r.pieces (length b) =
    subst (λ n. PiecesStand b n r.pieces (length b)) (sym zeroth) (subst (λ n. PiecesStand b x.start r.pieces n) (sym size) stand) in
    let text : Text b x.start [] r.pieces =
    record { there = ap (λ n. drop n b) (sym zeroth); within = omega (arith, size); others = others } in
    let m : Match 0 [] r.pieces fs = record { whole = are.whole; names = are.names 0 } in
    let kinds = fields_of r.class r.record_type octets in
    let takes : TakesPieces kinds (data_start x) fs = walk kinds fs b x.start 0 [] r.pieces has.are text m in
    let given : Record = record {
      name = record { is_fqdn = false; labels = [] };
      ttl = 0;
      «data» = record { class = class_of_code r.class; record_type = type_of_code r.record_type; octets = octets };
    } in
    let same : fields_of (class_code (class_of_code r.class)) (type_code (type_of_code r.record_type)) octets ≡ kinds =
    ap (λ n. fields_of n (type_code (type_of_code r.record_type)) octets) (class_back r.class) ∙ ap (λ n. fields_of r.class n octets) (code_back r.record_type) in
    let read = read_kinds given x fs (class ∙ ap class_of_code (sym (class_back r.class))) (kind ∙ ap type_of_code (sym (code_back r.record_type)))
    (subst (λ k. HasPieces k octets fs) (sym same) has)
    (subst (λ k. TakesPieces k (data_start x) fs) (sym same) takes) in
    (fs, subst (λ k. TakesPieces k (data_start x) fs) (sym (read ∙ same)) takes, has.whole)
