-- Items take no more octets than with their names whole.
use Rattle.std.proofs.Common.{◌≡◌, ℕ, Bool, ◌+◌, ◌-◌, ◌<◌, ◌≤◌, List, [], ◌∷◌, ◌++◌, length, take, ap, inl, inr, refl, arith, length-append}
use Rattle.std.specs.Int.{w16, to_be_bytes}
use Rattle.std.specs.List.{AllByRecursion}
use Rattle.std.proofs.lemmas.List.{length-take}
use Rattle.dnw_base.specs.Names.{AreLabels}
use Rattle.dnw_base.proofs.Wires.{length_wire}
use Rattle.dnw_message_writer.specs.Contents.{AddedRecord}
use Rattle.dnw_message_writer.specs.Inside.Fitting.{FitWhole, HasLabels, whole_size}
use Rattle.dnw_message_writer.specs.Items.{IsRecord, ItemPast, before_length, fields_of_record, question_fields, question_past, record_past}
use Rattle.dnw_message_writer.specs.Pieces.{ArePieces}
use Rattle.dnw_message_writer.specs.SizeLaws.{QuestionsTakeNoMore, RecordsTakeNoMore, whole_pieces, whole_question, whole_record}
use Rattle.dnw_message_writer.specs.States.{FailsToAdd, FailsToTakeLimit, room_of}
use Rattle.dnw_message_writer.specs.declared.pieces.Piece.{Piece}
use Rattle.dnw_message_writer.specs.declared.section.Section.{Section}
use Rattle.dnw_message_writer.specs.declared.section.Section.TheVariants.{Queries}
use Rattle.dnw_message_writer.specs.declared.section.WriteError.TheVariants.{NoRoom}
use Rattle.dnw_message_writer.specs.declared.state.WriterState.{WriterState}
use Rattle.dnw_message_writer.proofs.Fitting.{owner_fits, piece_fits, question_fits, record_fits}
use Rattle.dnw_message_writer.proofs.Turning.{le_or_lt}

fit_exactly : (xs : List Piece) (room : ℕ) → room ≡ whole_pieces xs → AllByRecursion HasLabels xs → FitWhole room xs
fit_exactly [] room is labels = tt
fit_exactly (x ∷ xs) room is labels =
    (labels.0, omega (arith, is), fit_exactly xs (room - whole_size x) (omega (arith, is)) labels.1)

module _ (slot : List (List ℕ) → ℕ) where
  pub pieces_take_no_more : (b : List ℕ) (gap : ℕ) (hints : List ℕ) (xs : List Piece) (octets after : List ℕ) → AllByRecursion HasLabels xs
      → ArePieces slot b gap hints xs octets after → length octets ≤ whole_pieces xs
  pieces_take_no_more b gap hints [] octets after labels h = omega (arith, ap length h.0)
  pieces_take_no_more b gap hints (x ∷ xs) octets after labels (own, between, others, is, split, more) =
      omega (
        arith,
        ap length split,
        length-append own others,
        piece_fits slot b gap hints x own between labels.0 is,
        pieces_take_no_more (b ++ own) gap between xs others after labels.1 more,
      )

  record_takes_no_more : (b : List ℕ) (near : ℕ) (hints : List ℕ) (r : AddedRecord) (octets after : List ℕ) → AreLabels r.owner
      → AllByRecursion HasLabels r.pieces → IsRecord slot b near hints r.owner (fields_of_record r.record_type r.class r.ttl) r.pieces octets after
      → length octets ≤ whole_record r
  record_takes_no_more b near hints r octets after are labels (owner, between, own, is, pieces_are, split) =
      let fields = fields_of_record r.record_type r.class r.ttl in
      omega (
        arith,
        ap length split,
        length-append owner (before_length fields ++ (to_be_bytes w16 (length own) ++ own)),
        owner_fits slot b near hints r.owner owner between are is,
        length_wire r.owner,
        pieces_take_no_more ((b ++ owner) ++ fields) (length b + length owner + (length fields - 2)) between r.pieces own after labels pieces_are,
      )

-- no room for any item
no_room_left : (s : Section) (opt : Bool) (w : WriterState) (m : List ℕ) → FailsToTakeLimit s opt w m NoRoom → room_of w m < w.end
no_room_left s opt w m (inl (none, wrong)) = absurd cc
no_room_left s opt w m (inr (inl (whole, order, wrong))) = absurd cc
no_room_left s opt w m (inr (inr (inl (whole, order, is_opt, has, wrong)))) = absurd cc
no_room_left s opt w m (inr (inr (inr (whole, order, single, less, is)))) = less

-- no room, if what does not fit would not fit whole
no_room : (s : Section) (past : ItemPast) (w : WriterState) (m : List ℕ) (whole : ℕ)
    → (w.end + whole ≤ room_of w m → past.goes (room_of w m) (take w.end m) w.owner w.hints → ⊥)
    → FailsToAdd s past w m NoRoom → room_of w m < w.end + whole
no_room s past w m whole fits (inl none) = omega (arith, no_room_left s past.is_opt w m none)
no_room s past w m whole fits (inr (limit, goes, is)) =
    elim (le_or_lt (w.end + whole) (room_of w m)) [ inl room ↦ absurd (fits room goes) | inr less ↦ less ]

so_far_size : (w : WriterState) (m : List ℕ) → length (take w.end m) ≤ w.end
so_far_size w m = omega (arith, length-take w.end m)

pub questions_take_no_more : QuestionsTakeNoMore
questions_take_no_more slot q w old are = (
  λ v new added.
      omega (
        arith,
        ap (λ (x : WriterState). x.end) added.6,
        ap length added.2.2,
        length-append added.2.0 (question_fields q.query_type q.class),
        owner_fits slot (take w.end old) w.owner w.hints q.name added.2.0 added.1 are added.2.1,
        length_wire q.name,
      ),
  λ fails.
      no_room Queries (question_past slot q.name) w old (whole_question q)
      (λ room past. question_fits slot (room_of w old) (take w.end old) w.owner w.hints q.name are (omega (arith, room, so_far_size w old, length_wire q.name)) past) fails,
)

pub records_take_no_more : RecordsTakeNoMore
records_take_no_more slot s r w old are labels =
    let fields = fields_of_record r.record_type r.class r.ttl in (
      λ v new added.
          omega (
            arith,
            ap (λ (x : WriterState). x.end) added.6,
            record_takes_no_more slot (take w.end old) w.owner w.hints r added.0 added.1 are labels added.2,
          ),
      λ fails.
          no_room s (record_past slot r.owner r.record_type r.class r.ttl r.pieces) w old (whole_record r)
          (λ room past.
          record_fits slot (room_of w old) (take w.end old) w.owner w.hints r.owner fields r.pieces (whole_pieces r.pieces) are refl
          (fit_exactly r.pieces (whole_pieces r.pieces) refl labels) (omega (arith, room, so_far_size w old, length_wire r.owner)) past)
          fails,
    )
