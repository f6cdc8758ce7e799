-- Names are as short as can be.
use Rattle.std.proofs.Common.{◌≡◌, ◌≢◌, ℕ, ◌+◌, ◌<◌, ◌≤◌, true, List, [], ◌∷◌, ◌++◌, length, drop, Option, Some, None, Ok, ◌⊎◌, inl, inr, ⊎_elim, refl, sym, ap, ◌∙◌, subst, append_assoc, zero-add, arith, rules, tests}
use Rattle.std.specs.List.{All, AllByRecursion, Contains}
use Rattle.std.proofs.lemmas.Bool.{cases_lt}
use Rattle.std.proofs.lemmas.List.{append-nil, length-append}
use Rattle.std.proofs.lemmas.List.Elements.{All-append, All-contains, All-nil, All-weaker, Contains-append_left, Contains-append_right, Contains-push, Contains-push_cases}
use Rattle.dnw_base.specs.Labels.{IsLabel}
use Rattle.dnw_base.specs.Limits.{max_name, pointer_reach}
use Rattle.dnw_base.specs.Names.{NameValue, AreLabels, encoded_size, labels_wire}
use Rattle.dnw_base.proofs.Wires.{length_wire}
use Rattle.dnw_write_suffixes.specs.Candidates.{Candidate, IsUsable}
use Rattle.dnw_write.specs.declared.encoder.modes.NameEncoding.{NameEncoding}
use Rattle.dnw_write.specs.Encoder.{CandidatesPrecede, Encoder}
use Rattle.dnw_write.specs.EmittedName.{Chooses, Share, compresses, emitted, in_mode, is_compressed, newly_kept, pointer_to, so_far}
use Rattle.dnw_write.specs.EmittingLaws.{take_all_lem}
use Rattle.dnw_write.specs.NameFrames.{frame_name}
use Rattle.dnw_write.proofs.NameBack.{each_back, pointers_save}
use Rattle.dnw_write.proofs.Suffixes.{length_all}
use Rattle.dnw_write_script.specs.RecordFrames.{frame_grows}
use Rattle.dnw_write_script.specs.declared.script.Part.TheVariants.{Name}
use Rattle.dnw_write_script.specs.declared.script.Reply.{Reply}
use Rattle.dnw_write_script.specs.declared.script.Reply.TheVariants.{Done, Refused}
use Rattle.dnw_write_script.specs.Script.{Action, write, set_encoding, EmitsPart}
use Rattle.dnw_write_script.specs.Pieces.{Account, Piece, name_piece, account_from, after_action, opening}
use Rattle.dnw_write_script.specs.Runs.{Runs, RunsStep, GivesReply, beginning}
use Rattle.dnw_write_script.specs.Finished.{AreNames, EndsIn, IsEndOf, IsShortest, count_labels, count_names}
use Rattle.dnw_write_script.specs.ScriptLaws.{RunsAreShortest}
use Rattle.dnw_write_script.proofs.Chunks.{Chunk}
use Rattle.dnw_write_suffixes.proofs.CandidateLists.{between}
use Rattle.dnw_write_script.proofs.Kept.{back_least, back_of, each-kept, emitted_candidates, emitted_names, front_of, in_mode_compressed, kept-few, kept-new, length_in_mode, size_back, suffix-split, suffix_within, target_has}
use Rattle.dnw_write_script.proofs.Standing.{holds_now, same_labels, usable_precede, usable_read}
use Rattle.dnw_write_script.proofs.Stepping.{Good, good_beginning, part_same, step}

-- ---- the suffixes in which names end

-- an end is one of the new name or one of the others
ends_either : (pieces : List Piece) (mode : NameEncoding) (labels back : List (List ℕ)) → EndsIn (pieces ++ name_piece mode labels ∷ []) back
    → EndsIn pieces back ⊎ ((front : List (List ℕ)) × (in_mode mode labels ≡ front ++ back))
ends_either pieces mode labels back (p, has, is) =
    ⊎_elim (λ old. inl (p, old, is)) (λ same. inr (subst (IsEndOf back) (sym same) is)) (Contains-push_cases pieces (name_piece mode labels) p has)

-- and so are their own ends
end_within : (piece : Piece) (front back : List (List ℕ)) → IsEndOf (front ++ back) piece → IsEndOf back piece
end_within (name_piece mode labels) front back (first, is) = (first ++ front, is ∙ sym (append_assoc first front back))
end_within piece front back h = absurd h

-- ---- what is known of the candidates

-- A candidate has the bytes of labels in which a name ends.
record IsSpelled (pieces : List Piece) (c : Candidate) : Type 0 where
  back : List (List ℕ)
  bytes : c.1 ≡ labels_wire back
  are_labels : AllByRecursion IsLabel back
  ends : EndsIn pieces back

-- A candidate has the bytes of these labels.
abbrev IsKept : List Candidate → List (List ℕ) → Type 0
IsKept cs back = (offset : ℕ) × Contains cs (offset, labels_wire back)

-- So many more labels may be kept, and so many more names compressed. While pointers reach to the end, each suffix in which a
-- name ends is a candidate.
record Knows (old : List ℕ) (a : Account) (v : Encoder) (labels many : ℕ) : Type 0 where
  chunks : List Chunk
  good : Good old chunks a v
  few : length v.candidates + labels ≤ v.candidate_limit
  names : v.names + many ≤ v.name_limit
  spelled : All (IsSpelled a.pieces) v.candidates
  kept : a.len + max_name ≤ pointer_reach → (back : List (List ℕ)) → back ≢ [] → EndsIn a.pieces back → IsKept v.candidates back

-- ---- one more name

-- a suffix that begins within the front, or else is one of what a pointer stands for, is a candidate
kept_front : (v : Encoder) (ls front back : List (List ℕ)) (choice : Option Share) (m : List (List ℕ)) → Chooses v ls choice
    → (back ≡ back_of choice → IsKept v.candidates back) → front_of ls choice ≡ front ++ m → back ≡ m ++ back_of choice
    → v.offset + length (labels_wire ls) < pointer_reach → length v.candidates + length ls ≤ v.candidate_limit → IsKept (v.candidates ++ newly_kept v ls choice) back
kept_front v ls front back choice [] chosen old longer is near room = let (o, has) = old is in (o, Contains-append_left v.candidates _ _ has)
kept_front v ls front back choice (l ∷ m) chosen old longer is near room =
    rw is (v.offset + length (labels_wire front), Contains-append_right v.candidates _ _ (kept-new v ls choice chosen front l m longer near room))

module _ (old : List ℕ) (a : Account) (v : Encoder) (labels many : ℕ) (k : Knows old a v labels many) where
  at_end : v.offset ≡ length v.bytes
  at_end = k.good.sound.end

  precede : CandidatesPrecede v
  precede = usable_precede v.bytes v (sym at_end) (holds_now old k.chunks v k.good.sound).1

  -- what a pointer stands for is an end of a name
  shared-ends : (ls : List (List ℕ)) (share : Share) → AreLabels ls → Chooses v ls (Some share) → EndsIn a.pieces share.back
  shared-ends ls share are chosen =
      let s = All-contains (IsSpelled a.pieces) v.candidates (share.target, labels_wire share.back) k.spelled (target_has v ls share chosen) in
      let each = each_back share.front share.back (rw chosen.1.parts at are.each) in
      rw (same_labels s.back share.back s.are_labels each (sym s.bytes)) at s.ends

  -- each suffix of a new name is a candidate, if each suffix of the others is
  kept-suffix : (ls front back : List (List ℕ)) (choice : Option Share) → AreLabels ls → Chooses v ls choice → (EndsIn a.pieces back → IsKept v.candidates back)
      → ls ≡ front ++ back → back ≢ [] → v.offset + length (labels_wire ls) < pointer_reach → length v.candidates + length ls ≤ v.candidate_limit
      → IsKept (v.candidates ++ newly_kept v ls choice) back
  kept-suffix ls front back None are chosen old split some near room =
      kept_front v ls front back None back chosen (λ none. absurd (some none)) split (sym (append-nil back)) near room
  kept-suffix ls front back (Some share) are (compressed, points) old split some near room =
      let ends = shared-ends ls share are (compressed, points) in
      let parts : share.front ++ share.back ≡ front ++ back = cc (points.parts, split) in
      ⊎_elim
      (λ less.
      let (_, is) = suffix_within front back share.front share.back (sym parts) (omega (arith, less)) in
      let (piece, within, whole) = rw is at ends in
      let (o, has) = old (piece, within, end_within piece _ back whole) in
      (o, Contains-append_left v.candidates _ _ has))
      (λ le. let (longer, is) = suffix_within share.front share.back front back parts le in
      kept_front v ls front back (Some share) (drop (length front) share.front) (compressed, points) (λ same. old (rw (← same) at ends)) longer is near room)
      (cases_lt (length share.front) (length front))

  module _ (name : NameValue) (len : ℕ) (w : Encoder) (h : GivesReply (EmitsPart (Name name) v) (Done len) w) where
    written : in_mode a.mode name.labels ≡ in_mode v.encoding name.labels
    written = ap (λ (m : NameEncoding). in_mode m name.labels) k.good.agree.mode

    list : w.candidates ≡ v.candidates ++ newly_kept v (in_mode v.encoding name.labels) h.0.choice
    list = ap (λ (x : Encoder). x.candidates) h.0.written_as.1 ∙ emitted_candidates v (in_mode v.encoding name.labels) h.0.choice h.0.chooses precede

    -- what is kept then has the bytes of an end
    still-spelled : All (IsSpelled (after_action a (write (Name name)) (Done len)).pieces) w.candidates
    still-spelled =
        let piece = name_piece a.mode name.labels in
        let spelled = All-weaker (IsSpelled a.pieces) (IsSpelled (a.pieces ++ piece ∷ []))
        (λ c s. let (p, has, is) = s.ends in
        record { back = s.back; bytes = s.bytes; are_labels = s.are_labels; ends = (p, Contains-append_left a.pieces (piece ∷ []) p has, is) }) v.candidates k.spelled in
        rw list (All-append (IsSpelled (a.pieces ++ piece ∷ [])) v.candidates _ spelled (each-kept v (in_mode v.encoding name.labels) h.0.choice h.0.chooses (IsSpelled (a.pieces ++ piece ∷ [])) (λ f l m is.
        let split = suffix-split v (in_mode v.encoding name.labels) h.0.choice h.0.chooses f (l ∷ m) is in
        record {
          back = l ∷ (m ++ back_of h.0.choice);
          bytes = refl;
          are_labels = each_back f (l ∷ (m ++ back_of h.0.choice)) (rw split at h.0.are_labels.each);
          ends = (piece, Contains-push a.pieces piece, (f, written ∙ split));
        })))

    -- each end is a candidate then
    still-kept : length name.labels ≤ labels → len + max_name ≤ pointer_reach → (back : List (List ℕ)) → back ≢ []
        → EndsIn (after_action a (write (Name name)) (Done len)).pieces back → IsKept w.candidates back
    still-kept fit near back some ends =
        let on = frame_grows v w (Ok tt) at_end (frame_name name v (Ok tt) w at_end h.0) in
        let before : a.len + max_name ≤ pointer_reach = omega (arith, near, h.1, k.good.len_is, at_end, on) in
        rw list (⊎_elim
        (λ e. let (o, has) = k.kept before back some e in (o, Contains-append_left v.candidates _ _ has))
        (λ (front, is). kept-suffix (in_mode v.encoding name.labels) front back h.0.choice h.0.are_labels h.0.chooses (k.kept before back some) (sym written ∙ is) some
        (omega (arith, before, k.good.len_is, at_end, length_all (in_mode v.encoding name.labels), h.0.are_labels.fit))
        (omega (arith, k.few, fit, length_in_mode v.encoding name.labels)))
        (ends_either a.pieces a.mode name.labels back ends))

    knows-name : (left less : ℕ) → length name.labels + left ≤ labels → less + 1 ≤ many → Knows old (after_action a (write (Name name)) (Done len)) w left less
    knows-name left less le le' =
        let f = frame_name name v (Ok tt) w at_end h.0 in
        let go = (step old k.chunks a v w k.good (write (Name name)) (Done len) h).1 in
        let kept = kept-few v (in_mode v.encoding name.labels) h.0.choice h.0.chooses in
        record {
          chunks = go.chunks;
          good = go.good;
          few = omega (arith, ap length list, length-append {A = Candidate}, kept, k.few, le, f.candidate_limit, length_in_mode v.encoding name.labels);
          names = omega (arith, ap (λ (x : Encoder). x.names) h.0.written_as.1, emitted_names v (in_mode v.encoding name.labels) h.0.choice, k.names, le', f.name_limit);
          spelled = still-spelled;
          kept = still-kept (omega (arith, le));
        }

  -- nothing is written, and the mode may be another
  knows-on : (cs : List Chunk) (m n : NameEncoding) (left less : ℕ) → Good old cs (record a { mode = m }) (record v { encoding = n }) → left ≤ labels → less ≤ many
      → Knows old (record a { mode = m }) (record v { encoding = n }) left less
  knows-on cs m n left less good le le' =
      record { chunks = cs; good = good; few = omega (arith, k.few, le); names = omega (arith, k.names, le'); spelled = k.spelled; kept = k.kept }

  knows-part : (name : NameValue) (reply : Reply) (w : Encoder) (left less : ℕ) → GivesReply (EmitsPart (Name name) v) reply w
      → length name.labels + left ≤ labels → less + 1 ≤ many → Knows old (after_action a (write (Name name)) reply) w left less
  knows-part name (Done len) w left less h le le' = knows-name name len w h left less le le'
  knows-part name (Refused error len) w left less h le le' =
      rw (part_same (Name name) v w error at_end h.0) (knows-on k.chunks a.mode v.encoding left less k.good (omega (arith, le)) (omega (arith, le')))
  knows-part name reply w left less h le le' = absurd h

  knows-mode : (mode : NameEncoding) (reply : Reply) (w : Encoder) → RunsStep a v (set_encoding mode) reply w
      → Knows old (after_action a (set_encoding mode) reply) w labels many
  knows-mode mode reply w h =
      let go = (step old k.chunks a v w k.good (set_encoding mode) (Done (length w.bytes)) (refl, h.1)).1 in
      rw (h.0, h.1) (knows-on go.chunks mode mode labels many (subst (Good old go.chunks (record a { mode = mode })) h.1 go.good) (omega arith) (omega arith))

-- ---- runs

-- The first steps, if they are names and modes, lead to an encoder of which all is known.
runs_come : (old : List ℕ) (a : Account) (v : Encoder) (first rest : List Action) (given others : List Reply) (w : Encoder) (labels many : ℕ)
    → Knows old a v (count_labels first + labels) (count_names first + many) → AreNames first → length first ≡ length given
    → Runs a v (first ++ rest) (given ++ others) w
    → (m : Encoder) × Knows old (account_from a first given) m labels many × Runs (account_from a first given) m rest others w
runs_come old a v [] rest [] others w labels many k are e h = (v, rw (zero-add, zero-add) at k, h)
runs_come old a v (write (Name name) ∷ first) rest (reply ∷ given) others w labels many k are e h =
    runs_come old (after_action a (write (Name name)) reply) h.0 first rest given others w labels many
    (knows-part old a v _ _ k name reply h.0 _ _ h.1 (omega arith) (omega arith)) are (omega (arith, e)) h.2
runs_come old a v (set_encoding mode ∷ first) rest (reply ∷ given) others w labels many k are e h =
    runs_come old (after_action a (set_encoding mode) reply) h.0 first rest given others w labels many (knows-mode old a v _ _ k mode reply h.0 h.1) are (omega (arith, e)) h.2
runs_come old a v first rest given others w labels many k are e h = absurd (grind arith)

-- ---- the least length

-- a name is compressed as long as one more is allowed
compresses_within : (v : Encoder) → is_compressed v.encoding ≡ true → v.names < v.name_limit → compresses v ≡ true
compresses_within v e less = search (rules, tests)

module _ (old : List ℕ) (a : Account) (v : Encoder) (labels many : ℕ) (k : Knows old a v labels many) (near : a.len + max_name ≤ pointer_reach) where
  -- an end of a name has a candidate that is usable
  end-usable : (ls front back : List (List ℕ)) → AreLabels ls → ls ≡ front ++ back → back ≢ [] → EndsIn a.pieces back
      → (offset : ℕ) × (before : List Candidate) × (after_action : List Candidate) × IsUsable (so_far v) v.candidates back offset before after_action
  end-usable ls front back are split some ends =
      let s = k.good.sound in
      let (offset, (i, below, is)) = k.kept near back some ends in
      let (end, pointers, name) = usable_read v.bytes v.candidates offset back (holds_now old k.chunks v s).1 (each_back front back (rw split at are.each)) (i, below, is) in
      let here = between (labels_wire back) v.candidates i offset below (sym is) in
      (offset, _, _, record { split = here; end = end; pointers = pointers; name = rw (take_all_lem v.offset v.bytes s.end) name })

  -- a pointer stands for the longest suffix that is an end, or none is
  shortest : (ls : List (List ℕ)) (choice : Option Share) (w : Encoder) → compresses v ≡ true → AreLabels ls → Chooses v ls choice
      → w ≡ emitted v ls choice → IsShortest a.pieces ls v.offset w.offset
  shortest ls None w compressed are chosen made =
      let size : w.offset ≡ v.offset + encoded_size ls = omega (arith, ap (λ (x : Encoder). x.offset) made, length_wire ls) in
      record {
        at_most_whole = omega (arith, size);
        at_most_shared = λ front back split some ends.
            let (offset, before, behind, u) = end-usable ls front back are split some ends in
            absurd (chosen compressed front back offset before behind split some u);
        reached = inl size;
      }
  shortest ls (Some share) w compressed are (c, points) made =
      let offset : w.offset ≡ v.offset + length (labels_wire share.front ++ pointer_to share.target) = ap (λ (x : Encoder). x.offset) made in
      let size : w.offset + encoded_size share.back ≡ v.offset + encoded_size ls + 2 =
      omega (arith, offset, length-append (labels_wire share.front) (pointer_to share.target), size_back ls share.front share.back points.parts) in
      record {
        at_most_whole = omega (arith, offset, pointers_save v ls share.front share.back share.target are points);
        at_most_shared = λ front back split some ends.
            let (place, before, behind, u) = end-usable ls front back are split some ends in
            let longest = points.longest front back place before behind split some u in
            omega (arith, size, back_least share.front share.back front back (sym points.parts ∙ split) longest);
        reached = inr (share.front, share.back, points.parts, points.some, shared-ends old a v labels many k ls share are (c, points), size);
      }

-- ---- from the beginning

pub names_are_shortest : RunsAreShortest
names_are_shortest old candidates names actions replies w h first name rest given others len split told_is e compressed are few_names few_labels near =
    let v = beginning old candidates names in
    let start : Knows old (opening (length old)) v (count_labels first + length name.labels) (count_names first + 1) = record {
      chunks = [];
      good = good_beginning old candidates names;
      few = omega (arith, few_labels);
      names = omega (arith, few_names);
      spelled = All-nil (IsSpelled []);
      kept = λ near back some ends. let none = ends.1.1 in absurd (omega arith);
    } in
    let (m, k, (x, one, more)) =
    runs_come old (opening (length old)) v first (write (Name name) ∷ rest) given (Done len ∷ others) w _ _ start are e (rw (split, told_is) at h) in
    let a = account_from (opening (length old)) first given in
    let g = k.good in
    let mode : is_compressed m.encoding ≡ true = cc (g.agree.mode, compressed) in
    let s = shortest old a m (length name.labels) 1 k near (in_mode m.encoding name.labels) one.0.choice x (compresses_within m mode (omega (arith, k.names))) one.0.are_labels one.0.chooses one.0.written_as.1 in
    let ends : x.offset ≡ len = (frame_name name m (Ok tt) x g.sound.end one.0).ends ∙ sym one.1 in
    rw (in_mode_compressed m.encoding name.labels mode, ← g.len_is, ends) at s
