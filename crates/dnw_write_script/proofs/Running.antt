-- A whole run: its replies, its pieces in the finished bytes, its candidates and its length; and a run so far, with one step more.
use Rattle.std.proofs.Common.{◌≡◌, ℕ, List, [], ◌∷◌, ◌++◌, length, map, take, Err, refl, sym, ap, ◌∙◌, subst, arith, ◌+◌, ◌<◌, ◌≤◌, get_or, Option, Some, None, max, Ok, Result}
use Rattle.std.specs.List.{AllByRecursion}
use Rattle.std.proofs.lemmas.List.{length-map, take_all, take_at, map-append, take_more}
use Rattle.std.proofs.lemmas.List.Elements.{recursion_from_All}
use Rattle.std.proofs.Math.Nat.{le-max_left, max-le}
use Rattle.std.specs.Prelude.{IfErr, IfOk, OnErr}
use Rattle.std.specs.declared.vec.Vec.{Vec}
use Rattle.dnw_base.specs.declared.error.ProtoError.{ProtoError}
use Rattle.dnw_write.specs.Encoder.{Encoder}
use Rattle.dnw_write.specs.EmittingLaws.{take_all_lem}
use Rattle.dnw_write_script.specs.declared.wire_record.WireRecord.{WireRecord}
use Rattle.dnw_write_script.specs.WrittenRecords.{EmitsRecord}
use Rattle.dnw_write_script.specs.Parts.{WirePart, name_part}
use Rattle.dnw_write_script.proofs.Bounded.{part_stays_bounded, parts_stay_bounded}
use Rattle.dnw_write_script.specs.declared.script.Reply.{Reply}
use Rattle.dnw_write_script.specs.Script.{Action, action, item_parts, set_max, wire_part, write, write_items}
use Rattle.dnw_write_script.specs.Pieces.{Account, PiecesLie, after_action, opening, account_from, Slot}
use Rattle.dnw_write_script.specs.Replies.{RepliesTo, ReplyTo, ReplyToPart}
use Rattle.dnw_write_script.specs.Runs.{IsUseful, Runs, beginning, RunsStep}
use Rattle.dnw_write_script.specs.ScriptLaws.{RunsFinish, ItemsOfScriptsStayBounded, PartsOfScriptsStayBounded, RunsStayBounded}
use Rattle.dnw_write_script.proofs.Chunks.{laid, piece_of, spells, upto, ends_most}
use Rattle.dnw_write_script.proofs.Standing.{holds_now, sound_upto}
use Rattle.dnw_write_script.proofs.Stepping.{Goes, Good, record_undone, step, goes, good_beginning}
use Rattle.dnw_write_script.specs.declared.script.Step.{Step}
use Rattle.dnw_write_script.specs.Inside.Running.{HoldsPlace, Tracks, RunsTo}
use Rattle.dnw_write_script.specs.declared.script.Reply.TheVariants.{Done, Items}
use Rattle.dnw_write_script.specs.Finished.{largest_max, max_after, Finished}
use Rattle.dnw_write_script.proofs.WireParts.{as_item_parts, as_wire_part}
use Rattle.dnw_write_script.specs.Ran.{Ran}
use Rattle.dnw_write_script.proofs.ShortestNames.{names_are_shortest}

-- ---- the first steps

-- A run is one of the first steps, and one of the others.
splits : (a : Account) (v w : Encoder) (first rest : List Action) (given others : List Reply) → length first ≡ length given
    → Runs a v (first ++ rest) (given ++ others) w
    → (m : Encoder) × Runs a v first given m × Runs (account_from a first given) m rest others w
    × (account_from a (first ++ rest) (given ++ others) ≡ account_from (account_from a first given) rest others)
splits a v w [] rest [] others same h = (v, refl, h, refl)
splits a v w (action ∷ first) rest (reply ∷ given) others same h =
    let (m, before, behind, account) = splits (after_action a action reply) h.0 w first rest given others (omega (arith, same)) h.2 in
    (m, (h.0, h.1, before), behind, account)
splits a v w first rest given others same h = absurd (omega arith)

-- ---- the laws

module _ (old : List ℕ) (candidates names : ℕ) (actions : List Action) (replies : List Reply) (w : Encoder)
    (h : Runs (opening (length old)) (beginning old candidates names) actions replies w) where
  all : RepliesTo (opening (length old)) actions replies × Goes old [] (account_from (opening (length old)) actions replies) w
  all = goes old [] (opening (length old)) (beginning old candidates names) w actions replies (good_beginning old candidates names) h

  pub runs_reply : RepliesTo (opening (length old)) actions replies
  runs_reply = all.0

  -- a record that is refused then leaves the encoder
  pub undoes : (v : Encoder) (r : WireRecord) (error : ProtoError) → EmitsRecord r w (Err error) v → v ≡ w
  undoes v r error refused = record_undone old all.1.chunks w v r error all.1.good.sound refused

  pub runs_useful : AllByRecursion (IsUseful w) w.candidates
  runs_useful =
      recursion_from_All (IsUseful w) w.candidates (rw (take_all_lem w.offset w.bytes all.1.good.sound.end) (holds_now old all.1.chunks w all.1.good.sound).1)

-- The pieces of the first steps are there in the finished bytes.
spells_first : (old : List ℕ) (candidates names : ℕ) (first rest : List Action) (given others : List Reply) (w : Encoder) → length first ≡ length given
    → Runs (opening (length old)) (beginning old candidates names) (first ++ rest) (given ++ others) w
    → PiecesLie w.bytes (take (length (account_from (opening (length old)) first given).pieces) (account_from (opening (length old)) (first ++ rest) (given ++ others)).pieces)
    (length old) (account_from (opening (length old)) first given).len
spells_first old candidates names first rest given others w same h =
    let a = opening (length old) in
    let b = account_from a first given in
    let (m, before, behind, account) = splits a (beginning old candidates names) w first rest given others same h in
    let one = (all old candidates names first given m before).1 in
    let two = (goes old one.chunks b m w rest others one.good behind).1 in
    let s = two.good.sound in
    let n = length one.chunks in
    let count : length b.pieces ≡ n = cc (one.good.pieces_are, length-map one.chunks piece_of) in
    let end : upto (length old) (take n two.chunks) ≡ b.len =
    cc (two.same n (omega arith), take_all n one.chunks (omega arith), sound_upto old one.chunks m one.good.sound, one.good.len_is) in
    rw (count, account, two.good.pieces_are) (subst (PiecesLie w.bytes (take n (map piece_of two.chunks)) (length old)) end
    (spells w.bytes old (length old) n two.chunks refl s.bytes (holds_now old two.chunks w s).0))

pub runs_finish : RunsFinish
runs_finish old candidates names actions replies w h =
    let go = (all old candidates names actions replies w h).1 in
    let s = go.good.sound in
    record {
      begins = ap (take (length old)) s.bytes ∙ take_at old (laid go.chunks) (length old) refl;
      spells = λ first rest given others actions_are replies_are same.
          rw (actions_are, replies_are) (spells_first old candidates names first rest given others w same (rw (actions_are, replies_are) at h));
      ends = go.good.len_is ∙ s.end;
    }

-- ---- the length

part_len : (a : Account) (part : WirePart) (len : ℕ) → ReplyToPart a part (Done len) → len ≤ a.max
part_len a (name_part mode name) len h = omega arith
part_len a part len h = omega arith

-- a step leaves the length, or ends within the maximum, which it may set
step_len : (a : Account) (action : Action) (reply : Reply) → ReplyTo a action reply
    → ((after_action a action reply).len ≤ max a.len (max_after a.max action)) × ((after_action a action reply).max ≡ max_after a.max action)
step_len a (write part) (Done len) h = (omega (arith, part_len a (wire_part a.mode part) len h), refl)
step_len a (write_items items) (Items count None len) h = (h.2, refl)
step_len a (write_items items) (Items count (Some error) len) h = (h.2, refl)
step_len a (set_max size) (Done len) h = (omega arith, refl)
step_len a (set_max size) reply h = absurd h
step_len a action (Done len) h = (omega arith, refl)
step_len a action reply h = (omega arith, refl)

steps_len : (a : Account) (actions : List Action) (replies : List Reply) → RepliesTo a actions replies
    → (account_from a actions replies).len ≤ max a.len (largest_max a.max actions)
steps_len a [] [] h = le-max_left a.len 0
steps_len a (action ∷ actions) (reply ∷ replies) h =
    let b = after_action a action reply in
    let most = max_after a.max action in
    let (most_len, most_is) = step_len a action reply h.0 in
    let rest = rw most_is at (steps_len b actions replies h.1) in
    let last = largest_max most actions in
    let le : max b.len last ≤ max a.len (max most last) = max-le (omega (arith, most_len)) (omega arith) in
    omega (arith, rest, le)
steps_len a actions replies h = absurd h

pub runs_stay_bounded : RunsStayBounded
runs_stay_bounded old candidates names actions replies w h =
    omega (arith, steps_len (opening (length old)) actions replies (runs_reply old candidates names actions replies w h), (runs_finish old candidates names actions replies w h).ends)

pub parts_of_scripts_stay_bounded : PartsOfScriptsStayBounded
parts_of_scripts_stay_bounded part v w e h = (part_stays_bounded (wire_part v.encoding part) v w (omega (arith, e)) (as_wire_part part v w (Ok tt) e h)).0

pub items_of_scripts_stay_bounded : ItemsOfScriptsStayBounded
items_of_scripts_stay_bounded item v w e h = (parts_stay_bounded (item_parts v.encoding item) v w (omega (arith, e)) (as_item_parts item v w (Ok tt) e h)).0

-- ---- what is promised

pub ran : {Z : Type 0} (old : List ℕ) (candidates names : ℕ) (steps : List Step) (r : Result (Vec Reply Z) ProtoError) (new : List ℕ)
    → IfOk r (λ x. RunsTo old candidates names (map action steps) x.items new) → IfErr r (λ e. (1 ≤ length steps) × (e ≡ ProtoError.Memory))
    → OnErr r (new ≡ old) → Ran old candidates names steps r new
ran old candidates names steps (Ok x) new (w, runs, bytes) err same =
    let actions = map action steps in
    record {
      replies = runs_reply old candidates names actions x.items w runs;
      finished = subst (Finished old actions x.items) (sym bytes) (runs_finish old candidates names actions x.items w runs);
      shortest = names_are_shortest old candidates names actions x.items w runs;
      runs = record { last = w; runs = runs; bytes = bytes; useful = runs_useful old candidates names actions x.items w runs };
      bounded = omega (arith, ap length bytes, runs_stay_bounded old candidates names actions x.items w runs);
      err = tt;
      same = tt;
    }
ran old candidates names steps (Err e) new run err same =
    record { replies = tt; finished = tt; shortest = tt; runs = tt; bounded = omega (arith, ap length same); err = err; same = same }

-- ---- one step more, after the others

runs_push : (a : Account) (v : Encoder) (actions : List Action) (replies : List Reply) (m : Encoder) (action : Action) (reply : Reply) (w : Encoder)
    → Runs a v actions replies m → RunsStep (account_from a actions replies) m action reply w
    → Runs a v (actions ++ action ∷ []) (replies ++ reply ∷ []) w
    × (account_from a (actions ++ action ∷ []) (replies ++ reply ∷ []) ≡ after_action (account_from a actions replies) action reply)
runs_push a v [] [] m action reply w same step = ((w, subst (λ x. RunsStep a x action reply w) same step, refl), refl)
runs_push a v (x ∷ actions) (r ∷ replies) m action reply w all step =
    let (more, account) = runs_push (after_action a x r) all.0 actions replies m action reply w all.2 step in ((all.0, all.1, more), account)
runs_push a v actions replies m action reply w all step = absurd all

-- ---- a run so far

pub record HasRun (v : Encoder) (actions : List Action) (replies : List Reply) (w : Encoder) (places : List (Option ℕ)) : Type 0 where
  pub runs : Runs (opening (length v.bytes)) v actions replies w
  pub tracks : Tracks places (account_from (opening (length v.bytes)) actions replies).places

-- the places that are kept lie before the offset
holds_kept : (w : Encoder) (places : List (Option ℕ)) (slots : List Slot) → Tracks places slots
    → AllByRecursion (λ e. e ≤ w.offset) (map (λ (s : Slot). s.end) slots) → AllByRecursion (HoldsPlace w) places
holds_kept w [] [] t inside = tt
holds_kept w (None ∷ places) (slot ∷ slots) t inside = (tt, holds_kept w places slots t.1 inside.1)
holds_kept w (Some p ∷ places) (slot ∷ slots) t inside = (omega (arith, t.0.1, inside.0), holds_kept w places slots t.1 inside.1)
holds_kept w places slots t inside = absurd t

pub has_run_holds : (v w : Encoder) (actions : List Action) (replies : List Reply) (places : List (Option ℕ))
    → v ≡ beginning v.bytes v.candidate_limit v.name_limit → HasRun v actions replies w places
    → (w.offset ≡ length w.bytes) × AllByRecursion (HoldsPlace w) places
has_run_holds v w actions replies places is h =
    let a = account_from (opening (length v.bytes)) actions replies in
    let go = (goes v.bytes [] (opening (length v.bytes)) v w actions replies (subst (Good v.bytes [] (opening (length v.bytes))) (sym is) (good_beginning v.bytes v.candidate_limit v.name_limit)) h.runs).1 in
    let inside = ends_most (length v.bytes) w.offset go.chunks (omega (arith, sound_upto v.bytes go.chunks w go.good.sound)) in
    (go.good.sound.end, holds_kept w places a.places h.tracks (subst (AllByRecursion (λ e. e ≤ w.offset)) (sym go.good.places) inside))

-- one of all steps more
pub has_run_more : {v m w : Encoder} (steps : List Step) {i : ℕ} {step : Step} {replies : List Reply} {places new : List (Option ℕ)} (reply : Reply)
    → i < length steps → step ≡ get_or steps i step → HasRun v (map action (take i steps)) replies m places
    → ((a : Account) → Tracks places a.places → RunsStep a m (action step) reply w)
    → ((a : Account) → Tracks places a.places → Tracks new (after_action a (action step) reply).places)
    → HasRun v (map action (take (i + 1) steps)) (replies ++ reply ∷ []) w new
has_run_more {v} {m} {w} steps {i} {step} {replies} {places} {new} reply below is h runs tracks =
    let start = opening (length v.bytes) in
    let actions = map action (take i steps) in
    let a = account_from start actions replies in
    let (more, account) = runs_push start v actions replies m (action step) reply w h.runs (runs a h.tracks) in
    let pushed : HasRun v (actions ++ action step ∷ []) (replies ++ reply ∷ []) w new =
    record { runs = more; tracks = rw account (tracks a h.tracks) } in
    rw (take_more steps i step below, ← is, map-append) pushed
