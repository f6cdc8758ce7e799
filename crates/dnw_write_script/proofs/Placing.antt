-- The placeholders that a run keeps are those that its account has.
use Rattle.std.proofs.Common.{◌≡◌, ℕ, zero, suc, ◌+◌, true, List, [], ◌∷◌, ◌++◌, length, get_or, set, Option, Some, None, refl, sym, ap, ◌∙◌, arith}
use Rattle.std.specs.List.{AllByRecursion}
use Rattle.std.proofs.lemmas.List.{set-get_or}
use Rattle.dnw_write.specs.Encoder.{Encoder, TakesRoom, reserved}
use Rattle.dnw_write.proofs.Bounds.{places_stay_bounded}
use Rattle.dnw_write_script.specs.declared.script.Reply.{Reply}
use Rattle.dnw_write_script.specs.declared.script.Reply.TheVariants.{Done, Refused}
use Rattle.dnw_write_script.specs.Script.{fill, reserve}
use Rattle.dnw_write_script.specs.Pieces.{Account, Slot, after_action, spent}
use Rattle.dnw_write_script.specs.Replies.{open_place}
use Rattle.dnw_write_script.specs.Runs.{RunsFill, GivesReply}
use Rattle.dnw_write_script.specs.Inside.Running.{FillsKept, HoldsPlace, KeepsPlace, Tracks}

pub open_kept : (n : ℕ) (places : List (Option ℕ)) (slots : List Slot) (v : Encoder) (value : ℕ) (reply : Reply) (w : Encoder)
    → Tracks places slots → FillsKept v (get_or places n None) value reply w → RunsFill v (open_place n slots) value reply w
open_kept n [] [] v value reply w t h = h
open_kept zero (None ∷ places) (slot ∷ slots) v value reply w t h = rw t.0 h
open_kept zero (Some p ∷ places) (slot ∷ slots) v value reply w t h = rw (t.0.0, t.0.1) h
open_kept (suc n) (place ∷ places) (slot ∷ slots) v value reply w t h = open_kept n places slots v value reply w t.1 h
open_kept n places slots v value reply w t h = absurd t

-- one that is used up is so in both
tracks_spent : (n : ℕ) (places : List (Option ℕ)) (slots : List Slot) → Tracks places slots → Tracks (set places n None) (spent n slots)
tracks_spent n [] [] t = tt
tracks_spent zero (place ∷ places) (slot ∷ slots) t = (refl, t.1)
tracks_spent (suc n) (place ∷ places) (slot ∷ slots) t = (t.0, tracks_spent n places slots t.1)
tracks_spent n places slots t = absurd t

tracks_by : (place : Option ℕ) (n value : ℕ) (places : List (Option ℕ)) (a : Account) (v : Encoder) (reply : Reply) (w : Encoder)
    → get_or places n None ≡ place → Tracks places a.places → FillsKept v place value reply w
    → Tracks (set places n None) (after_action a (fill n value) reply).places
tracks_by None n value places a v reply w e t h =
    let same : set places n None ≡ places = ap (set places n) (sym e) ∙ set-get_or places n None in rw (h.0, same) t
tracks_by (Some p) n value places a v (Done len) w e t h = tracks_spent n places a.places t
tracks_by (Some p) n value places a v (Refused error len) w e t h = tracks_spent n places a.places t
tracks_by (Some p) n value places a v reply w e t h = absurd h

pub tracks_fill : (n value : ℕ) (places : List (Option ℕ)) (a : Account) (v : Encoder) (reply : Reply) (w : Encoder)
    → Tracks places a.places → FillsKept v (get_or places n None) value reply w → Tracks (set places n None) (after_action a (fill n value) reply).places
tracks_fill n value places a v reply w t h = tracks_by (get_or places n None) n value places a v reply w refl t h

-- one that is reserved is kept in both
tracks_push : (places : List (Option ℕ)) (slots : List Slot) (p e : ℕ) → e ≡ p + 2 → Tracks places slots
    → Tracks (places ++ Some p ∷ []) (slots ++ (record { end = e; is_open = true }) ∷ [])
tracks_push [] [] p e is t = ((refl, is), tt)
tracks_push (place ∷ places) (slot ∷ slots) p e is t = (t.0, tracks_push places slots p e is t.1)
tracks_push places slots p e is t = absurd t

pub tracks_reserve : (places new : List (Option ℕ)) (a : Account) (v w : Encoder) (reply : Reply) → v.offset ≡ length v.bytes → Tracks places a.places
    → KeepsPlace places v.offset reply new → GivesReply (TakesRoom v 2 (reserved v 2)) reply w → Tracks new (after_action a reserve reply).places
tracks_reserve places new a v w (Done len) at_end t is h =
    rw is (tracks_push places a.places v.offset len (omega (arith, h.1, ap (λ (x : Encoder). length x.bytes) h.0.1, (places_stay_bounded v 2 (omega (arith, at_end)) h.0.0).1)) t)
tracks_reserve places new a v w reply at_end t is h = rw is t

pub holds_at : (v : Encoder) (n : ℕ) (places : List (Option ℕ)) → AllByRecursion (HoldsPlace v) places → HoldsPlace v (get_or places n None)
holds_at v n [] all = tt
holds_at v zero (place ∷ places) all = all.0
holds_at v (suc n) (place ∷ places) all = holds_at v n places all.1
