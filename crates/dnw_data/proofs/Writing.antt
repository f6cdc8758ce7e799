-- Steps of writing a bitmap.
use Rattle.std.proofs.Common.{◌≡◌, ◌≢◌, ◌*◌, ◌/◌, ◌-◌, ◌^◌, ◌%◌, Bool, true, false, ℕ, zero, suc, ◌+◌, ◌<◌, ◌≤◌, List, [], ◌∷◌, ◌++◌, length, take, get_or, refl, sym, ap, ◌∙◌, subst, arith, bit_or, add-one}
use Rattle.std.specs.Int.{bit_at, w8}
use Rattle.std.specs.List.{flat_map, AllByRecursion}
use Rattle.std.proofs.lemmas.Grind.{flat_map-append}
use Rattle.std.proofs.lemmas.List.{append_assoc, append-nil, length-append, take_more, take_all}
use Rattle.std.proofs.lemmas.Nat.Bits.{bit_at_set_same, bit_at_set_other}
use Rattle.dnw_data.specs.TypeSets.{Window, window, bit_codes, octet_codes, octets_codes, window_codes, windows_codes, window_bytes, window_size, EndsInBit, NumbersFrom, IsWritten, Encodes}
use Rattle.dnw_data.specs.Inside.Bitmaps.{Above, code_if, with_bit, PushesWindow}

-- ---- one octet

-- the codes of the first bits of an octet
abbrev pub codes_below : ℕ → ℕ → ℕ → List ℕ
codes_below first octet zero = []
codes_below first octet (suc bit) = codes_below first octet bit ++ bit_codes first octet bit

pub record Taken (first octet bit : ℕ) (codes rest : List ℕ) : Type 0 where
  pub taken : codes_below first octet bit ++ rest ≡ codes
  pub above : Above (first + bit) rest
  pub unset : (k : ℕ) → bit ≤ k → k < 8 → bit_at octet (7 - k) ≡ 0

eight : (a b c d e f g h : List ℕ) → [] ++ a ++ b ++ c ++ d ++ e ++ f ++ g ++ h ≡ a ++ (b ++ (c ++ (d ++ (e ++ (f ++ (g ++ (h ++ [])))))))
eight a b c d e f g h = simp (append_assoc, append-nil)

pub all_below : (first octet : ℕ) → codes_below first octet 8 ≡ octet_codes first octet
all_below first octet =
    let f = bit_codes first octet in
    eight (f 0) (f 1) (f 2) (f 3) (f 4) (f 5) (f 6) (f 7)

above_more : (first bit : ℕ) (codes : List ℕ) → Above (first + bit + 1) codes → Above (first + (bit + 1)) codes
above_more first bit codes h = let P : ℕ → Type 0 = λ n. Above n codes in subst P (let e : first + bit + 1 ≡ first + (bit + 1) = omega arith in e) h

-- a bit that is set changes the codes of no other bit
below_same : (first octet bit n : ℕ) → bit < 8 → n ≤ bit → codes_below first (bit_or octet (1 * 2 ^ (7 - bit) % 2 ^ 8)) n ≡ codes_below first octet n
below_same first octet bit zero within h = refl
below_same first octet bit (suc n) within h =
    let other : (7 - n) ≢ (7 - bit) = λ e. omega (arith, e) in
    let same = bit_at_set_other w8 octet (7 - bit) (omega arith) (7 - n) other in
    rw (same, below_same first octet bit n within (omega arith)) refl

set_code : (first octet bit : ℕ) → bit < 8 → bit_codes first (bit_or octet (1 * 2 ^ (7 - bit) % 2 ^ 8)) bit ≡ (first + bit) ∷ []
set_code first octet bit within = rw (bit_at_set_same w8 octet (7 - bit) (omega arith)) refl

pub taken_bit : (set : Bool) (first octet bit : ℕ) (codes rest others : List ℕ) → bit < 8 → Taken first octet bit codes rest
    → code_if set (first + bit) ++ others ≡ rest → Above (first + bit + 1) others → Taken first (with_bit set octet bit) (bit + 1) codes others
taken_bit true first octet bit codes rest others within t e above = record {
  taken = rw (add-one bit) (rw (below_same first octet bit bit within (omega arith), set_code first octet bit within)
      (append_assoc (codes_below first octet bit) ((first + bit) ∷ []) others ∙ (ap (λ l. codes_below first octet bit ++ l) e ∙ t.taken)));
  above = above_more first bit others above;
  unset = λ k h below.
      let other : (7 - k) ≢ (7 - bit) = λ (same : 7 - k ≡ 7 - bit). omega arith in
      bit_at_set_other w8 octet (7 - bit) (omega arith) (7 - k) other ∙ t.unset k (omega arith) below;
}
taken_bit false first octet bit codes rest others within t e above = record {
  taken = rw (add-one bit) (rw (t.unset bit (omega arith) within)
      (rw (append-nil (codes_below first octet bit)) (ap (λ l. codes_below first octet bit ++ l) e ∙ t.taken)));
  above = above_more first bit others above;
  unset = λ k h below. t.unset k (omega arith) below;
}

pub taken_all : (first octet : ℕ) (codes rest : List ℕ) → Taken first octet 8 codes rest → octet_codes first octet ++ rest ≡ codes
taken_all first octet codes rest t = ap (λ l. l ++ rest) (sym (all_below first octet)) ∙ t.taken

-- ---- the octets of a window

octets_push : (first : ℕ) (octets : List ℕ) (octet : ℕ)
    → octets_codes first (octets ++ octet ∷ []) ≡ octets_codes first octets ++ octet_codes (first + 8 * length octets) octet
octets_push first [] octet =
    let e : first ≡ first + 8 * 0 = omega arith in
    append-nil (octet_codes first octet) ∙ ap (λ n. octet_codes n octet) e
octets_push first (o ∷ octets) octet =
    let e : first + 8 + 8 * length octets ≡ first + 8 * suc (length octets) = omega arith in
    ap (λ l. octet_codes first o ++ l) (octets_push (first + 8) octets octet)
    ∙ (sym (append_assoc (octet_codes first o) (octets_codes (first + 8) octets) (octet_codes (first + 8 + 8 * length octets) octet))
    ∙ ap (λ n. octets_codes first (o ∷ octets) ++ octet_codes n octet) e)

pub record TakenOctets (first index : ℕ) (octets codes rest : List ℕ) : Type 0 where
  pub same : octets_codes first octets ++ rest ≡ codes
  pub above : Above (first + 8 * index) rest
  pub count : length octets ≡ index

pub octets_next : (first index octet : ℕ) (octets more codes rest others : List ℕ) → TakenOctets first index octets codes rest
    → more ≡ octets ++ octet ∷ [] → octet_codes (first + 8 * index) octet ++ others ≡ rest → Above (first + 8 * index + 8) others
    → TakenOctets first (index + 1) more codes others
octets_next first index octet octets more codes rest others t e taken above = record {
  same =
      rw (e, octets_push first octets octet, t.count)
      (append_assoc (octets_codes first octets) (octet_codes (first + 8 * index) octet) others ∙ (ap (λ l. octets_codes first octets ++ l) taken ∙ t.same));
  above = let P : ℕ → Type 0 = λ n. Above n others in subst P (let e : first + 8 * index + 8 ≡ first + 8 * (index + 1) = omega arith in e) above;
  count = rw e (length-append octets (octet ∷ []) ∙ (let e : length octets + 1 ≡ index + 1 = omega (arith, t.count) in e));
}

-- ---- the octets up to the last bit

pub record Used (octets : List ℕ) (len : ℕ) : Type 0 where
  pub within : len ≤ length octets
  pub codes : (first : ℕ) → octets_codes first (take len octets) ≡ octets_codes first octets

pub used_less : (octets : List ℕ) (len : ℕ) → 0 < len → get_or octets (len - 1) 0 ≡ 0 → Used octets len → Used octets (len - 1)
used_less octets len some zeros u = record {
  within = omega (arith, u.within);
  codes = λ first.
      let e : len ≡ len - 1 + 1 = omega arith in
      let more = take_more octets (len - 1) 0 (omega (arith, u.within)) in
      let without : octets_codes first (take (len - 1) octets) ++ octet_codes (first + 8 * length (take (len - 1) octets)) (get_or octets (len - 1) 0) ≡ octets_codes first (take (len - 1) octets) =
      rw zeros (append-nil (octets_codes first (take (len - 1) octets))) in
      sym (ap (λ n. octets_codes first (take n octets)) e ∙ (ap (octets_codes first) more ∙ (octets_push first (take (len - 1) octets) (get_or octets (len - 1) 0) ∙ without)))
      ∙ u.codes first;
}

ends_push : (octets : List ℕ) (octet : ℕ) → octet ≢ 0 → EndsInBit (octets ++ octet ∷ [])
ends_push [] octet h = h
ends_push (o ∷ []) octet h = h
ends_push (o ∷ next ∷ octets) octet h = ends_push (next ∷ octets) octet h

pub used_ends : (octets : List ℕ) (len : ℕ) → 0 < len → get_or octets (len - 1) 0 ≢ 0 → Used octets len → EndsInBit (take len octets)
used_ends octets len some bit u =
    let e : len - 1 + 1 ≡ len = omega arith in
    let more = take_more octets (len - 1) 0 (omega (arith, u.within)) in
    let P : List ℕ → Type 0 = EndsInBit in
    subst P (sym more ∙ ap (λ n. take n octets) e) (ends_push (take (len - 1) octets) (get_or octets (len - 1) 0) bit)

-- ---- window by window

-- the numbers ascend, from the least and up to below the other
abbrev NumbersTo : ℕ → List Window → ℕ → Type 0
NumbersTo least [] bound = least ≤ bound
NumbersTo least (w ∷ ws) bound = (least ≤ w.number) × NumbersTo (w.number + 1) ws bound

to_push : (least bound : ℕ) (ws : List Window) (w : Window) → NumbersTo least ws bound → bound ≤ w.number → NumbersTo least (ws ++ w ∷ []) (w.number + 1)
to_push least bound [] w h le = (omega arith, omega arith)
to_push least bound (v ∷ ws) w h le = (h.0, to_push (v.number + 1) bound ws w h.1 le)

to_from : (least bound : ℕ) (ws : List Window) → NumbersTo least ws bound → NumbersFrom least ws
to_from least bound [] h = tt
to_from least bound (w ∷ ws) h = (h.0, to_from (w.number + 1) bound ws h.1)

written_push : (ws : List Window) (w : Window) → AllByRecursion IsWritten ws → IsWritten w → AllByRecursion IsWritten (ws ++ w ∷ [])
written_push [] w h one = (one, tt)
written_push (v ∷ ws) w h one = (h.0, written_push ws w h.1 one)

pub record Written (codes bytes rest : List ℕ) : Type 0 where
  pub bound : ℕ
  pub windows : List Window
  pub spelled : bytes ≡ flat_map window_bytes windows
  pub ascending : NumbersTo 0 windows bound
  pub written : AllByRecursion IsWritten windows
  pub same : windows_codes windows ++ rest ≡ codes
  pub above : Above (window_size * bound) rest

pub written_all : (codes bytes rest : List ℕ) → Written codes bytes rest → rest ≡ [] → Encodes codes bytes
written_all codes bytes rest w none = record {
  windows = w.windows;
  spelled = w.spelled;
  ascending = to_from 0 w.bound w.windows w.ascending;
  written = w.written;
  same = sym (append-nil (windows_codes w.windows)) ∙ (ap (λ l. windows_codes w.windows ++ l) (sym none) ∙ w.same);
}

-- Codes that begin below a bound are not all left once the codes from the bound on are.
some_taken : (taken rest codes : List ℕ) (code bound : ℕ) → taken ++ rest ≡ code ∷ codes → Above bound rest → code < bound → 1 ≤ length taken
some_taken [] rest codes code bound e above less = let P : List ℕ → Type 0 = Above bound in let h = subst P e above in omega (arith, h.0)
some_taken (c ∷ taken) rest codes code bound e above less = omega arith

some_octets : (first : ℕ) (octets : List ℕ) → 1 ≤ length (octets_codes first octets) → 1 ≤ length octets
some_octets first [] h = h
some_octets first (o ∷ octets) h = omega arith

pub written_next : (codes bytes more rest others octets tail : List ℕ) (code : ℕ) → Written codes bytes rest → rest ≡ code ∷ tail
    → octets_codes (256 * (code / 256)) octets ++ others ≡ rest → Above (256 * (code / 256) + 256) others → length octets ≡ 32
    → PushesWindow (code / 256) octets bytes more → Written codes more others
written_next codes bytes more rest others octets tail code w first taken above count pushed =
    let n = code / 256 in
    let used = pushed.0 in
    let win = window n used in
    let few : length used ≤ 32 = omega (arith, pushed.2, count) in
    let listed : window_codes win ≡ octets_codes (256 * n) octets = ap (octets_codes (256 * n)) (take_all 32 used few) ∙ pushed.3 (256 * n) in
    let P : List ℕ → Type 0 = Above (256 * w.bound) in
    let from = subst P first w.above in
    let some = some_taken (octets_codes (256 * n) octets) others tail code (256 * n + 256) (taken ∙ first) above (omega arith) in
    record {
      bound = n + 1;
      windows = w.windows ++ win ∷ [];
      spelled = pushed.1 ∙ (ap (λ l. l ++ window_bytes win) w.spelled
          ∙ (ap (λ l. flat_map window_bytes w.windows ++ l) (sym (append-nil (window_bytes win))) ∙ sym (flat_map-append window_bytes w.windows (win ∷ []))));
      ascending = to_push 0 w.bound w.windows win w.ascending (omega (arith, from.0));
      written = written_push w.windows win w.written (record {
        some = some_octets (256 * n) used (rw (pushed.3 (256 * n)) some);
        few = few;
        no_longer = pushed.4;
      });
      same =
          ap (λ l. l ++ others) (flat_map-append window_codes w.windows (win ∷ []))
          ∙ (append_assoc (windows_codes w.windows) (window_codes win ++ []) others
          ∙ (ap (λ l. windows_codes w.windows ++ (l ++ others)) (append-nil (window_codes win) ∙ listed)
          ∙ (ap (λ l. windows_codes w.windows ++ l) taken ∙ w.same)));
      above = let Q : ℕ → Type 0 = λ m. Above m others in subst Q (let e : 256 * n + 256 ≡ 256 * (n + 1) = omega arith in e) above;
    }

-- fewer codes are left
pub fewer : (taken rest codes : List ℕ) (code bound : ℕ) → taken ++ rest ≡ code ∷ codes → Above bound rest → code < bound → length rest < length (code ∷ codes)
fewer taken rest codes code bound e above less =
    let some = some_taken taken rest codes code bound e above less in
    omega (arith, ap length e, length-append taken rest)

pub ruleset used_steps = (used_less, used_ends)
