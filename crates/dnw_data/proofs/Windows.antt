-- The windows of a bitmap, and the steps of reading it.
use Rattle.std.proofs.Common.{inl, inr, subst, ◌≡◌, ◌*◌, true, false, ℕ, zero, suc, ◌==◌, ◌||◌, ◌&&◌, nat_le, ◌+◌, ◌<◌, ◌≤◌, List, [], ◌∷◌, length, take, drop, map, ◌++◌, refl, sym, ap, ◌∙◌, arith}
use Rattle.std.proofs.Math.Seq.{take-append_seam, drop-append_seam}
use Rattle.std.proofs.lemmas.Bool.{cases_lt}
use Rattle.std.proofs.lemmas.List.{drop_all, length-append, length-drop, length-take-le, take-append-drop, take_all, append_assoc, append-nil, map-append}
use Rattle.std.proofs.Math.Dec.{eqb-suc-zero}
use Rattle.dnw_base.specs.declared.record_type.RecordType.{RecordType}
use Rattle.dnw_base.specs.RecordTypes.{type_of_code}
use Rattle.dnw_data.specs.SetLaws.{BitmapsAreWindows}
use Rattle.dnw_data.specs.TypeSets.{AreWindows, Window, window_bytes, bits, octets_codes, window_codes, windows_codes, window_size, window, windows_within, windows_of, is_empty, ends_in_zeros, in_bounds}
use Rattle.dnw_base.specs.Limits.{max_window}
use Rattle.dnw_data.specs.Inside.Bitmaps.{SplitsWindow, window_fits}

-- the next bit
pub bits_next : (bit : ℕ) → bit < 8 → drop bit bits ≡ bit ∷ drop (bit + 1) bits
bits_next zero h = refl
bits_next (suc zero) h = refl
bits_next (suc (suc zero)) h = refl
bits_next (suc (suc (suc zero))) h = refl
bits_next (suc (suc (suc (suc zero)))) h = refl
bits_next (suc (suc (suc (suc (suc zero))))) h = refl
bits_next (suc (suc (suc (suc (suc (suc zero)))))) h = refl
bits_next (suc (suc (suc (suc (suc (suc (suc zero))))))) h = refl
bits_next (suc (suc (suc (suc (suc (suc (suc (suc bit)))))))) h = absurd (omega arith)

-- ---- the windows of a bitmap

windows_empty : (n : ℕ) (bytes : List ℕ) → bytes ≡ [] → windows_within n bytes ≡ []
windows_empty zero bytes none = refl
windows_empty (suc n) bytes none = rw none refl

windows_there : (n : ℕ) (bytes : List ℕ) → length bytes ≤ n → AreWindows (windows_within n bytes) bytes
windows_there zero [] h = refl
windows_there zero (b ∷ bytes) h = absurd (omega arith)
windows_there (suc n) [] h = refl
windows_there (suc n) (number ∷ []) h = inl (inl (refl, refl), refl)
windows_there (suc n) (number ∷ len ∷ bytes) h =
    elim (cases_lt (length bytes) len) [
      | inl less ↦
          let all = take_all len bytes (omega arith) in
          inl (inr (len, sym (ap (λ octets. number ∷ len ∷ octets) all), omega (arith, ap length all)), windows_empty n (drop len bytes) (drop_all len bytes (omega arith)))
      | inr enough ↦
          let size = length-take-le len bytes enough in
          inr (drop len bytes, rw (size, take-append-drop len bytes) refl, windows_there n (drop len bytes) (omega (arith, length-drop len bytes)))
    ]

windows_unique : (n : ℕ) (ws : List Window) (bytes : List ℕ) → length bytes ≤ n → AreWindows ws bytes → windows_within n bytes ≡ ws
windows_unique n [] bytes h none = windows_empty n bytes none
windows_unique zero (w ∷ ws) bytes h (inl (inl (whole, none), last)) = absurd (omega (arith, ap length whole))
windows_unique zero (w ∷ ws) bytes h (inl (inr (len, whole, less), last)) = absurd (omega (arith, ap length whole))
windows_unique zero (w ∷ ws) bytes h (inr (rest, whole, others)) = absurd (omega (arith, ap length whole))
windows_unique (suc n) (w ∷ ws) bytes h (inl (inl (whole, none), last)) = rw (whole, last, ← none) refl
windows_unique (suc n) (w ∷ ws) bytes h (inl (inr (len, whole, less), last)) =
    rw (whole, last, take_all len w.octets (omega arith), drop_all len w.octets (omega arith), windows_empty n [] refl) refl
windows_unique (suc n) (w ∷ ws) bytes h (inr (rest, whole, others)) =
    let few : length rest ≤ n = omega (arith, ap length whole, length-append w.octets rest) in
    rw (whole, take-append_seam w.octets rest, drop-append_seam w.octets rest, windows_unique n ws rest few others) refl

pub bitmaps_are : BitmapsAreWindows
unfolding windows_of
bitmaps_are bytes ws =
    let n = length bytes in
    (windows_unique n ws bytes (omega arith), λ same. subst (λ xs. AreWindows xs bytes) same (windows_there n bytes (omega arith)))

pub windows_are : (bytes : List ℕ) → AreWindows (windows_of bytes) bytes
windows_are bytes = (bitmaps_are bytes (windows_of bytes)).1 refl

-- what is after a window
pub windows_before : (w : Window) (rest : List ℕ) → windows_of (window_bytes w ++ rest) ≡ w ∷ windows_of rest
windows_before w rest = (bitmaps_are (window_bytes w ++ rest) (w ∷ windows_of rest)).0 (inr (rest, refl, windows_are rest))

pub windows_none : windows_of [] ≡ []
windows_none = (bitmaps_are [] []).0 refl

pub windows_cut : (number : ℕ) → windows_of (number ∷ []) ≡ window number [] ∷ []
windows_cut number = (bitmaps_are (number ∷ []) (window number [] ∷ [])).0 (inl (inl (refl, refl), refl))

pub windows_next : (number len : ℕ) (bytes : List ℕ) → windows_of (number ∷ len ∷ bytes) ≡ window number (take len bytes) ∷ windows_of (drop len bytes)
unfolding windows_of
windows_next number len bytes =
    let others = drop len bytes in
    ap (λ ws. window number (take len bytes) ∷ ws) (windows_unique (suc (length bytes)) (windows_of others) others (omega (arith, length-drop len bytes)) (windows_are others))

-- ---- steps of reading

-- a window that is cut after its number
pub splits_cut : (bitmap bytes : List ℕ) (number : ℕ) → bitmap ≡ number ∷ bytes → bytes ≡ [] → SplitsWindow bitmap number bytes bytes
splits_cut bitmap bytes number whole none = rw (whole, none) (windows_cut number ∙ sym (ap (λ ws. window number [] ∷ ws) windows_none), omega arith)

pub splits_next : (bitmap bytes rest octets others : List ℕ) (number len : ℕ) → bitmap ≡ number ∷ bytes → bytes ≡ len ∷ rest
    → octets ≡ take len rest → others ≡ drop len rest → SplitsWindow bitmap number octets others
splits_next bitmap bytes rest octets others number len whole after front back =
    let shorter = length-drop len rest in
    (rw (whole, after, front, back) (windows_next number len rest), omega (arith, ap length whole, ap length after, ap length back))

-- what was pushed, and then the rest, give the whole
pub pushed_on : {A B : Type 0} (g : A → B) (old new whole : List B) (xs ys : List A)
    → new ≡ old ++ map g xs → old ++ map g (xs ++ ys) ≡ whole → new ++ map g ys ≡ whole
pushed_on g old new whole xs ys e h =
    ap (λ l. l ++ map g ys) e ∙ (append_assoc old (map g xs) (map g ys) ∙ (ap (λ l. old ++ l) (sym (map-append g xs ys)) ∙ h))

empty_windows : (bytes : List ℕ) → is_empty (windows_of bytes) ≡ (length bytes == 0)
unfolding windows_of
empty_windows [] = refl
empty_windows (number ∷ []) = refl
empty_windows (number ∷ len ∷ bytes) = sym (eqb-suc-zero (suc (length bytes)))

in_bounds_next : (bytes : List ℕ) (number : ℕ) (octets others : List ℕ) → SplitsWindow bytes number octets others
    → in_bounds (windows_of bytes) ≡ (window_fits octets others && in_bounds (windows_of others))
in_bounds_next bytes number octets others h =
    ap in_bounds h.0 ∙ ap (λ e. (nat_le 1 (length octets) || e) && ends_in_zeros octets && in_bounds (windows_of others)) (empty_windows others)

-- one window more is in bounds, and so the rest decides
pub bounds_go_on : (all bytes others octets : List ℕ) (number : ℕ) → in_bounds (windows_of bytes) ≡ in_bounds (windows_of all)
    → SplitsWindow bytes number octets others → true ≡ window_fits octets others → in_bounds (windows_of others) ≡ in_bounds (windows_of all)
bounds_go_on all bytes others octets number same split fits =
    ap (λ b. b && in_bounds (windows_of others)) fits ∙ (sym (in_bounds_next bytes number octets others split) ∙ same)

pub bounds_fail : (all bytes others octets : List ℕ) (number : ℕ) → in_bounds (windows_of bytes) ≡ in_bounds (windows_of all)
    → SplitsWindow bytes number octets others → false ≡ window_fits octets others → false ≡ in_bounds (windows_of all)
bounds_fail all bytes others octets number same split fails =
    ap (λ b. b && in_bounds (windows_of others)) fails ∙ (sym (in_bounds_next bytes number octets others split) ∙ same)

pub bounds_end : (all bytes : List ℕ) → in_bounds (windows_of bytes) ≡ in_bounds (windows_of all) → bytes ≡ [] → true ≡ in_bounds (windows_of all)
unfolding windows_of
bounds_end all bytes same none = rw none at same

-- one window more was pushed
pub pushed_window : (old new whole : List RecordType) (bytes others octets first : List ℕ) (number : ℕ) → SplitsWindow bytes number octets others
    → first ≡ take max_window octets → new ≡ old ++ map type_of_code (octets_codes (window_size * number) first)
    → old ++ map type_of_code (windows_codes (windows_of bytes)) ≡ whole → new ++ map type_of_code (windows_codes (windows_of others)) ≡ whole
pushed_window old new whole bytes others octets first number split front e h =
    let codes = windows_codes (windows_of others) in
    pushed_on type_of_code old new whole (window_codes (window number octets)) codes
    (rw front at e) (rw split.0 at h)

pub pushed_all : (types whole : List RecordType) (bytes : List ℕ) → bytes ≡ [] → types ++ map type_of_code (windows_codes (windows_of bytes)) ≡ whole → types ≡ whole
unfolding windows_of
pushed_all types whole bytes none h = sym (append-nil types) ∙ rw none at h

pub ruleset bits_steps = (bits_next, pushed_on)
