-- From each position, in each segment, exactly one of a reading and a fault follows, with unique values: the octets at a
-- position say by what step it begins.
use Rattle.std.proofs.Common.{◌≡◌, ℕ, zero, suc, ◌+◌, ◌-◌, ◌<◌, ◌≤◌, cond, eqb, leb, ltb, Option, Some, None, Result, Ok, Err, List, [], ◌∷◌, length, get_or, slice_get, slice_range, refl, sym, ap, ◌∙◌, ⊎_elim, arith, lt-ltb, le-ltb}
use Rattle.std.specs.Prelude.{option_map}
use Rattle.std.proofs.lemmas.Bool.{cases_lt}
use Rattle.std.proofs.lemmas.Bool.Decides.{nat_tests}
use Rattle.std.proofs.lemmas.Option.{gets, same_Some, slice_get-get_or}
use Rattle.dnw_base.specs.declared.error.DecodeError.{DecodeError}
use Rattle.dnw_base.specs.declared.error.DecodeError.TheVariants.{LabelOverlapsWithOther, InsufficientBytes, PointerNotPriorToLabel, DomainNameTooLong, UnrecognizedLabelCode}
use Rattle.dnw_name_read.specs.declared.walk.Element.{Element}
use Rattle.dnw_name_read.specs.declared.walk.Element.TheVariants.{End, Label, Pointer}
use Rattle.dnw_name_read.specs.Reading.{IsWithin, target, Reads, Stops, zero_octet, label, pointer, overlap, no_octet, half_pointer, not_prior, cut_label, too_long, reserved}
use Rattle.dnw_name_read.specs.Inside.Walking.{IsLabelAt, IsPointerAt}
use Rattle.dnw_name_read.proofs.Counts.{octets, octets_label}

-- an element, or an error with which reading stops
abbrev pub Step : Type 0
Step = Result Element DecodeError

-- the step at an octet of the message, and the one at p, in a segment that began at s
abbrev octet_step : List ℕ → ℕ → ℕ → ℕ → Step
octet_step b p s c =
    cond (leb c 63)
    (cond (eqb c 0) (Ok End) (cond (leb (p + 1 + c) (length b)) (Ok (Label c)) (Err InsufficientBytes)))
    (cond (leb c 191)
    (Err (UnrecognizedLabelCode c))
    (cond (leb (length b) (p + 1))
    (Err InsufficientBytes)
    (cond (ltb (target c (get_or b (p + 1) 0)) s) (Ok (Pointer (target c (get_or b (p + 1) 0)))) (Err (PointerNotPriorToLabel p (target c (get_or b (p + 1) 0)))))))

abbrev here : List ℕ → ℕ → ℕ → Step
here b p s = cond (leb (length b) p) (Err InsufficientBytes) (octet_step b p s (get_or b p 0))

abbrev pub step : List ℕ → ℕ → ℕ → Option ℕ → Step
step b p s None = here b p s
step b p s (Some limit) = cond (ltb p limit) (here b p s) (Err (LabelOverlapsWithOther s limit))

-- within the limit it is the octet's
within : (b : List ℕ) (p s : ℕ) (limit : Option ℕ) → IsWithin p limit → step b p s limit ≡ here b p s
within b p s None w = refl
within b p s (Some limit) w = rw (lt-ltb p limit w) refl

-- The step at each kind of octet at which reading goes on. Explicit: b p s limit, the octets, and then the facts of the
-- constructor of `Reads`, in its order.
pub step_zero : (b : List ℕ) (p s : ℕ) (limit : Option ℕ) → IsWithin p limit → slice_get b p ≡ Some 0
    → step b p s limit ≡ Ok End
step_zero b p s limit w g = rw within (grind (arith, nat_tests, gets))

pub step_label : (b : List ℕ) (p s : ℕ) (limit : Option ℕ) (c : ℕ) → IsWithin p limit → slice_get b p ≡ Some c → 1 ≤ c
    → c ≤ 63 → p + 1 + c ≤ length b → step b p s limit ≡ Ok (Label c)
step_label b p s limit c w g one most fit = rw within (grind (arith, nat_tests, gets))

pub step_pointer : (b : List ℕ) (p s : ℕ) (limit : Option ℕ) (high low : ℕ) → IsWithin p limit
    → slice_get b p ≡ Some high → 192 ≤ high → slice_get b (p + 1) ≡ Some low → target high low < s
    → step b p s limit ≡ Ok (Pointer (target high low))
step_pointer b p s limit high low w g least g' prior = rw within (grind (arith, nat_tests, gets))

-- how a reading goes on after its step
abbrev pub ReadsBy : List ℕ → ℕ → ℕ → Option ℕ → List (List ℕ) → ℕ → ℕ → Step → Type 0
ReadsBy b p s limit ls e k (Ok End) = (ls ≡ []) × (e ≡ p + 1) × (k ≡ 0)
ReadsBy b p s limit ls e k (Ok (Label c)) =
    (rest : List (List ℕ)) × (ls ≡ slice_range b (p + 1) (p + 1 + c) ∷ rest) × Reads b (p + 1 + c) s limit rest e k
ReadsBy b p s limit ls e k (Ok (Pointer t)) =
    (end followed : ℕ) × (e ≡ p + 2) × (k ≡ suc followed) × Reads b t t (Some s) ls end followed
ReadsBy b p s limit ls e k (Err error) = ⊥

-- a reading goes on as its step says; explicit: the equation for the step, and the reading
pub Reads_by : {b : List ℕ} {p s e k : ℕ} {limit : Option ℕ} {ls : List (List ℕ)} {next : Step}
    → step b p s limit ≡ next → Reads b p s limit ls e k → ReadsBy b p s limit ls e k next
Reads_by is (zero_octet w g) = rw (← is, step_zero _ _ _ _ w g) (refl, refl, refl)
Reads_by is (label c w g one most fit r) = rw (← is, step_label _ _ _ _ c w g one most fit) (_, refl, r)
Reads_by is (pointer high low w g least g' prior r) = rw (← is, step_pointer _ _ _ _ high low w g least g' prior) (_, _, refl, refl, r)

-- an error, and the counts of pointers and labels with which reading stops
abbrev Stop : Type 0
Stop = DecodeError × ℕ × ℕ

-- those with which it stops in fewer than m steps, if it does
abbrev fault_by : (ℕ → ℕ → Option ℕ → ℕ → Option Stop) → ℕ → ℕ → Option ℕ → ℕ → Step → Option Stop
fault_by on p s limit n (Ok End) = None
fault_by on p s limit n (Ok (Label c)) =
    cond (ltb 255 (n + 1 + c)) (Some (DomainNameTooLong c, 0, 1)) (option_map (λ x. (x.0, x.1, suc x.2)) (on (p + 1 + c) s limit (n + 1 + c)))
fault_by on p s limit n (Ok (Pointer t)) = option_map (λ x. (x.0, suc x.1, x.2)) (on t t (Some s) n)
fault_by on p s limit n (Err error) = Some (error, 0, 0)

abbrev fault : ℕ → List ℕ → ℕ → ℕ → Option ℕ → ℕ → Option Stop
fault zero b p s limit n = None
fault (suc m) b p s limit n = fault_by (fault m b) p s limit n (step b p s limit)

-- a fault is what this says
Stops_fault : (m : ℕ) {b : List ℕ} {p s n k j : ℕ} {limit : Option ℕ} {error : DecodeError} → s + (255 - n) < m
    → Stops b p s limit n error k j → fault m b p s limit n ≡ Some (error, k, j)
Stops_fault zero less f = absurd (omega arith)
Stops_fault (suc m) less (overlap over) = rw (le-ltb _ _ over) refl
Stops_fault (suc m) less (no_octet w past) = rw within (grind (arith, nat_tests, gets))
Stops_fault (suc m) less (half_pointer high w g least past) = rw within (grind (arith, nat_tests, gets))
Stops_fault (suc m) less (not_prior high low w g least g' late) = rw within (grind (arith, nat_tests, gets))
Stops_fault (suc m) less (pointer high low w g least g' prior f) =
    rw (step_pointer _ _ _ _ high low w g least g' prior, Stops_fault m (omega arith) f) refl
Stops_fault (suc m) less (cut_label c w g one most cut) = rw within (grind (arith, nat_tests, gets))
Stops_fault (suc m) less (too_long c w g one most fit long) = rw (step_label _ _ _ _ c w g one most fit, lt-ltb) refl
Stops_fault (suc m) less (label c w g one most fit short f) =
    rw (step_label _ _ _ _ c w g one most fit, le-ltb _ _ short, Stops_fault m (omega arith) f) refl
Stops_fault (suc m) less (reserved c w g least most) = rw within (grind (arith, nat_tests, gets))

-- and a reading whose labels fit, after n octets of the name, does not stop
Reads_no_fault : (m : ℕ) {b : List ℕ} {p s e k : ℕ} {limit : Option ℕ} {ls : List (List ℕ)} (n : ℕ) → s + (255 - n) < m → n + octets ls ≤ 255
    → Reads b p s limit ls e k → fault m b p s limit n ≡ None
Reads_no_fault zero n less fits r = absurd (omega arith)
Reads_no_fault (suc m) n less fits (zero_octet w g) = rw (step_zero _ _ _ _ w g) refl
Reads_no_fault (suc m) {b} {p} n less fits (label {ls = rest} c w g one most fit r) =
    let size = octets_label b p c rest fit in
    rw (step_label _ _ _ _ c w g one most fit, le-ltb 255 (n + 1 + c) (omega arith), Reads_no_fault m (n + 1 + c) (omega arith) (omega arith) r) refl
Reads_no_fault (suc m) n less fits (pointer high low w g least g' prior r) =
    rw (step_pointer _ _ _ _ high low w g least g' prior, Reads_no_fault m n (omega arith) fits r) refl

-- the labels, the end and the count of pointers are unique; explicit: the two readings
pub Reads_unique : {b : List ℕ} {p s e e' k k' : ℕ} {limit : Option ℕ} {ls ls' : List (List ℕ)}
    → Reads b p s limit ls e k → Reads b p s limit ls' e' k' → (ls ≡ ls') × (e ≡ e') × (k ≡ k')
Reads_unique (zero_octet w g) h = let (ls_is, e_is, k_is) = Reads_by (step_zero _ _ _ _ w g) h in (cc, cc, cc)
Reads_unique (label c w g one most fit r) h =
    let (rest, ls_is, r') = Reads_by (step_label _ _ _ _ c w g one most fit) h in
    let (same, e_is, k_is) = Reads_unique r r' in
    (cc, e_is, k_is)
Reads_unique (pointer high low w g least g' prior r) h =
    let (end, followed, e_is, k_is, r') = Reads_by (step_pointer _ _ _ _ high low w g least g' prior) h in
    let (same, _, same_k) = Reads_unique r r' in
    (same, sym e_is, cc)

-- and so are a fault's error and its counts of pointers and labels; explicit: the two faults
pub Stops_unique : {b : List ℕ} {p s n k k' j j' : ℕ} {limit : Option ℕ} {error error' : DecodeError}
    → Stops b p s limit n error k j → Stops b p s limit n error' k' j' → (error ≡ error') × (k ≡ k') × (j ≡ j')
Stops_unique {s} {n} f f' =
    let m : ℕ = suc (s + (255 - n)) in
    let same = same_Some {A = Stop} _ _ (sym (Stops_fault m (omega arith) f) ∙ Stops_fault m (omega arith) f') in
    (ap (λ (x : Stop). x.0) same, ap (λ (x : Stop). x.1) same, ap (λ (x : Stop). x.2) same)

-- a reading whose labels fit, after n octets of the name, is no fault; explicit: the reading, the bound, the fault
pub Reads_not_Stops : {b : List ℕ} {p s e k n followed found : ℕ} {limit : Option ℕ} {ls : List (List ℕ)} {error : DecodeError}
    → Reads b p s limit ls e k → n + octets ls ≤ 255 → Stops b p s limit n error followed found → ⊥
Reads_not_Stops {s} {n} r fits h =
    let m : ℕ = suc (s + (255 - n)) in
    let both = sym (Reads_no_fault m n (omega arith) fits r) ∙ Stops_fault m (omega arith) h in cc

-- what is read or stops where a pointer leads is read or stops at the pointer
pub Reads_jump : {b : List ℕ} {p s t e k : ℕ} {limit : Option ℕ} {ls : List (List ℕ)} → IsWithin p limit → IsPointerAt b p s t
    → Reads b t t (Some s) ls e k → Reads b p s limit ls (p + 2) (suc k)
Reads_jump w at r = pointer at.high at.low w at.first at.marked at.second (rw at.leads at at.prior) (rw at.leads at r)

pub Stops_jump : {b : List ℕ} {p s t n k j : ℕ} {limit : Option ℕ} {error : DecodeError} → IsWithin p limit → IsPointerAt b p s t
    → Stops b t t (Some s) n error k j → Stops b p s limit n error (suc k) j
Stops_jump w at f = pointer at.high at.low w at.first at.marked at.second (rw at.leads at at.prior) (rw at.leads at f)

-- what is left of the message ends within a label or a pointer
pub short_label : {b : List ℕ} {p s n : ℕ} {limit : Option ℕ} → IsWithin p limit → 1 ≤ get_or b p 0 → get_or b p 0 ≤ 63
    → length b < p + 1 + get_or b p 0 → p < length b → Stops b p s limit n InsufficientBytes 0 0
short_label {b} {p} w one most cut inside = cut_label (get_or b p 0) w (slice_get-get_or b p 0 inside) one most cut

pub short_pointer : {b : List ℕ} {p s n : ℕ} {limit : Option ℕ} → IsWithin p limit → 192 ≤ get_or b p 0
    → length b ≤ p + 1 → p < length b → Stops b p s limit n InsufficientBytes 0 0
short_pointer {b} {p} w least cut inside = half_pointer (get_or b p 0) w (slice_get-get_or b p 0 inside) least cut

-- the reasons for which reading stops at once
pub ruleset stopping = (gets, overlap, no_octet, short_pointer, not_prior, short_label, reserved)

-- what follows from each reading from p on that fits after n octets of the name, and from each fault
abbrev Settles : Type 0 → List ℕ → ℕ → ℕ → Option ℕ → ℕ → Type 0
Settles A b p s limit n =
    ((ls : List (List ℕ)) (e k : ℕ) → Reads b p s limit ls e k → n + octets ls ≤ 255 → A)
    → ((error : DecodeError) (k j : ℕ) → Stops b p s limit n error k j → A) → A

module _ {A : Type 0} (b : List ℕ) where
  -- one step, and then as the readings go on that are nearer to their end
  walk_on : (m : ℕ) → ((q t : ℕ) (other : Option ℕ) (i : ℕ) → i ≤ 255 → t + (255 - i) < m → Settles A b q t other i)
      → (p s : ℕ) (limit : Option ℕ) (n : ℕ) → n ≤ 255 → s + (255 - n) < suc m → IsWithin p limit → (x : Step) → here b p s ≡ x → Settles A b p s limit n
  walk_on m on p s limit n fits less w (Ok End) is name fault = name [] (p + 1) 0 (zero_octet w (grind (arith, nat_tests, gets))) (omega arith)
  walk_on m on p s limit n fits less w (Ok (Label c)) is name fault =
      let l : IsLabelAt b p c = grind (arith, nat_tests, gets) in
      ⊎_elim
      (λ long. fault _ 0 1 (too_long c w l.octet l.some l.few l.there long))
      (λ short.
      on (p + 1 + c) s limit (n + 1 + c) short (let some = l.some in omega arith)
      (λ ls e k r most. name _ e k (label c w l.octet l.some l.few l.there r) (omega (arith, octets_label b p c ls l.there)))
      (λ error k j f. fault error k (suc j) (label c w l.octet l.some l.few l.there short f)))
      (cases_lt 255 (n + 1 + c))
  walk_on m on p s limit n fits less w (Ok (Pointer t)) is name fault =
      let at : IsPointerAt b p s t = grind (arith, nat_tests, gets) in
      on t t (Some s) n fits (omega arith) (λ ls e k r. name ls (p + 2) (suc k) (Reads_jump w at r)) (λ error k j f. fault error (suc k) j (Stops_jump w at f))
  walk_on m on p s limit n fits less w (Err error) is name fault = fault error 0 0 (grind (arith, nat_tests, stopping))

  -- a reading that begins with n octets of the name, at most 255, ends in a name or in a fault: a label leaves less of
  -- the 255 octets, and a pointer a lower start, and m is above their sum
  pub walk : (m p s : ℕ) (limit : Option ℕ) (n : ℕ) → n ≤ 255 → s + (255 - n) < m → Settles A b p s limit n
  walk zero p s limit n fits less = absurd (omega arith)
  walk (suc m) p s None n fits less = walk_on m (walk m) p s None n fits less tt _ refl
  walk (suc m) p s (Some limit) n fits less =
      ⊎_elim (λ w. walk_on m (walk m) p s (Some limit) n fits less w _ refl) (λ over name fault. fault _ 0 0 (overlap over)) (cases_lt p limit)
