-- A name that is written is read back, whatever the hints say.
use Rattle.std.proofs.Common.{◌≡◌, ◌⊎◌, ℕ, suc, ◌+◌, ◌-◌, ◌/◌, ◌%◌, ◌<◌, ◌≤◌, Option, Some, None, List, [], ◌∷◌, ◌++◌, length, take, drop, get_or, slice_range, slice_get, sym, ap, ◌∙◌, subst, inl, inr, refl, append_assoc, arith, length-append, length-drop}
use Rattle.std.proofs.Math.Nat.{div-add-mod'}
use Rattle.std.specs.List.{AllByRecursion}
use Rattle.std.proofs.lemmas.List.{drop-drop, drop_at, length-take-le, take_at, take-append-drop}
use Rattle.std.proofs.lemmas.Grind.{common_steps, same_number_lists}
use Rattle.std.proofs.lemmas.Option.{slice_get-get_or}
use Rattle.dnw_base.specs.Labels.{IsLabel}
use Rattle.dnw_base.specs.Names.{encoded_size, label_wire}
use Rattle.dnw_base.proofs.Wires.{encoded_size_cons}
use Rattle.dnw_name_read.specs.Reading.{IsWithin, Reads, zero_octet, label, pointer, target}
use Rattle.dnw_name_read.proofs.Back.{slice_get_seam}
use Rattle.dnw_message_writer.specs.declared.standing.Spot.{Spot}
use Rattle.dnw_message_writer.specs.Standing.{FollowsPointer, AreSettled, IsThere, StandsFrom, after_octets}
use Rattle.dnw_message_writer.specs.CompressedNames.{Compresses, MayPointTo, kept_hints}
use Rattle.dnw_message_writer.specs.NameLaws.{KeepsSettled, CompressedNamesTakeNoMore, WrittenNamesAreRead}

-- ---- elements at an offset of a message

module _ (b : List ℕ) (p : ℕ) (c : ℕ) (rest : List ℕ) (at : drop p b ≡ c ∷ rest) where
  pub is_inside : p < length b
  is_inside = omega (arith, ap length at, length-drop p b)

  pub octet_at : slice_get b p ≡ Some c
  octet_at =
      let whole : take p b ++ (c ∷ rest) ≡ b = ap (λ x. take p b ++ x) (sym at) ∙ take-append-drop p b in
      rw whole at (slice_get_seam (take p b) rest c p (sym (length-take-le p b (omega (arith, is_inside)))))

  pub next_at : drop (p + 1) b ≡ rest
  next_at = sym (drop-drop 1 p b) ∙ ap (drop 1) at

pub part_at : (b : List ℕ) (p : ℕ) (l more : List ℕ) → drop p b ≡ l ++ more → slice_range b p (p + length l) ≡ l
part_at b p l more at =
    let size : p + length l - p ≡ length l = omega arith in
    ap (λ n. take n (drop p b)) size ∙ (ap (take (length l)) at ∙ take_at l more (length l) refl)

pub after_at : (b : List ℕ) (p q : ℕ) (l more : List ℕ) → drop p b ≡ l ++ more → q ≡ p + length l → drop q b ≡ more
after_at b p q l more at q_is = rw q_is (sym (drop-drop (length l) p b) ∙ (ap (drop (length l)) at ∙ drop_at l more (length l) refl))

-- a label
label_read : (b : List ℕ) (p s e k : ℕ) (limit : Option ℕ) (l more : List ℕ) (ls : List (List ℕ)) → drop p b ≡ label_wire l ++ more
    → IsLabel l → IsWithin p limit → Reads b (p + 1 + length l) s limit ls e k → Reads b p s limit (l ∷ ls) e k
label_read b p s e k limit l more ls at is within r =
    let octet = octet_at b p (length l) (l ++ more) at in
    let next = next_at b p (length l) (l ++ more) at in
    let fits : p + 1 + length l ≤ length b = omega (arith, ap length at, length-drop p b, length-append l more) in
    subst (λ x. Reads b p s limit (x ∷ ls) e k) (part_at b (p + 1) l more next) (label (length l) within octet is.not_empty is.not_long fits r)

-- ---- settled octets of a later message

pub range_length : (b : List ℕ) (p n : ℕ) → p + n ≤ length b → length (slice_range b p (p + n)) ≡ n
range_length b p n inside =
    omega (arith, length-drop p b, length-take-le (p + n - p) (drop p b) (omega (arith, length-drop p b)))

pub range_index : (b : List ℕ) (p n k : ℕ) → k < n → get_or (slice_range b p (p + n)) k 0 ≡ get_or b (p + k) 0
range_index b p n k small = grind (arith, common_steps)

module _ (b later : List ℕ) (gap : ℕ) (keeps : KeepsSettled gap b later) where
  pub same_there : (p n k : ℕ) → AreSettled b gap p n → k < n → get_or later (p + k) 0 ≡ get_or b (p + k) 0
  same_there p n k settled small =
      let inside = settled.inside in
      let header = settled.after_header in
      let apart : (p + k < gap) ⊎ (gap + 2 ≤ p + k) = elim settled.apart [ inl before ↦ inl (omega arith) | inr behind ↦ inr (omega arith) ] in
      keeps.same (p + k) (omega arith) (omega arith) apart

  pub part_later : (p n : ℕ) → AreSettled b gap p n → slice_range later p (p + n) ≡ slice_range b p (p + n)
  part_later p n settled =
      let longer : length b ≤ length later = keeps.longer in
      let inside = settled.inside in
      let own = range_length b p n inside in
      let other = range_length later p n (omega (arith, longer, inside)) in
      same_number_lists (slice_range later p (p + n)) (slice_range b p (p + n)) (other ∙ sym own)
      (λ k small. range_index later p n k (omega (arith, small, other)) ∙ (same_there p n k settled (omega (arith, small, other))
      ∙ sym (range_index b p n k (omega (arith, small, other)))))

  -- octets that are there are there later
  pub there_later : (t : Spot) (octets : List ℕ) → IsThere b gap t octets → drop t.position later ≡ octets ++ drop (t.position + length octets) later
  there_later t octets there =
      let n = length octets in
      let p = t.position in
      let size : p + n - p ≡ n = omega arith in
      let part : take n (drop p later) ≡ octets = ap (λ m. take m (drop p later)) (sym size) ∙ (part_later p n there.settled ∙ there.same) in
      sym (take-append-drop n (drop p later)) ∙ (ap (λ x. x ++ drop n (drop p later)) part ∙ ap (λ x. octets ++ x) (drop-drop n p later))

  -- a pointer is followed, or not
  follow_later : (s t : Spot) (ls : List (List ℕ)) (limit : Option ℕ) (most : ℕ) → FollowsPointer b gap s t → ((q : ℕ) → q < s.limit → IsWithin q limit)
      → ((wider : Option ℕ) → ((q : ℕ) → q < t.limit → IsWithin q wider)
      → (e : ℕ) × (k : ℕ) × Reads later t.position t.segment wider ls e k × (k ≤ most))
      → (e : ℕ) × (k : ℕ) × Reads later s.position s.segment limit ls e k × (k ≤ most + 1)
  follow_later s t ls limit most (inr (not, t_is)) within on =
      let (e, k, r, few) = on limit (λ q less. within q (subst (λ (x : Spot). q < x.limit) t_is less)) in
      (e, k, subst (λ (x : Spot). Reads later x.position x.segment limit ls e k) t_is r, omega (arith, few))
  follow_later s t ls limit most (inl (leads, t_is)) within on =
      let p = s.position in
      let high = get_or b p 0 in
      let low = get_or b (p + 1) 0 in
      let inside = leads.settled.inside in
      let longer : length b ≤ length later = keeps.longer in
      let zeroth : p + 0 ≡ p = omega arith in
      let first : get_or later p 0 ≡ high = rw zeroth at (same_there p 2 0 leads.settled (omega arith)) in
      let second : get_or later (p + 1) 0 ≡ low = same_there p 2 1 leads.settled (omega arith) in
      let one : slice_get later p ≡ Some high = slice_get-get_or later p 0 (omega (arith, inside, longer)) ∙ ap Some first in
      let two : slice_get later (p + 1) ≡ Some low = slice_get-get_or later (p + 1) 0 (omega (arith, inside, longer)) ∙ ap Some second in
      let (e, k, r, few) = on (Some s.segment) (λ q less. subst (λ (x : Spot). q < x.limit) t_is less) in
      let there : Reads later (target high low) (target high low) (Some s.segment) ls e k =
      subst (λ (x : Spot). Reads later x.position x.segment (Some s.segment) ls e k) t_is r in
      (p + 2, suc k, pointer high low (within p leads.before) one leads.marked two leads.prior there, omega (arith, few))

  -- labels that stand are read later
  pub read_later : (s : Spot) (ls : List (List ℕ)) (limit : Option ℕ) → StandsFrom b gap s ls → AllByRecursion IsLabel ls
      → ((q : ℕ) → q < s.limit → IsWithin q limit)
      → (e : ℕ) × (k : ℕ) × Reads later s.position s.segment limit ls e k × (k ≤ length ls + 1)
  read_later s [] limit (t, f, there) all within =
      follow_later s t [] limit 0 f within
      (λ wider inside. (
        t.position + 1,
        0,
        zero_octet (inside t.position there.before) (octet_at later t.position 0 _ (there_later t (0 ∷ []) there)),
        omega arith,
      ))
  read_later s (l ∷ ls) limit (t, f, there, more) all within =
      follow_later s t (l ∷ ls) limit (length (l ∷ ls)) f within
      (λ wider inside.
      let (e, k, r, few) = read_later (after_octets t (length l + 1)) ls wider more all.1 inside in
      let moved : t.position + (length l + 1) ≡ t.position + 1 + length l = omega arith in (
        e,
        k,
        label_read later t.position t.segment e k wider l _ ls (there_later t (label_wire l) there) all.0 (inside t.position there.before)
            (subst (λ q. Reads later q t.segment wider ls e k) moved r),
        omega (arith, few),
      ))

-- labels stand within the message
pub stands_inside : (b : List ℕ) (gap : ℕ) (s : Spot) (ls : List (List ℕ)) → StandsFrom b gap s ls → s.position < s.limit
stands_inside b gap s [] (t, inl (leads, t_is), there) = leads.before
stands_inside b gap s [] (t, inr (not, t_is), there) = subst (λ (x : Spot). x.position < x.limit) t_is there.before
stands_inside b gap s (l ∷ ls) (t, inl (leads, t_is), there, more) = leads.before
stands_inside b gap s (l ∷ ls) (t, inr (not, t_is), there, more) = subst (λ (x : Spot). x.position < x.limit) t_is there.before

stands_after_header : (b : List ℕ) (gap : ℕ) (s : Spot) (ls : List (List ℕ)) → StandsFrom b gap s ls → 12 ≤ s.position
stands_after_header b gap s [] (t, inl (leads, t_is), there) = leads.settled.after_header
stands_after_header b gap s [] (t, inr (not, t_is), there) = subst (λ (x : Spot). 12 ≤ x.position) t_is there.settled.after_header
stands_after_header b gap s (l ∷ ls) (t, inl (leads, t_is), there, more) = leads.settled.after_header
stands_after_header b gap s (l ∷ ls) (t, inr (not, t_is), there, more) = subst (λ (x : Spot). 12 ≤ x.position) t_is there.settled.after_header

-- a pointer never points into the header
pub points_after_header : (b : List ℕ) (gap hint : ℕ) (ls : List (List ℕ)) → MayPointTo b gap hint ls → 12 ≤ hint
points_after_header b gap hint ls usable = stands_after_header b gap (record { position = hint; segment = hint; limit = length b }) ls usable.1

pub pointer_leads : (offset : ℕ) → target (192 + offset / 256) (offset % 256) ≡ offset
pointer_leads offset = omega (arith, div-add-mod' offset 256)

-- ---- written names

module _ (slot : List (List ℕ) → ℕ) (b later : List ℕ) (gap : ℕ) (keeps : KeepsSettled gap b later) where
  written_later : (at : ℕ) (hints : List ℕ) (ls : List (List ℕ)) (octets after more : List ℕ) → AllByRecursion IsLabel ls
      → Compresses slot b gap at hints ls octets after → drop at later ≡ octets ++ more
      → (k : ℕ) × Reads later at (length b) None ls (at + length octets) k × (k ≤ length ls + 2)
  written_later at hints [] octets after more all h here =
      let r : Reads later at (length b) None [] (at + 1) 0 = zero_octet tt (octet_at later at 0 more (here ∙ ap (λ x. x ++ more) h.0)) in
      (0, subst (λ e. Reads later at (length b) None [] e 0) (ap (λ (x : List ℕ). at + length x) (sym h.0)) r, omega arith)
  written_later at hints (l ∷ ls) octets after more all (inl (hint, (usable, which), is, same)) here =
      let high = 192 + hint / 256 in
      let low = hint % 256 in
      let start : Spot = record { position = hint; segment = hint; limit = length b } in
      let prior : hint < length b = stands_inside b gap start (l ∷ ls) usable.1 in
      let leads = pointer_leads hint in
      let (e, k, r, few) = read_later b later gap keeps start (l ∷ ls) (Some (length b)) usable.1 all (λ q less. less) in
      let octets_at : drop at later ≡ high ∷ (low ∷ more) = here ∙ ap (λ x. x ++ more) is in
      let there : Reads later (target high low) (target high low) (Some (length b)) (l ∷ ls) e k =
      subst (λ t. Reads later t t (Some (length b)) (l ∷ ls) e k) (sym leads) r in
      let whole : Reads later at (length b) None (l ∷ ls) (at + 2) (suc k) =
      pointer high low tt (octet_at later at high (low ∷ more) octets_at) (omega arith)
      (octet_at later (at + 1) low more (next_at later at high (low ∷ more) octets_at)) (omega (arith, leads, prior)) there in (
        suc k,
        subst (λ e. Reads later at (length b) None (l ∷ ls) e (suc k)) (ap (λ (x : List ℕ). at + length x) (sym is)) whole,
        omega (arith, few),
      )
  written_later at hints (l ∷ ls) octets after more all (inr (not, rest, is, others)) here =
      let octets_at : drop at later ≡ label_wire l ++ (rest ++ more) = here ∙ (ap (λ x. x ++ more) is ∙ append_assoc (label_wire l) rest more) in
      let behind : drop (at + 1 + length l) later ≡ rest ++ more =
      after_at later at (at + 1 + length l) (label_wire l) (rest ++ more) octets_at (omega arith) in
      let (k, r, few) = written_later (at + 1 + length l) (kept_hints hints (slot (l ∷ ls)) at) ls rest after more all.1 others behind in
      let end : at + 1 + length l + length rest ≡ at + length octets = omega (arith, ap length is, length-append (label_wire l) rest) in (
        k,
        subst (λ e. Reads later at (length b) None (l ∷ ls) e k) end
            (label_read later at (length b) (at + 1 + length l + length rest) k None l (rest ++ more) ls octets_at all.0 tt r),
        omega (arith, few),
      )

pub written_names_are_read : WrittenNamesAreRead
written_names_are_read slot b gap hints ls octets after later more are h keeps here =
    let (k, r, few) = written_later slot b later gap keeps (length b) hints ls octets after more are.each h here in
    (k, record { reads = r; fits = are.fit }, few)

no_more : (slot : List (List ℕ) → ℕ) (b : List ℕ) (gap at : ℕ) (hints : List ℕ) (ls : List (List ℕ)) (octets after : List ℕ)
    → AllByRecursion IsLabel ls → Compresses slot b gap at hints ls octets after → length octets ≤ encoded_size ls
no_more slot b gap at hints [] octets after all h = omega (arith, ap length h.0)
no_more slot b gap at hints (l ∷ ls) octets after all (inl (hint, finds, is, same)) =
    omega (arith, ap length is, all.0.not_empty, encoded_size_cons l ls)
no_more slot b gap at hints (l ∷ ls) octets after all (inr (not, rest, is, others)) =
    omega (
      arith,
      ap length is,
      length-append (label_wire l) rest,
      encoded_size_cons l ls,
      no_more slot b gap (at + 1 + length l) (kept_hints hints (slot (l ∷ ls)) at) ls rest after all.1 others,
    )

pub names_take_no_more : CompressedNamesTakeNoMore
names_take_no_more slot b gap at hints ls octets after are h = no_more slot b gap at hints ls octets after are.each h
