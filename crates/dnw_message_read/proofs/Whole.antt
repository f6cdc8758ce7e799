-- The sections of a message, one after another.
use Rattle.std.proofs.Common.{◌≡◌, ℕ, ◌+◌, ◌-◌, ◌≤◌, Bool, true, false, ◌||◌, cond, List, [], ◌∷◌, ◌++◌, length, map, slice_range, inr, refl, sym, ap, ◌∙◌, subst, subst₂, arith}
use Rattle.std.specs.Bool.{FalseIff}
use Rattle.std.proofs.lemmas.List.{map-append}
use Rattle.std.proofs.lemmas.List.Folds.{list_any-append}
use Rattle.dnw_base.specs.Decoder.{Decoder}
use Rattle.dnw_message_read.specs.declared.error.MessageError.{MessageError}
use Rattle.dnw_message_read.specs.declared.error.Section.{Section}
use Rattle.dnw_message_read.specs.declared.error.Section.TheVariants as section
use Rattle.dnw_message_read.specs.declared.header.Header.{Header}
use Rattle.dnw_message_read.specs.Headers.{header_of, header_size}
use Rattle.dnw_message_read.specs.Messages.{FailsFrom, FailsMessage, Item, ItemsAt, MessageAt, Part, PartsAt, Rest, SectionsBegin, done, next, none, one_more, part, sections_of, query_of, question_rest, record_in, record_rest, rest_of}
use Rattle.dnw_message_read.specs.Inside.Kept.{AreLeft, EndAt, IsKept, items_in, message_in}
use Rattle.dnw_message_read.specs.Inside.Passing.{PassesItems, any_opt, opt_at}
use Rattle.dnw_message_read.specs.Edns.{opts_in}
use Rattle.dnw_record.specs.Records.{RecordValue}
use Rattle.dnw_message_read.proofs.InTurn.{are_left}

-- a section that was passed, and then a later one that fails
pub fails_on : (s : Part) (parts : List Part) (d m : Decoder) (left now : ℕ) (found : Bool) (error : MessageError)
    → PassesItems s.section s.count d m left now found → FailsFrom m.bytes m.index parts now error → FailsFrom d.bytes d.index (s ∷ parts) left error
fails_on s parts d m left now found error h fails =
    let left_is : left - h.pointers ≡ now = omega (arith, h.taken) in
    inr (h.items, m.index, h.pointers, h.at, h.counted, omega (arith, h.taken), rw left_is (rw h.same at fails))

abbrev after_authorities : Header → List Part
after_authorities h = part section.Additionals h.counts.additionals ∷ []

abbrev after_answers : Header → List Part
after_answers h = part section.Authorities h.counts.authorities ∷ after_authorities h

abbrev after_queries : Header → List Part
after_queries h = part section.Answers h.counts.answers ∷ after_answers h

pub past_queries : (h : Header) (d m : Decoder) (left now : ℕ) (found : Bool) (error : MessageError) → PassesItems section.Queries h.counts.queries d m left now found
    → FailsFrom m.bytes m.index (after_queries h) now error → FailsFrom d.bytes d.index (sections_of h) left error
past_queries h = fails_on (part section.Queries h.counts.queries) (after_queries h)

pub past_answers : (h : Header) (d m : Decoder) (left now : ℕ) (found : Bool) (error : MessageError) → PassesItems section.Answers h.counts.answers d m left now found
    → FailsFrom m.bytes m.index (after_answers h) now error → FailsFrom d.bytes d.index (after_queries h) left error
past_answers h = fails_on (part section.Answers h.counts.answers) (after_answers h)

pub past_authorities : (h : Header) (d m : Decoder) (left now : ℕ) (found : Bool) (error : MessageError) → PassesItems section.Authorities h.counts.authorities d m left now found
    → FailsFrom m.bytes m.index (after_authorities h) now error → FailsFrom d.bytes d.index (after_answers h) left error
past_authorities h = fails_on (part section.Authorities h.counts.authorities) (after_authorities h)

-- a section that was passed, and those after it
parts_on : (b : List ℕ) (s : Part) (parts : List Part) (sections : List (List Item)) (d m : Decoder) (left now e k : ℕ) (found : Bool) → d.bytes ≡ b
    → (h : PassesItems s.section s.count d m left now found) → PartsAt b m.index parts sections e k
    → PartsAt b d.index (s ∷ parts) (h.items ∷ sections) e (h.pointers + k)
parts_on b s parts sections d m left now e k found is h more =
    next (subst (λ b. ItemsAt (rest_of s.section) b d.index h.items m.index h.pointers) is h.at) h.counted more

items_within : {rest : Rest} {b : List ℕ} {p e k : ℕ} {xs : List Item} → ItemsAt rest b p xs e k → p ≤ length b → e ≤ length b
items_within none h = h
items_within (one_more first more) h = items_within more first.inside

section_left : (s : Section) (b : List ℕ) (n : ℕ) (d m : Decoder) (left now : ℕ) (found : Bool) → d.bytes ≡ b → (h : PassesItems s n d m left now found)
    → d.index ≤ length b → (h.items ≡ items_in (rest_of s) b d.index n) × AreLeft (rest_of s) b d.index n × EndAt (rest_of s) b d.index n m.index × (m.bytes ≡ b)
    × (m.index ≤ length b) × (found ≡ any_opt s b (items_in (rest_of s) b d.index n))
section_left s b n d m left now found is h inside =
    let rest = rest_of s in
    let at = subst (λ b. ItemsAt rest b d.index h.items m.index h.pointers) is h.at in
    let (same, kept) = are_left rest b d.index m.index h.pointers n h.items at h.counted in
    let ends = subst (λ xs. ItemsAt rest b d.index xs m.index h.pointers) same at in
    (same, kept, (h.pointers, ends), h.same ∙ is, items_within at inside, h.found_is ∙ ap (λ c. any_opt s c h.items) is ∙ ap (any_opt s b) same)

-- OPT records are found just if they are there
found_first : (is found : Bool) (r : RecordValue) (rs : List RecordValue) → FalseIff found (rs ≡ []) → FalseIff (is || found) (cond is (r ∷ rs) rs ≡ [])
found_first true found r rs h = λ none. omega (arith, ap length none)
found_first false found r rs h = h

found_there : (b : List ℕ) (xs : List Item) → FalseIff (any_opt section.Answers b xs) (opts_in (map (record_in b) xs) ≡ [])
found_there b [] = refl
found_there b (x ∷ xs) = found_first (opt_at section.Answers b x.name_end) _ (record_in b x) _ (found_there b xs)

found_outside : (b : List ℕ) (xs ys : List Item) (f g : Bool) → f ≡ any_opt section.Answers b xs → g ≡ any_opt section.Authorities b ys
    → FalseIff (f || g) (opts_in (map (record_in b) xs ++ map (record_in b) ys) ≡ [])
found_outside b xs ys f g f_is g_is =
    let both : any_opt section.Answers b (xs ++ ys) ≡ (f || g) = rw (f_is, g_is) (list_any-append (λ (x : Item). opt_at section.Answers b x.name_end) xs ys) in
    subst₂ (λ found rs. FalseIff found (opts_in rs ≡ [])) both (map-append (record_in b) xs ys) (found_there b (xs ++ ys))

found_inside : (b : List ℕ) (xs : List Item) (f : Bool) → f ≡ any_opt section.Additionals b xs → FalseIff f (opts_in (map (record_in b) xs) ≡ [])
found_inside b xs f is = rw is (found_there b xs)

pub message_passed : (b : List ℕ) (most : ℕ) (h : Header) (d d' d'' d''' end : Decoder) (l l' l'' l''' : ℕ) (f f' f'' f''' : Bool) → header_size ≤ length b
    → h ≡ header_of (slice_range b 0 header_size) → d ≡ record { bytes = b; index = header_size }
    → PassesItems section.Queries h.counts.queries d d' most l f → PassesItems section.Answers h.counts.answers d' d'' l l' f'
    → PassesItems section.Authorities h.counts.authorities d'' d''' l' l'' f'' → PassesItems section.Additionals h.counts.additionals d''' end l'' l''' f'''
    → ((k : ℕ) × MessageAt b (message_in b h d'.index d''.index d'''.index end.index) k × (k ≤ most))
    × IsKept b h d'.index d''.index d'''.index end.index (f' || f'') f'''
message_passed b most h d d' d'' d''' end l l' l'' l''' f f' f'' f''' whole is start queries answers authorities additionals =
    let bytes = ap (λ (x : Decoder). x.bytes) start in
    let index = ap (λ (x : Decoder). x.index) start in
    let (q, q_left, q_ends, b1, i1, _) = section_left section.Queries b h.counts.queries d d' most l f bytes queries (omega (arith, whole, index)) in
    let (a, a_left, a_ends, b2, i2, a_found) = section_left section.Answers b h.counts.answers d' d'' l l' f' b1 answers i1 in
    let (n, n_left, n_ends, b3, i3, n_found) = section_left section.Authorities b h.counts.authorities d'' d''' l' l'' f'' b2 authorities i2 in
    let (x, x_left, x_ends, _, i4, x_found) = section_left section.Additionals b h.counts.additionals d''' end l'' l''' f''' b3 additionals i3 in
    let last = parts_on b (part section.Additionals h.counts.additionals) [] [] d''' end l'' l''' end.index 0 f''' b3 additionals done in
    let third = parts_on b (part section.Authorities h.counts.authorities) _ _ d'' d''' l' l'' end.index _ f'' b2 authorities last in
    let second = parts_on b (part section.Answers h.counts.answers) _ _ d' d'' l l' end.index _ f' b1 answers third in
    let first = parts_on b (part section.Queries h.counts.queries) _ _ d d' most l end.index _ f bytes queries second in
    let k = queries.pointers + (answers.pointers + (authorities.pointers + (additionals.pointers + 0))) in (
      (
        k,
        record {
          whole = whole;
          octets = refl;
          header = is;
          queries = queries.items;
          answers = answers.items;
          authorities = authorities.items;
          additionals = additionals.items;
          sections = subst (λ p. PartsAt b p (sections_of h) (queries.items ∷ answers.items ∷ authorities.items ∷ additionals.items ∷ []) end.index k) index first;
          queries_are = rw index at (ap (map (query_of b)) (sym q));
          answers_are = ap (map (record_in b)) (sym a);
          authorities_are = ap (map (record_in b)) (sym n);
          additionals_are = ap (map (record_in b)) (sym x);
        },
        omega (arith, queries.taken, answers.taken, authorities.taken, additionals.taken),
      ),
      record {
        queries = subst (λ p. AreLeft question_rest b p h.counts.queries) index q_left;
        answers_left = a_left;
        authorities_left = n_left;
        additionals_left = x_left;
        in_turn = (subst (λ p. EndAt question_rest b p h.counts.queries d'.index) index q_ends, a_ends, n_ends, x_ends);
        outside = found_outside b _ _ f' f'' a_found n_found;
        inside = found_inside b _ f''' x_found;
        within = i4;
        starts = (whole, i1, i2, i3);
      },
    )

-- the sections of a message that is kept
pub sections_begin : (b : List ℕ) (h : Header) (answers authorities additionals end : ℕ) (outside inside : Bool) → IsKept b h answers authorities additionals end outside inside
    → SectionsBegin (message_in b h answers authorities additionals end) (record { answers = answers; authorities = authorities; additionals = additionals })
sections_begin b h answers authorities additionals end outside inside kept =
    let (q, a, n, x) = kept.in_turn in (
      (items_in question_rest b header_size h.counts.queries, q.0, q.1, refl),
      (items_in record_rest b answers h.counts.answers, a.0, a.1, refl),
      (items_in record_rest b authorities h.counts.authorities, n.0, n.1, refl),
      (items_in record_rest b additionals h.counts.additionals, x.0, x.1, refl),
    )

-- the sections after a header fail
pub fails_in : (b : List ℕ) (most : ℕ) (h : Header) (d : Decoder) (error : MessageError) → header_size ≤ length b
    → h ≡ header_of (slice_range b 0 header_size) → d ≡ record { bytes = b; index = header_size }
    → FailsFrom d.bytes d.index (sections_of h) most error → FailsMessage b most error
fails_in b most h d error whole is start fails = inr (whole, rw (is, start) at fails)
