-- What a reader that only counts has read: characters and escapes, and then the whole text.
use Rattle.std.proofs.Common.{◌≡◌, ℕ, zero, suc, ◌+◌, ◌<◌, ◌≤◌, Bool, true, false, List, [], ◌∷◌, ◌++◌, length, take, get_or, Option, Some, None, Ok, Err, encode_utf8, refl, sym, ap, subst, ◌∙◌, arith, append_assoc, append-nil}
use Rattle.std.specs.Prelude.{MatchOption}
use Rattle.std.specs.Str.{chars, IsUtf8}
use lib.Utf8.{encodes}
use Rattle.std.proofs.Math.Dec.{ltb}
use Rattle.std.proofs.Math.Seq.{take-length}
use Rattle.std.proofs.lemmas.Bool.{ltb-true, ltb-false}
use Rattle.std.proofs.lemmas.List.{length-append, take-append-le, take_all}
use Rattle.std.proofs.lemmas.Str.{chars_past_char, encode_ascii, encodes-append, encodes-chars, byte_from_char, IsUtf8-past_char}
use Rattle.dnw_base.specs.Fault.{Fault, UnfinishedEscape, ◌>>=◌}
use Rattle.dnw_base.specs.Fault as why
use Rattle.dnw_base.specs.Names.{NameValue}
use Rattle.dnw_name_form.specs.LabelText.{dot}
use Rattle.dnw_name_text.specs.AsciiText.{TextElement, Stop, Outside, elements, name_from_elements, name_from_text}
use Rattle.dnw_name_text.specs.AsciiFaults.{Gives, GoesWrong, GoesWrongBy, IsNameText, rule_of}
use Rattle.dnw_name_text.specs.Inside.TextReader.{LeadsInside, state_of}
use Rattle.dnw_name_text.specs.Inside.TextProgress.{BeginsWithElement, BreaksAt, GoesOnWith, GoesWrongNext, HasRead, HoldsLabels, IsUnfinished, IsWithinText, ReadsTextOn, StopsText, from_start}
use Rattle.dnw_name_text.specs.declared.ascii.State.{State}
use Rattle.dnw_name_text.specs.declared.ascii.State.TheVariants.{Outside as HeldOutside}
use Rattle.dnw_name_text.specs.declared.ascii.Move.TheVariants.{Enter}
use Rattle.dnw_name_text.specs.declared.ascii_fault.TextFault.{TextFault}
use Rattle.dnw_name_text.specs.declared.ascii_fault.TextRule.{TextRule}
use Rattle.dnw_name_text.specs.declared.ascii_fault.TextRule.TheVariants.{EmptyLabel, UnfinishedEscape as Unfinished}
use Rattle.dnw_name_text.specs.declared.ascii_fault.Progress.{Progress}
use Rattle.dnw_name_text.proofs.Elements.{fits}
use Rattle.dnw_name_text.proofs.TextReading.{plain_chars, chars_dot, no_end}

-- one character more
module _ (text : List ℕ) (state : State) (rest after : List ℕ) (d : ℕ) (w : IsWithinText text state rest) (first : chars rest ≡ d ∷ chars after) where
  parts : chars text ≡ (w.own ++ d ∷ []) ++ chars after
  parts = w.parts ∙ ap (λ l. w.own ++ l) first ∙ sym (append_assoc w.own (d ∷ []) (chars after))

  reads : (es : List ℕ → List TextElement) → ((more : List ℕ) → elements (state_of state) (d ∷ more) ≡ es more) → (more : List ℕ) → elements Outside ((w.own ++ d ∷ []) ++ more) ≡ es more
  reads es e more = ap (elements Outside) (append_assoc w.own (d ∷ []) more) ∙ (w.reads (d ∷ more) ∙ e more)

  before_end : (n : ℕ) → 0 < n → n ≤ length w.own → IsUnfinished (w.own ++ d ∷ []) n
  before_end n some le = ap (elements Outside) (take-append-le n w.own (d ∷ []) le) ∙ w.within n some le

  one_more : length (w.own ++ d ∷ []) ≡ length w.own + 1
  one_more = length-append w.own (d ∷ [])

  pub element_read : (e : TextElement) → ((more : List ℕ) → elements (state_of state) (d ∷ more) ≡ e ∷ elements Outside more)
      → length after < length rest → IsUtf8 after → BeginsWithElement text e after
  element_read e gives short utf8 = record {
    own = w.own ++ d ∷ [];
    parts = parts;
    within = λ n some lt. before_end n some (omega (arith, lt, one_more));
    gives = reads (λ more. e ∷ elements Outside more) gives;
    shorter = omega (arith, short, w.shorter);
    utf8 = utf8;
  }

  pub stop_read : (rule : TextRule) (fault : Fault) → rule ≡ rule_of fault → (fault ≡ UnfinishedEscape → ⊥)
      → ((more : List ℕ) → elements (state_of state) (d ∷ more) ≡ Stop fault ∷ []) → StopsText text rule
  stop_read rule fault is other stops = record {
    own = w.own ++ d ∷ [];
    rest = chars after;
    fault = fault;
    parts = parts;
    within = λ n some lt. before_end n some (omega (arith, lt, one_more));
    ends = ap (elements Outside) (sym (append-nil (w.own ++ d ∷ []))) ∙ reads (λ more. Stop fault ∷ []) stops [];
    rule_is = is;
    last = λ e. absurd (other e);
    all = λ _. reads (λ more. Stop fault ∷ []) stops;
  }

  pub enters : (next : State) → LeadsInside (Enter next) → ((more : List ℕ) → elements (state_of state) (d ∷ more) ≡ elements (state_of next) more)
      → length after < length rest → IsUtf8 after → IsWithinText text next after
  enters next inside goes short utf8 = record {
    own = w.own ++ d ∷ [];
    parts = parts;
    reads = reads (λ more. elements (state_of next) more) goes;
    within = λ n some le. by n some le (ltb (length w.own) n) refl;
    shorter = omega (arith, short, w.shorter);
    utf8 = utf8;
  }
    where
      by : (n : ℕ) → 0 < n → n ≤ length (w.own ++ d ∷ []) → (t : Bool) → ltb (length w.own) n ≡ t → IsUnfinished (w.own ++ d ∷ []) n
      by n some le false h = before_end n some (ltb-false (length w.own) n h)
      by n some le true h =
          let past : length w.own < n = ltb-true (length w.own) n h in
          ap (elements Outside) (take_all n (w.own ++ d ∷ []) (omega (arith, past, one_more)) ∙ sym (append-nil (w.own ++ d ∷ [])))
          ∙ (reads (λ more. elements (state_of next) more) goes [] ∙ no_end next (λ e. subst (λ s. LeadsInside (Enter s)) e inside))

-- before the first character
pub nothing_read : (text : List ℕ) → IsUtf8 text → IsWithinText text HeldOutside text
nothing_read text utf8 = record {
  own = [];
  parts = refl;
  reads = λ more. refl;
  within = λ n some le. absurd (omega (arith, some, le));
  shorter = omega arith;
  utf8 = utf8;
}

chars_some : (text : List ℕ) → IsUtf8 text → 0 < length text → 0 < length (chars text)
unfolding lib.Utf8.encode
chars_some text utf8 some = by (chars text) refl
  where
    by : (cs : List ℕ) → chars text ≡ cs → 0 < length cs
    by [] e = absurd (omega (arith, ap length (sym (encodes-chars text utf8) ∙ ap encodes e), some))
    by (c ∷ cs) e = omega arith

pub text_ends : (text : List ℕ) (state : State) (rest : List ℕ) → IsWithinText text state rest → IsUtf8 text → chars rest ≡ [] → 0 < length text → StopsText text Unfinished
text_ends text state rest w utf8 none some =
    let all : chars text ≡ w.own = w.parts ∙ (ap (λ l. w.own ++ l) none ∙ append-nil w.own) in
    record {
      own = w.own;
      rest = [];
      fault = UnfinishedEscape;
      parts = all ∙ sym (append-nil w.own);
      within = λ n some lt. w.within n some (omega (arith, lt));
      ends = ap (elements Outside) (sym (take-length w.own)) ∙ w.within (length w.own) (omega (arith, ap length all, chars_some text utf8 some)) (omega arith);
      rule_is = refl;
      last = λ e. refl;
      all = λ other. absurd (other refl);
    }

-- a character or an escape was read, or breaks a rule
pub reads_on : (p q : Progress) (text rest : List ℕ) (e : TextElement) → BeginsWithElement text e rest → GoesOnWith e p q → ReadsTextOn p q text rest
reads_on p q text rest e b goes = record {
  own = b.own;
  parts = b.parts;
  goes_on = λ ls label h.
      let (all, next, held, step) = goes ls label h in
      (all, next, held, λ more. ap (name_from_elements ls label) (b.gives more) ∙ step (elements Outside more));
  shorter = b.shorter;
  utf8 = b.utf8;
}

whole : (own : List ℕ) (es : List ℕ → List TextElement) → ((more : List ℕ) → elements Outside (own ++ more) ≡ es more) → elements Outside own ≡ es []
whole own es gives = ap (elements Outside) (sym (append-nil own)) ∙ gives []

pub breaks : (p : Progress) (text rest : List ℕ) (e : TextElement) (rule : TextRule) → BeginsWithElement text e rest → BreaksAt e p rule
    → (ls : List (List ℕ)) (label : List ℕ) → HoldsLabels p ls label → GoesWrongNext ls label (chars text) rule
breaks p text rest e rule b broken ls label h =
    let k = broken ls label h in
    record {
      own = b.own;
      rest = chars rest;
      fault = k.fault;
      parts = b.parts;
      within = λ n some lt. ap (name_from_elements ls label) (b.within n some lt);
      fails = ap (name_from_elements ls label) (whole b.own (λ more. e ∷ elements Outside more) b.gives) ∙ k.fails;
      rule_is = k.rule_is;
      last = λ is. absurd (k.other is);
      hopeless = λ other more name is. k.hopeless (elements Outside more) name (sym (ap (name_from_elements ls label) (b.gives more)) ∙ is);
    }

pub stops : (text : List ℕ) (rule : TextRule) → StopsText text rule → (ls : List (List ℕ)) (label : List ℕ) → GoesWrongNext ls label (chars text) rule
stops text rule s ls label = record {
  own = s.own;
  rest = s.rest;
  fault = s.fault;
  parts = s.parts;
  within = λ n some lt. ap (name_from_elements ls label) (s.within n some lt);
  fails = ap (name_from_elements ls label) s.ends;
  rule_is = s.rule_is;
  last = s.last;
  hopeless = λ other more name is. let never = sym (ap (name_from_elements ls label) (s.all other more)) ∙ is in cc;
}

-- the whole text: at its start, after one more character or escape, and at its end
pub start : (text : List ℕ) → IsUtf8 text → HasRead text (record { size = 1; label = 0 }) text
start text utf8 = record {
  front = [];
  ls = [];
  label = [];
  parts = refl;
  holds = record { size = refl; most = omega arith; len = refl; few = omega arith; fits = λ some. absurd (omega (arith, some)); text = λ some. absurd (omega (arith, some)) };
  reads = λ more. refl;
  utf8 = utf8;
}

pub next : (text rest after : List ℕ) (p q : Progress) → HasRead text p rest → ReadsTextOn p q rest after → HasRead text q after
next text rest after p q r on =
    let (all, label, held, goes) = on.goes_on r.ls r.label r.holds in
    record {
      front = r.front ++ on.own;
      ls = all;
      label = label;
      parts = r.parts ∙ (ap (λ l. r.front ++ l) on.parts ∙ sym (append_assoc r.front on.own (chars after)));
      holds = held;
      reads = λ more. ap from_start (append_assoc r.front on.own more) ∙ (r.reads (on.own ++ more) ∙ goes more);
      utf8 = on.utf8;
    }

-- what is held gives a name
gives_name : (p : Progress) (ls : List (List ℕ)) (label : List ℕ) → HoldsLabels p ls label → (name : NameValue) × (name_from_elements ls label [] ≡ Ok name)
gives_name p ls [] h = (record { is_fqdn = true; labels = ls }, refl)
gives_name p ls (b ∷ bs) h = (
  record { is_fqdn = false; labels = ls ++ (b ∷ bs) ∷ [] },
  ap (λ r. r >>= (λ all. Ok (record { is_fqdn = false; labels = all }))) (fits ls (b ∷ bs) h.few (h.text (omega arith)) (h.fits (omega arith))),
)

read_gives : (text rest : List ℕ) (p : Progress) (r : HasRead text p rest) → Gives from_start r.front
read_gives text rest p r =
    let (name, is) = gives_name p r.ls r.label r.holds in
    (name, ap from_start (sym (append-nil r.front)) ∙ (r.reads [] ∙ is))

pub read_all : (text rest : List ℕ) (p : Progress) → HasRead text p rest → chars rest ≡ [] → Gives from_start (chars text)
read_all text rest p r none =
    let (name, is) = read_gives text rest p r in
    let all : chars text ≡ r.front = r.parts ∙ (ap (λ l. r.front ++ l) none ∙ append-nil r.front) in
    (name, ap from_start all ∙ is)

-- the octets that were read
pub octets_read : (text rest : List ℕ) (p : Progress) → IsUtf8 text → (r : HasRead text p rest) → length text ≡ length (encodes r.front) + length rest
octets_read text rest p utf8 r =
    ap length (sym (encodes-chars text utf8) ∙ (ap encodes r.parts ∙ encodes-append r.front (chars rest)))
    ∙ (length-append (encodes r.front) (encodes (chars rest)) ∙ ap (λ l. length (encodes r.front) + length l) (encodes-chars rest r.utf8))

pub left : (text rest : List ℕ) (p : Progress) → IsUtf8 text → HasRead text p rest → length rest ≤ length text
left text rest p utf8 r = omega (arith, octets_read text rest p utf8 r)

pub wrong : (text rest : List ℕ) (p : Progress) (n : ℕ) (rule : TextRule) → IsUtf8 text → HasRead text p rest → n + length rest ≡ length text
    → ((ls : List (List ℕ)) → (label : List ℕ) → HoldsLabels p ls label → GoesWrongNext ls label (chars rest) rule)
    → GoesWrongBy from_start (chars text) (record { offset = n; rule = rule })
wrong text rest p n rule utf8 r at goes =
    let g = goes r.ls r.label r.holds in
    record {
      front = r.front;
      unit = g.own;
      rest = g.rest;
      fault = g.fault;
      parts = r.parts ∙ ap (λ l. r.front ++ l) g.parts;
      offset = omega (arith, at, octets_read text rest p utf8 r);
      before = read_gives text rest p r;
      within = λ n some lt. r.reads (take n g.own) ∙ g.within n some lt;
      fails = r.reads g.own ∙ g.fails;
      rule = g.rule_is;
      last = g.last;
      hopeless = λ other more given. g.hopeless other more given.0 (sym (r.reads (g.own ++ more)) ∙ given.1);
    }

-- a text of one octet that is a dot is the root
pub lone_dot : (text : List ℕ) → length text ≡ 1 → get_or text 0 0 ≡ dot → IsNameText (chars text)
lone_dot [] one is = absurd (omega (arith, one))
lone_dot (b ∷ []) one is = (record { is_fqdn = true; labels = [] }, ap name_from_text (ap (λ (n : ℕ). chars (n ∷ [])) is ∙ chars_dot))
lone_dot (b ∷ c ∷ bs) one is = absurd (omega (arith, one))

-- a longer one that begins with a dot goes wrong after it
after_dot : (cs : List ℕ) → 0 < length cs → GoesWrong (dot ∷ cs) (record { offset = 1; rule = EmptyLabel })
unfolding lib.Utf8.encode
after_dot [] some = absurd (omega (arith, some))
after_dot (c ∷ cs) some = record {
  front = dot ∷ [];
  unit = c ∷ [];
  rest = cs;
  fault = why.MalformedLabel [];
  parts = refl;
  offset = refl;
  before = (record { is_fqdn = true; labels = [] }, refl);
  within = λ n some lt. absurd (omega (arith, some, lt));
  fails = refl;
  rule = refl;
  last = λ is. absurd cc;
  hopeless = λ other more given. let is = given.1 in cc;
}

pub dotted : (text : List ℕ) → IsUtf8 text → (length text ≡ 1 → ⊥) → get_or text 0 0 ≡ dot → GoesWrong (chars text) (record { offset = 1; rule = EmptyLabel })
dotted [] utf8 other is = absurd (let none : 0 ≡ 46 = is in omega (arith, none))
dotted (b ∷ []) utf8 other is = absurd (other refl)
dotted (b ∷ c ∷ bs) utf8 other is =
    let spelled : b ∷ c ∷ bs ≡ encode_utf8 dot ++ c ∷ bs = ap (λ (n : ℕ). n ∷ c ∷ bs) is ∙ ap (λ l. l ++ c ∷ bs) (sym (encode_ascii dot (omega arith))) in
    let later : IsUtf8 (c ∷ bs) = IsUtf8-past_char (b ∷ c ∷ bs) (c ∷ bs) dot utf8 spelled in
    rw (chars_past_char (b ∷ c ∷ bs) (c ∷ bs) dot utf8 spelled) (after_dot (chars (c ∷ bs)) (chars_some (c ∷ bs) later (omega arith)))

-- any other text is read from its first character on
plain : (c : ℕ) (cs : List ℕ) → (c ≡ dot → ⊥) → name_from_text (c ∷ cs) ≡ from_start (c ∷ cs)
unfolding Rattle.dnw_name_text.specs.Inside.TextReader.name_from_rest
plain c cs other = plain_chars (c ∷ cs) (λ e. cc) (λ e. other (ap (λ l. get_or l 0 0) e))

pub no_dot : (text : List ℕ) → IsUtf8 text → (get_or text 0 0 ≡ dot → ⊥) → get_or (chars text) 0 0 ≡ dot → ⊥
no_dot text utf8 other is = by (chars text) refl is
  where
    by : (cs : List ℕ) → chars text ≡ cs → get_or cs 0 0 ≡ dot → ⊥
    by [] e h = cc
    by (c ∷ cs) e h =
        let spelled : text ≡ encode_utf8 c ++ encodes cs = sym (encodes-chars text utf8) ∙ ap encodes e in
        other (byte_from_char text (encodes cs) c spelled (omega (arith, h)) ∙ h)

-- so is its beginning
any_text : (cs rest : List ℕ) → (get_or (cs ++ rest) 0 0 ≡ dot → ⊥) → Gives from_start cs → IsNameText cs
any_text [] rest other given = (record { is_fqdn = false; labels = [] }, refl)
any_text (c ∷ cs) rest other given = (given.0, plain c cs other ∙ given.1)

-- so is each that begins as it does
plain_with : (front unit rest more : List ℕ) → 0 < length unit → (get_or (front ++ (unit ++ rest)) 0 0 ≡ dot → ⊥)
    → name_from_text (front ++ (unit ++ more)) ≡ from_start (front ++ (unit ++ more))
plain_with [] [] rest more some other = absurd (omega (arith, some))
plain_with [] (x ∷ u) rest more some other = plain x (u ++ more) other
plain_with (y ∷ f) u rest more some other = plain y (f ++ (u ++ more)) other

plain_part : (front unit rest : List ℕ) (n : ℕ) → 0 < n → 0 < length unit → (get_or (front ++ (unit ++ rest)) 0 0 ≡ dot → ⊥)
    → name_from_text (front ++ take n unit) ≡ from_start (front ++ take n unit)
plain_part (y ∷ f) u rest n pos some other = plain y (f ++ take n u) other
plain_part [] [] rest n pos some other = absurd (omega (arith, some))
plain_part [] (x ∷ u) rest zero pos some other = absurd (omega (arith, pos))
plain_part [] (x ∷ u) rest (suc n) pos some other = plain x (take n u) other

unit_some : (front unit : List ℕ) (fault : Fault) → Gives from_start front → from_start (front ++ unit) ≡ Err fault → 0 < length unit
unit_some front [] fault given fails = let same = sym given.1 ∙ (ap from_start (sym (append-nil front)) ∙ fails) in absurd cc
unit_some front (x ∷ u) fault given fails = omega arith

pub any_wrong : (cs : List ℕ) (w : TextFault) → (get_or cs 0 0 ≡ dot → ⊥) → GoesWrongBy from_start cs w → GoesWrong cs w
any_wrong cs w other g =
    let some = unit_some g.front g.unit g.fault g.before g.fails in
    let first : get_or (g.front ++ (g.unit ++ g.rest)) 0 0 ≡ dot → ⊥ = λ e. other (ap (λ l. get_or l 0 0) g.parts ∙ e) in
    record {
      front = g.front;
      unit = g.unit;
      rest = g.rest;
      fault = g.fault;
      parts = g.parts;
      offset = g.offset;
      before = any_text g.front (g.unit ++ g.rest) first g.before;
      within = λ n pos lt. plain_part g.front g.unit g.rest n pos some first ∙ g.within n pos lt;
      fails = subst (λ u. name_from_text (g.front ++ u) ≡ from_start (g.front ++ u)) (append-nil g.unit) (plain_with g.front g.unit g.rest [] some first) ∙ g.fails;
      rule = g.rule;
      last = g.last;
      hopeless = λ not more given. g.hopeless not more (given.0, sym (plain_with g.front g.unit g.rest more some first) ∙ given.1);
    }

pub any_outcome : (cs : List ℕ) (r : Option TextFault) → (get_or cs 0 0 ≡ dot → ⊥) → MatchOption r (Gives from_start cs) (GoesWrongBy from_start cs)
    → MatchOption r (IsNameText cs) (GoesWrong cs)
any_outcome cs None other given = any_text cs [] (λ e. other (ap (λ l. get_or l 0 0) (sym (append-nil cs)) ∙ e)) given
any_outcome cs (Some w) other goes = any_wrong cs w other goes
