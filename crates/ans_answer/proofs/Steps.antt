-- Answers that are made name by name.
use Rattle.std.proofs.Common.{◌≡◌, ℕ, suc, ◌+◌, ◌-◌, ◌<◌, ◌≤◌, ◌||◌, Bool, true, false, List, [], ◌∷◌, ◌++◌, length, map, get_or, take, Option, Some, None, Result, Ok, Err, IfOk, IfSome, IfNone, not, eqb, refl, sym, ap, ◌∙◌, subst, arith}
use Rattle.std.proofs.Math.Bool.{or-true}
use Rattle.std.proofs.Math.Seq.{get_or-append_seam, take-length}
use Rattle.std.proofs.lemmas.Bool.Decides.{nat_tests}
use Rattle.std.proofs.lemmas.List.{append-nil, append_assoc, get_or_append_left, length-append, length-map, map-append, map_push, nil_from_length}
use Rattle.std.proofs.lemmas.List.Folds.{list_any_at, list_any_more}
use Rattle.std.specs.List.{list_any}
use Rattle.dns_names_wire.specs.Words.{NameValue, RecordValue, cname_code, dname_code, is_same, ns_code}
use Rattle.ans_store.specs.Zones.{ZoneValue}
use Rattle.ans_store.specs.declared.lookup.Node.{Node}
use Rattle.ans_answer.specs.Answers.{Lead, by_kind, referred, Cname, Dname, SectionPart, Kept, Made, Named, ZoneAnswer, follow, has_parts, is_met, begun_with, lead, led, links, records_of_type, said, silent}
use Rattle.ans_answer.specs.Inside.Steps.{EndsAs, EndsTurn, LeadsOn, IsSaid, IsUpTo, Others, TurnsTo, link_parts}
use Rattle.ans_answer.specs.Seen.{all_labels, answer_seen, numbered_name, lead_seen, names_of, next_seen, node_records, part_seen, parts_seen}
use Rattle.ans_answer.specs.Targets.{Next, To}
use Rattle.ans_answer.specs.declared.answer.Answer.{Answer}
use Rattle.ans_answer.specs.declared.answer.Part.{Part as FoundPart}
use Rattle.ans_answer.specs.declared.answer.Part.TheVariants as parts
use Rattle.ans_answer.specs.declared.answer.Rcode.{Rcode}
use Rattle.ans_answer.specs.declared.answer.Rcode.TheVariants.{NoError}
use Rattle.ans_answer.specs.declared.kind.Kind.{Kind}
use Rattle.ans_answer.specs.declared.kind.Kind.TheVariants.{Records}
use Rattle.ans_answer.specs.declared.lead.Lead.{Lead as FoundLead}
use Rattle.ans_answer.specs.declared.lead.Lead.TheVariants as leads
use Rattle.ans_answer.specs.declared.target.Next.{Next as FoundNext}
use Rattle.ans_answer.specs.declared.target.Next.TheVariants as nexts

-- ---- parts before an answer

pub joined_join : (ps qs : List SectionPart) (a : ZoneAnswer) → begun_with ps (begun_with qs a) ≡ begun_with (ps ++ qs) a
joined_join [] qs a = refl
joined_join (p ∷ ps) qs a =
    ap (λ (xs : List SectionPart). record { code = a.code; authoritative = true; answers = p ∷ xs; authority = a.authority }) (sym (append_assoc ps qs a.answers))

pub joined_silent : (ps : List SectionPart) (code : Rcode) → begun_with ps (silent code) ≡ record { code = code; authoritative = true; answers = ps; authority = None }
joined_silent ps code =
    rw (or-true (has_parts ps)) (ap (λ (xs : List SectionPart). record { code = code; authoritative = true; answers = xs; authority = None }) (append-nil ps))

-- The parts of an answer, and then others.
pub joined_more : (records : List RecordValue) (names : List (List (List ℕ))) (xs ys : List FoundPart) (a : ZoneAnswer)
    → begun_with (parts_seen records names (xs ++ ys)) a ≡ begun_with (parts_seen records names xs) (begun_with (parts_seen records names ys) a)
joined_more records names xs ys a =
    ap (λ (ps : List SectionPart). begun_with ps a) (map-append (part_seen records names) xs ys)
    ∙ sym (joined_join (parts_seen records names xs) (parts_seen records names ys) a)

-- ---- names by their numbers

labels_push : (names : List NameValue) (name : NameValue) → all_labels (names ++ name ∷ []) ≡ all_labels names ++ name.labels ∷ []
labels_push names name = map_push (λ (n : NameValue). n.labels) names name

labels_more : (names more : List NameValue) → all_labels (names ++ more) ≡ all_labels names ++ all_labels more
labels_more names more = map-append (λ (n : NameValue). n.labels) names more

labels_count : (names : List NameValue) → length (all_labels names) ≡ length names
labels_count names = length-map names (λ (n : NameValue). n.labels)

module _ (asked : List (List ℕ)) where
  at_front : (names more : List NameValue) (number : ℕ) → length names ≡ number
      → numbered_name (asked ∷ all_labels (names ++ more)) number ≡ numbered_name (asked ∷ all_labels names) number
  at_front names more number h =
      let below : number < length (asked ∷ all_labels names) = omega (arith, labels_count names) in
      ap (λ (ls : List (List (List ℕ))). numbered_name (asked ∷ ls) number) (labels_more names more)
      ∙ get_or_append_left (asked ∷ all_labels names) (all_labels more) [] number below

  at_next : (names : List NameValue) (name : NameValue) (more : List NameValue) (number : ℕ) → length names ≡ number
      → numbered_name (asked ∷ all_labels (names ++ name ∷ more)) (number + 1) ≡ name.labels
  at_next names name more number h =
      let count : number + 1 ≡ length (asked ∷ all_labels names) = omega (arith, labels_count names, h) in
      ap (λ (ls : List (List (List ℕ))). numbered_name (asked ∷ ls) (number + 1)) (labels_more names (name ∷ more))
      ∙ (ap (numbered_name ((asked ∷ all_labels names) ++ name.labels ∷ all_labels more)) count
      ∙ get_or-append_seam (asked ∷ all_labels names) name.labels (all_labels more) [])

  front_seen : (new old more : List NameValue) (number : ℕ) → new ≡ old ++ more → length old ≡ number
      → numbered_name (asked ∷ all_labels new) number ≡ numbered_name (asked ∷ all_labels old) number
  front_seen new old more number is h = ap (λ (ns : List NameValue). numbered_name (asked ∷ all_labels ns) number) is ∙ at_front old more number h

-- ---- names that were asked for

any_map : (name : List (List ℕ)) (names : List NameValue) → list_any (λ met. is_same met name) (all_labels names) ≡ list_any (λ (met : NameValue). is_same met.labels name) names
any_map name [] = refl
any_map name (n ∷ names) = ap (λ (b : Bool). is_same n.labels name || b) (any_map name names)

pub met_there : (names : List NameValue) (name : List (List ℕ)) (i : ℕ) (met : NameValue) → i < length names → met ≡ get_or names i met
    → is_same met.labels name ≡ true → is_met (all_labels names) name ≡ true
unfolding is_met
met_there names name i met h is same =
    any_map name names ∙ list_any_at (λ (n : NameValue). is_same n.labels name) names i met h (ap (λ (n : NameValue). is_same n.labels name) (sym is) ∙ same)

pub met_more : (names : List NameValue) (name : List (List ℕ)) (i : ℕ) (met : NameValue) → i < length names → met ≡ get_or names i met
    → is_same met.labels name ≡ false → list_any (λ (n : NameValue). is_same n.labels name) (take i names) ≡ false
    → list_any (λ (n : NameValue). is_same n.labels name) (take (i + 1) names) ≡ false
met_more names name i met h is other none =
    list_any_more (λ (n : NameValue). is_same n.labels name) names i met h
    ∙ rw (none) (ap (λ (n : NameValue). is_same n.labels name) (sym is) ∙ other)

pub met_none : (names : List NameValue) (name : List (List ℕ)) (i : ℕ) → i ≡ length names
    → list_any (λ (n : NameValue). is_same n.labels name) (take i names) ≡ false → is_met (all_labels names) name ≡ false
unfolding is_met
met_none names name i all none =
    any_map name names ∙ (ap (list_any (λ (n : NameValue). is_same n.labels name)) (sym (ap (λ n. take n names) all ∙ take-length names)) ∙ none)

-- ---- what an alias leads to

led_on : (others : Others) (names : List (List (List ℕ))) (next : Next) (name : List (List ℕ)) → next ≡ To name → is_met names name ≡ false
    → led others names next ≡ others (names ++ name ∷ []) name
led_on others names next name is none = rw (is, none) refl

led_met : (others : Others) (names : List (List (List ℕ))) (name : List (List ℕ)) → is_met names name ≡ true
    → led others names (To name) ≡ silent NoError
led_met others names name met = rw met refl

link_seen : (records : List RecordValue) (names : List (List (List ℕ))) (number : ℕ) (node : Node) (next : FoundNext)
    → ((target : List (List ℕ)) → next_seen next ≡ To target → numbered_name names (number + 1) ≡ target)
    → parts_seen records names (link_parts number node next) ≡ links (numbered_name names number) (records_of_type dname_code (node_records records node)) (next_seen next)
link_seen records names number node (nexts.To name) is =
    ap (λ (target : List (List ℕ)). Kept (records_of_type dname_code (node_records records node))
    ∷ Made (numbered_name names number) (records_of_type dname_code (node_records records node)) target ∷ []) (is name.labels refl)
link_seen records names number node nexts.Nowhere is = refl
link_seen records names number node nexts.TooLong is = refl

-- ---- the parts of an alias, whatever names follow

module _ (records : List RecordValue) (asked : List (List ℕ)) (new old more : List NameValue) (number : ℕ) (is : new ≡ old ++ more) (count : length old ≡ number) where
  named_seen : (node : Node)
      → parts_seen records (asked ∷ all_labels new) (parts.Named number node cname_code ∷ [])
      ≡ Named (numbered_name (asked ∷ all_labels old) number) (records_of_type cname_code (node_records records node)) ∷ []
  named_seen node =
      ap (λ (owner : List (List ℕ)). Named owner (records_of_type cname_code (node_records records node)) ∷ []) (front_seen asked new old more number is count)

  links_seen : (node : Node) (next : FoundNext)
      → ((target : List (List ℕ)) → next_seen next ≡ To target → numbered_name (asked ∷ all_labels new) (number + 1) ≡ target)
      → parts_seen records (asked ∷ all_labels new) (link_parts number node next)
      ≡ links (numbered_name (asked ∷ all_labels old) number) (records_of_type dname_code (node_records records node)) (next_seen next)
  links_seen node next to =
      link_seen records (asked ∷ all_labels new) number node next to
      ∙ ap (λ (owner : List (List ℕ)). links owner (records_of_type dname_code (node_records records node)) (next_seen next)) (front_seen asked new old more number is count)

to_same : (x y : List (List ℕ)) → To x ≡ To y → x ≡ y
to_same x y h = cc

-- ---- an alias goes on

module _ (zone : ZoneValue) (asked : List (List ℕ)) (code number : ℕ) (old mid new : Answer) (name : NameValue) (count : length old.names.items ≡ number)
    (names : mid.names ≡ old.names) (next : Next) (turn : TurnsTo asked mid new next name) where
  grown : new.names.items ≡ old.names.items ++ name ∷ []
  grown = turn.names ∙ ap (λ (ns : List NameValue). ns ++ name ∷ []) (ap (λ x. x.items) names)

  led_there : (others : Others) → led others (names_of asked old) next ≡ others (names_of asked new) name.labels
  led_there others =
      let met : is_met (names_of asked old) name.labels ≡ false = subst (λ (x : _). is_met (asked ∷ all_labels x.items) name.labels ≡ false) names turn.not_met in
      led_on others (names_of asked old) next name.labels turn.leads met
      ∙ ap (λ (ls : List (List (List ℕ))). others (asked ∷ ls) name.labels) (sym (ap all_labels grown ∙ labels_push old.names.items name))

  more_names : (more : List NameValue) → new.names.items ++ more ≡ old.names.items ++ name ∷ more
  more_names more = ap (λ (ns : List NameValue). ns ++ more) grown ∙ append_assoc old.names.items (name ∷ []) more

  goes_on : (lead : Lead) (added : List FoundPart) (ps : List SectionPart) → mid.aliases.items ≡ old.aliases.items ++ added
      → ((others : Others) → said others zone code (names_of asked old) (numbered_name (names_of asked old) number) lead ≡ begun_with ps (led others (names_of asked old) next))
      → ((more : List NameValue) → parts_seen zone.records (asked ∷ all_labels (new.names.items ++ more)) added ≡ ps)
      → LeadsOn zone asked code number lead old new name
  goes_on lead added ps has says seen = record {
    added = added;
    names = grown;
    has = ap (λ x. x.items) turn.same ∙ has;
    data_none = turn.data_none;
    authority = turn.authority;
    says = λ others more. says others ∙ rw (seen more) (ap (begun_with ps) (led_there others));
  }

  pub cname_on : (node : Node) → mid.aliases.items ≡ old.aliases.items ++ parts.Named number node cname_code ∷ []
      → LeadsOn zone asked code number (Cname (records_of_type cname_code (node_records zone.records node)) next) old new name
  cname_on node has =
      goes_on (Cname (records_of_type cname_code (node_records zone.records node)) next) (parts.Named number node cname_code ∷ [])
      (Named (numbered_name (names_of asked old) number) (records_of_type cname_code (node_records zone.records node)) ∷ []) has (λ others. refl)
      (λ more. named_seen zone.records asked (new.names.items ++ more) old.names.items (name ∷ more) number (more_names more) count node)

  pub dname_on : (node : Node) (found : FoundNext) → next_seen found ≡ next → mid.aliases.items ≡ old.aliases.items ++ link_parts number node found
      → LeadsOn zone asked code number (Dname (records_of_type dname_code (node_records zone.records node)) next) old new name
  dname_on node found is has =
      goes_on (Dname (records_of_type dname_code (node_records zone.records node)) next) (link_parts number node found)
      (links (numbered_name (names_of asked old) number) (records_of_type dname_code (node_records zone.records node)) next) has (λ others. refl)
      (λ more. links_seen zone.records asked (new.names.items ++ more) old.names.items (name ∷ more) number (more_names more) count node found
      (λ target to.
      ap (λ (ns : List NameValue). numbered_name (asked ∷ all_labels ns) (number + 1)) (more_names more)
      ∙ (at_next asked old.names.items name more number count ∙ to_same name.labels target (sym turn.leads ∙ (sym is ∙ to))))
      ∙ ap (links (numbered_name (names_of asked old) number) (records_of_type dname_code (node_records zone.records node))) is)

  pub cname_goes : (lead : FoundLead) (node : Node) (found : FoundNext) → lead ≡ leads.Cname node found → next_seen found ≡ next
      → mid.aliases.items ≡ old.aliases.items ++ parts.Named number node cname_code ∷ [] → LeadsOn zone asked code number (lead_seen zone.records lead) old new name
  cname_goes lead node found is to has = rw (is, to) (cname_on node has)

  pub dname_goes : (lead : FoundLead) (node : Node) (found : FoundNext) → lead ≡ leads.Dname node found → next_seen found ≡ next
      → mid.aliases.items ≡ old.aliases.items ++ link_parts number node found → LeadsOn zone asked code number (lead_seen zone.records lead) old new name
  dname_goes lead node found is to has = rw (is, to) (dname_on node found to has)

-- ---- the answer ends

-- An answer with a code and nothing more after its parts.
pub seen_silent : (records : List RecordValue) (asked : List (List ℕ)) (new : Answer) → new.data ≡ None → new.authority ≡ None → new.is_authoritative ≡ true
    → answer_seen records asked new ≡ begun_with (parts_seen records (names_of asked new) new.aliases.items) (silent new.rcode)
seen_silent records asked new bare none set =
    rw (bare, none, set)
    (ap (λ (xs : List FoundPart). record { code = new.rcode; authoritative = true; answers = parts_seen records (names_of asked new) xs; authority = None }) (append-nil new.aliases.items)
    ∙ sym (joined_silent (parts_seen records (names_of asked new) new.aliases.items) new.rcode))

module _ (zone : ZoneValue) (asked : List (List ℕ)) (code number : ℕ) (old mid new : Answer) (count : length old.names.items ≡ number)
    (names : mid.names ≡ old.names) (next : Next) (turn : EndsTurn asked mid new next) where
  end_names : new.names.items ≡ old.names.items ++ turn.added
  end_names = turn.names ∙ ap (λ (ns : List NameValue). ns ++ turn.added) (ap (λ x. x.items) names)

  ends_after : (lead : Lead) (added : List FoundPart) (ps : List SectionPart) → mid.aliases.items ≡ old.aliases.items ++ added
      → ((others : Others) → said others zone code (names_of asked old) (numbered_name (names_of asked old) number) lead ≡ begun_with ps (led others (names_of asked old) next))
      → parts_seen zone.records (names_of asked new) added ≡ ps
      → IsSaid zone asked code number lead old new
  ends_after lead added ps has says seen others =
      let quiet : led others (names_of asked old) next ≡ silent new.rcode = subst (λ (x : _). led others (asked ∷ all_labels x.items) next ≡ silent new.rcode) names (turn.says others) in
      let whole : new.aliases.items ≡ old.aliases.items ++ added = ap (λ x. x.items) turn.same ∙ has in
      record {
        added = turn.added;
        names = end_names;
        says =
            seen_silent zone.records asked new turn.data_none turn.authority turn.authoritative
            ∙ (ap (λ (xs : List FoundPart). begun_with (parts_seen zone.records (names_of asked new) xs) (silent new.rcode)) whole
            ∙ (joined_more zone.records (names_of asked new) old.aliases.items added (silent new.rcode)
            ∙ (ap (λ (qs : List SectionPart). begun_with (parts_seen zone.records (names_of asked new) old.aliases.items) (begun_with qs (silent new.rcode))) seen
            ∙ ap (begun_with (parts_seen zone.records (names_of asked new) old.aliases.items)) (ap (begun_with ps) (sym quiet) ∙ sym (says others)))));
      }

  pub cname_ends : (node : Node) → mid.aliases.items ≡ old.aliases.items ++ parts.Named number node cname_code ∷ []
      → IsSaid zone asked code number (Cname (records_of_type cname_code (node_records zone.records node)) next) old new
  cname_ends node has =
      ends_after (Cname (records_of_type cname_code (node_records zone.records node)) next) (parts.Named number node cname_code ∷ [])
      (Named (numbered_name (names_of asked old) number) (records_of_type cname_code (node_records zone.records node)) ∷ []) has (λ others. refl)
      (named_seen zone.records asked new.names.items old.names.items turn.added number end_names count node)

  pub dname_ends : (node : Node) (found : FoundNext) → next_seen found ≡ next → mid.aliases.items ≡ old.aliases.items ++ link_parts number node found
      → IsSaid zone asked code number (Dname (records_of_type dname_code (node_records zone.records node)) next) old new
  dname_ends node found is has =
      ends_after (Dname (records_of_type dname_code (node_records zone.records node)) next) (link_parts number node found)
      (links (numbered_name (names_of asked old) number) (records_of_type dname_code (node_records zone.records node)) next) has (λ others. refl)
      (links_seen zone.records asked new.names.items old.names.items turn.added number end_names count node found
      (λ target to.
      let (name, only, labels) = turn.target target (sym is ∙ to) in
      ap (λ (ns : List NameValue). numbered_name (asked ∷ all_labels ns) (number + 1)) (end_names ∙ ap (λ (ns : List NameValue). old.names.items ++ ns) only)
      ∙ (at_next asked old.names.items name [] number count ∙ labels))
      ∙ ap (links (numbered_name (names_of asked old) number) (records_of_type dname_code (node_records zone.records node))) is)

  pub cname_stops : (lead : FoundLead) (node : Node) (found : FoundNext) → lead ≡ leads.Cname node found → next_seen found ≡ next
      → mid.aliases.items ≡ old.aliases.items ++ parts.Named number node cname_code ∷ [] → IsSaid zone asked code number (lead_seen zone.records lead) old new
  cname_stops lead node found is to has = rw (is, to) (cname_ends node has)

  pub dname_stops : (lead : FoundLead) (node : Node) (found : FoundNext) → lead ≡ leads.Dname node found → next_seen found ≡ next
      → mid.aliases.items ≡ old.aliases.items ++ link_parts number node found → IsSaid zone asked code number (lead_seen zone.records lead) old new
  dname_stops lead node found is to has = rw (is, to) (dname_ends node found to has)

-- ---- the answer of a name that is no alias

nothing_more : (new old : Answer) → new.names ≡ old.names → new.names.items ≡ old.names.items ++ []
nothing_more new old is = ap (λ x. x.items) is ∙ sym (append-nil old.names.items)

pub data_ends : (zone : ZoneValue) (asked : List (List ℕ)) (code number : ℕ) (node : Node) (kind : Kind) (old new : Answer) → old.authority ≡ None → kind ≡ Records
    → new ≡ record old { rcode = NoError; is_authoritative = true; «data» = Some (parts.Named number node code) }
    → EndsAs zone.records asked old new (by_kind zone (numbered_name (names_of asked old) number) code (node_records zone.records node) kind)
data_ends zone asked code number node kind old new none same is =
    let ps = parts_seen zone.records (names_of asked old) old.aliases.items in
    rw (same, is) (record {
      added = [];
      names = sym (append-nil old.names.items);
      says = rw (none, or-true (has_parts ps))
          (ap (λ (xs : List SectionPart). record { code = NoError; authoritative = true; answers = xs; authority = None })
          (map-append (part_seen zone.records (names_of asked old)) old.aliases.items (parts.Named number node code ∷ [])));
    })

not_empty : (f : FoundPart → SectionPart) (xs : List FoundPart) → not (eqb (length xs) 0) ≡ (has_parts (map f xs) || false)
not_empty f [] = refl
not_empty f (x ∷ xs) = grind (arith, nat_tests)

pub referral_ends : (zone : ZoneValue) (asked : List (List ℕ)) (node : Node) (b : Bool) (old new : Answer) → old.data ≡ None
    → b ≡ eqb (length old.aliases.items) 0
    → new ≡ record old { rcode = NoError; is_authoritative = not b; authority = Some (parts.Kept node ns_code) }
    → EndsAs zone.records asked old new (referred (node_records zone.records node))
referral_ends zone asked node b old new bare empty is =
    let f = part_seen zone.records (names_of asked old) in
    rw is (record {
      added = [];
      names = sym (append-nil old.names.items);
      says = rw (bare, empty, not_empty f old.aliases.items)
          (ap (λ (xs : List SectionPart). record { code = NoError; authoritative = has_parts (map f old.aliases.items) || false; answers = xs; authority = Some (Kept (records_of_type ns_code (node_records zone.records node))) })
          (ap (map f) (append-nil old.aliases.items) ∙ sym (append-nil (map f old.aliases.items))));
    })

-- ---- a name that was asked for before

pub met_ends : (asked : List (List ℕ)) (old mid new : Answer) (name : NameValue) → mid.names.items ≡ old.names.items ++ name ∷ [] → mid.aliases ≡ old.aliases
    → mid.data ≡ None → mid.authority ≡ None → new ≡ record mid { rcode = NoError; is_authoritative = true } → is_met (names_of asked old) name.labels ≡ true
    → EndsTurn asked old new (To name.labels)
met_ends asked old mid new name grown same bare none is met =
    rw is (record {
      added = name ∷ [];
      names = grown;
      target = λ target to. (name, refl, to_same name.labels target to);
      same = same;
      data_none = bare;
      authority = none;
      authoritative = refl;
      says = λ others. led_met others (names_of asked old) name.labels met;
    })

-- ---- what holds of a success

pub ok_some : {T E : Type 0} {P Q : T → Type 0} (r : Result (Option T) E) → ((x : T) → P x → Q x) → IfOk r (λ it. IfSome it P) → IfOk r (λ it. IfSome it Q)
ok_some (Ok (Some x)) f h = f x h
ok_some (Ok None) f h = tt
ok_some (Err e) f h = tt

pub ok_none : {T E : Type 0} {P Q : Type 0} (r : Result (Option T) E) → (P → Q) → IfOk r (λ it. IfNone it P) → IfOk r (λ it. IfNone it Q)
ok_none (Ok (Some x)) f h = tt
ok_none (Ok None) f h = f h
ok_none (Err e) f h = tt

pub some_holds : {T : Type 0} (P : T → Type 0) (o : Option T) (x : T) → o ≡ Some x → IfSome o P → P x
some_holds P o x is h = subst (λ it. IfSome it P) is h

pub none_holds : {T P : Type 0} (o : Option T) → o ≡ None → IfNone o P → P
none_holds {T} {P} o is h = subst (λ (it : Option T). IfNone it P) is h

-- ---- the loop

-- So far the answer is what is to be said, with what follows of the last name.
pub record IsSoFar (zone : ZoneValue) (code : ℕ) (asked : List (List ℕ)) (answer : Answer) (number : ℕ) (last : List (List ℕ)) : Type 0 where
  pub upto : IsUpTo answer number
  pub at : last ≡ numbered_name (names_of asked answer) number
  pub says : (more : List NameValue)
      → begun_with (parts_seen zone.records (asked ∷ all_labels (answer.names.items ++ more)) answer.aliases.items) (follow zone code (16 - number) (names_of asked answer) last)
      ≡ follow zone code 16 (asked ∷ []) asked

follow_more : (zone : ZoneValue) (code left most : ℕ) (names : List (List (List ℕ))) (name : List (List ℕ)) → left ≡ suc most
    → follow zone code left names name ≡ said (follow zone code most) zone code names name (lead zone name code)
unfolding follow
follow_more zone code left most names name is = rw is refl

follow_none : (zone : ZoneValue) (code : ℕ) (names : List (List (List ℕ))) (name : List (List ℕ)) → follow zone code 0 names name ≡ silent NoError
unfolding follow
follow_none zone code names name = refl

module _ (zone : ZoneValue) (code : ℕ) (asked : List (List ℕ)) where
  pub starts : (answer : Answer) → IsUpTo answer 0 → answer.aliases.items ≡ [] → IsSoFar zone code asked answer 0 asked
  starts answer upto bare =
      let none : answer.names.items ≡ [] = nil_from_length answer.names.items upto.names in
      record { upto = upto; at = refl; says = λ more. rw (bare, none) refl }

  pub goes : (old new : Answer) (number : ℕ) (last : List (List ℕ)) (name : NameValue) → IsSoFar zone code asked old number last → number < 16
      → LeadsOn zone asked code number (lead zone last code) old new name → IsSoFar zone code asked new (number + 1) name.labels
  goes old new number last name sofar few step =
      let left : 16 - number ≡ suc (16 - (number + 1)) = omega arith in
      let names : length new.names.items ≡ number + 1 = omega (arith, ap length step.names, length-append old.names.items (name ∷ []), sofar.upto.names) in
      record {
        upto = record { names = names; data_none = step.data_none; authority = step.authority };
        at = sym (ap (λ (ns : List NameValue). numbered_name (asked ∷ all_labels ns) (number + 1)) step.names ∙ at_next asked old.names.items name [] number sofar.upto.names);
        says = λ more.
            let all = asked ∷ all_labels (new.names.items ++ more) in
            let same : new.names.items ++ more ≡ old.names.items ++ name ∷ more =
            ap (λ (ns : List NameValue). ns ++ more) step.names ∙ append_assoc old.names.items (name ∷ []) more in
            let others = follow zone code (16 - (number + 1)) in
            ap (λ (xs : List FoundPart). begun_with (parts_seen zone.records all xs) (others (names_of asked new) name.labels)) step.has
            ∙ (joined_more zone.records all old.aliases.items step.added (others (names_of asked new) name.labels)
            ∙ (ap (begun_with (parts_seen zone.records all old.aliases.items)) (sym (step.says others more))
            ∙ (ap (λ (owner : List (List ℕ)). begun_with (parts_seen zone.records all old.aliases.items) (said others zone code (names_of asked old) owner (lead zone last code))) (sym sofar.at)
            ∙ (ap (begun_with (parts_seen zone.records all old.aliases.items)) (sym (follow_more zone code (16 - number) (16 - (number + 1)) (names_of asked old) last left))
            ∙ (ap (λ (ns : List NameValue). begun_with (parts_seen zone.records (asked ∷ all_labels ns) old.aliases.items) (follow zone code (16 - number) (names_of asked old) last)) same
            ∙ sofar.says (name ∷ more))))));
      }

  pub stops : (old new : Answer) (number : ℕ) (last : List (List ℕ)) → IsSoFar zone code asked old number last → number < 16
      → IsSaid zone asked code number (lead zone last code) old new → answer_seen zone.records asked new ≡ follow zone code 16 (asked ∷ []) asked
  stops old new number last sofar few ends =
      let left : 16 - number ≡ suc (16 - (number + 1)) = omega arith in
      let others = follow zone code (16 - (number + 1)) in
      let end = ends others in
      let all = names_of asked new in
      end.says
      ∙ (ap (λ (owner : List (List ℕ)). begun_with (parts_seen zone.records all old.aliases.items) (said others zone code (names_of asked old) owner (lead zone last code))) (sym sofar.at)
      ∙ (ap (begun_with (parts_seen zone.records all old.aliases.items)) (sym (follow_more zone code (16 - number) (16 - (number + 1)) (names_of asked old) last left))
      ∙ (ap (λ (ns : List NameValue). begun_with (parts_seen zone.records (asked ∷ all_labels ns) old.aliases.items) (follow zone code (16 - number) (names_of asked old) last)) end.names
      ∙ sofar.says end.added)))

  pub cut : (old new : Answer) (number : ℕ) (last : List (List ℕ)) → IsSoFar zone code asked old number last → 16 ≤ number
      → new ≡ record old { rcode = NoError; is_authoritative = true } → answer_seen zone.records asked new ≡ follow zone code 16 (asked ∷ []) asked
  cut old new number last sofar all is =
      let none : 16 - number ≡ 0 = omega arith in
      let start = parts_seen zone.records (names_of asked old) old.aliases.items in
      seen_silent zone.records asked new (ap (λ (a : Answer). a.data) is ∙ sofar.upto.data_none) (ap (λ (a : Answer). a.authority) is ∙ sofar.upto.authority)
      (ap (λ (a : Answer). a.is_authoritative) is)
      ∙ (ap (λ (a : Answer). begun_with (parts_seen zone.records (names_of asked a) a.aliases.items) (silent a.rcode)) is
      ∙ (ap (begun_with start) (sym (ap (λ n. follow zone code n (names_of asked old) last) none ∙ follow_none zone code (names_of asked old) last))
      ∙ (ap (λ (ns : List NameValue). begun_with (parts_seen zone.records (asked ∷ all_labels ns) old.aliases.items) (follow zone code (16 - number) (names_of asked old) last)) (sym (append-nil old.names.items))
      ∙ sofar.says [])))
