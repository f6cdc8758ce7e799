use Rattle.std.proofs.Common.{◌≡◌, ◌++◌, ◌∷◌, ◌∙◌, [], ℕ, List, Bor, length, map, sym, ap, subst, arith}
use Rattle.std.proofs.lemmas.Bool.{eqb-true}
use Rattle.std.proofs.lemmas.List.{length-map, map_push}
use Rattle.dnw_zone_data.specs.Words.{after_spaces}
use Rattle.dnw_zone_data.proofs.Empty.{is_empty, not_empty}
use Rattle.dnw_zone_data.proofs.LocationWords.{LeadToWords, words_end, words_left, words_more}
use Rattle.dnw_zone_data.proofs.location.words_of.Goals as goal

abbrev texts : List (Bor (List ℕ)) → List (List ℕ)
texts words = map (λ w. w.now) words

pub returns-then-is_full : goal.returns-then-is_full
returns-then-is_full c = λ words are.
    let left : List ℕ = c.words.left.now in
    let more = words_left c.args.text.now (texts c.words.words.items) words left c.words.invariant (not_empty left _ c.is_empty.ensures c.words-test.true) are in
    let full = eqb-true (length c.words.words.items) 12 (sym c.if-is_full.ensures.value) in
    omega (arith, more, full, length-map c.words.words.items (λ (w : Bor (List ℕ)). w.now))

pub words-preserved : goal.words-preserved
words-preserved c =
    let left : List ℕ = c.words.left.now in
    let lead = words_more c.args.text.now (texts c.words.words.items) left c.words.invariant (not_empty left _ c.is_empty.ensures c.words-test.true) in
    let words : texts c.push.new.self.items ≡ texts c.words.words.items ++ c.split_word.result.0.now ∷ [] =
    ap texts c.push.ensures.items ∙ map_push (λ (w : Bor (List ℕ)). w.now) c.words.words.items c.split_word.result.0 in
    let word = words ∙ ap (λ (w : List ℕ). texts c.words.words.items ++ w ∷ []) c.split_word.ensures.word in
    let rest = c.after_spaces-left-in-words.ensures.rest ∙ ap after_spaces c.split_word.ensures.rest in
    subst (λ (ws : List (List ℕ)). LeadToWords c.args.text.now ws c.after_spaces-left-in-words.result.now) (sym word)
    (subst (LeadToWords c.args.text.now _) (sym rest) lead)

pub returns : goal.returns
returns c =
    words_end c.args.text.now (texts c.words.words.items) c.words.left.now c.words.invariant (is_empty c.words.left.now _ c.is_empty.ensures c.words-test.false)
