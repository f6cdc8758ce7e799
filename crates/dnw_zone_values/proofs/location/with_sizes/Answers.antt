use Rattle.std.proofs.Common.{ℕ, List, [], Bor, subst, sym}
use Rattle.dnw_zone_values.proofs.LocationWords.{Sized, one_word, two_words, three_words, four_words, too_many}
use Rattle.dnw_zone_values.proofs.location.with_sizes.Goals as goal

abbrev z : Bor (List ℕ)
z = record { ref_ptr = (0, 0); now = [] }

pub returns-in-len1 : goal.returns-in-len1
returns-in-len1 c =
    subst (λ (words : List (List ℕ)). Sized words c.args.latitude c.args.longitude c.of_sizes.result)
    (sym (one_word c.args.words.now z c.in-len1.len_at_least c.in-len1.len_below)) c.of_sizes.ensures

pub returns-in-len2 : goal.returns-in-len2
returns-in-len2 c =
    subst (λ (words : List (List ℕ)). Sized words c.args.latitude c.args.longitude c.of_sizes-in-len2.result)
    (sym (two_words c.args.words.now z c.in-len2.len_at_least c.in-len2.len_below)) c.of_sizes-in-len2.ensures

pub returns-in-len3 : goal.returns-in-len3
returns-in-len3 c =
    subst (λ (words : List (List ℕ)). Sized words c.args.latitude c.args.longitude c.of_sizes-in-len3.result)
    (sym (three_words c.args.words.now z c.in-len3.len_at_least c.in-len3.len_below)) c.of_sizes-in-len3.ensures

pub returns-in-len4 : goal.returns-in-len4
returns-in-len4 c =
    subst (λ (words : List (List ℕ)). Sized words c.args.latitude c.args.longitude c.of_sizes-in-len4.result)
    (sym (four_words c.args.words.now z c.in-len4.len_at_least c.in-len4.len_below)) c.of_sizes-in-len4.ensures

pub returns-in_default-2 : goal.returns-in_default-2
returns-in_default-2 c = λ l. too_many c.args.words.now l c.in_default.len_at_least
