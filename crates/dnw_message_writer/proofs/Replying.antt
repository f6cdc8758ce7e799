-- A request with one question, or none, and with one record, or none.
use Rattle.std.proofs.Common.{◌≡◌, ◌++◌, Option, Some, None, is_some, MatchOption, true, false, List, [], ◌∷◌, inl, inr, refl, sym, ap, ◌∙◌, subst}
use Rattle.dnw_record.specs.Records.{RecordValue}
use Rattle.dnw_message_read.specs.Edns.{OptsAre, is_opt, opts_in, opts_outside}
use Rattle.dnw_message_read.specs.Messages.{MessageValue, QueryValue}
use Rattle.dnw_message_writer.specs.Inside.Asked.{AsksByOpt, HasAdditionalsAlone}
use Rattle.dnw_message_writer.specs.Replies.{AsksByEdns, IsOnlyQuery}
use Rattle.dnw_message_writer.specs.declared.reply.Asked.{Asked}

pub only_one : (qs : List QueryValue) (first : Option QueryValue) (rest after : List QueryValue) (second : Option QueryValue)
    → MatchOption first ((qs ≡ []) × (rest ≡ [])) (λ x. qs ≡ x ∷ rest) → MatchOption second ((rest ≡ []) × (after ≡ [])) (λ x. rest ≡ x ∷ after)
    → is_some second ≡ false → IsOnlyQuery qs first
only_one qs None rest after second (none, _) steps is = subst (λ q. IsOnlyQuery q None) (sym none) tt
only_one qs (Some x) rest after None split (none, _) is =
    subst (λ q. IsOnlyQuery q (Some x)) (sym (split ∙ ap (λ r. x ∷ r) none)) refl
only_one qs (Some x) rest after (Some y) split steps is = absurd cc

none_outside : (m : MessageValue) → HasAdditionalsAlone m → opts_outside m ≡ []
none_outside m (answers, authorities) = ap opts_in (ap (λ xs. xs ++ m.authorities) answers ∙ authorities)

-- without a record
pub no_opt : (m : MessageValue) → HasAdditionalsAlone m → m.additionals ≡ [] → OptsAre m []
no_opt m alone none = (none_outside m alone, ap opts_in none)

opts_of_one : (r : RecordValue) → is_opt r.record_type ≡ true → opts_in (r ∷ []) ≡ r ∷ []
opts_of_one r is = rw is refl

-- with one alone
pub only_opt_asks : (m : MessageValue) (r : RecordValue) (asked : Asked) → HasAdditionalsAlone m → m.additionals ≡ r ∷ [] → is_opt r.record_type ≡ true
    → AsksByOpt r asked → AsksByEdns m asked
only_opt_asks m r asked alone one is (inl (e, fails, asks)) =
    inl (e, inr (r, (none_outside m alone, ap opts_in one ∙ opts_of_one r is), fails), asks)
only_opt_asks m r asked alone one is (inr (e, edns, asks)) =
    inr (inr (e, (r, (none_outside m alone, ap opts_in one ∙ opts_of_one r is), edns), asks))
