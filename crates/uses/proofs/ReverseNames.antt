-- What the outcome of reading a reverse name says of its prefix.
use Rattle.std.proofs.Common.{◌≡◌, Option, Result, Ok, Err, sym, subst}
use Rattle.std.specs.Prelude.{IfOk, IfNone}
use Rattle.std.specs.Result.{result_ok}
use Rattle.dns_names_wire.specs.Words.{ArpaPrefix, GivesPrefix, IpNet, IsNetOf, NameValue, NamesGivePrefixes, ProtoError, ReadsNet, arpa_prefix}

pub gives_some : NamesGivePrefixes → (n : NameValue) (outcome : Result IpNet ProtoError) → ReadsNet (arpa_prefix n) outcome
    → IfOk outcome (λ net. (prefix : ArpaPrefix) × GivesPrefix n prefix × IsNetOf prefix net)
gives_some law n (Ok net) (prefix, is, of) = (prefix, (law n prefix).0 is, of)
gives_some law n (Err error) reads = tt

gives_no_prefix : NamesGivePrefixes → (n : NameValue) (outcome : Result IpNet ProtoError) → ReadsNet (arpa_prefix n) outcome
    → IfNone (result_ok outcome) ((prefix : ArpaPrefix) → ¬ (GivesPrefix n prefix))
gives_no_prefix law n (Ok net) reads = tt
gives_no_prefix law n (Err error) (fault, is, reports) = λ prefix gives. let given = (law n prefix).1 gives in absurd cc

pub gives_none : NamesGivePrefixes → (n : NameValue) (outcome : Result IpNet ProtoError) (found : Option IpNet) → found ≡ result_ok outcome
    → ReadsNet (arpa_prefix n) outcome → IfNone found ((prefix : ArpaPrefix) → ¬ (GivesPrefix n prefix))
gives_none law n outcome found same reads =
    subst (λ x. IfNone x ((prefix : ArpaPrefix) → ¬ (GivesPrefix n prefix))) (sym same) (gives_no_prefix law n outcome reads)
