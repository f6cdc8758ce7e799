use Rattle.std.proofs.Common.{◌≡◌, ◌++◌, ℕ, List, length}
use Rattle.std.specs.Prelude.{flat_map}
use Rattle.dnw_zone_data.specs.Inside.PrefixWords.{LeadToPrefixes}
use Rattle.dnw_zone_data.proofs.prefixes.parse_prefixes.Given as goal

-- the prefixes so far, and what is left
abbrev pub invariant-prefixes : goal.invariant-prefixes
invariant-prefixes l =
    (listed : List (List ℕ)) × LeadToPrefixes l.text listed l.left × (l.out.items ≡ l.fn.out.items ++ flat_map (λ (own : List ℕ). own) listed)

abbrev pub decreases-prefixes : goal.decreases-prefixes
decreases-prefixes l = length l.left
