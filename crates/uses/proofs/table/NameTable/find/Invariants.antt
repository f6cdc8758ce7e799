use Rattle.std.proofs.Common.{◌≡◌, ◌-◌, ◌≤◌, length}
use Rattle.std.specs.List.{AllWithin}
use Rattle.std.specs.List.Sorted.{IsStrictlySortedBy}
use Rattle.std.specs.declared.cmp.Ordering.TheVariants.{Less, Greater}
use Rattle.dns_names_wire.specs.Words.{labels_cmp}
use Rattle.uses.proofs.table.NameTable.find.Given as goal

-- the names before low come before the name, and those from high on come after it
abbrev pub invariant-search : goal.invariant-search
invariant-search l =
    (l.low ≤ l.high) × (l.high ≤ length l.self) × IsStrictlySortedBy labels_cmp l.self
    × AllWithin (λ n. labels_cmp n l.name.labels ≡ Less) l.self 0 l.low × AllWithin (λ n. labels_cmp n l.name.labels ≡ Greater) l.self l.high (length l.self)

abbrev pub decreases-search : goal.decreases-search
decreases-search l = l.high - l.low
