-- A sort and a `dedup_by` put records in order, and leave each once.
use Rattle.std.proofs.Common.{◌≡◌, ◌≤◌, length, rules}
use Rattle.std.specs.List.{dedup}
use Rattle.std.specs.Ordering.{is_lt}
use Rattle.std.proofs.lemmas.Fn.{always_returns_same, dedup_same}
use Rattle.std.proofs.lemmas.List.Filters.{All-dedup}
use Rattle.std.proofs.lemmas.List.Sorted.{All-permutation, ranks_by}
use Rattle.dnw_base.specs.Limits.{max_message}
use Rattle.dnw_signed.specs.ZoneDigests.{CanonicalRecord, is_duplicate, zone_cmp}
use Rattle.dnw_signed.proofs.Zones.{zone_total}
use Rattle.dnw_signed.proofs.zone_digest.put_in_order.Goals as goal

pub returns-clause-order : goal.returns-clause-order
returns-clause-order c =
    record {
      sorted = c.sort_unstable_by.new.self.items;
      same_records = c.sort_unstable_by.ensures.permutation;
      ascend = c.sort_unstable_by.ensures.sorted (λ z y. is_lt (zone_cmp z y)) (ranks_by zone_total (λ z. z)) (always_returns_same _ _ _ (λ a r f k. search rules));
      once = dedup_same _ is_duplicate _ (λ x y b f' x' y' k. search rules) _ _ c.dedup_by.ensures.filtered;
    }

pub returns-clause-short : goal.returns-clause-short
returns-clause-short c =
    let short = λ (z : CanonicalRecord). length z.octets ≤ max_message in
    let sorted = c.sort_unstable_by.new.self.items in
    let once : c.dedup_by.new.self.items ≡ dedup is_duplicate sorted =
    dedup_same _ is_duplicate _ (λ x y b f' x' y' k. search rules) _ _ c.dedup_by.ensures.filtered in
    rw once (All-dedup is_duplicate short sorted (All-permutation short c.args.zone.now.items sorted c.sort_unstable_by.ensures.permutation c.requires))
