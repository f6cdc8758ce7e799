use Rattle.std.proofs.Common.{ℕ, List, refl, subst}
use Rattle.dnw_zone_values.specs.Times.{IsTimeText}
use Rattle.dnw_zone_values.proofs.time.parse_time.Goals as goal

pub returns-in-None : goal.returns-in-None
returns-in-None c = (refl, subst (λ (t : List ℕ). (n : ℕ) → ¬ (IsTimeText t n)) c.as_bytes.ensures.value c.in-None.ensures)
