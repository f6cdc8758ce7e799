-- Exactly one of a name and a fault stands, with unique values.
use Rattle.std.proofs.Common.{◌+◌, None, inl, inr, arith}
use Rattle.dnw_name_read.proofs.Unique.{Reads_unique, Stops_unique, Reads_not_Stops, walk}
use Rattle.dnw_name_read.proofs.laws.one_reading.Goals as goal

pub returns : goal.returns
returns c = record {
  some = λ b p.
      walk b (p + 256) p p None 1 (omega arith) (omega arith)
      (λ ls e k r most. inl (ls, e, k, record { reads = r; fits = omega arith }))
      (λ error k j f. inr (error, k, j, f));
  not_both = λ b p ls e k error followed found n f. Reads_not_Stops n.reads (let fits = n.fits in omega arith) f;
  one_name = λ b p ls other e other_e k other_k n m. Reads_unique n.reads m.reads;
  one_fault = λ b p error other k other_k j other_j f g. Stops_unique f g;
}
