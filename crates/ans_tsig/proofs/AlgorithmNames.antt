-- The names of algorithms are read from their wire forms.
use Rattle.std.proofs.Common.{◌≡◌, ℕ, List, [], Result, Ok, Err, refl, sym, subst, lit≤}
use Rattle.std.specs.Result.{IsOk, IsOkAnd}
use Rattle.dns_names_wire.specs.Words.{AreLabels, Decoder, NameAt, ReadsBack, TakesName, encoded_size, wire}
use Rattle.ans_tsig.specs.Algorithms.{algorithm_labels}
use Rattle.ans_tsig.specs.declared.algorithm.Algorithm.{Algorithm}
use Rattle.ans_tsig.specs.declared.algorithm.Algorithm.TheVariants.{HmacMd5, HmacSha1, HmacSha224, HmacSha256, HmacSha256_128, HmacSha384, HmacSha384_192, HmacSha512, HmacSha512_256}

are_labels : (a : Algorithm) → AreLabels (algorithm_labels a)
are_labels HmacMd5 = record {
  each = (
    record { not_empty = lit≤ tt; not_long = lit≤ tt },
    (record { not_empty = lit≤ tt; not_long = lit≤ tt }, (record { not_empty = lit≤ tt; not_long = lit≤ tt }, (record { not_empty = lit≤ tt; not_long = lit≤ tt }, tt))),
  );
  fit = lit≤ tt;
}
are_labels HmacSha1 = record { each = (record { not_empty = lit≤ tt; not_long = lit≤ tt }, tt); fit = lit≤ tt }
are_labels HmacSha224 = record { each = (record { not_empty = lit≤ tt; not_long = lit≤ tt }, tt); fit = lit≤ tt }
are_labels HmacSha256 = record { each = (record { not_empty = lit≤ tt; not_long = lit≤ tt }, tt); fit = lit≤ tt }
are_labels HmacSha256_128 = record { each = (record { not_empty = lit≤ tt; not_long = lit≤ tt }, tt); fit = lit≤ tt }
are_labels HmacSha384 = record { each = (record { not_empty = lit≤ tt; not_long = lit≤ tt }, tt); fit = lit≤ tt }
are_labels HmacSha384_192 = record { each = (record { not_empty = lit≤ tt; not_long = lit≤ tt }, tt); fit = lit≤ tt }
are_labels HmacSha512 = record { each = (record { not_empty = lit≤ tt; not_long = lit≤ tt }, tt); fit = lit≤ tt }
are_labels HmacSha512_256 = record { each = (record { not_empty = lit≤ tt; not_long = lit≤ tt }, tt); fit = lit≤ tt }

named : (a : Algorithm) → ReadsBack → NameAt (wire (algorithm_labels a)) 0 (algorithm_labels a) (encoded_size (algorithm_labels a)) 0
named HmacMd5 back = back [] [] (algorithm_labels HmacMd5) (are_labels HmacMd5)
named HmacSha1 back = back [] [] (algorithm_labels HmacSha1) (are_labels HmacSha1)
named HmacSha224 back = back [] [] (algorithm_labels HmacSha224) (are_labels HmacSha224)
named HmacSha256 back = back [] [] (algorithm_labels HmacSha256) (are_labels HmacSha256)
named HmacSha256_128 back = back [] [] (algorithm_labels HmacSha256_128) (are_labels HmacSha256_128)
named HmacSha384 back = back [] [] (algorithm_labels HmacSha384) (are_labels HmacSha384)
named HmacSha384_192 back = back [] [] (algorithm_labels HmacSha384_192) (are_labels HmacSha384_192)
named HmacSha512 back = back [] [] (algorithm_labels HmacSha512) (are_labels HmacSha512)
named HmacSha512_256 back = back [] [] (algorithm_labels HmacSha512_256) (are_labels HmacSha512_256)

front_taken : (d : Decoder) (octets : List ℕ) (labels : List (List ℕ)) (e k : ℕ) → d ≡ record { bytes = octets; index = 0 } → NameAt octets 0 labels e k
    → TakesName d (record { bytes = octets; index = e }) labels k
front_taken d octets labels e k is at =
    subst (λ (d : Decoder). TakesName d (record { bytes = octets; index = e }) labels k) (sym is) (record { end = e; name = at; moved = refl })

pub name_taken : (a : Algorithm) (d : Decoder) (octets : List ℕ) → ReadsBack → octets ≡ wire (algorithm_labels a) → d ≡ record { bytes = octets; index = 0 }
    → TakesName d (record { bytes = octets; index = encoded_size (algorithm_labels a) }) (algorithm_labels a) 0
name_taken a d octets back is at =
    front_taken d octets (algorithm_labels a) (encoded_size (algorithm_labels a)) 0 at
    (subst (λ (o : List ℕ). NameAt o 0 (algorithm_labels a) (encoded_size (algorithm_labels a)) 0) (sym is) (named a back))

pub ok_if : {T E : Type 0} (P : T → Type 0) (r : Result T E) → IsOkAnd r P → IsOk r
ok_if P (Ok x) h = refl
ok_if P (Err e) h = absurd h

pub ok_holds : {T E : Type 0} (P : T → Type 0) (r : Result T E) (x : T) → r ≡ Ok x → IsOkAnd r P → P x
ok_holds {T} {E} P r x is h = subst (λ (s : Result T E). IsOkAnd s P) is h
