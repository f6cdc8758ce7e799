-- The octets of an IPv6 address, and its segments.
use Rattle.std.proofs.Common.{◌≡◌, ℕ, ◌+◌, ◌*◌, ◌/◌, ◌%◌, List, [], ◌∷◌, length, refl, arith}
use Rattle.std.specs.Net.Addr.{octets_of, segments_of}

pub octets_length : (segments : List ℕ) → length (octets_of segments) ≡ length segments + length segments
octets_length [] = refl
octets_length (s ∷ segments) = omega (arith, octets_length segments)

pub segments_back : (segments : List ℕ) → segments_of (octets_of segments) ≡ segments
segments_back [] = refl
segments_back (s ∷ segments) =
    let whole : s / 256 * 256 + s % 256 ≡ s = omega arith in
    rw (whole, segments_back segments) refl
