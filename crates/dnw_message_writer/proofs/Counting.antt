-- The counts of the header, while octets after it change.
use Rattle.std.proofs.Common.{◌≡◌, ℕ, ◌+◌, ◌<◌, ◌≤◌, List, take, slice_index, refl, sym, ap, ◌∙◌, arith}
use Rattle.std.proofs.lemmas.List.{get_or-take}
use Rattle.dnw_message_writer.specs.Sections.{offset_of_count}
use Rattle.dnw_message_writer.specs.States.{count_in_header}
use Rattle.dnw_message_writer.specs.declared.section.Section.{Section}
use Rattle.dnw_message_writer.specs.declared.section.Section.TheVariants.{Queries, Answers, Authorities, Additionals}

index_kept : (m n : List ℕ) (at k : ℕ) → take at m ≡ take at n → k < at → slice_index m k ≡ slice_index n k
index_kept m n at k same small =
    sym (get_or-take at m k 0 small) ∙ (ap (λ (x : List ℕ). slice_index x k) same ∙ get_or-take at n k 0 small)

pub count_small : (s : Section) → offset_of_count s + 1 < 12
count_small Queries = omega arith
count_small Answers = omega arith
count_small Authorities = omega arith
count_small Additionals = omega arith

-- a count is unchanged if the octets up to an offset after the header are
pub count_kept : (s : Section) (m n : List ℕ) (at : ℕ) → 12 ≤ at → take at m ≡ take at n → count_in_header s m ≡ count_in_header s n
count_kept s m n at after same =
    let small = count_small s in
    let first = index_kept m n at (offset_of_count s) same (omega (arith, small, after)) in
    let second = index_kept m n at (offset_of_count s + 1) same (omega (arith, small, after)) in
    rw (first, second) refl
