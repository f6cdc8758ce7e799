use Rattle.std.proofs.Common.{◌≡◌, ◌∷◌, ◌++◌, ◌+◌, [], List, ℕ, length, sym, ap, ◌∙◌, append_assoc, arith}
use Rattle.std.specs.Prelude.{string_bytes}
use Rattle.dnw_data.specs.declared.kind.Shown.{Shown}
use Rattle.dnw_data.specs.TypeSets.{octet_codes, octets_codes}
use Rattle.dnw_zone_data.specs.Bitmaps.{numbers_text}
use Rattle.dnw_zone_data.proofs.TypeSteps.{numbers_append}
use Rattle.dnw_zone_data.proofs.types.write_octets.Goals as goal

more : (shown : Shown) (old mid new left rest whole : List ℕ) (code octet : ℕ) → left ≡ octet ∷ rest → mid ≡ old ++ numbers_text shown (octet_codes code octet)
    → old ++ numbers_text shown (octets_codes code left) ≡ whole → mid ++ numbers_text shown (octets_codes (code + 8) rest) ≡ whole
more shown old mid new left rest whole code octet first e so_far =
    ap (λ (xs : List ℕ). xs ++ numbers_text shown (octets_codes (code + 8) rest)) e
    ∙ append_assoc old (numbers_text shown (octet_codes code octet)) (numbers_text shown (octets_codes (code + 8) rest))
    ∙ ap (λ (xs : List ℕ). old ++ xs) (sym (numbers_append shown (octet_codes code octet) (octets_codes (code + 8) rest)))
    ∙ ap (λ (xs : List ℕ). old ++ numbers_text shown (octets_codes code xs)) (sym first) ∙ so_far

pub loop-octet-preserved : goal.loop-octet-preserved
loop-octet-preserved c =
    let size = ap length c.in-Some.ensures.cases.0 in (
      more c.args.shown (string_bytes c.loop-octet.out) (string_bytes c.write_octet.new.out) [] c.loop-octet.left.now c.in-Some.rest.now _ c.loop-octet.code c.in-Some.octet.now
          c.in-Some.ensures.cases.0 c.in_ok-write_octet.ensures c.loop-octet.invariant.0,
      omega (arith, size, c.loop-octet.invariant.1),
    )
