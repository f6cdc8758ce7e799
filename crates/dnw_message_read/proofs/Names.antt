-- Names that are all of some octets.
use Rattle.std.proofs.Common.{◌≡◌, ℕ, ◌+◌, List, [], refl, sym, ap, ◌∙◌, subst, arith, inl, inr, Some, Ok, Err}
use Rattle.std.proofs.lemmas.List.{append-nil}
use Rattle.dnw_base.specs.Decoder.{Decoder}
use Rattle.dnw_base.specs.Names.{encoded_size, wire}
use Rattle.dnw_name_read.specs.Reading.{NameAt, TakesName}
use Rattle.dnw_name_read.specs.ReadingLaws.{OneName, ReadsBack}
use Rattle.dnw_message_read.specs.declared.code.OptionCode.TheVariants as codes
use Rattle.dnw_message_read.specs.Values.{OptionFields, chain, report_channel}
use Rattle.dnw_message_read.specs.Reading.{IsName, OptionOutcome, ReadsChainOption, ReadsNameOption}
use Rattle.dnw_message_read.specs.OptionLaws.{OneOption}

name_at : ReadsBack → (octets : List ℕ) (labels : List (List ℕ)) → IsName octets labels → NameAt octets 0 labels (encoded_size labels) 0
name_at law octets labels (are, is) =
    let P : List ℕ → Type 0 = λ b. NameAt b 0 labels (0 + encoded_size labels) 0 in
    let Q : ℕ → Type 0 = λ n. NameAt octets 0 labels n 0 in
    let zero : 0 + encoded_size labels ≡ encoded_size labels = omega arith in
    subst Q zero (subst P (append-nil (wire labels) ∙ sym is) (law [] [] labels are))

pub takes_name : ReadsBack → (octets : List ℕ) (d : Decoder) (labels : List (List ℕ)) → d ≡ record { bytes = octets; index = 0 } → IsName octets labels
    → TakesName d (record { bytes = octets; index = encoded_size labels }) labels 0
takes_name law octets d labels at is = rw at (record { end = encoded_size labels; name = name_at law octets labels is; moved = refl })

-- ---- octets are read in one way

one_name : ReadsBack → OneName → (octets : List ℕ) (labels other : List (List ℕ)) → IsName octets labels → IsName octets other → labels ≡ other
one_name law one octets labels other is also = (one octets 0 labels other _ _ _ _ (name_at law octets labels is) (name_at law octets other also)).0

one_result : ReadsBack → OneName → (make : List (List ℕ) → OptionFields) (octets : List ℕ) (result other : OptionOutcome)
    → ReadsNameOption make octets result → ReadsNameOption make octets other → result ≡ other
one_result law one make octets (Ok value) (Ok other) (labels, is, e) (others, also, f) = ap Ok (e ∙ (ap make (one_name law one octets labels others is also) ∙ sym f))
one_result law one make octets (Ok value) (Err error) (labels, is, e) (never, f) = absurd (never labels is.0 is.1)
one_result law one make octets (Err error) (Ok value) (never, e) (labels, is, f) = absurd (never labels is.0 is.1)
one_result law one make octets (Err error) (Err other) (never, e) (also, f) = ap Err (e ∙ sym f)

one_chain : ReadsBack → OneName → (octets : List ℕ) (result other : OptionOutcome) → ReadsChainOption octets result → ReadsChainOption octets other → result ≡ other
one_chain law one octets result other (inl (e, is)) (inl (f, also)) = is ∙ sym also
one_chain law one octets result other (inl (e, is)) (inr (some, also)) = absurd (some e)
one_chain law one octets result other (inr (some, is)) (inl (f, also)) = absurd (some f)
one_chain law one octets result other (inr (some, is)) (inr (more, also)) = one_result law one (λ labels. chain (Some labels)) octets result other is also

pub one_option : ReadsBack → OneName → OneOption
one_option law one codes.Nsid octets result other is also = is ∙ sym also
one_option law one codes.ClientSubnet octets result other is also = is ∙ sym also
one_option law one codes.Expire octets result other is also = is ∙ sym also
one_option law one codes.Cookie octets result other is also = is ∙ sym also
one_option law one codes.TcpKeepalive octets result other is also = is ∙ sym also
one_option law one codes.Padding octets result other is also = is ∙ sym also
one_option law one codes.Chain octets result other is also = one_chain law one octets result other is also
one_option law one codes.ExtendedError octets result other is also = is ∙ sym also
one_option law one codes.ReportChannel octets result other is also = one_result law one report_channel octets result other is also
one_option law one codes.ZoneVersion octets result other is also = is ∙ sym also
one_option law one (codes.Unknown code) octets result other is also = is ∙ sym also
