-- How requests went, with their codes and names (RFC 6895, section 2.3, and the IANA registry "DNS RCODEs").
use Rattle.std.specs.Prelude.{ℕ, ◌==◌, List, [], ◌∷◌, find, codes, unwrap_or}
use Rattle.dnw_base.specs.Entries.{Entry, entry}
use Rattle.dnw_message_read.specs.declared.response_code.ResponseCode.{ResponseCode}
use Rattle.dnw_message_read.specs.declared.response_code.ResponseCode.TheVariants as rc

-- the table of the responses
abbrev pub response_entry : ResponseCode → Entry
response_entry rc.NoError = entry 0 (codes "NoError")
response_entry rc.FormErr = entry 1 (codes "FormErr")
response_entry rc.ServFail = entry 2 (codes "ServFail")
response_entry rc.NXDomain = entry 3 (codes "NXDomain")
response_entry rc.NotImp = entry 4 (codes "NotImp")
response_entry rc.Refused = entry 5 (codes "Refused")
response_entry rc.YXDomain = entry 6 (codes "YXDomain")
response_entry rc.YXRRSet = entry 7 (codes "YXRRSet")
response_entry rc.NXRRSet = entry 8 (codes "NXRRSet")
response_entry rc.NotAuth = entry 9 (codes "NotAuth")
response_entry rc.NotZone = entry 10 (codes "NotZone")
response_entry rc.BADVERS = entry 16 (codes "BADVERS")
response_entry rc.BADSIG = entry 16 (codes "BADSIG")
response_entry rc.BADKEY = entry 17 (codes "BADKEY")
response_entry rc.BADTIME = entry 18 (codes "BADTIME")
response_entry rc.BADMODE = entry 19 (codes "BADMODE")
response_entry rc.BADNAME = entry 20 (codes "BADNAME")
response_entry rc.BADALG = entry 21 (codes "BADALG")
response_entry rc.BADTRUNC = entry 22 (codes "BADTRUNC")
response_entry rc.BADCOOKIE = entry 23 (codes "BADCOOKIE")
response_entry (rc.Unknown code) = entry code (codes "Unknown")

abbrev pub response_code : ResponseCode → ℕ
response_code response = (response_entry response).code

-- the responses that have a name of their own; of two with one code, that of EDNS first
abbrev pub named_responses : List ResponseCode
named_responses =
    rc.NoError ∷ rc.FormErr ∷ rc.ServFail ∷ rc.NXDomain ∷ rc.NotImp ∷ rc.Refused ∷ rc.YXDomain ∷ rc.YXRRSet ∷ rc.NXRRSet
    ∷ rc.NotAuth ∷ rc.NotZone ∷ rc.BADVERS ∷ rc.BADSIG ∷ rc.BADKEY ∷ rc.BADTIME ∷ rc.BADMODE ∷ rc.BADNAME ∷ rc.BADALG
    ∷ rc.BADTRUNC ∷ rc.BADCOOKIE ∷ []

-- the response with this code: the named one, or `Unknown` if none has it
unfoldable pub response_of_code : ℕ → ResponseCode
response_of_code code = unwrap_or (find (λ response. response_code response == code) named_responses) (rc.Unknown code)
