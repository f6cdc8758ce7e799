-- What follows from the definition of meanings. Each is the clause of a public function, and so proved.
use Rattle.std.specs.Prelude.{◌⊎◌, Some, ◌≡◌, ℕ, true, false, Ok, Option, List}
use Rattle.dns_names_wire.specs.Words.{MessageValue, RecordValue, is_in}
use Rattle.ans_response.specs.Counted.{AreTargets, AskedValue, Targets, counted_records}
use Rattle.ans_response.specs.Meanings.{Data, NegativeValue, NoData, NoName, Referral, asked_by, whole_code, has_data, is_strictly_below, meaning}

-- The names that data are can be read, in one way.
abbrev pub TargetsAreRead : Type 0
TargetsAreRead = (target : Targets) × AreTargets target

abbrev pub OneTarget : Type 0
OneTarget = (target other : Targets) → AreTargets target → AreTargets other → (r : RecordValue) → target r ≡ other r

-- The records that count are record_seen to be the same, for each class.
abbrev pub SeesTheSame : Targets → List (List ℕ) → List RecordValue → List RecordValue → Type 0
SeesTheSame target zone records others = (asked : AskedValue) → asked.zone ≡ zone → counted_records target asked records ≡ counted_records target asked others

-- Records that are not in the zone change nothing, nor do those of another class: two messages mean the same if their headers, codes and
-- questions are the same, and the answers and authorities that count.
abbrev pub OthersChangeNothing : Type 0
OthersChangeNothing = (target : Targets) (m other : MessageValue) (name : List (List ℕ)) (code : ℕ) (zone : List (List ℕ))
    → m.header.metadata ≡ other.header.metadata → m.queries ≡ other.queries → whole_code m ≡ whole_code other
    → SeesTheSame target zone m.answers other.answers → SeesTheSame target zone m.authorities other.authorities
    → meaning target m name code zone ≡ meaning target other name code zone

-- There are data of the type at a name that has data.
abbrev pub DataAreThere : Type 0
DataAreThere = (target : Targets) (m : MessageValue) (name : List (List ℕ)) (code : ℕ) (zone last : List (List ℕ)) (asked : AskedValue)
    → asked_by m name code zone ≡ Ok asked → meaning target m name code zone ≡ Data last → has_data asked (counted_records target asked m.answers) last ≡ true

-- There are none at a name that is said to have none.
abbrev pub NoDataAreThere : Type 0
NoDataAreThere = (target : Targets) (m : MessageValue) (name : List (List ℕ)) (code : ℕ) (zone last : List (List ℕ)) (said : Option NegativeValue) (asked : AskedValue)
    → asked_by m name code zone ≡ Ok asked → meaning target m name code zone ≡ NoData last said → has_data asked (counted_records target asked m.answers) last ≡ false

-- There are none at a name that is said not to exist.
abbrev pub MissingNamesHaveNoData : Type 0
MissingNamesHaveNoData = (target : Targets) (m : MessageValue) (name : List (List ℕ)) (code : ℕ) (zone last : List (List ℕ)) (said : Option NegativeValue) (asked : AskedValue)
    → asked_by m name code zone ≡ Ok asked → meaning target m name code zone ≡ NoName last said → has_data asked (counted_records target asked m.answers) last ≡ false

-- Only a zone that is in the one that was asked, and that the name is in, says that there is nothing.
abbrev pub ZonesDenyTheirNames : Type 0
ZonesDenyTheirNames = (target : Targets) (m : MessageValue) (name : List (List ℕ)) (code : ℕ) (zone last : List (List ℕ)) (said : NegativeValue)
    → (meaning target m name code zone ≡ NoData last (Some said)) ⊎ (meaning target m name code zone ≡ NoName last (Some said))
    → (is_in zone said.zone ≡ true) × (is_in said.zone last ≡ true)

-- A referral leads to a name below the zone, never to it, up or sideways.
abbrev pub ReferralsLeadDown : Type 0
ReferralsLeadDown = (target : Targets) (m : MessageValue) (name : List (List ℕ)) (code : ℕ) (zone cut : List (List ℕ))
    → meaning target m name code zone ≡ Referral cut → is_strictly_below zone cut ≡ true
