-- A message that was written is read.
use Rattle.std.proofs.Common.{◌≡◌, ℕ, ◌<◌, ◌^◌, List, [], ◌∷◌, length, Result, Ok, Err, IfOk, IfErr, Bor, refl, subst, rules, arith}
use Rattle.std.specs.Result.{IsOk}
use Rattle.dns_names_wire.specs.Words.{AddedQuestion, AddedRecord, AddsItem, Answers, AreLabels, BeginsMessage, BegunMessagesAreEmpty, HoldsItems, Queries}
use Rattle.dns_names_wire.specs.Words.{QuestionsAreAdded, RecordsAreAdded, WriterState, no_items, question_form, record_form, slot_of, with_question}
use Rattle.dns_names_wire.specs.declared.message_writer.Piece.TheVariants.{Octets}
use Rattle.uses.specs.Messages.{response}

-- what can't fail did not
pub is_ok : {A E : Type 0} (fails : E → Type 0) → ((error : E) → fails error → ⊥) → (r : Result A E) → IfErr r fails → IsOk r
is_ok fails never (Ok x) h = refl
is_ok fails never (Err error) h = absurd (never error h)

-- What is ensured of a value holds of the one that was returned.
pub ok_holds : {A E : Type 0} (holds : A → Type 0) (r : Result A E) (x : A) → r ≡ Ok x → IfOk r holds → holds x
ok_holds {A} {E} holds r x is h = subst (λ (o : Result A E). IfOk o holds) is h

-- A message that these calls write holds them. The buffer keeps its length, which has room for the header, as an item was added.
pub response_is_held : BegunMessagesAreEmpty → QuestionsAreAdded → RecordsAreAdded → (id : ℕ) (name asked_name owner : List (List ℕ)) (address : Bor (List ℕ))
    (old begun asked made : List ℕ) (w v u : WriterState) → id < 2 ^ 16 → length begun ≡ length old → asked_name ≡ name → owner ≡ name → AreLabels name
    → BeginsMessage id 33792 512 old w begun
    → AddsItem Queries (question_form slot_of asked_name 1 1) w begun v asked
    → AddsItem Answers (record_form slot_of owner 1 1 3600 (Octets address ∷ [])) v asked u made
    → HoldsItems id 33792 (response name address) u made
response_is_held empty question answer id name asked_name owner address old begun asked made w v u fits same asked_is owner_is labels begins asks answers =
    let asks_it = subst (λ (n : List (List ℕ)). AddsItem Queries (question_form slot_of n 1 1) w begun v asked)
    asked_is asks in
    let answers_it = subst (λ (n : List (List ℕ)). AddsItem Answers (record_form slot_of n 1 1 3600 (Octets address ∷ [])) v asked u made) owner_is answers in
    let (octets, hints, form, limit, room, new_is, after_is) = asks_it in
    let q : AddedQuestion = record { name = name; query_type = 1; class = 1 } in
    let r : AddedRecord = record { owner = name; record_type = 1; class = 1; ttl = 3600; pieces = Octets address ∷ [] } in
    let none = empty id 33792 512 old begun w fits (search rules) (omega (arith, same, limit.message.there)) begins in
    let one = question slot_of id 33792 no_items q w v begun asked none (search rules) labels asks_it in
    answer slot_of id 33792 (with_question q no_items) Answers r v u asked made one (search rules) (search rules) labels (search rules) answers_it
