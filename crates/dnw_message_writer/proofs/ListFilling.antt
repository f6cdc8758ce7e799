-- Records of a list that are added in turn, as many as there is room for.
use Rattle.std.proofs.Common.{◌≡◌, ◌≢◌, ◌⊎◌, ◌<◌, ◌≤◌, ℕ, List, length, refl, sym, ap, ◌∙◌, subst, inl, inr, arith}
use Rattle.dnw_base.specs.Decoder.{Decoder}
use Rattle.dnw_message_writer.specs.declared.state.WriterState.{WriterState}
use Rattle.dnw_message_writer.specs.ListResults.{at_offset}
use Rattle.dnw_message_writer.specs.declared.list.ListError.{ListError}
use Rattle.dnw_message_writer.specs.ListFills.{AddsInTurn, AddsNext, FailsToAddNext, FailsToFill, FillsFrom, none, one_more}
use Rattle.dnw_message_writer.specs.ListResults.{StaysAsItWas}
use Rattle.dnw_message_writer.proofs.ListItems.{IsOnward, record_onward}

-- Records are added from an offset on, and either the offset has moved or nothing has changed.
pub record Filled (list : List ℕ) (start : ℕ) (w : WriterState) (m : List ℕ) (d : Decoder) (v : WriterState) (n : List ℕ) : Type 0 where
  pub adds : AddsInTurn (at_offset list start) w m d v n
  pub same : d.bytes ≡ list
  pub inside : d.index ≤ length list
  pub moved : (start < d.index) ⊎ ((d ≡ at_offset list start) × (v ≡ w) × (n ≡ m))

pub next_onward : {d : Decoder} {w : WriterState} {m : List ℕ} {after : Decoder} {v : WriterState} {n : List ℕ} → AddsNext d w m after v n → IsOnward d after
next_onward (octet, s, x, is, takes, adds) = record_onward takes.1

pub filled_none : (list : List ℕ) (start : ℕ) (w : WriterState) (m : List ℕ) (d : Decoder) → d ≡ at_offset list start → start ≤ length list
    → Filled list start w m d w m
filled_none list start w m d is inside =
    subst (λ e. Filled list start w m e w m) (sym is) (record { adds = none; same = refl; inside = inside; moved = inr (refl, refl, refl) })

module _ {list : List ℕ} {start : ℕ} {w : WriterState} {m : List ℕ} {d : Decoder} {v : WriterState} {n : List ℕ} (g : Filled list start w m d v n) where
  -- one more is added
  pub filled_on : (after : Decoder) (u : WriterState) (o : List ℕ) → AddsNext d v n after u o → Filled list start w m after u o
  filled_on after u o next =
      let onward = next_onward next in
      let further = onward.further in
      let inside = onward.inside in
      let same = onward.same ∙ g.same in
      let past : start < after.index = elim g.moved [
        | inl before ↦ omega (arith, before, further)
        | inr (is, state, message) ↦ omega (arith, ap (λ (e : Decoder). e.index) is, further)
      ] in
      record { adds = one_more d after v u n o g.adds next; same = same; inside = omega (arith, inside, ap length same); moved = inl past }

  module _ (failure : ListError) (u : WriterState) (o : List ℕ) (fails : FailsToAddNext d v n failure) (stays : StaysAsItWas v n u o) where
    -- the next one is not
    pub filled_some : (next : ℕ) → next ≡ d.index → next ≢ start → FillsFrom list start w m u o next
    filled_some next is other =
        let past : start < next = elim g.moved [
          | inl before ↦ omega (arith, before, is)
          | inr (d_is, state, message) ↦ absurd (other (is ∙ ap (λ (e : Decoder). e.index) d_is))
        ] in
        subst (λ z. FillsFrom list start w m z o next) (sym stays.0)
        (record { d = d; whole = n; adds = g.adds; same = stays.1; next_is = is; ends = inr (past, failure, fails) })

    -- the first is not
    pub filled_fails : d.index ≡ start → FailsToFill list start w m failure × StaysAsItWas w m u o
    filled_fails still = elim g.moved [
      | inl before ↦ absurd (omega (arith, before, still))
      | inr (d_is, v_is, n_is) ↦ (inr (rw (d_is, v_is, n_is) at fails), rw (v_is, n_is) at stays)
    ]
